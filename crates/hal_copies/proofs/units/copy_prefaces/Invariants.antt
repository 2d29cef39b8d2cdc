use Rattle.std.proofs.Common.{◌≡◌, map, take}
use Rattle.hal_tree.specs.SeenUnits.{seen_preface}
use Rattle.hal_copies.proofs.units.copy_prefaces.Given as goal

abbrev pub invariant-loop-tree : goal.invariant-loop-tree
invariant-loop-tree l = map seen_preface l.copied.items ≡ map seen_preface (take l.tree-index l.trees)
