use Rattle.std.proofs.Common.{◌≡◌, map, drop}
use Rattle.hal_tree.specs.SeenDeclarations.{seen_part}
use Rattle.hal_attributes.specs.Levels.{level_fault}
use Rattle.hal_attributes.proofs.levels.level_fault.Given as goal

abbrev pub invariant-loop-part : goal.invariant-loop-part
invariant-loop-part l = level_fault l.before (map seen_part (drop l.part-index l.parts)) ≡ level_fault l.fn.first (map seen_part l.parts)
