use Rattle.std.proofs.Common.{◌≡◌, map, drop}
use Rattle.hal_tree.specs.SeenUnits.{seen_preface}
use Rattle.hal_names.specs.Means.{included_before}
use Rattle.hal_names.specs.SeenNames.{seen_names}
use Rattle.hal_names.proofs.means.included_before.Given as goal

abbrev pub invariant-loop-preface : goal.invariant-loop-preface
invariant-loop-preface l =
    included_before (seen_names l.names) (map seen_preface (drop l.preface-index l.prefaces)) l.left l.name ≡ included_before (seen_names l.names) (map seen_preface l.prefaces) l.count l.name
