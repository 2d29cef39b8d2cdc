use Rattle.std.proofs.Common.{◌≡◌, map, drop}
use Rattle.std.specs.Option.{option_map}
use Rattle.hal_tree.specs.SeenLeaves.{seen_name}
use Rattle.hal_agreement.specs.PlacedStatements as placed
use Rattle.hal_meaning.specs.Statements as meaning
use Rattle.hal_gen.specs.SeenExits.{seen_opened}
use Rattle.hal_gen.proofs.exits.exit_of.Given as goal

abbrev pub invariant-loop-group : goal.invariant-loop-group
invariant-loop-group l =
    placed.exit_of (map seen_opened (drop l.group-index l.groups)) (meaning.label_name (option_map seen_name l.label)) ≡ placed.exit_of (map seen_opened l.groups) (meaning.label_name (option_map seen_name l.label))
