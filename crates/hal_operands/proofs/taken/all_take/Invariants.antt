use Rattle.std.proofs.Common.{◌≡◌, map, drop}
use Rattle.hal_tree.specs.SeenExpressions.{seen_reference}
use Rattle.hal_names.specs.SeenNames.{seen_names}
use Rattle.hal_operands.specs.Taken.{all_take}
use Rattle.hal_operands.proofs.taken.all_take.Given as goal

abbrev pub invariant-loop-receiver : goal.invariant-loop-receiver
invariant-loop-receiver l =
    all_take (seen_names l.names) l.block l.class (map seen_reference (drop l.receiver-index l.receivers)) ≡ all_take (seen_names l.names) l.block l.class (map seen_reference l.receivers)
