use Rattle.std.proofs.Common.{◌≡◌, ◌++◌, drop}
use Rattle.hal_storage.specs.first_values.Filling.{one_for_all}
use Rattle.hal_storage.proofs.first_values.filling.one_for_all.Given as goal

abbrev pub invariant-loop-kind : goal.invariant-loop-kind
invariant-loop-kind l =
    l.values.items ++ one_for_all l.value (drop l.kind-index l.kinds) ≡ one_for_all l.value l.kinds
