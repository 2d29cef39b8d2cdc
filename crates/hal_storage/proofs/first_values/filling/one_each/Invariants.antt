use Rattle.std.proofs.Common.{◌≡◌, ◌++◌, drop}
use Rattle.hal_meaning.specs.InitialValues.{one_each}
use Rattle.hal_storage.proofs.first_values.filling.one_each.Given as goal

abbrev pub invariant-loop-kind : goal.invariant-loop-kind
invariant-loop-kind l =
    l.values.items ++ one_each (drop l.kind-index l.kinds) l.rest ≡ one_each l.kinds l.given
