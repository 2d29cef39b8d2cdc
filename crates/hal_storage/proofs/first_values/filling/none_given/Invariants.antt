use Rattle.std.proofs.Common.{◌≡◌, ◌++◌, drop}
use Rattle.hal_storage.specs.first_values.Filling.{none_given}
use Rattle.hal_storage.proofs.first_values.filling.none_given.Given as goal

abbrev pub invariant-loop-kind : goal.invariant-loop-kind
invariant-loop-kind l =
    l.values.items ++ none_given (drop l.kind-index l.kinds) ≡ none_given l.kinds
