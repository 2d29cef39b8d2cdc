-- Slices as lists.
use Rattle.std.specs.Prelude.{List, map}
use Rattle.std.specs.Borrow.{Bor}
use Rattle.hal_values.specs.declared.value.Value.{Value}

-- what slices of values hold
abbrev pub lists : List (Bor (List Value)) → List (List Value)
lists slices = map (λ (slice : Bor (List Value)). slice.now) slices
