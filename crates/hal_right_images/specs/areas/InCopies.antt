-- Where the cells of a part with parts stand in the copies of its structure.
use Rattle.std.specs.Prelude.{◌≡◌, ◌+◌, ℕ, List, flat_map, Some, slice_get}
use Rattle.hal_values.specs.declared.value.Kind.{Kind}
use Rattle.hal_meaning.specs.Elements.{kinds_of_component, offset}
use Rattle.hal_gen_expr.specs.Led.{Led}

-- these cells stand in a copy where names of parts lead
abbrev pub StandInCopy : Led → List Kind → Type 0
StandInCopy l kinds = (j : ℕ) (k : Kind) → slice_get kinds j ≡ Some k → slice_get (flat_map kinds_of_component l.shape.components) (offset l.path l.shape.components + j) ≡ Some k

-- there are no cells before them in a copy, and all cells of the copy are these
abbrev pub Fills : Led → List Kind → Type 0
Fills l kinds = (offset l.path l.shape.components ≡ 0) × (flat_map kinds_of_component l.shape.components ≡ kinds)
