-- What is left to be known of the rows of a linked image, behind what its set and the tables of the set say.
use Rattle.std.specs.Prelude.{◌≡◌, ℕ, nat_lt, length, true, None}
use Rattle.hal_meaning.specs.Places.{Place}
use Rattle.hal_meaning.specs.Runs.{places_of_process}
use Rattle.hal_meaning.specs.Sets.{Set}
use Rattle.hal_code.specs.declared.image.ImageParts.{ImageParts}
use Rattle.hal_code.specs.Right.{shapes_right, views_right, names_right}
use Rattle.hal_link.specs.Shapes.{Shapes, reference_shape}
use Rattle.hal_fit_calls.specs.Each.{Each}

-- a reference is to a shape that is there
abbrev pub IsNumbered : Set → Shapes → Place → Type 0
IsNumbered s shapes one = one.kind ≡ None → nat_lt (reference_shape s shapes one.owner) (length shapes) ≡ true

pub record RowsLeft (s : Set) (image : ImageParts) : Type 0 where
  -- linking gives the shape of each ASSIGN parameter a number, where it has elements
  pub references : (p : ℕ) → Each (IsNumbered s image.shapes) (places_of_process s p)
  -- shapes have kinds in their ranges; rule 951 of an image: they have few cells
  pub shapes : shapes_right image ≡ true
  -- views lie in memory; rule 951 of an image: they give few cells
  pub views : views_right image ≡ true
  -- the elements of the names of the report are there, and are few
  pub names : names_right image ≡ true
