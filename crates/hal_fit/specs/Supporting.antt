-- What an image has for the statements that stand in one of its blocks.
use Rattle.std.specs.Prelude.{◌≡◌, ℕ, Bool, true, List, [], ◌∷◌, Some, slice_get}
use Rattle.hal_grammar.specs.Leaves.{Naming}
use Rattle.hal_meaning.specs.Calls.{Parameter, parameter_named}
use Rattle.hal_meaning.specs.Elements.{kinds_of}
use Rattle.hal_meaning.specs.Expressions.{outputs_at}
use Rattle.hal_meaning.specs.Places.{Place}
use Rattle.hal_meaning.specs.ReportNames.{first_place}
use Rattle.hal_meaning.specs.Sets.{Set}
use Rattle.hal_code.specs.declared.image.ImageParts.{ImageParts}
use Rattle.hal_code.specs.declared.row.Block.{Block}
use Rattle.hal_code.specs.Blocks.{block_places}
use Rattle.hal_code.specs.Images as images
use Rattle.hal_code.specs.Memory.{referred_shape}
use Rattle.hal_code.specs.Operands.{is_known}
use Rattle.hal_agreement.specs.Codes.{Code}
use Rattle.hal_fitting.specs.Fitting.{Ground}
use Rattle.hal_fit_expr.specs.Uses.{Uses}
use Rattle.hal_fit_expr.specs.Serving.{Serves}

-- the same ground inside of UPDATE blocks or outside
abbrev pub at_inside : Bool → Ground → Ground
at_inside inside g = record { out = g.out; block = g.block; number = g.number; inside = inside }

-- the own place of an ASSIGN parameter refers to cells of the one shape that has the kinds of its elements
abbrev pub RefersTo : ImageParts → Block → List Place → Parameter → Type 0
RefersTo image block places p = (shape : ℕ) → images.kinds_of image shape ≡ kinds_of p.shape → referred_shape (block_places image block) (first_place places p.number) ≡ Some shape

-- the same of the parameters of a unit with these names
abbrev pub ReferTo : ImageParts → Block → Set → List Place → ℕ → List Naming → Type 0
ReferTo image block s places unit [] = Unit {0}
ReferTo image block s places unit (name ∷ names) = RefersTo image block places (parameter_named s unit name) × ReferTo image block s places unit names

-- an image has what statements use that stand in a block of a process, outside of UPDATE blocks and inside: what their expressions do, what blocks give that they
-- call, and the places of ASSIGN parameters; and its tables are the set's
pub record Supports (code : Code) (g : Ground) (s : Set) (places : List Place) (u : Bool → Uses) : Type 0 where
  pub serves : (inside : Bool) → Serves code (at_inside inside g) s places (u inside)
  pub results : (number : ℕ) (row : Block) → slice_get code.image.blocks number ≡ Some row → is_known row.result ≡ true
  pub references : (inside : Bool) (unit : ℕ) → (u inside).calls unit ≡ true → ReferTo code.image g.block s places unit (outputs_at s unit)
  pub tables : images.tables_of code.image ≡ s.tables
