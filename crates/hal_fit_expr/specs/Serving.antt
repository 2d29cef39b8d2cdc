-- What an image has for the expressions that stand in one of its blocks.
use Rattle.std.specs.Prelude.{◌≡◌, ℕ, nat_lt, length, true, false, List, [], ◌∷◌, Some, None, slice_get}
use Rattle.hal_grammar.specs.Leaves.{Naming}
use Rattle.hal_meaning.specs.Bodies.{Body}
use Rattle.hal_meaning.specs.Calls.{Parameter, parameter_named, is_function, zero_of}
use Rattle.hal_meaning.specs.Elements.{kinds_of}
use Rattle.hal_meaning.specs.Expressions.{inputs_at}
use Rattle.hal_meaning.specs.Places.{Place}
use Rattle.hal_meaning.specs.ReportNames.{first_place}
use Rattle.hal_meaning.specs.Sets.{Set, body_at}
use Rattle.hal_meaning.specs.Variables.{is_whole}
use Rattle.hal_code.specs.declared.image.ImageParts.{ImageParts}
use Rattle.hal_code.specs.declared.instr.Instr.TheVariants as instr
use Rattle.hal_code.specs.declared.row.Block.{Block}
use Rattle.hal_code.specs.Blocks.{is_common, block_places}
use Rattle.hal_code.specs.Controlling as machine
use Rattle.hal_code.specs.Memory.{own_memory, lies_from}
use Rattle.hal_code.specs.Operands.{events_of, may_call}
use Rattle.hal_code.specs.Right.{stands_right}
use Rattle.hal_agreement.specs.Codes.{Code}
use Rattle.hal_fitting.specs.Fitting.{Ground}
use Rattle.hal_fit_expr.specs.Uses.{Uses}

-- the own places of a whole parameter are there, with the kinds of its elements
pub record HasPlaces (image : ImageParts) (g : Ground) (places : List Place) (p : Parameter) : Type 0 where
  pub there : nat_lt (first_place places p.number) (length (block_places image g.block)) ≡ true
  pub kinds : lies_from (own_memory (block_places image g.block)) (first_place places p.number) (kinds_of p.shape) ≡ true

-- the same of the whole ones among the parameters of a unit with these names
abbrev pub HavePlaces : ImageParts → Ground → Set → List Place → ℕ → List Naming → Type 0
HavePlaces image g s places unit [] = Unit {0}
HavePlaces image g s places unit (name ∷ names) =
    (is_whole (parameter_named s unit name).shape ≡ true → HasPlaces image g places (parameter_named s unit name)) × HavePlaces image g s places unit names

-- the block of a unit may be called, and gives what the unit does
pub record MayCall (image : ImageParts) (g : Ground) (body : Body) (number : ℕ) (row : Block) : Type 0 where
  pub may : may_call image g.block g.number number ≡ true
  pub stands : stands_right g.out g.inside (instr.Call number) ≡ true
  pub function : is_function body.head ≡ true → machine.zero_of row.result ≡ Some (zero_of body.head)
  pub procedure : is_function body.head ≡ false → machine.zero_of row.result ≡ None

-- an image has what expressions use that stand in a block of a process: its events, the units that may be called, and the places of their parameters
pub record Serves (code : Code) (g : Ground) (s : Set) (places : List Place) (u : Uses) : Type 0 where
  pub own : is_common g.block ≡ false
  pub asks : u.asks ≡ true → g.inside ≡ false
  pub events : events_of code.image ≡ u.events
  pub calls : (unit number : ℕ) (body : Body) (row : Block) → u.calls unit ≡ true → code.block unit ≡ Some number → body_at s unit ≡ Some body → slice_get code.image.blocks number ≡ Some row
      → MayCall code.image g body number row
  pub wholes : (unit : ℕ) → u.calls unit ≡ true → HavePlaces code.image g s places unit (inputs_at s unit)
