-- Calls of blocks: parameters, turns, and what comes back.
use Rattle.std.specs.Prelude.{ℕ, zero, suc, ◌==◌, Bool, true, false, ◌&&◌, List, [], ◌∷◌, ◌++◌, take, drop, pos, Some, None, slice_get, slice_set, if◌then◌else◌}
use Rattle.std.specs.Option.{option_and_then}
use Rattle.hal_grammar.specs.Leaves.{Naming}
use Rattle.hal_grammar.specs.Declarations as declarations
use Rattle.hal_grammar.specs.Declarations.{BooleanKind, BitKind, CharacterKind}
use Rattle.hal_grammar.specs.Units.{Head, Procedure, Function, Returns, NoKind, HasKind}
use Rattle.hal_phrases.specs.Phrases.{Node, Phrase, OfItem}
use Rattle.hal_names.specs.declared.key.Space.TheVariants as space
use Rattle.hal_names.specs.Keys.{key, own}
use Rattle.hal_operations.specs.declared.operation.Op1.TheVariants as op1
use Rattle.hal_operations.specs.Mended.{mended_of_one}
use Rattle.hal_values.specs.declared.environment.Entry.{Entry}
use Rattle.hal_values.specs.declared.value.Value.{Value}
use Rattle.hal_values.specs.declared.value.Value.TheVariants as value
use Rattle.hal_states.specs.Spots.{Spot, Own, Held, Holds, Refers}
use Rattle.hal_meaning.specs.Elements.{Shape, shape_of, kinds_of}
use Rattle.hal_meaning.specs.Bodies.{Body}
use Rattle.hal_meaning.specs.Places.{Place}
use Rattle.hal_meaning.specs.ReportNames.{first_place}
use Rattle.hal_meaning.specs.Sets.{Set, body_at}
use Rattle.hal_meaning.specs.States.{State, with_places, with_entries, Evaluated, Gives, Asks, Caught, Restarts, Lost, bind, Flow, Normal, Returned}
use Rattle.hal_meaning.specs.Access.{Here, all_entered, turn, store, copy}
use Rattle.hal_meaning.specs.Variables.{kind_of_first}
use Rattle.hal_meaning.specs.Tasks.{Meaning, Entering}

-- a parameter: where it lies, and its shape
pub record Parameter : Type 0 where
  pub number : ℕ
  pub shape : Shape

abbrev pub inputs_of : Head → List Naming
inputs_of (Procedure place inputs outputs mode) = inputs
inputs_of (Function place inputs returns mode) = inputs
inputs_of other = []

abbrev pub outputs_of : Head → List Naming
outputs_of (Procedure place inputs outputs mode) = outputs
outputs_of other = []

abbrev pub parameter_shape : Set → Phrase → Node → Shape
parameter_shape s p (OfItem common item) = shape_of s.phrases s.constants p common item
parameter_shape s p other = record { copies = None; components = [] }

-- the parameter of this name of the unit with this number
abbrev pub parameter_named : Set → ℕ → Naming → Parameter
parameter_named s unit name =
    elim (option_and_then (slice_get s.phrases) (own s.phrases (key space.Declared unit name.name))) [
      | None ↦ record { number = 0; shape = record { copies = None; components = [] } }
      | Some p ↦ record { number = p.number; shape = parameter_shape s p p.node }
    ]

-- what an argument gives: a value, or where several elements begin
pub data Passed : Type 0 where
  Plain : (value : Value) → Passed
  Whole : (from : Spot) → Passed

-- the unit that is called, in its own block
abbrev pub entering : Here → List Entry → Body → Here
entering h entries b =
    record { set = h.set; process = h.process; places = h.places; unit = b.number; block = b.number; marks = b.marks; body = b.statements; update = false; first = 0; below = all_entered h entries }

-- the references of ASSIGN parameters are kept, from the last to the first
abbrev pub bound : Here → ℕ → List Naming → List Spot → List Held → List Held
bound h unit (name ∷ names) (at ∷ spots) places =
    slice_set (bound h unit names spots places) (first_place h.places (parameter_named h.set unit name).number) (Refers at)
bound h unit names spots places = places

-- an argument is stored in its parameter
abbrev pub stored_parameter : Here → Parameter → Passed → State → Evaluated (Unit {0})
stored_parameter h p (Plain v) st = store h (kind_of_first p.shape.components) (Own (first_place h.places p.number)) v st
stored_parameter h p (Whole from) st = copy h (kinds_of p.shape) from (Own (first_place h.places p.number)) st

-- arguments are stored from the last to the first
abbrev pub stored_parameters : Here → ℕ → List Naming → List Passed → State → Evaluated (Unit {0})
stored_parameters h unit (name ∷ names) (passed ∷ more) st =
    bind (stored_parameters h unit names more st) (λ done after. stored_parameter h (parameter_named h.set unit name) passed after)
stored_parameters h unit names more st = Gives tt st

-- the own places of AUTOMATIC data of the unit with this number have their first values again
abbrev pub is_automatic_in : Set → ℕ → Place → Bool
is_automatic_in s unit place = place.automatic && elim (slice_get s.phrases place.owner) [ None ↦ false | Some p ↦ p.around.home == unit ]

abbrev pub begun : Set → ℕ → List Place → List Held → List Held
begun s unit [] held = held
begun s unit (place ∷ places) held = (if is_automatic_in s unit place then Holds place.initial ∷ [] else take 1 held) ++ begun s unit places (drop 1 held)

-- the result of a type that nothing was returned for
abbrev pub zero_of_type : declarations.Kind → Value
zero_of_type (BooleanKind place) = value.Bits 1 0
zero_of_type (BitKind place size) = value.Bits 1 0
zero_of_type (CharacterKind place size) = value.Text []
zero_of_type other = value.Int (pos 0)

abbrev pub zero_of_returns : Returns → Value
zero_of_returns NoKind = value.Int (pos 0)
zero_of_returns (HasKind kind precision) = zero_of_type kind

-- the zero value of a FUNCTION
abbrev pub zero_of : Head → Value
zero_of (Function place inputs returns mode) = zero_of_returns returns
zero_of other = value.Int (pos 0)

-- the value of a call that ended so
abbrev pub result_of : Head → Flow → Value
result_of head (Returned (Some v)) = v
result_of head other = zero_of head

-- what a CHARACTER FUNCTION returns is a text: of an integer its decimal text
abbrev pub returned_as : declarations.Kind → Value → Value
returned_as (CharacterKind place size) v = mended_of_one op1.Character v
returned_as kind v = v

abbrev pub returned_by : Head → Value → Value
returned_by (Function place inputs (HasKind kind precision) mode) v = returned_as kind v
returned_by other v = v

abbrev pub is_function : Head → Bool
is_function (Function place inputs returns mode) = true
is_function other = false

-- a block that was called is left: what is caught in an earlier one goes on there. Nothing that is caught in the block itself comes out of it
abbrev pub left_with : List Entry → Evaluated Flow → Evaluated Flow
left_with entries (Gives flow after) = Gives flow (with_entries entries after)
left_with entries (Asks request keeps in_mode) = Asks request keeps in_mode
left_with entries (Caught zero place after) = Gives Normal (with_entries entries after)
left_with entries (Caught (suc level) place after) = Caught level place (with_entries entries after)
left_with entries (Restarts keeps left) = Restarts keeps left
left_with entries Lost = Lost

-- the block is entered, where its turn began
abbrev pub run_call : Meaning → Here → Body → Bool → State → Evaluated Value
run_call rec h b false st = Gives (zero_of b.head) st
run_call rec h b true st =
    bind (left_with st.entries (rec (Entering (entering h st.entries b)) (with_places (begun h.set b.number h.places st.kept.places) (with_entries [] st))))
    (λ flow after. Gives (result_of b.head flow) after)

-- a call once its arguments and the spots of its ASSIGN arguments are there: the references are kept, then the arguments are stored, and then a turn begins
abbrev pub made_call : Meaning → Here → Body → List Passed → List Spot → State → Evaluated Value
made_call rec h b passed spots st =
    bind (stored_parameters h b.number (inputs_of b.head) passed (with_places (bound h b.number (outputs_of b.head) spots st.kept.places) st))
    (λ stored after. bind (turn h after) (λ made begins. run_call rec h b made begins))

-- the same of the unit with this number
abbrev pub call : Meaning → Here → ℕ → List Passed → List Spot → State → Evaluated Value
call rec h unit passed spots st = elim (body_at h.set unit) [ None ↦ Gives (value.Int (pos 0)) st | Some b ↦ made_call rec h b passed spots st ]
