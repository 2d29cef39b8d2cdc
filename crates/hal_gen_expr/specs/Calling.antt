-- The code of calls behind their arguments, as the program emits it.
use Rattle.std.specs.Prelude.{◌≡◌, ℕ, Bool, false, List, [], ◌∷◌, ◌++◌, Option, Some, None, Result, Ok, Err, if◌then◌else◌}
use Rattle.std.specs.Option.{option_map}
use Rattle.hal_base.specs.declared.refusal.Place.{Place}
use Rattle.hal_grammar.specs.Leaves.{Naming}
use Rattle.hal_grammar.specs.Expressions.{Expression, Expressions, Reference}
use Rattle.hal_grammar.specs.Units.{Head}
use Rattle.hal_code.specs.declared.instr.Instr.{Instr}
use Rattle.hal_code.specs.declared.instr.Instr.TheVariants as instr
use Rattle.hal_meaning.specs.Bodies.{Body}
use Rattle.hal_meaning.specs.Calls.{parameter_named, inputs_of, outputs_of, is_function}
use Rattle.hal_meaning.specs.Expressions.{inputs_at, outputs_at}
use Rattle.hal_meaning.specs.Places.{InPlaces}
use Rattle.hal_meaning.specs.ReportNames.{first_place}
use Rattle.hal_meaning.specs.Sets.{body_at}
use Rattle.hal_meaning.specs.Variables.{is_whole}
use Rattle.hal_agreement.specs.Sites.{Site}
use Rattle.hal_gen_expr.specs.Emitting.{Emitted, onwards, emit}
use Rattle.hal_gen_expr.specs.ExpressionCode.{passed_code, behind_arguments, expression_code, arguments_code, whole_code, area_code}
use Rattle.hal_gen_expr.specs.declared.uncoded.Uncoded.{Uncoded}
use Rattle.hal_gen_expr.specs.declared.uncoded.Uncoded.TheVariants as uncoded
use Rattle.hal_gen_expr.specs.declared.parameters.Parameter as rust
use Rattle.hal_gen_expr.specs.Leaves.{address_of, bound_of, stored_of, same_form, call_of}
use Rattle.hal_gen_expr.specs.Numbering.{Numbering, below, most, block_number}
use Rattle.hal_gen_expr.specs.Shapes.{runs_of}

-- BIND of an ASSIGN parameter, as the program knows it, COPY of a whole one, and the store of any
abbrev pub bound_by : Site → rust.Parameter → Option (List Instr)
bound_by site one = option_map (λ at. instr.Bind at ∷ []) (below most (first_place site.places one.declared))

abbrev pub copied_by : Site → rust.Parameter → Option (List Instr)
copied_by site one = option_map (λ at. instr.Copy at ∷ []) (below most (first_place site.places one.declared))

abbrev pub stored_by : Numbering → Site → rust.Parameter → Option (List Instr)
stored_by n site one = if one.whole then copied_by site one else option_map (λ i. i ∷ instr.Keep ∷ []) (address_of n site [] one.declared InPlaces 0 one.kind)

-- BIND of an ASSIGN parameter
abbrev pub bind_code : Site → Place → ℕ → List Instr → Naming → Emitted
bind_code site place unit before name = emit before place (bound_of site (parameter_named site.set unit name))

-- those of parameters, from the last to the first
unfoldable pub binds_code : Site → Place → ℕ → List Instr → List Naming → Emitted
binds_code site place unit before [] = Ok before
binds_code site place unit before (name ∷ names) = onwards (binds_code site place unit before names) (λ middle. bind_code site place unit middle name)

-- the store of an argument in a parameter
unfoldable pub store_code : Numbering → Site → Place → ℕ → List Instr → Naming → Emitted
store_code n site place unit before name = emit before place (stored_of n site (parameter_named site.set unit name))

-- those of parameters, from the last to the first
unfoldable pub stores_code : Numbering → Site → Place → ℕ → List Instr → List Naming → Emitted
stores_code n site place unit before [] = Ok before
stores_code n site place unit before (name ∷ names) = onwards (stores_code n site place unit before names) (λ middle. store_code n site place unit middle name)

-- whether a unit with this head is called so: a FUNCTION for its value, a PROCEDURE for none
abbrev pub is_called_so : Bool → Head → Bool
is_called_so function head = same_form function (is_function head)

abbrev pub numbered_call : Numbering → Site → Place → List Instr → Body → Option ℕ → Emitted
numbered_call n site place before body None = Err place
numbered_call n site place before body (Some number) =
    onwards (binds_code site place body.number before (outputs_of body.head))
    (λ begun. onwards (stores_code n site place body.number begun (inputs_of body.head)) (λ middle. Ok (middle ++ (instr.Call number ∷ []))))

abbrev pub call_code_to : Numbering → Site → Place → List Instr → Bool → ℕ → Option Body → Emitted
call_code_to n site place before function unit None = Err place
call_code_to n site place before function unit (Some body) = if is_called_so function body.head then numbered_call n site place before body (block_number n unit) else Err place

abbrev pub call_code : Numbering → Site → Place → List Instr → Bool → ℕ → Emitted
call_code n site place before function unit = call_code_to n site place before function unit (body_at site.set unit)

-- whether something has code, or the place of the phrase that has none; nothing is said where memory is wanting
abbrev pub IsCoded : {T : Type 0} → Option (List Instr) → Place → Result T Uncoded → Type 0
IsCoded o place (Ok done) = (is : List Instr) × (o ≡ Some is)
IsCoded o place (Err (uncoded.At at)) = (o ≡ None) × (at ≡ place)
IsCoded o place (Err (uncoded.Memory error)) = Unit {0}

-- an argument for the whole parameter of this name, and for any
abbrev pub whole_argument_code : Numbering → Site → List Instr → Place → ℕ → Naming → Expression → Emitted
whole_argument_code n site before place unit name tree = whole_code n site before place (runs_of (parameter_named site.set unit name).shape) tree

abbrev pub argument_code : Numbering → Site → List Instr → Place → ℕ → Naming → Expression → Emitted
argument_code n site before place unit name tree =
    passed_code (is_whole (parameter_named site.set unit name).shape) (whole_argument_code n site before place unit name tree) (expression_code n site before tree)

-- an ASSIGN argument for the parameter of this name: WHOLE of what its reference chooses
unfoldable pub spot_code : Numbering → Site → List Instr → ℕ → Naming → Reference → Emitted
spot_code n site before unit name receiver = area_code n site before (runs_of (parameter_named site.set unit name).shape) receiver

-- those for ASSIGN parameters, from left to right
abbrev pub spots_code : Numbering → Site → List Instr → Place → ℕ → List Naming → List Reference → Emitted
spots_code n site before place unit [] [] = Ok before
spots_code n site before place unit (name ∷ names) (receiver ∷ receivers) =
    onwards (spot_code n site before unit name receiver) (λ middle. spots_code n site middle place unit names receivers)
spots_code n site before place unit names receivers = Err place

-- the arguments of CALL of the PROCEDURE with this number, and the whole of it
abbrev pub passed_to_code : Numbering → Site → List Instr → Place → Expressions → List Reference → ℕ → Emitted
passed_to_code n site before place arguments receivers unit =
    onwards (arguments_code n site before place unit (inputs_at site.set unit) arguments) (λ middle. spots_code n site middle place unit (outputs_at site.set unit) receivers)

abbrev pub called_code : Numbering → Site → List Instr → Place → Expressions → List Reference → ℕ → Emitted
called_code n site before place arguments receivers unit = behind_arguments place (passed_to_code n site before place arguments receivers unit) (call_of n site false unit)
