-- The code of names: None where there is none yet.
use Rattle.std.specs.Prelude.{ℕ, Bool, true, false, not, ◌&&◌, ◌||◌, List, [], ◌∷◌, ◌++◌, Option, Some, None, if◌then◌else◌}
use Rattle.std.specs.Option.{option_map, option_and_then, is_some}
use Rattle.hal_grammar.specs.Leaves.{Naming}
use Rattle.hal_scope.specs.declared.builtin.Builtin.{Builtin}
use Rattle.hal_scope.specs.declared.builtin.Builtin.TheVariants as builtin
use Rattle.hal_values.specs.declared.value.Kind.{Kind}
use Rattle.hal_values.specs.declared.value.Kind.TheVariants as kind
use Rattle.hal_code.specs.declared.instr.Instr.{Instr}
use Rattle.hal_code.specs.declared.instr.Instr.TheVariants as instr
use Rattle.hal_code.specs.declared.row.Base.{Base}
use Rattle.hal_code.specs.declared.row.Dimension.{Dimension}
use Rattle.hal_meaning.specs.Bodies.{Body}
use Rattle.hal_meaning.specs.Calls.{Parameter, parameter_named, inputs_of, outputs_of, is_function}
use Rattle.hal_meaning.specs.Elements.{Component, Shape, chosen, offset}
use Rattle.hal_meaning.specs.Expressions.{inputs_at}
use Rattle.hal_meaning.specs.Places.{Storing, InPlaces}
use Rattle.hal_meaning.specs.Sets.{body_at}
use Rattle.hal_meaning.specs.ReportNames.{first_place}
use Rattle.hal_meaning.specs.Variables.{kind_of_first, is_whole}
use Rattle.hal_agreement.specs.PlacedExpressions.{pushes}
use Rattle.hal_agreement.specs.Sites.{Site}
use Rattle.hal_gen_expr.specs.Numbering.{Numbering, below, most, base_of, view_number, area_number, block_number}
use Rattle.hal_storage.specs.referents.Referents.{Referent, DataOf, ConstantOf, EventOf, BlockOf, BuiltinOf, Unmeant}

abbrev pub is_nil : {X : Type 0} → List X → Bool
is_nil [] = true
is_nil (x ∷ xs) = false

-- whether a component is one element
abbrev pub is_one : List Component → Bool
is_one (c ∷ []) = is_nil c.sizes
is_one other = false

-- CELL of the elements in these dimensions, of which the first one lies there
abbrev pub address_of : Numbering → Site → List Dimension → ℕ → Storing → ℕ → Kind → Option Instr
address_of n site rows k stored at kind = option_and_then (λ from. option_map instr.Cell (view_number n rows kind from)) (base_of site k at stored)

-- WHOLE of the cells of the shape with this number in these dimensions, of which the first one lies there
abbrev pub area_of : Numbering → Site → List Dimension → ℕ → ℕ → Storing → ℕ → Option Instr
area_of n site rows shape k stored at = option_and_then (λ from. option_map instr.Whole (area_number n rows shape from)) (base_of site k at stored)

-- the number of the view of an own place of kind DOUBLE, before which so many lie of those of the phrase with this number
abbrev pub place_view : Numbering → Site → ℕ → ℕ → Option ℕ
place_view n site k before = option_and_then (view_number n [] kind.Double) (base_of site k before InPlaces)

-- CELL of the one element to which names lead
abbrev pub element_of : Numbering → Site → List Naming → ℕ → Storing → Shape → Option Instr
element_of n site path k stored shape =
    if not (is_some shape.copies) && is_one (chosen path shape.components)
    then address_of n site [] k stored (offset path shape.components) (kind_of_first (chosen path shape.components))
    else None

-- built-in functions without a list
abbrev pub alone_of : Builtin → Option Instr
alone_of builtin.Errgrp = Some instr.ErrGrp
alone_of builtin.Errnum = Some instr.ErrNum
alone_of builtin.Runtime = Some instr.Now
alone_of other = None

-- one behind the other
abbrev pub behind_of : Option (List Instr) → Option (List Instr) → Option (List Instr)
behind_of first second = option_and_then (λ is. option_map (λ js. is ++ js) second) first

-- BIND of an ASSIGN parameter; those of a unit's, from the last to the first
abbrev pub bound_of : Site → Parameter → Option (List Instr)
bound_of site p = option_map (λ place. instr.Bind place ∷ []) (below most (first_place site.places p.number))

abbrev pub binds_of : Site → ℕ → List Naming → Option (List Instr)
binds_of site unit [] = Some []
binds_of site unit (name ∷ names) = behind_of (binds_of site unit names) (bound_of site (parameter_named site.set unit name))

-- the store of an input parameter of one element, and that of a whole one
abbrev pub kept_of : Numbering → Site → Parameter → Option (List Instr)
kept_of n site p = option_map (λ i. i ∷ instr.Keep ∷ []) (address_of n site [] p.number InPlaces 0 (kind_of_first p.shape.components))

abbrev pub copied_of : Site → Parameter → Option (List Instr)
copied_of site p = option_map (λ place. instr.Copy place ∷ []) (below most (first_place site.places p.number))

abbrev pub stored_of : Numbering → Site → Parameter → Option (List Instr)
stored_of n site p = if is_whole p.shape then copied_of site p else kept_of n site p

-- those of the input parameters of a unit, from the last to the first
abbrev pub parameters_of : Numbering → Site → ℕ → List Naming → Option (List Instr)
parameters_of n site unit [] = Some []
parameters_of n site unit (name ∷ names) = behind_of (parameters_of n site unit names) (stored_of n site (parameter_named site.set unit name))

-- a call of a unit behind its arguments: of a FUNCTION, or of a PROCEDURE
abbrev pub same_form : Bool → Bool → Bool
same_form true b = b
same_form false b = not b

abbrev pub passed_to : Numbering → Site → Body → Option (List Instr)
passed_to n site body = behind_of (binds_of site body.number (outputs_of body.head)) (parameters_of n site body.number (inputs_of body.head))

abbrev pub call_with : Numbering → Site → Body → ℕ → Option (List Instr)
call_with n site body number = option_map (λ is. is ++ (instr.Call number ∷ [])) (passed_to n site body)

abbrev pub call_to : Numbering → Site → Bool → ℕ → Body → Option (List Instr)
call_to n site function unit body = if same_form function (is_function body.head) then option_and_then (call_with n site body) (block_number n unit) else None

abbrev pub call_of : Numbering → Site → Bool → ℕ → Option (List Instr)
call_of n site function unit = option_and_then (call_to n site function unit) (body_at site.set unit)

-- the value of what a name refers to, without subscripts
abbrev pub value_of : Numbering → Site → List Naming → Referent → Option (List Instr)
value_of n site path (DataOf k stored shape) = option_map (λ i. i ∷ instr.Fetch ∷ []) (element_of n site path k stored shape)
value_of n site path (ConstantOf v) = Some (pushes v ∷ [])
value_of n site path (EventOf e) = option_map (λ number. instr.Event number ∷ []) (below 65536 e)
value_of n site path (BlockOf unit) = if is_nil (inputs_at site.set unit) then call_of n site true unit else None
value_of n site path (BuiltinOf b) = option_map (λ i. i ∷ []) (alone_of b)
value_of n site path Unmeant = None
