-- The shapes of an image: those of the ASSIGN parameters of the units of a set and of the input parameters that are arrays or structures, each once, in the order
-- of the units.
use Rattle.std.specs.Prelude.{ℕ, List, [], ◌∷◌, ◌++◌, Bool, ◌||◌, Option, Some, None, slice_get, unwrap_or, if◌then◌else◌}
use Rattle.std.specs.List.{list_any}
use Rattle.std.specs.Option.{option_and_then}
use Rattle.hal_values.specs.declared.value.Kind.{Kind}
use Rattle.hal_grammar.specs.Leaves.{Naming}
use Rattle.hal_phrases.specs.Phrases.{Phrase}
use Rattle.hal_code.specs.declared.row.Run.{Run}
use Rattle.hal_meaning.specs.Bodies.{Body}
use Rattle.hal_meaning.specs.Calls.{Parameter, parameter_named, inputs_of, outputs_of}
use Rattle.hal_meaning.specs.Sets.{Set}
use Rattle.hal_meaning.specs.Variables.{is_whole}
use Rattle.hal_gen_expr.specs.Leaves.{is_nil}
use Rattle.hal_gen_expr.specs.Numbering.{same_runs, shape_in}
use Rattle.hal_gen_expr.specs.Parameters.{runs_at}
use Rattle.hal_gen_expr.specs.Shapes.{runs_of}

-- the kinds of the cells of shapes
abbrev pub Shapes : Type 0
Shapes = List (List (Run Kind))

-- one with these cells, unless it has none or is among them
abbrev pub with_runs : Shapes → List (Run Kind) → Shapes
with_runs shapes runs = if is_nil runs || list_any (λ found. same_runs found runs) shapes then shapes else shapes ++ (runs ∷ [])

-- that of an ASSIGN parameter, and that of an input parameter
abbrev pub with_output : Shapes → Parameter → Shapes
with_output shapes p = with_runs shapes (runs_of p.shape)

abbrev pub with_input : Shapes → Parameter → Shapes
with_input shapes p = if is_whole p.shape then with_output shapes p else shapes

-- those of a unit's
unfoldable pub with_outputs : Set → ℕ → Shapes → List Naming → Shapes
with_outputs s unit shapes [] = shapes
with_outputs s unit shapes (name ∷ names) = with_outputs s unit (with_output shapes (parameter_named s unit name)) names

unfoldable pub with_inputs : Set → ℕ → Shapes → List Naming → Shapes
with_inputs s unit shapes [] = shapes
with_inputs s unit shapes (name ∷ names) = with_inputs s unit (with_input shapes (parameter_named s unit name)) names

abbrev pub with_body : Set → Shapes → Body → Shapes
with_body s shapes body = with_inputs s body.number (with_outputs s body.number shapes (outputs_of body.head)) (inputs_of body.head)

unfoldable pub with_bodies : Set → Shapes → List Body → Shapes
with_bodies s shapes [] = shapes
with_bodies s shapes (body ∷ bodies) = with_bodies s (with_body s shapes body) bodies

abbrev pub shapes_of : Set → Shapes
shapes_of s = with_bodies s [] s.bodies

-- the number of the shape of what the phrase with this number declares
abbrev pub reference_shape : Set → Shapes → ℕ → ℕ
reference_shape s shapes k = unwrap_or (option_and_then (λ (p : Phrase). shape_in shapes (runs_at s p)) (slice_get s.phrases k)) 0
