-- What holds of no shapes, and of more where those of one more parameter are added, holds of the shapes of a set.
use Rattle.std.specs.Prelude.{ℕ, Bool, true, false, List, [], ◌∷◌, if◌then◌else◌}
use Rattle.hal_grammar.specs.Leaves.{Naming}
use Rattle.hal_meaning.specs.Bodies.{Body}
use Rattle.hal_meaning.specs.Calls.{parameter_named, inputs_of, outputs_of}
use Rattle.hal_meaning.specs.Sets.{Set}
use Rattle.hal_meaning.specs.Variables.{is_whole}
use Rattle.hal_gen_expr.specs.Shapes.{runs_of}
use Rattle.hal_link.specs.Shapes.{Shapes, with_runs, with_input, with_output, with_inputs, with_outputs, with_body, with_bodies, shapes_of}

module _ (s : Set) (P : Shapes → Type 0) (adds : (shapes : Shapes) (unit : ℕ) (name : Naming) → P shapes → P (with_runs shapes (runs_of (parameter_named s unit name).shape))) where
  input_added : (unit : ℕ) (shapes : Shapes) (name : Naming) → P shapes → P (with_input shapes (parameter_named s unit name))
  input_added unit shapes name all = by (is_whole (parameter_named s unit name).shape) where
    by : (b : Bool) → P (if b then with_output shapes (parameter_named s unit name) else shapes)
    by true = adds shapes unit name all
    by false = all

  pub outputs_added : (unit : ℕ) (shapes : Shapes) (names : List Naming) → P shapes → P (with_outputs s unit shapes names)
  unfolding with_outputs
  outputs_added unit shapes [] all = all
  outputs_added unit shapes (name ∷ names) all = outputs_added unit (with_output shapes (parameter_named s unit name)) names (adds shapes unit name all)

  pub inputs_added : (unit : ℕ) (shapes : Shapes) (names : List Naming) → P shapes → P (with_inputs s unit shapes names)
  unfolding with_inputs
  inputs_added unit shapes [] all = all
  inputs_added unit shapes (name ∷ names) all = inputs_added unit (with_input shapes (parameter_named s unit name)) names (input_added unit shapes name all)

  pub bodies_added : (shapes : Shapes) (bodies : List Body) → P shapes → P (with_bodies s shapes bodies)
  unfolding with_bodies
  bodies_added shapes [] all = all
  bodies_added shapes (body ∷ bodies) all =
      bodies_added (with_body s shapes body) bodies
      (inputs_added body.number (with_outputs s body.number shapes (outputs_of body.head)) (inputs_of body.head) (outputs_added body.number shapes (outputs_of body.head) all))

  pub shapes_added : P [] → P (shapes_of s)
  shapes_added none = bodies_added [] s.bodies none
