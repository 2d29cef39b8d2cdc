-- What is said of calls.
use Rattle.std.specs.Prelude.{ℕ, zero, suc, List, [], ◌∷◌, pos, Bool, true, false, Option, Some, None}
use Rattle.std.proofs.Common.{refl, ap}
use Rattle.hal_grammar.specs.Leaves.{Naming}
use Rattle.hal_values.specs.declared.environment.Entry.{Entry}
use Rattle.hal_values.specs.declared.value.Value.TheVariants as value
use Rattle.hal_values.specs.Answers.{Answered}
use Rattle.hal_states.specs.Spots.{Spot, Own}
use Rattle.hal_meaning.specs.Elements.{kinds_of}
use Rattle.hal_meaning.specs.Bodies.{Body}
use Rattle.hal_meaning.specs.ReportNames.{first_place}
use Rattle.hal_meaning.specs.Sets.{body_at}
use Rattle.hal_meaning.specs.States.{State, with_places, with_entries, Evaluated, Gives, Asks, Caught, Restarts, Lost, Flow}
use Rattle.hal_meaning.specs.Access.{Here}
use Rattle.hal_meaning.specs.Variables.{kind_of_first}
use Rattle.hal_meaning.specs.Calls.{Parameter, parameter_named, Passed, Plain, Whole, entering, bound, stored_parameter, stored_parameters, begun, left_with, run_call, made_call, call, inputs_of, outputs_of}
use Rattle.hal_meaning.specs.Tasks.{Meaning, Entering}
use Rattle.hal_meaning.proofs.Going.{pushed, Turned-through, Fine, Goes-bind}
use Rattle.hal_meaning.proofs.Accessing.{Begins, Goes-turn, Goes-store, Goes-copy}
use Rattle.hal_meaning.proofs.Able.{Ready, Runs, Fit, seq, begun as task_begun}

Runs-parameter : (h : Here) (limit : ℕ) (a : Answered) (p : Parameter) (passed : Passed) (st : State) → Fit h limit st → Runs h limit a (stored_parameter h p passed st) (stored_parameter h p passed (pushed a st))
Runs-parameter h limit a p (Plain v) st is = Goes-store h h.set.turns limit a (kind_of_first p.shape.components) (Own (first_place h.places p.number)) v st is
Runs-parameter h limit a p (Whole from) st is =
    Goes-copy h h.set.turns limit a (kinds_of p.shape) from (Own (first_place h.places p.number)) st is

Runs-parameters : (h : Here) (limit : ℕ) (a : Answered) (unit : ℕ) (names : List Naming) (more : List Passed) (st : State) → Fit h limit st
    → Runs h limit a (stored_parameters h unit names more st) (stored_parameters h unit names more (pushed a st))
Runs-parameters h limit a unit [] more st is = (is, refl)
Runs-parameters h limit a unit (name ∷ names) [] st is = (is, refl)
Runs-parameters h limit a unit (name ∷ names) (passed ∷ more) st is =
    seq h limit a _ _ _ _ (Runs-parameters h limit a unit names more st is) (λ done after fit. Runs-parameter h limit a (parameter_named h.set unit name) passed after fit)

-- a block is left
Runs-left : (h : Here) (limit : ℕ) (a : Answered) (entries : List Entry) (done after : Evaluated Flow) → Runs h limit a done after → Runs h limit a (left_with entries done) (left_with entries after)
Runs-left h limit a entries (Gives flow st) after is = (is.0, ap (left_with entries) is.1)
Runs-left h limit a entries (Asks r k m) after is = (is.0, Turned-through a r k after (left_with entries) refl refl is.1)
Runs-left h limit a entries (Caught zero place st) after is = (is.0, ap (left_with entries) is.1)
Runs-left h limit a entries (Caught (suc level) place st) after is = (is.0, ap (left_with entries) is.1)
Runs-left h limit a entries (Restarts k left) after is = (is.0, ap (left_with entries) is.1)
Runs-left h limit a entries Lost after is = absurd is

Runs-run : (h : Here) (limit n : ℕ) (a : Answered) (rec after : Meaning) → Ready h limit n a rec after → (b : Body) (made : Bool) (st : State) → Begins h.set.tables h.set.turns limit made st
    → Runs h limit a (run_call rec h b made st) (run_call after h b made (pushed a st))
Runs-run h limit n a rec after ready b false st is = (is, refl)
Runs-run h limit n a rec after ready b true st is =
    seq h limit a _ _ _ _
    (Runs-left h limit a st.entries _ _
    (task_begun h limit n a rec after (Entering (entering h st.entries b)) (with_places (begun h.set b.number h.places st.kept.places) (with_entries [] st)) ready
    (record { same_tables = refl; same_turns = refl; process = ready.process; stated = ready.stated }) is))
    (λ flow later fit. (fit, refl))

Runs-made : (h : Here) (limit n : ℕ) (a : Answered) (rec after : Meaning) → Ready h limit n a rec after → (b : Body) (passed : List Passed) (spots : List Spot) (st : State) → Fit h limit st
    → Runs h limit a (made_call rec h b passed spots st) (made_call after h b passed spots (pushed a st))
Runs-made h limit n a rec after ready b passed spots st is =
    seq h limit a _ _ _ _ (Runs-parameters h limit a b.number (inputs_of b.head) passed (with_places (bound h b.number (outputs_of b.head) spots st.kept.places) st) is)
    (λ stored later fit. Goes-bind h.set.tables h.set.turns limit a (Begins h.set.tables h.set.turns limit) (Fine h.set.tables h.set.turns limit) _ _ _ _ (Goes-turn h h.set.turns limit a later fit)
    (λ made begins known. Runs-run h limit n a rec after ready b made begins known))

Runs-found : (h : Here) (limit n : ℕ) (a : Answered) (rec after : Meaning) → Ready h limit n a rec after → (found : Option Body) (passed : List Passed) (spots : List Spot) (st : State) → Fit h limit st
    → Runs h limit a (elim found [ None ↦ Gives (value.Int (pos 0)) st | Some b ↦ made_call rec h b passed spots st ])
    (elim found [ None ↦ Gives (value.Int (pos 0)) (pushed a st) | Some b ↦ made_call after h b passed spots (pushed a st) ])
Runs-found h limit n a rec after ready None passed spots st is = (is, refl)
Runs-found h limit n a rec after ready (Some b) passed spots st is = Runs-made h limit n a rec after ready b passed spots st is

-- a call
pub Runs-call : (h : Here) (limit n : ℕ) (a : Answered) (rec after : Meaning) → Ready h limit n a rec after → (unit : ℕ) (passed : List Passed) (spots : List Spot) (st : State) → Fit h limit st
    → Runs h limit a (call rec h unit passed spots st) (call after h unit passed spots (pushed a st))
Runs-call h limit n a rec after ready unit passed spots st is = Runs-found h limit n a rec after ready (body_at h.set unit) passed spots st is
