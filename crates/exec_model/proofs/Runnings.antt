-- What the plain executive keeps.
use Rattle.std.proofs.Common.{◌≡◌, ℕ, suc, Bool, true, false, List, [], ◌∷◌, replicate, Option, Some, None, IsNone, IfSome, IfNone, ap, sym, subst, ◌∙◌, refl}
use Rattle.std.specs.Bool.{OnTrue, OnFalse}
use Rattle.std.specs.Prelude.{MatchBool, ◌||◌}
use Rattle.std.specs.List.{list_any}
use Rattle.hal_values.specs.declared.tables.Tables.{Tables}
use Rattle.hal_values.specs.Answers.{Answered}
use Rattle.hal_values.specs.Loads.{Meaning, IsLoad}
use Rattle.hal_values.specs.Tables.{process_count}
use Rattle.exec_model.specs.declared.event.Event.{Event}
use Rattle.exec_model.specs.declared.row.Row.{Row}
use Rattle.exec_model.specs.declared.script.ScriptLine.{ScriptLine}
use Rattle.exec_model.specs.declared.state.State.{State}
use Rattle.exec_model.specs.Drafts.{Drafted, on, unchanged}
use Rattle.exec_model.specs.Moments.{Moment, moment_of}
use Rattle.exec_model.specs.Opening.{opening, unsettled}
use Rattle.exec_model.specs.Rows.{row_in, is_ready}
use Rattle.exec_model.specs.Running.{IsSame}
use Rattle.exec_model.specs.Runs.{IsOfProcess, IsQuiet}
use Rattle.exec_model.specs.Settling.{settle}
use Rattle.exec_model.specs.Sound.{IsSound, KeepsClock}
use Rattle.exec_model.specs.Steps.{IsAllowed, stepped}
use Rattle.exec_model.proofs.OneRun.{IsQuiet-none}
use Rattle.exec_model.proofs.SoundEvents.{stepped-sound}

-- a moment stays sound, whether its event may come or not
pub step-sound : (q : Meaning) (lanes : ℕ) (m new : Moment) (happens : Event) (made : Bool) → IsLoad q → IsSound q m → KeepsClock m happens → MatchBool made (IsAllowed q lanes m happens) (IsAllowed q lanes m happens → ⊥)
    → OnTrue made (new ≡ stepped q m happens) → OnFalse made (new ≡ m) → IsSound q new
step-sound q lanes m new happens true load sound clock allowed done same = subst (IsSound q) (sym done) (stepped-sound q lanes m happens load sound allowed clock)
step-sound q lanes m new happens false load sound clock allowed done same = subst (IsSound q) (sym same) sound

-- the moment is as before, where its parts are
pub same_moment : (old_state state : State) (old_answers answers : List (List Answered)) (old_journal journal : List Event) (made : Bool) → OnFalse made (IsSame old_state old_answers old_journal state answers journal)
    → OnFalse made (moment_of state answers ≡ moment_of old_state old_answers)
same_moment old_state state old_answers answers old_journal journal true same = tt
same_moment old_state state old_answers answers old_journal journal false same =
    ap (λ (s : State). moment_of s answers) same.same_state ∙ ap (λ (a : List (List Answered)). moment_of old_state a) same.same_answers

-- where each process isn't Ready, none is
quiet_rows : (rows : List Row) → ((p : ℕ) → is_ready (row_in rows p) ≡ false) → list_any is_ready rows ≡ false
quiet_rows [] unready = refl
quiet_rows (row ∷ rows) unready = ap (λ b. b || list_any is_ready rows) (unready 0) ∙ quiet_rows rows (λ p. unready (suc p))

-- no event of a process was found just where no row is Ready
pub quiet_none : (q : Meaning) (lanes : ℕ) (m : Moment) (found : Option Event) → IfNone found ((p : ℕ) → is_ready (row_in m.rows p) ≡ false) → IfSome found IsOfProcess → IfSome found (IsAllowed q lanes m)
    → (IsNone found → IsQuiet m) × (IsQuiet m → IsNone found)
quiet_none q lanes m None none kind can = (λ e. quiet_rows m.rows none, λ e. refl)
quiet_none q lanes m (Some happens) none kind can = (
  λ e. cc,
  λ quiet. absurd (IsQuiet-none q lanes m happens quiet kind can),
)

-- the opening, from its parts
pub opened : (tables first second : Tables) (script lines : List ScriptLine) (state : State) (answers : List (List Answered)) (draft made : Drafted) → moment_of state (replicate (process_count first) []) ≡ unsettled first lines
    → first ≡ tables → second ≡ tables → lines ≡ script → answers ≡ replicate (process_count tables) [] → draft ≡ unchanged (moment_of state answers) → made ≡ on (settle second) draft → made.now ≡ opening tables script
opened tables first second script lines state answers draft made begins one two same fresh drafted settled =
    ap (λ (d : Drafted). d.now) settled
    ∙ ap (λ (d : Drafted). settle second d.now) drafted
    ∙ ap (λ t. settle t (moment_of state answers)) two
    ∙ ap (λ (a : List (List Answered)). settle tables (moment_of state a)) fresh
    ∙ ap (λ (t : Tables). settle tables (moment_of state (replicate (process_count t) []))) (sym one)
    ∙ ap (settle tables) (begins ∙ ap (λ (t : Tables). unsettled t lines) one ∙ ap (unsettled tables) same)
