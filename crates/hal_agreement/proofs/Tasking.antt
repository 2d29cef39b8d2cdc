-- Tasks do what their code does: the next turns of loops, statements of ON ERROR, and the cycles of processes.
use Rattle.std.specs.Prelude.{◌≡◌, ℕ, zero, suc, map, false, List, [], ◌∷◌, Option, Some, None}
use Rattle.std.proofs.Common.{refl, sym, subst, arith}
use Rattle.hal_values.specs.declared.request.Request.TheVariants as request
use Rattle.hal_values.specs.Answers.{Answered}
use Rattle.hal_values.specs.Answers as answered
use Rattle.hal_states.specs.Spots.{Kept}
use Rattle.hal_states.specs.Modes.{asking}
use Rattle.hal_meaning.specs.Marks.{Handling, handling_in}
use Rattle.hal_meaning.specs.States.{State, state, with_places, Evaluated, Gives, Asks, Caught, Restarts, Lost, Flow, Normal, Leaves, Repeats, Returned}
use Rattle.hal_meaning.specs.Access.{Here}
use Rattle.hal_meaning.specs.Bodies.{Body}
use Rattle.hal_meaning.specs.Calls as calls
use Rattle.hal_meaning.specs.Calls.{entering, is_function}
use Rattle.hal_values.specs.declared.environment.Entry.{Entry}
use Rattle.hal_meaning.specs.Statements.{turn_if, goes_behind, grouped, statement, statements}
use Rattle.hal_meaning.specs.Tasks.{Meaning, Tested, Stepping, Listing, Entering, Cycling}
use Rattle.hal_meaning.specs.Runs.{held_first, in_function, ended, to_end, handled, restarted, finished, finished_behind, cycle, task, more_tasks, no_tasks, tasks}
use Rattle.hal_code.specs.declared.instr.Instr.TheVariants as instr
use Rattle.hal_code.specs.declared.row.Block.{Block}
use Rattle.hal_code.specs.Addressing.{cleared}
use Rattle.hal_code.specs.Cores.{core, Goes, Then, Renews, Step, Moves}
use Rattle.hal_code.specs.Machine.{begun}
use Rattle.hal_agreement.specs.Codes.{Code}
use Rattle.hal_agreement.specs.Sites.{site_of}
use Rattle.hal_agreement.specs.PlacedStatements.{opened, Leaving, ToFinish, within_group, of_block}
use Rattle.hal_agreement.specs.PlacedBlocks.{ProcessAt, ClearsAt, cleared_by, leaving_by, UnitAt}
use Rattle.hal_agreement.proofs.Knowing.{Out, flow_to, Marks, Leads_out, Ending, Sound}
use Rattle.hal_agreement.proofs.Handling.{HandledAt, each_handled}
use Rattle.hal_agreement.proofs.Leading.{Leads, stays, through, acts_to}
use Rattle.hal_agreement.proofs.Reaching.{Nest, nest, behind, setting, core_at, Holds, Reaches, OnStep, before, bind_on, acts}
use Rattle.hal_agreement.proofs.Raising.{Standing, asks_then}
use Rattle.hal_agreement.proofs.Settling.{end_reaches}
use Rattle.hal_agreement.proofs.Listing.{listing_reaches}
use Rattle.hal_agreement.proofs.Stepping.{stepping_reaches}
use Rattle.hal_agreement.proofs.Stating.{FlowsAt, Begins, still, test_reaches, turn_reaches, passes, behind_reaches}
use Rattle.hal_agreement.proofs.Statements.{statement_reaches, statements_reaches, grouped_reaches}

-- what is known of the tasks that are begun in processes
pub record Knows (code : Code) (begin : ℕ) (rec : Meaning) : Type 0 where
  pub sound : Sound code begin rec
  pub cycles : (h : Here) (spot : ℕ → ℕ → ℕ) → Standing code h (nest [] spot 0) → in_function h ≡ false → h.first ≡ 0 → ProcessAt code begin (site_of h) 0 h.body (spot 0) → (k : Kept) (left : List Answered)
      → Reaches (setting code begin h) (nest [] spot 1) (λ flow st. None) (begun (setting code begin h) k) left (rec (Cycling h) (state k [] asking left))

module _ (code : Code) (begin : ℕ) (rec : Meaning) (knows : Knows code begin rec) where
  module _ (h : Here) (n : Nest) (standing : Standing code h n) (leaving : Leaving) (out : Out) (finish : ℕ) (returns : Leads_out code begin h n leaving out) where
    -- a statement of ON ERROR, and what stands behind it
    handled_reaches : (o : Option Handling) (from : ℕ) (st : State) → HandledAt code (site_of h) (of_block leaving (n.spot 0)) o from finish
        → FlowsAt code begin rec knows.sound h n standing out (of_block leaving (n.spot 0)) finish (Begins code begin rec knows.sound h n standing out from st) st.left (handled rec h o st)
    handled_reaches None from st here = still code begin rec knows.sound h n standing out (of_block leaving (n.spot 0)) from finish st here
    handled_reaches (Some found) from st here =
        bind_on (setting code begin h) n (flow_to (of_block leaving (n.spot 0)) out n here.0) (flow_to (of_block leaving (n.spot 0)) out n finish) _ st.left (statement rec h found.mark found.handler st)
        (λ flow after. goes_behind flow (λ begun. statements rec h found.rest_mark found.rest begun) after)
        (statement_reaches code begin rec knows.sound h n standing (of_block leaving (n.spot 0)) out (λ m. refl) returns found.mark found.handler from here.0 st here.1)
        (λ flow after. behind_reaches code begin rec knows.sound h n standing out (of_block leaving (n.spot 0)) here.0 finish (λ begun. statements rec h found.rest_mark found.rest begun) flow after
        (statements_reaches code begin rec knows.sound h n standing (of_block leaving (n.spot 0)) out (λ m. refl) returns found.rest_mark found.rest here.0 finish after here.2))

  -- AUTOMATIC data have their first values again
  cleared_leads : (h : Here) (n : Nest) (clears : List (ℕ × ℕ)) (from to : ℕ) (st : State) → ClearsAt code clears from to
      → Leads (setting code begin h) (Moves (core_at from [] [] n st)) st.left (Moves (core_at to [] [] n (with_places (cleared_by (map held_first h.places) clears st.kept.places) st))) st.left
  cleared_leads h n [] from to st same = subst (λ end. Leads (setting code begin h) (Moves (core_at from [] [] n st)) st.left (Moves (core_at end [] [] n st)) st.left) same (stays (setting code begin h) _ st.left)
  cleared_leads h n (one ∷ others) from to st here =
      through (setting code begin h) _ _ _ st.left st.left st.left
      (acts_to (setting code begin h) (instr.Clear one.0 one.1) (core_at from [] [] n st) st.left (Moves (core_at (suc from) [] [] n (with_places (cleared (map held_first h.places) one.0 one.1 st.kept.places) st))) here.0 refl)
      (cleared_leads h n others (suc from) to (with_places (cleared (map held_first h.places) one.0 one.1 st.kept.places) st) here.1)

  -- a unit that is called
  entering_reaches : (h : Here) (entries : List Entry) (b : Body) (n : Nest) (row : Block) (at : UnitAt code h.set h.places b row) (out : Out) (fine : Flow → State → Option Step) → (standing : Standing code (entering h entries b) n)
      → Marks n (of_block (leaving_by (is_function b.head)) at.handler) → Ending code begin (entering h entries b) n (leaving_by (is_function b.head)) out at.finish fine → (st : State)
      → Reaches (setting code begin h) (behind n) fine (Moves (core_at row.first [] [] n st)) st.left (task rec (Entering (entering h entries b)) (with_places (calls.begun h.set b.number h.places st.kept.places) st))
  entering_reaches h entries b n row at out fine standing marks ending st =
      before (setting code begin h) (behind n) fine (Moves (core_at row.first [] [] n st)) st.left (Moves (core_at at.start [] [] n (with_places (calls.begun h.set b.number h.places st.kept.places) st))) st.left _
      (subst (λ held. Leads (setting code begin h) (Moves (core_at row.first [] [] n st)) st.left (Moves (core_at at.start [] [] n (with_places held st))) st.left) (at.cleared st.kept.places) (cleared_leads h n at.clears row.first at.start st at.begins))
      (end_reaches code begin rec knows.sound (entering h entries b) n standing (leaving_by (is_function b.head)) out at.finish fine ending _ st.left _
      (flows_same (statements_reaches code begin rec knows.sound (entering h entries b) n standing (of_block (leaving_by (is_function b.head)) at.handler) out marks ending.returns 0 b.statements at.start at.finish
      (with_places (calls.begun h.set b.number h.places st.kept.places) st) at.statements)))
    where
      flows_same : Reaches (setting code begin h) n (flow_to (of_block (leaving_by (is_function b.head)) at.handler) out n at.finish) (Moves (core_at at.start [] [] n (with_places (calls.begun h.set b.number h.places st.kept.places) st))) st.left
          (statements rec (entering h entries b) 0 b.statements (with_places (calls.begun h.set b.number h.places st.kept.places) st))
          → Reaches (setting code begin h) n (flow_to (of_block (leaving_by (is_function b.head)) (n.spot 0)) out n at.finish) (Moves (core_at at.start [] [] n (with_places (calls.begun h.set b.number h.places st.kept.places) st))) st.left
          (statements rec (entering h entries b) 0 b.statements (with_places (calls.begun h.set b.number h.places st.kept.places) st))
      flows_same is = is

  module _ (h : Here) (spot : ℕ → ℕ → ℕ) (standing : Standing code h (nest [] spot 0)) (plain : in_function h ≡ false) (first : h.first ≡ 0) (here : ProcessAt code begin (site_of h) 0 h.body (spot 0)) where
    -- RETURN leads to FINISH
    abbrev to_finish : Out
    to_finish v st = Some (Moves (core_at here.finish [] [] (nest [] spot 0) st))

    process_ends : Ending code begin h (nest [] spot 0) (ToFinish here.finish) to_finish here.finish (flow_to (of_block (ToFinish here.finish) (spot 0)) to_finish (nest [] spot 0) here.finish)
    process_ends = record {
      each = λ place. subst (λ k. HandledAt code (site_of h) (of_block (ToFinish here.finish) (spot 0)) (handling_in place k h.body) (spot 0 place) here.finish) (sym first)
          (each_handled code (site_of h) (of_block (ToFinish here.finish) (spot 0)) here.finish 0 h.body (suc begin) here.statements here.leads_out place);
      returns = record {
        without = λ from to st one. acts_to (setting code begin h) (instr.Jump here.finish) (core_at from [] [] (nest [] spot 0) st) st.left _ one.0 refl;
        with_value = λ v from st same has. absurd (cc);
      };
      ends = λ flow st. subst (λ b. OnStep (flow_to (of_block (ToFinish here.finish) (spot 0)) to_finish (nest [] spot 0) here.finish flow st)
          (λ x. Reaches (setting code begin h) (nest [] spot 0) (flow_to (of_block (ToFinish here.finish) (spot 0)) to_finish (nest [] spot 0) here.finish) x st.left (ended h b flow st))) (sym plain)
          (passes code begin rec knows.sound h (nest [] spot 0) standing to_finish (flow_to (of_block (ToFinish here.finish) (spot 0)) to_finish (nest [] spot 0) here.finish) flow st
          (flow_to (of_block (ToFinish here.finish) (spot 0)) to_finish (nest [] spot 0) here.finish flow st) refl);
    }

    -- FINISH
    finished_reaches : (st : State) → Reaches (setting code begin h) (nest [] spot 1) (λ (flow : Flow) after. None) (Moves (core_at here.finish [] [] (nest [] spot 0) st)) st.left (finished rec h st)
    finished_reaches st =
        acts (setting code begin h) (nest [] spot 1) (λ flow after. None) (core_at here.finish [] [] (nest [] spot 0) st) st.left instr.Finish _ here.last
        (asks_then code begin h (nest [] spot 1) (λ flow after. None) request.Finish Renews (core_at here.finish [] [] (nest [] spot 0) st) st.entries st.left (λ a after. Gives tt after)
        (λ done after. rec (Cycling h) (state after.kept [] asking after.left)) (λ a rest. knows.cycles h spot standing plain first here st.kept rest))

    finished_holds : (step : Step) (left : List Answered) (r : Evaluated Flow) → Holds (setting code begin h) (nest [] spot 1) (flow_to (of_block (ToFinish here.finish) (spot 0)) to_finish (nest [] spot 0) here.finish) step left r
        → Holds (setting code begin h) (nest [] spot 1) (λ (flow : Flow) after. None) step left (finished_behind rec h r)
    finished_holds step left (Gives Normal st) is = (before (setting code begin h) (nest [] spot 1) (λ flow after. None) step left _ st.left _ is (finished_reaches st)).holds
    finished_holds step left (Gives (Leaves label) st) is = absurd is
    finished_holds step left (Gives (Repeats label) st) is = absurd is
    finished_holds step left (Gives (Returned v) st) is = (before (setting code begin h) (nest [] spot 1) (λ flow after. None) step left _ st.left _ is (finished_reaches st)).holds
    finished_holds step left (Asks r k m) is = is
    finished_holds step left (Caught level place st) is = absurd (omega (arith, is.0.deep, is.0.few))
    finished_holds step left (Restarts k rest) is = is
    finished_holds step left Lost is = tt

    restarted_holds : (step : Step) (left : List Answered) (r : Evaluated Flow) → Holds (setting code begin h) (nest [] spot 1) (λ (flow : Flow) after. None) step left r
        → Holds (setting code begin h) (nest [] spot 1) (λ (flow : Flow) after. None) step left (restarted rec h r)
    restarted_holds step left (Gives flow st) is = is
    restarted_holds step left (Asks r k m) is = is
    restarted_holds step left (Caught level place st) is = is
    restarted_holds step left (Restarts k rest) is = (before (setting code begin h) (nest [] spot 1) (λ flow after. None) step left _ rest _ is (knows.cycles h spot standing plain first here k rest)).holds
    restarted_holds step left Lost is = tt

    -- one cycle
    cycle_reaches : (k : Kept) (left : List Answered) → Reaches (setting code begin h) (nest [] spot 1) (λ (flow : Flow) after. None) (begun (setting code begin h) k) left (cycle rec h (state k [] asking left))
    cycle_reaches k left =
        asks_then code begin h (nest [] spot 1) (λ flow after. None) request.Begin (Then Goes) (core (suc begin) [] [] [] [] k asking) [] left (λ a after. Gives tt after)
        (λ done begins. finished_behind rec h (to_end rec h (statements rec h 0 h.body begins)))
        (λ a rest. record {
          holds = finished_holds _ rest (to_end rec h (statements rec h 0 h.body (state k [] asking rest)))
              (end_reaches code begin rec knows.sound h (nest [] spot 0) standing (ToFinish here.finish) to_finish here.finish (flow_to (of_block (ToFinish here.finish) (spot 0)) to_finish (nest [] spot 0) here.finish) process_ends _ rest
              (statements rec h 0 h.body (state k [] asking rest))
              (statements_reaches code begin rec knows.sound h (nest [] spot 0) standing (of_block (ToFinish here.finish) (spot 0)) to_finish (λ m. refl) process_ends.returns 0 h.body (suc begin) here.finish (state k [] asking rest) here.statements)).holds;
        })

    cycling_reaches : (k : Kept) (left : List Answered) → Reaches (setting code begin h) (nest [] spot 1) (λ (flow : Flow) after. None) (begun (setting code begin h) k) left (task rec (Cycling h) (state k [] asking left))
    cycling_reaches k left = record { holds = restarted_holds _ left (cycle rec h (state k [] asking left)) (cycle_reaches k left).holds }

  -- a task more
  pub task_knows : Knows code begin (task rec)
  task_knows = record {
    sound = record {
      loops = λ h n exits out loop g turn again to standing marks leads has body test st.
          test_reaches code begin rec knows.sound h n standing out (flow_to exits out n to) g again turn to st (λ held after. turn_if h loop.labels (λ begun. grouped rec h (suc loop.mark) loop.group begun) (rec (Tested h loop g)) held after) test
          (λ b after. turn_reaches code begin rec knows.sound h n standing out exits loop.labels (λ begun. grouped rec h (suc loop.mark) loop.group begun) (rec (Tested h loop g)) turn again to has
          (λ begun. grouped_reaches code begin rec knows.sound h n standing (within_group (opened loop.labels to (Some again)) exits) out marks leads (suc loop.mark) loop.group (suc turn) again begun body)
          (λ begun. knows.sound.loops h n exits out loop g turn again to standing marks leads has body test begun) b after);
      steps = λ h n exits out loop name place g turn again to standing marks leads has body next st.
          stepping_reaches code begin rec knows.sound h n standing out exits loop.labels name place g (λ begun. grouped rec h (suc loop.mark) loop.group begun) (rec (Stepping h place loop name g)) turn again to has next
          (λ begun. grouped_reaches code begin rec knows.sound h n standing (within_group (opened loop.labels to (Some again)) exits) out marks leads (suc loop.mark) loop.group (suc turn) again begun body)
          (λ begun. knows.sound.steps h n exits out loop name place g turn again to standing marks leads has body next begun) st;
      lists = λ h n exits out loop name place values g turn again to standing marks leads has body next st.
          listing_reaches code begin rec knows.sound h n standing out exits loop.labels name place values g (λ begun. grouped rec h (suc loop.mark) loop.group begun) (rec (Listing h place loop name g values)) turn again to has next
          (λ begun. grouped_reaches code begin rec knows.sound h n standing (within_group (opened loop.labels to (Some again)) exits) out marks leads (suc loop.mark) loop.group (suc turn) again begun body)
          (λ begun. knows.sound.lists h n exits out loop name place values g turn again to standing marks leads has body next begun) st;
      resumes = λ h n leaving out finish fine standing ending place st.
          end_reaches code begin rec knows.sound h n standing leaving out finish fine ending _ st.left _ (handled_reaches h n standing leaving out finish ending.returns (handling_in place h.first h.body) (n.spot 0 place) st (ending.each place));
      enters = λ h entries b n row at out fine standing marks ending st. entering_reaches h entries b n row at out fine standing marks ending st;
    };
    cycles = λ h spot standing plain first here k left. cycling_reaches h spot standing plain first here k left;
  }

-- no task can be begun
none_known : (code : Code) (begin : ℕ) → Knows code begin no_tasks
none_known code begin = record {
  sound = record {
    loops = λ h n exits out loop g turn again to standing marks leads has body test st. record { holds = tt };
    steps = λ h n exits out loop name place g turn again to standing marks leads has body next st. record { holds = tt };
    lists = λ h n exits out loop name place values g turn again to standing marks leads has body next st. record { holds = tt };
    resumes = λ h n leaving out finish fine standing ending place st. record { holds = tt };
    enters = λ h entries b n row at out fine standing marks ending st. record { holds = tt };
  };
  cycles = λ h spot standing plain first here k left. record { holds = tt };
}

more_known : (code : Code) (begin count : ℕ) (rec : Meaning) → Knows code begin rec → Knows code begin (more_tasks count rec)
more_known code begin zero rec knows = knows
more_known code begin (suc count) rec knows = task_knows code begin (more_tasks count rec) (more_known code begin count rec knows)

-- as many tasks as answers let begin
pub tasks_known : (code : Code) (begin turns : ℕ) (left : List Answered) → Knows code begin (tasks turns left)
tasks_known code begin turns [] = none_known code begin
tasks_known code begin turns (answered.Begun ∷ left) = task_knows code begin _ (tasks_known code begin turns left)
tasks_known code begin turns (answered.Told v ∷ left) = task_knows code begin _ (tasks_known code begin turns left)
tasks_known code begin turns (answered.Done ∷ left) = task_knows code begin _ (tasks_known code begin turns left)
tasks_known code begin turns (answered.Wrong e ∷ left) = task_knows code begin _ (tasks_known code begin turns left)
tasks_known code begin turns (answered.Block snapshot made ∷ left) = task_knows code begin _ (more_known code begin turns _ (tasks_known code begin turns left))
tasks_known code begin turns (answered.Killed ∷ left) = task_knows code begin _ (tasks_known code begin turns left)
