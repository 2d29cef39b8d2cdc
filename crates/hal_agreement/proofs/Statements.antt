-- The code of statements, of groups and of what stands behind them.
use Rattle.std.specs.Prelude.{ℕ, suc, List, [], ◌∷◌, Bool, true, false, Option, Some, None, if◌then◌else◌}
use Rattle.std.proofs.Common.{refl, sym, subst}
use Rattle.hal_grammar.specs.Leaves.{Naming}
use Rattle.hal_grammar.specs.Statements.{Guard, Span, Stepped, Listed, Statement, Labelled, Basic, Null, Assignment, If, Do, DoCase, DoLoop, DoFor, Exit, Repeat, Return, Call, Read, Write, Update, Scheduled, UpdatePriority, Cancel, Terminate, Wait, WaitUntil, WaitForDependent, WaitFor, Event, OnErrorStatement, OnErrorResponse, OffError, SendError, Alternative, NoAlternative, Otherwise, Group, Groups, Statements, NoStatements, MoreStatements}
use Rattle.hal_grammar.specs.Expressions.{NoExpressions, MoreExpressions}
use Rattle.hal_values.specs.declared.plan.Pause.TheVariants as pause
use Rattle.hal_values.specs.declared.request.Request.TheVariants as request
use Rattle.hal_values.specs.Answers.{error}
use Rattle.hal_states.specs.Numbers.{holds}
use Rattle.hal_meaning.specs.Marks.{after_statement, after_alternative}
use Rattle.hal_meaning.specs.States.{State, state, Evaluated, Gives, bind, Flow, Normal, Leaves, Repeats}
use Rattle.hal_meaning.specs.Access.{Here, within, updating, request_made}
use Rattle.hal_meaning.specs.RealTime.{time, stated_at_mark}
use Rattle.hal_meaning.specs.Variables.{name_meant}
use Rattle.hal_meaning.specs.Statements.{all_received, group_left, turn_if, label_name, looping, loop_place, end_place, kept_at, held_at, is_number, spanned, goes_on, goes_behind, one_of, statement, basic_statement, otherwise, without_case, case_of, selected, grouped, settled, update_left, update_groups, entered_update, statements}
use Rattle.hal_meaning.specs.Tasks.{Meaning, Tested, Stepping, Listing}
use Rattle.hal_code.specs.declared.instr.Instr.TheVariants as instr
use Rattle.hal_code.specs.declared.operand.Delay.TheVariants as delay
use Rattle.hal_code.specs.Cores.{core, Goes, Opens, Step, Moves}
use Rattle.hal_agreement.specs.Codes.{Code}
use Rattle.hal_agreement.specs.Sites.{site_of}
use Rattle.hal_agreement.specs.PlacedStatements.{opened, exit_of, again_of, NoReturn, Exits, within_group, of_block, CalledAt, SpannedAt, StatementAt, BasicAt, AlternativeAt, UncasedAt, CasesAt, SelectedAt, GroupAt, StatementsAt}
use Rattle.hal_agreement.proofs.Expressing.{name_same}
use Rattle.hal_agreement.proofs.Knowing.{Out, flow_to, Marks, Leads_out, Sound}
use Rattle.hal_agreement.proofs.Handling.{each_handled}
use Rattle.hal_agreement.proofs.Asking.{read_stated, event_reaches, named_or_own_reaches, dependents_reaches, waited_reaches}
use Rattle.hal_agreement.proofs.Timing.{pause_reaches, scheduled_reaches, priority_stated}
use Rattle.hal_agreement.proofs.Entering.{handler_leads, response_leads, off_leads}
use Rattle.hal_agreement.proofs.Keeping.{keeps_reaches, case_reaches}
use Rattle.hal_agreement.proofs.Listing.{in_group_of, stands_within, listed_reaches}
use Rattle.hal_agreement.proofs.Reaching.{Nest, setting, core_at, Reaches, bind_on, acts}
use Rattle.hal_agreement.proofs.Raising.{Standing, bind_bind, asks_then, raised_reaches}
use Rattle.hal_agreement.proofs.Settling.{around, updated, stands_above, settled_holds, updated_holds, update_ends}
use Rattle.hal_agreement.proofs.Stepping.{stepped_reaches}
use Rattle.hal_agreement.proofs.Stating.{FlowsAt, Begins, jump_leads, led, still, normal, goes_on_reaches, final, valued, all_received_reaches, written_reaches, condition_reaches, first_test_reaches, turn_reaches, group_reaches, behind_reaches, exit_reaches, returned_reaches, call_meant, either_reaches, over_reaches}

module _ (code : Code) (begin : ℕ) (rec : Meaning) (sound : Sound code begin rec) where
  -- a DO FOR of which the statements stand there and do this
  spanned_reaches : (h : Here) (n : Nest) (standing : Standing code h n) (exits : Exits) (out : Out) (marks : Marks n exits) (leads : Leads_out code begin h n exits.leaving out) (place m : ℕ) (labels : List Naming) (name : List ℕ) (span : Span) (g : Option Guard) (group : Group) (from again to : ℕ) (st : State)
      → SpannedAt code (site_of h) name place g (λ start last. GroupAt code (site_of h) (within_group (opened labels to (Some again)) exits) (suc m) group start last) span from again to
      → ((start : ℕ) → GroupAt code (site_of h) (within_group (opened labels to (Some again)) exits) (suc m) group start again → (begun : State)
      → FlowsAt code begin rec sound h n standing out (within_group (opened labels to (Some again)) exits) again (Begins code begin rec sound h n standing out start begun) begun.left (grouped rec h (suc m) group begun))
      → FlowsAt code begin rec sound h n standing out exits to (Begins code begin rec sound h n standing out from st) st.left (spanned rec h place (looping labels m group) name span g (λ begun. grouped rec h (suc m) group begun) st)
  spanned_reaches h n standing exits out marks leads place m labels name (Stepped first last step) g group from again to st here bodies =
      stepped_reaches code begin rec sound h n standing out exits labels name place first last step g (λ begun. grouped rec h (suc m) group begun) (rec (Stepping h place (looping labels m group) name g)) from here.0 here.1 again to here.2 here.3 here.4
      (λ begun. bodies (suc here.1) here.5 begun) (λ begun. sound.steps h n exits out (looping labels m group) name place g here.1 again to standing marks leads here.4 here.5 here.6 begun) st
  spanned_reaches h n standing exits out marks leads place m labels name (Listed NoExpressions) g group from again to st here bodies = still code begin rec sound h n standing out exits from to st here
  spanned_reaches h n standing exits out marks leads place m labels name (Listed (MoreExpressions first others)) g group from again to st here bodies =
      listed_reaches code begin rec sound h n standing out exits labels name place first g (λ begun. grouped rec h (suc m) group begun) (rec (Listing h place (looping labels m group) name g others)) from here.0 here.1 again to here.2 here.3 here.4
      (λ begun. bodies (suc here.1) here.5 begun) (λ begun. sound.lists h n exits out (looping labels m group) name place others g here.1 again to standing marks leads here.4 here.5 here.6 begun) st

  -- one of two ways on
  chosen_flow : (fine : Flow → State → Option Step) (h : Here) (n : Nest) (b : Bool) (to other : ℕ) (st : State) (held failed : Evaluated Flow) → Reaches (setting code begin h) n fine (Moves (core_at to [] [] n st)) st.left held
      → Reaches (setting code begin h) n fine (Moves (core_at other [] [] n st)) st.left failed → Reaches (setting code begin h) n fine (Moves (core_at (if b then to else other) [] [] n st)) st.left (if b then held else failed)
  chosen_flow fine h n true to other st held failed is are = is
  chosen_flow fine h n false to other st held failed is are = are

  mutual
    pub statement_reaches : (h : Here) (n : Nest) (standing : Standing code h n) (exits : Exits) (out : Out) (marks : Marks n exits) (leads : Leads_out code begin h n exits.leaving out) (m : ℕ) (one : Statement) (from to : ℕ) (st : State) → StatementAt code (site_of h) exits m one from to
        → FlowsAt code begin rec sound h n standing out exits to (Begins code begin rec sound h n standing out from st) st.left (statement rec h m one st)
    statement_reaches h n standing exits out marks leads m (Labelled labels basic) from to st here = basic_reaches h n standing exits out marks leads m labels basic from to st here

    basic_reaches : (h : Here) (n : Nest) (standing : Standing code h n) (exits : Exits) (out : Out) (marks : Marks n exits) (leads : Leads_out code begin h n exits.leaving out) (m : ℕ) (labels : List Naming) (one : Basic) (from to : ℕ) (st : State) → BasicAt code (site_of h) exits m labels one from to
        → FlowsAt code begin rec sound h n standing out exits to (Begins code begin rec sound h n standing out from st) st.left (basic_statement rec h m labels one st)
    basic_reaches h n standing exits out marks leads m labels (Null place) from to st here = still code begin rec sound h n standing out exits from to st here
    basic_reaches h n standing exits out marks leads m labels (Assignment place receivers tree) from to st here =
        valued code begin rec sound h n standing out (flow_to exits out n to) tree from here.0 _ st (λ v after. goes_on (all_received rec h v receivers after)) here.1
        (λ v after. goes_on_reaches code begin rec sound h n standing out exits to _ after.left _ (all_received_reaches code begin rec sound h n standing out receivers v here.0 to after here.2))
    basic_reaches h n standing exits out marks leads m labels (If place condition consequence alternative) from to st here =
        condition_reaches code begin rec sound h n standing out (flow_to exits out n to) condition from here.0 here.1 st
        (λ v after. one_of (holds v) (λ begun. statement rec h m consequence begun) (λ begun. otherwise rec h (after_statement m consequence) alternative begun) after) here.3
        (λ v after. either_reaches code begin rec sound h n standing out exits to here.1 here.0 (holds v) _ _ after
        (over_reaches code begin rec sound h n standing out exits (after_statement m consequence) alternative here.2 here.0 to _ after.left _ here.5 (statement_reaches h n standing exits out marks leads m consequence here.1 here.2 after here.4))
        (alternative_reaches h n standing exits out marks leads (after_statement m consequence) alternative here.2 here.0 to after here.5))
    basic_reaches h n standing exits out marks leads m labels (Do place group) from to st here =
        bind_on (setting code begin h) n (flow_to (within_group (opened labels to None) exits) out n to) (flow_to exits out n to) _ st.left (grouped rec h (suc m) group st) (λ flow after. Gives (group_left labels flow) after)
        (grouped_reaches h n standing (within_group (opened labels to None) exits) out marks leads (suc m) group from to st here) (λ flow after. group_reaches code begin rec sound h n standing out exits labels to flow after)
    basic_reaches h n standing exits out marks leads m labels (DoCase place number alternative group) from to st here =
        let inner = within_group (opened labels to None) exits in
        let kept = loop_place h m in
        valued code begin rec sound h n standing out (flow_to exits out n to) number from here.0 [] st
        (λ v after. bind (case_of rec h (after_alternative (suc m) alternative) kept (λ begun. without_case rec h (suc m) alternative begun) group (kept_at kept v after)) (λ flow later. Gives (group_left labels flow) later)) here.3
        (λ v after. keeps_reaches code begin h n (flow_to exits out n to) kept v here.0 here.1 [] after _ here.4
        (bind_on (setting code begin h) n (flow_to inner out n to) (flow_to exits out n to) _ after.left
        (case_of rec h (after_alternative (suc m) alternative) kept (λ begun. without_case rec h (suc m) alternative begun) group (kept_at kept v after)) (λ flow later. Gives (group_left labels flow) later)
        (cases_reaches h n standing inner out marks leads kept (after_alternative (suc m) alternative) (λ begun. without_case rec h (suc m) alternative begun) group here.1 here.2 to (kept_at kept v after) here.5
        (uncased_reaches h n standing inner out marks leads (suc m) alternative here.2 to (kept_at kept v after) here.6))
        (λ flow later. group_reaches code begin rec sound h n standing out exits labels to flow later)))
    basic_reaches h n standing exits out marks leads m labels (DoLoop place g group) from to st here =
        first_test_reaches code begin rec sound h n standing out (flow_to exits out n to) g from to here.0 st
        (λ held after. turn_if h labels (λ begun. grouped rec h (suc m) group begun) (rec (Tested h (looping labels m group) g)) held after) here.2
        (λ b after. turn_reaches code begin rec sound h n standing out exits labels (λ begun. grouped rec h (suc m) group begun) (rec (Tested h (looping labels m group) g)) here.0 here.1 to here.3
        (λ begun. grouped_reaches h n standing (within_group (opened labels to (Some here.1)) exits) out marks leads (suc m) group (suc here.0) here.1 begun here.4)
        (λ begun. sound.loops h n exits out (looping labels m group) g here.0 here.1 to standing marks leads here.3 here.4 here.5 begun) b after)
    basic_reaches h n standing exits out marks leads m labels (DoFor place temporary variable span g group) from to st here =
        let inner = within_group (opened labels to (Some here.0)) exits in
        in_group_of h temporary m
        (λ inside site. SpannedAt code site variable.name (end_place h temporary m) g (λ start last. GroupAt code site inner (suc m) group start last) span from here.0 to
        → Reaches (setting code begin h) n (flow_to exits out n to) (Moves (core_at from [] [] n st)) st.left (spanned rec inside (end_place h temporary m) (looping labels m group) variable.name span g (λ begun. grouped rec inside (suc m) group begun) st))
        (λ at. spanned_reaches h n standing exits out marks leads (end_place h temporary m) m labels variable.name span g group from here.0 to st at
        (λ start body begun. grouped_reaches h n standing inner out marks leads (suc m) group start here.0 begun body))
        (λ k at. spanned_reaches (within k h) n (stands_within code h n k standing) exits out marks (record { without = leads.without; with_value = leads.with_value }) (end_place h temporary m) m labels variable.name span g group from here.0 to st at
        (λ start body begun. grouped_reaches (within k h) n (stands_within code h n k standing) inner out marks (record { without = leads.without; with_value = leads.with_value }) (suc m) group start here.0 begun body))
        here.1
    basic_reaches h n standing exits out marks leads m labels (Exit place label) from to st here =
        exit_reaches code begin rec sound h n standing out exits from to here.0 (Leaves (label_name label)) (exit_of exits.groups (label_name label)) st refl here.1 here.2.0
    basic_reaches h n standing exits out marks leads m labels (Repeat place label) from to st here =
        exit_reaches code begin rec sound h n standing out exits from to here.0 (Repeats (label_name label)) (again_of exits.groups (label_name label)) st refl here.1 here.2.0
    basic_reaches h n standing exits out marks leads m labels (Return place None) from to st here = record { holds = leads.without from to st here }
    basic_reaches h n standing exits out marks leads m labels (Return place (Some tree)) from to st here =
        subst (λ end. FlowsAt code begin rec sound h n standing out exits end (Begins code begin rec sound h n standing out from st) st.left (basic_statement rec h m labels (Return place (Some tree)) st)) here.5.1
        (returned_reaches code begin rec sound h n standing out exits tree from here.0 here.1 (suc here.1) st leads here.2 here.3 here.4 here.5.0)
    basic_reaches h n standing exits out marks leads m labels (Call place name arguments receivers) from to st here =
        goes_on_reaches code begin rec sound h n standing out exits to _ st.left _
        (call_meant code begin rec sound h n standing out arguments receivers (name_meant h name.name st.kept.places) from to st (subst (λ m. CalledAt code (site_of h) arguments receivers m from to) (name_same h name.name st.kept.places) (here st.kept.places)))
    basic_reaches h n standing exits out marks leads m labels (Read place channel receivers) from to st here =
        read_stated code begin rec sound h n standing out exits channel receivers here.0 from to st here.1 here.2
    basic_reaches h n standing exits out marks leads m labels (Event e) from to st here =
        goes_on_reaches code begin rec sound h n standing out exits to _ st.left _ (event_reaches code begin rec sound h n standing out e.action _ from to st here)
    basic_reaches h n standing exits out marks leads m labels (Cancel place names) from to st here =
        goes_on_reaches code begin rec sound h n standing out exits to _ st.left _ (named_or_own_reaches code begin rec sound h n standing out request.Cancel instr.Cancel (λ number at now. refl) names from to st here)
    basic_reaches h n standing exits out marks leads m labels (Terminate place names) from to st here =
        goes_on_reaches code begin rec sound h n standing out exits to _ st.left _ (named_or_own_reaches code begin rec sound h n standing out request.Terminate instr.Terminate (λ number at now. refl) names from to st here)
    basic_reaches h n standing exits out marks leads m labels (Wait place tree) from to st here =
        subst (λ r. FlowsAt code begin rec sound h n standing out exits to (Begins code begin rec sound h n standing out from st) st.left r)
        (bind_bind (time rec h tree st) (λ t after. request_made (request.Wait (pause.For t)) after) (λ nothing after. Gives Normal after))
        (goes_on_reaches code begin rec sound h n standing out exits to _ st.left _ (pause_reaches code begin rec sound h n standing out delay.For pause.For (λ t stack. refl) tree from to st here))
    basic_reaches h n standing exits out marks leads m labels (WaitUntil place tree) from to st here =
        subst (λ r. FlowsAt code begin rec sound h n standing out exits to (Begins code begin rec sound h n standing out from st) st.left r)
        (bind_bind (time rec h tree st) (λ t after. request_made (request.Wait (pause.Till t)) after) (λ nothing after. Gives Normal after))
        (goes_on_reaches code begin rec sound h n standing out exits to _ st.left _ (pause_reaches code begin rec sound h n standing out delay.Until pause.Till (λ t stack. refl) tree from to st here))
    basic_reaches h n standing exits out marks leads m labels (WaitForDependent place) from to st here =
        goes_on_reaches code begin rec sound h n standing out exits to _ st.left _ (dependents_reaches code begin rec sound h n standing out from to st here)
    basic_reaches h n standing exits out marks leads m labels (WaitFor place tree) from to st here =
        goes_on_reaches code begin rec sound h n standing out exits to _ st.left _ (waited_reaches code begin rec sound h n standing out (stated_at_mark h m) from to st here)
    basic_reaches h n standing exits out marks leads m labels (Scheduled place s) from to st here =
        goes_on_reaches code begin rec sound h n standing out exits to _ st.left _ (scheduled_reaches code begin rec sound h n standing out m s from to st here)
    basic_reaches h n standing exits out marks leads m labels (UpdatePriority place name tree) from to st here =
        goes_on_reaches code begin rec sound h n standing out exits to _ st.left _ (priority_stated code begin rec sound h n standing out name tree from to st here)
    basic_reaches h n standing exits out marks leads m labels (Write place channel items) from to st here =
        goes_on_reaches code begin rec sound h n standing out exits to _ st.left _ (written_reaches code begin rec sound h n standing out channel items here.0 from here.1 to st here.2 here.3 here.4)
    basic_reaches h n standing exits out marks leads m labels (SendError place group_at group number_at number) from to st here =
        final code begin rec sound h n standing out (λ end. flow_to exits out n end) (instr.Raise group number) from to _ _ st _ here
        (raised_reaches code begin h n standing (flow_to exits out n (suc from)) (error group number) Goes (suc from) _ _ st (λ nothing after. Gives Normal after) (λ after. normal code begin rec sound h n standing out exits (suc from) after))
    basic_reaches h n standing exits out marks leads m labels (Update place body close) from to st here =
        acts (setting code begin h) n (flow_to exits out n to) (core_at from [] [] n st) st.left (instr.Open (update_groups h m)) _ here.2
        (asks_then code begin h n (flow_to exits out n to) (request.Update (update_groups h m)) (Opens (update_groups h m)) (core (suc from) [] [] [] (around n st ∷ n.frames) st.kept st.mode) st.entries st.left (λ a after. Gives a after)
        (λ answer after. update_left after.entries (settled rec (updating body (suc m) after.entries h) (statements rec (updating body (suc m) after.entries h) (suc m) body (entered_update h m answer after))))
        (λ a rest. record {
          holds = updated_holds code begin rec sound h n standing exits out st here.0 here.1 to here.5 body (suc m) _ rest _
              (settled_holds code begin rec sound (updating body (suc m) st.entries h) (updated n st here.0) (stands_above code h n body (suc m) st here.0 standing) NoReturn (λ v after. None) here.1
              (flow_to (of_block NoReturn here.0) (λ v after. None) (updated n st here.0) here.1)
              (update_ends code begin rec sound h n standing exits out st here.0 here.1 to here.5 body (suc m) (each_handled code (site_of h) (of_block NoReturn here.0) here.1 (suc m) body (suc from) here.3 here.4)) _ rest _
              (statements_reaches (updating body (suc m) st.entries h) (updated n st here.0) (stands_above code h n body (suc m) st here.0 standing) (of_block NoReturn here.0) (λ v after. None) (λ k. refl)
              (update_ends code begin rec sound h n standing exits out st here.0 here.1 to here.5 body (suc m) (each_handled code (site_of h) (of_block NoReturn here.0) here.1 (suc m) body (suc from) here.3 here.4)).returns
              (suc m) body (suc from) here.1 (entered_update h m a (state st.kept st.entries st.mode rest)) here.3).holds);
        }))
    basic_reaches h n standing exits out marks leads m labels (OnErrorStatement place s handler) from to st here =
        record { holds = handler_leads code begin rec sound h n standing out s m here.0 here.1 from to (exits.handler m) st here.2 (marks m) here.5 here.3 here.4 }
    basic_reaches h n standing exits out marks leads m labels (OnErrorResponse place s r e) from to st here = record { holds = response_leads code begin rec sound h n standing out s r e here.0 here.1 here.2 here.3 from to st here.4 here.5 here.6 }
    basic_reaches h n standing exits out marks leads m labels (OffError place s) from to st here = record { holds = off_leads code begin rec sound h n standing out s here.0 here.1 from to st here.2 here.3 }

    alternative_reaches : (h : Here) (n : Nest) (standing : Standing code h n) (exits : Exits) (out : Out) (marks : Marks n exits) (leads : Leads_out code begin h n exits.leaving out) (m : ℕ) (alternative : Alternative) (end other to : ℕ) (st : State) → AlternativeAt code (site_of h) exits m alternative end other to
        → FlowsAt code begin rec sound h n standing out exits to (Begins code begin rec sound h n standing out other st) st.left (otherwise rec h m alternative st)
    alternative_reaches h n standing exits out marks leads m NoAlternative end other to st here = still code begin rec sound h n standing out exits other to st here.1
    alternative_reaches h n standing exits out marks leads m (Otherwise one) end other to st here = statement_reaches h n standing exits out marks leads m one other to st here.2

    -- what DO CASE does where its number selects no statement
    uncased_reaches : (h : Here) (n : Nest) (standing : Standing code h n) (exits : Exits) (out : Out) (marks : Marks n exits) (leads : Leads_out code begin h n exits.leaving out) (m : ℕ) (alternative : Alternative) (from to : ℕ) (st : State) → UncasedAt code (site_of h) exits m alternative from to
        → FlowsAt code begin rec sound h n standing out exits to (Begins code begin rec sound h n standing out from st) st.left (without_case rec h m alternative st)
    uncased_reaches h n standing exits out marks leads m NoAlternative from to st here =
        final code begin rec sound h n standing out (λ end. flow_to exits out n end) (instr.Raise 1 6) from to _ _ st _ here
        (raised_reaches code begin h n standing (flow_to exits out n (suc from)) (error 1 6) Goes (suc from) _ _ st (λ nothing after. Gives Normal after) (λ after. normal code begin rec sound h n standing out exits (suc from) after))
    uncased_reaches h n standing exits out marks leads m (Otherwise one) from to st here = statement_reaches h n standing exits out marks leads m one from to st here

    -- the statements of DO CASE
    cases_reaches : (h : Here) (n : Nest) (standing : Standing code h n) (exits : Exits) (out : Out) (marks : Marks n exits) (leads : Leads_out code begin h n exits.leaving out) (place m : ℕ) (none : State → Evaluated Flow) (group : Group) (from last to : ℕ) (st : State)
        → CasesAt code (site_of h) exits place m group from last to → FlowsAt code begin rec sound h n standing out exits to (Begins code begin rec sound h n standing out last st) st.left (none st)
        → FlowsAt code begin rec sound h n standing out exits to (Begins code begin rec sound h n standing out from st) st.left (case_of rec h m place none group st)
    cases_reaches h n standing exits out marks leads place m none (Groups list close) from last to st here is =
        selected_reaches h n standing exits out marks leads place m 1 none list from last to st here is

    selected_reaches : (h : Here) (n : Nest) (standing : Standing code h n) (exits : Exits) (out : Out) (marks : Marks n exits) (leads : Leads_out code begin h n exits.leaving out) (place m k : ℕ) (none : State → Evaluated Flow) (list : Statements) (from last to : ℕ) (st : State)
        → SelectedAt code (site_of h) exits place m k list from last to → FlowsAt code begin rec sound h n standing out exits to (Begins code begin rec sound h n standing out last st) st.left (none st)
        → FlowsAt code begin rec sound h n standing out exits to (Begins code begin rec sound h n standing out from st) st.left (selected rec h m k (held_at place st) none list st)
    selected_reaches h n standing exits out marks leads place m k none NoStatements from last to st here is =
        subst (λ at. FlowsAt code begin rec sound h n standing out exits to (Begins code begin rec sound h n standing out at st) st.left (none st)) (sym here) is
    selected_reaches h n standing exits out marks leads place m k none (MoreStatements first others) from last to st here is =
        case_reaches code begin h n (flow_to exits out n to) place k from (suc here.1) here.0 st _ here.2
        (chosen_flow (flow_to exits out n to) h n (is_number (held_at place st) k) here.0 (suc here.1) st (statement rec h m first st) (selected rec h (after_statement m first) (suc k) (held_at place st) none others st)
        (led code begin rec sound h n standing out exits here.1 to _ st.left _ (λ after. jump_leads code begin rec sound h n standing out here.1 to after after.left here.4) (statement_reaches h n standing exits out marks leads m first here.0 here.1 st here.3))
        (selected_reaches h n standing exits out marks leads place (after_statement m first) (suc k) none others (suc here.1) last to st here.5 is))

    pub grouped_reaches : (h : Here) (n : Nest) (standing : Standing code h n) (exits : Exits) (out : Out) (marks : Marks n exits) (leads : Leads_out code begin h n exits.leaving out) (m : ℕ) (group : Group) (from to : ℕ) (st : State) → GroupAt code (site_of h) exits m group from to
        → FlowsAt code begin rec sound h n standing out exits to (Begins code begin rec sound h n standing out from st) st.left (grouped rec h m group st)
    grouped_reaches h n standing exits out marks leads m (Groups list close) from to st here = statements_reaches h n standing exits out marks leads m list from to st here

    pub statements_reaches : (h : Here) (n : Nest) (standing : Standing code h n) (exits : Exits) (out : Out) (marks : Marks n exits) (leads : Leads_out code begin h n exits.leaving out) (m : ℕ) (list : Statements) (from to : ℕ) (st : State) → StatementsAt code (site_of h) exits m list from to
        → FlowsAt code begin rec sound h n standing out exits to (Begins code begin rec sound h n standing out from st) st.left (statements rec h m list st)
    statements_reaches h n standing exits out marks leads m NoStatements from to st here = still code begin rec sound h n standing out exits from to st here
    statements_reaches h n standing exits out marks leads m (MoreStatements first others) from to st here =
        bind_on (setting code begin h) n (flow_to exits out n here.0) (flow_to exits out n to) _ st.left (statement rec h m first st)
        (λ flow after. goes_behind flow (λ begun. statements rec h (after_statement m first) others begun) after) (statement_reaches h n standing exits out marks leads m first from here.0 st here.1)
        (λ flow after. behind_reaches code begin rec sound h n standing out exits here.0 to (λ begun. statements rec h (after_statement m first) others begun) flow after
        (statements_reaches h n standing exits out marks leads (after_statement m first) others here.0 to after here.2))
