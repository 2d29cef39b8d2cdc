-- The code of statements that fit leads on.
use Rattle.std.specs.Prelude.{◌≡◌, ◌≤◌, ℕ, suc, Bool, true, false, List, [], ◌∷◌, Option, Some, None, slice_get}
use Rattle.std.proofs.Common.{refl, arith}
use Rattle.hal_grammar.specs.Leaves.{Naming}
use Rattle.hal_grammar.specs.Expressions.{Expression, Reference}
use Rattle.hal_grammar.specs.Statements.{Statement, Labelled, Basic, Null, Assignment, If, Do, DoCase, DoLoop, DoFor, Exit, Repeat, Return, Call, Read, Write, Event, Scheduled, UpdatePriority, Cancel, Terminate, Wait, WaitUntil, WaitForDependent, WaitFor, Update, OnErrorStatement, OnErrorResponse, OffError, SendError, Alternative, NoAlternative, Otherwise, Group, Groups, Statements, NoStatements, MoreStatements}
use Rattle.hal_meaning.specs.Events.{event_named}
use Rattle.hal_meaning.specs.Marks.{after_statement, after_alternative}
use Rattle.hal_meaning.specs.RealTime.{stated_at_mark}
use Rattle.hal_meaning.specs.Sets.{body_at}
use Rattle.hal_meaning.specs.Statements.{label_name, loop_place, end_place, update_groups}
use Rattle.hal_meaning.specs.Variables.{name_meant}
use Rattle.hal_code.specs.declared.choice.Choice.TheVariants as choice
use Rattle.hal_code.specs.declared.operand.EventChange.TheVariants as change
use Rattle.hal_code.specs.declared.operand.Response.TheVariants as response
use Rattle.hal_code.specs.Flow.{is_inside}
use Rattle.hal_code.specs.Sorts.{Sort, I, B}
use Rattle.hal_agreement.specs.Codes.{Code}
use Rattle.hal_agreement.specs.Sites.{Site, here_at, within_block, group_site}
use Rattle.hal_agreement.specs.PlacedExpressions.{ExpressionAt}
use Rattle.hal_agreement.specs.PlacedStatements.{Exits, opened, within_group, of_block, NoReturn, ReceiversAt, StatementAt, BasicAt, UncasedAt, CasesAt, SelectedAt, GroupAt, StatementsAt, response_of}
use Rattle.hal_fitting.specs.Fitting.{Ground, Fits}
use Rattle.hal_fitting.specs.Leading.{standing, Leads, IsAhead}
use Rattle.hal_fitting.proofs.Joining.{both_fit}
use Rattle.hal_fitting.proofs.Leading.{fits_lead, nothing_leads, both_lead}
use Rattle.hal_fit_expr.specs.Uses.{Uses}
use Rattle.hal_fit_expr.specs.Sorted.{sort_of_expression}
use Rattle.hal_fit_expr.specs.Serving.{Serves}
use Rattle.hal_fit_expr.proofs.Expressed.{expression_fits}
use Rattle.hal_fit.specs.Received.{is_assigned}
use Rattle.hal_fit.specs.Jumping.{Asked, MayLeave}
use Rattle.hal_fit.specs.Supporting.{Supports}
use Rattle.hal_fit.specs.Stating.{StatementFits, BasicFits, AlternativeFits, GroupFits, StatementsFit}
use Rattle.hal_fit.proofs.Combining.{from_before, asked_before, asked_within, asked_looping, asked_alone, less_leads, end_leads, jump_there, if_leads, else_leads, selected_leads, And}
use Rattle.hal_fit.proofs.Keeping.{keeps_fits, case_leads}
use Rattle.hal_fit.proofs.Looping.{loop_leads, spanned_leads}
use Rattle.hal_fit.proofs.Receiving.{receivers_there}
use Rattle.hal_fit.proofs.Calling.{called_fits}
use Rattle.hal_fit.proofs.Channeling.{written_fits, reads_lead}
use Rattle.hal_fit.proofs.Timing.{change_fits, dependents_fit, wait_fits, cancel_fits, terminate_fits, wait_for_fits, wait_until_fits, priority_fits, schedule_fits}
use Rattle.hal_fit.proofs.Returning.{return_leads, result_leads}
use Rattle.hal_fit.proofs.Handling.{off_fits, raise_fits, response_leads, handler_leads}
use Rattle.hal_fit.proofs.Updating.{update_leads}

-- where a DO FOR looks its names up, if it does in another block than what stands around it
abbrev site_at : Site → Option ℕ → Site
site_at site o = elim o [ None ↦ site | Some k ↦ within_block k site ]

supported_at : (code : Code) (g : Ground) (u : Bool → Uses) (site : Site) (o : Option ℕ) → Supports code g site.set site.places u → Supports code g (site_at site o).set (site_at site o).places u
supported_at code g u site None supports = supports
supported_at code g u site (Some k) supports = supports

-- it does so in the same set and with the same own places
pub supported_there : (code : Code) (g : Ground) (u : Bool → Uses) (site : Site) (temporary : Bool) (m : ℕ) → Supports code g site.set site.places u
    → Supports code g (group_site site temporary m).set (group_site site temporary m).places u
supported_there code g u site false m supports = supports
supported_there code g u site true m supports = supported_at code g u site (slice_get site.marks m) supports

module _ (code : Code) (g : Ground) (u : Bool → Uses) where
  -- what is known of a statement's surroundings
  pub record Stands (part : Option ℕ) (site : Site) (exits : Exits) : Type 0 where
    pub supports : Supports code g site.set site.places u
    pub may : MayLeave code.image (standing part g) exits.leaving

  -- what an image has for expressions there
  pub serves_there : (part : Option ℕ) (site : Site) → Supports code g site.set site.places u → Serves code (standing part g) site.set site.places (u (is_inside part))
  serves_there part site supports = supports.serves (is_inside part)

  pub number_fits : (part : Option ℕ) (site : Site) (tree : Expression) (s : Sort) (from to : ℕ) → Supports code g site.set site.places u → sort_of_expression (u (is_inside part)) site tree ≡ Some s
      → ExpressionAt code site tree from to → Fits code.image (standing part g) from [] to (s ∷ [])
  number_fits part site tree s from to supports sorted at = expression_fits code (standing part g) site (u (is_inside part)) (serves_there part site supports) tree s from to [] sorted at

  -- an assignment
  pub assigned_by : (part : Option ℕ) (site : Site) (receivers : List Reference) (o : Option Sort) (from middle to : ℕ) → Supports code g site.set site.places u → is_assigned (u (is_inside part)) site receivers o ≡ true
      → ((s : Sort) → o ≡ Some s → Fits code.image (standing part g) from [] middle (s ∷ [])) → ReceiversAt code site receivers middle to → Fits code.image (standing part g) from [] to []
  assigned_by part site receivers None from middle to supports fits each at = absurd (cc)
  assigned_by part site receivers (Some s) from middle to supports fits each at =
      both_fit code.image (standing part g) (each s refl) (receivers_there code (standing part g) site (u (is_inside part)) (serves_there part site supports) receivers s middle to [] fits at)

  -- up to an end that lies further on
  further_leads : (part : Option ℕ) (exits : Exits) (from end to : ℕ) → end ≤ to → Leads code.image g (Asked code.image g part exits end) part from [] end [] → Leads code.image g (Asked code.image g part exits to) part from [] end []
  further_leads part exits from end to onward leads =
      less_leads code.image g part (Asked code.image g part exits to) (Asked code.image g part exits end) from end [] [] (λ asked. asked_before code.image g part exits end to onward asked) leads

  fitting : (part : Option ℕ) (exits : Exits) (from to : ℕ) → Fits code.image (standing part g) from [] to [] → Leads code.image g (Asked code.image g part exits to) part from [] to []
  fitting part exits from to fits = fits_lead code.image g (Asked code.image g part exits to) part from to [] [] fits

  mutual
    pub statement_leads : (tree : Statement) (part : Option ℕ) (site : Site) (exits : Exits) (m from to : ℕ) → Stands part site exits → StatementFits code.image g u (is_inside part) site m tree
        → StatementAt code site exits m tree from to → Leads code.image g (Asked code.image g part exits to) part from [] to []
    statement_leads (Labelled labels basic) part site exits m from to stands fits at = basic_leads basic labels part site exits m from to stands fits at

    basic_leads : (basic : Basic) (labels : List Naming) (part : Option ℕ) (site : Site) (exits : Exits) (m from to : ℕ) → Stands part site exits → BasicFits code.image g u (is_inside part) site m basic
        → BasicAt code site exits m labels basic from to → Leads code.image g (Asked code.image g part exits to) part from [] to []
    basic_leads (Null place) labels part site exits m from to stands fits at = nothing_leads code.image g (Asked code.image g part exits to) part from to [] at
    basic_leads (Assignment place receivers tree) labels part site exits m from to stands fits at =
        fitting part exits from to
        (assigned_by part site receivers (sort_of_expression (u (is_inside part)) site tree) from at.0 to stands.supports fits (λ s sorted. number_fits part site tree s from at.0 stands.supports sorted at.1) at.2)
    basic_leads (If place condition consequence NoAlternative) labels part site exits m from to stands fits at =
        if_leads code.image g part (Asked code.image g part exits to) from at.3.0 at.1 at.2 at.0 to (number_fits part site condition B from at.3.0 stands.supports fits.0 at.3.1) at.3.2.0 at.3.2.1
        (further_leads part exits at.1 at.2 to (let last = at.5.0 in omega (arith, last)) (statement_leads consequence part site exits m at.1 at.2 stands fits.1 at.4)) at.5.0 at.5.1
    basic_leads (If place condition consequence (Otherwise one)) labels part site exits m from to stands fits at =
        let other = statement_leads one part site exits (after_statement m consequence) at.0 to stands fits.2 at.5.2 in
        else_leads code.image g part (Asked code.image g part exits to) from at.3.0 at.1 at.2 at.0 to (number_fits part site condition B from at.3.0 stands.supports fits.0 at.3.1) at.3.2.0 at.3.2.1
        (further_leads part exits at.1 at.2 to (let behind = at.5.1 in let onward = other.onward in omega (arith, behind, onward)) (statement_leads consequence part site exits m at.1 at.2 stands fits.1 at.4)) at.5.0 at.5.1 other
    basic_leads (Do place group) labels part site exits m from to stands fits at =
        end_leads code.image g part (Asked code.image g part exits to) (Asked code.image g part (within_group (opened labels to None) exits) to) from to [] [] (λ asked comes. asked_within code.image g part exits labels to asked comes)
        (group_leads group part site (within_group (opened labels to None) exits) (suc m) from to (record { supports = stands.supports; may = stands.may }) fits at)
    basic_leads (DoCase place number alternative group) labels part site exits m from to stands fits at =
        let inner : Stands part site (within_group (opened labels to None) exits) = record { supports = stands.supports; may = stands.may } in
        let none = uncased_leads alternative part site (within_group (opened labels to None) exits) (suc m) at.2 to inner fits.2 at.6 in
        end_leads code.image g part (Asked code.image g part exits to) (Asked code.image g part (within_group (opened labels to None) exits) to) from to [] [] (λ asked comes. asked_within code.image g part exits labels to asked comes)
        (both_lead code.image g (Asked code.image g part (within_group (opened labels to None) exits) to) part
        (fits_lead code.image g (Asked code.image g part (within_group (opened labels to None) exits) to) part from at.1 [] []
        (both_fit code.image (standing part g) (number_fits part site number I from at.0 stands.supports fits.0 at.3)
        (keeps_fits code (standing part g) (serves_there part site stands.supports).own (loop_place (here_at site) m) at.0 at.1 [] at.4)))
        (both_lead code.image g (Asked code.image g part (within_group (opened labels to None) exits) to) part
        (cases_lead group part site (within_group (opened labels to None) exits) (loop_place (here_at site) m) (after_alternative (suc m) alternative) at.1 at.2 to inner (λ asked. asked.leaves None to refl) none.onward fits.1 at.5) none))
    basic_leads (DoLoop place guard group) labels part site exits m from to stands fits at =
        loop_leads code g part site (u (is_inside part)) (serves_there part site stands.supports) (Asked code.image g part exits to) (Asked code.image g part (within_group (opened labels to (Some at.1)) exits) at.1) guard from at.0 at.1 to fits.0 at.2 at.3
        (λ all. asked_looping code.image g part exits labels at.1 to all.outer all.onward all.ended all.passed)
        (group_leads group part site (within_group (opened labels to (Some at.1)) exits) (suc m) (suc at.0) at.1 (record { supports = stands.supports; may = stands.may }) fits.1 at.4) at.5
    basic_leads (DoFor place temporary variable span guard group) labels part site exits m from to stands fits at =
        let supports = supported_there code g u site temporary m stands.supports in
        spanned_leads code g part (group_site site temporary m) (u (is_inside part)) (serves_there part (group_site site temporary m) supports) span
        (λ begin end. GroupAt code (group_site site temporary m) (within_group (opened labels to (Some at.0)) exits) (suc m) group begin end) (Asked code.image g part exits to)
        (Asked code.image g part (within_group (opened labels to (Some at.0)) exits) at.0) variable.name (end_place (here_at site) temporary m) guard from at.0 to fits.0 at.1
        (λ turn all. asked_looping code.image g part exits labels at.0 to all.outer all.onward all.ended all.passed)
        (λ begin there. group_leads group part (group_site site temporary m) (within_group (opened labels to (Some at.0)) exits) (suc m) begin at.0 (record { supports = supports; may = stands.may }) fits.1 there)
    basic_leads (Exit place label) labels part site exits m from to stands fits at =
        jump_there code.image g part (Asked code.image g part exits to) from at.0 to at.2.0 at.2.1 (λ asked. asked.leaves (label_name label) at.0 at.1)
    basic_leads (Repeat place label) labels part site exits m from to stands fits at =
        jump_there code.image g part (Asked code.image g part exits to) from at.0 to at.2.0 at.2.1 (λ asked. asked.repeats (label_name label) at.0 at.1)
    basic_leads (Return place None) labels part site exits m from to stands fits at =
        return_leads code g part exits.leaving (Asked code.image g part exits to) from to stands.may at (λ asked target is. asked.finishes target is)
    basic_leads (Return place (Some tree)) labels part site exits m from to stands fits at =
        result_leads code g part (Asked code.image g part exits to) (body_at site.set site.unit) exits.leaving fits.sort fits.given fits.left from at.0 at.1 to stands.may at.4
        (number_fits part site tree fits.sort from at.0 stands.supports fits.sorted at.2) fits.becomes at.3 fits.taken at.5
    basic_leads (Call place name arguments receivers) labels part site exits m from to stands fits at =
        fitting part exits from to
        (called_fits code (standing part g) site (u (is_inside part)) (serves_there part site stands.supports) (name_meant (here_at site) name.name []) arguments receivers from to [] fits stands.supports.results
        (λ unit calls. stands.supports.references (is_inside part) unit calls) (at []))
    basic_leads (Read place channel receivers) labels part site exits m from to stands fits at =
        reads_lead code g part site (u (is_inside part)) (serves_there part site stands.supports) receivers (Asked code.image g part exits to) at.0 from to fits.0 (fits.1 at.0 at.1) fits.2 at.2
    basic_leads (Write place channel items) labels part site exits m from to stands fits at =
        fitting part exits from to
        (written_fits code g part site (u (is_inside part)) (serves_there part site stands.supports) channel items at.0 from at.1 to fits.0 fits.1 fits.2 at.2 at.3 at.4)
    basic_leads (Update place body close) labels part site exits m from to stands fits at =
        update_leads code.image g part fits.0 (update_groups (here_at site) m) from at.1 to at.2 at.5.0 at.5.1 (λ n. Asked code.image g (Some n) (of_block NoReturn at.0) at.1) (λ n. asked_alone code.image g (Some n) at.0 at.1)
        (λ n. statements_lead body (Some n) site (of_block NoReturn at.0) (suc m) (suc from) at.1 (record { supports = stands.supports; may = tt }) fits.1 at.3) (Asked code.image g part exits to)
    basic_leads (Scheduled place s) labels part site exits m from to stands fits at =
        fitting part exits from to
        (schedule_fits code (standing part g) fits.0 site stands.supports.tables (u (is_inside part)) (serves_there part site stands.supports) s m from to fits.1 at)
    basic_leads (Cancel place names) labels part site exits m from to stands fits at =
        fitting part exits from to (cancel_fits code (standing part g) fits site stands.supports.tables names from to at)
    basic_leads (Terminate place names) labels part site exits m from to stands fits at =
        fitting part exits from to (terminate_fits code (standing part g) fits site stands.supports.tables names from to at)
    basic_leads (Wait place tree) labels part site exits m from to stands fits at =
        fitting part exits from to
        (wait_for_fits code (standing part g) fits.0 site stands.supports.tables (u (is_inside part)) (serves_there part site stands.supports) tree from to fits.1 at)
    basic_leads (WaitUntil place tree) labels part site exits m from to stands fits at =
        fitting part exits from to
        (wait_until_fits code (standing part g) fits.0 site stands.supports.tables (u (is_inside part)) (serves_there part site stands.supports) tree from to fits.1 at)
    basic_leads (WaitForDependent place) labels part site exits m from to stands fits at = fitting part exits from to (dependents_fit code (standing part g) fits from to at)
    basic_leads (WaitFor place tree) labels part site exits m from to stands fits at =
        fitting part exits from to (wait_fits code (standing part g) fits site stands.supports.tables (stated_at_mark (here_at site) m) from to at)
    basic_leads (Event e) labels part site exits m from to stands fits at =
        fitting part exits from to (change_fits code (standing part g) fits.0 e.action (event_named site.set.phrases site.block e.name.name) from to fits.1 at)
    basic_leads (UpdatePriority place name tree) labels part site exits m from to stands fits at =
        fitting part exits from to
        (priority_fits code (standing part g) fits.0 site stands.supports.tables (u (is_inside part)) (serves_there part site stands.supports) name tree from to fits.1 at)
    basic_leads (OnErrorStatement place s handler) labels part site exits m from to stands fits at =
        handler_leads code g part (Asked code.image g part exits to) at.0 at.1 from to
        at.2.right at.3 at.4
        (statement_leads handler part site exits (suc m) (suc (suc from)) to stands fits at.6)
    basic_leads (OnErrorResponse place s r e) labels part site exits m from to stands fits at =
        response_leads code g part (Asked code.image g part exits to) site r e at.2 at.0 at.1 at.3 from to
        at.4.right at.5 fits at.6
    basic_leads (OffError place s) labels part site exits m from to stands fits at =
        fitting part exits from to (off_fits code (standing part g) at.0 at.1 from to at.2.right at.3)
    basic_leads (SendError place group_at group number_at number) labels part site exits m from to stands fits at = fitting part exits from to (raise_fits code (standing part g) group number from to fits at)

    -- what DO CASE does where its number selects no statement
    uncased_leads : (alternative : Alternative) (part : Option ℕ) (site : Site) (exits : Exits) (m from to : ℕ) → Stands part site exits → AlternativeFits code.image g u (is_inside part) site m alternative
        → UncasedAt code site exits m alternative from to → Leads code.image g (Asked code.image g part exits to) part from [] to []
    uncased_leads NoAlternative part site exits m from to stands fits at = fitting part exits from to (raise_fits code (standing part g) 1 6 from to refl at)
    uncased_leads (Otherwise one) part site exits m from to stands fits at = statement_leads one part site exits m from to stands fits at

    -- the statements of DO CASE
    cases_lead : (group : Group) (part : Option ℕ) (site : Site) (exits : Exits) (place m from none to : ℕ) → Stands part site exits → (Asked code.image g part exits to → IsAhead code.image g part to to) → none ≤ to
        → GroupFits code.image g u (is_inside part) site m group → CasesAt code site exits place m group from none to → Leads code.image g (Asked code.image g part exits to) part from [] none []
    cases_lead (Groups list close) part site exits place m from none to stands ends onward fits at = selections_lead list part site exits place m 1 from none to stands ends onward fits at

    selections_lead : (list : Statements) (part : Option ℕ) (site : Site) (exits : Exits) (place m k from none to : ℕ) → Stands part site exits → (Asked code.image g part exits to → IsAhead code.image g part to to) → none ≤ to
        → StatementsFit code.image g u (is_inside part) site m list → SelectedAt code site exits place m k list from none to → Leads code.image g (Asked code.image g part exits to) part from [] none []
    selections_lead NoStatements part site exits place m k from none to stands ends onward fits at = nothing_leads code.image g (Asked code.image g part exits to) part from none [] at
    selections_lead (MoreStatements first others) part site exits place m k from none to stands ends onward fits at =
        let one = statement_leads first part site exits m at.0 at.1 stands fits.0 at.3 in
        let rest = selections_lead others part site exits place (after_statement m first) (suc k) (suc at.1) none to stands ends onward fits.1 at.5 in
        selected_leads code.image g part (Asked code.image g part exits to) from at.0 at.1 none to
        (case_leads code g part (serves_there part site stands.supports).own (And code.image g part (Asked code.image g part exits to) (suc at.1)) place k from (suc at.1) at.0 at.2
        (λ both. record { ahead = let inner = one.onward in omega (arith, inner); comes = both.1 }))
        (further_leads part exits at.0 at.1 to (let later = rest.onward in omega (arith, later, onward)) one) at.4 (λ asked. from_before code.image g part none to to onward (ends asked)) rest

    group_leads : (group : Group) (part : Option ℕ) (site : Site) (exits : Exits) (m from to : ℕ) → Stands part site exits → GroupFits code.image g u (is_inside part) site m group
        → GroupAt code site exits m group from to → Leads code.image g (Asked code.image g part exits to) part from [] to []
    group_leads (Groups list close) part site exits m from to stands fits at = statements_lead list part site exits m from to stands fits at

    pub statements_lead : (list : Statements) (part : Option ℕ) (site : Site) (exits : Exits) (m from to : ℕ) → Stands part site exits → StatementsFit code.image g u (is_inside part) site m list
        → StatementsAt code site exits m list from to → Leads code.image g (Asked code.image g part exits to) part from [] to []
    statements_lead NoStatements part site exits m from to stands fits at = nothing_leads code.image g (Asked code.image g part exits to) part from to [] at
    statements_lead (MoreStatements first others) part site exits m from to stands fits at =
        let rest = statements_lead others part site exits (after_statement m first) at.0 to stands fits.1 at.2 in
        both_lead code.image g (Asked code.image g part exits to) part
        (further_leads part exits from at.0 to rest.onward (statement_leads first part site exits m from at.0 stands fits.0 at.1)) rest
