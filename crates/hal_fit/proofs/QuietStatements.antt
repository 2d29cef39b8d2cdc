-- The code of statements that fit inside of an UPDATE block asks nothing. RETURN is among them: so may stand what a unit does that is called there.
use Rattle.std.specs.Prelude.{◌≡◌, ℕ, suc, Bool, true, List, [], ◌∷◌, Option, Some, None}
use Rattle.std.proofs.Common.{refl, sym}
use Rattle.hal_grammar.specs.Leaves.{Naming}
use Rattle.hal_grammar.specs.Expressions.{Expression}
use Rattle.hal_grammar.specs.Statements.{Statement, Labelled, Basic, Null, Assignment, If, Do, DoCase, DoLoop, DoFor, Exit, Repeat, Return, Call, Read, Write, Event, Scheduled, UpdatePriority, Cancel, Terminate, Wait, WaitUntil, WaitForDependent, WaitFor, Update, OnErrorStatement, OnErrorResponse, OffError, SendError, Alternative, NoAlternative, Otherwise, Group, Groups, Statements, NoStatements, MoreStatements}
use Rattle.hal_meaning.specs.Marks.{after_statement, after_alternative}
use Rattle.hal_meaning.specs.Sets.{body_at}
use Rattle.hal_meaning.specs.Statements.{loop_place, end_place}
use Rattle.hal_meaning.specs.Variables.{name_meant}
use Rattle.hal_code.specs.declared.instr.Instr.TheVariants as instr
use Rattle.hal_code.specs.declared.operand.EventChange.TheVariants as change
use Rattle.hal_code.specs.declared.operand.Response.TheVariants as response
use Rattle.hal_code.specs.Effects.{Sorts}
use Rattle.hal_code.specs.Sorts.{Sort, I}
use Rattle.hal_agreement.specs.Codes.{Code}
use Rattle.hal_agreement.specs.Sites.{Site, here_at, group_site}
use Rattle.hal_agreement.specs.PlacedExpressions.{ExpressionAt}
use Rattle.hal_agreement.specs.PlacedStatements.{Exits, Leaving, ToFinish, ByReturn, ByResult, NoReturn, opened, within_group, ReturnAt, StatementAt, BasicAt, AlternativeAt, UncasedAt, CasesAt, SelectedAt, GroupAt, StatementsAt, sets, response_of}
use Rattle.hal_fitting.specs.Fitting.{Ground, Fits}
use Rattle.hal_fitting.specs.Leading.{standing}
use Rattle.hal_fit_expr.specs.Uses.{Uses}
use Rattle.hal_fit_expr.specs.Sorted.{sort_of_expression}
use Rattle.hal_fit.specs.Quiet.{IsQuiet}
use Rattle.hal_fit.specs.Supporting.{Supports}
use Rattle.hal_fit.specs.Stating.{StatementFits, BasicFits, AlternativeFits, GroupFits, StatementsFit}
use Rattle.hal_fit.proofs.Calling.{called_fits}
use Rattle.hal_fit.proofs.Keeping.{keeps_fits}
use Rattle.hal_fit.proofs.Quiet.{nothing_quiet, one_quiet, both_quiet, fits_quiet}
use Rattle.hal_fit.proofs.QuietLoops.{case_quiet, condition_quiet, first_test_quiet, test_quiet, spanned_quiet}
use Rattle.hal_fit.proofs.Returning.{becomes_fits}
use Rattle.hal_fit.proofs.Stating.{supported_there, serves_there, number_fits, assigned_by}

module _ (code : Code) (g : Ground) (u : Bool → Uses) where
  fitting : {from to : ℕ} {stack after : Sorts} → Fits code.image (standing (Some 0) g) from stack to after → IsQuiet code.image g.out from to
  fitting fits = fits_quiet code.image (standing (Some 0) g) refl fits

  valued : (site : Site) (tree : Expression) (s : Sort) (from to : ℕ) → Supports code g site.set site.places u → sort_of_expression (u true) site tree ≡ Some s → ExpressionAt code site tree from to → IsQuiet code.image g.out from to
  valued site tree s from to supports sorted at = fitting (number_fits code g u (Some 0) site tree s from to supports sorted at)

  -- RETURN without a value
  return_quiet : (leaving : Leaving) (from to : ℕ) → ReturnAt code leaving from to → IsQuiet code.image g.out from to
  return_quiet (ToFinish target) from to at = one_quiet code.image g.out (instr.Jump target) at.0 refl at.1
  return_quiet ByReturn from to at = one_quiet code.image g.out instr.Return at.0 refl at.1
  return_quiet ByResult from to at = absurd (at)
  return_quiet NoReturn from to at = absurd (at)

  mutual
    statement_quiet : (tree : Statement) (site : Site) (exits : Exits) (m from to : ℕ) → Supports code g site.set site.places u → StatementFits code.image g u true site m tree
        → StatementAt code site exits m tree from to → IsQuiet code.image g.out from to
    statement_quiet (Labelled labels basic) site exits m from to supports fits at = basic_quiet basic labels site exits m from to supports fits at

    basic_quiet : (basic : Basic) (labels : List Naming) (site : Site) (exits : Exits) (m from to : ℕ) → Supports code g site.set site.places u → BasicFits code.image g u true site m basic
        → BasicAt code site exits m labels basic from to → IsQuiet code.image g.out from to
    basic_quiet (Null place) labels site exits m from to supports fits at = nothing_quiet code.image g.out at
    basic_quiet (Assignment place receivers tree) labels site exits m from to supports fits at =
        fitting
        (assigned_by code g u (Some 0) site receivers (sort_of_expression (u true) site tree) from at.0 to supports fits (λ s sorted. number_fits code g u (Some 0) site tree s from at.0 supports sorted at.1) at.2)
    basic_quiet (If place condition consequence alternative) labels site exits m from to supports fits at =
        both_quiet code.image g.out (condition_quiet code g site (u true) (serves_there code g u (Some 0) site supports) condition from at.0 at.1 fits.0 at.3)
        (both_quiet code.image g.out (statement_quiet consequence site exits m at.1 at.2 supports fits.1 at.4)
        (alternative_quiet alternative site exits (after_statement m consequence) at.2 at.0 to supports fits.2 at.5))
    basic_quiet (Do place group) labels site exits m from to supports fits at = group_quiet group site (within_group (opened labels to None) exits) (suc m) from to supports fits at
    basic_quiet (DoCase place number alternative group) labels site exits m from to supports fits at =
        both_quiet code.image g.out (valued site number I from at.0 supports fits.0 at.3)
        (both_quiet code.image g.out (fitting (keeps_fits code (standing (Some 0) g) (serves_there code g u (Some 0) site supports).own (loop_place (here_at site) m) at.0 at.1 [] at.4))
        (both_quiet code.image g.out
        (cases_quiet group site (within_group (opened labels to None) exits) (loop_place (here_at site) m) (after_alternative (suc m) alternative) at.1 at.2 to supports fits.1 at.5)
        (uncased_quiet alternative site (within_group (opened labels to None) exits) (suc m) at.2 to supports fits.2 at.6)))
    basic_quiet (DoLoop place guard group) labels site exits m from to supports fits at =
        both_quiet code.image g.out (first_test_quiet code g site (u true) (serves_there code g u (Some 0) site supports) guard from to at.0 fits.0 at.2)
        (both_quiet code.image g.out (one_quiet code.image g.out (instr.Turn to) at.3 refl refl)
        (both_quiet code.image g.out (group_quiet group site (within_group (opened labels to (Some at.1)) exits) (suc m) (suc at.0) at.1 supports fits.1 at.4)
        (test_quiet code g site (u true) (serves_there code g u (Some 0) site supports) guard at.1 at.0 to fits.0 at.5)))
    basic_quiet (DoFor place temporary variable span guard group) labels site exits m from to supports fits at =
        let there = supported_there code g u site temporary m supports in
        spanned_quiet code g (group_site site temporary m) (u true) (serves_there code g u (Some 0) (group_site site temporary m) there) span
        (λ begin end. GroupAt code (group_site site temporary m) (within_group (opened labels to (Some at.0)) exits) (suc m) group begin end) variable.name (end_place (here_at site) temporary m) guard from at.0 to
        fits.0 at.1
        (λ begin is. group_quiet group (group_site site temporary m) (within_group (opened labels to (Some at.0)) exits) (suc m) begin at.0 there fits.1 is)
    basic_quiet (Exit place label) labels site exits m from to supports fits at = one_quiet code.image g.out (instr.Jump at.0) at.2.0 refl at.2.1
    basic_quiet (Repeat place label) labels site exits m from to supports fits at = one_quiet code.image g.out (instr.Jump at.0) at.2.0 refl at.2.1
    basic_quiet (Return place None) labels site exits m from to supports fits at = return_quiet exits.leaving from to at
    basic_quiet (Return place (Some tree)) labels site exits m from to supports fits at =
        both_quiet code.image g.out (valued site tree fits.sort from at.0 supports fits.sorted at.2)
        (both_quiet code.image g.out (fitting (becomes_fits code (standing (Some 0) g) (body_at site.set site.unit) fits.sort fits.given at.0 at.1 fits.becomes at.3))
        (one_quiet code.image g.out instr.Return at.5.0 refl at.5.1))
    basic_quiet (Call place name arguments receivers) labels site exits m from to supports fits at =
        fitting
        (called_fits code (standing (Some 0) g) site (u true) (serves_there code g u (Some 0) site supports) (name_meant (here_at site) name.name []) arguments receivers from to [] fits supports.results
        (λ unit calls. supports.references true unit calls) (at []))
    basic_quiet (Read place channel receivers) labels site exits m from to supports fits at = let no = fits.0 in absurd (cc)
    basic_quiet (Write place channel items) labels site exits m from to supports fits at = let no = fits.0 in absurd (cc)
    basic_quiet (Update place body close) labels site exits m from to supports fits at = let no = fits.0 in absurd (cc)
    basic_quiet (Scheduled place s) labels site exits m from to supports fits at = let no = fits.0 in absurd (cc)
    basic_quiet (Cancel place names) labels site exits m from to supports fits at = absurd (cc)
    basic_quiet (Terminate place names) labels site exits m from to supports fits at = absurd (cc)
    basic_quiet (Wait place tree) labels site exits m from to supports fits at = let no = fits.0 in absurd (cc)
    basic_quiet (WaitUntil place tree) labels site exits m from to supports fits at = let no = fits.0 in absurd (cc)
    basic_quiet (WaitForDependent place) labels site exits m from to supports fits at = absurd (cc)
    basic_quiet (WaitFor place tree) labels site exits m from to supports fits at = absurd (cc)
    basic_quiet (Event e) labels site exits m from to supports fits at = let no = fits.0 in absurd (cc)
    basic_quiet (UpdatePriority place name tree) labels site exits m from to supports fits at = let no = fits.0 in absurd (cc)
    basic_quiet (OnErrorStatement place s handler) labels site exits m from to supports fits at =
        both_quiet code.image g.out (one_quiet code.image g.out (sets at.0 at.1 response.Statement change.Nothing 0 (suc (suc from))) at.3 refl refl)
        (both_quiet code.image g.out (one_quiet code.image g.out (instr.Jump to) at.4 refl refl) (statement_quiet handler site exits (suc m) (suc (suc from)) to supports fits at.6))
    basic_quiet (OnErrorResponse place s r e) labels site exits m from to supports fits at = one_quiet code.image g.out (sets at.0 at.1 (response_of r) at.2 at.3 0) at.6.0 refl at.6.1
    basic_quiet (OffError place s) labels site exits m from to supports fits at = one_quiet code.image g.out (instr.Off at.0 at.1) at.3.0 refl at.3.1
    basic_quiet (SendError place group_at group number_at number) labels site exits m from to supports fits at = one_quiet code.image g.out (instr.Raise group number) at.0 refl at.1

    -- what stands after ELSE, behind the consequence
    alternative_quiet : (alternative : Alternative) (site : Site) (exits : Exits) (m end other to : ℕ) → Supports code g site.set site.places u → AlternativeFits code.image g u true site m alternative
        → AlternativeAt code site exits m alternative end other to → IsQuiet code.image g.out end to
    alternative_quiet NoAlternative site exits m end other to supports fits at = nothing_quiet code.image g.out at.0
    alternative_quiet (Otherwise one) site exits m end other to supports fits at =
        both_quiet code.image g.out (one_quiet code.image g.out (instr.Jump to) at.0 refl (sym at.1)) (statement_quiet one site exits m other to supports fits at.2)

    -- what DO CASE does where its number selects no statement
    uncased_quiet : (alternative : Alternative) (site : Site) (exits : Exits) (m from to : ℕ) → Supports code g site.set site.places u → AlternativeFits code.image g u true site m alternative
        → UncasedAt code site exits m alternative from to → IsQuiet code.image g.out from to
    uncased_quiet NoAlternative site exits m from to supports fits at = one_quiet code.image g.out (instr.Raise 1 6) at.0 refl at.1
    uncased_quiet (Otherwise one) site exits m from to supports fits at = statement_quiet one site exits m from to supports fits at

    cases_quiet : (group : Group) (site : Site) (exits : Exits) (place m from none to : ℕ) → Supports code g site.set site.places u → GroupFits code.image g u true site m group
        → CasesAt code site exits place m group from none to → IsQuiet code.image g.out from none
    cases_quiet (Groups list close) site exits place m from none to supports fits at = selections_quiet list site exits place m 1 from none to supports fits at

    selections_quiet : (list : Statements) (site : Site) (exits : Exits) (place m k from none to : ℕ) → Supports code g site.set site.places u → StatementsFit code.image g u true site m list
        → SelectedAt code site exits place m k list from none to → IsQuiet code.image g.out from none
    selections_quiet NoStatements site exits place m k from none to supports fits at = nothing_quiet code.image g.out at
    selections_quiet (MoreStatements first others) site exits place m k from none to supports fits at =
        both_quiet code.image g.out (case_quiet code g site (u true) (serves_there code g u (Some 0) site supports) place k from (suc at.1) at.0 at.2)
        (both_quiet code.image g.out (statement_quiet first site exits m at.0 at.1 supports fits.0 at.3)
        (both_quiet code.image g.out (one_quiet code.image g.out (instr.Jump to) at.4 refl refl)
        (selections_quiet others site exits place (after_statement m first) (suc k) (suc at.1) none to supports fits.1 at.5)))

    group_quiet : (group : Group) (site : Site) (exits : Exits) (m from to : ℕ) → Supports code g site.set site.places u → GroupFits code.image g u true site m group
        → GroupAt code site exits m group from to → IsQuiet code.image g.out from to
    group_quiet (Groups list close) site exits m from to supports fits at = statements_quiet list site exits m from to supports fits at

    pub statements_quiet : (list : Statements) (site : Site) (exits : Exits) (m from to : ℕ) → Supports code g site.set site.places u → StatementsFit code.image g u true site m list
        → StatementsAt code site exits m list from to → IsQuiet code.image g.out from to
    statements_quiet NoStatements site exits m from to supports fits at = nothing_quiet code.image g.out at
    statements_quiet (MoreStatements first others) site exits m from to supports fits at =
        both_quiet code.image g.out (statement_quiet first site exits m from at.0 supports fits.0 at.1)
        (statements_quiet others site exits (after_statement m first) at.0 to supports fits.1 at.2)
