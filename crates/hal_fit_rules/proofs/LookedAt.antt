-- Where the same is used inside of UPDATE blocks and outside, it doesn't matter for names where statements are looked at as standing.
use Rattle.std.proofs.Common.{ℕ, suc, Bool, true, false, List, length, Some, None}
use Rattle.hal_grammar.specs.Leaves.{Naming}
use Rattle.hal_grammar.specs.Statements.{Statement, Labelled, Basic, Assignment, Null, If, Do, DoCase, DoLoop, DoFor, Exit, Repeat, Return, Call, Read, Write, Event, Scheduled, UpdatePriority, Cancel, Terminate, Wait, WaitUntil, WaitForDependent, WaitFor, Update, OnErrorStatement, OnErrorResponse, OffError, SendError, Alternative, NoAlternative, Otherwise, Group, Groups, Statements, NoStatements, MoreStatements}
use Rattle.hal_phrases.specs.declared.around.Around.{Around}
use Rattle.hal_phrases.specs.declared.role.Role.TheVariants as role
use Rattle.hal_phrases.specs.Surroundings.{inside, grouped}
use Rattle.hal_phrases.specs.Phrases.{Phrase, add, gathered_each, gathered_any, OfGroup, OfHandler}
use Rattle.hal_phrases.specs.GatheredExpressions.{below, gathered}
use Rattle.hal_phrases.specs.GatheredStatements.{gathered_label, gathered_guard, gathered_span, begun_for, around_for, gathered_statement, gathered_alternative}
use Rattle.hal_meaning.specs.Marks.{after_statement, after_alternative}
use Rattle.hal_code.specs.declared.image.ImageParts.{ImageParts}
use Rattle.hal_agreement.specs.Sites.{Site, group_site}
use Rattle.hal_fitting.specs.Fitting.{Ground}
use Rattle.hal_fit_expr.specs.Uses.{Uses}
use Rattle.hal_fit_rules.specs.Stated.{StatementAgrees, BasicAgrees, AlternativeAgrees, GroupAgrees, StatementsAgree}

module _ (image : ImageParts) (g : Ground) (v : Uses) (ps : List Phrase) (one other : Bool) where
  mutual
    statement_any : (site : Site) (m : ℕ) (d : List Phrase) (a : Around) (x : Statement) → StatementAgrees image g (λ inside. v) ps one site m d a x → StatementAgrees image g (λ inside. v) ps other site m d a x
    statement_any site m d a (Labelled labels basic) agree = basic_any site m (gathered_each (gathered_label a) d labels) a labels basic agree

    basic_any : (site : Site) (m : ℕ) (d : List Phrase) (a : Around) (labels : List Naming) (x : Basic) → BasicAgrees image g (λ inside. v) ps one site m d a labels x
        → BasicAgrees image g (λ inside. v) ps other site m d a labels x
    basic_any site m d a labels (If p condition consequence alternative) agree = (
      agree.0,
      statement_any site m (gathered d a role.Condition condition) (inside a) consequence agree.1,
      alternative_any site (after_statement m consequence) (gathered_statement (gathered d a role.Condition condition) (inside a) consequence) (inside a) alternative agree.2,
    )
    basic_any site m d a labels (Do p group) agree = group_any site (suc m) (add d a (OfGroup labels false)) (grouped (length d) a) group agree
    basic_any site m d a labels (DoCase p number alternative group) agree = (
      agree.0,
      group_any site (after_alternative (suc m) alternative) (gathered_alternative (gathered (add d a (OfGroup labels false)) (below d a) role.Case number) (grouped (length d) a) alternative) (grouped (length d) a) group agree.1,
      alternative_any site (suc m) (gathered (add d a (OfGroup labels false)) (below d a) role.Case number) (grouped (length d) a) alternative agree.2,
    )
    basic_any site m d a labels (DoLoop p guard group) agree =
        (agree.0, group_any site (suc m) (gathered_guard (below d a) (add d a (OfGroup labels true)) guard) (grouped (length d) a) group agree.1)
    basic_any site m d a labels (DoFor p temporary variable span guard group) agree = (
      agree.0,
      group_any (group_site site temporary m) (suc m)
          (gathered_any (gathered_guard (around_for d a temporary)) (gathered_span (begun_for d a labels temporary variable) (around_for d a temporary) span) guard) (around_for d a temporary) group agree.1,
    )
    basic_any site m d a labels (OnErrorStatement p s handler) agree = statement_any site (suc m) (add d a (OfHandler p s)) (inside a) handler agree
    basic_any site m d a labels (Null p) agree = agree
    basic_any site m d a labels (Exit p label) agree = agree
    basic_any site m d a labels (Repeat p label) agree = agree
    basic_any site m d a labels (Cancel p names) agree = agree
    basic_any site m d a labels (Terminate p names) agree = agree
    basic_any site m d a labels (WaitForDependent p) agree = agree
    basic_any site m d a labels (WaitFor p tree) agree = agree
    basic_any site m d a labels (OffError p s) agree = agree
    basic_any site m d a labels (SendError p group_at group number_at number) agree = agree
    basic_any site m d a labels (Write p channel items) agree = agree
    basic_any site m d a labels (Read p channel receivers) agree = agree
    basic_any site m d a labels (Scheduled p s) agree = agree
    basic_any site m d a labels (Wait p tree) agree = agree
    basic_any site m d a labels (WaitUntil p tree) agree = agree
    basic_any site m d a labels (UpdatePriority p name tree) agree = agree
    basic_any site m d a labels (OnErrorResponse p s response e) agree = agree
    basic_any site m d a labels (Event e) agree = agree
    basic_any site m d a labels (Return p None) agree = agree
    basic_any site m d a labels (Return p (Some tree)) agree = agree
    basic_any site m d a labels (Call p name arguments receivers) agree = agree
    basic_any site m d a labels (Assignment p receivers tree) agree = agree
    basic_any site m d a labels (Update p body close) agree = agree

    alternative_any : (site : Site) (m : ℕ) (d : List Phrase) (a : Around) (x : Alternative) → AlternativeAgrees image g (λ inside. v) ps one site m d a x → AlternativeAgrees image g (λ inside. v) ps other site m d a x
    alternative_any site m d a NoAlternative agree = tt
    alternative_any site m d a (Otherwise x) agree = statement_any site m d a x agree

    group_any : (site : Site) (m : ℕ) (d : List Phrase) (a : Around) (x : Group) → GroupAgrees image g (λ inside. v) ps one site m d a x → GroupAgrees image g (λ inside. v) ps other site m d a x
    group_any site m d a (Groups list close) agree = statements_any site m d a list agree

    pub statements_any : (site : Site) (m : ℕ) (d : List Phrase) (a : Around) (x : Statements) → StatementsAgree image g (λ inside. v) ps one site m d a x → StatementsAgree image g (λ inside. v) ps other site m d a x
    statements_any site m d a NoStatements agree = tt
    statements_any site m d a (MoreStatements first others) agree =
        (statement_any site m d a first agree.0, statements_any site (after_statement m first) (gathered_statement d a first) a others agree.1)
