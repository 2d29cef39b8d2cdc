-- Code doesn't go by where the statements of ON ERROR stand: an error alone leads to one.
use Rattle.std.specs.Prelude.{◌≡◌, ℕ, suc, ◌+◌, List, [], ◌∷◌, ◌++◌, length, Option, Some, None, Ok, Err}
use Rattle.std.proofs.Common.{refl, ap, ◌∙◌}
use Rattle.hal_base.specs.declared.refusal.Place.{Place}
use Rattle.hal_grammar.specs.Leaves.{Naming}
use Rattle.hal_grammar.specs.Statements.{Statement, Labelled, Basic, If, Do, DoCase, DoLoop, DoFor, Return, Alternative, NoAlternative, Otherwise, Group, Groups, Statements, NoStatements, MoreStatements}
use Rattle.hal_meaning.specs.Marks.{after_statement, after_alternative}
use Rattle.hal_code.specs.declared.instr.Instr.{Instr}
use Rattle.hal_code.specs.declared.instr.Instr.TheVariants as instr
use Rattle.hal_agreement.specs.PlacedStatements.{Exits, opened, within_group}
use Rattle.hal_agreement.specs.Sites.{Site, group_site}
use Rattle.hal_gen_expr.specs.Emitting.{Emitted, onwards}
use Rattle.hal_gen_expr.specs.ExpressionCode.{expression_code}
use Rattle.hal_gen_expr.specs.Numbering.{Numbering}
use Rattle.hal_gen.specs.BlockExits.{with_handlers}
use Rattle.hal_gen.specs.declared.kept.Cells.{Cells}
use Rattle.hal_gen.specs.KeptCode.{cell_of, keeping, case_code, cells_of}
use Rattle.hal_gen.specs.Sizes.{spanned_size, jump_size, statement_size, basic_size, group_size}
use Rattle.hal_gen.specs.StatementCode.{with_number, with_cells, first_test_code, test_code, span_start_code, span_end_code, statement_code, basic_code, alternative_code, uncased_code, cases_code, selected_code, group_code, statements_code}

onwards_same : (r : Emitted) (f g : List Instr → Emitted) → ((middle : List Instr) → f middle ≡ g middle) → onwards r f ≡ onwards r g
onwards_same (Ok middle) f g same = same middle
onwards_same (Err place) f g same = refl

both_same : (r q : Emitted) (f g : List Instr → Emitted) → r ≡ q → ((middle : List Instr) → f middle ≡ g middle) → onwards r f ≡ onwards q g
both_same r q f g first same = onwards_same r f g same ∙ ap (λ one. onwards one g) first

number_same : (place : Place) (o : Option ℕ) (f g : ℕ → Emitted) → ((number : ℕ) → f number ≡ g number) → with_number place o f ≡ with_number place o g
number_same place None f g same = refl
number_same place (Some number) f g same = same number

cells_same : (place : Place) (o : Option Cells) (f g : Cells → Emitted) → ((c : Cells) → f c ≡ g c) → with_cells place o f ≡ with_cells place o g
cells_same place None f g same = refl
cells_same place (Some c) f g same = same c

module _ (n : Numbering) (spot : ℕ → ℕ) where
  mutual
    pub statement_same : (tree : Statement) (site : Site) (exits : Exits) (m : ℕ) (before : List Instr) → statement_code n site before exits m tree ≡ statement_code n site before (with_handlers spot exits) m tree
    statement_same (Labelled labels basic) site exits m before = basic_same basic site labels exits m before

    pub basic_same : (basic : Basic) (site : Site) (labels : List Naming) (exits : Exits) (m : ℕ) (before : List Instr) → basic_code n site before exits m labels basic ≡ basic_code n site before (with_handlers spot exits) m labels basic
    basic_same (If place condition consequence alternative) site labels exits m before =
        onwards_same (expression_code n site before condition) _ _
        (λ tested. let test = tested ++ (instr.JumpNot (suc (length tested) + (statement_size n site m consequence + jump_size alternative)) ∷ []) in
        both_same (statement_code n site test exits m consequence) (statement_code n site test (with_handlers spot exits) m consequence) _ _ (statement_same consequence site exits m test)
        (λ middle. alternative_same alternative site exits (after_statement m consequence) middle))
    basic_same (Do place group) site labels exits m before = group_same group site (within_group (opened labels (length before + group_size n site (suc m) group) None) exits) (suc m) before
    basic_same (DoCase place number alternative group) site labels exits m before =
        let exit = length before + basic_size n site m (DoCase place number alternative group) in
        let inner = within_group (opened labels exit None) exits in
        let behind = after_alternative (suc m) alternative in
        number_same place (cell_of n site m 0) _ _ (λ cell. onwards_same (expression_code n site before number) _ _
        (λ valued. both_same (cases_code n site (keeping valued cell) inner place cell exit behind group) (cases_code n site (keeping valued cell) (with_handlers spot inner) place cell exit behind group) _ _
        (cases_same group site inner place cell exit behind (keeping valued cell)) (λ middle. uncased_same alternative site inner place (suc m) middle)))
    basic_same (DoLoop place g group) site labels exits m before =
        let exit = length before + basic_size n site m (DoLoop place g group) in
        onwards_same (first_test_code n site before g exit) _ _
        (λ tested. let inner = within_group (opened labels exit (Some (suc (length tested) + group_size n site (suc m) group))) exits in
        let start = tested ++ (instr.Turn exit ∷ []) in
        ap (λ one. onwards one (λ middle. test_code n site middle g (length tested) exit)) (group_same group site inner (suc m) start))
    basic_same (DoFor place temporary variable span g group) site labels exits m before =
        let there = group_site site temporary m in
        let size = group_size n there (suc m) group in
        let exit = length before + spanned_size n there span g size in
        cells_same place (cells_of n site temporary m) _ _ (λ c. onwards_same (span_start_code n there before place variable.name c exit span g) _ _
        (λ tested. let inner = within_group (opened labels exit (Some (suc (length tested) + size))) exits in
        let start = tested ++ (instr.Turn exit ∷ []) in
        ap (λ one. onwards one (λ middle. span_end_code n there middle place variable.name c exit span g (length tested))) (group_same group there inner (suc m) start)))
    basic_same (Return place None) site labels exits m before = refl
    basic_same (Return place (Some tree)) site labels exits m before = refl
    basic_same other site labels exits m before = refl

    alternative_same : (alternative : Alternative) (site : Site) (exits : Exits) (m : ℕ) (before : List Instr) → alternative_code n site before exits m alternative ≡ alternative_code n site before (with_handlers spot exits) m alternative
    alternative_same NoAlternative site exits m before = refl
    alternative_same (Otherwise one) site exits m before = statement_same one site exits m (before ++ (instr.Jump (suc (length before) + statement_size n site m one) ∷ []))

    uncased_same : (alternative : Alternative) (site : Site) (exits : Exits) (place : Place) (m : ℕ) (before : List Instr)
        → uncased_code n site before exits place m alternative ≡ uncased_code n site before (with_handlers spot exits) place m alternative
    uncased_same NoAlternative site exits place m before = refl
    uncased_same (Otherwise one) site exits place m before = statement_same one site exits m before

    cases_same : (group : Group) (site : Site) (exits : Exits) (place : Place) (cell target m : ℕ) (before : List Instr)
        → cases_code n site before exits place cell target m group ≡ cases_code n site before (with_handlers spot exits) place cell target m group
    cases_same (Groups list close) site exits place cell target m before = selected_same list site exits place cell target m 1 before

    selected_same : (list : Statements) (site : Site) (exits : Exits) (place : Place) (cell target m k : ℕ) (before : List Instr)
        → selected_code n site before exits place cell target m k list ≡ selected_code n site before (with_handlers spot exits) place cell target m k list
    selected_same NoStatements site exits place cell target m k before = refl
    selected_same (MoreStatements first others) site exits place cell target m k before =
        onwards_same (case_code before place cell k (statement_size n site m first)) _ _
        (λ tested. both_same (statement_code n site tested exits m first) (statement_code n site tested (with_handlers spot exits) m first) _ _ (statement_same first site exits m tested)
        (λ middle. selected_same others site exits place cell target (after_statement m first) (suc k) (middle ++ (instr.Jump target ∷ []))))

    group_same : (group : Group) (site : Site) (exits : Exits) (m : ℕ) (before : List Instr) → group_code n site before exits m group ≡ group_code n site before (with_handlers spot exits) m group
    group_same (Groups list close) site exits m before = statements_same list site exits m before

    statements_same : (list : Statements) (site : Site) (exits : Exits) (m : ℕ) (before : List Instr) → statements_code n site before exits m list ≡ statements_code n site before (with_handlers spot exits) m list
    statements_same NoStatements site exits m before = refl
    statements_same (MoreStatements first others) site exits m before =
        both_same (statement_code n site before exits m first) (statement_code n site before (with_handlers spot exits) m first) _ _ (statement_same first site exits m before)
        (λ middle. statements_same others site exits (after_statement m first) middle)
