use Rattle.std.proofs.Common.{rules, ◌≡◌, ◌∙◌, ◌+◌, suc, [], ◌∷◌, ◌++◌, length, map, Some, Ok, Err, sym, ap, subst}
use Rattle.std.specs.Option.{option_map}
use Rattle.std.proofs.lemmas.Result.{err_from_is_err_and}
use Rattle.hal_grammar.specs.Statements.{Labelled, If, DoFor, Update, OnErrorStatement}
use Rattle.hal_tree.specs.Rows.{statements}
use Rattle.hal_tree.specs.SeenExpressions.{seen_expression}
use Rattle.hal_tree.specs.SeenLeaves.{seen_name}
use Rattle.hal_tree.specs.SeenStatements.{seen_alternative, seen_basic, seen_group, seen_guard, seen_selector, seen_span, seen_statement}
use Rattle.hal_tree.proofs.MadeStatements.{made_statement, made_if, made_do_for, made_on_error_statement, made_update}
use Rattle.hal_code.specs.declared.instr.Instr.TheVariants as instr
use Rattle.hal_meaning.specs.Marks.{after_statement}
use Rattle.hal_meaning.specs.Statements.{update_groups}
use Rattle.hal_agreement.specs.PlacedStatements.{opened, within_group}
use Rattle.hal_agreement.specs.Sites.{here_at}
use Rattle.hal_gen_expr.specs.Emits.{Emits}
use Rattle.hal_gen_expr.specs.Emitting.{emit}
use Rattle.hal_gen_expr.specs.ExpressionCode.{expression_code}
use Rattle.hal_gen_expr.specs.Numbering.{below}
use Rattle.hal_gen_expr.specs.SeenSites.{seen_site, seen_numbering}
use Rattle.hal_gen.specs.KeptCode.{cells_of}
use Rattle.hal_gen.specs.SeenExits.{seen_exits}
use Rattle.hal_gen.specs.Leaves.{handler_code}
use Rattle.hal_gen.specs.Sizes.{spanned_size, group_size, statement_size, jump_size}
use Rattle.hal_gen.specs.StatementCode.{span_start_code, span_end_code, group_code, statement_code, basic_code, direct_code, alternative_code}
use Rattle.hal_gen.proofs.Branched.{branched}
use Rattle.hal_gen.proofs.Direct.{as_anywhere, handled}
use Rattle.hal_gen.proofs.Ranged.{ranged, at_its_group}
use Rattle.hal_gen.proofs.Updated.{updated, update_stopped}
use Rattle.hal_gen.proofs.statements.+statements.Goals as goal

pub emit_basic-returns-in_ok-emit_statement-in-If : goal.emit_basic-returns-in_ok-emit_statement-in-If
emit_basic-returns-in_ok-emit_statement-in-If t c =
    let shape : seen_basic c.args.tree.now ≡ If c.in-If.place (seen_expression c.in-If.condition) (seen_statement c.in-If.consequence.value) (seen_alternative c.in-If.alternative) = ap seen_basic c.in-If.is ∙ made_if c.in-If.place c.in-If.condition c.in-If.consequence c.in-If.alternative in
    let first : expression_code (seen_numbering c.args.site.now) (seen_site c.args.site.now) c.args.code.now.items (seen_expression c.in-If.condition) ≡ Ok c.emit_expression.new.code.items = search (rules, c.in_ok-emit_expression-in-If.ensures) in
    let second : statement_code (seen_numbering c.args.site.now) (seen_site c.args.site.now) (c.emit_expression.new.code.items ++ (instr.JumpNot (suc (length c.emit_expression.new.code.items) + (statement_size (seen_numbering c.args.site.now) (seen_site c.args.site.now) c.args.mark (seen_statement c.in-If.consequence.value) + jump_size (seen_alternative c.in-If.alternative))) ∷ [])) (seen_exits c.args.exits.now) c.args.mark (seen_statement c.in-If.consequence.value) ≡ Ok c.emit_statement.new.code.items = search (rules, c.in_ok-emit_statement-in-If.ensures) in
    let third : Emits (alternative_code (seen_numbering c.args.site.now) (seen_site c.args.site.now) c.emit_statement.new.code.items (seen_exits c.args.exits.now) (after_statement c.args.mark (seen_statement c.in-If.consequence.value)) (seen_alternative c.in-If.alternative)) c.emit_alternative.result c.emit_alternative.new.code.items = search (rules, c.emit_alternative.ensures) in
    subst (λ b. Emits (basic_code (seen_numbering c.args.site.now) (seen_site c.args.site.now) c.args.code.now.items (seen_exits c.args.exits.now) c.args.mark (map seen_name c.args.labels.now) b) c.emit_alternative.result c.emit_alternative.new.code.items) (sym shape)
    (branched (seen_numbering c.args.site.now) (seen_site c.args.site.now) c.args.code.now.items c.emit_expression.new.code.items c.emit_statement.new.code.items c.emit_alternative.new.code.items (seen_exits c.args.exits.now) c.args.mark (map seen_name c.args.labels.now) c.emit_alternative.result c.in-If.place (seen_expression c.in-If.condition) (seen_statement c.in-If.consequence.value) (seen_alternative c.in-If.alternative) first second third)

pub emit_basic-returns-in_ok-emit_updating-in-Update : goal.emit_basic-returns-in_ok-emit_updating-in-Update
emit_basic-returns-in_ok-emit_updating-in-Update t c =
    let shape : seen_basic c.args.tree.now ≡ Update c.in-Update.place (statements (map seen_statement c.in-Update.body.items)) (option_map seen_name c.in-Update.close) = ap seen_basic c.in-Update.is ∙ made_update c.in-Update.place c.in-Update.body c.in-Update.close in
    let opened : emit c.args.code.now.items c.in-Update.place (option_map (λ groups. instr.Open groups ∷ []) (below 65536 (update_groups (here_at (seen_site c.args.site.now)) c.args.mark))) ≡ Ok c.emit_open.new.code.items = search (rules, c.in_ok-emit_open-in-Update.ensures) in
    rw shape (updated (seen_numbering c.args.site.now) (seen_site c.args.site.now) c.args.code.now.items c.emit_open.new.code.items (seen_exits c.args.exits.now) c.args.mark (map seen_name c.args.labels.now) c.in-Update.place (statements (map seen_statement c.in-Update.body.items)) (option_map seen_name c.in-Update.close) opened
    c.emit_updating.new.code.items c.emit_one.new.code.items c.emit_one.result c.in_ok-emit_updating-in-Update.ensures c.emit_one.ensures)

pub emit_basic-returns-in_err-emit_updating-in-Update : goal.emit_basic-returns-in_err-emit_updating-in-Update
emit_basic-returns-in_err-emit_updating-in-Update t c =
    let shape : seen_basic c.args.tree.now ≡ Update c.in-Update.place (statements (map seen_statement c.in-Update.body.items)) (option_map seen_name c.in-Update.close) = ap seen_basic c.in-Update.is ∙ made_update c.in-Update.place c.in-Update.body c.in-Update.close in
    let opened : emit c.args.code.now.items c.in-Update.place (option_map (λ groups. instr.Open groups ∷ []) (below 65536 (update_groups (here_at (seen_site c.args.site.now)) c.args.mark))) ≡ Ok c.emit_open.new.code.items = search (rules, c.in_ok-emit_open-in-Update.ensures) in
    let p = err_from_is_err_and c.from_residual-in_err-emit_updating-in-Update.result c.from_residual-in_err-emit_updating-in-Update.ensures.1 in
    let failed : c.emit_updating.result ≡ Err c.in_err-emit_updating-in-Update.field-0.0 = search (rules, c.in_err-emit_updating-in-Update.is, c.in_err-emit_updating-in-Update.was) in
    let same : c.from_residual-in_err-emit_updating-in-Update.result ≡ Err c.in_err-emit_updating-in-Update.field-0.0 = search (rules, p.1, p.2) in
    rw shape (update_stopped (seen_numbering c.args.site.now) (seen_site c.args.site.now) c.args.code.now.items c.emit_open.new.code.items (seen_exits c.args.exits.now) c.args.mark (map seen_name c.args.labels.now) c.in-Update.place (statements (map seen_statement c.in-Update.body.items)) (option_map seen_name c.in-Update.close) opened
    c.emit_updating.new.code.items c.in_err-emit_updating-in-Update.field-0.0 c.emit_updating.result c.from_residual-in_err-emit_updating-in-Update.result failed same c.emit_updating.ensures)

pub emit_basic-returns-in_ok-next-in-DoFor : goal.emit_basic-returns-in_ok-next-in-DoFor
emit_basic-returns-in_ok-next-in-DoFor t c =
    let n = seen_numbering c.args.site.now in
    let site = seen_site c.args.site.now in
    let shape : seen_basic c.args.tree.now ≡ (DoFor c.in-DoFor.place c.in-DoFor.temporary (seen_name c.in-DoFor.variable) (seen_span c.in-DoFor.span) (option_map seen_guard c.in-DoFor.guard) (seen_group c.in-DoFor.group)) = ap seen_basic c.in-DoFor.is ∙ made_do_for c.in-DoFor.place c.in-DoFor.temporary c.in-DoFor.variable c.in-DoFor.span c.in-DoFor.guard c.in-DoFor.group in
    let given : cells_of n site c.in-DoFor.temporary c.args.mark ≡ Some c.in-Some-cells_of.cells = search (rules, c.cells_of.ensures, c.in-Some-cells_of.is) in
    let following : c.in_ok-next-in-DoFor.field-0 ≡ suc c.args.mark = search (rules, c.in_ok-next-in-DoFor.ensures) in
    subst (λ b. Emits (basic_code n site c.args.code.now.items (seen_exits c.args.exits.now) c.args.mark (map seen_name c.args.labels.now) b) c.emit_range.result c.emit_range.new.code.items) (sym shape)
    (at_its_group n (seen_numbering c.group_site-inner.result) site (seen_site c.group_site-inner.result) c.args.code.now.items c.emit_range.new.code.items (seen_exits c.args.exits.now) c.args.mark c.in_ok-next-in-DoFor.field-0 (map seen_name c.args.labels.now) c.emit_range.result
    c.in-DoFor.place c.in-DoFor.temporary (seen_name c.in-DoFor.variable) (seen_span c.in-DoFor.span) (option_map seen_guard c.in-DoFor.guard) (seen_group c.in-DoFor.group) c.in-Some-cells_of.cells
    c.group_site-inner.ensures.numbering c.group_site-inner.ensures.seen following given c.emit_range.ensures)

pub emit_direct-returns-in_ok-emit_entry-in-OnErrorStatement : goal.emit_direct-returns-in_ok-emit_entry-in-OnErrorStatement
emit_direct-returns-in_ok-emit_entry-in-OnErrorStatement t c =
    let n = seen_numbering c.args.site.now in
    let site = seen_site c.args.site.now in
    let exits = seen_exits c.args.exits.now in
    let labels = map seen_name c.args.tree.now.labels.items in
    let shape : seen_statement c.args.tree.now ≡ Labelled labels (OnErrorStatement c.in-OnErrorStatement.place (seen_selector c.in-OnErrorStatement.selector) (seen_statement c.in-OnErrorStatement.handler.value)) =
    made_statement c.args.tree.now ∙ ap (Labelled labels) (ap seen_basic c.in-OnErrorStatement.is ∙ made_on_error_statement c.in-OnErrorStatement.place c.in-OnErrorStatement.selector c.in-OnErrorStatement.handler) in
    let following : c.in_ok-following-in-OnErrorStatement.following ≡ suc c.args.mark = search (rules, c.in_ok-following-in-OnErrorStatement.ensures) in
    let size : c.in_ok-size-in-OnErrorStatement.size ≡ statement_size n site (suc c.args.mark) (seen_statement c.in-OnErrorStatement.handler.value) = search (rules, c.in_ok-size-in-OnErrorStatement.ensures, following) in
    let entry : emit c.args.code.now.items c.in-OnErrorStatement.place (handler_code (seen_selector c.in-OnErrorStatement.selector) (length c.args.code.now.items) (statement_size n site (suc c.args.mark) (seen_statement c.in-OnErrorStatement.handler.value))) ≡ Ok c.emit_entry.new.code.items =
    search (rules, c.in_ok-emit_entry-in-OnErrorStatement.ensures, size) in
    let rest : Emits (statement_code n site c.emit_entry.new.code.items exits (suc c.args.mark) (seen_statement c.in-OnErrorStatement.handler.value)) c.emit_statement.result c.emit_statement.new.code.items = search (rules, c.emit_statement.ensures, following) in
    subst (λ tree. Emits (direct_code n site c.args.code.now.items exits c.args.mark tree) c.emit_statement.result c.emit_statement.new.code.items) (sym shape)
    (handled n site c.args.code.now.items exits c.args.mark labels c.emit_entry.new.code.items c.emit_statement.new.code.items c.emit_statement.result c.in-OnErrorStatement.place (seen_selector c.in-OnErrorStatement.selector) (seen_statement c.in-OnErrorStatement.handler.value) entry rest)

pub emit_direct-returns-in_default : goal.emit_direct-returns-in_default
emit_direct-returns-in_default t c =
    let n = seen_numbering c.args.site.now in
    let site = seen_site c.args.site.now in
    let exits = seen_exits c.args.exits.now in
    let labels = map seen_name c.args.tree.now.labels.items in
    let shape : seen_statement c.args.tree.now ≡ Labelled labels (seen_basic c.args.tree.now.basic) = made_statement c.args.tree.now in
    let same : direct_code n site c.args.code.now.items exits c.args.mark (seen_statement c.args.tree.now) ≡ basic_code n site c.args.code.now.items exits c.args.mark labels (seen_basic c.args.tree.now.basic) =
    ap (direct_code n site c.args.code.now.items exits c.args.mark) shape ∙ as_anywhere n site c.args.code.now.items exits c.args.mark labels c.args.tree.now.basic c.in_default.not-OnErrorStatement in
    let there : Emits (basic_code n site c.args.code.now.items exits c.args.mark labels (seen_basic c.args.tree.now.basic)) c.emit_basic.result c.emit_basic.new.code.items = search (rules, c.emit_basic.ensures) in
    subst (λ code. Emits code c.emit_basic.result c.emit_basic.new.code.items) (sym same) there
