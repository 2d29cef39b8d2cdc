use Rattle.std.proofs.Common.{rules, ◌≡◌, ◌∙◌, map, Ok, Err, sym, ap}
use Rattle.std.proofs.lemmas.Result.{err_from_is_err_and}
use Rattle.hal_tree.specs.Rows.{elements}
use Rattle.hal_tree.specs.SeenUnits.{seen_element, seen_unit}
use Rattle.hal_meaning.specs.Bodies.{statements_of}
use Rattle.hal_storage.specs.sets.SeenBodies.{statements_in}
use Rattle.hal_gen_expr.specs.SeenSites.{seen_site, seen_numbering}
use Rattle.hal_gen_expr.proofs.Chained.{after, stopped}
use Rattle.hal_gen.specs.SeenExits.{seen_exits}
use Rattle.hal_gen.specs.StatementCode.{block_code}
use Rattle.hal_link.specs.ProcessCode.{finish_of, process_code}
use Rattle.hal_link.proofs.Begun.{with_finish, process_begun}
use Rattle.hal_link.proofs.Coded.{statements_listed}
use Rattle.hal_link.proofs.processes.emit_process.Goals as goal

pub returns-in_err-emit_elements : goal.returns-in_err-emit_elements
returns-in_err-emit_elements c =
    let list = statements_of (elements (map seen_element c.deref-2.result.now)) in
    let listed : statements_in (seen_unit c.args.body.now.unit.now) ≡ list = statements_listed c.args.body.now.unit.now ∙ ap (λ xs. statements_of (elements (map seen_element xs))) (sym c.deref-2.ensures.value) in
    let ends : c.in_ok-finish.finish ≡ finish_of (seen_numbering c.args.site.now) (seen_site c.args.site.now) c.args.code.now.items (statements_in (seen_unit c.args.body.now.unit.now)) = c.in_ok-finish.ensures ∙ ap (λ code. finish_of (seen_numbering c.args.site.now) (seen_site c.args.site.now) code (statements_in (seen_unit c.args.body.now.unit.now))) c.deref.ensures.value in
    let wanted = process_begun (seen_numbering c.args.site.now) (seen_site c.args.site.now) c.args.code.now.items c.push.new.code.items (seen_exits c.of_body-exits.result) c.in_ok-finish.finish (statements_in (seen_unit c.args.body.now.unit.now)) list
    c.in_ok-push.ensures c.of_body-exits.ensures ends listed in
    let p = err_from_is_err_and c.from_residual-in_err-emit_elements.result c.from_residual-in_err-emit_elements.ensures.1 in
    let failed : c.emit_elements.result ≡ Err c.in_err-emit_elements.field-0.0 = search (rules, c.in_err-emit_elements.was) in
    let same : c.from_residual-in_err-emit_elements.result ≡ Err c.in_err-emit_elements.field-0.0 = search (rules, p.1, p.2) in
    stopped (process_code (seen_numbering c.args.site.now) (seen_site c.args.site.now) c.args.code.now.items (statements_in (seen_unit c.args.body.now.unit.now)))
    (block_code (seen_numbering c.args.site.now) (seen_site c.args.site.now) c.push.new.code.items (seen_exits c.of_body-exits.result) 0 list) with_finish
    c.in_err-emit_elements.field-0.0 c.emit_elements.result c.from_residual-in_err-emit_elements.result c.emit_elements.new.code.items wanted failed same c.emit_elements.ensures

pub returns : goal.returns
returns c =
    let list = statements_of (elements (map seen_element c.deref-2.result.now)) in
    let listed : statements_in (seen_unit c.args.body.now.unit.now) ≡ list = statements_listed c.args.body.now.unit.now ∙ ap (λ xs. statements_of (elements (map seen_element xs))) (sym c.deref-2.ensures.value) in
    let ends : c.in_ok-finish.finish ≡ finish_of (seen_numbering c.args.site.now) (seen_site c.args.site.now) c.args.code.now.items (statements_in (seen_unit c.args.body.now.unit.now)) = c.in_ok-finish.ensures ∙ ap (λ code. finish_of (seen_numbering c.args.site.now) (seen_site c.args.site.now) code (statements_in (seen_unit c.args.body.now.unit.now))) c.deref.ensures.value in
    let wanted = process_begun (seen_numbering c.args.site.now) (seen_site c.args.site.now) c.args.code.now.items c.push.new.code.items (seen_exits c.of_body-exits.result) c.in_ok-finish.finish (statements_in (seen_unit c.args.body.now.unit.now)) list
    c.in_ok-push.ensures c.of_body-exits.ensures ends listed in
    after (process_code (seen_numbering c.args.site.now) (seen_site c.args.site.now) c.args.code.now.items (statements_in (seen_unit c.args.body.now.unit.now)))
    (block_code (seen_numbering c.args.site.now) (seen_site c.args.site.now) c.push.new.code.items (seen_exits c.of_body-exits.result) 0 list) with_finish
    c.emit_elements.new.code.items wanted c.in_ok-emit_elements.ensures
    ∙ ap (λ all. Ok all) (sym c.in_ok-push-2.ensures)
