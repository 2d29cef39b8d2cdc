use Rattle.std.proofs.Common.{rules, ◌≡◌, ◌∙◌, map, Ok, Err, sym, ap}
use Rattle.std.proofs.lemmas.Result.{err_from_is_err_and}
use Rattle.hal_tree.specs.declared.unit.Unit.{out-Unit}
use Rattle.hal_tree.specs.Rows.{elements}
use Rattle.hal_tree.specs.SeenUnits.{seen_element, seen_head, seen_unit}
use Rattle.hal_meaning.specs.Bodies.{statements_of}
use Rattle.hal_storage.specs.sets.SeenBodies.{head_of, statements_in}
use Rattle.hal_gen_expr.specs.SeenSites.{seen_site, seen_numbering}
use Rattle.hal_gen_expr.proofs.Chained.{after, stopped}
use Rattle.hal_gen.specs.SeenExits.{seen_exits}
use Rattle.hal_gen.specs.StatementCode.{block_code}
use Rattle.hal_link.specs.UnitCode.{body_code}
use Rattle.hal_link.proofs.Begun.{with_end, body_begun}
use Rattle.hal_link.proofs.Coded.{statements_listed, head_listed}
use Rattle.hal_link.proofs.units.emit_body.Goals as goal

pub returns-in_err-emit_elements : goal.returns-in_err-emit_elements
returns-in_err-emit_elements c =
    let unit = c.args.body.now.unit.now in
    let n = seen_numbering c.args.site.now in
    let site = seen_site c.args.site.now in
    let list = statements_of (elements (map seen_element c.deref.result.now)) in
    let listed : statements_in (seen_unit unit) ≡ list = statements_listed unit ∙ ap (λ xs. statements_of (elements (map seen_element xs))) (sym c.deref.ensures.value) in
    let wanted = body_begun n site c.args.code.now.items (seen_exits c.exits_of-exits.result) (head_of (seen_unit unit)) (seen_head (out-Unit unit).head) (statements_in (seen_unit unit)) list (head_listed unit) c.exits_of-exits.ensures listed in
    let p = err_from_is_err_and c.from_residual.result c.from_residual.ensures.1 in
    let failed : c.emit_elements.result ≡ Err c.in_err-emit_elements.field-0.0 = search (rules, c.in_err-emit_elements.was) in
    let same : c.from_residual.result ≡ Err c.in_err-emit_elements.field-0.0 = search (rules, p.1, p.2) in
    stopped (body_code n site c.args.code.now.items (head_of (seen_unit unit)) (statements_in (seen_unit unit))) (block_code n site c.args.code.now.items (seen_exits c.exits_of-exits.result) 0 list) (with_end (seen_head (out-Unit unit).head))
    c.in_err-emit_elements.field-0.0 c.emit_elements.result c.from_residual.result c.emit_elements.new.code.items wanted failed same c.emit_elements.ensures

pub returns : goal.returns
returns c =
    let unit = c.args.body.now.unit.now in
    let n = seen_numbering c.args.site.now in
    let site = seen_site c.args.site.now in
    let list = statements_of (elements (map seen_element c.deref.result.now)) in
    let listed : statements_in (seen_unit unit) ≡ list = statements_listed unit ∙ ap (λ xs. statements_of (elements (map seen_element xs))) (sym c.deref.ensures.value) in
    let wanted = body_begun n site c.args.code.now.items (seen_exits c.exits_of-exits.result) (head_of (seen_unit unit)) (seen_head (out-Unit unit).head) (statements_in (seen_unit unit)) list (head_listed unit) c.exits_of-exits.ensures listed in
    after (body_code n site c.args.code.now.items (head_of (seen_unit unit)) (statements_in (seen_unit unit))) (block_code n site c.args.code.now.items (seen_exits c.exits_of-exits.result) 0 list) (with_end (seen_head (out-Unit unit).head))
    c.emit_elements.new.code.items wanted c.in_ok-emit_elements.ensures
    ∙ ap (λ all. Ok all) (sym c.in_ok-emit_end.ensures)
