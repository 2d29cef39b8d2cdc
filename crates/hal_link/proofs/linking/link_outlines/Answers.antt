use Rattle.std.proofs.Common.{rules, ◌≡◌, ◌+◌, ◌∷◌, Err, drop, map, ap}
use Rattle.std.proofs.lemmas.Result.{err_from_is_err_and}
use Rattle.hal_storage.specs.sets.SeenSets.{seen_set}
use Rattle.hal_link.specs.Linking.{linked, with_outlines}
use Rattle.hal_link.specs.SeenOutlines.{seen_outline}
use Rattle.hal_link.proofs.Following.{outlines_stopped}
use Rattle.hal_link.proofs.Lent.{next_one}
use Rattle.hal_link.proofs.linking.link_outlines.Goals as goal

pub returns-in_err-link_outline : goal.returns-in_err-link_outline
returns-in_err-link_outline c =
    let set = seen_set c.args.whole.now.set.now in
    let list = c.args.list.now in
    let p = err_from_is_err_and c.from_residual.result c.from_residual.ensures.1 in
    let failed : c.link_outline.result ≡ Err c.in_err-link_outline.field-0.0 = search (rules, c.in_err-link_outline.was) in
    let same : c.from_residual.result ≡ Err c.in_err-link_outline.field-0.0 = search (rules, p.1, p.2) in
    let split : drop c.loop-outline.outline-index list ≡ c.outline-item.result ∷ drop (c.loop-outline.outline-index + 1) list = next_one list c.loop-outline.outline-index c.outline-item.result c.loop-outline-test.true c.outline-item.is in
    outlines_stopped _ _ set c.args.whole.now.shapes.now c.args.views.now.list.items (seen_outline c.outline-item.result) (map seen_outline (drop (c.loop-outline.outline-index + 1) list)) (map seen_outline (drop c.loop-outline.outline-index list)) (linked c.loop-outline.code.items c.loop-outline.blocks.items)
    (with_outlines set c.args.whole.now.shapes.now c.args.views.now.list.items (map seen_outline list) (linked c.args.code.now.items c.args.blocks.now.items)) c.in_err-link_outline.field-0.0 c.link_outline.result c.from_residual.result c.link_outline.new.code.items c.link_outline.new.code.items
    c.link_outline.new.blocks.items c.link_outline.new.blocks.items (ap (map seen_outline) split) c.loop-outline.invariant failed same c.link_outline.ensures
