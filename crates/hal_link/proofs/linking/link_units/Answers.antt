use Rattle.std.proofs.Common.{rules, ◌≡◌, ◌∙◌, ◌+◌, ◌<◌, ◌∷◌, Err, drop, drop-cons, get_or, length, sym, ap, add-one}
use Rattle.std.proofs.lemmas.Result.{err_from_is_err_and}
use Rattle.hal_storage.specs.sets.SeenSets.{seen_set}
use Rattle.hal_link.specs.Linking.{linked, with_units}
use Rattle.hal_link.specs.Outlines.{numbering_of}
use Rattle.hal_link.specs.SeenOutlines.{seen_outline}
use Rattle.hal_link.proofs.Following.{units_stopped}
use Rattle.hal_link.proofs.linking.link_units.Goals as goal

pub returns-in_err-link_unit : goal.returns-in_err-link_unit
returns-in_err-link_unit c =
    let set = seen_set c.args.whole.now.set.now in
    let numbers = numbering_of c.args.whole.now.shapes.now c.args.views.now.list.items (seen_outline c.args.outline.now) in
    let units = c.args.units.now in
    let p = err_from_is_err_and c.from_residual.result c.from_residual.ensures.1 in
    let failed : c.link_unit.result ≡ Err c.in_err-link_unit.field-0.0 = search (rules, c.in_err-link_unit.was) in
    let same : c.from_residual.result ≡ Err c.in_err-link_unit.field-0.0 = search (rules, p.1, p.2) in
    let within : c.loop-unit.unit-index < length units = search (rules, c.loop-unit-test.true) in
    let split : drop c.loop-unit.unit-index units ≡ get_or units c.loop-unit.unit-index 0 ∷ drop (c.loop-unit.unit-index + 1) units =
    drop-cons units c.loop-unit.unit-index 0 within ∙ ap (λ n. get_or units c.loop-unit.unit-index 0 ∷ drop n units) (sym (add-one c.loop-unit.unit-index)) in
    units_stopped _ _ set numbers c.args.outline.now.process (get_or units c.loop-unit.unit-index 0) (drop (c.loop-unit.unit-index + 1) units) (drop c.loop-unit.unit-index units) (linked c.loop-unit.code.items c.loop-unit.blocks.items)
    (with_units set numbers c.args.outline.now.process units (linked c.args.code.now.items c.args.blocks.now.items)) c.in_err-link_unit.field-0.0 c.link_unit.result c.from_residual.result c.link_unit.new.code.items c.link_unit.new.code.items
    c.link_unit.new.blocks.items c.link_unit.new.blocks.items split c.loop-unit.invariant failed same c.link_unit.ensures
