use Rattle.std.proofs.Common.{◌≡◌, ◌∙◌, map, Some, sym, ap}
use Rattle.std.specs.Option.{option_map}
use Rattle.hal_storage.specs.sets.SeenBodies.{seen_body}
use Rattle.hal_storage.specs.sets.SeenSets.{seen_set}
use Rattle.hal_meaning.specs.Sets.{body_at}
use Rattle.hal_gen_expr.specs.Bodies.{lent_body}
use Rattle.hal_gen_expr.specs.Numbering.{numbering_with}
use Rattle.hal_gen_expr.specs.SeenSites.{lent_place, seen_site, seen_numbering}
use Rattle.hal_link.specs.Linking.{linked}
use Rattle.hal_link.specs.Outlines.{numbering_of}
use Rattle.hal_link.specs.SeenOutlines.{seen_outline}
use Rattle.hal_link.proofs.Found.{process_linked}
use Rattle.hal_link.proofs.linking.link_process.Goals as goal

pub returns : goal.returns
unfolding seen_site
returns c =
    let set = seen_set c.args.whole.now.set.now in
    let outline = c.args.outline.now in
    let found : body_at set outline.unit ≡ Some (seen_body c.in-Some.body.now) = sym c.body_at.ensures ∙ ap (option_map lent_body) c.in-Some.is in
    let numbers : seen_numbering c.site_in-site.result ≡ numbering_of c.args.whole.now.shapes.now c.args.views.now.list.items (seen_outline outline) =
    c.site_in-site.ensures.views ∙ (ap (λ first. numbering_with c.args.whole.now.shapes.now c.args.views.now.list.items first c.calls_of.result.units.now) c.calls_of.ensures.first ∙ ap (λ units. numbering_with c.args.whole.now.shapes.now c.args.views.now.list.items outline.first units) c.calls_of.ensures.units) in
    process_linked set (numbering_of c.args.whole.now.shapes.now c.args.views.now.list.items (seen_outline outline)) (seen_numbering c.site_in-site.result) (seen_site c.site_in-site.result) (map lent_place c.args.placed.now.places.items) (seen_body c.in-Some.body.now) outline.process outline.unit
    (linked c.args.code.now.items c.args.blocks.now.items) c.link_process_at.result c.link_process_at.new.code.items c.link_process_at.new.blocks.items found c.requires.places c.site_in-site.ensures.seen numbers c.link_process_at.ensures
