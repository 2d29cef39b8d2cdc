use Rattle.std.proofs.Common.{rules, ◌≡◌, ◌∙◌, sym, ap, map, Bool, false, Option, Some, None, if◌then◌else◌}
use Rattle.std.specs.Option.{is_some}
use Rattle.hal_tree.specs.SeenLeaves.{seen_name}
use Rattle.hal_storage.specs.cells.SeenStoring.{seen_storing}
use Rattle.hal_storage.specs.elements.SeenComponents.{seen_component, seen_shape}
use Rattle.hal_gen_expr.specs.Elements.{element_in}
use Rattle.hal_gen_expr.specs.SeenSites.{seen_site, seen_numbering}
use Rattle.hal_gen_expr.specs.declared.elements.Element.{Element}
use Rattle.hal_gen_expr.proofs.Capped.{address_in, element_given}
use Rattle.hal_gen_expr.proofs.views.element_of.Goals as goal

pub returns : goal.returns
returns c =
    let none : is_some c.args.shape.now.copies ≡ false = search (rules, c.is_some.ensures, c.if-is_some.false) in
    let found : element_in (map seen_name c.args.path.now) (map seen_component c.args.shape.now.components.items) ≡ Some c.in_ok-one.one = search (rules, c.element_named.ensures, c.deref.ensures, c.in_ok-one.ensures) in
    c.address_of_one.ensures
    ∙ sym (element_given (seen_numbering c.args.site.now) (seen_site c.args.site.now) (map seen_name c.args.path.now) c.args.declared (seen_storing c.args.stored) (seen_shape c.args.shape.now)
    ∙ ap (λ (b : Bool). if b then None else address_in (seen_numbering c.args.site.now) (seen_site c.args.site.now) c.args.declared (seen_storing c.args.stored) (element_in (map seen_name c.args.path.now) (map seen_component c.args.shape.now.components.items))) none
    ∙ ap (λ (o : Option Element). address_in (seen_numbering c.args.site.now) (seen_site c.args.site.now) c.args.declared (seen_storing c.args.stored) o) found)
