use Rattle.std.proofs.Common.{rules, ◌≡◌, ◌∙◌, ◌++◌, ◌∷◌, [], map, length, false, sym, ap, subst}
use Rattle.std.specs.Prelude.{is_err}
use Rattle.hal_gen_expr.specs.ViewSlots.{numbers_of, slot_of, AreNoted, IsIndexed}
use Rattle.hal_gen_expr.proofs.IndexedViews.{push_indexed, without_error}
use Rattle.hal_gen_expr.proofs.view_list.Views.push.Goals as goal

pub invariant_of-self-else-is_err : goal.invariant_of-self-else-is_err
invariant_of-self-else-is_err c =
    let views = c.args.self.now.list.items in
    let table = map numbers_of c.args.self.now.table.items in
    let more = map numbers_of c.add_number-added.new.table.items in
    let right : is_err c.add_number-added.result ≡ false = search (rules, c.is_err.ensures.value, c.if-is_err.false) in
    let added : AreNoted c.slot_of-slot.result c.len-number.result table more = without_error c.add_number-added.result (AreNoted c.slot_of-slot.result c.len-number.result table more) right c.add_number-added.ensures.noted in
    let there : AreNoted (slot_of c.args.view.base) (length views) table more = search (rules, added, c.slot_of-slot.ensures, c.len-number.ensures) in
    let list : views ++ (c.args.view ∷ []) ≡ c.push.new.self.items = search (rules, c.push.ensures.items, c.in_ok-push.was) in
    record { indexed = subst (λ all. IsIndexed all more) list (push_indexed views table more c.args.view c.args.self.now.indexed there) }
