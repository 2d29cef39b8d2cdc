use Rattle.std.proofs.Common.{rules, ◌≡◌, ◌<◌, ◌++◌, ◌∷◌, [], length, map, Err, Ok}
use Rattle.hal_gen_expr.specs.ViewSlots.{numbers_of, AreSame}
use Rattle.hal_gen_expr.proofs.HeldSlots.{one_kept, one_noted}
use Rattle.hal_gen_expr.proofs.view_slots.note.Goals as goal

pub returns-in_err-push-clause-same : goal.returns-in_err-push-clause-same
returns-in_err-push-clause-same c =
    let same : numbers_of c.push.new.self ≡ numbers_of c.in-Some.numbers.now = search (rules, c.push.ensures.items, c.in_err-push.was) in
    let kept : AreSame (map numbers_of c.args.table.now.items) (map numbers_of _) = one_kept c.args.table.now.items c.args.slot c.in-Some.numbers.now c.push.new.self c.in-Some.ensures.value same in
    search (rules, kept)

pub returns-in_ok-push-clause-noted : goal.returns-in_ok-push-clause-noted
returns-in_ok-push-clause-noted c =
    let within : c.args.slot < length c.args.table.now.items = search (rules, c.in-Some.ensures.variant, c.in-Some.is) in
    let more : numbers_of c.push.new.self ≡ numbers_of c.in-Some.numbers.now ++ (c.args.number ∷ []) = search (rules, c.push.ensures.items, c.in_ok-push.was) in
    one_noted c.args.table.now.items c.args.slot c.args.number c.in-Some.numbers.now c.push.new.self within c.in-Some.ensures.value more
