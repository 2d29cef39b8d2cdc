use Rattle.std.proofs.Common.{rules, ◌≡◌, ◌∙◌, ◌++◌, ◌∷◌, []}
use Rattle.hal_gen_expr.specs.ViewSlots.{numbers_of}
use Rattle.hal_gen_expr.proofs.HeldSlots.{one_empty}
use Rattle.hal_gen_expr.proofs.view_slots.hold.Goals as goal

pub loop-alloc-preserved : goal.loop-alloc-preserved
loop-alloc-preserved c s =
    let more : c.push.new.self.items ≡ c.loop-alloc.table.items ++ (c.new.result ∷ []) = search (rules, c.push.ensures.items, c.in_ok-push.was) in
    c.loop-alloc.invariant s ∙ one_empty c.loop-alloc.table.items c.new.result c.push.new.self.items more c.new.ensures.items s
