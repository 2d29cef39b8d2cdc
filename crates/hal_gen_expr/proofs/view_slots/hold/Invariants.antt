use Rattle.std.proofs.Common.{◌-◌, suc, length, map}
use Rattle.hal_gen_expr.specs.ViewSlots.{AreSame, numbers_of}
use Rattle.hal_gen_expr.proofs.view_slots.hold.Given as goal

abbrev pub invariant-loop-alloc : goal.invariant-loop-alloc
invariant-loop-alloc l = AreSame (map numbers_of l.fn.table.items) (map numbers_of l.table.items)

abbrev pub decreases-loop-alloc : goal.decreases-loop-alloc
decreases-loop-alloc l = suc l.slot - length l.table.items
