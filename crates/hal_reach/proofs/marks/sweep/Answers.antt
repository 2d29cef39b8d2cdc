use Rattle.std.proofs.Common.{◌+◌, Bool, map, subst, sym}
use Rattle.hal_reach.specs.SeenUnits.{seen_unit}
use Rattle.hal_reach.specs.Sweeps.{AreSwept}
use Rattle.hal_reach.proofs.Swept.{swept_more, swept_same}
use Rattle.hal_reach.proofs.marks.sweep.Goals as goal
use Rattle.hal_reach.proofs.marks.sweep.Goals.{then-mark, else-mark}

pub loop-place-preserved : goal.loop-place-preserved
loop-place-preserved c =
    let units = map seen_unit c.args.units.now in
    let old = c.args.marked.now.items in
    let mid = c.loop-place.marked.items in
    let new = c.mark.new.marked.items in
    let n = c.loop-place.place in (
      c.mark.ensures.many,
      (λ blocks found. c.mark.ensures.found blocks (c.loop-place.invariant.1 blocks found)),
      elim c.if-mark.branch [
        | then-mark w ↦ subst (λ (b : Bool). AreSwept b units old new (n + 1)) (sym w.some-is) (swept_more c.loop-place.some units old mid new n c.loop-place.invariant.2 (c.mark.ensures.more w.if-mark.true))
        | else-mark w ↦
            subst (λ (b : Bool). AreSwept b units old new (n + 1)) (sym w.some-is)
            (swept_same c.loop-place.some units old mid new n c.loop-place.invariant.2 (c.mark.ensures.same w.if-mark.false) (c.mark.ensures.closed w.if-mark.false))
      ],
    )
