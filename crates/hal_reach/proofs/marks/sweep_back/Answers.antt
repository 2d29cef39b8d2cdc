use Rattle.std.proofs.Common.{◌≡◌, ◌∙◌, ◌≤◌, ◌<◌, ap, arith}
use Rattle.hal_reach.specs.Sweeps.{count}
use Rattle.hal_reach.proofs.marks.sweep_back.Goals as goal

pub loop-place-preserved-then-mark : goal.loop-place-preserved-then-mark
loop-place-preserved-then-mark c = (
  c.mark.ensures.many,
  (λ blocks found. c.mark.ensures.found blocks (c.loop-place.invariant.1 blocks found)),
  omega (arith, c.mark.ensures.more c.if-mark.true, c.loop-place.invariant.2),
  (λ no. absurd (cc)),
)

pub loop-place-preserved : goal.loop-place-preserved
loop-place-preserved c = (
  c.mark.ensures.many,
  (λ blocks found. c.mark.ensures.found blocks (c.loop-place.invariant.1 blocks found)),
  omega (arith, ap count (c.mark.ensures.same c.if-mark.false), c.loop-place.invariant.2),
  (λ none. c.mark.ensures.same c.if-mark.false ∙ c.loop-place.invariant.3 none),
)
