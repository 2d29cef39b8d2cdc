use Rattle.std.proofs.Common.{◌≡◌, ◌∙◌, ◌≤◌, ◌<◌, ℕ, Bool, List, ap, arith, length, map, subst, sym}
use Rattle.std.proofs.lemmas.List.{length-map}
use Rattle.hal_reach.specs.Marks.{Unit, themselves}
use Rattle.hal_reach.specs.SeenUnits.{seen_unit}
use Rattle.hal_reach.specs.Sweeps.{AreClosed, AreFound, count}
use Rattle.hal_reach.proofs.Swept.{all_found, few_marked, first_found}
use Rattle.hal_reach.proofs.marks.reaching.Goals as goal

pub sweep-init : goal.sweep-init
sweep-init c =
    let units : List Unit = map seen_unit c.args.units.now in
    let blocks : List ℕ = c.args.blocks.now in
    let first : c.in_ok-marked.marked.items ≡ themselves units blocks = c.in_ok-marked.ensures in
    (ap length first ∙ (first_found units blocks).many ∙ length-map c.args.units.now seen_unit, subst (λ (marked : List Bool). AreFound units blocks marked) (sym first) (first_found units blocks))

pub sweep-smaller : goal.sweep-smaller
sweep-smaller c =
    let more : count c.sweep.marked.items < count c.sweep-in-sweep.new.marked.items = c.sweep-in-sweep.ensures.more c.sweep-test.true in
    omega (arith, more, c.sweep_back-more.ensures.more, few_marked c.sweep-in-sweep.new.marked.items, c.sweep-in-sweep.ensures.many)

pub sweep-preserved : goal.sweep-preserved
sweep-preserved c = (c.sweep_back-more.ensures.many, c.sweep_back-more.ensures.found c.args.blocks.now (c.sweep-in-sweep.ensures.found c.args.blocks.now c.sweep.invariant.1))

pub returns : goal.returns
returns c =
    let units : List Unit = map seen_unit c.args.units.now in
    let old : List Bool = c.sweep.marked.items in
    c.sweep-in-sweep.ensures.same c.sweep-test.false
    ∙ all_found units c.args.blocks.now old c.sweep.invariant.1
    (subst (λ (n : ℕ). AreClosed units old n) (sym (length-map c.args.units.now seen_unit)) (c.sweep-in-sweep.ensures.closed c.sweep-test.false))
