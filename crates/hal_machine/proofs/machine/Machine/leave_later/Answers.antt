use Rattle.std.proofs.Common.{◌≡◌, ℕ, ◌∙◌, subst, sym}
use Rattle.std.proofs.lemmas.Bool.{OnTrue_at, OnFalse_at}
use Rattle.hal_code.specs.Raising.{cut}
use Rattle.hal_machine.specs.declared.machine.Machine.{Machine}
use Rattle.hal_machine.specs.Seen.{core_seen}
use Rattle.hal_machine.proofs.Cutting.{one_less, none_left}
use Rattle.hal_machine.proofs.machine.Machine.leave_later.Goals as goal

pub returns-then-not-leave_latest-clause-does : goal.returns-then-not-leave_latest-clause-does
returns-then-not-leave_latest-clause-does c =
    let last = OnFalse_at c.if-not-leave_latest.true c.leave_latest.ensures.last in
    subst (λ (m : Machine). (place : ℕ) → cut c.args.level place (core_seen c.args.self.now).frames (core_seen c.args.self.now) ≡ cut 0 place (core_seen m).frames (core_seen m)) (sym last.0)
    (none_left c.args.level c.loop-left.left (core_seen c.args.self.now) (core_seen c.loop-left.self) last.1 c.loop-left.invariant.0)

pub loop-left-preserved : goal.loop-left-preserved
loop-left-preserved c = (
  one_less c.args.level c.loop-left.left (core_seen c.args.self.now) (core_seen c.loop-left.self) (core_seen c.leave_latest.new.self) c.loop-left-test.true
      (OnTrue_at c.if-not-leave_latest.false c.leave_latest.ensures.left) c.loop-left.invariant.0,
  c.leave_latest.ensures.room ∙ c.loop-left.invariant.1,
)
