use Rattle.std.proofs.Common.{sym, subst, ap, ◌∙◌}
use Rattle.hal_code.specs.Cores.{Step}
use Rattle.hal_machine.specs.Seen.{core_seen, stack_seen, setting_seen, Does}
use Rattle.hal_machine.specs.Spreading.{pointed_at}
use Rattle.hal_right_values.specs.Spreading.{spread}
use Rattle.hal_machine.proofs.Spreads.{saturated_same, viewed_spread}
use Rattle.hal_machine.proofs.machine.Machine.view.Goals as goal

pub returns-clause-does : goal.returns-clause-does
returns-clause-does c =
    subst (λ (step : Step). Does c.args.setting.now.image.now c.point_at.result c.point_at.new.self step)
    (ap (pointed_at (setting_seen c.args.setting.now) c.args.view.now (core_seen c.args.self.now)) c.spread_of-at.ensures
    ∙ saturated_same (setting_seen c.args.setting.now) c.args.view.now (core_seen c.args.self.now) (spread c.args.view.now.dimensions (stack_seen c.args.self.now.operands)) c.requires.room
    ∙ sym (viewed_spread (setting_seen c.args.setting.now) c.args.view.now (core_seen c.args.self.now)))
    c.point_at.ensures.does
