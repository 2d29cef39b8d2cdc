use Rattle.std.proofs.Common.{sym, subst}
use Rattle.hal_code.specs.Cores as cores
use Rattle.hal_code.specs.Cores.{Step}
use Rattle.hal_code.specs.Raising as raising
use Rattle.hal_machine.specs.Seen.{core_seen, setting_seen, rest_seen, Does}
use Rattle.hal_machine.proofs.machine.Machine.ignored.Goals as goal

pub returns-in-None-clause-does : goal.returns-in-None-clause-does
returns-in-None-clause-does c =
    subst (λ (step : Step). Does c.args.setting.now.image.now c.rested.result c.rested.new.self step)
    (sym (c.in-None.ensures (cores.Then (rest_seen c.args.rest)) (raising.rested (setting_seen c.args.setting.now) (rest_seen c.args.rest) (core_seen c.args.self.now)) (core_seen c.args.self.now))) c.rested.ensures.does
