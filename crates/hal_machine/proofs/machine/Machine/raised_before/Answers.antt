use Rattle.std.proofs.Common.{subst}
use Rattle.hal_values.specs.Searching.{Found}
use Rattle.hal_code.specs.Raising as raising
use Rattle.hal_machine.specs.Seen.{core_seen, setting_seen, rest_seen, Does}
use Rattle.hal_machine.proofs.machine.Machine.raised_before.Goals as goal

pub returns-in-Ignored-clause-does : goal.returns-in-Ignored-clause-does
returns-in-Ignored-clause-does c =
    subst (λ (found : Found). Does c.args.setting.now.image.now c.ignored.result c.ignored.new.self
    (raising.meets (setting_seen c.args.setting.now) c.args.error found (rest_seen c.args.rest)
    (raising.rested (setting_seen c.args.setting.now) (rest_seen c.args.rest) (raising.failing c.args.error (core_seen c.args.self.now))) (raising.failing c.args.error (core_seen c.args.self.now))))
    c.in-Ignored.ensures c.ignored.ensures.does
