use Rattle.std.proofs.Common.{ap, ◌∙◌}
use Rattle.hal_machine.specs.declared.step.Wait.{Wait}
use Rattle.hal_code.specs.Cores.{Step}
use Rattle.hal_code.specs.Courses.{settled}
use Rattle.hal_code.specs.Machine.{after_answer}
use Rattle.hal_machine.specs.Seen.{core_seen, wait_seen}
use Rattle.hal_runner.specs.Prepared.{prepared_seen}
use Rattle.hal_runner.specs.Replies.{reply_seen}
use Rattle.hal_runner.specs.Runners.{asked_seen}
use Rattle.hal_runner.proofs.Answers.{one_more}
use Rattle.hal_runner.proofs.runner.Runner.answer.Goals as goal

pub returns-clause-does : goal.returns-clause-does
returns-clause-does c = λ answers at.
    one_more (prepared_seen c.args.setting.now) (asked_seen c.args.setting.now.plain.image.now c.args.self.now) _ answers (reply_seen c.args.reply) at
    (c.in_ok-settle.ensures.does
    ∙ ap (λ (step : Step). settled (prepared_seen c.args.setting.now) step) c.in_ok-step.ensures.does
    ∙ ap (λ (wait : Wait). settled (prepared_seen c.args.setting.now) (after_answer (prepared_seen c.args.setting.now) (wait_seen c.args.setting.now.plain.image.now wait) (reply_seen c.args.reply) (core_seen c.args.self.now.machine))) c.replace-wait.ensures.value)
