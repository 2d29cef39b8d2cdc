use Rattle.std.proofs.Common.{ap, ◌∙◌}
use Rattle.hal_code.specs.Courses.{Asked}
use Rattle.hal_runner.specs.Prepared.{prepared_seen}
use Rattle.image_procs.proofs.Standing.{took_all}
use Rattle.image_procs.proofs.course.Course.ask.Goals as goal

pub returns-clause-asked : goal.returns-clause-asked
returns-clause-asked c =
    c.request_of-request.ensures ∙ c.request.ensures
    ∙ ap (λ (one : Asked). one.request) (took_all (prepared_seen c.args.setting.now) c.take_in.new.runner c.args.self.now.told.items c.in_ok-take_in.ensures.all.1)
