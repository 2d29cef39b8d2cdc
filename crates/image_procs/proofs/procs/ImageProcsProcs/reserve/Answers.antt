use Rattle.std.proofs.Common.{map, ap, ◌∙◌}
use Rattle.image_procs.specs.Running.{Running, answers_of}
use Rattle.image_procs.specs.Tellings.{answers_told}
use Rattle.image_procs.proofs.Placing.{all_told, all_looks, all_run_on}
use Rattle.image_procs.proofs.procs.ImageProcsProcs.reserve.Goals as goal

pub invariant_of-self : goal.invariant_of-self
invariant_of-self c = all_run_on c.self.inside.load c.self.inside.tables c.self.inside.loaded.items c.self.inside.courses.items c.reserve_all.new.courses.items c.reserve_all.ensures.same c.self.invariant

pub returns-clause-same : goal.returns-clause-same
returns-clause-same c = (
  ap (λ (r : Running). r.load) c.self.view_is,
  ap (map answers_told) (all_told c.reserve_all.new.courses.items c.self.inside.courses.items c.reserve_all.ensures.same) ∙ ap answers_of c.self.view_is,
  all_looks c.reserve_all.new.courses.items c.self.inside.courses.items c.reserve_all.ensures.same ∙ ap (λ (r : Running). r.looks) c.self.view_is,
)
