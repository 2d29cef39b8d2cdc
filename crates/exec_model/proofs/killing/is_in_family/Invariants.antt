use Rattle.std.proofs.Common.{◌≡◌, ◌-◌, length}
use Rattle.exec_model.specs.Killing.{leads, is_of_family}
use Rattle.exec_model.proofs.killing.is_in_family.Given as goal

abbrev pub invariant-steps : goal.invariant-steps
invariant-steps l = leads (length l.rows - l._step) l.rows l.at l.head ≡ is_of_family l.rows l.head l.process
