use Rattle.std.proofs.Common.{refl, arith}
use Rattle.hal_grammar.proofs.Codes.{begins_code}
use Rattle.hal_grammar.proofs.LeftOut.{guard_code, cycle_code, dependent_code, priority_code}
use Rattle.hal_grammar.proofs.left_out.left_out_of_schedules.Goals as goal

pub returns-clause-start : goal.returns-clause-start
returns-clause-start c t d c' g p rank depends cycle guard a e f h i =
    let k = priority_code e (dependent_code f (cycle_code h (guard_code i refl))) in
    (λ j. k.0 (begins_code j), λ j. k.1 (begins_code j), λ j. k.2 (begins_code j))

pub returns-clause-priority : goal.returns-clause-priority
returns-clause-priority c d c' g p depends cycle guard a f h i j = (dependent_code f (cycle_code h (guard_code i refl))).3 (begins_code j)

pub returns-clause-dependent : goal.returns-clause-dependent
returns-clause-dependent c c' g p cycle guard a h i j = (cycle_code h (guard_code i refl)).4 (begins_code j)

pub returns-clause-cycle : goal.returns-clause-cycle
returns-clause-cycle c g p b a d = (
  λ h. omega (arith, guard_code d refl, begins_code h),
  λ h. omega (arith, guard_code d refl, begins_code h),
  λ h. omega (arith, guard_code d refl, begins_code h),
  λ h. omega (arith, guard_code d refl, begins_code h),
)

pub returns-clause-comma : goal.returns-clause-comma
returns-clause-comma c p a h = omega (arith, begins_code h)
