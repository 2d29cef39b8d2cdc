use Rattle.hal_right_values.proofs.Coursing.{course_holds}
use Rattle.hal_right_values.proofs.laws.the_processes_of_a_right_image_hold_right_values.Goals as goal

pub returns : goal.returns
returns c = λ turns image p answers right ranged exists fit. course_holds turns image p right ranged exists answers fit
