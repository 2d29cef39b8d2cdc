use Rattle.hal_right_ways.proofs.Turnless.{timed_alike, course_alike}
use Rattle.hal_right_ways.proofs.laws.no_process_uses_the_turns_of_an_answer.Goals as goal

pub returns-clause-step : goal.returns-clause-step
returns-clause-step c = timed_alike

pub returns-clause-course : goal.returns-clause-course
returns-clause-course c = course_alike
