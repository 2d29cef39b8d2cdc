use Rattle.hal_code.specs.Courses.{setting_of}
use Rattle.hal_sound_code.proofs.Frames.{calls_are_few, frames_are_few}
use Rattle.hal_sound_code.proofs.laws.a_right_image_calls_downwards.Goals as goal

pub returns-clause-calls : goal.returns-clause-calls
returns-clause-calls c = λ turns image p one typed. calls_are_few (setting_of turns image p) one typed

pub returns-clause-frames : goal.returns-clause-frames
returns-clause-frames c = λ turns image p one typed. frames_are_few (setting_of turns image p) one typed
