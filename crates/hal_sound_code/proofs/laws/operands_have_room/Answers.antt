use Rattle.hal_code.specs.Courses.{setting_of}
use Rattle.hal_sound_code.proofs.Rooms.{operands_low}
use Rattle.hal_sound_code.proofs.laws.operands_have_room.Goals as goal

pub returns : goal.returns
returns c = λ turns image p one typed. operands_low (setting_of turns image p) one typed
