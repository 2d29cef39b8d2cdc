use Rattle.hal_code.specs.Courses.{setting_of}
use Rattle.hal_sound_code.proofs.Rights.{whole}
use Rattle.hal_sound_code.proofs.Sparing.{entries_have_room}
use Rattle.hal_sound_code.proofs.laws.entries_have_room.Goals as goal

pub returns : goal.returns
returns c = λ turns image p one right typed. entries_have_room (setting_of turns image p) (whole image right) one typed
