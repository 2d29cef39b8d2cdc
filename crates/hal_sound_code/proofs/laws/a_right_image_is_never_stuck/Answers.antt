use Rattle.hal_sound_code.proofs.Fitting.{right_awaits}
use Rattle.hal_sound_code.proofs.laws.a_right_image_is_never_stuck.Goals as goal

pub returns : goal.returns
returns c = λ turns image p answers right exists fit stuck. (right_awaits turns image p answers right exists fit).asked stuck
