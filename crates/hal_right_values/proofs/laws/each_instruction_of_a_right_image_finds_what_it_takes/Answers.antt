use Rattle.hal_code.specs.Courses.{setting_of}
use Rattle.hal_sound_code.proofs.Grounds.{ground_of}
use Rattle.hal_sound_code.proofs.Rights.{whole}
use Rattle.hal_right_values.proofs.Fitting.{finds}
use Rattle.hal_right_values.proofs.laws.each_instruction_of_a_right_image_finds_what_it_takes.Goals as goal

pub returns : goal.returns
returns c = λ turns image p one i right have exists typed holding e.
    finds (setting_of turns image p) (whole image right) exists one typed have (ground_of turns image p right exists).firsts holding i e
