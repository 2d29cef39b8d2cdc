use Rattle.hal_code.specs.Courses.{setting_of}
use Rattle.hal_sound_code.proofs.Rights.{whole}
use Rattle.hal_right_values.proofs.Bounds.{at_within, begin_within, shape_few}
use Rattle.hal_right_values.proofs.laws.a_right_image_keeps_its_bounds.Goals as goal

pub returns-clause-at : goal.returns-clause-at
returns-clause-at c = λ turns image p one right typed. at_within (setting_of turns image p) (whole image right) one typed

pub returns-clause-begin : goal.returns-clause-begin
returns-clause-begin c = λ image p right exists. begin_within (setting_of 0 image p) (whole image right) exists

pub returns-clause-shapes : goal.returns-clause-shapes
returns-clause-shapes c = λ image shape right. shape_few image (whole image right) shape
