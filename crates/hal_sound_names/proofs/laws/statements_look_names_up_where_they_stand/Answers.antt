use Rattle.std.specs.Prelude.{length}
use Rattle.hal_meaning.specs.Bodies.{marks_of}
use Rattle.hal_sound_names.proofs.LookingUp.{adds, same_unit}
use Rattle.std.proofs.Common.{refl}
use Rattle.hal_sound_names.proofs.LookingStatements.{statements_goes}
use Rattle.hal_sound_names.proofs.laws.statements_look_names_up_where_they_stand.Goals as goal

pub returns : goal.returns
returns c = λ before around body ps later same. (adds (same_unit around.home) (statements_goes around.home (length (marks_of before around.home)) before around body)).looks (marks_of ps around.home) later same refl
