use Rattle.hal_code.specs.Courses.{setting_of}
use Rattle.hal_code.specs.Images.{tables_of}
use Rattle.hal_code.proofs.RightTables.{right_tables}
use Rattle.hal_sound_code.proofs.Rights.{whole}
use Rattle.hal_right_values.proofs.Answering.{Right-answer}
use Rattle.hal_right_values.proofs.Coursing.{Right-stepped, Right-first}
use Rattle.hal_right_values.proofs.Grounds.{known_of}
use Rattle.hal_right_values.proofs.laws.each_step_of_a_right_image_holds_right_values.Goals as goal

pub returns-clause-begins : goal.returns-clause-begins
returns-clause-begins c = λ turns image p right exists. (Right-first (setting_of turns image p) (known_of turns image p right)).is

pub returns-clause-steps : goal.returns-clause-steps
returns-clause-steps c = λ turns image p one right exists typed ranged holding.
    (Right-stepped (setting_of turns image p) (known_of turns image p right) (whole image right) exists one typed ranged holding).is

pub returns-clause-answers : goal.returns-clause-answers
returns-clause-answers c = λ turns image p ends r w one a right exists holding after fits.
    (Right-answer (setting_of turns image p) (known_of turns image p right) (tables_of image) (right_tables image right).cells ends r one holding w a after fits).is
