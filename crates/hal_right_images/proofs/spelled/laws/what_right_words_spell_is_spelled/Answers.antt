use Rattle.std.proofs.Common.{subst}
use Rattle.hal_phrases.specs.GatheredUnits.{phrases_of}
use Rattle.hal_right_images.proofs.spelled.Adding.{NodeSpelled}
use Rattle.hal_right_images.proofs.spelled.Fitting.{at_among, node_fits}
use Rattle.hal_right_images.proofs.spelled.SpelledFiles.{phrases_spelled}
use Rattle.hal_right_images.proofs.spelled.SpelledUnits.{files_nested}
use Rattle.hal_right_images.proofs.spelled.laws.what_right_words_spell_is_spelled.Goals as goal

pub returns-clause-literals : goal.returns-clause-literals
returns-clause-literals c files are = λ p within. node_fits p.node (phrases_spelled files are p within)

pub returns-clause-lists : goal.returns-clause-lists
returns-clause-lists c files are =
    record {
      sizes = λ p common item within is. subst NodeSpelled is (phrases_spelled files are p within);
      receivers = λ p receivers value within is. subst NodeSpelled is (phrases_spelled files are p within);
      times = λ p r place number within is. subst NodeSpelled is (phrases_spelled files are p within);
      initials = λ p place count sign spot literal within is. subst NodeSpelled is (phrases_spelled files are p within);
    }

pub returns-clause-nested : goal.returns-clause-nested
returns-clause-nested c files are = files_nested files are

pub returns-clause-parts : goal.returns-clause-parts
returns-clause-parts c files are = λ k p name parts there is. subst NodeSpelled is (phrases_spelled files are p (at_among (phrases_of files) k p there))
