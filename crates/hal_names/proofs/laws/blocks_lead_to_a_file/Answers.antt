use Rattle.hal_phrases.specs.GatheredUnits.{phrases_of}
use Rattle.hal_names.proofs.CountedFiles.{phrases_counted}
use Rattle.hal_names.proofs.Places.{blocks_before}
use Rattle.hal_names.proofs.Search.{to_a_file}
use Rattle.hal_names.proofs.laws.blocks_lead_to_a_file.Goals as goal

pub returns-clause-before : goal.returns-clause-before
returns-clause-before c = λ files. blocks_before (phrases_of files) (phrases_counted files)

pub returns-clause-to_a_file : goal.returns-clause-to_a_file
returns-clause-to_a_file c = λ files block within. to_a_file (phrases_of files) block (phrases_counted files) within
