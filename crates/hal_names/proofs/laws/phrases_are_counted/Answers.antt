use Rattle.hal_phrases.specs.GatheredUnits.{phrases_of}
use Rattle.hal_names.proofs.CountedFiles.{phrases_counted}
use Rattle.hal_names.proofs.Places.{are_counted}
use Rattle.hal_names.proofs.laws.phrases_are_counted.Goals as goal

pub returns : goal.returns
returns c = λ files. are_counted (phrases_of files) (phrases_counted files)
