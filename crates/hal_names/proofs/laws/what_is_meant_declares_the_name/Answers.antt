use Rattle.hal_phrases.specs.GatheredUnits.{phrases_of}
use Rattle.hal_names.proofs.CountedFiles.{phrases_counted}
use Rattle.hal_names.proofs.Search.{meant_declares}
use Rattle.hal_names.proofs.laws.what_is_meant_declares_the_name.Goals as goal

pub returns : goal.returns
returns c = λ files block name n is. meant_declares (phrases_of files) block name n (phrases_counted files) is
