use Rattle.hal_phrases.specs.GatheredUnits.{phrases_of}
use Rattle.hal_names.proofs.CountedFiles.{phrases_counted}
use Rattle.hal_names.proofs.Places.{own_first, own_none}
use Rattle.hal_names.proofs.laws.a_key_is_found_at_its_first_declaration.Goals as goal

pub returns-clause-found : goal.returns-clause-found
returns-clause-found c = λ files q n is. own_first (phrases_of files) q n (phrases_counted files) is

pub returns-clause-lacking : goal.returns-clause-lacking
returns-clause-lacking c = λ files q is. own_none (phrases_of files) q is
