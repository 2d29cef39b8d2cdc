use Rattle.hal_phrases.specs.GatheredUnits.{phrases_of}
use Rattle.hal_fit_names.proofs.Suiting.{suits}
use Rattle.hal_fit_names.proofs.laws.constant_expressions_suit_their_classes.Goals as goal

pub returns : goal.returns
returns c files before around role tree p named sound literals value begun same =
    suits (phrases_of files) named sound (c.phrases_are_counted.ensures files) (c.what_is_meant_declares_the_name.ensures files) literals p before around role tree value same begun
