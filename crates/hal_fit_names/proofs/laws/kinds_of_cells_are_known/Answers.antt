use Rattle.hal_phrases.specs.GatheredUnits.{phrases_of}
use Rattle.hal_fit_names.proofs.Placing.{items_are_placed}
use Rattle.hal_fit_names.proofs.Sizing.{item_kind_known}
use Rattle.hal_fit_names.proofs.laws.kinds_of_cells_are_known.Goals as goal

pub returns : goal.returns
returns c files p common item kind double named sound literals within is typed plain stored =
    let counted = c.phrases_are_counted.ensures files in
    item_kind_known (phrases_of files) named sound counted (c.what_is_meant_declares_the_name.ensures files) literals p common item kind double is typed plain stored (items_are_placed files counted p within)
