use Rattle.std.proofs.Common.{ap, sym, subst, ◌∙◌, ◌∷◌}
use Rattle.hal_phrases.specs.GatheredUnits.{phrases_of}
use Rattle.hal_meaning.specs.Elements.{chosen, shape_of}
use Rattle.hal_fit_rules.specs.Agreeing.{AreAlike}
use Rattle.hal_fit_parts.proofs.Alike.{found_so, part_alike, shaped_so}
use Rattle.std.specs.Option.{is_some}
use Rattle.hal_fit_parts.proofs.laws.a_part_at_the_bottom_is_what_its_component_is.Goals as goal

pub returns-clause-part : goal.returns-clause-part
returns-clause-part c files vs k j p q name parts path part copies type_ cells shape sound there is leading at so typed sized shaped =
    part_alike (phrases_of files) vs j p q path part copies type_ cells shape at so typed sized
    (ap (chosen path) shaped ∙ c.a_path_to_a_bottom_part_chooses_its_component.ensures.bottom files vs k j p q name parts path part sound there is leading at so)

pub returns-clause-item : goal.returns-clause-item
returns-clause-item c files vs k j x p q name parts n path common declared place template copies part type_ cells sound structured meant there is leading at so typed sized =
    subst (λ found. AreAlike found (n ∷ path) (shape_of (phrases_of files) vs x common declared)) (sym (found_so (phrases_of files) k j x n path common declared place template copies structured meant leading))
    (part_alike (phrases_of files) vs j p q (n ∷ path) part (is_some copies) type_ cells (shape_of (phrases_of files) vs x common declared) at so typed sized
    (ap (chosen (n ∷ path)) (shaped_so (phrases_of files) vs k x p common declared place template copies structured meant there)
    ∙ c.a_path_to_a_bottom_part_chooses_its_component.ensures.bottom files vs k j p q name parts (n ∷ path) part sound there is leading at so))
