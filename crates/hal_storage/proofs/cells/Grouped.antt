-- How data are stored, by own attributes and those before the comma.
use Rattle.std.proofs.Common.{◌≡◌, ◌∙◌, Bool, true, false, ◌||◌, List, [], ◌∷◌, ◌++◌, Option, Some, None, if◌then◌else◌, refl, sym, ap, ap₂}
use Rattle.std.specs.Option.{option_or}
use Rattle.hal_grammar.specs.Declarations.{Automatic, Attribute, Declared}
use Rattle.hal_phrases.specs.Phrases.{Phrase, OfItem}
use Rattle.hal_scope.specs.Sorts.{type_of}
use Rattle.hal_kinds.specs.Data.{is_event_type}
use Rattle.hal_constants.specs.Naming.{is_value_item}
use Rattle.hal_constants.specs.Known.{Known}
use Rattle.hal_meaning.specs.Places.{Storing, Unstored, group_in, group_among, home_shares, is_in_unit, parameter, storing_of_data, storing}
use Rattle.hal_meaning.specs.Places as places
use Rattle.hal_storage.proofs.elements.Attributes.{mark_behind, or_or}
use Rattle.hal_storage.specs.cells.Groups.{storing_by, storing_of_item}

groups : (ps : List Phrase) (vs : Known) (p : Phrase) (xs ys : List Attribute) → group_among ps vs p (xs ++ ys) ≡ option_or (group_among ps vs p xs) (group_among ps vs p ys)
groups ps vs p [] ys = refl
groups ps vs p (x ∷ xs) ys = ap (option_or (group_in ps vs p x)) (groups ps vs p xs ys) ∙ sym (or_or (group_in ps vs p x) (group_among ps vs p xs) (group_among ps vs p ys))

by_parameter : (ps : List Phrase) (vs : Known) (p : Phrase) (common : List Attribute) (item : Declared) (o : Option Bool) → places.storing_of_item ps vs p common item o ≡ storing_by ps vs p common item o
by_parameter ps vs p common item (Some true) = refl
by_parameter ps vs p common item (Some false) = refl
by_parameter ps vs p common item None =
    ap (λ (s : Storing). if is_event_type (type_of common item) || is_value_item common item then Unstored else s)
    (ap₂ (storing_of_data (home_shares ps p.around.home)) (mark_behind Automatic common item) (groups ps vs p item.attributes common))

pub storing_behind : (ps : List Phrase) (vs : Known) (p : Phrase) (common : List Attribute) (item : Declared) → storing ps vs p (OfItem common item) ≡ storing_of_item ps vs p common item
storing_behind ps vs p common item =
    ap (λ (s : Storing). if is_in_unit ps p.around.home then s else Unstored) (by_parameter ps vs p common item (parameter ps p.around.home item.name.name))
