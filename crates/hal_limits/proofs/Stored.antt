-- What is a parameter has cells or places, and so has what is no event and no constant that is its value.
use Rattle.std.specs.Prelude.{◌≡◌, ℕ, Bool, true, false, not, ◌&&◌, ◌||◌, List, ◌++◌, Option, Some, None, if◌then◌else◌}
use Rattle.std.proofs.Common.{refl}
use Rattle.hal_grammar.specs.Declarations.{Attribute, Automatic, Declared}
use Rattle.hal_phrases.specs.Phrases.{Phrase, OfItem}
use Rattle.hal_scope.specs.Sorts.{type_of}
use Rattle.hal_kinds.specs.Attributes.{has_mark}
use Rattle.hal_kinds.specs.Data.{is_event_type}
use Rattle.hal_constants.specs.Known.{Known}
use Rattle.hal_constants.specs.Naming.{is_value_item}
use Rattle.hal_meaning.specs.Places.{Storing, Unstored, group_among, home_shares, is_in_unit, parameter, storing, storing_of_data, storing_of_item}
use Rattle.hal_views.specs.Views.{is_stored}

-- data that are no parameter are stored, however they are
data_are_stored : (shared automatic : Bool) (group : Option ℕ) → is_stored (storing_of_data shared automatic group) ≡ true
data_are_stored shared automatic (Some group) = refl
data_are_stored shared true None = refl
data_are_stored true false None = refl
data_are_stored false false None = refl

stored_or_not : (event constant : Bool) (s : Storing) → is_stored s ≡ true → is_stored (if event || constant then Unstored else s) ≡ (not event && not constant)
stored_or_not true constant s is = refl
stored_or_not false true s is = refl
stored_or_not false false s is = is

stored_parameter : (ps : List Phrase) (vs : Known) (p : Phrase) (common : List Attribute) (item : Declared) (output : Bool) → is_stored (storing_of_item ps vs p common item (Some output)) ≡ true
stored_parameter ps vs p common item true = refl
stored_parameter ps vs p common item false = refl

pub parameters_are_stored : (ps : List Phrase) (vs : Known) (p : Phrase) (common : List Attribute) (item : Declared) (output : Bool) → is_in_unit ps p.around.home ≡ true
    → parameter ps p.around.home item.name.name ≡ Some output → is_stored (storing ps vs p (OfItem common item)) ≡ true
parameters_are_stored ps vs p common item output inside found = rw (inside, found) (stored_parameter ps vs p common item output)

pub others_are_stored : (ps : List Phrase) (vs : Known) (p : Phrase) (common : List Attribute) (item : Declared) → is_in_unit ps p.around.home ≡ true
    → parameter ps p.around.home item.name.name ≡ None → is_stored (storing ps vs p (OfItem common item)) ≡ (not (is_event_type (type_of common item)) && not (is_value_item common item))
others_are_stored ps vs p common item inside found =
    rw (inside, found) (stored_or_not (is_event_type (type_of common item)) (is_value_item common item)
    (storing_of_data (home_shares ps p.around.home) (has_mark Automatic (item.attributes ++ common)) (group_among ps vs p (item.attributes ++ common)))
    (data_are_stored (home_shares ps p.around.home) (has_mark Automatic (item.attributes ++ common)) (group_among ps vs p (item.attributes ++ common))))
