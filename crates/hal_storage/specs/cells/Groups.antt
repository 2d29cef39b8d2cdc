-- The lock groups of data, by own attributes and those before the comma, and how data are stored by them.
use Rattle.std.specs.Prelude.{ℕ, Bool, true, false, ◌||◌, List, Option, Some, None, if◌then◌else◌}
use Rattle.std.specs.Option.{option_or}
use Rattle.hal_grammar.specs.Declarations.{Automatic, Attribute, Declared}
use Rattle.hal_phrases.specs.Phrases.{Phrase}
use Rattle.hal_scope.specs.Sorts.{type_of}
use Rattle.hal_kinds.specs.Attributes.{is_marked}
use Rattle.hal_kinds.specs.Data.{is_event_type}
use Rattle.hal_constants.specs.Naming.{is_value_item}
use Rattle.hal_constants.specs.Known.{Known}
use Rattle.hal_meaning.specs.Places.{Storing, InPlaces, ByReference, Unstored, group_among, home_shares, is_in_unit, parameter, storing_of_data}

-- the lock group of what a phrase declares
abbrev pub group_of : List Phrase → Known → Phrase → List Attribute → Declared → Option ℕ
group_of ps vs p common item = option_or (group_among ps vs p item.attributes) (group_among ps vs p common)

-- how it is stored, where it is no parameter
abbrev pub storing_of_named : List Phrase → Known → Phrase → List Attribute → Declared → Storing
storing_of_named ps vs p common item =
    if is_event_type (type_of common item) || is_value_item common item then Unstored
    else storing_of_data (home_shares ps p.around.home) (is_marked Automatic common item) (group_of ps vs p common item)

-- how it is stored, as the parameter that it may be
abbrev pub storing_by : List Phrase → Known → Phrase → List Attribute → Declared → Option Bool → Storing
storing_by ps vs p common item (Some true) = ByReference
storing_by ps vs p common item (Some false) = InPlaces
storing_by ps vs p common item None = storing_of_named ps vs p common item

-- how it is stored
abbrev pub storing_of_item : List Phrase → Known → Phrase → List Attribute → Declared → Storing
storing_of_item ps vs p common item =
    if is_in_unit ps p.around.home then storing_by ps vs p common item (parameter ps p.around.home item.name.name) else Unstored
