-- How an event begins, by what it is declared with.
use Rattle.std.specs.Prelude.{List, [], ◌∷◌, ◌++◌, if◌then◌else◌}
use Rattle.hal_grammar.specs.Declarations.{Latched, Attribute, Declared}
use Rattle.hal_phrases.specs.Phrases.{Phrase}
use Rattle.hal_kinds.specs.Attributes.{has_mark}
use Rattle.hal_values.specs.declared.tables.EventStart.{EventStart}
use Rattle.hal_values.specs.declared.tables.EventStart.TheVariants as event
use Rattle.hal_values.specs.declared.value.Kind.TheVariants as kind
use Rattle.hal_constants.specs.Known.{Known}
use Rattle.hal_meaning.specs.InitialValues.{first_values}
use Rattle.hal_meaning.specs.Events.{is_set}

abbrev pub start_of_item : List Phrase → Known → Phrase → List Attribute → Declared → EventStart
start_of_item ps vs p common item =
    if has_mark Latched (item.attributes ++ common) then event.Latched (is_set (first_values ps vs p (item.attributes ++ common) (kind.Bits 1 ∷ []))) else event.Unlatched
