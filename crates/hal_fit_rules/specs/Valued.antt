-- Constants that the unit itself declares and that are their values.
use Rattle.std.specs.Prelude.{◌≡◌, true, false, List, Some}
use Rattle.hal_grammar.specs.Declarations.{Kind, Attribute, Declared}
use Rattle.hal_phrases.specs.Phrases.{Phrase, OfItem}
use Rattle.hal_scope.specs.Sorts.{type_of}
use Rattle.hal_kinds.specs.Data.{is_event_type}
use Rattle.hal_values.specs.declared.value.Value.{Value}
use Rattle.hal_constants.specs.Known.{known}
use Rattle.hal_constants.specs.Naming.{is_value_item, value_at}
use Rattle.hal_agreement.specs.Sites.{Site}

-- the constants of the set are those that are known of its phrases
abbrev pub HasConstants : Site → Type 0
HasConstants site = site.set.constants ≡ known site.set.phrases

-- a phrase declares a constant that is its value, and that value is known
pub record IsConstantItem (site : Site) (phrase : Phrase) : Type 0 where
  pub common : List Attribute
  pub item : Declared
  pub declares : phrase.node ≡ OfItem common item
  pub kind : Kind
  pub typed : type_of common item ≡ Some kind
  pub eventless : is_event_type (Some kind) ≡ false
  pub valued : is_value_item common item ≡ true
  pub value : Value
  pub worth : value_at site.set.constants phrase.number ≡ Some value
