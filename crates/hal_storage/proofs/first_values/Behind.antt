-- What is given, by own attributes and those before the comma.
use Rattle.std.proofs.Common.{◌≡◌, ◌∙◌, List, ◌++◌, Option, Some, None, refl, ap, ap₂}
use Rattle.std.specs.Option.{option_or}
use Rattle.hal_grammar.specs.Declarations.{Initials, Attribute, Declared}
use Rattle.hal_phrases.specs.Phrases.{Phrase}
use Rattle.hal_values.specs.declared.value.Kind.{Kind}
use Rattle.hal_constants.specs.Known.{Known}
use Rattle.hal_meaning.specs.InitialValues.{given, first_values}
use Rattle.hal_storage.proofs.elements.Attributes.{initial_behind, constant_behind}
use Rattle.hal_storage.specs.first_values.Filling.{given_of, filled_by}

behind : (common : List Attribute) (item : Declared) → given (item.attributes ++ common) ≡ given_of common item
behind common item = ap₂ option_or (initial_behind common item) (constant_behind common item)

by_list : (ps : List Phrase) (vs : Known) (p : Phrase) (attributes : List Attribute) (ks : List Kind) → first_values ps vs p attributes ks ≡ filled_by ps vs p ks (given attributes)
by_list ps vs p attributes ks = by_given (given attributes)
  where
    by_given : (list : Option Initials) → elim list [ None ↦ filled_by ps vs p ks None | Some list ↦ filled_by ps vs p ks (Some list) ] ≡ filled_by ps vs p ks list
    by_given None = refl
    by_given (Some list) = refl

pub given_behind : (ps : List Phrase) (vs : Known) (p : Phrase) (common : List Attribute) (item : Declared) (ks : List Kind)
    → first_values ps vs p (item.attributes ++ common) ks ≡ filled_by ps vs p ks (given_of common item)
given_behind ps vs p common item ks = by_list ps vs p (item.attributes ++ common) ks ∙ ap (filled_by ps vs p ks) (behind common item)
