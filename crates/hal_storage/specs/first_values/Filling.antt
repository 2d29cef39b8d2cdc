-- What elements hold at first, by what is given.
use Rattle.std.specs.Prelude.{List, map, Option, Some, None}
use Rattle.std.specs.Option.{option_or}
use Rattle.hal_grammar.specs.Declarations.{Initials, Attribute, Declared}
use Rattle.hal_phrases.specs.Phrases.{Phrase}
use Rattle.hal_kinds.specs.Attributes.{initial_of, constant_of}
use Rattle.hal_values.specs.declared.value.Kind.{Kind}
use Rattle.hal_values.specs.declared.value.Value.{Value}
use Rattle.hal_constants.specs.Known.{Known}
use Rattle.hal_states.specs.OfKinds.{nothing}
use Rattle.hal_meaning.specs.InitialValues.{held, filled, all_values}

-- no values
abbrev pub none_given : List Kind → List Value
none_given ks = map nothing ks

-- one value for all elements
abbrev pub one_for_all : Value → List Kind → List Value
one_for_all v ks = map (λ k. held k v) ks

-- the list behind INITIAL or CONSTANT of what is declared
abbrev pub given_of : List Attribute → Declared → Option Initials
given_of common item = option_or (initial_of common item) (constant_of common item)

-- what elements of these kinds hold of the values that a list gives
abbrev pub filled_by : List Phrase → Known → Phrase → List Kind → Option Initials → List Value
filled_by ps vs p ks None = none_given ks
filled_by ps vs p ks (Some list) = filled ks (all_values ps vs p list)
