-- What elements hold at first.
use Rattle.std.specs.Prelude.{◌++◌, map, List, [], ◌∷◌, pos, Option, Some, None, replicate}
use Rattle.hal_grammar.specs.Declarations.{Initial, Value, LiteralTimes, NameTimes, ListTimes, Initials, NoInitials, MoreInitials, Attribute}
use Rattle.hal_phrases.specs.Phrases.{Phrase}
use Rattle.hal_kinds.specs.Attributes.{initial_among, constant_among}
use Rattle.hal_values.specs.declared.value.Kind.{Kind}
use Rattle.hal_values.specs.declared.value.Value as values
use Rattle.hal_values.specs.declared.value.Value.TheVariants as value
use Rattle.hal_operations.specs.Stores.{mended_store}
use Rattle.std.specs.Option.{option_or}
use Rattle.hal_constants.specs.declared.constant.Constant.{Constant}
use Rattle.hal_constants.specs.declared.constant.Constant.TheVariants as constant
use Rattle.hal_constants.specs.Constants.{constant_of}
use Rattle.hal_constants.specs.Known.{Known, signed_literal, signed_name}
use Rattle.hal_states.specs.OfKinds.{nothing, of_kind}
use Rattle.hal_meaning.specs.Elements.{times}

-- what a cell of the kind holds of a value
abbrev pub held : Kind → values.Value → values.Value
held k v = of_kind k (mended_store k v)

-- what a constant is worth
abbrev pub worth : Constant → values.Value
worth (constant.Worth v) = v
worth other = value.Int (pos 0)

abbrev mutual
  -- the values that an initial value gives
  pub values_of : List Phrase → Known → Phrase → Initial → List values.Value
  values_of ps vs p (Value tree) = worth (constant_of ps vs p tree) ∷ []
  values_of ps vs p (LiteralTimes place count sign at literal) = replicate count (worth (signed_literal sign literal))
  values_of ps vs p (NameTimes place count sign name) = replicate count (worth (signed_name ps vs p sign name))
  values_of ps vs p (ListTimes place count list) = times count (all_values ps vs p list)

  -- those that a list gives
  pub all_values : List Phrase → Known → Phrase → Initials → List values.Value
  all_values ps vs p NoInitials = []
  all_values ps vs p (MoreInitials first others) = values_of ps vs p first ++ all_values ps vs p others

-- elements and values, one beside the other
abbrev pub one_each : List Kind → List values.Value → List values.Value
one_each [] vs = []
one_each (k ∷ ks) [] = nothing k ∷ one_each ks []
one_each (k ∷ ks) (v ∷ vs) = held k v ∷ one_each ks vs

-- one value fills all elements
abbrev pub filled : List Kind → List values.Value → List values.Value
filled ks (v ∷ []) = map (λ k. held k v) ks
filled ks vs = one_each ks vs

-- the list behind INITIAL or CONSTANT
abbrev pub given : List Attribute → Option Initials
given attributes = option_or (initial_among attributes) (constant_among attributes)

-- what elements of these kinds hold at first
abbrev pub first_values : List Phrase → Known → Phrase → List Attribute → List Kind → List values.Value
first_values ps vs p attributes ks = elim (given attributes) [ None ↦ map nothing ks | Some list ↦ filled ks (all_values ps vs p list) ]
