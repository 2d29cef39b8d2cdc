-- What the attributes of a name mean: its own, and those before the comma.
use Rattle.std.specs.Prelude.{ℕ, Bool, true, false, ◌||◌, List, [], ◌∷◌, Option, Some, None}
use Rattle.std.specs.List.{list_any}
use Rattle.std.specs.Option.{option_and_then, option_or, is_some}
use Rattle.hal_grammar.specs.Expressions.{Expression, Expressions}
use Rattle.hal_grammar.specs.Declarations.{Mark, Double, Latched, Automatic, Initials, Attribute, LockGroup, LockAny}
use Rattle.hal_grammar.specs.Declarations as declarations
use Rattle.hal_phrases.specs.Phrases.{Phrase}
use Rattle.hal_scope.specs.Sorts.{type_among}
use Rattle.hal_kinds.specs.Attributes.{sizes_among, constant_among, has_mark}
use Rattle.hal_kinds.specs.Data.{is_event_type}
use Rattle.hal_values.specs.declared.value.Kind.{Kind}
use Rattle.hal_constants.specs.Constants.{constant_of}
use Rattle.hal_constants.specs.Known.{Known, kind_of_type, size_of}
use Rattle.hal_templates.specs.declared.traits.Traits.{Traits}

-- the type
abbrev pub type_given : List Attribute → List Attribute → Option declarations.Kind
type_given common own = option_or (type_among own) (type_among common)

-- the sizes of the dimensions
abbrev pub sizes_given : List Attribute → List Attribute → Option Expressions
sizes_given common own = option_or (sizes_among own) (sizes_among common)

-- the values behind CONSTANT
abbrev pub constants_given : List Attribute → List Attribute → Option Initials
constants_given common own = option_or (constant_among own) (constant_among common)

-- whether this word is there
abbrev pub is_given : Mark → List Attribute → List Attribute → Bool
is_given mark common own = has_mark mark own || has_mark mark common

-- the number of LOCK in an attribute
unfoldable pub group_in : Attribute → Option Expression
group_in (LockGroup place group) = Some group
group_in other = None

-- the first one among attributes
unfoldable pub group_among : List Attribute → Option Expression
group_among [] = None
group_among (attribute ∷ attributes) = option_or (group_in attribute) (group_among attributes)

abbrev pub group_given : List Attribute → List Attribute → Option Expression
group_given common own = option_or (group_among own) (group_among common)

-- LOCK with a star
unfoldable pub is_starred : Attribute → Bool
is_starred (LockAny place) = true
is_starred other = false

abbrev pub star_given : List Attribute → List Attribute → Bool
star_given common own = list_any is_starred own || list_any is_starred common

-- the number of a lock group that an expression in a phrase gives
unfoldable pub group_of : List Phrase → Known → Phrase → Option Expression → Option ℕ
group_of ps vs p None = None
group_of ps vs p (Some tree) = size_of 15 (constant_of ps vs p tree)

-- the kind of the cells
abbrev pub kind_given : List Phrase → Known → Phrase → List Attribute → List Attribute → Option Kind
kind_given ps vs p common own = kind_of_type ps vs p (is_given Double common own) (type_given common own)

-- what the attributes of a name that this phrase declares mean
abbrev pub traits : List Phrase → Known → Phrase → List Attribute → List Attribute → Traits
traits ps vs p common own = record {
  typed = is_some (type_given common own);
  event = is_event_type (type_given common own);
  kind = kind_given ps vs p common own;
  locked = is_some (group_given common own);
  group = group_of ps vs p (group_given common own);
  starred = star_given common own;
  latched = is_given Latched common own;
  automatic = is_given Automatic common own;
  constant = is_some (constants_given common own);
}
