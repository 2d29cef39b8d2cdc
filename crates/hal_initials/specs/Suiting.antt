-- Whether cells take an initial value: rule 702 of a value of another class, 704 of an integer outside of a SINGLE.
use Rattle.std.specs.Prelude.{ℕ, Bool, true, false, ◌&&◌, List, [], Option, Some, None, Result, Ok, Err, if◌then◌else◌}
use Rattle.std.specs.Option.{option_and_then, option_or}
use Rattle.hal_base.specs.declared.refusal.Place.{Place}
use Rattle.hal_grammar.specs.Leaves.{Sign}
use Rattle.hal_grammar.specs.Expressions.{Unsubscripted, place_of}
use Rattle.hal_grammar.specs.Declarations.{Initial, Value, LiteralTimes, NameTimes, ListTimes, Initials, NoInitials, MoreInitials}
use Rattle.hal_phrases.specs.Phrases.{Phrase}
use Rattle.hal_scope.specs.Uses.{unless}
use Rattle.hal_kinds.specs.declared.class.Class.{Class}
use Rattle.hal_kinds.specs.declared.class.Class.TheVariants as class
use Rattle.hal_kinds.specs.declared.data.Data.{Data}
use Rattle.hal_kinds.specs.Classes.{class_of, class_of_literal}
use Rattle.hal_kinds.specs.Data.{data_named}
use Rattle.hal_kinds.specs.Subscripts.{chosen, class_in}
use Rattle.hal_operands.specs.Taken.{takes}
use Rattle.hal_values.specs.declared.environment.ErrNo.{ErrNo}
use Rattle.hal_values.specs.declared.value.Kind.{Kind}
use Rattle.hal_values.specs.declared.value.Value as values
use Rattle.hal_operations.specs.Stores.{stored}
use Rattle.hal_constants.specs.declared.constant.Constant.{Constant}
use Rattle.hal_constants.specs.declared.constant.Constant.TheVariants as constant
use Rattle.hal_constants.specs.Operands.{is_storable}
use Rattle.hal_constants.specs.Constants.{constant_of}
use Rattle.hal_constants.specs.Known.{Known, signed_literal, signed_name}

unfoldable pub fails : Result values.Value ErrNo → Bool
fails (Ok v) = false
fails (Err e) = true

-- whether a cell of this kind can't hold a value that it takes
abbrev pub is_lost : Kind → values.Value → Bool
is_lost k v = is_storable k v && fails (stored k v)

-- the same, where both are known
unfoldable pub overflows : Option Kind → Constant → Bool
overflows (Some k) (constant.Worth v) = is_lost k v
overflows k c = false

-- a value of this class at this place, for cells of a class and a kind
abbrev pub value_fault : Option Class → Option Kind → Place → Option Class → Constant → Option (ℕ × Place)
value_fault wanted kind place c v = if takes wanted c then (if overflows kind v then Some (704, place) else None) else Some (702, place)

-- the class of a name's value
abbrev pub class_named : List Phrase → ℕ → List ℕ → Option Class
class_named ps block name = option_and_then (λ (d : Data). Some (class_in d (chosen d Unsubscripted))) (data_named ps block name [])

-- an initial value in a phrase, without its repetition; of a list its values are looked at
unfoldable pub single_fault : List Phrase → Known → Phrase → Option Class → Option Kind → Initial → Option (ℕ × Place)
single_fault ps vs p wanted kind (Value tree) = value_fault wanted kind (place_of tree) (class_of ps p.around.block tree) (constant_of ps vs p tree)
single_fault ps vs p wanted kind (LiteralTimes place count sign at literal) = value_fault wanted kind at (Some (class_of_literal literal)) (signed_literal sign literal)
single_fault ps vs p wanted kind (NameTimes place count sign name) = value_fault wanted kind name.place (class_named ps p.around.block name.name) (signed_name ps vs p sign name)
single_fault ps vs p wanted kind (ListTimes place count values) = None

unfoldable mutual
  -- an initial value with all values of its list
  pub initial_fault : List Phrase → Known → Phrase → Option Class → Option Kind → Initial → Option (ℕ × Place)
  initial_fault ps vs p wanted kind (Value tree) = single_fault ps vs p wanted kind (Value tree)
  initial_fault ps vs p wanted kind (LiteralTimes place count sign at literal) = single_fault ps vs p wanted kind (LiteralTimes place count sign at literal)
  initial_fault ps vs p wanted kind (NameTimes place count sign name) = single_fault ps vs p wanted kind (NameTimes place count sign name)
  initial_fault ps vs p wanted kind (ListTimes place count values) = initials_fault ps vs p wanted kind values

  -- the first of initial values that cells of a class and a kind don't take
  pub initials_fault : List Phrase → Known → Phrase → Option Class → Option Kind → Initials → Option (ℕ × Place)
  initials_fault ps vs p wanted kind NoInitials = None
  initials_fault ps vs p wanted kind (MoreInitials first others) = option_or (initial_fault ps vs p wanted kind first) (initials_fault ps vs p wanted kind others)

-- a sign before what is no integer
unfoldable pub missigned_class : Option Sign → Option Class → Place → Option Place
missigned_class None c place = None
missigned_class (Some sign) c place = unless (takes (Some class.Integer) c) place

unfoldable pub missigned_initial : List Phrase → Phrase → Initial → Option Place
missigned_initial ps p (LiteralTimes place count sign at literal) = missigned_class sign (Some (class_of_literal literal)) at
missigned_initial ps p (NameTimes place count sign name) = missigned_class sign (class_named ps p.around.block name.name) name.place
missigned_initial ps p (Value tree) = None
missigned_initial ps p (ListTimes place count values) = None
