-- Constants that suit their expressions: no operand in them is wrong, and a value is of the class of its expression.
use Rattle.std.specs.Prelude.{◌≡◌, ℕ, Bool, true, false, not, ◌&&◌, List, Option, Some, None, slice_get}
use Rattle.std.specs.Option.{is_some}
use Rattle.hal_grammar.specs.Declarations.{Attribute, Declared}
use Rattle.hal_grammar.specs.Expressions.{Literal, Refers, ByParts, NoSubscripts}
use Rattle.hal_phrases.specs.Phrases.{Node, Phrase, OfExpression, OfReference, OfTemplate, OfItem}
use Rattle.hal_names.specs.Laws.{IsDeclaration}
use Rattle.hal_names.specs.Means.{means, prefaces_of}
use Rattle.hal_scope.specs.Rules.{IsAmong}
use Rattle.hal_scope.specs.Sorts.{type_of}
use Rattle.hal_kinds.specs.Data.{is_event_type}
use Rattle.hal_kinds.specs.declared.class.Class.{Class}
use Rattle.hal_kinds.specs.declared.class.Class.TheVariants as class
use Rattle.hal_values.specs.declared.value.Value.{Value}
use Rattle.hal_values.specs.declared.value.Value.TheVariants as value
use Rattle.hal_constants.specs.declared.constant.Constant.{Constant}
use Rattle.hal_constants.specs.declared.constant.Constant.TheVariants as constant
use Rattle.hal_constants.specs.Naming.{is_value_item}
use Rattle.hal_sound_values.specs.Right.{IsRight}
use Rattle.hal_meaning.specs.Places.{is_in_unit}
use Rattle.hal_fit_classes.specs.Kinded.{IsFitLiteral}

-- the class that a value has
abbrev pub class_of_value : Value → Class
class_of_value (value.Int a) = class.Integer
class_of_value (value.Bits len word) = class.Bits
class_of_value (value.Text text) = class.Text

-- a right value of this class
pub record IsWorth (c : Option Class) (v : Value) : Type 0 where
  pub known : c ≡ Some (class_of_value v)
  pub right : IsRight v

-- a constant of an expression of this class: a value of the class, an error, or none; but not one of wrong operands
abbrev pub Suits : Option Class → Constant → Type 0
Suits c (constant.Worth v) = IsWorth c v
Suits c constant.Failed = Unit {0}
Suits c constant.Open = Unit {0}
Suits c constant.Unfit = ⊥

-- a literal of bits has as many as it has places for, and a list of subscripts isn't empty
abbrev pub NodeIsFit : Node → Type 0
NodeIsFit (OfExpression role (Literal place literal)) = IsFitLiteral literal
NodeIsFit (OfReference role (Refers place name path (ByParts at NoSubscripts NoSubscripts NoSubscripts))) = ⊥
NodeIsFit other = Unit {0}

-- so it is with all of a set, as it is with what words spell
abbrev pub HasFitLiterals : List Phrase → Type 0
HasFitLiterals ps = (p : Phrase) → IsAmong p ps → NodeIsFit p.node

-- what a name means declares it
abbrev pub AreDeclared : List Phrase → Type 0
AreDeclared ps = (block : ℕ) (name : List ℕ) (n : ℕ) → means ps block name ≡ Some n → IsDeclaration ps name n

-- whether a phrase is a template's: a written template itself, or what it declares for the file
abbrev pub is_templated : List Phrase → Phrase → Node → Bool
is_templated ps p (OfTemplate name head declarations) = true
is_templated ps p (OfItem common item) = not (is_in_unit ps p.around.home)
is_templated ps p other = false

-- whether data are no event and no constant that is its value
abbrev pub is_plain : List Attribute → Declared → Bool
is_plain common item = not (is_event_type (type_of common item)) && not (is_value_item common item)

-- whether names belong to a file
abbrev pub is_in_file : List Phrase → ℕ → Bool
is_in_file ps home = elim (slice_get ps home) [ None ↦ false | Some f ↦ is_some (prefaces_of f.node) ]
