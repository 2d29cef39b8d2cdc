-- The classes of expressions. None where an operand is wrong or a name unknown.
use Rattle.std.specs.Prelude.{ℕ, Bool, true, false, ◌&&◌, List, [], Option, Some, None, slice_get, if◌then◌else◌}
use Rattle.std.specs.Option.{option_and_then}
use Rattle.hal_grammar.specs.Leaves.{Naming, LiteralValue, Integer, Text, Bits, True, False, On, Off, Conversion, ToInteger, ToBits, ToText}
use Rattle.hal_grammar.specs.Expressions.{Expression, Or, And, Compare, Cat, Sum, Product, Power, Not, Literal, Decimal, Referred, Called, Convert, Parenthesis, Expressions, NoExpressions, MoreExpressions, Reference, Refers, Subscript, Unsubscripted}
use Rattle.hal_grammar.specs.Declarations.{Kind, EventKind, StructureKind}
use Rattle.hal_grammar.specs.Units.{Head, Program, Compool, Task, Procedure, Function, Returns, NoKind, HasKind}
use Rattle.hal_phrases.specs.Phrases.{Node, Phrase, OfTemplate, OfUnit, OfItem, OfTemporaryGroup}
use Rattle.hal_names.specs.Means.{means}
use Rattle.hal_scope.specs.declared.builtin.Builtin.{Builtin}
use Rattle.hal_scope.specs.declared.builtin.Builtin.TheVariants as builtin
use Rattle.hal_scope.specs.declared.builtin.Form.{Form}
use Rattle.hal_scope.specs.declared.builtin.Form.TheVariants as form
use Rattle.hal_scope.specs.Builtins.{builtin_named, form_of}
use Rattle.hal_scope.specs.Uses.{is_nil}
use Rattle.hal_kinds.specs.declared.class.Class.{Class}
use Rattle.hal_kinds.specs.declared.class.Class.TheVariants as class
use Rattle.hal_kinds.specs.declared.data.Data.{Data}
use Rattle.hal_kinds.specs.Data.{class_of_type, data_at}
use Rattle.hal_kinds.specs.Subscripts.{chosen, class_left}

-- a result of this type; a function gives no event and no structure
unfoldable pub class_of_result : Kind → Option Class
class_of_result (EventKind place) = None
class_of_result (StructureKind place template copies) = None
class_of_result other = Some (class_of_type other)

unfoldable pub class_of_returns : Returns → Option Class
class_of_returns NoKind = None
class_of_returns (HasKind kind precision) = class_of_result kind

-- the name of a block as an operand: a process's is read as one bit, a function's calls it without arguments
unfoldable pub class_of_head : Head → Option Class
class_of_head (Program place) = Some class.Bits
class_of_head (Task place) = Some class.Bits
class_of_head (Compool place) = None
class_of_head (Procedure place inputs outputs mode) = None
class_of_head (Function place inputs returns mode) = class_of_returns returns

-- the name of a built-in function without a list
unfoldable pub class_of_form : Form → Option Class
class_of_form form.Alone = Some class.Integer
class_of_form other = None

unfoldable pub class_of_builtin : Option Builtin → Option Class
class_of_builtin None = None
class_of_builtin (Some b) = class_of_form (form_of b)

-- a reference to data that a phrase declares
abbrev pub class_of_data : List Phrase → Phrase → List Naming → Subscript → Node → Option Class
class_of_data ps p path subscript node = option_and_then (λ (d : Data). class_left d (chosen d subscript)) (data_at ps p path node)

-- a reference to what a phrase declares
unfoldable pub class_at : List Phrase → Phrase → List Naming → Subscript → Node → Option Class
class_at ps p path subscript (OfTemplate name head declarations) = class_of_head head
class_at ps p path subscript (OfUnit name head declarations) = class_of_head head
class_at ps p path subscript other = class_of_data ps p path subscript other

-- a name, with further names and a subscript
abbrev pub class_of_path : List Phrase → ℕ → List ℕ → List Naming → Subscript → Option Class
class_of_path ps block name path subscript =
    elim (means ps block name) [
      | None ↦ if is_nil path then class_of_builtin (builtin_named name) else None
      | Some k ↦ option_and_then (λ (p : Phrase). class_at ps p path subscript p.node) (slice_get ps k)
    ]

-- a name alone
abbrev pub class_of_name : List Phrase → ℕ → List ℕ → Option Class
class_of_name ps block name = class_of_path ps block name [] Unsubscripted

-- a reference
unfoldable pub class_of_reference : List Phrase → ℕ → Reference → Option Class
class_of_reference ps block (Refers place name path subscript) = class_of_path ps block name path subscript

-- what a built-in function with a list gives
unfoldable pub class_of_function : Builtin → Option Class
class_of_function builtin.Odd = Some class.Bits
class_of_function builtin.Xor = Some class.Bits
class_of_function builtin.Ljust = Some class.Text
class_of_function builtin.Rjust = Some class.Text
class_of_function builtin.Trim = Some class.Text
class_of_function builtin.Errgrp = None
class_of_function builtin.Errnum = None
class_of_function builtin.Runtime = None
class_of_function builtin.Max = None
class_of_function builtin.Min = None
class_of_function builtin.Prod = None
class_of_function builtin.Sum = None
class_of_function other = Some class.Integer

-- what a block gives that is called with a list
unfoldable pub class_of_called_head : Head → Option Class
class_of_called_head (Function place inputs returns mode) = class_of_returns returns
class_of_called_head other = None

-- what the call form of a name gives that a phrase declares: a function's result, or the product of a variable and a parenthesis
unfoldable pub class_of_called : Node → Option Class
class_of_called (OfTemplate name head declarations) = class_of_called_head head
class_of_called (OfUnit name head declarations) = class_of_called_head head
class_of_called (OfItem common item) = Some class.Integer
class_of_called (OfTemporaryGroup labels variable) = Some class.Integer
class_of_called other = None

-- the call form of a name
abbrev pub class_of_call : List Phrase → ℕ → List ℕ → Option Class
class_of_call ps block name =
    elim (means ps block name) [
      | None ↦ option_and_then class_of_function (builtin_named name)
      | Some k ↦ option_and_then (λ (p : Phrase). class_of_called p.node) (slice_get ps k)
    ]

unfoldable pub class_of_literal : LiteralValue → Class
class_of_literal (Integer number) = class.Integer
class_of_literal (Text text) = class.Text
class_of_literal (Bits len bits) = class.Bits
class_of_literal True = class.Bits
class_of_literal False = class.Bits
class_of_literal On = class.Bits
class_of_literal Off = class.Bits

unfoldable pub class_of_conversion : Conversion → Class
class_of_conversion ToInteger = class.Integer
class_of_conversion ToBits = class.Bits
class_of_conversion ToText = class.Text

-- two operands of AND or OR: bits, or a condition where one is
unfoldable pub beside : Option Class → Option Class → Option Class
beside (Some class.Bits) (Some class.Bits) = Some class.Bits
beside (Some class.Bits) (Some class.Condition) = Some class.Condition
beside (Some class.Condition) (Some class.Bits) = Some class.Condition
beside (Some class.Condition) (Some class.Condition) = Some class.Condition
beside one other = None

-- two operands of CAT: bits, or a text and what is one beside it
unfoldable pub joined : Option Class → Option Class → Option Class
joined (Some class.Bits) (Some class.Bits) = Some class.Bits
joined (Some class.Text) (Some class.Text) = Some class.Text
joined (Some class.Text) (Some class.Integer) = Some class.Text
joined (Some class.Integer) (Some class.Text) = Some class.Text
joined one other = None

-- what stands in parentheses: one value or a condition
unfoldable pub enclosed : Option Class → Option Class
enclosed (Some class.Structure) = None
enclosed (Some class.Array) = None
enclosed other = other

unfoldable mutual
  -- an expression in this block
  pub class_of : List Phrase → ℕ → Expression → Option Class
  class_of ps block (Or place first others) = class_beside ps block (class_of ps block first) others
  class_of ps block (And place first others) = class_beside ps block (class_of ps block first) others
  class_of ps block (Compare place left relation right) = Some class.Condition
  class_of ps block (Cat place first others) = class_joined ps block (class_of ps block first) others
  class_of ps block (Sum place opening first others) = Some class.Integer
  class_of ps block (Product place first others) = Some class.Integer
  class_of ps block (Power place base exponent) = Some class.Integer
  class_of ps block (Not place operand) = Some class.Bits
  class_of ps block (Literal place literal) = Some (class_of_literal literal)
  class_of ps block (Decimal place number) = None
  class_of ps block (Referred reference) = class_of_reference ps block reference
  class_of ps block (Called place name arguments) = class_of_call ps block name
  class_of ps block (Convert place conversion operand) = Some (class_of_conversion conversion)
  class_of ps block (Parenthesis place inner) = enclosed (class_of ps block inner)

  -- operands of AND or OR behind one of this class
  pub class_beside : List Phrase → ℕ → Option Class → Expressions → Option Class
  class_beside ps block c NoExpressions = c
  class_beside ps block c (MoreExpressions first others) = class_beside ps block (beside c (class_of ps block first)) others

  -- operands of CAT behind one of this class
  pub class_joined : List Phrase → ℕ → Option Class → Expressions → Option Class
  class_joined ps block c NoExpressions = c
  class_joined ps block c (MoreExpressions first others) = class_joined ps block (joined c (class_of ps block first)) others
