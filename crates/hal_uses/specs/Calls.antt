-- The rules of call forms and calls as far as no size has to be known: 329, 705 of the number of arguments, 716, and 702, 703 and 720 of arguments.
use Rattle.std.specs.Prelude.{ℕ, zero, ◌==◌, Bool, true, false, ◌&&◌, ◌||◌, not, List, [], length, Option, Some, None, slice_get, if◌then◌else◌}
use Rattle.std.specs.Option.{option_and_then, option_or, is_some}
use Rattle.hal_base.specs.declared.refusal.Place.{Place}
use Rattle.hal_grammar.specs.Leaves.{Naming}
use Rattle.hal_grammar.specs.Expressions.{Expression, Referred, Expressions, NoExpressions, MoreExpressions, Reference, Refers, place_of}
use Rattle.hal_grammar.specs.Units.{Head, Procedure, Function}
use Rattle.hal_phrases.specs.declared.role.Role.{Role}
use Rattle.hal_phrases.specs.declared.role.Role.TheVariants as role
use Rattle.hal_phrases.specs.Phrases.{Node, Phrase, OfTemplate, OfUnit, OfItem, OfExpression, OfReference, OfCallForm, OfTemporaryGroup, OfCall, OfSubscriptName}
use Rattle.hal_names.specs.Means.{means}
use Rattle.hal_scope.specs.declared.builtin.Builtin.{Builtin}
use Rattle.hal_scope.specs.declared.builtin.Builtin.TheVariants as builtin
use Rattle.hal_scope.specs.declared.builtin.Form.{Form}
use Rattle.hal_scope.specs.declared.builtin.Form.TheVariants as form
use Rattle.hal_scope.specs.Builtins.{builtin_named, form_of}
use Rattle.hal_scope.specs.Uses.{is_nil}
use Rattle.hal_kinds.specs.declared.class.Class.{Class}
use Rattle.hal_kinds.specs.declared.class.Class.TheVariants as class
use Rattle.hal_kinds.specs.declared.data.Data.{Data}
use Rattle.hal_kinds.specs.Attributes.{count_of, no_more}
use Rattle.hal_kinds.specs.Classes.{class_of}
use Rattle.hal_kinds.specs.Data.{data_at, data_named}
use Rattle.hal_kinds.specs.Subscripts.{choice, chosen, class_in, has_copies_left}
use Rattle.hal_operands.specs.declared.want.Want.{Want}
use Rattle.hal_operands.specs.declared.want.Want.TheVariants as want
use Rattle.hal_operands.specs.Wants.{at, misfit, misfit_at}
use Rattle.hal_uses.specs.declared.signature.Signature.{Signature}

-- one argument, or two
abbrev pub takes_one : Want → Signature
takes_one w = record { first = w; second = None }

abbrev pub takes_two : Want → Want → Signature
takes_two w v = record { first = w; second = Some v }

-- what a built-in function with a list takes
unfoldable pub signature_of : Builtin → Signature
signature_of builtin.Abs = takes_one want.Integer
signature_of builtin.Signum = takes_one want.Integer
signature_of builtin.Odd = takes_one want.Integer
signature_of builtin.Length = takes_one want.Text
signature_of builtin.Trim = takes_one want.Text
signature_of builtin.Size = takes_one want.Anything
signature_of builtin.Div = takes_two want.Integer want.Integer
signature_of builtin.Mod = takes_two want.Integer want.Integer
signature_of builtin.Remainder = takes_two want.Integer want.Integer
signature_of builtin.Shl = takes_two want.Integer want.Integer
signature_of builtin.Shr = takes_two want.Integer want.Integer
signature_of builtin.Index = takes_two want.Text want.Text
signature_of builtin.Ljust = takes_two want.Text want.Integer
signature_of builtin.Rjust = takes_two want.Text want.Integer
signature_of builtin.Xor = takes_two want.Bits want.Bits
signature_of other = takes_one want.Anything

-- two arguments
abbrev pub two_faults : List Phrase → ℕ → Want → Want → Expression → Expression → Option (ℕ × Place)
two_faults ps block w v x y = option_or (misfit_at ps block w x) (misfit_at ps block v y)

-- one argument, and what follows it
abbrev pub one_fault : List Phrase → ℕ → Place → Want → Expression → Expressions → Option (ℕ × Place)
one_fault ps block place w x others = if no_more others then misfit_at ps block w x else Some (705, place)

-- what follows the first of two arguments
unfoldable pub second_fault : List Phrase → ℕ → Place → Want → Want → Expression → Expressions → Option (ℕ × Place)
second_fault ps block place w v x NoExpressions = Some (705, place)
second_fault ps block place w v x (MoreExpressions y others) = if no_more others then two_faults ps block w v x y else Some (705, place)

-- arguments of a built-in function: another number than it takes, or the first one that isn't what it takes
unfoldable pub listed_fault : List Phrase → ℕ → Place → Want → Option Want → Expressions → Option (ℕ × Place)
listed_fault ps block place w v NoExpressions = Some (705, place)
listed_fault ps block place w None (MoreExpressions x others) = one_fault ps block place w x others
listed_fault ps block place w (Some v) (MoreExpressions x others) = second_fault ps block place w v x others

-- whether a reference is a structure of which several copies are left
unfoldable pub has_copies_of : List Phrase → ℕ → Reference → Bool
has_copies_of ps block (Refers place name path subscript) = elim (data_named ps block name path) [ None ↦ false | Some d ↦ has_copies_left d (chosen d subscript) ]

unfoldable pub is_copied : List Phrase → ℕ → Expression → Bool
is_copied ps block (Referred reference) = has_copies_of ps block reference
is_copied ps block other = false

-- the rule that the argument of SIZE breaks: it takes an array or copies
unfoldable pub misfit_of_size : Bool → Class → Option ℕ
misfit_of_size copied class.Array = None
misfit_of_size copied class.Structure = if copied then None else Some 702
misfit_of_size copied class.Condition = Some 703
misfit_of_size copied other = Some 702

abbrev pub size_misfit : List Phrase → ℕ → Expression → Option (ℕ × Place)
size_misfit ps block x = at (place_of x) (option_and_then (misfit_of_size (is_copied ps block x)) (class_of ps block x))

unfoldable pub sized : List Phrase → ℕ → Expressions → Option (ℕ × Place)
sized ps block NoExpressions = None
sized ps block (MoreExpressions x others) = if no_more others then size_misfit ps block x else None

unfoldable pub size_fault : List Phrase → ℕ → Builtin → Expressions → Option (ℕ × Place)
size_fault ps block builtin.Size arguments = sized ps block arguments
size_fault ps block other arguments = None

-- the call form of a built-in function with a list
abbrev pub list_fault : List Phrase → ℕ → Place → Builtin → Expressions → Option (ℕ × Place)
list_fault ps block place b arguments = option_or (listed_fault ps block place (signature_of b).first (signature_of b).second arguments) (size_fault ps block b arguments)

-- the call form of a built-in function that is named so
unfoldable pub formed_fault : List Phrase → ℕ → Place → Builtin → Form → Expressions → Option (ℕ × Place)
formed_fault ps block place b form.Alone arguments = Some (705, place)
formed_fault ps block place b form.Arrayed arguments = Some (329, place)
formed_fault ps block place b form.Listed arguments = list_fault ps block place b arguments

abbrev pub builtin_fault : List Phrase → ℕ → Place → List ℕ → Expressions → Option (ℕ × Place)
builtin_fault ps block place name arguments = option_and_then (λ b. formed_fault ps block place b (form_of b) arguments) (builtin_named name)

unfoldable pub is_condition : Option Class → Bool
is_condition (Some class.Condition) = true
is_condition other = false

-- the first argument that is a condition
unfoldable pub condition_fault : List Phrase → ℕ → Expressions → Option (ℕ × Place)
condition_fault ps block NoExpressions = None
condition_fault ps block (MoreExpressions first others) = if is_condition (class_of ps block first) then Some (703, place_of first) else condition_fault ps block others

-- the call form of a block
unfoldable pub head_fault : List Phrase → ℕ → Place → Head → Expressions → Option (ℕ × Place)
head_fault ps block place (Function at inputs returns mode) arguments = if length inputs == count_of arguments then condition_fault ps block arguments else Some (705, place)
head_fault ps block place other arguments = Some (716, place)

-- data without a subscript, as a factor
abbrev pub factor_fault : Place → Option Data → Option (ℕ × Place)
factor_fault place d = at place (option_and_then (λ (e : Data). misfit want.Integer (class_in e (choice 0 0 0 false false))) d)

-- the two factors of the product of a variable and a parenthesis
abbrev pub factors_fault : List Phrase → ℕ → Place → Option Data → Expression → Option (ℕ × Place)
factors_fault ps block place d x = option_or (factor_fault place d) (misfit_at ps block want.Integer x)

-- the product of a variable and a parenthesis, which is no operand of a power
unfoldable pub product_fault : List Phrase → ℕ → Place → Option Data → Bool → Expressions → Option (ℕ × Place)
product_fault ps block place d true arguments = Some (716, place)
product_fault ps block place d false NoExpressions = Some (716, place)
product_fault ps block place d false (MoreExpressions x others) = if no_more others then factors_fault ps block place d x else Some (716, place)

-- whether an expression of this role is raised to a power
unfoldable pub is_base : Node → Bool
is_base (OfExpression role.Base tree) = true
is_base other = false

-- the same of the phrase with this number
abbrev pub is_raised : List Phrase → ℕ → Bool
is_raised ps k = elim (slice_get ps k) [ None ↦ false | Some q ↦ is_base q.node ]

-- the call form, by this phrase, of what another phrase declares
unfoldable pub declared_fault : List Phrase → Phrase → Place → Expressions → Phrase → Node → Option (ℕ × Place)
declared_fault ps p place arguments q (OfTemplate name head declarations) = head_fault ps p.around.block place head arguments
declared_fault ps p place arguments q (OfUnit name head declarations) = head_fault ps p.around.block place head arguments
declared_fault ps p place arguments q (OfItem common item) = product_fault ps p.around.block place (data_at ps q [] (OfItem common item)) (is_raised ps p.around.parent) arguments
declared_fault ps p place arguments q (OfTemporaryGroup labels variable) = product_fault ps p.around.block place (data_at ps q [] (OfTemporaryGroup labels variable)) (is_raised ps p.around.parent) arguments
declared_fault ps p place arguments q other = Some (716, place)

-- the call form of a name
abbrev pub call_form_fault : List Phrase → Phrase → Place → List ℕ → Expressions → Option (ℕ × Place)
call_form_fault ps p place name arguments =
    elim (means ps p.around.block name) [
      | None ↦ builtin_fault ps p.around.block place name arguments
      | Some k ↦ option_and_then (λ (q : Phrase). declared_fault ps p place arguments q q.node) (slice_get ps k)
    ]

-- CALL of a block
unfoldable pub called_head_fault : List Phrase → ℕ → Place → ℕ → ℕ → Expressions → Head → Option (ℕ × Place)
called_head_fault ps block place count receivers arguments (Procedure at inputs outputs mode) =
    if (length inputs == count) && (length outputs == receivers) then condition_fault ps block arguments else Some (705, place)
called_head_fault ps block place count receivers arguments other = None

unfoldable pub called_fault : List Phrase → ℕ → Place → ℕ → ℕ → Expressions → Node → Option (ℕ × Place)
called_fault ps block place count receivers arguments (OfTemplate name head declarations) = called_head_fault ps block place count receivers arguments head
called_fault ps block place count receivers arguments (OfUnit name head declarations) = called_head_fault ps block place count receivers arguments head
called_fault ps block place count receivers arguments other = None

-- CALL
abbrev pub call_fault : List Phrase → ℕ → Naming → Expressions → List Reference → Option (ℕ × Place)
call_fault ps block name arguments receivers =
    option_and_then (λ k. option_and_then (λ (q : Phrase). called_fault ps block name.place (count_of arguments) (length receivers) arguments q.node) (slice_get ps k)) (means ps block name.name)

-- whether a block is called without the arguments that it takes
unfoldable pub lacks_arguments_head : Head → Bool
lacks_arguments_head (Function place inputs returns mode) = not (is_nil inputs)
lacks_arguments_head other = false

unfoldable pub lacks_arguments : Node → Bool
lacks_arguments (OfTemplate name head declarations) = lacks_arguments_head head
lacks_arguments (OfUnit name head declarations) = lacks_arguments_head head
lacks_arguments other = false

-- whether a reference of this role is an operand
unfoldable pub is_operand_role : Role → Bool
is_operand_role role.Receiver = false
is_operand_role role.Output = false
is_operand_role role.Event = false
is_operand_role other = true

-- the name of a FUNCTION without the arguments that it takes
abbrev pub lone_fault : List Phrase → ℕ → Place → List ℕ → Option (ℕ × Place)
lone_fault ps block place name =
    option_and_then (λ k. option_and_then (λ (q : Phrase). if lacks_arguments q.node then Some (705, place) else None) (slice_get ps k)) (means ps block name)

-- the same of a reference
unfoldable pub alone_fault : List Phrase → ℕ → Reference → Option (ℕ × Place)
alone_fault ps block (Refers place name path subscript) = lone_fault ps block place name

-- rules 329, 705 and 716, and 702, 703 and 720 of arguments
unfoldable pub miscalled : List Phrase → Phrase → Node → Option (ℕ × Place)
miscalled ps p (OfCallForm place name arguments) = call_form_fault ps p place name arguments
miscalled ps p (OfCall name arguments receivers) = call_fault ps p.around.block name arguments receivers
miscalled ps p (OfReference r reference) = if is_operand_role r then alone_fault ps p.around.block reference else None
miscalled ps p (OfSubscriptName name) = lone_fault ps p.around.block name.place name.name
miscalled ps p other = None
