-- The rules of phrases whose form alone is looked at: 328, 711 and 719.
use Rattle.std.specs.Prelude.{ℕ, nat_le, Bool, true, false, ◌&&◌, List, Option, Some, None, slice_get, if◌then◌else◌}
use Rattle.std.specs.Option.{is_some}
use Rattle.hal_base.specs.declared.refusal.Place.{Place}
use Rattle.hal_grammar.specs.Leaves.{LiteralValue, Integer}
use Rattle.hal_grammar.specs.Expressions.{Expression, Literal, place_of}
use Rattle.hal_grammar.specs.Statements.{Selector, EveryError, GroupErrors, OneError}
use Rattle.hal_grammar.specs.Units.{Head, Function}
use Rattle.hal_phrases.specs.declared.role.Role.{Role}
use Rattle.hal_phrases.specs.declared.role.Role.TheVariants as role
use Rattle.hal_phrases.specs.Phrases.{Node, Phrase, OfTemplate, OfUnit, OfExpression, OfReturn, OfHandler, OfResponse, OfOffError, OfSendError}
use Rattle.hal_scope.specs.Uses.{unless}

unfoldable pub is_integer_value : LiteralValue → Bool
is_integer_value (Integer number) = true
is_integer_value other = false

-- whether an expression is an integer literal
unfoldable pub is_integer_literal : Expression → Bool
is_integer_literal (Literal place literal) = is_integer_value literal
is_integer_literal other = false

-- whether an expression of this role is an exponent
unfoldable pub is_exponent : Role → Bool
is_exponent role.Exponent = true
is_exponent other = false

-- rule 328
unfoldable pub no_exponent : Node → Option Place
no_exponent (OfExpression r tree) = if is_exponent r then unless (is_integer_literal tree) (place_of tree) else None
no_exponent other = None

-- whether a block gives a value
unfoldable pub is_function_head : Head → Bool
is_function_head (Function place inputs returns mode) = true
is_function_head other = false

unfoldable pub is_function : Node → Bool
is_function (OfTemplate name head declarations) = is_function_head head
is_function (OfUnit name head declarations) = is_function_head head
is_function other = false

-- whether the phrase with this number is a block that gives a value
abbrev pub is_function_at : List Phrase → ℕ → Bool
is_function_at ps k = elim (slice_get ps k) [ None ↦ false | Some p ↦ is_function p.node ]

-- rule 711
unfoldable pub misreturned : List Phrase → Phrase → Node → Option Place
misreturned ps p (OfReturn place value) = if is_some value then unless (is_function_at ps p.around.home) place else (if is_function_at ps p.around.home then Some place else None)
misreturned ps p other = None

-- whether this may be the group or the number of an error
abbrev pub is_error_number : ℕ → Bool
is_error_number n = nat_le 1 n && nat_le n 255

-- the group or the number of an error that is none
abbrev pub error_fault : Place → ℕ → Place → ℕ → Option Place
error_fault group_at group number_at number = if is_error_number group then unless (is_error_number number) number_at else Some group_at

unfoldable pub selector_fault : Selector → Option Place
selector_fault EveryError = None
selector_fault (GroupErrors place group_at group) = unless (is_error_number group) group_at
selector_fault (OneError place group_at group number_at number) = error_fault group_at group number_at number

-- rule 719
unfoldable pub no_error : Node → Option Place
no_error (OfHandler place selector) = selector_fault selector
no_error (OfResponse place selector) = selector_fault selector
no_error (OfOffError place selector) = selector_fault selector
no_error (OfSendError group_at group number_at number) = error_fault group_at group number_at number
no_error other = None
