-- What phrases have as words spell them: lists that aren't empty, and times within their limit.
use Rattle.std.specs.Prelude.{◌≡◌, ℕ, nat_le, true, List, Option, length}
use Rattle.hal_base.specs.declared.refusal.Place.{Place}
use Rattle.hal_grammar.specs.Declarations.{LiteralTimes}
use Rattle.hal_grammar.specs.Leaves.{LiteralValue, Integer, Text, Bits, Sign}
use Rattle.hal_grammar.specs.Expressions.{Expression, Decimal, Reference}
use Rattle.hal_phrases.specs.declared.role.Role.{Role}
use Rattle.hal_phrases.specs.Phrases.{Phrase, OfExpression, OfAssignment, OfInitial}
use Rattle.hal_scope.specs.Rules.{IsAmong}
use Rattle.hal_code.specs.declared.operand.Time.TheVariants as time
use Rattle.hal_code.specs.Operands.{is_time}
use Rattle.hal_fit_expr.specs.Sorted.{are_bits}
use Rattle.hal_fit_rules.specs.Used.{HasReceiver}
use Rattle.hal_fit_names.specs.Used.{HaveSizes}

-- an integer, a text or bits that values can be
abbrev pub IsRightLiteral : LiteralValue → Type 0
IsRightLiteral (Integer number) = nat_le number 2147483647 ≡ true
IsRightLiteral (Text text) = nat_le (length text) 255 ≡ true
IsRightLiteral (Bits len bits) = are_bits len bits ≡ true
IsRightLiteral other = Unit {0}

-- no list of sizes is empty, an assignment has a receiver, a decimal is a time, and a literal that is repeated among initial values is right
pub record AreSpelled (ps : List Phrase) : Type 0 where
  pub sizes : HaveSizes ps
  pub receivers : (p : Phrase) (receivers : List Reference) (value : Expression) → IsAmong p ps → p.node ≡ OfAssignment receivers value → HasReceiver receivers
  pub times : (p : Phrase) (r : Role) (place : Place) (number : ℕ) → IsAmong p ps → p.node ≡ OfExpression r (Decimal place number) → is_time (time.Milliseconds number) ≡ true
  pub initials : (p : Phrase) (place : Place) (count : ℕ) (sign : Option Sign) (spot : Place) (literal : LiteralValue) → IsAmong p ps → p.node ≡ OfInitial (LiteralTimes place count sign spot literal) → IsRightLiteral literal
