-- What larger phrases give where their parts give so.
use Rattle.std.proofs.Common.{◌≡◌, Some, None, ap, ◌∙◌}
use Rattle.hal_base.specs.declared.refusal.Place.{Place}
use Rattle.hal_words.specs.declared.reserved.Reserved.{Reserved}
use Rattle.hal_words.specs.declared.word.Symbol.{Symbol}
use Rattle.hal_words.specs.declared.word.Symbol.TheVariants as symbol
use Rattle.hal_grammar.specs.Words.{Words, reserved_then, symbol_then}
use Rattle.hal_parse_expr.specs.Reading.{decided, Read, Reader, followed, or_else, past, past_symbol, before_symbol, before}
use Rattle.hal_parse_expr.proofs.Equations.{made_equals}
use Rattle.hal_parse_declarations.specs.ReadingDeclarations.{in_parentheses}
use Rattle.hal_parse_expr.proofs.FirstWords.{past_here, past_symbol_here}

pub followed_is : {X Y : Type 0} {o : Read X} {x : X} {rest : Words} (next : X → Words → Read Y) → o ≡ Some (x, rest) → followed o next ≡ next x rest
unfolding followed
followed_is next e = ap (λ o. followed o next) e

pub decided_is : {X Y : Type 0} {o : Read X} {x : X} {rest : Words} (next : X → Words → Read Y) (other : Read Y) → o ≡ Some (x, rest) → decided o next other ≡ next x rest
unfolding decided
decided_is next other e = ap (λ o. decided o next other) e

pub decided_not : {X Y : Type 0} {o : Read X} (next : X → Words → Read Y) (other : Read Y) → o ≡ None → decided o next other ≡ other
unfolding decided
decided_not next other e = ap (λ o. decided o next other) e

pub either_not : {X : Type 0} {o : Read X} (other : Read X) → o ≡ None → or_else o other ≡ other
unfolding or_else
either_not other e = ap (λ o. or_else o other) e

pub either_is : {X : Type 0} {o : Read X} {x : X} {rest : Words} (other : Read X) → o ≡ Some (x, rest) → or_else o other ≡ Some (x, rest)
unfolding or_else
either_is other e = ap (λ o. or_else o other) e

pub before_symbol_is : {X : Type 0} {o : Read X} {x : X} {s : Symbol} {p : Place} {rest : Words} → o ≡ Some (x, symbol_then s p rest) → before_symbol s o ≡ Some (x, rest)
unfolding before_symbol
before_symbol_is {s = s} {p = p} {rest = rest} e = followed_is _ e ∙ made_equals _ (past_symbol_here s p rest)

pub before_is : {X : Type 0} {o : Read X} {x : X} {r : Reserved} {p : Place} {rest : Words} → o ≡ Some (x, reserved_then r p rest) → before r o ≡ Some (x, rest)
unfolding before
before_is {r = r} {p = p} {rest = rest} e = followed_is _ e ∙ made_equals _ (past_here r p rest)

-- behind its first word
pub past_is : {Y : Type 0} (r : Reserved) (p : Place) (rest : Words) (next : Place → Words → Read Y) → followed (past r (reserved_then r p rest)) next ≡ next p rest
past_is r p rest next = followed_is next (past_here r p rest)

pub symbol_is : {Y : Type 0} (s : Symbol) (p : Place) (rest : Words) (next : Place → Words → Read Y) → followed (past_symbol s (symbol_then s p rest)) next ≡ next p rest
symbol_is s p rest next = followed_is next (past_symbol_here s p rest)

pub enclosed_is : {X : Type 0} (read : Reader X) (p : Place) (inside : Words) {x : X} {q : Place} {after : Words} → read inside ≡ Some (x, symbol_then symbol.RightParenthesis q after) →
    in_parentheses read (symbol_then symbol.LeftParenthesis p inside) ≡ Some (x, after)
unfolding in_parentheses
enclosed_is read p inside e = symbol_is _ p inside _ ∙ before_symbol_is e
