-- The names of a declaration, by whether it has attributes of all names.
use Rattle.std.proofs.Common.{◌≡◌, ◌≢◌, ℕ, List, [], ◌∷◌, length, map, refl, arith}
use Rattle.hal_base.specs.declared.refusal.Place.{Place}
use Rattle.hal_words.specs.declared.word.Symbol.TheVariants as symbol
use Rattle.hal_grammar.specs.Declarations.{Attribute, Declare}
use Rattle.hal_grammar.specs.Words.{Words}
use Rattle.hal_parse_expr.specs.Reading.{followed, made_of, past_symbol}
use Rattle.hal_parse_declarations.specs.ReadingDeclarations.{items_at, items_behind}

pub items_none : {X : Type 0} (view : X → Attribute) (n : ℕ) (p : Place) (xs : List X) (words : Words) → length xs ≡ 0 →
    items_behind n p (map view xs) words ≡ made_of (λ items. Declare p (map view xs) items) (items_at n words)
unfolding items_behind
items_none view n p [] words e = refl
items_none view n p (x ∷ xs) words e = absurd (omega (arith, e))

pub items_some : {X : Type 0} (view : X → Attribute) (n : ℕ) (p : Place) (xs : List X) (words : Words) → length xs ≢ 0 →
    items_behind n p (map view xs) words ≡ followed (past_symbol symbol.Comma words) (λ q rest. made_of (λ items. Declare p (map view xs) items) (items_at n rest))
unfolding items_behind
items_some view n p [] words h = absurd (h refl)
items_some view n p (x ∷ xs) words h = refl
