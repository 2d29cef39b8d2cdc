-- The readers of primaries and references shorten the words.
use Rattle.std.proofs.Common.{ℕ, zero, suc, List, [], ◌∷◌, length, Option, Some, None, arith}
use Rattle.hal_base.specs.declared.refusal.Place.{Place}
use Rattle.hal_words.specs.declared.reserved.Reserved.TheVariants as reserved
use Rattle.hal_words.specs.declared.word.Symbol.TheVariants as symbol
use Rattle.hal_words.specs.declared.word.Word.{Word}
use Rattle.hal_words.specs.declared.word.Word.TheVariants as word
use Rattle.hal_grammar.specs.Leaves.{Conversion, LiteralValue}
use Rattle.hal_grammar.specs.Expressions.{Expression, Literal, Referred, Called, Subscripts, NoSubscripts}
use Rattle.hal_grammar.specs.Words.{Words}
use Rattle.hal_parse_expr.specs.Reading.{Read, Reader, made_of, past_symbol, name_at, integer_at, all}
use Rattle.hal_parse_expr.specs.ReadingExpressions.{further_at, expression_of, expressions_of, subs_of, components_of, arrays_then, arrays_of, copies_then, parts_of, enclosed_parts, subscript_behind, subscript_of, subscript_or_none, reference_behind, closed, named_at, converted_at, negated_at, literal_of, conversion_of, primary_behind, primary_of, primary_at, deeper_than, reference_of, reference_at}
use Rattle.hal_parse_expr.proofs.Shortening.{Below, Shortens, Keeps, weaker, followed_below, made_below, or_below, decided_below, symbol_shortens, name_shortens, integer_shortens, before_symbol_below, all_keeps}
use Rattle.hal_parse_expr.proofs.ShorteningExpressions.{further_shortens, expression_shortens, expressions_shortens, subs_shortens}

components_shorten : (primary : Reader Expression) → Shortens primary → Shortens (components_of primary)
unfolding components_of
components_shorten primary h words = or_below _ _ _ (made_below _ _ (past_symbol symbol.RightParenthesis words) (symbol_shortens symbol.RightParenthesis words))
    (before_symbol_below _ symbol.RightParenthesis (subs_of primary words) (subs_shortens primary h words))

arrays_then_shorten : (primary : Reader Expression) → Shortens primary → (copies xs : Subscripts) → Shortens (arrays_then primary copies xs)
unfolding arrays_then
arrays_then_shorten primary h copies xs words = decided_below _ _ (past_symbol symbol.Colon words) _ _ (symbol_shortens symbol.Colon words)
    (λ p after l. made_below _ _ (components_of primary after) (weaker _ _ (omega arith) (components_of primary after) (components_shorten primary h after)))
    (made_below _ _ (past_symbol symbol.RightParenthesis words) (symbol_shortens symbol.RightParenthesis words))

arrays_shorten : (primary : Reader Expression) → Shortens primary → (copies : Subscripts) → Shortens (arrays_of primary copies)
unfolding arrays_of
arrays_shorten primary h copies words = or_below _ _ _ (made_below _ _ (past_symbol symbol.RightParenthesis words) (symbol_shortens symbol.RightParenthesis words))
    (followed_below _ _ (subs_of primary words) _ (subs_shortens primary h words)
    (λ xs rest l. weaker _ _ (omega arith) (arrays_then primary copies xs rest) (arrays_then_shorten primary h copies xs rest)))

copies_then_shorten : (primary : Reader Expression) → Shortens primary → (xs : Subscripts) → Shortens (copies_then primary xs)
unfolding copies_then
copies_then_shorten primary h xs words = decided_below _ _ (past_symbol symbol.Semicolon words) _ (arrays_then primary NoSubscripts xs words) (symbol_shortens symbol.Semicolon words)
    (λ p after l. weaker _ _ (omega arith) (arrays_of primary xs after) (arrays_shorten primary h xs after))
    (arrays_then_shorten primary h _ xs words)

parts_shorten : (primary : Reader Expression) → Shortens primary → Shortens (parts_of primary)
unfolding parts_of
parts_shorten primary h words = followed_below _ _ (subs_of primary words) _ (subs_shortens primary h words)
    (λ xs rest l. weaker _ _ (omega arith) (copies_then primary xs rest) (copies_then_shorten primary h xs rest))

enclosed_shorten : (primary : Reader Expression) → Shortens primary → (p : Place) → Shortens (enclosed_parts primary p)
unfolding enclosed_parts
enclosed_shorten primary h p words = followed_below _ _ (past_symbol symbol.LeftParenthesis words) _ (symbol_shortens symbol.LeftParenthesis words)
    (λ q rest l. made_below _ _ (parts_of primary rest) (weaker _ _ (omega arith) (parts_of primary rest) (parts_shorten primary h rest)))

behind_shorten : (primary : Reader Expression) → Shortens primary → (p : Place) → Shortens (subscript_behind primary p)
unfolding subscript_behind
behind_shorten primary h p words = or_below _ _ _ (made_below _ _ (name_at words) (name_shortens words))
    (or_below _ _ _ (made_below _ _ (integer_at words) (integer_shortens words)) (enclosed_shorten primary h p words))

-- the reader one level deeper shortens, where there is one
abbrev pub ShortensIfAny : Option (Reader Expression) → Type 0
ShortensIfAny None = Unit {0}
ShortensIfAny (Some primary) = Shortens primary

pub subscript_keeps : (deeper : Option (Reader Expression)) → ShortensIfAny deeper → Keeps (subscript_or_none deeper)
unfolding subscript_or_none subscript_of
subscript_keeps None h words = or_below _ _ _ tt (omega arith)
subscript_keeps (Some primary) h words = or_below _ _ _
    (followed_below _ _ (past_symbol symbol.Dollar words) _ (symbol_shortens symbol.Dollar words)
    (λ p rest l. weaker _ _ (omega arith) (subscript_behind primary p rest) (behind_shorten primary h p rest)))
    (omega arith)

reference_keeps : (deeper : Option (Reader Expression)) → ShortensIfAny deeper → (p : Place) (n : List ℕ) → Keeps (reference_behind deeper p n)
unfolding reference_behind
reference_keeps deeper h p n words = made_below _ _ (subscript_or_none deeper (all further_at words).1)
    (weaker _ _ (omega (arith, all_keeps further_at further_shortens words)) (subscript_or_none deeper (all further_at words).1) (subscript_keeps deeper h (all further_at words).1))

closed_keeps : {X : Type 0} (read : Reader Expression → Reader X) → ((primary : Reader Expression) → Shortens primary → Shortens (read primary)) →
    (deeper : Option (Reader Expression)) → ShortensIfAny deeper → Shortens (closed read deeper)
unfolding closed
closed_keeps read g None h words = tt
closed_keeps read g (Some primary) h words = before_symbol_below _ symbol.RightParenthesis (read primary words) (g primary h words)

called_below : (deeper : Option (Reader Expression)) → ShortensIfAny deeper → (p : Place) (n : List ℕ) (words : Words) (o : Read Place) → Below (length words) o →
    Below (suc (length words)) (elim o [ None ↦ made_of Referred (reference_behind deeper p n words) | Some f ↦ made_of (λ ts. Called p n ts) (closed expressions_of deeper f.1) ])
called_below deeper h p n words None g = made_below _ _ (reference_behind deeper p n words) (reference_keeps deeper h p n words)
called_below deeper h p n words (Some f) g = made_below _ _ (closed expressions_of deeper f.1)
    (weaker _ _ (omega arith) (closed expressions_of deeper f.1) (closed_keeps expressions_of expressions_shortens deeper h f.1))

named_keeps : (deeper : Option (Reader Expression)) → ShortensIfAny deeper → (p : Place) (n : List ℕ) → Keeps (named_at deeper p n)
unfolding named_at
named_keeps deeper h p n words = called_below deeper h p n words (past_symbol symbol.LeftParenthesis words) (symbol_shortens symbol.LeftParenthesis words)

converted_keeps : (deeper : Option (Reader Expression)) → ShortensIfAny deeper → (p : Place) (c : Conversion) → Keeps (converted_at deeper p c)
unfolding converted_at
converted_keeps deeper h p c words = followed_below _ _ (past_symbol symbol.LeftParenthesis words) _ (symbol_shortens symbol.LeftParenthesis words)
    (λ q rest l. made_below _ _ (closed expression_of deeper rest) (weaker _ _ (omega arith) (closed expression_of deeper rest) (closed_keeps expression_of expression_shortens deeper h rest)))

negated_keeps : (deeper : Option (Reader Expression)) → ShortensIfAny deeper → (p : Place) → Keeps (negated_at deeper p)
unfolding negated_at
negated_keeps None h p words = tt
negated_keeps (Some primary) h p words = made_below _ _ (primary words) (weaker _ _ (omega arith) (primary words) (h words))

conversion_below : (deeper : Option (Reader Expression)) → ShortensIfAny deeper → (p : Place) (rest : Words) (c : Option Conversion) →
    Below (suc (length rest)) (elim c [ None ↦ None | Some x ↦ converted_at deeper p x rest ])
conversion_below deeper h p rest None = tt
conversion_below deeper h p rest (Some c) = converted_keeps deeper h p c rest

literal_below : (deeper : Option (Reader Expression)) → ShortensIfAny deeper → (p : Place) (rest : Words) (l : Option LiteralValue) (c : Option Conversion) →
    Below (suc (length rest)) (elim l [ Some x ↦ Some (Literal p x, rest) | None ↦ elim c [ None ↦ None | Some x ↦ converted_at deeper p x rest ] ])
literal_below deeper h p rest (Some l) c = omega arith
literal_below deeper h p rest None c = conversion_below deeper h p rest c

primary_keeps : (deeper : Option (Reader Expression)) → ShortensIfAny deeper → (p : Place) (w : Word) → Keeps (primary_behind deeper p w)
unfolding primary_behind
primary_keeps deeper h p (word.Name n) rest = named_keeps deeper h p n rest
primary_keeps deeper h p (word.Decimal n) rest = omega arith
primary_keeps deeper h p (word.Symbol symbol.LeftParenthesis) rest = made_below _ _ (closed expression_of deeper rest)
    (weaker _ _ (omega arith) (closed expression_of deeper rest) (closed_keeps expression_of expression_shortens deeper h rest))
primary_keeps deeper h p (word.Reserved reserved.Not) rest = negated_keeps deeper h p rest
primary_keeps deeper h p (word.Reserved r) rest = literal_below deeper h p rest (literal_of (word.Reserved r)) (conversion_of (word.Reserved r))
primary_keeps deeper h p (word.Symbol s) rest = literal_below deeper h p rest (literal_of (word.Symbol s)) (conversion_of (word.Symbol s))
primary_keeps deeper h p other rest = literal_below deeper h p rest (literal_of other) (conversion_of other)

of_shortens : (deeper : Option (Reader Expression)) → ShortensIfAny deeper → Shortens (primary_of deeper)
unfolding primary_of
of_shortens deeper h [] = tt
of_shortens deeper h (first ∷ rest) = primary_keeps deeper h first.place first.word rest

-- primaries shorten the words
pub primary_shortens : (n : ℕ) → Shortens (primary_at n)
unfolding primary_at
primary_shortens zero words = of_shortens None tt words
primary_shortens (suc n) words = of_shortens (Some (primary_at n)) (primary_shortens n) words

deeper_shortens : (n : ℕ) → ShortensIfAny (deeper_than n)
unfolding deeper_than
deeper_shortens zero = tt
deeper_shortens (suc n) = primary_shortens n

-- references do too
pub reference_shortens : (n : ℕ) → Shortens (reference_at n)
unfolding reference_at reference_of
reference_shortens n words = followed_below _ _ (name_at words) _ (name_shortens words)
    (λ x rest l. weaker _ _ (omega arith) (reference_behind (deeper_than n) x.place x.name rest) (reference_keeps (deeper_than n) (deeper_shortens n) x.place x.name rest))
