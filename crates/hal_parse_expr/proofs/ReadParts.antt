-- The three parts of a subscript, up to the parenthesis, are read.
use Rattle.std.proofs.Common.{◌≡◌, ℕ, ◌≤◌, Some, arith}
use Rattle.hal_base.specs.declared.refusal.Place.{Place}
use Rattle.hal_words.specs.declared.word.Symbol.TheVariants as symbol
use Rattle.hal_grammar.specs.Expressions.{Expression, Subscripts, NoSubscripts, nesting_of_subscripts}
use Rattle.hal_grammar.specs.Words.{Words, symbol_then, begins, BeginsSymbol}
use Rattle.hal_grammar.specs.SpellsExpressions.{SpellsCopies, copies_then, no_copies, SpellsArrays, arrays_then, no_arrays, SpellsComponents, components_then, no_components}
use Rattle.hal_parse_expr.specs.Reading.{Reader}
use Rattle.hal_parse_expr.specs.ReadingExpressions.{subs_of, Parts, components_of, arrays_then as arrays_behind, arrays_of, copies_then as copies_behind, parts_of}
use Rattle.hal_parse_expr.proofs.FirstWords.{past_symbol_none, past_symbol_here}
use Rattle.hal_parse_expr.proofs.Readings.{met}
use Rattle.hal_parse_expr.proofs.Equations.{followed_equals, made_equals, made_none, or_equals, or_next, decided_equals, decided_other}
use Rattle.hal_parse_expr.proofs.ReadFactors.{Primaries}
use Rattle.hal_parse_expr.proofs.ReadBefore.{met_symbol}
use Rattle.hal_parse_expr.proofs.ReadSubscripts.{subs_reads}
use Rattle.hal_parse_expr.proofs.FoundParts.{not_right}

components_here : {n : ℕ} (read : Reader Expression) → Primaries n read → {xs : Subscripts} {r : Place} {b a : Words} → SpellsComponents xs b (symbol_then symbol.RightParenthesis r a) →
    nesting_of_subscripts xs ≤ n → components_of read b ≡ Some (xs, a)
unfolding components_of
components_here read h (components_then d) l = or_next (made_none _ (not_right d)) (met_symbol (subs_of read) (subs_reads read h) d l (omega arith))
components_here read h {r = r} {a = a} no_components l = or_equals _ (made_equals _ (past_symbol_here symbol.RightParenthesis r a))

colon_here : {n : ℕ} (read : Reader Expression) → Primaries n read → (copies xs : Subscripts) {ys : Subscripts} (p : Place) {r : Place} {m a : Words} →
    SpellsComponents ys m (symbol_then symbol.RightParenthesis r a) → nesting_of_subscripts ys ≤ n → arrays_behind read copies xs (symbol_then symbol.Colon p m) ≡ Some ((copies, xs, ys), a)
unfolding arrays_behind
colon_here read h copies xs p {m = m} d l = decided_equals _ _ (past_symbol_here symbol.Colon p m) (made_equals _ (components_here read h d l))

right_here : (read : Reader Expression) (copies xs : Subscripts) (r : Place) (a : Words) → arrays_behind read copies xs (symbol_then symbol.RightParenthesis r a) ≡ Some ((copies, NoSubscripts, xs), a)
unfolding arrays_behind
right_here read copies xs r a = decided_other _ (past_symbol_none symbol.Colon (symbol_then symbol.RightParenthesis r a) (λ k. elim k [ ]))
    (made_equals _ (past_symbol_here symbol.RightParenthesis r a))

arrays_here : {n : ℕ} (read : Reader Expression) → Primaries n read → (copies : Subscripts) {xs ys : Subscripts} {r : Place} {b a : Words} →
    SpellsArrays xs ys b (symbol_then symbol.RightParenthesis r a) → nesting_of_subscripts xs ≤ n → nesting_of_subscripts ys ≤ n → arrays_of read copies b ≡ Some ((copies, xs, ys), a)
unfolding arrays_of
arrays_here read h copies {xs = xs} (arrays_then {p = p} d e) l k =
    or_next (made_none _ (not_right d)) (followed_equals _ (met (subs_reads read h) d l (omega arith)) (colon_here read h copies xs p e k))
arrays_here read h copies {ys = ys} {r = r} {a = a} (no_arrays (components_then d)) l k =
    or_next (made_none _ (not_right d)) (followed_equals _ (met (subs_reads read h) d k (omega arith)) (right_here read copies ys r a))
arrays_here read h copies {r = r} {a = a} (no_arrays no_components) l k = or_equals _ (made_equals _ (past_symbol_here symbol.RightParenthesis r a))

semicolon_here : {n : ℕ} (read : Reader Expression) → Primaries n read → (cs : Subscripts) {xs ys : Subscripts} (p : Place) {r : Place} {m a : Words} →
    SpellsArrays xs ys m (symbol_then symbol.RightParenthesis r a) → nesting_of_subscripts xs ≤ n → nesting_of_subscripts ys ≤ n →
    copies_behind read cs (symbol_then symbol.Semicolon p m) ≡ Some ((cs, xs, ys), a)
unfolding copies_behind
semicolon_here read h cs p {m = m} e l k = decided_equals _ _ (past_symbol_here symbol.Semicolon p m) (arrays_here read h cs e l k)

not_semicolon : (read : Reader Expression) (xs : Subscripts) {f : Parts} {m a : Words} → (BeginsSymbol symbol.Semicolon m → ⊥) → arrays_behind read NoSubscripts xs m ≡ Some (f, a) →
    copies_behind read xs m ≡ Some (f, a)
unfolding copies_behind
not_semicolon read xs {m = m} n e = decided_other _ (past_symbol_none symbol.Semicolon m n) e

pub parts_here : {n : ℕ} (read : Reader Expression) → Primaries n read → {cs xs ys : Subscripts} {r : Place} {b a : Words} → ¬ BeginsSymbol symbol.RightParenthesis b →
    SpellsCopies cs xs ys b (symbol_then symbol.RightParenthesis r a) → nesting_of_subscripts cs ≤ n → nesting_of_subscripts xs ≤ n → nesting_of_subscripts ys ≤ n →
    parts_of read b ≡ Some ((cs, xs, ys), a)
unfolding parts_of
parts_here read h {cs = cs} w (copies_then {p = p} d e) j l k = followed_equals _ (met (subs_reads read h) d j (omega arith)) (semicolon_here read h cs p e l k)
parts_here read h {xs = xs} w (no_copies (arrays_then {p = p} d e)) j l k =
    followed_equals _ (met (subs_reads read h) d l (omega arith)) (not_semicolon read xs (λ i. elim i [ ]) (colon_here read h NoSubscripts xs p e k))
parts_here read h {ys = ys} {r = r} {a = a} w (no_copies (no_arrays (components_then d))) j l k =
    followed_equals _ (met (subs_reads read h) d k (omega arith)) (not_semicolon read ys (λ i. elim i [ ]) (right_here read NoSubscripts ys r a))
parts_here read h w (no_copies (no_arrays no_components)) j l k = absurd (w begins)
