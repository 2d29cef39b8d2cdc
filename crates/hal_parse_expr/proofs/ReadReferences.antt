-- The readers of subscripts and references.
use Rattle.std.proofs.Common.{◌≡◌, ℕ, zero, suc, ◌≤◌, ◌⊎◌, inl, inr, List, length, Option, Some, None, refl, ap, sym, subst, arith}
use Rattle.hal_base.specs.declared.refusal.Place.{Place}
use Rattle.hal_words.specs.declared.word.Symbol.TheVariants as symbol
use Rattle.hal_words.specs.declared.word.Word.TheVariants as word
use Rattle.hal_grammar.specs.Leaves.{Naming, naming}
use Rattle.hal_grammar.specs.Expressions.{Expression, Reference, Subscript, Unsubscripted, ByName, ByInteger, ByParts, nesting_of_reference, nesting_of_subscript}
use Rattle.hal_grammar.specs.Words.{Words, symbol_then, name_then, integer_then}
use Rattle.hal_grammar.specs.SpellsExpressions.{SpellsFurther, SpellsReference, refers, SpellsSubscript, unsubscripted, by_name, by_integer, by_parts}
use Rattle.hal_grammar.specs.GoesOn.{strength}
use Rattle.hal_grammar.proofs.Beginnings.{subscript_ends}
use Rattle.hal_parse_expr.specs.Reading.{Read, Reader, followed, made_of, or_else, name_at, integer_at, all}
use Rattle.hal_parse_expr.specs.ReadingExpressions.{further_at, Parts, parts_of, enclosed_parts, subscript_behind, subscript_of, subscript_or_none, reference_behind, reference_of}
use Rattle.hal_parse_expr.proofs.FirstWords.{PastOf, is_past, not_past, past_symbol_of, past_symbol_here}
use Rattle.hal_parse_expr.proofs.Shortening.{Below, weaker}
use Rattle.hal_parse_expr.proofs.ShorteningPrimaries.{ShortensIfAny, subscript_keeps}
use Rattle.hal_parse_expr.proofs.Readings.{Holds, holds_none, holds, Reaches, reaches, Phrase, reached}
use Rattle.hal_parse_expr.proofs.Combining.{made_holds, followed_holds, or_holds, followed_at, made_reaches, or_reaches}
use Rattle.hal_parse_expr.proofs.Equations.{followed_equals, made_equals, made_none, or_equals, or_next}
use Rattle.hal_parse_expr.proofs.ReadLeaves.{IsName, is_name, IsInteger, is_integer, name_sound, name_here, integer_sound}
use Rattle.hal_parse_expr.proofs.ReadNames.{names_sound, names_far, names_met}
use Rattle.hal_parse_expr.proofs.ReadFactors.{Primaries}
use Rattle.hal_parse_expr.proofs.FoundParts.{ClosedParts, closed_parts, parts_sound}
use Rattle.hal_parse_expr.proofs.ReadParts.{parts_here}

-- the reader one level deeper than this one, where there is one
pub data Lower : ℕ → Option (Reader Expression) → Type 0 where
  lowest : Lower zero None
  lower : {n : ℕ} {read : Reader Expression} → Primaries n read → Lower (suc n) (Some read)

pub lower_shortens : {n : ℕ} {deeper : Option (Reader Expression)} → Lower n deeper → ShortensIfAny deeper
lower_shortens lowest = tt
lower_shortens (lower h) = h.short

by_parts_in : {n : ℕ} {p q : Place} {f : Parts} {b a : Words} → ClosedParts n b f a →
    Phrase SpellsSubscript nesting_of_subscript (suc n) (symbol_then symbol.Dollar p (symbol_then symbol.LeftParenthesis q b)) (ByParts p f.0 f.1 f.2) a
by_parts_in (closed_parts m d i j k) = record { spells = by_parts m d; shallow = omega arith }

enclosed_in : {n : ℕ} (read : Reader Expression) → Primaries n read → (p : Place) {words : Words} {o : Read Place} → PastOf (word.Symbol symbol.LeftParenthesis) words o →
    Holds (Phrase SpellsSubscript nesting_of_subscript (suc n) (symbol_then symbol.Dollar p words)) (followed o (λ q rest. made_of (λ parts. ByParts p parts.0 parts.1 parts.2) (parts_of read rest)))
unfolding followed
enclosed_in read h p (is_past {rest = rest}) = made_holds _ (parts_sound read h rest) (λ f a e. by_parts_in e)
enclosed_in read h p (not_past m) = holds_none

by_name_in : {n : ℕ} {p : Place} {x : Naming} {b a : Words} → IsName b x a → Phrase SpellsSubscript nesting_of_subscript (suc n) (symbol_then symbol.Dollar p b) (ByName p x) a
by_name_in is_name = record { spells = by_name; shallow = omega arith }

by_integer_in : {n : ℕ} {p : Place} {x : Place × ℕ} {b a : Words} → IsInteger b x a → Phrase SpellsSubscript nesting_of_subscript (suc n) (symbol_then symbol.Dollar p b) (ByInteger p x.0 x.1) a
by_integer_in is_integer = record { spells = by_integer; shallow = omega arith }

dollar_in : {n : ℕ} (read : Reader Expression) → Primaries n read → {words : Words} {o : Read Place} → PastOf (word.Symbol symbol.Dollar) words o →
    Holds (Phrase SpellsSubscript nesting_of_subscript (suc n) words) (followed o (λ p rest. subscript_behind read p rest))
unfolding followed subscript_behind enclosed_parts
dollar_in read h (is_past {p = p} {rest = rest}) =
    or_holds (made_holds _ (name_sound rest) (λ x a i. by_name_in i))
    (or_holds (made_holds _ (integer_sound rest) (λ x a i. by_integer_in i)) (enclosed_in read h p (past_symbol_of symbol.LeftParenthesis rest)))
dollar_in read h (not_past m) = holds_none

subscript_of_sound : {n : ℕ} {deeper : Option (Reader Expression)} → Lower n deeper → (words : Words) → Holds (Phrase SpellsSubscript nesting_of_subscript n words) (subscript_of deeper words)
unfolding subscript_of
subscript_of_sound lowest words = holds_none
subscript_of_sound (lower {read = read} h) words = dollar_in read h (past_symbol_of symbol.Dollar words)

subscript_sound : {n : ℕ} {deeper : Option (Reader Expression)} → Lower n deeper → (words : Words) → Holds (Phrase SpellsSubscript nesting_of_subscript n words) (subscript_or_none deeper words)
unfolding subscript_or_none
subscript_sound h words = or_holds (subscript_of_sound h words) (holds (record { spells = unsubscripted; shallow = omega arith }))

not_name : (q : Place) (b : Words) → name_at (symbol_then symbol.LeftParenthesis q b) ≡ None
unfolding name_at
not_name q b = refl

not_integer : (q : Place) (b : Words) → integer_at (symbol_then symbol.LeftParenthesis q b) ≡ None
unfolding integer_at
not_integer q b = refl

there_in : {X : Type 0} {k : ℕ} (o : Read X) (f : X × Words) → Below (suc k) (or_else o (Some f)) → Reaches k (or_else o (Some f))
unfolding or_else
there_in None f l = reaches (omega arith)
there_in (Some g) f l = reaches (omega arith)

-- a subscript or none is always found
subscript_there : {n : ℕ} {deeper : Option (Reader Expression)} → Lower n deeper → (words : Words) {k : ℕ} → length words ≤ k → Reaches k (subscript_or_none deeper words)
unfolding subscript_or_none
subscript_there {deeper = deeper} h words l =
    there_in (subscript_of deeper words) (Unsubscripted, words) (weaker _ _ (omega arith) (subscript_or_none deeper words) (subscript_keeps deeper (lower_shortens h) words))

name_behind : (read : Reader Expression) (p : Place) {n : List ℕ} {q : Place} {a : Words} → subscript_behind read p (name_then n q a) ≡ Some (ByName p (naming q n), a)
unfolding subscript_behind
name_behind read p {n = n} {q = q} {a = a} = or_equals _ (made_equals _ (name_here n q a))

integer_behind : (read : Reader Expression) (p : Place) {n : ℕ} {q : Place} {a : Words} → subscript_behind read p (integer_then n q a) ≡ Some (ByInteger p q n, a)
unfolding subscript_behind name_at integer_at made_of or_else
integer_behind read p = refl

parts_behind : (read : Reader Expression) (p q : Place) (b : Words) {f : Parts} {a : Words} → parts_of read b ≡ Some (f, a) →
    subscript_behind read p (symbol_then symbol.LeftParenthesis q b) ≡ Some (ByParts p f.0 f.1 f.2, a)
unfolding subscript_behind enclosed_parts
parts_behind read p q b e = or_next (made_none _ (not_name q b)) (or_next (made_none _ (not_integer q b)) (followed_equals _ (past_symbol_here symbol.LeftParenthesis q b) (made_equals _ e)))

subscript_at : {n : ℕ} {deeper : Option (Reader Expression)} → Lower n deeper → {y : Subscript} (p : Place) (b : Words) {a : Words} → 1 ≤ n →
    ((m : ℕ) (read : Reader Expression) → Primaries m read → n ≡ suc m → subscript_behind read p b ≡ Some (y, a)) → Reaches (length a) (subscript_or_none deeper (symbol_then symbol.Dollar p b))
unfolding subscript_or_none subscript_of
subscript_at lowest p b k g = absurd (omega arith)
subscript_at (lower {n = m} {read = read} h) p b k g = or_reaches _ (reached (followed_equals _ (past_symbol_here symbol.Dollar p b) (g m read h refl)) (omega arith))

subscript_reach : {n : ℕ} {deeper : Option (Reader Expression)} → Lower n deeper → {y : Subscript} {b a : Words} → SpellsSubscript y b a → nesting_of_subscript y ≤ n → Reaches (length a) (subscript_or_none deeper b)
subscript_reach h {a = a} unsubscripted l = subscript_there h a (omega arith)
subscript_reach h (by_name {p = p}) l = subscript_at h p _ (omega arith) (λ m read g e. name_behind read p)
subscript_reach h (by_integer {p = p}) l = subscript_at h p _ (omega arith) (λ m read g e. integer_behind read p)
subscript_reach h (by_parts {p = p} {q = q} {before = b} w d) l = subscript_at h p _ (omega arith) (λ m read g e. parts_behind read p q b (parts_here read g w d (omega (arith, e)) (omega (arith, e)) (omega (arith, e))))

-- behind the first name of a reference
pub reference_behind_sound : {n : ℕ} {deeper : Option (Reader Expression)} → Lower n deeper → (p : Place) (m : List ℕ) (words : Words) →
    Holds (Phrase SpellsReference nesting_of_reference n (name_then m p words)) (reference_behind deeper p m words)
unfolding reference_behind
reference_behind_sound h p m words = made_holds _ (subscript_sound h (all further_at words).1) (λ s a q. record { spells = refers (names_sound words) q.spells; shallow = q.shallow })

pub reference_behind_reach : {n : ℕ} {deeper : Option (Reader Expression)} → Lower n deeper → (p : Place) (w : List ℕ) {ns : List Naming} {y : Subscript} {b m a : Words} →
    SpellsFurther ns b m → SpellsSubscript y m a → nesting_of_subscript y ≤ n → Reaches (length a) (reference_behind deeper p w b)
unfolding reference_behind
reference_behind_reach {deeper = deeper} h p w {b = b} {m = m} {a = a} d x l = made_reaches _ (by (subscript_ends x).first)
  where
    by : (m ≡ a) ⊎ (strength m ≤ 10) → Reaches (length a) (subscript_or_none deeper (all further_at b).1)
    by (inl e) = subscript_there h (all further_at b).1 (omega (arith, names_far d, ap length e))
    by (inr k) = subst (λ z. Reaches (length a) (subscript_or_none deeper z)) (sym (names_met d k).1) (subscript_reach h x l)

reference_in : {n : ℕ} {deeper : Option (Reader Expression)} → Lower n deeper → {x : Naming} {b m : Words} → IsName b x m →
    Holds (Phrase SpellsReference nesting_of_reference n b) (reference_behind deeper x.place x.name m)
reference_in h (is_name {n = w} {p = p} {rest = rest}) = reference_behind_sound h p w rest

pub reference_sound : {n : ℕ} {deeper : Option (Reader Expression)} → Lower n deeper → (words : Words) → Holds (Phrase SpellsReference nesting_of_reference n words) (reference_of deeper words)
unfolding reference_of
reference_sound h words = followed_holds (name_sound words) (λ x rest i. reference_in h i)

pub reference_reach : {n : ℕ} {deeper : Option (Reader Expression)} → Lower n deeper → {r : Reference} {b a : Words} → SpellsReference r b a → nesting_of_reference r ≤ n → Reaches (length a) (reference_of deeper b)
unfolding reference_of
reference_reach h (refers {p = p} {n = w} {before = b} d x) l = followed_at _ (name_here w p b) (reference_behind_reach h p w d x l)
