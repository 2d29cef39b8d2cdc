-- The reader of the further names of a reference.
use Rattle.std.proofs.Common.{◌≡◌, ℕ, ◌≤◌, List, ◌∷◌, length, refl, arith}
use Rattle.hal_base.specs.declared.refusal.Place.{Place}
use Rattle.hal_words.specs.declared.word.Symbol.TheVariants as symbol
use Rattle.hal_words.specs.declared.word.Word.TheVariants as word
use Rattle.hal_grammar.specs.Leaves.{Naming, naming}
use Rattle.hal_grammar.specs.Words.{Words, symbol_then, name_then}
use Rattle.hal_grammar.specs.SpellsExpressions.{SpellsFurther, no_further, further}
use Rattle.hal_grammar.specs.GoesOn.{strength, Outcome, same, sooner, later}
use Rattle.hal_grammar.proofs.Outcomes.{Ends, ends_here, ends_later}
use Rattle.hal_grammar.proofs.Shorter.{further_shorter}
use Rattle.hal_grammar.proofs.Leaves.{one_further}
use Rattle.hal_parse_expr.specs.Reading.{Read, followed, name_at, all}
use Rattle.hal_parse_expr.specs.ReadingExpressions.{further_at}
use Rattle.hal_parse_expr.proofs.FirstWords.{PastOf, is_past, not_past, past_symbol_of, past_symbol_here}
use Rattle.hal_parse_expr.proofs.Shortening.{all_keeps}
use Rattle.hal_parse_expr.proofs.ShorteningExpressions.{further_shortens}
use Rattle.hal_parse_expr.proofs.Readings.{Holds, holds_none, holds, Reaches, Phrase, Reads}
use Rattle.hal_parse_expr.proofs.Combining.{followed_at}
use Rattle.hal_parse_expr.proofs.Rows.{all_sound, all_step}
use Rattle.hal_parse_expr.proofs.ReadLeaves.{IsName, name_sound, reached_name, is_name}

-- a point and a name
pub data SpellsPoint : Naming → Words → Words → Type 0 where
  point : {n : List ℕ} {p q : Place} {after : Words} → SpellsPoint (naming q n) (symbol_then symbol.Point p (name_then n q after)) after

point_in : {p : Place} {words : Words} {o : Read Naming} → Holds (IsName words) o → Holds (Phrase SpellsPoint (λ x. 0) 0 (symbol_then symbol.Point p words)) o
point_in holds_none = holds_none
point_in (holds is_name) = holds (record { spells = point; shallow = omega arith })

point_sound : {words : Words} {o : Read Place} → PastOf (word.Symbol symbol.Point) words o → Holds (Phrase SpellsPoint (λ x. 0) 0 words) (followed o (λ p rest. name_at rest))
unfolding followed
point_sound (is_past {rest = rest}) = point_in (name_sound rest)
point_sound (not_past n) = holds_none

point_reach : {y : Naming} {words rest : Words} → SpellsPoint y words rest → Reaches (length rest) (further_at words)
unfolding further_at
point_reach (point {n = n} {p = p} {q = q} {after = after}) = followed_at _ (past_symbol_here symbol.Point p (name_then n q after)) (reached_name n q after)

one_point : {x y : Naming} {words a b : Words} → SpellsPoint x words a → SpellsPoint y words b → Outcome 11 x a y b
one_point point point = same refl refl

pub further_reads : Reads SpellsPoint (λ x. 0) 0 11 further_at
unfolding further_at
further_reads = record { sound = λ words. point_sound (past_symbol_of symbol.Point words); reach = λ y words rest d l. point_reach d; one = λ x y words a b d e. one_point d e; short = further_shortens }

further_then : {x : Naming} {xs : List Naming} {b m a : Words} → SpellsPoint x b m → SpellsFurther xs m a → SpellsFurther (x ∷ xs) b a
further_then point ds = further ds

-- the further names of a reference
pub names_sound : (words : Words) → SpellsFurther (all further_at words).0 words (all further_at words).1
names_sound words = all_sound further_at SpellsFurther (λ a. no_further) (λ x xs b m a q ds. further_then q.spells ds) further_reads.sound words

further_ends : {ns : List Naming} {m a : Words} → SpellsFurther ns m a → Ends 11 m a
further_ends no_further = ends_here
further_ends (further d) = ends_later (omega arith) (omega (arith, further_shorter d))

pub names_far : {ns : List Naming} {b a : Words} → SpellsFurther ns b a → length (all further_at b).1 ≤ length a
names_far {a = a} no_further = all_keeps further_at further_shortens a
names_far (further d) = all_step further_at further_reads point (omega arith) (further_ends d) (names_far d)

names_same : {ns ms : List Naming} {m a : Words} → Outcome 10 ns m ms a → length m ≤ length a → strength a ≤ 10 → (ns ≡ ms) × (m ≡ a)
names_same (same e f) l h = (e, f)
names_same (sooner g k) l h = absurd (omega arith)
names_same (later g k) l h = absurd (omega arith)

-- names that no point follows are those that are read
pub names_met : {ns : List Naming} {b a : Words} → SpellsFurther ns b a → strength a ≤ 10 → ((all further_at b).0 ≡ ns) × ((all further_at b).1 ≡ a)
names_met {b = b} d h = names_same (one_further (names_sound b) d) (names_far d) h
