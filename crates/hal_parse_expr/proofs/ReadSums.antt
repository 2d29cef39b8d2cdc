-- The readers of signed terms and of sums.
use Rattle.std.proofs.Common.{◌≡◌, ℕ, ◌≤◌, List, [], ◌∷◌, length, Some, None, refl, sym, subst, arith}
use Rattle.hal_base.specs.declared.refusal.Place.{Place}
use Rattle.hal_grammar.specs.Leaves.{Sign}
use Rattle.hal_grammar.specs.Expressions.{Expression, Sum, Terms, NoTerms, MoreTerms, nesting, nesting_of_terms}
use Rattle.hal_grammar.specs.Words.{Words}
use Rattle.hal_grammar.specs.SpellsExpressions.{SpellsSign, both, comparison, cat, SpellsSum, sum, term, summed, signed, SpellsTerms, no_terms, more_terms, SpellsTerm}
use Rattle.hal_grammar.specs.GoesOn.{Outcome}
use Rattle.hal_grammar.proofs.Outcomes.{made, back}
use Rattle.hal_grammar.proofs.Leaves.{one_sign}
use Rattle.hal_grammar.proofs.Beginnings.{Opening, term_opens, terms_ends}
use Rattle.hal_grammar.proofs.OneExpression.{one_sum, one_term}
use Rattle.hal_grammar.proofs.PlacedExpressions.{expression_placed}
use Rattle.hal_parse_expr.specs.Reading.{Read, Reader, all}
use Rattle.hal_parse_expr.specs.ReadingExpressions.{SignedTerm, terms, sign_at, signed_term, sum_from, unsigned_sum, signed_sum, sum_of}
use Rattle.hal_parse_expr.proofs.Shortening.{all_keeps}
use Rattle.hal_parse_expr.proofs.ShorteningExpressions.{signed_term_shortens, sum_shortens}
use Rattle.hal_parse_expr.proofs.Readings.{Holds, holds, Reaches, Phrase, Reads}
use Rattle.hal_parse_expr.proofs.Combining.{made_holds, followed_holds, followed_at, made_reaches}
use Rattle.hal_parse_expr.proofs.Rows.{all_sound, all_step, first_then, first_alone}
use Rattle.hal_parse_expr.proofs.ReadLeaves.{IsSign, is_sign, sign_sound, sign_here, unsigned}
use Rattle.hal_parse_expr.proofs.ReadFactors.{Primaries}
use Rattle.hal_parse_expr.proofs.ReadTerms.{term_reads}

-- a sign and a term
pub data SpellsSigned : SignedTerm → Words → Words → Type 0 where
  signed_so : {p : Place} {s : Sign} {t : Expression} {before left after : Words} → SpellsSign s p before left → SpellsTerm t left after → SpellsSigned (p, s, t) before after

-- how deep its term is nested
abbrev pub signed_nesting : SignedTerm → ℕ
signed_nesting t = nesting t.2

signed_in : {n : ℕ} {f : Place × Sign} {t : Expression} {b m a : Words} → IsSign b f m → Phrase SpellsTerm nesting n m t a → Phrase SpellsSigned signed_nesting n b (f.0, f.1, t) a
signed_in (is_sign s) p = record { spells = signed_so s p.spells; shallow = p.shallow }

signed_term_sound : {n : ℕ} (read : Reader Expression) → Primaries n read → (words : Words) → Holds (Phrase SpellsSigned signed_nesting n words) (signed_term read words)
unfolding signed_term
signed_term_sound read h words = followed_holds (sign_sound words) (λ s rest g. made_holds _ ((term_reads read h).sound rest) (λ t a p. signed_in g p))

signed_term_reach : {n : ℕ} (read : Reader Expression) → Primaries n read → {t : SignedTerm} {b a : Words} → SpellsSigned t b a → signed_nesting t ≤ n → Reaches (length a) (signed_term read b)
unfolding signed_term
signed_term_reach read h (signed_so s d) l = followed_at _ (sign_here s) (made_reaches _ ((term_reads read h).reach _ _ _ d l))

signed_same : {p q : Place} {s z : Sign} {t u : Expression} → p ≡ q → s ≡ z → t ≡ u → ◌≡◌ {A = SignedTerm} (p, s, t) (q, z, u)
signed_same e f g = cc

one_signed : {t u : SignedTerm} {b a c : Words} → SpellsSigned t b a → SpellsSigned u b c → Outcome 7 t a u c
one_signed (signed_so s d) (signed_so z e) =
    let (v, w, x) = one_sign s z in
    made (omega arith) (λ r. signed_same w v r) (one_term d (back SpellsTerm x e))

pub signed_reads : {n : ℕ} (read : Reader Expression) → Primaries n read → Reads SpellsSigned signed_nesting n 7 (signed_term read)
signed_reads read h = record {
  sound = signed_term_sound read h;
  reach = λ t b a d l. signed_term_reach read h d l;
  one = λ t u w a b d e. one_signed d e;
  short = signed_term_shortens read h.short;
}

terms_then : {t : SignedTerm} {ts : Terms} {b m a : Words} → SpellsSigned t b m → SpellsTerms ts m a → SpellsTerms (MoreTerms t.0 t.1 t.2 ts) b a
terms_then (signed_so s d) ds = more_terms s d ds

terms_ended : {b a : Words} → SpellsTerms NoTerms b a → b ≡ a
terms_ended no_terms = refl

-- as many signed terms as there are
pub terms_sound : {n : ℕ} (read : Reader Expression) → Primaries n read → (words : Words) →
    Phrase SpellsTerms nesting_of_terms n words (terms (all (signed_term read) words).0) (all (signed_term read) words).1
unfolding terms
terms_sound {n = n} read h words =
    all_sound (signed_term read) (λ ts b a. Phrase SpellsTerms nesting_of_terms n b (terms ts) a) (λ a. record { spells = no_terms; shallow = omega arith })
    (λ x xs b m a q p. record { spells = terms_then q.spells p.spells; shallow = omega (arith, q.shallow, p.shallow) }) (signed_reads read h).sound words

pub terms_far : {n : ℕ} (read : Reader Expression) → Primaries n read → {ts : Terms} {b a : Words} → SpellsTerms ts b a → nesting_of_terms ts ≤ n → length (all (signed_term read) b).1 ≤ length a
terms_far read h {a = a} no_terms l = all_keeps (signed_term read) (signed_term_shortens read h.short) a
terms_far read h (more_terms s d ds) l = all_step (signed_term read) (signed_reads read h) (signed_so s d) (omega arith) (terms_ends ds) (terms_far read h ds (omega arith))

sum_in : {n : ℕ} {t : Expression} {b m a : Words} (us : List SignedTerm) → Phrase SpellsTerm nesting n b t m → Phrase SpellsTerms nesting_of_terms n m (terms us) a →
    Phrase SpellsSum nesting n b (sum_from t us) a
unfolding terms sum_from
sum_in {t = t} {b = b} [] p q = record { spells = term (subst (λ w. SpellsTerm t b w) (terms_ended q.spells) p.spells); shallow = p.shallow }
sum_in (u ∷ us) p q = record { spells = summed (expression_placed (both (comparison (cat (sum (term p.spells)))))) p.spells q.spells; shallow = omega (arith, p.shallow, q.shallow) }

unsigned_sound : {n : ℕ} (read : Reader Expression) → Primaries n read → (words : Words) → Holds (Phrase SpellsSum nesting n words) (unsigned_sum read words)
unfolding unsigned_sum
unsigned_sound read h words = followed_holds ((term_reads read h).sound words) (λ t rest p. holds (sum_in (all (signed_term read) rest).0 p (terms_sound read h rest)))

signed_then : {t : SignedTerm} {ts : Terms} {b m a : Words} → SpellsSigned t b m → SpellsTerms ts m a → SpellsSum (Sum t.0 (Some t.1) t.2 ts) b a
signed_then (signed_so s d) ds = signed s d ds

signed_sum_sound : {n : ℕ} (read : Reader Expression) → Primaries n read → (words : Words) → Holds (Phrase SpellsSum nesting n words) (signed_sum read words)
unfolding signed_sum
signed_sum_sound read h words = followed_holds ((signed_reads read h).sound words) (λ t rest p. let q = terms_sound read h rest in
    holds (record { spells = signed_then p.spells q.spells; shallow = omega (arith, p.shallow, q.shallow) }))

either_holds : {X Y : Type 0} {P : Y → Words → Type 0} {r s : Read Y} (o : Read X) → Holds P r → Holds P s → Holds P (elim o [ None ↦ r | Some f ↦ s ])
either_holds None h g = h
either_holds (Some f) h g = g

sum_sound : {n : ℕ} (read : Reader Expression) → Primaries n read → (words : Words) → Holds (Phrase SpellsSum nesting n words) (sum_of read words)
unfolding sum_of
sum_sound read h words = either_holds (sign_at words) (unsigned_sound read h words) (signed_sum_sound read h words)

without_sign : (read : Reader Expression) {k : ℕ} {b : Words} → Opening b → Reaches k (unsigned_sum read b) → Reaches k (sum_of read b)
unfolding sum_of
without_sign read {k = k} {b = b} o r = subst (λ z. Reaches k (elim z [ None ↦ unsigned_sum read b | Some s ↦ signed_sum read b ])) (sym (unsigned b o)) r

with_sign : (read : Reader Expression) {k : ℕ} {s : Sign} {p : Place} {b m : Words} → SpellsSign s p b m → Reaches k (signed_sum read b) → Reaches k (sum_of read b)
unfolding sum_of
with_sign read {k = k} {b = b} s r = subst (λ z. Reaches k (elim z [ None ↦ unsigned_sum read b | Some s ↦ signed_sum read b ])) (sym (sign_here s)) r

sum_reach : {n : ℕ} (read : Reader Expression) → Primaries n read → {t : Expression} {b a : Words} → SpellsSum t b a → nesting t ≤ n → Reaches (length a) (sum_of read b)
unfolding unsigned_sum signed_sum
sum_reach read h (term d) l = without_sign read (term_opens d) (first_alone _ _ sum_from (term_reads read h) (signed_term_shortens read h.short) d l)
sum_reach read h (summed i d ds) l = without_sign read (term_opens d)
    (first_then _ _ sum_from (term_reads read h) (signed_term_shortens read h.short) d (omega arith) (terms_ends ds) (terms_far read h ds (omega arith)))
sum_reach read h (signed s d ds) l = with_sign read s
    (first_then _ _ (λ t us. Sum t.0 (Some t.1) t.2 (terms us)) (signed_reads read h) (signed_term_shortens read h.short) (signed_so s d) (omega arith) (terms_ends ds) (terms_far read h ds (omega arith)))

pub sum_reads : {n : ℕ} (read : Reader Expression) → Primaries n read → Reads SpellsSum nesting n 6 (sum_of read)
sum_reads read h = record {
  sound = sum_sound read h;
  reach = λ t b a d l. sum_reach read h d l;
  one = λ t u w a b d e. one_sum d e;
  short = sum_shortens read h.short;
}
