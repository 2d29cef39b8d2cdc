-- The list that is gathered phrase by phrase has the lock groups of each UPDATE block at its number.
use Rattle.std.proofs.Common.{◌≡◌, ◌∙◌, ◌==◌, ◌<◌, ◌≤◌, ◌-◌, ℕ, zero, suc, bit_or, Bool, true, false, List, [], ◌∷◌, ◌++◌, length, replicate, Option, Some, None, slice_set, slice_index_or, if◌then◌else◌, refl, sym, ap, subst, arith, eqb-true, append-nil}
use Rattle.std.specs.Option.{is_some}
use Rattle.std.specs.List.{list_any}
use Rattle.std.proofs.lemmas.Bool.{eqb-false, or_parts, true≢false}
use Rattle.std.proofs.lemmas.List.{get_or-set_same, get_or-set_other, length-append, length-replicate}
use Rattle.std.proofs.lemmas.Option.{unwrap_or-slice_get}
use Rattle.hal_phrases.specs.Phrases.{Phrase}
use Rattle.hal_constants.specs.Known.{Known}
use Rattle.hal_lock_groups.specs.Gathering.{bits_for, held, joined, with_phrase, with_phrases, gathered}
use Rattle.hal_lock_groups.specs.Groups.{bits_at}
use Rattle.hal_lock_groups.specs.Shared.{Shared, shared_of}
use Rattle.hal_lock_groups.specs.Updates.{AreGroups, has_updates, is_updated}
use Rattle.hal_lock_groups.proofs.Gathered.{with_all_bits, all_bits}

-- a list that is long enough
pub long_enough : (list : List ℕ) (u : ℕ) → suc u ≤ length list → list ≡ held list u
long_enough list u h =
    let none : suc u - length list ≡ 0 = omega arith in
    sym (ap (λ (n : ℕ). list ++ replicate n 0) none ∙ append-nil list)

held_length : (list : List ℕ) (u : ℕ) → u < length (held list u)
held_length list u = omega (arith, length-append list (replicate (suc u - length list) 0), length-replicate {A = ℕ} (suc u - length list) 0)

zero_for : (n u : ℕ) → bits_for (replicate n 0) u ≡ 0
zero_for zero u = refl
zero_for (suc n) zero = refl
zero_for (suc n) (suc u) = zero_for n u

zeros_for : (list : List ℕ) (n u : ℕ) → bits_for (list ++ replicate n 0) u ≡ bits_for list u
zeros_for [] n u = zero_for n u
zeros_for (bits ∷ list) n zero = refl
zeros_for (bits ∷ list) n (suc u) = zeros_for list n u

-- bits that are joined
set_for : (list : List ℕ) (k u bits : ℕ) → k < length list → (b : Bool) → (k == u) ≡ b → bits_for (slice_set list k bits) u ≡ (if b then bits else bits_for list u)
set_for list k u bits h true is =
    unwrap_or-slice_get (slice_set list k bits) u 0 ∙ subst (λ (i : ℕ). slice_index_or (slice_set list k bits) i 0 ≡ bits) (eqb-true k u is) (get_or-set_same list k bits 0 h)
set_for list k u bits h false is =
    unwrap_or-slice_get (slice_set list k bits) u 0 ∙ get_or-set_other list k u bits 0 (λ same. eqb-false k u is (sym same)) ∙ sym (unwrap_or-slice_get list u 0)

for_same : (f : ℕ → ℕ) (k u : ℕ) (more : ℕ) (b : Bool) → (k == u) ≡ b → (if b then bit_or (f k) more else f u) ≡ (if b then bit_or (f u) more else f u)
for_same f k u more true is = ap (λ i. bit_or (f i) more) (eqb-true k u is)
for_same f k u more false is = refl

joined_for : (list : List ℕ) (k u more : ℕ) → bits_for (joined (held list k) k more) u ≡ (if k == u then bit_or (bits_for list u) more else bits_for list u)
joined_for list k u more =
    set_for (held list k) k u (bit_or (bits_for (held list k) k) more) (held_length list k) (k == u) refl
    ∙ for_same (bits_for (held list k)) k u more (k == u) refl
    ∙ ap (λ (n : ℕ). if k == u then bit_or n more else n) (zeros_for list (suc k - length list) u)

-- those of phrases
around_for : (o : Option ℕ) (list : List ℕ) (u more : ℕ)
    → bits_for (elim o [ None ↦ list | Some k ↦ joined (held list k) k more ]) u ≡ (if (elim o [ None ↦ false | Some k ↦ k == u ]) then bit_or (bits_for list u) more else bits_for list u)
around_for None list u more = refl
around_for (Some k) list u more = joined_for list k u more

phrases_for : (ps : List Phrase) (s : Shared) (list : List ℕ) (qs : List Phrase) (u : ℕ) → bits_for (with_phrases ps s list qs) u ≡ with_all_bits ps s u (bits_for list u) qs
unfolding with_phrases with_all_bits
phrases_for ps s list [] u = refl
phrases_for ps s list (p ∷ qs) u = phrases_for ps s (with_phrase ps s list p) qs u ∙ ap (λ (n : ℕ). with_all_bits ps s u n qs) (around_for p.around.update list u (bits_at ps s p))

pub all_gathered : (ps : List Phrase) (vs : Known) → AreGroups ps vs (gathered ps (shared_of ps vs))
all_gathered ps vs u = phrases_for ps (shared_of ps vs) [] ps u ∙ all_bits ps vs u

-- phrases that stand in no UPDATE block add nothing
not_updated : (ps : List Phrase) (s : Shared) (list : List ℕ) (p : Phrase) (o : Option ℕ) → is_some o ≡ false
    → elim o [ None ↦ list | Some u ↦ joined (held list u) u (bits_at ps s p) ] ≡ list
not_updated ps s list p None is = refl
not_updated ps s list p (Some u) is = absurd (true≢false is)

none_added : (ps : List Phrase) (s : Shared) (list : List ℕ) (qs : List Phrase) → has_updates qs ≡ false → with_phrases ps s list qs ≡ list
unfolding with_phrases is_updated
none_added ps s list [] none = refl
none_added ps s list (p ∷ qs) none =
    none_added ps s (with_phrase ps s list p) qs (or_parts (is_updated p) (has_updates qs) none).1
    ∙ not_updated ps s list p p.around.update (or_parts (is_updated p) (has_updates qs) none).0

pub none_gathered : (ps : List Phrase) (vs : Known) → has_updates ps ≡ false → AreGroups ps vs []
none_gathered ps vs none = subst (AreGroups ps vs) (none_added ps (shared_of ps vs) [] ps none) (all_gathered ps vs)
