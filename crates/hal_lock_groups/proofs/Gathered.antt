-- The bits that are gathered phrase by phrase are the lock groups of the UPDATE block.
use Rattle.std.proofs.Common.{◌≡◌, ◌∙◌, ◌<◌, ◌≤◌, ◌+◌, ◌-◌, ◌*◌, ◌^◌, ℕ, zero, suc, max, bit_or, Bool, true, false, ◌&&◌, ◌||◌, List, [], ◌∷◌, Some, None, if◌then◌else◌, refl, sym, ap, subst, inl, inr, ◌⊎◌, arith, one-mul, zero-mul, pow-suc}
use Rattle.std.specs.Int.{bit_at}
use Rattle.std.specs.List.{list_any}
use Rattle.std.proofs.lemmas.Bool.{cases_lt}
use Rattle.std.proofs.lemmas.Nat.{or_lt}
use Rattle.std.proofs.lemmas.Nat.Bits.{bit_at-zero, bit_at_or, bit_at_cat_low, bit_at_cat_high, same_from_bits_below}
use Rattle.std.proofs.Math.Nat.{max-zero, zero-max}
use Rattle.hal_phrases.specs.Phrases.{Phrase}
use Rattle.hal_constants.specs.Known.{Known}
use Rattle.hal_reach.specs.Calls.{reaching}
use Rattle.hal_meaning.specs.Bodies.{callee, reaches}
use Rattle.hal_meaning.specs.Places.{Storing}
use Rattle.hal_meaning.specs.LockGroups.{is_plain, is_locked_by, is_inside, is_called_in, named_storing, has_group, group_bits, groups_of}
use Rattle.hal_lock_groups.specs.Naming.{all_storings, storing_named}
use Rattle.hal_lock_groups.specs.Shared.{Shared, plain_homes, shared_of, calls_one}
use Rattle.hal_lock_groups.specs.Groups.{bits_at}
use Rattle.hal_lock_groups.proofs.Tests.{same_any, led_to}
use Rattle.hal_lock_groups.proofs.Named.{named_stored}
use Rattle.hal_lock_groups.proofs.Called.{called}
use Rattle.hal_lock_groups.proofs.Bits.{as_bit, uses, used_bit, used_below}

-- bits, and those of one more phrase where it stands in the UPDATE block with this number
abbrev pub with_bits : List Phrase → Shared → ℕ → ℕ → Phrase → ℕ
with_bits ps s u bits p = if is_inside u p then bit_or bits (bits_at ps s p) else bits

-- those of more phrases
unfoldable pub with_all_bits : List Phrase → Shared → ℕ → ℕ → List Phrase → ℕ
with_all_bits ps s u bits [] = bits
with_all_bits ps s u bits (p ∷ qs) = with_all_bits ps s u (with_bits ps s u bits p) qs

-- those of the UPDATE block with this number
abbrev pub bits_in : List Phrase → Shared → ℕ → ℕ
bits_in ps s u = with_all_bits ps s u 0 ps

-- whether a phrase stands in the UPDATE block with this number and uses a group
abbrev pub uses_in : List Phrase → Shared → ℕ → ℕ → Phrase → Bool
uses_in ps s u g p = is_inside u p && uses g (storing_named ps s.storings p) (calls_one ps s.plain p)

-- a bit of those that are gathered
one_more : (bits more g : ℕ) (inside used : Bool) → bit_at more g ≡ as_bit used → bit_at (if inside then bit_or bits more else bits) g ≡ max (bit_at bits g) (as_bit (inside && used))
one_more bits more g true used is = bit_at_or bits more g ∙ ap (max (bit_at bits g)) is
one_more bits more g false used is = sym (max-zero (bit_at bits g))

max_bits : (n : ℕ) (a b : Bool) → max (max n (as_bit a)) (as_bit b) ≡ max n (as_bit (a || b))
max_bits n true true = omega arith
max_bits n true false = omega arith
max_bits n false true = omega arith
max_bits n false false = omega arith

gathered : (ps : List Phrase) (s : Shared) (u bits : ℕ) (qs : List Phrase) (g : ℕ) → g < 16
    → bit_at (with_all_bits ps s u bits qs) g ≡ max (bit_at bits g) (as_bit (list_any (uses_in ps s u g) qs))
unfolding with_all_bits
gathered ps s u bits [] g h = sym (max-zero (bit_at bits g))
gathered ps s u bits (p ∷ qs) g h =
    gathered ps s u (with_bits ps s u bits p) qs g h
    ∙ ap (λ (n : ℕ). max n (as_bit (list_any (uses_in ps s u g) qs)))
    (one_more bits (bits_at ps s p) g (is_inside u p) (uses g (storing_named ps s.storings p) (calls_one ps s.plain p)) (used_bit (storing_named ps s.storings p) (calls_one ps s.plain p) g h))
    ∙ max_bits (bit_at bits g) (uses_in ps s u g p) (list_any (uses_in ps s u g) qs)

more_below : (bits more : ℕ) (inside : Bool) → bits < 2 ^ 16 → more < 2 ^ 16 → (if inside then bit_or bits more else bits) < 2 ^ 16
more_below bits more true one other = or_lt 16 bits more one other
more_below bits more false one other = one

gathered_below : (ps : List Phrase) (s : Shared) (u bits : ℕ) (qs : List Phrase) → bits < 2 ^ 16 → with_all_bits ps s u bits qs < 2 ^ 16
unfolding with_all_bits
gathered_below ps s u bits [] h = h
gathered_below ps s u bits (p ∷ qs) h =
    gathered_below ps s u (with_bits ps s u bits p) qs (more_below bits (bits_at ps s p) (is_inside u p) h (used_below (storing_named ps s.storings p) (calls_one ps s.plain p)))

-- a bit of the groups that the meaning gives
bit_times : (b : Bool) (k : ℕ) → (if b then 2 ^ k else 0) ≡ as_bit b * 2 ^ k
bit_times true k = sym (one-mul (2 ^ k))
bit_times false k = sym (zero-mul (2 ^ k))

times_below : (b : Bool) (k rest : ℕ) → rest < 2 ^ k → (if b then 2 ^ k else 0) + rest < 2 ^ suc k
times_below true k rest h = omega (arith, pow-suc 2 k)
times_below false k rest h = omega (arith, pow-suc 2 k)

meant_below : (ps : List Phrase) (vs : Known) (u n : ℕ) → group_bits ps vs u n < 2 ^ n
meant_below ps vs u zero = omega arith
meant_below ps vs u (suc n) = times_below (has_group ps vs u n) n (group_bits ps vs u n) (meant_below ps vs u n)

lowest : (b : Bool) → bit_at (as_bit b) 0 ≡ as_bit b
lowest true = refl
lowest false = refl

highest : (b : Bool) (k rest : ℕ) → rest < 2 ^ k → bit_at ((if b then 2 ^ k else 0) + rest) k ≡ as_bit b
highest b k rest h =
    let none : k - k ≡ 0 = omega arith in
    ap (λ (n : ℕ). bit_at (n + rest) k) (bit_times b k) ∙ bit_at_cat_high (as_bit b) k rest k h (omega arith) ∙ ap (bit_at (as_bit b)) none ∙ lowest b

lower : (b : Bool) (k rest g : ℕ) → g < k → bit_at ((if b then 2 ^ k else 0) + rest) g ≡ bit_at rest g
lower b k rest g h = ap (λ (n : ℕ). bit_at (n + rest) g) (bit_times b k) ∙ bit_at_cat_low (as_bit b) k rest g h

meant_at : (ps : List Phrase) (vs : Known) (u n g : ℕ) → (g < n → bit_at (group_bits ps vs u n) g ≡ as_bit (has_group ps vs u g)) → g < suc n → (g < n) ⊎ (n ≤ g)
    → bit_at (group_bits ps vs u (suc n)) g ≡ as_bit (has_group ps vs u g)
meant_at ps vs u n g rest h (inl below) = lower (has_group ps vs u n) n (group_bits ps vs u n) g below ∙ rest below
meant_at ps vs u n g rest h (inr above) =
    let same : n ≡ g = omega arith in
    subst (λ (i : ℕ). bit_at (group_bits ps vs u (suc n)) i ≡ as_bit (has_group ps vs u i)) same (highest (has_group ps vs u n) n (group_bits ps vs u n) (meant_below ps vs u n))

meant_bit : (ps : List Phrase) (vs : Known) (u n g : ℕ) → g < n → bit_at (group_bits ps vs u n) g ≡ as_bit (has_group ps vs u g)
meant_bit ps vs u zero g h = absurd (omega arith)
meant_bit ps vs u (suc n) g h = meant_at ps vs u n g (meant_bit ps vs u n g) h (cases_lt g n)

-- a group is one of an UPDATE block where a phrase in it uses the group
named_plain : (ps : List Phrase) (vs : Known) (u : ℕ) (p : Phrase)
    → ((is_inside u p || is_called_in ps u p.around.home) && is_plain (named_storing ps vs p)) ≡ ((is_inside u p || is_called_in ps u p.around.home) && is_plain (storing_named ps (all_storings ps vs) p))
named_plain ps vs u p = ap (λ (s : Storing). (is_inside u p || is_called_in ps u p.around.home) && is_plain s) (sym (named_stored ps vs p))

plain_or_called : (ps : List Phrase) (list : List Storing) (u : ℕ) (p : Phrase)
    → (is_inside u p && (is_plain (storing_named ps list p) || list_any (λ (q : Phrase). is_plain (storing_named ps list q) && (elim (callee ps p) [ None ↦ false | Some k ↦ reaches ps k q.around.home ])) ps))
    ≡ (is_inside u p && (is_plain (storing_named ps list p) || calls_one ps (reaching ps (plain_homes ps list)) p))
plain_or_called ps list u p = ap (λ b. is_inside u p && (is_plain (storing_named ps list p) || b)) (sym (called ps list p))

used_in : (ps : List Phrase) (vs : Known) (u g : ℕ) → has_group ps vs u g ≡ list_any (uses_in ps (shared_of ps vs) u g) ps
unfolding shared_of
used_in ps vs u zero =
    same_any (λ (p : Phrase). (is_inside u p || is_called_in ps u p.around.home) && is_plain (named_storing ps vs p))
    (λ (p : Phrase). (is_inside u p || is_called_in ps u p.around.home) && is_plain (storing_named ps (all_storings ps vs) p)) (named_plain ps vs u) ps
    ∙ led_to (is_inside u) (λ (p : Phrase). is_plain (storing_named ps (all_storings ps vs) p)) (λ (p q : Phrase). elim (callee ps p) [ None ↦ false | Some k ↦ reaches ps k q.around.home ]) ps
    ∙ same_any (λ (p : Phrase). is_inside u p && (is_plain (storing_named ps (all_storings ps vs) p)
    || list_any (λ (q : Phrase). is_plain (storing_named ps (all_storings ps vs) q) && (elim (callee ps p) [ None ↦ false | Some k ↦ reaches ps k q.around.home ])) ps))
    (uses_in ps (shared_of ps vs) u 0) (plain_or_called ps (all_storings ps vs) u) ps
used_in ps vs u (suc n) =
    same_any (λ (p : Phrase). is_inside u p && is_locked_by (suc n) (named_storing ps vs p)) (uses_in ps (shared_of ps vs) u (suc n))
    (λ (p : Phrase). ap (λ (s : Storing). is_inside u p && is_locked_by (suc n) s) (sym (named_stored ps vs p))) ps

same_bits : (ps : List Phrase) (vs : Known) (u g : ℕ) → g < 16 → bit_at (bits_in ps (shared_of ps vs) u) g ≡ bit_at (group_bits ps vs u 16) g
same_bits ps vs u g h =
    gathered ps (shared_of ps vs) u 0 ps g h
    ∙ ap (λ (n : ℕ). max n (as_bit (list_any (uses_in ps (shared_of ps vs) u g) ps))) (bit_at-zero g)
    ∙ zero-max (as_bit (list_any (uses_in ps (shared_of ps vs) u g) ps))
    ∙ ap as_bit (sym (used_in ps vs u g))
    ∙ sym (meant_bit ps vs u 16 g h)

pub all_bits : (ps : List Phrase) (vs : Known) (u : ℕ) → bits_in ps (shared_of ps vs) u ≡ groups_of ps vs u
all_bits ps vs u =
    same_from_bits_below 16 (bits_in ps (shared_of ps vs) u) (group_bits ps vs u 16) (gathered_below ps (shared_of ps vs) u 0 ps (omega arith)) (meant_below ps vs u 16) (same_bits ps vs u)
