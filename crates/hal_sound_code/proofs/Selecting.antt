-- The entries of a block have selectors of its ON instructions, and no two of them have the same.
use Rattle.std.specs.Prelude.{◌≡◌, ℕ, zero, suc, ◌+◌, ◌≤◌, ◌==◌, length, Bool, true, false, not, ◌&&◌, ◌||◌, List, [], ◌∷◌, Option, Some, None, slice_get, if◌then◌else◌}
use Rattle.std.proofs.Common.{refl, ap, subst, ◌∙◌, arith}
use Rattle.std.proofs.lemmas.Bool.{eqb-true, eq-eqb, and_parts}
use Rattle.hal_values.specs.declared.environment.Entry.{Entry}
use Rattle.hal_values.specs.declared.environment.ErrNo.{ErrNo}
use Rattle.hal_values.specs.declared.environment.Selector.{Selector}
use Rattle.hal_values.specs.declared.environment.Selector.TheVariants as selector
use Rattle.hal_values.specs.Searching.{same_selector, entry_for, without}
use Rattle.hal_code.specs.declared.choice.Choice.{Choice}
use Rattle.hal_code.specs.declared.instr.Instr.{Instr}
use Rattle.hal_code.specs.declared.instr.Instr.TheVariants as instr
use Rattle.hal_code.specs.declared.operand.EventChange.{EventChange}
use Rattle.hal_code.specs.declared.operand.Response.{Response}
use Rattle.hal_code.specs.Controlling.{selector_of}
use Rattle.hal_code.specs.Cores.{Setting}
use Rattle.hal_sound_code.specs.Entries.{with_on, selectors_in, selectors_of, is_among}
use Rattle.hal_sound_code.specs.Standing.{AllEnter}

-- selectors that are the same are equal
same_is : (a b : Selector) → same_selector a b ≡ true → a ≡ b
same_is selector.All selector.All e = refl
same_is selector.All (selector.Group h) e = absurd (cc)
same_is selector.All (selector.One b) e = absurd (cc)
same_is (selector.Group g) selector.All e = absurd (cc)
same_is (selector.Group g) (selector.Group h) e = ap selector.Group (eqb-true g h e)
same_is (selector.Group g) (selector.One b) e = absurd (cc)
same_is (selector.One a) selector.All e = absurd (cc)
same_is (selector.One a) (selector.Group h) e = absurd (cc)
same_is (selector.One a) (selector.One b) e = ap selector.One (both (eqb-true a.group b.group (and_parts _ _ e).0) (eqb-true a.number b.number (and_parts _ _ e).1))
  where
    both : a.group ≡ b.group → a.number ≡ b.number → a ≡ b
    both group number = ap (λ n. let x : ErrNo = record { group = n; number = a.number } in x) group ∙ ap (λ n. let x : ErrNo = record { group = b.group; number = n } in x) number

both_true : (a b : Bool) → a ≡ true → b ≡ true → (a && b) ≡ true
both_true true b e f = f
both_true false b e f = absurd (cc)

is_same : (a : Selector) → same_selector a a ≡ true
is_same selector.All = refl
is_same (selector.Group g) = eq-eqb g g refl
is_same (selector.One a) = both_true (a.group == a.group) (a.number == a.number) (eq-eqb a.group a.group refl) (eq-eqb a.number a.number refl)

-- entries without one
kept_none : (sel : Selector) (e : Entry) (es : List Entry) (b : Bool) → same_selector sel e.selector ≡ b → entry_for sel es ≡ None → entry_for sel (if not b then e ∷ es else es) ≡ None
kept_none sel e es true is none = none
kept_none sel e es false is none = ap (λ (x : Bool). if x then Some e else entry_for sel es) is ∙ none

pub none_without : (sel : Selector) (es : List Entry) → entry_for sel (without sel es) ≡ None
none_without sel [] = refl
none_without sel (e ∷ es) =
    let found = kept_none sel e (without sel es) (same_selector sel e.selector) refl (none_without sel es) in
    found

no_other : (b : Bool) (one : Entry) (o : Option Entry) → ◌≡◌ {A = Option Entry} (if b then Some one else o) None → (b ≡ false) × (o ≡ None)
no_other true one o e = absurd (cc)
no_other false one o e = (refl, e)

kept_or_not : (one : Selector) (x : Entry) (es : List Entry) (b : Bool) → same_selector one x.selector ≡ false → entry_for one es ≡ None → entry_for one (if b then x ∷ es else es) ≡ None
kept_or_not one x es true other none = ap (λ (b : Bool). if b then Some x else entry_for one es) other ∙ none
kept_or_not one x es false other none = none

pub none_in_without : (sel one : Selector) (es : List Entry) → entry_for one es ≡ None → entry_for one (without sel es) ≡ None
none_in_without sel one [] e = refl
none_in_without sel one (x ∷ es) e =
    let parts = no_other (same_selector one x.selector) x (entry_for one es) e in
    kept_or_not one x (without sel es) (not (same_selector sel x.selector)) parts.0 (none_in_without sel one es parts.1)

-- the selector of an ON instruction is among those of its code
first_or : (a b : Bool) → a ≡ true → (a || b) ≡ true
first_or true b e = refl
first_or false b e = absurd (cc)

later_or : (a b : Bool) → b ≡ true → (a || b) ≡ true
later_or true b e = refl
later_or false b e = e

among_more : (sel : Selector) (i : Instr) (xs : List Selector) → is_among sel xs ≡ true → is_among sel (with_on i xs) ≡ true
among_more sel (instr.On group number response change event target) xs e = later_or (same_selector sel (selector_of group number)) (is_among sel xs) e
among_more sel other xs e = e

pub among_code : (group number : ℕ) (r : Choice Response) (change : Choice EventChange) (event target : ℕ) (code : List Instr) (k : ℕ) → slice_get code k ≡ Some (instr.On group number r change event target)
    → is_among (selector_of group number) (selectors_in code) ≡ true
among_code group number r change event target [] k e = absurd (cc)
among_code group number r change event target (i ∷ code) zero e =
    subst (λ x. is_among (selector_of group number) (with_on x (selectors_in code)) ≡ true) (let same : instr.On group number r change event target ≡ i = cc in same)
    (first_or (same_selector (selector_of group number) (selector_of group number)) _ (is_same (selector_of group number)))
among_code group number r change event target (i ∷ code) (suc k) e =
    among_more (selector_of group number) i (selectors_in code) (among_code group number r change event target code k e)

-- how many of some selectors have entries
abbrev one_if : Option Entry → ℕ
one_if None = 0
one_if (Some e) = 1

abbrev used : List Entry → List Selector → ℕ
used es [] = 0
used es (x ∷ xs) = one_if (entry_for x es) + used es xs

used_few : (es : List Entry) (xs : List Selector) → used es xs ≤ length xs
used_few es [] = omega arith
used_few es (x ∷ xs) = one_at (entry_for x es) (used es xs) (length xs) (used_few es xs)
  where
    one_at : (o : Option Entry) (m n : ℕ) → m ≤ n → one_if o + m ≤ suc n
    one_at None m n few = omega (arith, few)
    one_at (Some e) m n few = omega (arith, few)

-- no fewer with an entry more
no_less : (e : Entry) (b : Bool) (o : Option Entry) → one_if o ≤ one_if (if b then Some e else o)
no_less e true None = omega arith
no_less e true (Some one) = omega arith
no_less e false o = omega arith

used_more : (e : Entry) (es : List Entry) (xs : List Selector) → used es xs ≤ used (e ∷ es) xs
used_more e es [] = omega arith
used_more e es (x ∷ xs) = sums (one_if (entry_for x es)) (one_if (entry_for x (e ∷ es))) (used es xs) (used (e ∷ es) xs) (no_less e (same_selector x e.selector) (entry_for x es)) (used_more e es xs)
  where
    sums : (a b m n : ℕ) → a ≤ b → m ≤ n → a + m ≤ b + n
    sums a b m n low few = omega (arith, low, few)

-- one more with an entry whose selector is among them and had none
used_one_more : (e : Entry) (es : List Entry) (xs : List Selector) → is_among e.selector xs ≡ true → entry_for e.selector es ≡ None → suc (used es xs) ≤ used (e ∷ es) xs
used_one_more e es [] among none = absurd (cc)
used_one_more e es (x ∷ xs) among none = choose (same_selector e.selector x) refl among (used_one_more e es xs)
  where
    here : (a b m n : ℕ) → a ≡ 0 → b ≡ 1 → m ≤ n → suc (a + m) ≤ b + n
    here a b m n free taken few = omega (arith, free, taken, few)

    there : (a b m n : ℕ) → a ≤ b → suc m ≤ n → suc (a + m) ≤ b + n
    there a b m n low few = omega (arith, low, few)

    choose : (b : Bool) → same_selector e.selector x ≡ b → (b || is_among e.selector xs) ≡ true → (is_among e.selector xs ≡ true → entry_for e.selector es ≡ None → suc (used es xs) ≤ used (e ∷ es) xs)
        → suc (one_if (entry_for x es) + used es xs) ≤ one_if (entry_for x (e ∷ es)) + used (e ∷ es) xs
    choose true is any later =
        here (one_if (entry_for x es)) (one_if (entry_for x (e ∷ es))) (used es xs) (used (e ∷ es) xs)
        (ap one_if (subst (λ y. entry_for y es ≡ None) (same_is e.selector x is) none))
        (ap (λ (b : Bool). one_if (if b then Some e else entry_for x es)) (subst (λ y. same_selector y e.selector ≡ true) (same_is e.selector x is) (is_same e.selector)))
        (used_more e es xs)
    choose false is any later =
        there (one_if (entry_for x es)) (one_if (entry_for x (e ∷ es))) (used es xs) (used (e ∷ es) xs) (no_less e (same_selector x e.selector) (entry_for x es)) (later any none)

-- a block has at most as many entries as ON instructions
entries_used : (s : Setting) (number : ℕ) (inside : Bool) (es : List Entry) → AllEnter s number inside es → length es ≤ used es (selectors_of s.image number)
entries_used s number inside [] enter = low (used [] (selectors_of s.image number))
  where
    low : (n : ℕ) → 0 ≤ n
    low n = omega arith
entries_used s number inside (e ∷ es) enter = more (length es) (used es (selectors_of s.image number)) (used (e ∷ es) (selectors_of s.image number)) (entries_used s number inside es enter.1) (used_one_more e es (selectors_of s.image number) enter.2 enter.3)
  where
    more : (a b n : ℕ) → a ≤ b → suc b ≤ n → suc a ≤ n
    more a b n low one = omega (arith, low, one)

pub entries_few : (s : Setting) (number : ℕ) (inside : Bool) (es : List Entry) → AllEnter s number inside es → length es ≤ length (selectors_of s.image number)
entries_few s number inside es enter = on (length es) (used es (selectors_of s.image number)) (length (selectors_of s.image number)) (entries_used s number inside es enter) (used_few es (selectors_of s.image number))
  where
    on : (a b n : ℕ) → a ≤ b → b ≤ n → a ≤ n
    on a b n low few = omega (arith, low, few)
