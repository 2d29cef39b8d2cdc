-- Parts that are open, and those above a part: of lower levels than it, the outermost first.
use Rattle.std.proofs.Common.{◌≡◌, ◌<◌, ◌≤◌, ℕ, Bool, true, false, List, [], ◌∷◌, ◌++◌, refl, ap, ◌∙◌, arith}
use Rattle.std.specs.Prelude.{cond, nat_lt, if◌then◌else◌}
use Rattle.std.proofs.lemmas.Bool.{ltb-true, ltb-false}
use Rattle.hal_phrases.specs.GatheredDeclarations.{OpenPart, still_open, innermost}
use Rattle.hal_meaning.specs.Elements.{Above, lower}
use Rattle.hal_fit_calls.specs.Each.{Each}

pub still_append : (level : ℕ) (xs ys : List OpenPart) → still_open level (xs ++ ys) ≡ still_open level xs ++ still_open level ys
unfolding still_open
still_append level [] ys = refl
still_append level (o ∷ os) ys = by (nat_lt o.0 level) (still_append level os ys) where
  by : (b : Bool) → still_open level (os ++ ys) ≡ still_open level os ++ still_open level ys
      → (if b then o ∷ still_open level (os ++ ys) else still_open level (os ++ ys)) ≡ (if b then o ∷ still_open level os else still_open level os) ++ still_open level ys
  by true rest = ap (λ zs. o ∷ zs) rest
  by false rest = rest

pub lower_append : (level : ℕ) (xs ys : List Above) → lower level (xs ++ ys) ≡ lower level xs ++ lower level ys
lower_append level [] ys = refl
lower_append level (a ∷ above) ys = by (nat_lt a.0 level) (lower_append level above ys) where
  by : (b : Bool) → lower level (above ++ ys) ≡ lower level above ++ lower level ys
      → cond b (a ∷ lower level (above ++ ys)) (lower level (above ++ ys)) ≡ cond b (a ∷ lower level above) (lower level above) ++ lower level ys
  by true rest = ap (λ zs. a ∷ zs) rest
  by false rest = rest

-- one that is of no lower level
pub not_open : (level of number : ℕ) → nat_lt of level ≡ false → still_open level ((of, number) ∷ []) ≡ []
unfolding still_open
not_open level of number is = ap (λ b. if b then (of, number) ∷ [] else []) is

-- what holds of all holds of those that stay open
pub each_still : (P : OpenPart → Type 0) (level : ℕ) (xs : List OpenPart) → Each P xs → Each P (still_open level xs)
unfolding still_open
each_still P level [] each = tt
each_still P level (o ∷ os) each = by (nat_lt o.0 level) (each_still P level os each.1) where
  by : (b : Bool) → Each P (still_open level os) → Each P (if b then o ∷ still_open level os else still_open level os)
  by true rest = (each.0, rest)
  by false rest = rest

pub still_below : (level : ℕ) (xs : List OpenPart) → Each (λ (o : OpenPart). o.0 < level) (still_open level xs)
unfolding still_open
still_below level [] = tt
still_below level (o ∷ os) = by (nat_lt o.0 level) refl (still_below level os) where
  by : (b : Bool) → nat_lt o.0 level ≡ b → Each (λ (x : OpenPart). x.0 < level) (still_open level os) → Each (λ (x : OpenPart). x.0 < level) (if b then o ∷ still_open level os else still_open level os)
  by true less rest = (ltb-true o.0 level less, rest)
  by false more rest = rest

-- those of a lower level are of a lower level than a deeper one
pub lower_twice : (level deeper : ℕ) (above : List Above) → level ≤ deeper → lower deeper (lower level above) ≡ lower level above
lower_twice level deeper [] deep = refl
lower_twice level deeper (a ∷ above) deep = by (nat_lt a.0 level) refl (nat_lt a.0 deeper) refl (lower_twice level deeper above deep) where
  by : (b : Bool) → nat_lt a.0 level ≡ b → (c : Bool) → nat_lt a.0 deeper ≡ c → lower deeper (lower level above) ≡ lower level above
      → lower deeper (cond b (a ∷ lower level above) (lower level above)) ≡ cond b (a ∷ lower level above) (lower level above)
  by true less true also rest = ap (λ d. cond d (a ∷ lower deeper (lower level above)) (lower deeper (lower level above))) also ∙ ap (λ zs. a ∷ zs) rest
  by true less false more rest = absurd (omega (arith, ltb-true a.0 level less, ltb-false a.0 deeper more, deep))
  by false more c is rest = rest

-- the innermost one is one of them, or what has them all
pub innermost_so : (P : ℕ → Type 0) (m : ℕ) (xs : List OpenPart) → P m → Each (λ (o : OpenPart). P o.1) xs → P (innermost m xs)
unfolding innermost
innermost_so P m [] so each = so
innermost_so P m (o ∷ os) so each = innermost_so P o.1 os each.0 each.1
