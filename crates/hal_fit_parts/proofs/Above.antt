-- Open parts and the names above a part go together: each leads from the one before it to the next.
use Rattle.std.proofs.Common.{◌≡◌, ◌≤◌, ◌<◌, ℕ, suc, Bool, true, false, List, [], ◌∷◌, ◌++◌, map, Some, refl, sym, ap, ◌∙◌, subst, arith, append-nil}
use Rattle.std.specs.Option.{option_and_then}
use Rattle.std.specs.Prelude.{cond, nat_lt, nat_le, if◌then◌else◌}
use Rattle.std.proofs.lemmas.Bool.{ltb-true, ltb-false, leb-true, leb-false}
use Rattle.hal_grammar.specs.Declarations.{Part}
use Rattle.hal_phrases.specs.Phrases.{Phrase}
use Rattle.hal_phrases.specs.GatheredDeclarations.{OpenPart, still_open, innermost, is_bottom}
use Rattle.hal_names.specs.declared.key.Space.TheVariants as space
use Rattle.hal_names.specs.Keys.{key, own}
use Rattle.hal_meaning.specs.Elements.{Above, lower, path_to}
use Rattle.hal_fit_calls.specs.Each.{Each}
use Rattle.hal_fit_parts.proofs.Opening.{still_append, lower_append, not_open, lower_twice}
use Rattle.hal_fit_parts.proofs.Leading.{down, down_append}

module _ (ps : List Phrase) where
  -- their levels rise, from this one on
  abbrev pub Leads : ℕ → ℕ → List OpenPart → List Above → Type 0
  Leads m low [] [] = Unit {0}
  Leads m low [] (a ∷ above) = ⊥
  Leads m low (o ∷ os) [] = ⊥
  Leads m low (o ∷ os) (a ∷ above) = (low ≤ o.0) × ((o.0 ≡ a.0) × ((own ps (key space.Part m a.1) ≡ Some o.1) × Leads o.1 (suc o.0) os above))

  pub leads_down : (m low : ℕ) (os : List OpenPart) (above : List Above) → Leads m low os above → down ps m (map (λ (one : Above). one.1) above) ≡ Some (innermost m os)
  unfolding innermost
  leads_down m low [] [] so = refl
  leads_down m low [] (a ∷ above) so = absurd so
  leads_down m low (o ∷ os) [] so = absurd so
  leads_down m low (o ∷ os) (a ∷ above) so = ap (option_and_then (λ c. down ps c (map (λ (one : Above). one.1) above))) so.1.1.0 ∙ leads_down o.1 (suc o.0) os above so.1.1.1

  -- none of them is of a level below theirs
  none_lower : (level m low : ℕ) (os : List OpenPart) (above : List Above) → level ≤ low → Leads m low os above → (still_open level os ≡ []) × (lower level above ≡ [])
  unfolding still_open
  none_lower level m low [] [] less so = (refl, refl)
  none_lower level m low [] (a ∷ above) less so = absurd so
  none_lower level m low (o ∷ os) [] less so = absurd so
  none_lower level m low (o ∷ os) (a ∷ above) less so = by (nat_lt o.0 level) refl (nat_lt a.0 level) refl (none_lower level o.1 (suc o.0) os above (omega (arith, less, so.0)) so.1.1.1) where
    by : (b : Bool) → nat_lt o.0 level ≡ b → (c : Bool) → nat_lt a.0 level ≡ c → (still_open level os ≡ []) × (lower level above ≡ [])
        → ((if b then o ∷ still_open level os else still_open level os) ≡ []) × (cond c (a ∷ lower level above) (lower level above) ≡ [])
    by true is c also rest = absurd (omega (arith, ltb-true o.0 level is, less, so.0))
    by false is true also rest = absurd (omega (arith, ltb-true a.0 level also, less, so.0, so.1.0))
    by false is false also rest = rest

  pub leads_lower : (level m low : ℕ) (os : List OpenPart) (above : List Above) → Leads m low os above → Leads m low (still_open level os) (lower level above)
  unfolding still_open
  leads_lower level m low [] [] so = tt
  leads_lower level m low [] (a ∷ above) so = absurd so
  leads_lower level m low (o ∷ os) [] so = absurd so
  leads_lower level m low (o ∷ os) (a ∷ above) so = by (nat_lt o.0 level) refl (nat_lt a.0 level) refl (leads_lower level o.1 (suc o.0) os above so.1.1.1) where
    by : (b : Bool) → nat_lt o.0 level ≡ b → (c : Bool) → nat_lt a.0 level ≡ c → Leads o.1 (suc o.0) (still_open level os) (lower level above)
        → Leads m low (if b then o ∷ still_open level os else still_open level os) (cond c (a ∷ lower level above) (lower level above))
    by true is true also rest = (so.0, (so.1.0, (so.1.1.0, rest)))
    by true is false also rest = absurd (omega (arith, ltb-true o.0 level is, ltb-false a.0 level also, so.1.0))
    by false is true also rest = absurd (omega (arith, ltb-false o.0 level is, ltb-true a.0 level also, so.1.0))
    by false is false also rest =
        let none = none_lower level o.1 (suc o.0) os above (omega (arith, ltb-false o.0 level is)) so.1.1.1 in
        subst (λ (xs : List OpenPart). Leads m low xs (lower level above)) (sym none.0) (subst (λ (xs : List Above). Leads m low [] xs) (sym none.1) tt)

  pub leads_more : (level n m low : ℕ) (x : List ℕ) (os : List OpenPart) (above : List Above) → Leads m low os above → Each (λ (o : OpenPart). o.0 < level) os → low ≤ level
      → own ps (key space.Part (innermost m os) x) ≡ Some n → Leads m low (os ++ ((level, n) ∷ [])) (above ++ ((level, x) ∷ []))
  unfolding innermost
  leads_more level n m low x [] [] so each less is = (less, (refl, (is, tt)))
  leads_more level n m low x [] (a ∷ above) so each less is = absurd so
  leads_more level n m low x (o ∷ os) [] so each less is = absurd so
  leads_more level n m low x (o ∷ os) (a ∷ above) so each less is = (so.0, (so.1.0, (so.1.1.0, leads_more level n o.1 (suc o.0) x os above so.1.1.1 each.1 (omega (arith, each.0)) is)))

  -- beside the next part they do
  abbrev pub Follows : ℕ → List OpenPart → List Above → List Part → Type 0
  Follows root unclosed above [] = Unit {0}
  Follows root unclosed above (y ∷ ys) = Leads root 0 (still_open y.level unclosed) (lower y.level above)

  pub follows_open : (root : ℕ) (os : List OpenPart) (above : List Above) (xs : List Part) → Leads root 0 os above → Follows root os above xs
  follows_open root os above [] so = tt
  follows_open root os above (y ∷ ys) so = leads_lower y.level root 0 os above so

  flat : (x y : Part) (ys : List Part) → is_bottom x.level (y ∷ ys) ≡ true → nat_lt x.level y.level ≡ false
  unfolding is_bottom
  flat x y ys bottom = by (nat_lt x.level y.level) refl where
    by : (b : Bool) → nat_lt x.level y.level ≡ b → b ≡ false
    by true less = absurd (omega (arith, ltb-true x.level y.level less, leb-true y.level x.level bottom))
    by false more = refl

  pub follows_bottom : (root n : ℕ) (x : Part) (os : List OpenPart) (above : List Above) (xs : List Part) → Leads root 0 os above → is_bottom x.level xs ≡ true → Follows root (os ++ ((x.level, n) ∷ [])) above xs
  follows_bottom root n x os above [] so bottom = tt
  follows_bottom root n x os above (y ∷ ys) so bottom =
      let same : still_open y.level (os ++ ((x.level, n) ∷ [])) ≡ still_open y.level os =
      still_append y.level os ((x.level, n) ∷ []) ∙ (ap (λ zs. still_open y.level os ++ zs) (not_open y.level x.level n (flat x y ys bottom)) ∙ append-nil (still_open y.level os)) in
      subst (λ (zs : List OpenPart). Leads root 0 zs (lower y.level above)) (sym same) (leads_lower y.level root 0 os above so)

  -- so its names lead to a part
  pub names_lead : (root n : ℕ) (x : Part) (os : List OpenPart) (above : List Above) → Leads root 0 os above → own ps (key space.Part (innermost root os) x.name.name) ≡ Some n → down ps root (path_to above x) ≡ Some n
  names_lead root n x os above so is =
      down_append ps root (map (λ (one : Above). one.1) above) (x.name.name ∷ [])
      ∙ (ap (option_and_then (λ c. down ps c (x.name.name ∷ []))) (leads_down root 0 os above so) ∙ ap (option_and_then (λ c. down ps c [])) is)

-- where deeper parts follow, all above stay
abbrev pub StartsDeeper : List Above → List Part → Type 0
StartsDeeper above [] = ⊥
StartsDeeper above (y ∷ ys) = lower y.level above ≡ above

deep : (x y : Part) (ys : List Part) → is_bottom x.level (y ∷ ys) ≡ false → nat_lt x.level y.level ≡ true
unfolding is_bottom
deep x y ys open_ = by (nat_lt x.level y.level) refl open_ where
  by : (b : Bool) → nat_lt x.level y.level ≡ b → nat_le y.level x.level ≡ false → b ≡ true
  by true less more = refl
  by false more other = absurd (omega (arith, ltb-false x.level y.level more, leb-false y.level x.level other))

pub starts_deeper : (x : Part) (above : List Above) (xs : List Part) → is_bottom x.level xs ≡ false → StartsDeeper (lower x.level above ++ ((x.level, x.name.name) ∷ [])) xs
unfolding is_bottom
starts_deeper x above [] open_ = absurd (cc)
starts_deeper x above (y ∷ ys) open_ =
    let less = deep x y ys open_ in
    lower_append y.level (lower x.level above) ((x.level, x.name.name) ∷ [])
    ∙ (ap (λ zs. zs ++ lower y.level ((x.level, x.name.name) ∷ [])) (lower_twice x.level y.level above (omega (arith, ltb-true x.level y.level less)))
    ∙ ap (λ b. lower x.level above ++ cond b ((x.level, x.name.name) ∷ []) []) less)
