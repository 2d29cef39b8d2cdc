-- The cells of a part with parts stand in a copy of its structure behind those that lie before them.
use Rattle.std.specs.Prelude.{◌≡◌, ◌≤◌, ◌<◌, ◌+◌, ℕ, nat_le, Bool, true, false, List, [], ◌∷◌, ◌++◌, flat_map, length, Some, slice_get, if◌then◌else◌}
use Rattle.std.proofs.Common.{refl, sym, ap, ◌∙◌, arith, append-nil, append_assoc}
use Rattle.std.proofs.lemmas.List.{map-append}
use Rattle.std.proofs.lemmas.Bool.{leb-false, leb-true}
use Rattle.hal_grammar.specs.Leaves.{Naming}
use Rattle.hal_grammar.specs.Declarations.{Part}
use Rattle.hal_phrases.specs.Phrases.{Phrase}
use Rattle.hal_phrases.specs.GatheredDeclarations.{is_bottom}
use Rattle.hal_values.specs.declared.value.Kind.{Kind}
use Rattle.hal_constants.specs.Known.{known}
use Rattle.hal_sizes.specs.Parts.{bottoms}
use Rattle.hal_meaning.specs.Elements.{Above, Component, before, component, copy_size, kinds_of_component, leads, lower, offset, path_to}
use Rattle.hal_fit_calls.specs.Each.{Each}
use Rattle.hal_fit_calls.proofs.Each.{each_weaker}
use Rattle.hal_fit_parts.proofs.Leading.{leads_own, names_of}
use Rattle.hal_fit_parts.proofs.Opening.{lower_append}
use Rattle.hal_right_images.proofs.rows.Lying.{get_behind, get_first}
use Rattle.hal_right_images.proofs.views.Choosing.{copy_long}
use Rattle.hal_right_images.proofs.areas.Inside.{IsInside, at_bottom, at_open, from, lower_all, names_above}
use Rattle.hal_right_images.proofs.areas.SameParts.{bottom_cells, cells_of}
use Rattle.hal_right_images.proofs.areas.SizedParts.{AreLeveled}

-- nothing but what is passed lies before
before_front : (path : List Naming) (front cs : List Component) → Each (λ (c : Component). leads path c.path ≡ false) front → before path (front ++ cs) ≡ front ++ before path cs
before_front path [] cs each = refl
before_front path (c ∷ front) cs each = ap (λ b. if b then [] else c ∷ before path (front ++ cs)) each.0 ∙ ap (λ xs. c ∷ xs) (before_front path front cs each.1)

-- a number of at least one
not_none : (n : ℕ) → 1 ≤ n → nat_le n 0 ≡ false
not_none n high = by (nat_le n 0) refl where
  by : (b : Bool) → nat_le n 0 ≡ b → b ≡ false
  by false is = refl
  by true is = absurd (omega (arith, leb-true n 0 is, high))

-- the parts at the bottom below a part are the first ones of all behind it
bottoms_first : (level : ℕ) (xs : List Part) → AreLeveled xs → (later : List Part) × (bottoms 0 xs ≡ bottoms level xs ++ later)
unfolding bottoms
bottoms_first level [] leveled = ([], refl)
bottoms_first level (x ∷ xs) leveled =
    let so = by (nat_le x.level level) (is_bottom x.level xs) (bottoms_first level xs leveled.1) in
    (so.0, ap (λ b. if b then [] else if is_bottom x.level xs then x ∷ bottoms 0 xs else bottoms 0 xs) (not_none x.level leveled.0) ∙ so.1)
  where
    by : (a b : Bool) → (later : List Part) × (bottoms 0 xs ≡ bottoms level xs ++ later)
        → (later : List Part) × ((if b then x ∷ bottoms 0 xs else bottoms 0 xs) ≡ (if a then [] else if b then x ∷ bottoms level xs else bottoms level xs) ++ later)
    by true true rest = (x ∷ bottoms 0 xs, refl)
    by true false rest = (bottoms 0 xs, refl)
    by false true rest = (rest.0, ap (λ ys. x ∷ ys) rest.1)
    by false false rest = rest

-- those above parts are of lower levels than the next one
abbrev AreOver : List Above → List Part → Type 0
AreOver over [] = Unit {0}
AreOver over (y ∷ ys) = Each (λ (a : Above). a.0 < y.level) over

over_deeper : (level : ℕ) (over : List Above) (xs : List Part) → Each (λ (a : Above). a.0 ≤ level) over → is_bottom level xs ≡ false → AreOver over xs
unfolding is_bottom
over_deeper level over [] low open_ = tt
over_deeper level over (y ∷ ys) low open_ = each_weaker (λ (a : Above). a.0 ≤ level) (λ (a : Above). a.0 < y.level) over low (λ a less. omega (arith, less, leb-false y.level level open_))

over_next : (over : List Above) (y : Part) (ys : List Part) → AreOver over (y ∷ ys) → is_bottom y.level ys ≡ false → AreOver over ys
over_next over y ys so open_ = over_deeper y.level over ys (each_weaker (λ (a : Above). a.0 < y.level) (λ (a : Above). a.0 ≤ y.level) over so (λ a less. omega (arith, less))) open_

flat_append : (f : Component → List Kind) (xs ys : List Component) → flat_map f (xs ++ ys) ≡ flat_map f xs ++ flat_map f ys
flat_append f [] ys = refl
flat_append f (x ∷ xs) ys = ap (λ ks. f x ++ ks) (flat_append f xs ys) ∙ sym (append_assoc (f x) (flat_map f xs) (flat_map f ys))

flat_parts : (f : Part → List Kind) (xs ys : List Part) → flat_map f (xs ++ ys) ≡ flat_map f xs ++ flat_map f ys
flat_parts f [] ys = refl
flat_parts f (x ∷ xs) ys = ap (λ ks. f x ++ ks) (flat_parts f xs ys) ∙ sym (append_assoc (f x) (flat_map f xs) (flat_map f ys))

module _ (ps : List Phrase) (p : Phrase) where
  -- names lead to the first component below their part
  first_led : (path : List Naming) (over more : List Above) (ys : List Part) → names_above over ≡ names_of path → AreOver over ys → before path (from ps p (over ++ more) ys) ≡ []
  first_led path over more [] names so = refl
  first_led path over more (y ∷ ys) names so = by (is_bottom y.level ys) refl (λ open_. first_led path over (lower y.level more ++ ((y.level, y.name.name) ∷ [])) ys names (over_next over y ys so open_)) where
    stays : lower y.level (over ++ more) ≡ over ++ lower y.level more
    stays = lower_append y.level over more ∙ ap (λ zs. zs ++ lower y.level more) (lower_all y.level over so)

    named : path_to (over ++ lower y.level more) y ≡ names_of path ++ (names_above (lower y.level more) ++ (y.name.name ∷ []))
    named =
        ap (λ zs. zs ++ (y.name.name ∷ [])) (map-append (λ (one : Above). one.1) over (lower y.level more) ∙ ap (λ zs. zs ++ names_above (lower y.level more)) names)
        ∙ append_assoc (names_of path) (names_above (lower y.level more)) (y.name.name ∷ [])

    led : leads path (path_to (lower y.level (over ++ more)) y) ≡ true
    led = ap (λ zs. leads path (path_to zs y)) stays ∙ (ap (leads path) named ∙ leads_own path (names_above (lower y.level more) ++ (y.name.name ∷ [])))

    by : (b : Bool) → is_bottom y.level ys ≡ b → (is_bottom y.level ys ≡ false → before path (from ps p (over ++ (lower y.level more ++ ((y.level, y.name.name) ∷ []))) ys) ≡ []) → before path (from ps p (over ++ more) (y ∷ ys)) ≡ []
    by true bottom rest =
        ap (before path) (at_bottom ps p (over ++ more) y ys bottom)
        ∙ ap (λ b. if b then [] else component ps (known ps) p (path_to (lower y.level (over ++ more)) y) y.attributes ∷ before path (from ps p (lower y.level (over ++ more)) ys)) led
    by false open_ rest =
        ap (before path) (at_open ps p (over ++ more) y ys open_)
        ∙ (ap (λ zs. before path (from ps p (zs ++ ((y.level, y.name.name) ∷ [])) ys)) stays ∙ (ap (λ zs. before path (from ps p zs ys)) (append_assoc over (lower y.level more) ((y.level, y.name.name) ∷ [])) ∙ rest open_))

  -- the cells below a part stand where its names lead
  pub cells_behind : (path : List Naming) (parts : List Part) (part : Part) (xs : List Part) → IsInside ps p path [] parts part xs → is_bottom part.level xs ≡ false → AreLeveled xs → (j : ℕ) (k : Kind)
      → slice_get (flat_map (cells_of ps p) (bottoms part.level xs)) j ≡ Some k → slice_get (flat_map kinds_of_component (from ps p [] parts)) (offset path (from ps p [] parts) + j) ≡ Some k
  cells_behind path parts part xs inside open_ leveled j k at =
      let later = bottoms_first part.level xs leveled in
      let starts : before path (from ps p inside.over xs) ≡ [] =
      ap (λ zs. before path (from ps p zs xs)) (sym (append-nil inside.over)) ∙ first_led path inside.over [] xs inside.named (over_deeper part.level inside.over xs inside.low open_) in
      let first : before path (from ps p [] parts) ≡ inside.front =
      ap (before path) inside.are ∙ (before_front path inside.front (from ps p inside.over xs) inside.passed ∙ (ap (λ zs. inside.front ++ zs) starts ∙ append-nil inside.front)) in
      let place : offset path (from ps p [] parts) + j ≡ length (flat_map kinds_of_component inside.front) + j = (let same = ap copy_size first in let long = copy_long inside.front in omega (arith, same, long)) in
      let cells : flat_map kinds_of_component (from ps p inside.over xs) ≡ flat_map (cells_of ps p) (bottoms part.level xs) ++ flat_map (cells_of ps p) later.0 =
      bottom_cells ps p inside.over xs leveled ∙ (ap (flat_map (cells_of ps p)) later.1 ∙ flat_parts (cells_of ps p) (bottoms part.level xs) later.0) in
      ap (slice_get (flat_map kinds_of_component (from ps p [] parts))) place
      ∙ (ap (λ cs. slice_get (flat_map kinds_of_component cs) (length (flat_map kinds_of_component inside.front) + j)) inside.are
      ∙ (ap (λ ks. slice_get ks (length (flat_map kinds_of_component inside.front) + j)) (flat_append kinds_of_component inside.front (from ps p inside.over xs))
      ∙ (get_behind (flat_map kinds_of_component inside.front) (flat_map kinds_of_component (from ps p inside.over xs)) j
      ∙ (ap (λ ks. slice_get ks j) cells ∙ get_first (flat_map (cells_of ps p) (bottoms part.level xs)) (flat_map (cells_of ps p) later.0) j k at))))
