-- The components of a part with parts stand in a structure behind components to which its names don't lead.
use Rattle.std.specs.Prelude.{◌≡◌, ◌≤◌, ◌<◌, ◌==◌, ◌&&◌, ℕ, suc, nat_lt, cond, Bool, true, false, List, [], ◌∷◌, ◌++◌, map, Some, None, bytes_eq, if◌then◌else◌}
use Rattle.std.specs.Option.{option_and_then}
use Rattle.std.proofs.Common.{refl, sym, ap, subst, ◌∙◌, arith, append-nil, append_assoc}
use Rattle.std.proofs.lemmas.List.{map-append}
use Rattle.std.proofs.lemmas.Bool.{eq-eqb, eqb-true, leb-true, ltb-true, ltb-false}
use Rattle.std.proofs.lemmas.Slice.Eq.{bytes_eq-Decides}
use Rattle.hal_grammar.specs.Leaves.{Naming}
use Rattle.hal_grammar.specs.Declarations.{Part}
use Rattle.hal_phrases.specs.Phrases.{Phrase}
use Rattle.hal_phrases.specs.GatheredDeclarations.{is_bottom}
use Rattle.hal_scope.specs.Uses.{is_nil}
use Rattle.hal_constants.specs.Known.{known}
use Rattle.hal_attributes.specs.Levels.{level_fault}
use Rattle.hal_shapes.specs.Paths.{found, is_named, reached}
use Rattle.hal_meaning.specs.Elements.{Above, Component, component, components_from, leads, lower, path_to}
use Rattle.hal_fit_calls.specs.Each.{Each}
use Rattle.hal_fit_calls.proofs.Each.{each_append, each_weaker}
use Rattle.hal_fit_parts.proofs.Leading.{names_of}
use Rattle.hal_fit_parts.proofs.Opening.{lower_append}
use Rattle.hal_right_images.proofs.areas.Ending.{levels_follow, reached_here, reached_past}

-- the names of parts
abbrev pub names_above : List Above → List (List ℕ)
names_above above = map (λ (one : Above). one.1) above

-- those of lower levels stay
pub lower_all : (level : ℕ) (xs : List Above) → Each (λ (a : Above). a.0 < level) xs → lower level xs ≡ xs
lower_all level [] each = refl
lower_all level (a ∷ xs) each = by (nat_lt a.0 level) refl (lower_all level xs each.1) where
  by : (b : Bool) → nat_lt a.0 level ≡ b → lower level xs ≡ xs → cond b (a ∷ lower level xs) (lower level xs) ≡ a ∷ xs
  by true less rest = ap (λ ys. a ∷ ys) rest
  by false more rest = absurd (omega (arith, ltb-false a.0 level more, each.0))

-- others don't
lower_none : (level : ℕ) (xs : List Above) → Each (λ (a : Above). level ≤ a.0) xs → lower level xs ≡ []
lower_none level [] each = refl
lower_none level (a ∷ xs) each = by (nat_lt a.0 level) refl (lower_none level xs each.1) where
  by : (b : Bool) → nat_lt a.0 level ≡ b → lower level xs ≡ [] → cond b (a ∷ lower level xs) (lower level xs) ≡ []
  by true less rest = absurd (omega (arith, ltb-true a.0 level less, each.0))
  by false more rest = rest

lower_one : (level : ℕ) (a : Above) (xs : List Above) → a.0 < level → lower level (a ∷ xs) ≡ a ∷ lower level xs
lower_one level a xs low = by (nat_lt a.0 level) refl where
  by : (b : Bool) → nat_lt a.0 level ≡ b → cond b (a ∷ lower level xs) (lower level xs) ≡ a ∷ lower level xs
  by true less = refl
  by false more = absurd (omega (arith, ltb-false a.0 level more, low))

-- they keep what holds of each
each_lower : (P : Above → Type 0) (level : ℕ) (xs : List Above) → Each P xs → Each P (lower level xs)
each_lower P level [] each = tt
each_lower P level (a ∷ xs) each = by (nat_lt a.0 level) (each_lower P level xs each.1) where
  by : (b : Bool) → Each P (lower level xs) → Each P (cond b (a ∷ lower level xs) (lower level xs))
  by true rest = (each.0, rest)
  by false rest = rest

-- names lead behind their first ones as the others do
leads_behind : (first ns : List Naming) (rest : List (List ℕ)) → leads (first ++ ns) (names_of first ++ rest) ≡ leads ns rest
leads_behind [] ns rest = refl
leads_behind (m ∷ first) ns rest = ap (λ b. b && leads (first ++ ns) (names_of first ++ rest)) ((bytes_eq-Decides m.name m.name).1 refl) ∙ leads_behind first ns rest

other_way : (x y : List ℕ) → bytes_eq x y ≡ false → bytes_eq y x ≡ false
other_way x y is = by (bytes_eq y x) refl where
  by : (b : Bool) → bytes_eq y x ≡ b → b ≡ false
  by false so = refl
  by true so = let same = (bytes_eq-Decides x y).1 (sym ((bytes_eq-Decides y x).0 so)) in let no_ : true ≡ false = sym same ∙ is in absurd (cc)

-- they don't lead to what has another name there
not_led : (first ns : List Naming) (n : Naming) (x : List ℕ) (rest : List (List ℕ)) → bytes_eq n.name x ≡ false → leads (first ++ (n ∷ ns)) (names_of first ++ (x ∷ rest)) ≡ false
not_led first ns n x rest other = leads_behind first (n ∷ ns) (x ∷ rest) ∙ ap (λ b. b && leads ns rest) other

pub some_same : (f g : Part × List Part) → Some f ≡ Some g → f ≡ g
some_same f g is = cc

-- a part of a lower level ends what is looked for
lower_lost : (level : ℕ) (y : Part) (ys : List Part) (n : Naming) (ns : List Naming) (f : Part × List Part) → nat_lt y.level level ≡ true → reached level (y ∷ ys) (n ∷ ns) ≡ Some f → ⊥
unfolding reached found
lower_lost level y ys n ns f less is =
    let so : None ≡ Some f =
    sym (ap (λ b. option_and_then (λ (g : Part × List Part). if is_nil ns then Some g else reached (suc g.0.level) g.1 ns) (if b then None else if is_named level n.name y then Some (y, ys) else found level n.name ys)) less) ∙ is in
    absurd (cc)

-- no part is found among none
none_lost : (level : ℕ) (n : Naming) (ns : List Naming) (f : Part × List Part) → reached level [] (n ∷ ns) ≡ Some f → ⊥
unfolding reached found
none_lost level n ns f is = absurd (cc)

-- a part at the bottom has none below
bottom_lost : (y : Part) (ys : List Part) (n : Naming) (ns : List Naming) (f : Part × List Part) → is_bottom y.level ys ≡ true → reached (suc y.level) ys (n ∷ ns) ≡ Some f → ⊥
unfolding is_bottom
bottom_lost y [] n ns f bottom is = none_lost (suc y.level) n ns f is
bottom_lost y (z ∷ zs) n ns f bottom is = lower_lost (suc y.level) z zs n ns f (by (nat_lt z.level (suc y.level)) refl) is where
  by : (b : Bool) → nat_lt z.level (suc y.level) ≡ b → b ≡ true
  by true less = refl
  by false more = absurd (omega (arith, ltb-false z.level (suc y.level) more, leb-true z.level y.level bottom))

-- what is open below those above, where a name is looked for at a level: a part of another name
abbrev Beneath : ℕ → Naming → List Above → List Part → Type 0
Beneath level n [] [] = Unit {0}
Beneath level n [] (y ∷ ys) = y.level ≤ level
Beneath level n (o ∷ os) parts = (bytes_eq n.name o.1 ≡ false) × ((o.0 ≡ level) × Each (λ (a : Above). level ≤ a.0) os)

behind_bottom : (level : ℕ) (n : Naming) (y : Part) (ys : List Part) → y.level ≡ level → is_bottom y.level ys ≡ true → Beneath level n [] ys
unfolding is_bottom
behind_bottom level n y [] is bottom = tt
behind_bottom level n y (z ∷ zs) is bottom = omega (arith, leb-true z.level y.level bottom, is)

behind_start : (b : ℕ) (n : Naming) (ys : List Part) → level_fault b ys ≡ None → Beneath (suc b) n [] ys
behind_start b n [] none = tt
behind_start b n (z ∷ zs) none = (levels_follow b z zs none).low

beneath_deep : (level : ℕ) (n : Naming) (more : List Above) (y : Part) (ys : List Part) → y.level ≡ level → Beneath level n more (y ∷ ys) → Each (λ (a : Above). level ≤ a.0) more
beneath_deep level n [] y ys is so = tt
beneath_deep level n (o ∷ os) y ys is so = ((let same = so.1.0 in omega (arith, same)), so.1.1)

module _ (ps : List Phrase) (p : Phrase) where
  abbrev pub from : List Above → List Part → List Component
  from above xs = components_from ps (known ps) p above xs

  pub at_bottom : (above : List Above) (x : Part) (xs : List Part) → is_bottom x.level xs ≡ true → from above (x ∷ xs) ≡ component ps (known ps) p (path_to (lower x.level above) x) x.attributes ∷ from (lower x.level above) xs
  at_bottom above x xs is =
      ap (λ b. if b then component ps (known ps) p (path_to (lower x.level above) x) x.attributes ∷ from (lower x.level above) xs else from (lower x.level above ++ ((x.level, x.name.name) ∷ [])) xs) is

  pub at_open : (above : List Above) (x : Part) (xs : List Part) → is_bottom x.level xs ≡ false → from above (x ∷ xs) ≡ from (lower x.level above ++ ((x.level, x.name.name) ∷ [])) xs
  at_open above x xs is =
      ap (λ b. if b then component ps (known ps) p (path_to (lower x.level above) x) x.attributes ∷ from (lower x.level above) xs else from (lower x.level above ++ ((x.level, x.name.name) ∷ [])) xs) is

  -- the components behind a part are those of the structure behind others, to which the names don't lead
  pub record IsInside (path : List Naming) (above : List Above) (parts : List Part) (part : Part) (xs : List Part) : Type 0 where
    pub front : List Component
    pub passed : Each (λ (c : Component). leads path c.path ≡ false) front
    pub over : List Above
    pub low : Each (λ (a : Above). a.0 ≤ part.level) over
    pub named : names_above over ≡ names_of path
    pub are : from above parts ≡ front ++ from over xs

  -- a part is passed
  pass : (path : List Naming) (above : List Above) (y : Part) (ys : List Part) (part : Part) (xs : List Part) (b : Bool) → is_bottom y.level ys ≡ b → leads path (path_to (lower y.level above) y) ≡ false
      → (is_bottom y.level ys ≡ true → IsInside path (lower y.level above) ys part xs) → (is_bottom y.level ys ≡ false → IsInside path (lower y.level above ++ ((y.level, y.name.name) ∷ [])) ys part xs) → IsInside path above (y ∷ ys) part xs
  pass path above y ys part xs true is other bottom open_ =
      let rest = bottom is in
      record {
        front = component ps (known ps) p (path_to (lower y.level above) y) y.attributes ∷ rest.front;
        passed = (other, rest.passed);
        over = rest.over;
        low = rest.low;
        named = rest.named;
        are = at_bottom above y ys is ∙ ap (λ cs. component ps (known ps) p (path_to (lower y.level above) y) y.attributes ∷ cs) rest.are;
      }
  pass path above y ys part xs false is other bottom open_ =
      let rest = open_ is in
      record { front = rest.front; passed = rest.passed; over = rest.over; low = rest.low; named = rest.named; are = at_open above y ys is ∙ rest.are }

  -- the names above, and those of the path up to here
  module _ (level : ℕ) (first : List Naming) (above : List Above) (lows : Each (λ (a : Above). a.0 < level) above) (names : names_above above ≡ names_of first) where
    beside_stay : (n : Naming) (more : List Above) (y : Part) (ys : List Part) → y.level ≡ level → Beneath level n more (y ∷ ys) → lower y.level (above ++ more) ≡ above
    beside_stay n more y ys is so =
        ap (λ k. lower k (above ++ more)) is
        ∙ (lower_append level above more ∙ (ap (λ zs. zs ++ lower level more) (lower_all level above lows) ∙ (ap (λ zs. above ++ zs) (lower_none level more (beneath_deep level n more y ys is so)) ∙ append-nil above)))

    deeper_stay : (o : Above) (os : List Above) (k : ℕ) → o.0 ≡ level → level < k → lower k (above ++ (o ∷ os)) ≡ above ++ (o ∷ lower k os)
    deeper_stay o os k is deep =
        lower_append k above (o ∷ os)
        ∙ (ap (λ zs. zs ++ lower k (o ∷ os)) (lower_all k above (each_weaker (λ (a : Above). a.0 < level) (λ (a : Above). a.0 < k) above lows (λ a less. omega (arith, less, deep)))) ∙ ap (λ zs. above ++ zs) (lower_one k o os (omega (arith, is, deep))))

    unled : (ns : List Naming) (n : Naming) (o : Above) (os : List Above) (y : Part) → bytes_eq n.name o.1 ≡ false → leads (first ++ (n ∷ ns)) (path_to (above ++ (o ∷ os)) y) ≡ false
    unled ns n o os y other =
        ap (λ xs. leads (first ++ (n ∷ ns)) (xs ++ (y.name.name ∷ []))) (map-append (λ (one : Above). one.1) above (o ∷ os) ∙ ap (λ xs. xs ++ names_above (o ∷ os)) names)
        ∙ (ap (leads (first ++ (n ∷ ns))) (append_assoc (names_of first) (names_above (o ∷ os)) (y.name.name ∷ [])) ∙ not_led first ns n o.1 (names_above os ++ (y.name.name ∷ [])) other)

    unled_here : (ns : List Naming) (n : Naming) (y : Part) → bytes_eq n.name y.name.name ≡ false → leads (first ++ (n ∷ ns)) (path_to above y) ≡ false
    unled_here ns n y other = ap (λ xs. leads (first ++ (n ∷ ns)) (xs ++ (y.name.name ∷ []))) names ∙ not_led first ns n y.name.name [] other

    names_more : (n : Naming) (y : Part) → bytes_eq y.name.name n.name ≡ true → names_above (above ++ ((y.level, y.name.name) ∷ [])) ≡ names_of (first ++ (n ∷ []))
    names_more n y same =
        map-append (λ (one : Above). one.1) above ((y.level, y.name.name) ∷ [])
        ∙ (ap (λ xs. xs ++ (y.name.name ∷ [])) names ∙ (ap (λ x. names_of first ++ (x ∷ [])) ((bytes_eq-Decides y.name.name n.name).0 same) ∙ sym (map-append (λ (m : Naming). m.name) first (n ∷ []))))

  -- a walk along the parts
  walk : (level b : ℕ) (first : List Naming) (above more : List Above) (parts : List Part) (n : Naming) (ns : List Naming) (part : Part) (xs : List Part) → Each (λ (a : Above). a.0 < level) above → names_above above ≡ names_of first
      → Beneath level n more parts → level_fault b parts ≡ None → reached level parts (n ∷ ns) ≡ Some (part, xs) → is_bottom part.level xs ≡ false → IsInside (first ++ (n ∷ ns)) (above ++ more) parts part xs
  unfolding is_nil
  walk level b first above more [] n ns part xs lows names beneath none is open_ = absurd (none_lost level n ns (part, xs) is)
  walk level b first above more (y ∷ ys) n ns part xs lows names beneath none is open_ =
      by_level (nat_lt y.level level) refl (y.level == level) refl (bytes_eq y.name.name n.name) refl
      (λ level_is same. by_names ns level_is same is
      (λ m ms is_. walk (suc y.level) y.level (first ++ (n ∷ [])) (above ++ ((y.level, y.name.name) ∷ [])) [] ys m ms part xs (lows_more level_is) (names_more level first above lows names n y same) (behind_start y.level m ys rest) rest is_ open_))
      (λ level_is differs past_.
      pass (first ++ (n ∷ ns)) (above ++ more) y ys part xs (is_bottom y.level ys) refl
      (ap (λ zs. leads (first ++ (n ∷ ns)) (path_to zs y)) (stays level_is) ∙ unled_here level first above lows names ns n y (other_way y.name.name n.name differs))
      (λ bottom. subst (λ zs. IsInside (first ++ (n ∷ ns)) zs ys part xs) (append-nil above ∙ sym (stays level_is)) (walk level y.level first above [] ys n ns part xs lows names (behind_bottom level n y ys level_is bottom) rest past_ open_))
      (λ opens. subst (λ zs. IsInside (first ++ (n ∷ ns)) (zs ++ ((y.level, y.name.name) ∷ [])) ys part xs) (sym (stays level_is))
      (walk level y.level first above ((y.level, y.name.name) ∷ []) ys n ns part xs lows names (other_way y.name.name n.name differs, (level_is, tt)) rest past_ open_)))
      (λ deep past_. by_more more refl beneath deep
      (λ o os is_more so.
      pass (first ++ (n ∷ ns)) (above ++ more) y ys part xs (is_bottom y.level ys) refl
      (ap (λ zs. leads (first ++ (n ∷ ns)) (path_to zs y)) (deeper o os is_more so deep) ∙ unled level first above lows names ns n o (lower y.level os) y so.0)
      (λ bottom. subst (λ zs. IsInside (first ++ (n ∷ ns)) zs ys part xs) (sym (deeper o os is_more so deep))
      (walk level y.level first above (o ∷ lower y.level os) ys n ns part xs lows names (so.0, (so.1.0, each_lower (λ (a : Above). level ≤ a.0) y.level os so.1.1)) rest past_ open_))
      (λ opens. subst (λ zs. IsInside (first ++ (n ∷ ns)) zs ys part xs) (sym (append_assoc above (o ∷ lower y.level os) ((y.level, y.name.name) ∷ [])) ∙ ap (λ zs. zs ++ ((y.level, y.name.name) ∷ [])) (sym (deeper o os is_more so deep)))
      (walk level y.level first above (o ∷ (lower y.level os ++ ((y.level, y.name.name) ∷ []))) ys n ns part xs lows names
      (so.0, (so.1.0, each_append (λ (a : Above). level ≤ a.0) (lower y.level os) ((y.level, y.name.name) ∷ []) (each_lower (λ (a : Above). level ≤ a.0) y.level os so.1.1) (omega (arith, deep), tt))) rest past_ open_))))
    where
      rest : level_fault y.level ys ≡ None
      rest = (levels_follow b y ys none).rest

      stays : y.level ≡ level → lower y.level (above ++ more) ≡ above
      stays level_is = beside_stay level first above lows names n more y ys level_is beneath

      deeper : (o : Above) (os : List Above) → more ≡ o ∷ os → Beneath level n (o ∷ os) (y ∷ ys) → level < y.level → lower y.level (above ++ more) ≡ above ++ (o ∷ lower y.level os)
      deeper o os is_more so deep = ap (λ zs. lower y.level (above ++ zs)) is_more ∙ deeper_stay level first above lows names o os y.level so.1.0 deep

      lows_more : y.level ≡ level → Each (λ (a : Above). a.0 < suc y.level) (above ++ ((y.level, y.name.name) ∷ []))
      lows_more level_is =
          each_append (λ (a : Above). a.0 < suc y.level) above ((y.level, y.name.name) ∷ []) (each_weaker (λ (a : Above). a.0 < level) (λ (a : Above). a.0 < suc y.level) above lows (λ a less. omega (arith, less, level_is))) (omega arith, tt)

      lows_here : y.level ≡ level → Each (λ (a : Above). a.0 ≤ y.level) (above ++ ((y.level, y.name.name) ∷ []))
      lows_here level_is =
          each_append (λ (a : Above). a.0 ≤ y.level) above ((y.level, y.name.name) ∷ []) (each_weaker (λ (a : Above). a.0 < level) (λ (a : Above). a.0 ≤ y.level) above lows (λ a less. omega (arith, less, level_is))) (omega arith, tt)

      not_lower : y.level ≡ level → nat_lt y.level level ≡ false
      not_lower level_is = by (nat_lt y.level level) refl where
        by : (k : Bool) → nat_lt y.level level ≡ k → k ≡ false
        by false so = refl
        by true so = absurd (omega (arith, ltb-true y.level level so, level_is))

      named_here : y.level ≡ level → bytes_eq y.name.name n.name ≡ true → is_named level n.name y ≡ true
      named_here level_is same = ap (λ e. e && bytes_eq y.name.name n.name) (eq-eqb y.level level level_is) ∙ same

      opened : y.level ≡ level → is_bottom y.level ys ≡ false → from (above ++ more) (y ∷ ys) ≡ from (above ++ ((y.level, y.name.name) ∷ [])) ys
      opened level_is opens = at_open (above ++ more) y ys opens ∙ ap (λ zs. from (zs ++ ((y.level, y.name.name) ∷ [])) ys) (stays level_is)

      this_one : y.level ≡ level → bytes_eq y.name.name n.name ≡ true → is_bottom y.level ys ≡ false → IsInside (first ++ (n ∷ [])) (above ++ more) (y ∷ ys) y ys
      this_one level_is same opens = record {
        front = [];
        passed = tt;
        over = above ++ ((y.level, y.name.name) ∷ []);
        low = lows_here level_is;
        named = names_more level first above lows names n y same;
        are = opened level_is opens;
      }

      by_bottom : (ms : List Naming) (m : Naming) (c : Bool) → is_bottom y.level ys ≡ c → y.level ≡ level → reached (suc y.level) ys (m ∷ ms) ≡ Some (part, xs)
          → IsInside ((first ++ (n ∷ [])) ++ (m ∷ ms)) ((above ++ ((y.level, y.name.name) ∷ [])) ++ []) ys part xs → IsInside (first ++ (n ∷ (m ∷ ms))) (above ++ more) (y ∷ ys) part xs
      by_bottom ms m true bottom level_is is_ inside = absurd (bottom_lost y ys m ms (part, xs) bottom is_)
      by_bottom ms m false opens level_is is_ inside =
          let so = subst (λ zs. IsInside zs (above ++ ((y.level, y.name.name) ∷ [])) ys part xs) (append_assoc first (n ∷ []) (m ∷ ms))
          (subst (λ zs. IsInside ((first ++ (n ∷ [])) ++ (m ∷ ms)) zs ys part xs) (append-nil (above ++ ((y.level, y.name.name) ∷ []))) inside) in
          record { front = so.front; passed = so.passed; over = so.over; low = so.low; named = so.named; are = opened level_is opens ∙ so.are }

      by_names : (rest_ : List Naming) → y.level ≡ level → bytes_eq y.name.name n.name ≡ true → reached level (y ∷ ys) (n ∷ rest_) ≡ Some (part, xs)
          → ((m : Naming) (ms : List Naming) → reached (suc y.level) ys (m ∷ ms) ≡ Some (part, xs) → IsInside ((first ++ (n ∷ [])) ++ (m ∷ ms)) ((above ++ ((y.level, y.name.name) ∷ [])) ++ []) ys part xs)
          → IsInside (first ++ (n ∷ rest_)) (above ++ more) (y ∷ ys) part xs
      by_names [] level_is same is_ further =
          let both = some_same (y, ys) (part, xs) (sym (reached_here level y ys n [] (not_lower level_is) (named_here level_is same)) ∙ is_) in
          let one : y ≡ part = ap (λ (f : Part × List Part). f.0) both in
          let others : ys ≡ xs = ap (λ (f : Part × List Part). f.1) both in
          subst (λ zs. IsInside (first ++ (n ∷ [])) (above ++ more) (y ∷ ys) part zs) others
          (subst (λ z. IsInside (first ++ (n ∷ [])) (above ++ more) (y ∷ ys) z ys) one
          (this_one level_is same (ap (λ (z : Part). is_bottom z.level ys) one ∙ (ap (is_bottom part.level) others ∙ open_))))
      by_names (m ∷ ms) level_is same is_ further =
          let so = sym (reached_here level y ys n (m ∷ ms) (not_lower level_is) (named_here level_is same)) ∙ is_ in
          by_bottom ms m (is_bottom y.level ys) refl level_is so (further m ms so)

      by_more : (os : List Above) → more ≡ os → Beneath level n os (y ∷ ys) → level < y.level
          → ((o : Above) (rest_ : List Above) → more ≡ o ∷ rest_ → Beneath level n (o ∷ rest_) (y ∷ ys) → IsInside (first ++ (n ∷ ns)) (above ++ more) (y ∷ ys) part xs) → IsInside (first ++ (n ∷ ns)) (above ++ more) (y ∷ ys) part xs
      by_more [] is_more so deep further = absurd (omega (arith, so, deep))
      by_more (o ∷ rest_) is_more so deep further = further o rest_ is_more so

      by_level : (lower_ : Bool) → nat_lt y.level level ≡ lower_ → (equal : Bool) → (y.level == level) ≡ equal → (same : Bool) → bytes_eq y.name.name n.name ≡ same
          → (y.level ≡ level → bytes_eq y.name.name n.name ≡ true → IsInside (first ++ (n ∷ ns)) (above ++ more) (y ∷ ys) part xs)
          → (y.level ≡ level → bytes_eq y.name.name n.name ≡ false → reached level ys (n ∷ ns) ≡ Some (part, xs) → IsInside (first ++ (n ∷ ns)) (above ++ more) (y ∷ ys) part xs)
          → (level < y.level → reached level ys (n ∷ ns) ≡ Some (part, xs) → IsInside (first ++ (n ∷ ns)) (above ++ more) (y ∷ ys) part xs) → IsInside (first ++ (n ∷ ns)) (above ++ more) (y ∷ ys) part xs
      by_level true less equal e same s this beside_ deep = absurd (lower_lost level y ys n ns (part, xs) less is)
      by_level false more_ true e true s this beside_ deep = this (eqb-true y.level level e) s
      by_level false more_ true e false s this beside_ deep = beside_ (eqb-true y.level level e) s (sym (reached_past level y ys n ns more_ (ap (λ k. k && bytes_eq y.name.name n.name) e ∙ s)) ∙ is)
      by_level false more_ false e same s this beside_ deep = deep (above_it more_ e) (sym (reached_past level y ys n ns more_ (ap (λ k. k && bytes_eq y.name.name n.name) e)) ∙ is) where
        above_it : nat_lt y.level level ≡ false → (y.level == level) ≡ false → level < y.level
        above_it far apart = by (nat_lt level y.level) refl where
          by : (k : Bool) → nat_lt level y.level ≡ k → level < y.level
          by true so = ltb-true level y.level so
          by false so =
              let one = ltb-false y.level level far in
              let two = ltb-false level y.level so in
              absurd (let other : true ≡ false = sym (eq-eqb y.level level (omega (arith, one, two))) ∙ apart in cc)

  -- from the structure on
  pub inside : (parts : List Part) (n : Naming) (ns : List Naming) (part : Part) (xs : List Part) → level_fault 0 parts ≡ None → reached 1 parts (n ∷ ns) ≡ Some (part, xs) → is_bottom part.level xs ≡ false → IsInside (n ∷ ns) [] parts part xs
  inside parts n ns part xs none is open_ = walk 1 0 [] [] [] parts n ns part xs tt refl (behind_start 0 n parts none) none is open_
