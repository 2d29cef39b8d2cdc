-- Data with own places that a name means in a unit stand in a unit that the process reaches.
use Rattle.std.specs.Prelude.{◌≡◌, ◌⊎◌, ◌||◌, ℕ, true, false, List, Option, Some, None, length, slice_get}
use Rattle.std.proofs.Common.{refl, sym, ap, subst, ◌∙◌, inl, inr}
use Rattle.hal_grammar.specs.Units.{Preface}
use Rattle.hal_phrases.specs.declared.around.Around.{Around}
use Rattle.hal_phrases.specs.Phrases.{Node, Phrase, OfItem, OfTemporaryGroup}
use Rattle.hal_names.specs.declared.key.Key.{Key}
use Rattle.hal_names.specs.declared.key.Space.TheVariants as space
use Rattle.hal_names.specs.Keys.{key, own, declared_at}
use Rattle.hal_names.specs.Means.{is_compool_unit, means, prefaces_of}
use Rattle.hal_constants.specs.Known.{Known}
use Rattle.hal_meaning.specs.Bodies.{is_unit, meant, processes_of, reaches, reaches_within, standing_for, unit_count}
use Rattle.hal_meaning.specs.Places.{storing}
use Rattle.hal_reach.specs.Places.{is_among}
use Rattle.hal_fit_calls.specs.Each.{Each}
use Rattle.hal_right_images.proofs.rows.Alone.{each_at}
use Rattle.hal_right_images.proofs.rows.LookingUp.{LooksUp}
use Rattle.hal_right_images.proofs.rows.Visible.{same_phrase, outward, not_in_file, to_home, IsFileAt, IsGiven, IsNear, IsUnitOf, IsPooled, nearest_is, included_is, within_itself, reaches_around}
use Rattle.hal_right_images.specs.rows.Homes.{LeadsHome, AtHome, InGroup, StandsHome, Encloses, Itself, Beyond, IsOpenUnit, IsOuter, IsUnit, IsFile, StandsPlaced}
use Rattle.hal_right_images.specs.views.Placed.{keeps_own, is_temporary, has_own, AreWellPlaced}

module _ (ps : List Phrase) (looks : LooksUp ps) (home : Each (StandsHome ps) ps) (placed : Each (StandsPlaced ps) ps) (vs : Known) (well : AreWellPlaced ps vs) where
  abbrev Near : ℕ → List ℕ → ℕ → Type 0
  Near block name m = IsNear ps looks home well.stand.items block name m

  abbrev Given : List ℕ → ℕ → Type 0
  Given name m = IsGiven ps looks home well.stand.items name m

  abbrev File : ℕ → Type 0
  File k = IsFileAt ps looks home well.stand.items k

  abbrev UnitOf : ℕ → Type 0
  UnitOf m = IsUnitOf ps looks home well.stand.items m

  abbrev Pooled : ℕ → Type 0
  Pooled m = IsPooled ps looks home well.stand.items m

  same : (k : ℕ) (p q : Phrase) → slice_get ps k ≡ Some p → slice_get ps k ≡ Some q → p ≡ q
  same k p q one other = same_phrase ps looks home well.stand.items k p q one other

  -- the owner of a declaration: the unit around an item, and a group itself
  item_owner : (k : ℕ) (a : Around) (node : Node) (owner : ℕ) (name : List ℕ) → keeps_own (storing ps vs (record { number = k; around = a; node = node }) node) ≡ true → declared_at k a node ≡ Some (key space.Declared owner name)
      → a.home ≡ owner
  unfolding declared_at
  item_owner k a (OfItem common item) owner name keeps declares = let inner : key space.Declared a.home item.name.name ≡ key space.Declared owner name = cc in ap (λ (q : Key). q.owner) inner
  item_owner k a other owner name keeps declares = absurd (cc)

  group_owner : (k : ℕ) (a : Around) (node : Node) (owner : ℕ) (name : List ℕ) → is_temporary node ≡ true → declared_at k a node ≡ Some (key space.Declared owner name) → k ≡ owner
  unfolding declared_at
  group_owner k a (OfTemporaryGroup labels variable) owner name is declares = let inner : key space.Declared k variable.name ≡ key space.Declared owner name = cc in ap (λ (q : Key). q.owner) inner
  group_owner k a other owner name is declares = absurd (cc)

  declares_there : (owner : ℕ) (name : List ℕ) (m : ℕ) (p : Phrase) → own ps (key space.Declared owner name) ≡ Some m → slice_get ps m ≡ Some p → declared_at p.number p.around p.node ≡ Some (key space.Declared owner name)
  declares_there owner name m p found there =
      let first = looks.found (key space.Declared owner name) m found in
      subst (λ (x : Phrase). declared_at x.number x.around x.node ≡ Some (key space.Declared owner name)) (same m first.declaring p first.there there) first.declares

  item_home : (owner : ℕ) (name : List ℕ) (m : ℕ) (p : Phrase) → own ps (key space.Declared owner name) ≡ Some m → slice_get ps m ≡ Some p → keeps_own (storing ps vs p p.node) ≡ true → p.around.home ≡ owner
  item_home owner name m p found there keeps = item_owner p.number p.around p.node owner name keeps (declares_there owner name m p found there)

  group_home : (owner : ℕ) (name : List ℕ) (m : ℕ) (p : Phrase) → own ps (key space.Declared owner name) ≡ Some m → slice_get ps m ≡ Some p → is_temporary p.node ≡ true → m ≡ owner
  group_home owner name m p found there is = sym (looks.counted m p there) ∙ group_owner p.number p.around p.node owner name is (declares_there owner name m p found there)

  -- no file is a group, and no COMPOOL
  no_file : (m : ℕ) (p : Phrase) → slice_get ps m ≡ Some p → is_temporary p.node ≡ true → File m → ⊥
  unfolding prefaces_of
  no_file m p there is file = by p.node is (ap (λ (x : Phrase). prefaces_of x.node) (same m p file.phrase there file.there) ∙ file.is) where
    by : (node : Node) → is_temporary node ≡ true → prefaces_of node ≡ Some file.prefaces → ⊥
    by (OfTemporaryGroup labels variable) so files = absurd (cc)
    by other so files = absurd (cc)

  no_pool : (m : ℕ) (p q : Phrase) → slice_get ps m ≡ Some p → slice_get ps m ≡ Some q → is_temporary p.node ≡ true → is_compool_unit q.node ≡ true → ⊥
  unfolding is_compool_unit
  no_pool m p q one other is pool = by p.node is (subst (λ (x : Phrase). is_compool_unit x.node ≡ true) (sym (same m p q one other)) pool) where
    by : (node : Node) → is_temporary node ≡ true → is_compool_unit node ≡ true → ⊥
    by (OfTemporaryGroup labels variable) so pools = absurd (cc)
    by other so pools = absurd (cc)

  -- no unit and no file stands in a group
  IsFileNode : Phrase → Type 0
  IsFileNode q = (prefaces : List Preface) × (prefaces_of q.node ≡ Some prefaces)

  no_unit : (node : Node) → is_temporary node ≡ true → is_unit node ≡ true → ⊥
  no_unit (OfTemporaryGroup labels variable) is unit = absurd (cc)
  no_unit other is unit = absurd (cc)

  group_itself : (m : ℕ) (p q : Phrase) → slice_get ps m ≡ Some p → is_temporary p.node ≡ true → slice_get ps m ≡ Some q → (is_unit q.node ≡ true) ⊎ IsFileNode q → ⊥
  unfolding IsFileNode
  group_itself m p q there is at (inl unit) = no_unit p.node is (subst (λ (x : Phrase). is_unit x.node ≡ true) (sym (same m p q there at)) unit)
  group_itself m p q there is at (inr file) = no_file m p there is (record { phrase = q; there = at; prefaces = file.0; is = file.1 })

  no_group : (m : ℕ) (p : Phrase) → slice_get ps m ≡ Some p → is_temporary p.node ≡ true → (b : ℕ) → Encloses ps m b → (q : Phrase) → slice_get ps b ≡ Some q → (is_unit q.node ≡ true) ⊎ IsFileNode q → ⊥
  unfolding IsFileNode
  no_group m p there is _ Itself q at outer = group_itself m p q there is at outer
  no_group m p there is b (Beyond k x at_x none rest) q at (inr file) =
      let alike = ap (λ (y : Phrase). prefaces_of y.node) (same k x q at_x at) in
      let some = file.1 in
      absurd (cc)
  no_group m p there is b (Beyond k x at_x none rest) q at (inl unit) =
      let alike = same k x q at_x at in
      let stands = (each_at (StandsPlaced ps) ps k x placed at_x).1 (subst (λ (y : Phrase). is_unit y.node ≡ true) (sym alike) unit) in
      by stands.direct stands.outer (no_group m p there is x.around.block rest)
    where
      by : x.around.block ≡ x.around.home → IsOuter ps x.around.home → ((g : Phrase) → slice_get ps x.around.block ≡ Some g → (is_unit g.node ≡ true) ⊎ IsFileNode g → ⊥) → ⊥
      by direct (IsUnit g at_g unit_g) further = further g (subst (λ n. slice_get ps n ≡ Some g) (sym direct) at_g) (inl unit_g)
      by direct (IsFile g prefaces at_g some) further = further g (subst (λ n. slice_get ps n ≡ Some g) (sym direct) at_g) (inr (prefaces, some))

  -- what a name means, and what that stands for
  record IsMeant (block : ℕ) (name : List ℕ) (m : ℕ) : Type 0 where
    declared : ℕ
    means_it : means ps block name ≡ Some declared
    stands : standing_for ps declared ≡ m

  meant_is : (block : ℕ) (name : List ℕ) (m : ℕ) → meant ps block name ≡ Some m → IsMeant block name m
  meant_is block name m is = by (means ps block name) refl is where
    by : (o : Option ℕ) → means ps block name ≡ o → elim o [ None ↦ None | Some k ↦ Some (standing_for ps k) ] ≡ Some m → IsMeant block name m
    by None found so = absurd (cc)
    by (Some k) found so = record { declared = k; means_it = found; stands = cc }

  -- in a unit, of which the block is one
  module _ (unit block : ℕ) (q : Phrase) (at_unit : slice_get ps unit ≡ Some q) (is_one : is_unit q.node ≡ true) (leads : LeadsHome ps unit block) where
    -- an item with own places is found around the block
    item_near : (name : List ℕ) (m : ℕ) (p : Phrase) → slice_get ps m ≡ Some p → keeps_own (storing ps vs p p.node) ≡ true → Near block name m ⊎ Given name m → Near block name m
    item_near name m p there keeps (inl near) = near
    item_near name m p there keeps (inr given) = by (included_is ps looks home well.stand.items given.prefaces name m given.is) where
      outside : IsOpenUnit ps p.around.home
      outside = well.outside m p there keeps

      by : UnitOf m ⊎ Pooled m → Near block name m
      by (inl one) = absurd (not_in_file ps looks home well.stand.items p.around.home p.around.home outside (subst File (sym (item_home one.owner one.name m p one.found there keeps)) one.file) Itself)
      by (inr pooled) =
          let owner = item_home pooled.pool pooled.name m p pooled.found there keeps in
          let phrases = same pooled.pool outside.phrase pooled.phrase (subst (λ n. slice_get ps n ≡ Some outside.phrase) owner outside.there) pooled.there in
          let isnt = outside.no_pool in
          let is = subst (λ (x : Phrase). is_compool_unit x.node ≡ true) (sym phrases) pooled.is in
          absurd (cc)

    -- a group around the block stands in the unit
    in_group : (m : ℕ) (p : Phrase) → slice_get ps m ≡ Some p → is_temporary p.node ≡ true → (b : ℕ) → LeadsHome ps unit b → Encloses ps m b → p.around.home ≡ unit
    in_group m p there is _ AtHome around = absurd (no_group m p there is unit around q at_unit (inl is_one))
    in_group m p there is _ (InGroup k g labels variable at_k node its rest) around = by (outward ps looks home well.stand.items m k g at_k around) (in_group m p there is g.around.block rest) where
      by : (m ≡ k) ⊎ Encloses ps m g.around.block → (Encloses ps m g.around.block → p.around.home ≡ unit) → p.around.home ≡ unit
      by (inl here) further = ap (λ (x : Phrase). x.around.home) (same k p g (subst (λ n. slice_get ps n ≡ Some p) here there) at_k) ∙ its
      by (inr beyond) further = further beyond

    temporary_home : (name : List ℕ) (m : ℕ) (p : Phrase) → slice_get ps m ≡ Some p → is_temporary p.node ≡ true → Near block name m ⊎ Given name m → p.around.home ≡ unit
    temporary_home name m p there is (inl near) =
        let owner = group_home near.owner name m p near.found there is in
        in_group m p there is block leads (subst (λ n. Encloses ps n block) (sym owner) near.around)
    temporary_home name m p there is (inr given) = by (included_is ps looks home well.stand.items given.prefaces name m given.is) where
      by : UnitOf m ⊎ Pooled m → p.around.home ≡ unit
      by (inl one) = absurd (no_file m p there is (subst File (sym (group_home one.owner one.name m p one.found there is)) one.file))
      by (inr pooled) =
          absurd (no_pool m p pooled.phrase there (subst (λ n. slice_get ps n ≡ Some pooled.phrase) (sym (group_home pooled.pool pooled.name m p pooled.found there is)) pooled.there) is pooled.is)

    found_so : (name : List ℕ) (m : ℕ) (p : Phrase) → meant ps block name ≡ Some m → slice_get ps m ≡ Some p → is_temporary p.node ≡ false → keeps_own (storing ps vs p p.node) ≡ true → Near block name m ⊎ Given name m
    found_so name m p is there isnt keeps =
        let one = meant_is block name m is in
        let has : has_own ps vs p ≡ true = ap (λ b. b || keeps_own (storing ps vs p p.node)) isnt ∙ keeps in
        let itself = well.stand.alone one.declared m p one.stands there has in
        subst (λ n. Near block name n ⊎ Given name n) itself (nearest_is ps looks home well.stand.items (length ps) block name one.declared one.means_it)

    module _ (k : ℕ) (process : is_among (processes_of ps) k ≡ true) (reach : reaches ps k unit ≡ true) where
      item_seen : (name : List ℕ) (m : ℕ) (p : Phrase) → slice_get ps m ≡ Some p → keeps_own (storing ps vs p p.node) ≡ true → Near block name m → reaches ps k p.around.home ≡ true
      item_seen name m p there keeps near =
          let outside = well.outside m p there keeps in
          let owner = item_home near.owner name m p near.found there keeps in
          let around = to_home ps looks home well.stand.items p.around.home unit block outside leads (subst (λ n. Encloses ps n block) (sym owner) near.around) in
          by (reaches_around ps looks home well.stand.items (unit_count ps) k unit p.around.home outside reach around)
        where
          by : (reaches_within (unit_count ps) ps k p.around.home ≡ true) ⊎ Encloses ps p.around.home k → reaches ps k p.around.home ≡ true
          by (inl so) = so
          by (inr beyond) = subst (λ n. reaches ps k n ≡ true) (sym (well.inner m p k there keeps process beyond)) (within_itself ps looks home well.stand.items (unit_count ps) k)

      -- an item that a name means there, with own places
      pub seen_item : (name : List ℕ) (m : ℕ) (p : Phrase) → meant ps block name ≡ Some m → slice_get ps m ≡ Some p → is_temporary p.node ≡ false → keeps_own (storing ps vs p p.node) ≡ true → reaches ps k p.around.home ≡ true
      seen_item name m p is there isnt keeps = item_seen name m p there keeps (item_near name m p there keeps (found_so name m p is there isnt keeps))

    -- it is the first declaration of its name in its unit
    pub seen_first : (name : List ℕ) (m : ℕ) (p : Phrase) → meant ps block name ≡ Some m → slice_get ps m ≡ Some p → is_temporary p.node ≡ false → keeps_own (storing ps vs p p.node) ≡ true
        → (q : Key) × (declared_at p.number p.around p.node ≡ Some q) × (own ps q ≡ Some m)
    seen_first name m p is there isnt keeps =
        let near = item_near name m p there keeps (found_so name m p is there isnt keeps) in
        (key space.Declared near.owner name, declares_there near.owner name m p near.found there, near.found)

    -- a TEMPORARY variable that a name means there
    pub seen_group : (name : List ℕ) (m : ℕ) (p : Phrase) → meant ps block name ≡ Some m → slice_get ps m ≡ Some p → is_temporary p.node ≡ true → p.around.home ≡ unit
    seen_group name m p is there group =
        let one = meant_is block name m is in
        let has : has_own ps vs p ≡ true = ap (λ b. b || keeps_own (storing ps vs p p.node)) group in
        let itself = well.stand.alone one.declared m p one.stands there has in
        temporary_home name m p there group (subst (λ n. Near block name n ⊎ Given name n) itself (nearest_is ps looks home well.stand.items (length ps) block name one.declared one.means_it))
