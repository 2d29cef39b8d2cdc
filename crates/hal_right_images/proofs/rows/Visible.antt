-- A unit that reaches another one reaches what stands around it, or stands there itself.
use Rattle.std.specs.Prelude.{◌≡◌, ◌⊎◌, ℕ, zero, suc, ◌==◌, Bool, true, false, ◌||◌, List, [], ◌∷◌, Option, Some, None, slice_get, bytes_eq, length, if◌then◌else◌}
use Rattle.std.specs.List.{list_any}
use Rattle.std.specs.Option.{option_and_then, option_or}
use Rattle.std.proofs.Common.{refl, sym, ap, subst, ◌∙◌, inl, inr}
use Rattle.std.proofs.lemmas.Bool.{eqb-true, eq-eqb, or_left, or_right}
use Rattle.hal_grammar.specs.Leaves.{Naming}
use Rattle.hal_grammar.specs.Expressions.{Refers}
use Rattle.hal_grammar.specs.Units.{Preface, Include, Templates}
use Rattle.hal_phrases.specs.declared.around.Around.{Around}
use Rattle.hal_phrases.specs.Phrases.{Node, Phrase, OfFile, OfTemplate, OfUnit, OfParameter, OfItem, OfStructure, OfPart, OfLabel, OfTemporaryGroup, OfCallForm, OfReference, OfSubscriptName, OfCall}
use Rattle.hal_names.specs.declared.key.Key.{Key}
use Rattle.hal_names.specs.declared.key.Space.TheVariants as space
use Rattle.hal_names.specs.Laws.{IsFirst}
use Rattle.hal_names.specs.Keys.{key, declared_at, own, same_space}
use Rattle.hal_names.specs.Means.{is_compool_unit, unit_named, given_by, shown, shown_by, included, prefaces_of, nearest, means}
use Rattle.hal_scope.specs.Sorts.{used, use_of_reference}
use Rattle.hal_meaning.specs.Bodies.{meant_at, standing_for, meant, is_called, is_unit, called_block, callee_at, callee, callees, reaches_within}
use Rattle.hal_reach.specs.Places.{is_among}
use Rattle.hal_fit_calls.specs.Each.{Each}
use Rattle.hal_fit_layout.proofs.Called.{from_member}
use Rattle.hal_right_images.specs.rows.Homes.{LeadsHome, AtHome, InGroup, StandsHome, Encloses, Itself, Beyond, IsOpenUnit, ItemsStandForData}
use Rattle.hal_right_images.proofs.rows.Calling.{placed}
use Rattle.hal_right_images.proofs.rows.LookingUp.{LooksUp}
use Rattle.hal_right_images.proofs.rows.Stored.{each_at}

either_or : {X : Type 0} (one other : Option X) (x : X) → option_or one other ≡ Some x → (one ≡ Some x) ⊎ (other ≡ Some x)
either_or None other x is = inr is
either_or (Some y) other x is = inl is

then_some : {X Y : Type 0} (f : X → Option Y) (o : Option X) (y : Y) → option_and_then f o ≡ Some y → (x : X) × (o ≡ Some x) × (f x ≡ Some y)
then_some f None y is = absurd (cc)
then_some f (Some x) y is = (x, refl, is)

module _ (ps : List Phrase) (looks : LooksUp ps) (home : Each (StandsHome ps) ps) (items : ItemsStandForData ps) where
  pub same_phrase : (k : ℕ) (p q : Phrase) → slice_get ps k ≡ Some p → slice_get ps k ≡ Some q → p ≡ q
  same_phrase k p q one other = let both : Some p ≡ Some q = sym one ∙ other in cc

  around_both : (a b c : ℕ) → Encloses ps a b → Encloses ps b c → Encloses ps a c
  around_both a b _ first Itself = first
  around_both a b _ first (Beyond k p there none rest) = Beyond k p there none (around_both a b p.around.block first rest)

  pub outward : (unit k : ℕ) (p : Phrase) → slice_get ps k ≡ Some p → Encloses ps unit k → (unit ≡ k) ⊎ Encloses ps unit p.around.block
  outward unit _ p there Itself = inl refl
  outward unit _ p there (Beyond k q at none rest) = inr (subst (λ (x : Phrase). Encloses ps unit x.around.block) (same_phrase k q p at there) rest)

  -- a file
  pub record IsFileAt (k : ℕ) : Type 0 where
    pub phrase : Phrase
    pub there : slice_get ps k ≡ Some phrase
    pub prefaces : List Preface
    pub is : prefaces_of phrase.node ≡ Some prefaces

  unit_no_file : (node : Node) → is_unit node ≡ true → prefaces_of node ≡ None
  unfolding prefaces_of
  unit_no_file (OfUnit name head declarations) is = refl
  unit_no_file other is = absurd (cc)

  pub not_in_file : (unit k : ℕ) → IsOpenUnit ps unit → IsFileAt k → Encloses ps unit k → ⊥
  not_in_file unit _ one file Itself =
      let same = same_phrase unit one.phrase file.phrase one.there file.there in
      let none = unit_no_file one.phrase.node one.is in
      let so : prefaces_of one.phrase.node ≡ Some file.prefaces = ap (λ (x : Phrase). prefaces_of x.node) same ∙ file.is in
      absurd (cc)
  not_in_file unit _ one file (Beyond k q at none rest) =
      let same = same_phrase k q file.phrase at file.there in
      let so : prefaces_of q.node ≡ Some file.prefaces = ap (λ (x : Phrase). prefaces_of x.node) same ∙ file.is in
      absurd (cc)

  group_no_unit : (node : Node) (labels : List Naming) (variable : Naming) → node ≡ OfTemporaryGroup labels variable → is_unit node ≡ true → ⊥
  group_no_unit node labels variable is unit = let so : is_unit (OfTemporaryGroup labels variable) ≡ true = ap is_unit (sym is) ∙ unit in absurd (cc)

  -- what stands around a block of a unit stands around the unit
  pub to_home : (unit own_home block : ℕ) → IsOpenUnit ps unit → LeadsHome ps own_home block → Encloses ps unit block → Encloses ps unit own_home
  to_home unit own_home _ one AtHome around = around
  to_home unit own_home _ one (InGroup k p labels variable there node its rest) around = by (outward unit k p there around) (to_home unit own_home p.around.block one rest) where
    by : (unit ≡ k) ⊎ Encloses ps unit p.around.block → (Encloses ps unit p.around.block → Encloses ps unit own_home) → Encloses ps unit own_home
    by (inl same) further =
        let phrase = same_phrase k one.phrase p (subst (λ n. slice_get ps n ≡ Some one.phrase) same one.there) there in
        absurd (group_no_unit p.node labels variable node (subst (λ (x : Phrase). is_unit x.node ≡ true) phrase one.is))
    by (inr later) further = further later

  pub stands : (k : ℕ) (p : Phrase) → slice_get ps k ≡ Some p → StandsHome ps p
  stands k p there = each_at (StandsHome ps) ps k p home there

  -- how a name is found
  pub record IsGiven (name : List ℕ) (m : ℕ) : Type 0 where
    pub prefaces : List Preface
    pub is : included ps prefaces name ≡ Some m

  pub record IsNear (block : ℕ) (name : List ℕ) (m : ℕ) : Type 0 where
    pub owner : ℕ
    pub around : Encloses ps owner block
    pub found : own ps (key space.Declared owner name) ≡ Some m

  abbrev outer_search : ℕ → ℕ → List ℕ → Option ℕ
  outer_search n block name = elim (slice_get ps block) [
    | None ↦ None
    | Some p ↦ elim (prefaces_of p.node) [ None ↦ nearest ps n p.around.block name | Some prefaces ↦ included ps prefaces name ]
  ]

  pub nearest_is : (n block : ℕ) (name : List ℕ) (m : ℕ) → nearest ps n block name ≡ Some m → IsNear block name m ⊎ IsGiven name m
  unfolding nearest
  nearest_is zero block name m is = absurd (cc)
  nearest_is (suc n) block name m is = by (either_or (own ps (key space.Declared block name)) (outer_search n block name) m is) (λ outer so. nearest_is n outer name m so) where
    in_phrase : (p : Phrase) → slice_get ps block ≡ Some p → (o : Option (List Preface)) → prefaces_of p.node ≡ o → elim o [ None ↦ nearest ps n p.around.block name | Some prefaces ↦ included ps prefaces name ] ≡ Some m
        → ((outer : ℕ) → nearest ps n outer name ≡ Some m → IsNear outer name m ⊎ IsGiven name m) → IsNear block name m ⊎ IsGiven name m
    in_phrase p there None none found further = next (further p.around.block found) where
      next : IsNear p.around.block name m ⊎ IsGiven name m → IsNear block name m ⊎ IsGiven name m
      next (inl near) = inl (record { owner = near.owner; around = Beyond block p there none near.around; found = near.found })
      next (inr given) = inr given
    in_phrase p there (Some prefaces) some found further = inr (record { prefaces = prefaces; is = found })

    at_block : (o : Option Phrase) → slice_get ps block ≡ o → elim o [
      | None ↦ None
      | Some p ↦ elim (prefaces_of p.node) [ None ↦ nearest ps n p.around.block name | Some prefaces ↦ included ps prefaces name ]
    ] ≡ Some m → ((outer : ℕ) → nearest ps n outer name ≡ Some m → IsNear outer name m ⊎ IsGiven name m) → IsNear block name m ⊎ IsGiven name m
    at_block None there found further = absurd (cc)
    at_block (Some p) there found further = in_phrase p there (prefaces_of p.node) refl found further

    by : (own ps (key space.Declared block name) ≡ Some m) ⊎ (outer_search n block name ≡ Some m) → ((outer : ℕ) → nearest ps n outer name ≡ Some m → IsNear outer name m ⊎ IsGiven name m) → IsNear block name m ⊎ IsGiven name m
    by (inl found) further = inl (record { owner = block; around = Itself; found = found })
    by (inr later) further = at_block (slice_get ps block) refl later further

  -- the unit of a file is declared in a file
  pub record IsUnitOf (m : ℕ) : Type 0 where
    pub owner : ℕ
    pub name : List ℕ
    pub found : own ps (key space.Declared owner name) ≡ Some m
    pub file : IsFileAt owner

  abbrev is_of_file : Option Key → Bool
  is_of_file o = elim o [ None ↦ false | Some q ↦ same_space space.Unit q.space ]

  file_key : (k : ℕ) (a : Around) (node : Node) (name : List ℕ) → declared_at k a node ≡ Some (key space.Unit 0 name) → (prefaces : List Preface) × (prefaces_of node ≡ Some prefaces)
  unfolding declared_at prefaces_of same_space
  file_key k a (OfFile prefaces own_name) name is = (prefaces, refl)
  file_key k a (OfTemplate own_name head declarations) name is = let so = ap is_of_file is in absurd (cc)
  file_key k a (OfUnit own_name head declarations) name is = let so = ap is_of_file is in absurd (cc)
  file_key k a (OfParameter own_name output) name is = let so = ap is_of_file is in absurd (cc)
  file_key k a (OfItem common item) name is = let so = ap is_of_file is in absurd (cc)
  file_key k a (OfStructure own_name parts) name is = let so = ap is_of_file is in absurd (cc)
  file_key k a (OfPart bottom part) name is = let so = ap is_of_file is in absurd (cc)
  file_key k a (OfLabel own_name) name is = let so = ap is_of_file is in absurd (cc)
  file_key k a (OfTemporaryGroup labels variable) name is = let so = ap is_of_file is in absurd (cc)
  file_key k a other name is = absurd (cc)

  unit_file : (unit : List ℕ) (m : ℕ) → unit_named ps unit ≡ Some m → IsUnitOf m
  unfolding unit_named
  unit_file unit m is =
      let found = then_some (λ f. own ps (key space.Declared f unit)) (own ps (key space.Unit 0 unit)) m is in
      let first = looks.found (key space.Unit 0 unit) found.0 found.1 in
      let file = file_key first.declaring.number first.declaring.around first.declaring.node unit first.declares in
      record { owner = found.0; name = unit; found = found.2; file = record { phrase = first.declaring; there = first.there; prefaces = file.0; is = file.1 } }

  -- a unit that a block declares has it as its home
  unit_home : (k : ℕ) (a : Around) (node : Node) (owner : ℕ) (name : List ℕ) → is_unit node ≡ true → declared_at k a node ≡ Some (key space.Declared owner name) → a.home ≡ owner
  unfolding declared_at
  unit_home k a (OfUnit own_name head declarations) owner name is declares =
      let inner : key space.Declared a.home own_name.name ≡ key space.Declared owner name = cc in
      ap (λ (q : Key). q.owner) inner
  unit_home k a other owner name is declares = absurd (cc)

  called_unit : (node : Node) → is_called node ≡ true → is_unit node ≡ true
  called_unit (OfUnit name head declarations) is = refl
  called_unit other is = absurd (cc)

  pool_unit : (node : Node) → is_compool_unit node ≡ true → is_unit node ≡ true
  unfolding is_compool_unit
  pool_unit (OfUnit name head declarations) is = refl
  pool_unit other is = absurd (cc)

  pub declared_home : (owner : ℕ) (name : List ℕ) (m : ℕ) (c : Phrase) → own ps (key space.Declared owner name) ≡ Some m → slice_get ps m ≡ Some c → is_unit c.node ≡ true → c.around.home ≡ owner
  declared_home owner name m c found there is =
      let first = looks.found (key space.Declared owner name) m found in
      let same = same_phrase m first.declaring c first.there there in
      unit_home c.number c.around c.node owner name is (subst (λ (x : Phrase). declared_at x.number x.around x.node ≡ Some (key space.Declared owner name)) same first.declares)

  -- the unit of a file stands in a file
  file_home : (m : ℕ) (c : Phrase) → IsUnitOf m → slice_get ps m ≡ Some c → is_unit c.node ≡ true → IsFileAt c.around.home
  file_home m c one there is = subst IsFileAt (sym (declared_home one.owner one.name m c one.found there is)) one.file

  -- where a block stands that is called by what a block declares
  standing_by : (m : ℕ) (d : Phrase) → slice_get ps m ≡ Some d → (o : Option ℕ) → meant_at ps d d.node ≡ o → standing_for ps m ≡ elim o [ None ↦ m | Some other ↦ other ]
  standing_by m d there o is =
      ap (λ (x : Option Phrase). elim (option_and_then (λ (p : Phrase). meant_at ps p p.node) x) [ None ↦ m | Some other ↦ other ]) there ∙ ap (λ (x : Option ℕ). elim x [ None ↦ m | Some other ↦ other ]) is

  itself_called : (owner : ℕ) (name : List ℕ) (m : ℕ) (d c : Phrase) → own ps (key space.Declared owner name) ≡ Some m → slice_get ps m ≡ Some d → meant_at ps d d.node ≡ None → slice_get ps (standing_for ps m) ≡ Some c → is_called c.node ≡ true
      → (c.around.home ≡ owner) ⊎ IsFileAt c.around.home
  itself_called owner name m d c found there none at called =
      let here : slice_get ps m ≡ Some c = sym (ap (slice_get ps) (standing_by m d there None none)) ∙ at in
      inl (declared_home owner name m c found here (called_unit c.node called))

  called_home : (owner : ℕ) (name : List ℕ) (m : ℕ) (c : Phrase) → own ps (key space.Declared owner name) ≡ Some m → slice_get ps (standing_for ps m) ≡ Some c → is_called c.node ≡ true → (c.around.home ≡ owner) ⊎ IsFileAt c.around.home
  called_home owner name m c found at called = by first.declaring first.there first.declaring.node refl where
    first : IsFirst ps (key space.Declared owner name) m
    first = looks.found (key space.Declared owner name) m found

    by : (d : Phrase) → slice_get ps m ≡ Some d → (node : Node) → d.node ≡ node → (c.around.home ≡ owner) ⊎ IsFileAt c.around.home
    by d there (OfTemplate own_name head declarations) is = of_template (unit_named ps own_name.name) refl where
      of_template : (o : Option ℕ) → unit_named ps own_name.name ≡ o → (c.around.home ≡ owner) ⊎ IsFileAt c.around.home
      of_template None none = itself_called owner name m d c found there (ap (meant_at ps d) is ∙ none) at called
      of_template (Some u) unit =
          let here : slice_get ps u ≡ Some c = sym (ap (slice_get ps) (standing_by m d there (Some u) (ap (meant_at ps d) is ∙ unit))) ∙ at in
          inr (file_home u c (unit_file own_name.name u unit) here (called_unit c.node called))
    by d there (OfItem common item) is = absurd (items m d common item c there is at called)
    by d there other is = itself_called owner name m d c found there (ap (meant_at ps d) is) at called

  -- what an INCLUDE gives
  pub record IsPooled (m : ℕ) : Type 0 where
    pub pool : ℕ
    pub phrase : Phrase
    pub there : slice_get ps pool ≡ Some phrase
    pub is : is_compool_unit phrase.node ≡ true
    pub name : List ℕ
    pub found : own ps (key space.Declared pool name) ≡ Some m
    pub unit : IsUnitOf pool

  pooled_is : (u : ℕ) (name : List ℕ) (m : ℕ) → IsUnitOf u → given_by ps u name ≡ Some m → IsPooled m
  unfolding given_by
  pooled_is u name m unit is =
      let found = then_some (λ (p : Phrase). if is_compool_unit p.node then own ps (key space.Declared u name) else None) (slice_get ps u) m is in
      by found.0 found.1 (is_compool_unit found.0.node) refl found.2
    where
      by : (p : Phrase) → slice_get ps u ≡ Some p → (b : Bool) → is_compool_unit p.node ≡ b → (if b then own ps (key space.Declared u name) else None) ≡ Some m → IsPooled m
      by p there true pool found = record { pool = u; phrase = p; there = there; is = pool; name = name; found = found; unit = unit }
      by p there false pool found = absurd (cc)

  shown_is : (unit name : List ℕ) (m : ℕ) → shown ps unit name ≡ Some m → IsUnitOf m ⊎ IsPooled m
  unfolding shown
  shown_is unit name m is =
      let found = then_some (λ u. if bytes_eq unit name then Some u else given_by ps u name) (unit_named ps unit) m is in
      by found.0 (unit_file unit found.0 found.1) (bytes_eq unit name) found.2
    where
      by : (u : ℕ) → IsUnitOf u → (b : Bool) → (if b then Some u else given_by ps u name) ≡ Some m → IsUnitOf m ⊎ IsPooled m
      by u one true same = inl (subst IsUnitOf (let here : u ≡ m = cc in here) one)
      by u one false given = inr (pooled_is u name m one given)

  pub included_is : (prefaces : List Preface) (name : List ℕ) (m : ℕ) → included ps prefaces name ≡ Some m → IsUnitOf m ⊎ IsPooled m
  unfolding included shown_by
  included_is [] name m is = absurd (cc)
  included_is (Include place unit ∷ prefaces) name m is = by (either_or (shown ps unit.name name) (included ps prefaces name) m is) (included_is prefaces name m) where
    by : (shown ps unit.name name ≡ Some m) ⊎ (included ps prefaces name ≡ Some m) → (included ps prefaces name ≡ Some m → IsUnitOf m ⊎ IsPooled m) → IsUnitOf m ⊎ IsPooled m
    by (inl one) later = shown_is unit.name name m one
    by (inr others) later = later others
  included_is (Templates template ∷ prefaces) name m is = included_is prefaces name m is

  -- the name by which a phrase calls
  callee_name : (block : ℕ) (node : Node) (q : ℕ) → callee_at ps block node ≡ Some q → (name : List ℕ) × (called_block ps (meant ps block name) ≡ Some q)
  unfolding used use_of_reference
  callee_name block (OfCall name arguments receivers) q is = (name.name, is)
  callee_name block (OfCallForm place name arguments) q is = (name, is)
  callee_name block (OfReference role (Refers place name further subscript)) q is = (name, is)
  callee_name block (OfSubscriptName name) q is = (name.name, is)
  callee_name block other q is = absurd (cc)

  record IsCalledBy (block q : ℕ) : Type 0 where
    name : List ℕ
    m : ℕ
    means_it : means ps block name ≡ Some m
    standing : standing_for ps m ≡ q
    phrase : Phrase
    there : slice_get ps q ≡ Some phrase
    called : is_called phrase.node ≡ true

  called_by : (block : ℕ) (name : List ℕ) (q : ℕ) → called_block ps (meant ps block name) ≡ Some q → IsCalledBy block q
  called_by block name q is =
      let found = then_some (λ (c : Phrase). if is_called c.node then Some c.number else None) (option_and_then (slice_get ps) (meant ps block name)) q is in
      let at = then_some (slice_get ps) (meant ps block name) found.0 found.1 in
      by found.0 at.0 at.2 (is_called found.0.node) refl found.2 (means ps block name) refl at.1
    where
      by : (c : Phrase) (k : ℕ) → slice_get ps k ≡ Some c → (b : Bool) → is_called c.node ≡ b → (if b then Some c.number else None) ≡ Some q → (o : Option ℕ) → means ps block name ≡ o
          → elim o [ None ↦ None | Some x ↦ Some (standing_for ps x) ] ≡ Some k → IsCalledBy block q
      by c k there false isnt same o meant_so standing = absurd (cc)
      by c k there true called same None none standing = absurd (cc)
      by c k there true called same (Some m) meant_so standing =
          let number : c.number ≡ q = cc in
          let place : k ≡ q = sym (looks.counted k c there) ∙ number in
          let stands_so : standing_for ps m ≡ k = cc in
          record { name = name; m = m; means_it = meant_so; standing = stands_so ∙ place; phrase = c; there = subst (λ n. slice_get ps n ≡ Some c) place there; called = called }

  -- a unit that stands around one that is called stands around the block that calls
  around_call : (unit block q : ℕ) → IsOpenUnit ps unit → IsCalledBy block q → Encloses ps unit q → (unit ≡ q) ⊎ Encloses ps unit block
  around_call unit block q one call around = by (outward unit q call.phrase call.there around) where
    c : Phrase
    c = call.phrase

    at : slice_get ps (standing_for ps call.m) ≡ Some c
    at = ap (slice_get ps) call.standing ∙ call.there

    no_file : IsFileAt c.around.home → Encloses ps unit c.around.home → ⊥
    no_file file around_home = not_in_file unit c.around.home one file around_home

    in_pool : (pooled : IsPooled call.m) → c.around.home ≡ pooled.pool → Encloses ps unit c.around.home → ⊥
    in_pool pooled same around_home = of_pool (outward unit pooled.pool pooled.phrase pooled.there (subst (Encloses ps unit) same around_home)) where
      of_pool : (unit ≡ pooled.pool) ⊎ Encloses ps unit pooled.phrase.around.block → ⊥
      of_pool (inl itself) =
          let both = same_phrase pooled.pool one.phrase pooled.phrase (subst (λ n. slice_get ps n ≡ Some one.phrase) itself one.there) pooled.there in
          let isnt = subst (λ (x : Phrase). is_compool_unit x.node ≡ false) both one.no_pool in
          let is = pooled.is in
          absurd (cc)
      of_pool (inr beyond) =
          not_in_file unit pooled.phrase.around.home one (file_home pooled.pool pooled.phrase pooled.unit pooled.there (pool_unit pooled.phrase.node pooled.is))
          (to_home unit pooled.phrase.around.home pooled.phrase.around.block one (stands pooled.pool pooled.phrase pooled.there) beyond)

    near : Encloses ps unit c.around.home → IsNear block call.name call.m → (unit ≡ q) ⊎ Encloses ps unit block
    near around_home found = choose (called_home found.owner call.name call.m c found.found at call.called) where
      choose : (c.around.home ≡ found.owner) ⊎ IsFileAt c.around.home → (unit ≡ q) ⊎ Encloses ps unit block
      choose (inl same) = inr (around_both unit found.owner block (subst (Encloses ps unit) same around_home) found.around)
      choose (inr file) = absurd (no_file file around_home)

    given : Encloses ps unit c.around.home → IsUnitOf call.m ⊎ IsPooled call.m → (unit ≡ q) ⊎ Encloses ps unit block
    given around_home (inl unit_of) = choose (called_home unit_of.owner unit_of.name call.m c unit_of.found at call.called) where
      choose : (c.around.home ≡ unit_of.owner) ⊎ IsFileAt c.around.home → (unit ≡ q) ⊎ Encloses ps unit block
      choose (inl same) = absurd (no_file (subst IsFileAt (sym same) unit_of.file) around_home)
      choose (inr file) = absurd (no_file file around_home)
    given around_home (inr pooled) = choose (called_home pooled.pool pooled.name call.m c pooled.found at call.called) where
      choose : (c.around.home ≡ pooled.pool) ⊎ IsFileAt c.around.home → (unit ≡ q) ⊎ Encloses ps unit block
      choose (inl same) = absurd (in_pool pooled same around_home)
      choose (inr file) = absurd (no_file file around_home)

    search : Encloses ps unit c.around.home → IsNear block call.name call.m ⊎ IsGiven call.name call.m → (unit ≡ q) ⊎ Encloses ps unit block
    search around_home (inl found) = near around_home found
    search around_home (inr found) = given around_home (included_is found.prefaces call.name call.m found.is)

    by : (unit ≡ q) ⊎ Encloses ps unit c.around.block → (unit ≡ q) ⊎ Encloses ps unit block
    by (inl same) = inl same
    by (inr beyond) = search (to_home unit c.around.home c.around.block one (stands q c call.there) beyond) (nearest_is (length ps) block call.name call.m call.means_it)

  -- and around the unit that calls
  record IsCallOf (from q : ℕ) : Type 0 where
    place : ℕ
    phrase : Phrase
    there : slice_get ps place ≡ Some phrase
    home_is : phrase.around.home ≡ from
    calls : callee ps phrase ≡ Some q

  call_is : (from q : ℕ) → is_among (callees ps from) q ≡ true → IsCallOf from q
  call_is from q has =
      let at = placed (callees ps from) q has in
      let found = from_member (λ (p : Phrase). if p.around.home == from then callee ps p else None) ps at.0 q at.1 in
      by found.member found.place found.there (found.member.around.home == from) refl found.gives
    where
      by : (p : Phrase) (k : ℕ) → slice_get ps k ≡ Some p → (b : Bool) → (p.around.home == from) ≡ b → (if b then callee ps p else None) ≡ Some q → IsCallOf from q
      by p k there true same calls = record { place = k; phrase = p; there = there; home_is = eqb-true p.around.home from same; calls = calls }
      by p k there false other calls = absurd (cc)

  around_caller : (unit from q : ℕ) → IsOpenUnit ps unit → is_among (callees ps from) q ≡ true → Encloses ps unit q → (unit ≡ q) ⊎ Encloses ps unit from
  around_caller unit from q one has around =
      let call = call_is from q has in
      let name = callee_name call.phrase.around.block call.phrase.node q call.calls in
      by call (around_call unit call.phrase.around.block q one (called_by call.phrase.around.block name.0 q name.1) around)
    where
      by : (call : IsCallOf from q) → (unit ≡ q) ⊎ Encloses ps unit call.phrase.around.block → (unit ≡ q) ⊎ Encloses ps unit from
      by call (inl same) = inl same
      by call (inr beyond) =
          inr (subst (Encloses ps unit) call.home_is (to_home unit call.phrase.around.home call.phrase.around.block one (stands call.place call.phrase call.there) beyond))

  -- some that passes a test
  one_passes : (test : ℕ → Bool) (ns : List ℕ) → list_any test ns ≡ true → (q : ℕ) × (is_among ns q ≡ true) × (test q ≡ true)
  one_passes test [] any = absurd (cc)
  one_passes test (n ∷ ns) any = by (test n) refl any (one_passes test ns) where
    by : (b : Bool) → test n ≡ b → (b || list_any test ns) ≡ true → (list_any test ns ≡ true → (q : ℕ) × (is_among ns q ≡ true) × (test q ≡ true)) → (q : ℕ) × (is_among (n ∷ ns) q ≡ true) × (test q ≡ true)
    by true so any later = (n, or_left (n == n) (is_among ns n) (eq-eqb n n refl), so)
    by false isnt any later = let found = later any in (found.0, or_right (n == found.0) (is_among ns found.0) found.1, found.2)

  any_passes : (test : ℕ → Bool) (ns : List ℕ) (q : ℕ) → is_among ns q ≡ true → test q ≡ true → list_any test ns ≡ true
  any_passes test [] q has so = absurd (cc)
  any_passes test (n ∷ ns) q has so = by (n == q) refl has (any_passes test ns q) where
    by : (b : Bool) → (n == q) ≡ b → (b || is_among ns q) ≡ true → (is_among ns q ≡ true → test q ≡ true → list_any test ns ≡ true) → (test n || list_any test ns) ≡ true
    by true same any later = or_left (test n) (list_any test ns) (subst (λ k. test k ≡ true) (sym (eqb-true n q same)) so)
    by false other any later = or_right (test n) (list_any test ns) (later any so)

  pub within_itself : (n q : ℕ) → reaches_within n ps q q ≡ true
  within_itself zero q = eq-eqb q q refl
  within_itself (suc n) q = or_left (q == q) (list_any (λ k. reaches_within n ps k q) (callees ps q)) (eq-eqb q q refl)

  pub reaches_around : (n from to unit : ℕ) → IsOpenUnit ps unit → reaches_within n ps from to ≡ true → Encloses ps unit to → (reaches_within n ps from unit ≡ true) ⊎ Encloses ps unit from
  reaches_around zero from to unit one reaches around = inr (subst (Encloses ps unit) (sym (eqb-true from to reaches)) around)
  reaches_around (suc n) from to unit one reaches around = by (from == to) refl reaches (λ q so. reaches_around n q to unit one so around) where
    next : (q : ℕ) → is_among (callees ps from) q ≡ true → (reaches_within n ps q unit ≡ true) ⊎ Encloses ps unit q → (reaches_within (suc n) ps from unit ≡ true) ⊎ Encloses ps unit from
    next q has (inl so) = inl (or_right (from == unit) (list_any (λ k. reaches_within n ps k unit) (callees ps from)) (any_passes (λ k. reaches_within n ps k unit) (callees ps from) q has so))
    next q has (inr beyond) = choose (around_caller unit from q one has beyond) where
      choose : (unit ≡ q) ⊎ Encloses ps unit from → (reaches_within (suc n) ps from unit ≡ true) ⊎ Encloses ps unit from
      choose (inl same) =
          inl (or_right (from == unit) (list_any (λ k. reaches_within n ps k unit) (callees ps from))
          (any_passes (λ k. reaches_within n ps k unit) (callees ps from) q has (subst (λ k. reaches_within n ps q k ≡ true) (sym same) (within_itself n q))))
      choose (inr more) = inr more

    by : (b : Bool) → (from == to) ≡ b → (b || list_any (λ q. reaches_within n ps q to) (callees ps from)) ≡ true
        → ((q : ℕ) → reaches_within n ps q to ≡ true → (reaches_within n ps q unit ≡ true) ⊎ Encloses ps unit q) → (reaches_within (suc n) ps from unit ≡ true) ⊎ Encloses ps unit from
    by true same any further = inr (subst (Encloses ps unit) (sym (eqb-true from to same)) around)
    by false other any further = let found = one_passes (λ q. reaches_within n ps q to) (callees ps from) any in next found.0 found.1 (further found.0 found.2)
