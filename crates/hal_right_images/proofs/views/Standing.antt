-- Declarations of templates stand for no data with own places, and items of templates for no blocks.
use Rattle.std.specs.Prelude.{◌≡◌, ◌⊎◌, ◌||◌, ℕ, Bool, true, false, List, Option, Some, None, slice_get}
use Rattle.std.specs.Option.{option_and_then}
use Rattle.std.proofs.Common.{refl, sym, ap, ◌∙◌, inl, inr}
use Rattle.hal_grammar.specs.Leaves.{Naming}
use Rattle.hal_grammar.specs.Units.{Preface, File}
use Rattle.hal_phrases.specs.declared.around.Around.{Around}
use Rattle.hal_phrases.specs.Phrases.{Node, Phrase, OfFile, OfTemplate, OfUnit, OfItem, OfTemporaryGroup}
use Rattle.hal_phrases.specs.GatheredUnits.{phrases_of}
use Rattle.hal_names.specs.declared.key.Key.{Key}
use Rattle.hal_names.specs.declared.key.Space.TheVariants as space
use Rattle.hal_names.specs.Keys.{key, declared_at, declared_by, own}
use Rattle.hal_names.specs.Means.{is_compool_unit, unit_named}
use Rattle.hal_scope.specs.Rules.{IsSound, rows}
use Rattle.hal_constants.specs.Known.{Known}
use Rattle.hal_types.specs.Rules.{type_rows}
use Rattle.hal_meaning.specs.Bodies.{is_called, is_unit, meant_at, pool_of, pooled, pooled_at, standing_for}
use Rattle.hal_meaning.specs.Places.{storing}
use Rattle.hal_right_images.specs.rows.Homes.{ItemsStandForData}
use Rattle.hal_right_images.proofs.rows.LookingUp.{LooksUp}
use Rattle.hal_right_images.specs.views.Placed.{PoolsHoldNoUnits, PoolsMatch, has_own, is_temporary, keeps_own}
use Rattle.hal_right_images.proofs.views.Outside.{stands_outside}

-- a group with a TEMPORARY variable, or a unit that is no COMPOOL
Owns : Node → Type 0
Owns node = (is_temporary node ≡ true) ⊎ ((is_unit node ≡ true) × (is_compool_unit node ≡ false))

-- is no file
no_file : (k : ℕ) (a : Around) (node : Node) (name : List ℕ) → declared_at k a node ≡ Some (key space.Unit 0 name) → Owns node → ⊥
unfolding declared_at Owns
no_file k a (OfTemporaryGroup labels variable) name declares owns = let inner : key space.Declared k variable.name ≡ key space.Unit 0 name = cc in let spaces = ap (λ (x : Key). x.space) inner in absurd (cc)
no_file k a (OfUnit own_name head declarations) name declares owns = let inner : key space.Declared a.home own_name.name ≡ key space.Unit 0 name = cc in let spaces = ap (λ (x : Key). x.space) inner in absurd (cc)
no_file k a other name declares (inl is) = absurd (cc)
no_file k a other name declares (inr both) = let is = both.0 in absurd (cc)

group_key : (k owner : ℕ) (a : Around) (node : Node) (name : List ℕ) → is_temporary node ≡ true → declared_at k a node ≡ Some (key space.Declared owner name) → k ≡ owner
unfolding declared_at
group_key k owner a (OfTemporaryGroup labels variable) name is declares = let inner : key space.Declared k variable.name ≡ key space.Declared owner name = cc in ap (λ (x : Key). x.owner) inner
group_key k owner a other name is declares = absurd (cc)

item_key : (ps : List Phrase) (vs : Known) (p : Phrase) (owner : ℕ) (node : Node) (name : List ℕ) → keeps_own (storing ps vs p node) ≡ true → declared_at p.number p.around node ≡ Some (key space.Declared owner name) → p.around.home ≡ owner
unfolding declared_at
item_key ps vs p owner (OfItem common item) name keeps declares = let inner : key space.Declared p.around.home item.name.name ≡ key space.Declared owner name = cc in ap (λ (x : Key). x.owner) inner
item_key ps vs p owner other name keeps declares = absurd (cc)

then_some : {X Y : Type 0} (f : X → Option Y) (o : Option X) (y : Y) → option_and_then f o ≡ Some y → (x : X) × (o ≡ Some x) × (f x ≡ Some y)
then_some f None y is = absurd (cc)
then_some f (Some x) y is = (x, refl, is)

module _ (files : List File) (looks : LooksUp (phrases_of files)) (sound : IsSound rows (phrases_of files)) (typed : IsSound type_rows (phrases_of files)) (pools : PoolsMatch (phrases_of files)) (vs : Known) where
  abbrev ps : List Phrase
  ps = phrases_of files

  same_one : (k : ℕ) (p q : Phrase) → slice_get ps k ≡ Some p → slice_get ps k ≡ Some q → p ≡ q
  same_one k p q one other = let both : Some p ≡ Some q = sym one ∙ other in cc

  -- what owns the name of data with own places
  owner_owns : (m : ℕ) (p : Phrase) → slice_get ps m ≡ Some p → has_own ps vs p ≡ true → (owner : ℕ) (name : List ℕ) → declared_by p ≡ Some (key space.Declared owner name) → (q : Phrase) → slice_get ps owner ≡ Some q → Owns q.node
  unfolding Owns
  owner_owns m p at has owner name declares q there = by (is_temporary p.node) refl has where
    by : (b : Bool) → is_temporary p.node ≡ b → (b || keeps_own (storing ps vs p p.node)) ≡ true → (is_temporary q.node ≡ true) ⊎ ((is_unit q.node ≡ true) × (is_compool_unit q.node ≡ false))
    by true is so =
        let itself : m ≡ owner = sym (looks.counted m p at) ∙ group_key p.number owner p.around p.node name is declares in
        let same = same_one owner p q (ap (slice_get ps) (sym itself) ∙ at) there in
        inl (ap (λ (x : Phrase). is_temporary x.node) (sym same) ∙ is)
    by false is so =
        let outer = stands_outside files looks sound typed vs m p at so in
        let home = item_key ps vs p owner p.node name so declares in
        let same = same_one owner outer.phrase q (ap (slice_get ps) (sym home) ∙ outer.there) there in
        inr (ap (λ (x : Phrase). is_unit x.node) (sym same) ∙ outer.is, ap (λ (x : Phrase). is_compool_unit x.node) (sym same) ∙ outer.no_pool)

  -- the name of a unit means no data with own places
  no_unit_named : (unit : List ℕ) (m : ℕ) (p : Phrase) → unit_named ps unit ≡ Some m → slice_get ps m ≡ Some p → has_own ps vs p ≡ true → ⊥
  unfolding unit_named
  no_unit_named unit m p named at has =
      let one = then_some (λ f. own ps (key space.Declared f unit)) (own ps (key space.Unit 0 unit)) m named in
      let file = looks.found (key space.Unit 0 unit) one.0 one.1 in
      let declared = looks.found (key space.Declared one.0 unit) m one.2 in
      let same = same_one m declared.declaring p declared.there at in
      let owns = owner_owns m p at has one.0 unit (ap declared_by (sym same) ∙ declared.declares) file.declaring file.there in
      no_file file.declaring.number file.declaring.around file.declaring.node unit file.declares owns

  -- data that an item of a template stands for have none
  no_pooled : (f : ℕ) (x : Phrase) (prefaces : List Preface) (unit : Naming) (name : List ℕ) → slice_get ps f ≡ Some x → x.node ≡ OfFile prefaces unit → (m : ℕ) (p : Phrase) → option_and_then (λ pool. pooled ps pool name) (pool_of prefaces name) ≡ Some m
      → slice_get ps m ≡ Some p → has_own ps vs p ≡ true → ⊥
  unfolding Owns unit_named
  no_pooled f x prefaces unit name at_file is m p found at has =
      let pool = then_some (λ pool. pooled ps pool name) (pool_of prefaces name) m found in
      let named = then_some (λ u. own ps (key space.Declared u name)) (unit_named ps pool.0) m pool.2 in
      let declared = looks.found (key space.Declared named.0 name) m named.2 in
      let same = same_one m declared.declaring p declared.there at in
      unit_there pool.0 named.0 pool.1 named.1 (ap declared_by (sym same) ∙ declared.declares) (slice_get ps named.0) refl
    where
      owns_not : (pool : List ℕ) (u : ℕ) (q : Phrase) → unit_named ps pool ≡ Some u → slice_get ps u ≡ Some q → is_compool_unit q.node ≡ true → (is_temporary q.node ≡ true) ⊎ ((is_unit q.node ≡ true) × (is_compool_unit q.node ≡ false)) → ⊥
      owns_not pool u q named there compool (inl group) = no_unit_named pool u q named there (ap (λ (b : Bool). b || keeps_own (storing ps vs q q.node)) group)
      owns_not pool u q named there compool (inr both) = let no = both.1 in absurd (cc)

      unit_there : (pool : List ℕ) (u : ℕ) → pool_of prefaces name ≡ Some pool → unit_named ps pool ≡ Some u → declared_by p ≡ Some (key space.Declared u name) → (o : Option Phrase) → slice_get ps u ≡ o → ⊥
      unit_there pool u given named declares None there =
          let one = then_some (λ f. own ps (key space.Declared f pool)) (own ps (key space.Unit 0 pool)) u named in
          let found_unit = looks.found (key space.Declared one.0 pool) u one.2 in
          let here = found_unit.there in
          absurd (cc)
      unit_there pool u given named declares (Some q) there = owns_not pool u q named there (pools f x prefaces unit name pool u q at_file is given named there) (owner_owns m p at has u name declares q there)

  pub stands_alone : (d m : ℕ) (p : Phrase) → standing_for ps d ≡ m → slice_get ps m ≡ Some p → has_own ps vs p ≡ true → d ≡ m
  stands_alone d m p stands at has = by (slice_get ps d) refl stands where
    for_file : (x y : Phrase) (name : List ℕ) → slice_get ps x.around.home ≡ Some y → (node : Node) → y.node ≡ node → pooled_at ps name node ≡ Some m → ⊥
    for_file x y name there (OfFile prefaces unit) is found = no_pooled x.around.home y prefaces unit name there is m p found at has
    for_file x y name there other is found = absurd (cc)

    for_node : (x : Phrase) (node : Node) → meant_at ps x node ≡ Some m → ⊥
    for_node x (OfTemplate name head declarations) found = no_unit_named name.name m p found at has
    for_node x (OfItem common item) found =
        let one = then_some (λ (home : Phrase). pooled_at ps item.name.name home.node) (slice_get ps x.around.home) m found in
        for_file x one.0 item.name.name one.1 one.0.node refl one.2
    for_node x other found = absurd (cc)

    by_meant : (x : Phrase) (o : Option ℕ) → meant_at ps x x.node ≡ o → elim o [ None ↦ d | Some other ↦ other ] ≡ m → d ≡ m
    by_meant x None is so = so
    by_meant x (Some other) is so = absurd (for_node x x.node (is ∙ ap Some so))

    by : (o : Option Phrase) → slice_get ps d ≡ o → elim (option_and_then (λ (x : Phrase). meant_at ps x x.node) o) [ None ↦ d | Some other ↦ other ] ≡ m → d ≡ m
    by None there so = so
    by (Some x) there so = by_meant x (meant_at ps x x.node) refl so

unit_key : (k owner : ℕ) (a : Around) (node : Node) (name : List ℕ) → is_called node ≡ true → declared_at k a node ≡ Some (key space.Declared owner name) → a.home ≡ owner
unfolding declared_at
unit_key k owner a (OfUnit own_name head declarations) name is declares = let inner : key space.Declared a.home own_name.name ≡ key space.Declared owner name = cc in ap (λ (x : Key). x.owner) inner
unit_key k owner a other name is declares = absurd (cc)

called_unit : (node : Node) → is_called node ≡ true → is_unit node ≡ true
called_unit (OfUnit name head declarations) is = refl
called_unit other is = absurd (cc)

module _ (ps : List Phrase) (looks : LooksUp ps) (pools : PoolsMatch ps) (hold : PoolsHoldNoUnits ps) where
  unit_at : (unit : List ℕ) (u : ℕ) → unit_named ps unit ≡ Some u → (q : Phrase) × (slice_get ps u ≡ Some q)
  unfolding unit_named
  unit_at unit u named =
      let one = then_some (λ f. own ps (key space.Declared f unit)) (own ps (key space.Unit 0 unit)) u named in
      let found = looks.found (key space.Declared one.0 unit) u one.2 in
      (found.declaring, found.there)

  -- and no item of a template stands for a block
  pub items_stand : ItemsStandForData ps
  items_stand m p common item c at node there called =
      by (meant_at ps p (OfItem common item)) refl
      (sym (ap (λ (o : Option ℕ). slice_get ps (elim o [ None ↦ m | Some other ↦ other ])) (ap (option_and_then (λ (x : Phrase). meant_at ps x x.node)) at ∙ ap (meant_at ps p) node)) ∙ there)
    where
      for_file : (n : ℕ) → slice_get ps n ≡ Some c → (y : Phrase) → slice_get ps p.around.home ≡ Some y → (file : Node) → y.node ≡ file → pooled_at ps item.name.name file ≡ Some n → ⊥
      for_file n so y there_y (OfFile prefaces unit) is found =
          let pool = then_some (λ pool. pooled ps pool item.name.name) (pool_of prefaces item.name.name) n found in
          let named = then_some (λ u. own ps (key space.Declared u item.name.name)) (unit_named ps pool.0) n pool.2 in
          let declared = looks.found (key space.Declared named.0 item.name.name) n named.2 in
          let same : declared.declaring ≡ c = (let here = declared.there in cc) in
          let home = unit_key c.number named.0 c.around c.node item.name.name called (ap declared_by (sym same) ∙ declared.declares) in
          let q = unit_at pool.0 named.0 named.1 in
          hold n c so (called_unit c.node called) q.0 (ap (slice_get ps) home ∙ q.1) (pools p.around.home y prefaces unit item.name.name pool.0 named.0 q.0 there_y is pool.1 named.1 q.1)
      for_file n so y there_y other is found = absurd (cc)

      no_item : is_called (OfItem common item) ≡ true → ⊥
      no_item is = absurd (cc)

      by : (o : Option ℕ) → meant_at ps p (OfItem common item) ≡ o → slice_get ps (elim o [ None ↦ m | Some other ↦ other ]) ≡ Some c → ⊥
      by None none so = let same : c ≡ p = cc in no_item (sym (ap (λ (x : Phrase). is_called x.node) same ∙ ap is_called node) ∙ called)
      by (Some n) found so =
          let one = then_some (λ (home : Phrase). pooled_at ps item.name.name home.node) (slice_get ps p.around.home) n found in
          for_file n so one.0 one.1 one.0.node refl one.2
