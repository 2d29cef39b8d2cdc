-- Data with own places stand in units that share none: in no COMPOOL.
use Rattle.std.specs.Prelude.{◌≡◌, ◌||◌, ◌&&◌, not, ℕ, Bool, true, false, List, [], ◌∷◌, ◌++◌, Option, Some, None, slice_get, if◌then◌else◌}
use Rattle.std.specs.List.{list_any}
use Rattle.std.proofs.Common.{refl, sym, ap, ◌∙◌, inl, inr}
use Rattle.hal_base.specs.declared.refusal.Place.{Place}
use Rattle.hal_grammar.specs.Declarations.{Attribute, Automatic, Declared}
use Rattle.hal_grammar.specs.Units.{Head, Program, Compool, Task, Procedure, Function, File}
use Rattle.hal_phrases.specs.Phrases.{Node, Phrase, OfItem, OfUnit}
use Rattle.hal_phrases.specs.GatheredUnits.{phrases_of}
use Rattle.hal_names.specs.Means.{is_compool_unit}
use Rattle.hal_scope.specs.Rules.{IsAmong, IsSound, rows, ruled}
use Rattle.hal_scope.specs.Sorts.{type_of}
use Rattle.hal_scope.specs.Uses.{unless}
use Rattle.hal_kinds.specs.Attributes.{has_mark, is_mark, is_marked}
use Rattle.hal_kinds.specs.Data.{is_event_type}
use Rattle.hal_constants.specs.Known.{Known}
use Rattle.hal_constants.specs.Naming.{is_value_item}
use Rattle.hal_attributes.specs.Storage.{is_automatic_outside, is_entered, is_entered_at, is_entered_head, is_stored_event, is_stored_parameter, misstored}
use Rattle.hal_types.specs.Rules.{attribute_rows, type_rows}
use Rattle.hal_meaning.specs.Bodies.{is_called, is_called_head, is_unit}
use Rattle.hal_meaning.specs.Places.{Unstored, group_among, home_shares, parameter, shares_at, storing, storing_of_data, storing_of_item}
use Rattle.hal_right_images.specs.rows.Homes.{IsOpenUnit}
use Rattle.hal_right_images.proofs.rows.LookingUp.{LooksUp}
use Rattle.hal_right_images.proofs.rows.Pooled.{no_parameter, pool_of}
use Rattle.hal_right_images.proofs.rows.Rules.{among_at, ruled_none, unbroken}
use Rattle.hal_right_images.specs.views.Placed.{keeps_own}

-- what none of two lists has none of both together has
none_has : (f : Attribute → Bool) (xs ys : List Attribute) → (list_any f xs || list_any f ys) ≡ false → list_any f (xs ++ ys) ≡ false
none_has f [] ys none = none
none_has f (x ∷ xs) ys none = by (f x) refl none (none_has f xs ys) where
  by : (b : Bool) → f x ≡ b → ((b || list_any f xs) || list_any f ys) ≡ false → ((list_any f xs || list_any f ys) ≡ false → list_any f (xs ++ ys) ≡ false) → (f x || list_any f (xs ++ ys)) ≡ false
  by true is so later = absurd (cc)
  by false is so later = ap (λ b. b || list_any f (xs ++ ys)) is ∙ later so

pub kept_unless : (b : Bool) (place : Place) → unless b place ≡ None → b ≡ true
kept_unless true place is = refl
kept_unless false place is = absurd (cc)

unmarked : (marked outside other : Bool) → not ((marked && not outside) || other) ≡ true → outside ≡ false → marked ≡ false
unmarked false outside other so is = refl
unmarked true true other so is = absurd (cc)
unmarked true false other so is = absurd (cc)

-- a unit that isn't called isn't entered
bare_head : (head : Head) → is_called_head head ≡ false → is_entered_head head ≡ false
unfolding is_entered_head
bare_head (Program place) bare = refl
bare_head (Compool place) bare = refl
bare_head (Task place) bare = refl
bare_head (Procedure place inputs outputs mode) bare = absurd (cc)
bare_head (Function place inputs returns mode) bare = absurd (cc)

not_entered : (node : Node) → is_unit node ≡ true → is_called node ≡ false → is_entered node ≡ false
unfolding is_entered
not_entered (OfUnit name head declarations) unit bare = bare_head head bare
not_entered other unit bare = absurd (cc)

-- a COMPOOL isn't called, and shares its data
pool_bare : (node : Node) → is_compool_unit node ≡ true → is_called node ≡ false
pool_bare node pool = let one = pool_of node pool in ap is_called one.is

pool_shares : (ps : List Phrase) (unit : ℕ) (node : Node) → is_compool_unit node ≡ true → shares_at ps unit node ≡ true
pool_shares ps unit node pool = let one = pool_of node pool in ap (shares_at ps unit) one.is

in_cells : (group : Option ℕ) → keeps_own (storing_of_data true false group) ≡ false
in_cells (Some group) = refl
in_cells None = refl

module _ (files : List File) (looks : LooksUp (phrases_of files)) (sound : IsSound rows (phrases_of files)) (typed : IsSound type_rows (phrases_of files)) where
  abbrev ps : List Phrase
  ps = phrases_of files

  -- rule 725
  not_automatic : (p : Phrase) (common : List Attribute) (item : Declared) → IsAmong p ps → p.node ≡ OfItem common item → is_entered_at ps p.around.home ≡ false → has_mark Automatic (item.attributes ++ common) ≡ false
  unfolding attribute_rows type_rows misstored
  not_automatic p common item within is out =
      none_has (is_mark Automatic) item.attributes common
      (unmarked (is_marked Automatic common item) (is_entered_at ps p.around.home) (is_stored_parameter ps p common item || is_stored_event common item)
      (kept_unless (not (is_automatic_outside ps p common item || (is_stored_parameter ps p common item || is_stored_event common item))) item.name.place
      (ap (misstored ps p) (sym is)
      ∙ ruled_none 725 (misstored ps p p.node) (unbroken type_rows ps typed p within (λ qs q. ruled 725 (misstored qs q q.node)) (inr (inr (inr (inr (inr (inr (inr (inr (inl refl)))))))))))) out)

  -- data in a unit that isn't called and shares its data have no own places
  pub none_kept : (vs : Known) (m : ℕ) (p : Phrase) → slice_get ps m ≡ Some p → (q : Phrase) → slice_get ps p.around.home ≡ Some q → is_unit q.node ≡ true → is_called q.node ≡ false
      → shares_at ps p.around.home q.node ≡ true → keeps_own (storing ps vs p p.node) ≡ true → ⊥
  none_kept vs m p at q there unit bare shares keeps = by p.node refl keeps where
    in_home : (common : List Attribute) (item : Declared) → p.node ≡ OfItem common item → (o : Option Bool) → parameter ps p.around.home item.name.name ≡ o → keeps_own (storing_of_item ps vs p common item o) ≡ true → ⊥
    in_home common item is (Some output) given so = no_parameter files looks sound p.around.home q there unit bare item.name.name output given
    in_home common item is None given so = data_there (is_event_type (type_of common item) || is_value_item common item) so where
      data_there : (b : Bool)
          → keeps_own (if b then Unstored else storing_of_data (home_shares ps p.around.home) (has_mark Automatic (item.attributes ++ common)) (group_among ps vs p (item.attributes ++ common))) ≡ true → ⊥
      data_there true none = absurd (cc)
      data_there false keeps_it =
          let out : is_entered_at ps p.around.home ≡ false = ap (λ (x : Option Phrase). elim x [ None ↦ false | Some y ↦ is_entered y.node ]) there ∙ not_entered q.node unit bare in
          let shared : home_shares ps p.around.home ≡ true = ap (λ (x : Option Phrase). elim x [ None ↦ false | Some y ↦ shares_at ps p.around.home y.node ]) there ∙ shares in
          let plain = not_automatic p common item (among_at ps m p at) is out in
          let group = group_among ps vs p (item.attributes ++ common) in
          let cells = in_cells group in
          let one = ap (λ (b : Bool). keeps_own (storing_of_data b (has_mark Automatic (item.attributes ++ common)) group)) shared in
          let two = ap (λ (b : Bool). keeps_own (storing_of_data true b group)) plain in
          absurd (cc)

    by : (node : Node) → p.node ≡ node → keeps_own (storing ps vs p node) ≡ true → ⊥
    by (OfItem common item) is so =
        in_home common item is (parameter ps p.around.home item.name.name) refl
        (sym (ap (λ (o : Option Phrase). keeps_own (if elim o [ None ↦ false | Some y ↦ is_unit y.node ] then storing_of_item ps vs p common item (parameter ps p.around.home item.name.name) else Unstored)) there
        ∙ ap (λ (b : Bool). keeps_own (if b then storing_of_item ps vs p common item (parameter ps p.around.home item.name.name) else Unstored)) unit) ∙ so)
    by other is so = absurd (cc)

  pub stands_outside : (vs : Known) (m : ℕ) (p : Phrase) → slice_get ps m ≡ Some p → keeps_own (storing ps vs p p.node) ≡ true → IsOpenUnit ps p.around.home
  stands_outside vs m p at keeps = by p.node refl keeps where
    a_unit : (q : Phrase) → slice_get ps p.around.home ≡ Some q → is_unit q.node ≡ true → IsOpenUnit ps p.around.home
    a_unit q there unit = record { phrase = q; there = there; is = unit; no_pool = outer (is_compool_unit q.node) refl } where
      outer : (b : Bool) → is_compool_unit q.node ≡ b → is_compool_unit q.node ≡ false
      outer false pool = pool
      outer true pool = absurd (none_kept vs m p at q there unit (pool_bare q.node pool) (pool_shares ps p.around.home q.node pool) keeps)

    in_unit : (common : List Attribute) (item : Declared) → (o : Option Phrase) → slice_get ps p.around.home ≡ o
        → keeps_own (if elim o [ None ↦ false | Some q ↦ is_unit q.node ] then storing_of_item ps vs p common item (parameter ps p.around.home item.name.name) else Unstored) ≡ true → IsOpenUnit ps p.around.home
    in_unit common item None there so = absurd (cc)
    in_unit common item (Some q) there so = by_unit (is_unit q.node) refl so where
      by_unit : (b : Bool) → is_unit q.node ≡ b → keeps_own (if b then storing_of_item ps vs p common item (parameter ps p.around.home item.name.name) else Unstored) ≡ true → IsOpenUnit ps p.around.home
      by_unit true unit so = a_unit q there unit
      by_unit false unit so = absurd (cc)

    by : (node : Node) → p.node ≡ node → keeps_own (storing ps vs p node) ≡ true → IsOpenUnit ps p.around.home
    by (OfItem common item) is so = in_unit common item (slice_get ps p.around.home) refl so
    by other is so = absurd (cc)
