-- All elements of data that a name means lie where their data are stored.
use Rattle.std.specs.Prelude.{◌≡◌, ◌<◌, ℕ, zero, suc, Bool, true, false, List, [], ◌∷◌, length, map, replicate, Option, Some, None, slice_get, if◌then◌else◌}
use Rattle.std.proofs.Common.{refl, sym, ap, subst, ◌∙◌, arith, append-nil}
use Rattle.hal_grammar.specs.Leaves.{Naming}
use Rattle.hal_grammar.specs.Declarations.{Attribute, Declared}
use Rattle.hal_grammar.specs.Units.{Head, Program, Compool, Task, Procedure, Function}
use Rattle.hal_phrases.specs.declared.around.Around.{Around}
use Rattle.hal_phrases.specs.Phrases.{Node, Phrase, OfItem, OfTemporaryGroup, OfUnit}
use Rattle.hal_names.specs.declared.key.Key.{Key}
use Rattle.hal_names.specs.declared.key.Space.TheVariants as space
use Rattle.hal_names.specs.Keys.{key, own, declared_at}
use Rattle.hal_scope.specs.Builtins.{builtin_named}
use Rattle.hal_scope.specs.Sorts.{type_of}
use Rattle.hal_kinds.specs.Data.{is_event_type}
use Rattle.hal_constants.specs.Naming.{is_value_item}
use Rattle.hal_values.specs.declared.value.Kind.{Kind}
use Rattle.hal_values.specs.declared.value.Kind.TheVariants as kind
use Rattle.hal_code.specs.declared.image.ImageParts.{ImageParts}
use Rattle.hal_code.specs.Images as images
use Rattle.hal_code.specs.Memory.{lies_from, own_memory, shared_memory}
use Rattle.hal_meaning.specs.Bodies.{Body, is_unit, meant, processes_of, processes_reaching, reaches}
use Rattle.hal_meaning.specs.Elements.{Shape, kinds_of, shape_of}
use Rattle.hal_meaning.specs.Events.{event_of}
use Rattle.hal_meaning.specs.Places.{Storing, InCells, InPlaces, ByReference, Unstored, storing, hidden, places_at, places_of, unit_numbers}
use Rattle.hal_meaning.specs.ReportNames.{first_cell, first_place}
use Rattle.hal_meaning.specs.Sets.{Set, body_at, cells_of}
use Rattle.hal_meaning.specs.Variables.{temporary_shape}
use Rattle.hal_reach.specs.Places.{is_among}
use Rattle.hal_reach.proofs.Callees.{has_unit}
use Rattle.hal_agreement.specs.Sites.{Site, within_block}
use Rattle.hal_storage.specs.referents.Referents.{Referent, DataOf, EventOf, BuiltinOf, Unmeant, event_referent, constant_referent, item_referent, head_referent, node_referent, phrase_referent, declaration_referent, builtin_referent}
use Rattle.hal_gen_expr.specs.Referents.{referent}
use Rattle.hal_fit_expr.proofs.Given.{number_same}
use Rattle.hal_fit_calls.specs.Each.{Each}
use Rattle.hal_link.specs.Linking.{own_row, process_site}
use Rattle.hal_link.specs.Shapes.{shapes_of}
use Rattle.hal_fit_layout.specs.Owned.{LiesIn}
use Rattle.hal_fit_layout.proofs.Called.{Reaches}
use Rattle.hal_fit_layout.proofs.Memory.{known}
use Rattle.hal_fit_layout.proofs.Owned.{lies_in_process}
use Rattle.hal_fit_layout.proofs.Parameters.{kinds_in, places_are}
use Rattle.hal_right_images.proofs.rows.LookingUp.{LooksUp}
use Rattle.hal_right_images.proofs.rows.Lying.{Opens, own_lies, item_lies}
use Rattle.hal_right_images.proofs.rows.Sharing.{cells_lie}
use Rattle.hal_right_images.specs.rows.Homes.{LeadsHome, StandsHome, StandsPlaced}
use Rattle.hal_right_images.specs.rows.Purposes.{StandsIn}
use Rattle.hal_right_images.specs.views.Holding.{RefersTo, Holds, DataHold, ReferencesHold}
use Rattle.hal_right_images.specs.views.Placed.{keeps_own, is_temporary, AreWellPlaced}
use Rattle.hal_right_images.proofs.views.Reached.{ReachesIt, reaches_so, listed, stands_reached, passes_kept}
use Rattle.hal_right_images.proofs.views.Seen.{seen_item, seen_first, seen_group}

-- what is led to by a name that refers to data
pub data IsDataAt (s : Set) (p : Phrase) : ℕ → Storing → Shape → Type 0 where
  OfAnItem : (common : List Attribute) (item : Declared) → p.node ≡ OfItem common item → IsDataAt s p p.number (storing s.phrases s.constants p (OfItem common item)) (shape_of s.phrases s.constants p common item)
  OfAGroup : (labels : List Naming) (variable : Naming) → p.node ≡ OfTemporaryGroup labels variable → IsDataAt s p p.number InPlaces temporary_shape

abbrev DataAt : Set → Phrase → Referent → Type 0
DataAt s p (DataOf declared way shape) = IsDataAt s p declared way shape
DataAt s p other = Unit {0}

pub record IsData (s : Set) (block : ℕ) (name : List ℕ) (declared : ℕ) (way : Storing) (shape : Shape) : Type 0 where
  pub place : ℕ
  pub phrase : Phrase
  pub means_it : meant s.phrases block name ≡ Some place
  pub there : slice_get s.phrases place ≡ Some phrase
  pub is : IsDataAt s phrase declared way shape

module _ (s : Set) where
  no_event : (o : Option ℕ) (declared : ℕ) (way : Storing) (shape : Shape) → elim o [ None ↦ Unmeant | Some e ↦ EventOf e ] ≡ DataOf declared way shape → ⊥
  no_event None declared way shape is = absurd (cc)
  no_event (Some e) declared way shape is = absurd (cc)

  item_data : (p : Phrase) (common : List Attribute) (item : Declared) (declared : ℕ) (way : Storing) (shape : Shape) → p.node ≡ OfItem common item
      → item_referent s.phrases s.constants p common item (storing s.phrases s.constants p (OfItem common item)) ≡ DataOf declared way shape → IsDataAt s p declared way shape
  item_data p common item declared way shape node is = by (is_event_type (type_of common item)) (is_value_item common item) is where
    made : DataOf p.number (storing s.phrases s.constants p (OfItem common item)) (shape_of s.phrases s.constants p common item) ≡ DataOf declared way shape → IsDataAt s p declared way shape
    made same =
        subst (DataAt s p) same
        (OfAnItem common item node)

    by : (event constant : Bool) → (if event then event_referent s.phrases p.number else if constant then constant_referent s.constants p.number else DataOf p.number (storing s.phrases s.constants p (OfItem common item)) (shape_of s.phrases s.constants p common item)) ≡ DataOf declared way shape → IsDataAt s p declared way shape
    by true constant same = absurd (no_event (event_of s.phrases p.number) declared way shape same)
    by false true same = absurd (cc)
    by false false same = made same

  head_data : (k : ℕ) (head : Head) (declared : ℕ) (way : Storing) (shape : Shape) → head_referent s.phrases k head ≡ DataOf declared way shape → ⊥
  head_data k (Program place) declared way shape is = no_event (event_of s.phrases k) declared way shape is
  head_data k (Task place) declared way shape is = no_event (event_of s.phrases k) declared way shape is
  head_data k (Compool place) declared way shape is = absurd (cc)
  head_data k (Procedure place inputs outputs mode) declared way shape is = absurd (cc)
  head_data k (Function place inputs returns mode) declared way shape is = absurd (cc)

  node_data : (p : Phrase) (node : Node) (declared : ℕ) (way : Storing) (shape : Shape) → p.node ≡ node → node_referent s.phrases s.constants p node ≡ DataOf declared way shape → IsDataAt s p declared way shape
  node_data p (OfItem common item) declared way shape node is = item_data p common item declared way shape node is
  node_data p (OfTemporaryGroup labels variable) declared way shape node is =
      subst (DataAt s p) is
      (OfAGroup labels variable node)
  node_data p (OfUnit name head declarations) declared way shape node is = absurd (head_data p.number head declared way shape is)
  node_data p other declared way shape node is = absurd (cc)

  -- data that a name refers to
  pub data_is : (site : Site) (name : List ℕ) (declared : ℕ) (way : Storing) (shape : Shape) → site.set ≡ s → referent site name ≡ DataOf declared way shape → IsData s site.block name declared way shape
  data_is site name declared way shape set refers =
      at_meant (meant s.phrases site.block name) refl
      (subst (λ (x : Set). elim (meant x.phrases site.block name) [ None ↦ builtin_referent name | Some k ↦ declaration_referent x.phrases x.constants k ] ≡ DataOf declared way shape) set refers)
    where
      no_builtin : (o : Option _) → elim o [ None ↦ Unmeant | Some b ↦ BuiltinOf b ] ≡ DataOf declared way shape → ⊥
      no_builtin None is = absurd (cc)
      no_builtin (Some b) is = absurd (cc)

      at_phrase : (k : ℕ) → meant s.phrases site.block name ≡ Some k → (o : Option Phrase) → slice_get s.phrases k ≡ o → elim o [ None ↦ Unmeant | Some p ↦ phrase_referent s.phrases s.constants p ] ≡ DataOf declared way shape
          → IsData s site.block name declared way shape
      at_phrase k means None there is = absurd (cc)
      at_phrase k means (Some p) there is = record { place = k; phrase = p; means_it = means; there = there; is = node_data p p.node declared way shape refl is }

      at_meant : (o : Option ℕ) → meant s.phrases site.block name ≡ o → elim o [ None ↦ builtin_referent name | Some k ↦ declaration_referent s.phrases s.constants k ] ≡ DataOf declared way shape
          → IsData s site.block name declared way shape
      at_meant None means is = absurd (no_builtin (builtin_named name) is)
      at_meant (Some k) means is = at_phrase k means (slice_get s.phrases k) refl is

-- the hidden places of a group
hidden_kinds : (owner n : ℕ) → kinds_in (hidden owner n) ≡ known (replicate n kind.Double)
hidden_kinds owner zero = refl
hidden_kinds owner (suc n) = ap (λ l. Some kind.Double ∷ l) (hidden_kinds owner n)

pub hidden_opens : (owner n : ℕ) → Opens owner (hidden owner (suc n)) (replicate (suc n) kind.Double)
hidden_opens owner n = record { first = _; more = hidden owner n; is = refl; its = refl; rest = []; kinds = hidden_kinds owner (suc n) ∙ sym (append-nil (known (replicate (suc n) kind.Double))) }

module _ (s : Set) (looks : LooksUp s.phrases) (home : Each (StandsHome s.phrases) s.phrases) (groups : Each (StandsPlaced s.phrases) s.phrases) (well : AreWellPlaced s.phrases s.constants) (image : ImageParts) (cells : images.expanded image.cells ≡ cells_of s.phrases s.constants)
    (laid : (process own : ℕ) → slice_get (processes_of s.phrases) process ≡ Some own → images.places_of image process ≡ map (own_row s (shapes_of s)) (places_of s.phrases s.constants own))
    (references : ReferencesHold s image) where
  -- at a site in a process
  module _ (process unit block : ℕ) (b : Body) (found : body_at s unit ≡ Some b) (stands : StandsIn s process unit) (leads : LeadsHome s.phrases b.number block) where
    abbrev here : Site
    here = within_block block (process_site s process b)

    reached : ReachesIt s process b.number
    reached = subst (ReachesIt s process) (sym (number_same s unit b found)) (stands_reached s process unit stands)

    same_places : here.places ≡ places_of s.phrases s.constants reached.own
    same_places = places_are s process reached.own reached.its

    its_process : is_among (processes_of s.phrases) reached.own ≡ true
    its_process = listed (processes_of s.phrases) process reached.own reached.its

    reach : reaches s.phrases reached.own b.number ≡ true
    reach = passes_kept s.phrases reached.own b.number reached.reaches.reaches

    -- its unit is one
    unit_there : (p : Phrase) → slice_get s.phrases b.number ≡ Some p → is_unit p.node ≡ true → (name : List ℕ) (m : ℕ) (q : Phrase) → meant s.phrases block name ≡ Some m → slice_get s.phrases m ≡ Some q → is_temporary q.node ≡ false
        → keeps_own (storing s.phrases s.constants q q.node) ≡ true → Reaches s.phrases reached.own q.around.home
    unit_there p at is name m q means there isnt keeps =
        let outside = well.outside m q there keeps in
        reaches_so s process reached.own q.around.home reached.its (subst (λ k. is_among (unit_numbers s.phrases) k ≡ true) (looks.counted q.around.home outside.phrase outside.there) (has_unit s.phrases q.around.home outside.phrase outside.there outside.is))
        (seen_item s.phrases looks home groups s.constants well b.number block p at is leads reached.own its_process reach name m q means there isnt keeps)

    -- it is the first declaration of its name in its unit
    item_key : (k : ℕ) (a : Around) (node : Node) (common : List Attribute) (item : Declared) (q : Key) → node ≡ OfItem common item → declared_at k a node ≡ Some q → q ≡ key space.Declared a.home item.name.name
    unfolding declared_at
    item_key k a node common item q is declares = let made = sym (ap (declared_at k a) is) ∙ declares in cc

    item_holds : (p : Phrase) → slice_get s.phrases b.number ≡ Some p → is_unit p.node ≡ true → (name : List ℕ) (m : ℕ) (q : Phrase) → meant s.phrases block name ≡ Some m → slice_get s.phrases m ≡ Some q
        → (common : List Attribute) (item : Declared) → q.node ≡ OfItem common item → (way : Storing) → storing s.phrases s.constants q (OfItem common item) ≡ way
        → Holds image process here q.number way (shape_of s.phrases s.constants q common item)
    item_holds p at is name m q means there common item node (InCells group) stored =
        subst (λ k. lies_from (shared_memory image) (first_cell s.phrases s.constants k) (kinds_of (shape_of s.phrases s.constants q common item)) ≡ true) (sym (looks.counted m q there))
        (cells_lie s image cells q m there common item node group stored)
    item_holds p at is name m q means there common item node InPlaces stored =
        let shape = shape_of s.phrases s.constants q common item in
        let isnt : is_temporary q.node ≡ false = ap is_temporary node in
        let keeps : keeps_own (storing s.phrases s.constants q q.node) ≡ true = ap (λ n. keeps_own (storing s.phrases s.constants q n)) node ∙ ap keeps_own stored in
        let one = unit_there p at is name m q means there isnt keeps in
        subst (λ places. lies_from (own_memory (images.places_of image process)) (first_place places q.number) (kinds_of shape) ≡ true) (sym same_places)
        (subst (λ rows. lies_from (own_memory rows) (first_place (places_of s.phrases s.constants reached.own) q.number) (kinds_of shape) ≡ true) (sym (laid process reached.own reached.its))
        (subst (λ k. lies_from (own_memory (map (own_row s (shapes_of s)) (places_of s.phrases s.constants reached.own))) (first_place (places_of s.phrases s.constants reached.own) k) (kinds_of shape) ≡ true) (sym (looks.counted m q there))
        (with_kinds (kinds_of shape) refl (λ some. item_lies s (shapes_of s) looks.counted reached.own one.place q m there common item node stored one.there one.reaches some))))
      where
        with_kinds : (ks : List Kind) → kinds_of (shape_of s.phrases s.constants q common item) ≡ ks
            → (0 < length (kinds_of (shape_of s.phrases s.constants q common item)) → lies_from (own_memory (map (own_row s (shapes_of s)) (places_of s.phrases s.constants reached.own))) (first_place (places_of s.phrases s.constants reached.own) m) (kinds_of (shape_of s.phrases s.constants q common item)) ≡ true)
            → lies_from (own_memory (map (own_row s (shapes_of s)) (places_of s.phrases s.constants reached.own))) (first_place (places_of s.phrases s.constants reached.own) m) (kinds_of (shape_of s.phrases s.constants q common item)) ≡ true
        with_kinds [] none so = ap (lies_from (own_memory (map (own_row s (shapes_of s)) (places_of s.phrases s.constants reached.own))) (first_place (places_of s.phrases s.constants reached.own) m)) none
        with_kinds (k ∷ ks) some so = so (let long : length (kinds_of (shape_of s.phrases s.constants q common item)) ≡ suc (length ks) = ap length some in omega (arith, long))
    item_holds p at is name m q means there common item node ByReference stored =
        let isnt : is_temporary q.node ≡ false = ap is_temporary node in
        let keeps : keeps_own (storing s.phrases s.constants q q.node) ≡ true = ap (λ n. keeps_own (storing s.phrases s.constants q n)) node ∙ ap keeps_own stored in
        let one = unit_there p at is name m q means there isnt keeps in
        subst (λ places. RefersTo image process (first_place places q.number) (kinds_of (shape_of s.phrases s.constants q common item))) (sym same_places)
        (subst (λ k. RefersTo image process (first_place (places_of s.phrases s.constants reached.own) k) (kinds_of (shape_of s.phrases s.constants q common item))) (sym (looks.counted m q there))
        (references process reached.own m q common item reached.its there node (let first = seen_first s.phrases looks home groups s.constants well b.number block p at is leads name m q means there isnt keeps in subst (λ x. own s.phrases x ≡ Some m) (item_key q.number q.around q.node common item first.0 node first.1) first.2) stored one.reaches))
    item_holds p at is name m q means there common item node Unstored stored = tt

    group_holds : (p : Phrase) → slice_get s.phrases b.number ≡ Some p → is_unit p.node ≡ true → (name : List ℕ) (m : ℕ) (q : Phrase) → meant s.phrases block name ≡ Some m → slice_get s.phrases m ≡ Some q
        → (labels : List Naming) (variable : Naming) → q.node ≡ OfTemporaryGroup labels variable → Holds image process here q.number InPlaces temporary_shape
    group_holds p at is name m q means there labels variable node =
        let own_home = seen_group s.phrases looks home groups s.constants well b.number block p at is leads name m q means there (ap is_temporary node) in
        let one = reached.reaches in
        let lies = lies_in_process s.phrases s.constants looks.counted q.around.home m q there refl reached.own one.place (one.there ∙ ap Some (sym own_home)) (subst (λ u. is_among (processes_reaching s.phrases u) reached.own ≡ true) (sym own_home) one.reaches) in
        let number = looks.counted m q there in
        let hides : LiesIn (places_of s.phrases s.constants reached.own) m (hidden m 5) =
        subst (λ k. LiesIn (places_of s.phrases s.constants reached.own) m (hidden k 5)) number (subst (λ (n : Node). LiesIn (places_of s.phrases s.constants reached.own) m (places_at s.phrases s.constants q n)) node lies) in
        let doubles = own_lies s (shapes_of s) (places_of s.phrases s.constants reached.own) m (hidden m 5) (kind.Double ∷ []) hides (first_opens m) in
        subst (λ places. lies_from (own_memory (images.places_of image process)) (first_place places q.number) (kind.Double ∷ []) ≡ true) (sym same_places)
        (subst (λ rows. lies_from (own_memory rows) (first_place (places_of s.phrases s.constants reached.own) q.number) (kind.Double ∷ []) ≡ true) (sym (laid process reached.own reached.its))
        (subst (λ k. lies_from (own_memory (map (own_row s (shapes_of s)) (places_of s.phrases s.constants reached.own))) (first_place (places_of s.phrases s.constants reached.own) k) (kind.Double ∷ []) ≡ true) (sym number) doubles))
      where
        first_opens : (owner : ℕ) → Opens owner (hidden owner 5) (kind.Double ∷ [])
        first_opens owner = record { first = _; more = hidden owner 4; is = refl; its = refl; rest = known (replicate 4 kind.Double); kinds = hidden_kinds owner 5 }

    data_holds : (p : Phrase) → slice_get s.phrases b.number ≡ Some p → is_unit p.node ≡ true → (name : List ℕ) (m : ℕ) (q : Phrase) → meant s.phrases block name ≡ Some m → slice_get s.phrases m ≡ Some q
        → (declared : ℕ) (way : Storing) (shape : Shape) → IsDataAt s q declared way shape → Holds image process here declared way shape
    data_holds p at is name m q means there _ _ _ (OfAnItem common item node) = item_holds p at is name m q means there common item node (storing s.phrases s.constants q (OfItem common item)) refl
    data_holds p at is name m q means there _ _ _ (OfAGroup labels variable node) = group_holds p at is name m q means there labels variable node

  -- at each site
  pub all_hold : ((unit : ℕ) (b : Body) → body_at s unit ≡ Some b → (p : Phrase) × (slice_get s.phrases b.number ≡ Some p) × (is_unit p.node ≡ true)) → DataHold s image
  all_hold units process site name declared way shape at refers =
      let unit = units at.unit at.body at.found in
      let set : site.set ≡ s = ap (λ (x : Site). x.set) at.is in
      let block : site.block ≡ at.block = ap (λ (x : Site). x.block) at.is in
      let one = data_is s site name declared way shape set refers in
      subst (λ (x : Site). Holds image process x declared way shape) (sym at.is)
      (data_holds process at.unit at.block at.body at.found at.stands at.leads unit.0 unit.1 unit.2 name one.place one.phrase (subst (λ k. meant s.phrases k name ≡ Some one.place) block one.means_it) one.there declared way shape one.is)
