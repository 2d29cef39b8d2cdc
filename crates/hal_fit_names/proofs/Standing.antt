-- Data of a written template of a COMPOOL stand for the COMPOOL's own.
use Rattle.std.proofs.Common.{◌≡◌, ◌⊎◌, ℕ, Bool, true, false, not, cond, ◌&&◌, ◌||◌, filter, List, [], ◌∷◌, ◌++◌, map, flat_map, Option, Some, None, slice_get, bytes_eq, refl, sym, ap, ◌∙◌, subst, inl, inr, if◌then◌else◌}
use Rattle.std.specs.List.{list_any}
use Rattle.std.specs.Option.{option_and_then, is_some}
use Rattle.std.proofs.lemmas.Slice.Eq.{bytes_eq-Decides}
use Rattle.hal_grammar.specs.Leaves.{Naming}
use Rattle.hal_grammar.specs.Declarations.{Attribute, Declaration, Declare, Declared, Structure}
use Rattle.hal_grammar.specs.Units.{Compool, File, Head, Preface, Program, Task, Procedure, Function}
use Rattle.hal_phrases.specs.Phrases.{Node, Phrase, OfFile, OfItem, OfTemplate, OfUnit}
use Rattle.hal_phrases.specs.GatheredUnits.{phrases_of}
use Rattle.hal_names.specs.declared.key.Key.{Key}
use Rattle.hal_names.specs.declared.key.Space.TheVariants as space
use Rattle.hal_names.specs.Keys.{declared_at, declared_by, key, own}
use Rattle.hal_names.specs.Laws.{IsCounted}
use Rattle.hal_names.specs.Means.{prefaces_of, unit_named}
use Rattle.hal_names.proofs.CountedFiles.{phrases_counted}
use Rattle.hal_names.proofs.Places.{own_first}
use Rattle.hal_scope.specs.Repeated.{given}
use Rattle.hal_scope.specs.Rules.{IsAmong, IsSound, rows}
use Rattle.hal_scope.specs.Sorts.{type_of}
use Rattle.hal_kinds.specs.Attributes as attributes
use Rattle.hal_kinds.specs.Attributes.{sizes_of}
use Rattle.hal_kinds.specs.Data.{is_event_type, is_parameter, is_structure_type}
use Rattle.hal_types.specs.Rules.{type_rows}
use Rattle.hal_constants.specs.Known.{Known, known}
use Rattle.hal_constants.specs.Naming.{is_value_item}
use Rattle.hal_templates.specs.Agreeing.{IsSameData}
use Rattle.hal_templates.specs.Entries.{entries, entries_of}
use Rattle.hal_templates.specs.Giving.{AreSameNames, GivesItsUnit, HaveSameHead, IsData, IsOwn, IsSameName, IsStructure}
use Rattle.hal_templates.specs.Heads.{is_compool}
use Rattle.hal_templates.specs.Own.{is_parameter_of, is_shown, own_entries}
use Rattle.hal_templates.specs.Templates.{home_of}
use Rattle.hal_templates.proofs.Shown.{is_own}
use Rattle.hal_meaning.specs.Bodies.{declares, is_compool_head, is_unit, meant_at, pooled, pooled_at, standing_for}
use Rattle.hal_meaning.specs.Places.{is_in_unit}
use Rattle.hal_fit_names.specs.Standing.{StandsForData, StandsForItself}
use Rattle.hal_fit_names.specs.Suited.{is_in_file, is_plain}
use Rattle.hal_fit_names.proofs.Parametered.{parameter_eventless, parameter_stored}
use Rattle.hal_fit_names.proofs.Placing.{at_among}
use Rattle.hal_fit_names.proofs.Pooling.{AreHeld, HoldsData, IsPooled, NodeHeld, data_are_held}

-- data of a name among what declarations declare
pub record IsEntry (name : List ℕ) (nodes : List Node) : Type 0 where
  pub common : List Attribute
  pub item : Declared
  pub within : IsAmong (OfItem common item) nodes
  pub named : item.name.name ≡ name

later_entry : (name : List ℕ) (xs ys : List Node) → IsEntry name ys → IsEntry name (xs ++ ys)
later_entry name [] ys is = is
later_entry name (x ∷ xs) ys is = let rest = later_entry name xs ys is in record { common = rest.common; item = rest.item; within = inr rest.within; named = rest.named }

first_entry : (name : List ℕ) (xs ys : List Node) → IsEntry name xs → IsEntry name (xs ++ ys)
first_entry name xs ys is = record { common = is.common; item = is.item; within = in_both xs is.within; named = is.named } where
  in_both : (zs : List Node) → IsAmong (OfItem is.common is.item) zs → IsAmong (OfItem is.common is.item) (zs ++ ys)
  in_both [] within = absurd within
  in_both (z ∷ zs) (inl same) = inl same
  in_both (z ∷ zs) (inr later) = inr (in_both zs later)

item_entry : (name : List ℕ) (common : List Attribute) (items : List Declared) → list_any (λ (item : Declared). bytes_eq item.name.name name) items ≡ true → IsEntry name (map (OfItem common) items)
item_entry name common [] is = absurd (cc)
item_entry name common (x ∷ xs) is = by (bytes_eq x.name.name name) refl is (item_entry name common xs) where
  by : (b : Bool) → bytes_eq x.name.name name ≡ b → (b || list_any (λ (item : Declared). bytes_eq item.name.name name) xs) ≡ true
      → (list_any (λ (item : Declared). bytes_eq item.name.name name) xs ≡ true → IsEntry name (map (OfItem common) xs)) → IsEntry name (OfItem common x ∷ map (OfItem common) xs)
  by true same is rest = record { common = common; item = x; within = inl refl; named = (bytes_eq-Decides x.name.name name).0 same }
  by false differs is rest = let one = rest is in record { common = one.common; item = one.item; within = inr one.within; named = one.named }

pub declared_entry : (name : List ℕ) (declarations : List Declaration) → list_any (declares name) declarations ≡ true → IsEntry name (entries declarations)
unfolding entries entries_of
declared_entry name [] is = absurd (cc)
declared_entry name (Declare place common items ∷ ds) is = by (list_any (λ (item : Declared). bytes_eq item.name.name name) items) refl is (declared_entry name ds) where
  by : (b : Bool) → list_any (λ (item : Declared). bytes_eq item.name.name name) items ≡ b → (b || list_any (declares name) ds) ≡ true → (list_any (declares name) ds ≡ true → IsEntry name (flat_map entries_of ds))
      → IsEntry name (map (OfItem common) items ++ flat_map entries_of ds)
  by true here is rest = first_entry name (map (OfItem common) items) (flat_map entries_of ds) (item_entry name common items here)
  by false here is rest = later_entry name (map (OfItem common) items) (flat_map entries_of ds) (rest is)
declared_entry name (Structure place structure parts ∷ ds) is =
    let rest = declared_entry name ds is in record { common = rest.common; item = rest.item; within = inr rest.within; named = rest.named }

-- what an entry is the same as
record HasPartner (ps : List Phrase) (vs : Known) (h u : ℕ) (x : Node) (ys : List Node) : Type 0 where
  other : Node
  within : IsAmong other ys
  same : IsSameName ps vs h u x other

partner_of : (ps : List Phrase) (vs : Known) (h : ℕ) (xs : List Node) (u : ℕ) (ys : List Node) → AreSameNames ps vs h xs u ys → (x : Node) → IsAmong x xs → HasPartner ps vs h u x ys
partner_of ps vs h [] u ys same x within = absurd within
partner_of ps vs h (z ∷ xs) u [] same x within = absurd same
partner_of ps vs h (z ∷ xs) u (y ∷ ys) same x (inl is) = record { other = y; within = inl refl; same = subst (λ (n : Node). IsSameName ps vs h u n y) (sym is) same.0 }
partner_of ps vs h (z ∷ xs) u (y ∷ ys) same x (inr later) =
    let rest = partner_of ps vs h xs u ys same.1 x later in record { other = rest.other; within = inr rest.within; same = rest.same }

-- data that are the same as some
record IsSameItem (ps : List Phrase) (vs : Known) (h u : ℕ) (common : List Attribute) (item : Declared) (y : Node) : Type 0 where
  p : Phrase
  q : Phrase
  other_common : List Attribute
  other : Declared
  named : item.name.name ≡ other.name.name
  mine : IsOwn ps h item.name.name p
  node : p.node ≡ OfItem common item
  theirs : IsOwn ps u other.name.name q
  declares : q.node ≡ OfItem other_common other
  listed : y ≡ OfItem other_common other
  same : IsSameData ps vs p common item.attributes q other_common other.attributes

item_same : {ps : List Phrase} {vs : Known} {h u : ℕ} {x y : Node} → IsSameName ps vs h u x y → (common : List Attribute) (item : Declared) → x ≡ OfItem common item → IsSameItem ps vs h u common item y
item_same {ps = ps} {vs = vs} {h = h} {u = u} (IsData c other_common a b p q named mine this theirs that means) common item is =
    let of_common : c ≡ common = cc in
    let of_item : a ≡ item = cc in
    record {
      p = p;
      q = q;
      other_common = other_common;
      other = b;
      named = ap (λ (d : Declared). d.name.name) (sym of_item) ∙ named;
      mine = subst (λ (d : Declared). IsOwn ps h d.name.name p) of_item mine;
      node = this ∙ is;
      theirs = theirs;
      declares = that;
      listed = refl;
      same = subst (λ (d : Declared). IsSameData ps vs p common d.attributes q other_common b.attributes) of_item (subst (λ (xs : List Attribute). IsSameData ps vs p xs a.attributes q other_common b.attributes) of_common means);
    }
item_same (IsStructure name other xs ys p q named mine this theirs that parts) common item is = absurd (cc)

compool_same : (head : Head) → is_compool_head head ≡ true → is_compool head ≡ true
unfolding is_compool
compool_same (Compool place) is = refl
compool_same (Program place) is = absurd (cc)
compool_same (Task place) is = absurd (cc)
compool_same (Procedure place inputs outputs mode) is = absurd (cc)
compool_same (Function place inputs returns mode) is = absurd (cc)

pub other_head : (head : Head) → is_compool_head head ≡ false → is_compool head ≡ false
unfolding is_compool
other_head (Compool place) is = absurd (cc)
other_head (Program place) is = refl
other_head (Task place) is = refl
other_head (Procedure place inputs outputs mode) is = refl
other_head (Function place inputs returns mode) is = refl

-- the unit of a template that isn't a COMPOOL's is no COMPOOL
not_compool : (ps : List Phrase) (vs : Known) (p q : Phrase) (head other : Head) → HaveSameHead ps vs p head q other → is_compool_head head ≡ false → is_compool_head other ≡ false
not_compool ps vs p q head (Program there) same is = refl
not_compool ps vs p q head (Task there) same is = refl
not_compool ps vs p q head (Procedure there inputs outputs mode) same is = refl
not_compool ps vs p q head (Function there inputs returns mode) same is = refl
not_compool ps vs p q (Compool at) (Compool there) same is = absurd (cc)
not_compool ps vs p q (Program at) (Compool there) same is = absurd same
not_compool ps vs p q (Task at) (Compool there) same is = absurd same
not_compool ps vs p q (Procedure at inputs outputs mode) (Compool there) same is = absurd same
not_compool ps vs p q (Function at inputs returns mode) (Compool there) same is = absurd same

-- what a list keeps passes
kept_passes : (test : Node → Bool) (x : Node) (xs : List Node) → IsAmong x (filter test xs) → test x ≡ true
kept_passes test x [] within = absurd within
kept_passes test x (y ∷ ys) within = by (test y) refl within (kept_passes test x ys) where
  by : (b : Bool) → test y ≡ b → IsAmong x (cond b (y ∷ filter test ys) (filter test ys)) → (IsAmong x (filter test ys) → test x ≡ true) → test x ≡ true
  by true is (inl same) rest = ap test same ∙ is
  by true is (inr later) rest = rest later
  by false is later rest = rest later

-- data in the own template of a unit that is no COMPOOL are a parameter
entry_parameter : (ps : List Phrase) (u : ℕ) (head : Head) (declarations : List Declaration) → is_compool_head head ≡ false → (common : List Attribute) (item : Declared)
    → IsAmong (OfItem common item) (own_entries ps u head declarations) → is_parameter_of ps u item.name.name ≡ true
unfolding own_entries is_shown
entry_parameter ps u (Program place) declarations none common item within = absurd within
entry_parameter ps u (Task place) declarations none common item within = absurd within
entry_parameter ps u (Compool place) declarations none common item within = absurd (cc)
entry_parameter ps u (Procedure place inputs outputs mode) declarations none common item within = kept_passes (is_shown ps u (entries declarations)) (OfItem common item) (entries declarations) within
entry_parameter ps u (Function place inputs returns mode) declarations none common item within = kept_passes (is_shown ps u (entries declarations)) (OfItem common item) (entries declarations) within

some_same : {m n : ℕ} → Some m ≡ Some n → m ≡ n
some_same is = cc

same_there : (p q : Phrase) → Some p ≡ Some q → p ≡ q
same_there p q is = cc

module _ (files : List File) (named : IsSound rows (phrases_of files))
    (gives : (p : Phrase) (name : Naming) (head : Head) (declarations : List Declaration) → IsAmong p (phrases_of files) → p.node ≡ OfTemplate name head declarations → GivesItsUnit (phrases_of files) p name head declarations)
    (k : ℕ) (p : Phrase) (common : List Attribute) (item : Declared) (there : slice_get (phrases_of files) k ≡ Some p) (is : p.node ≡ OfItem common item) where
  abbrev ps : List Phrase
  ps = phrases_of files

  abbrev name : List ℕ
  name = item.name.name

  -- what declares it is one with what its name belongs to
  own_item : IsOwn ps p.around.home name p
  unfolding declared_at given
  own_item = is_own files named p (OfItem common item) item.name p.around.home (at_among ps k p there) is refl refl refl

  home_is : (q : Phrase) (u : ℕ) (other_common : List Attribute) (other : Declared) → q.node ≡ OfItem other_common other → IsOwn ps u other.name.name q → q.around.home ≡ u
  unfolding declared_at
  home_is q u other_common other declares_ owned =
      let first = own_first ps (key space.Declared u other.name.name) q.number (phrases_counted files) owned.found in
      let one : first.declaring ≡ q = same_there first.declaring q (sym first.there ∙ owned.there) in
      let keyed : Some (key space.Declared q.around.home other.name.name) ≡ Some (key space.Declared u other.name.name) =
      ap (declared_at q.number q.around) (sym declares_) ∙ (ap declared_by (sym one) ∙ first.declares) in
      ap (λ (o : Option Key). elim o [ None ↦ 0 | Some w ↦ w.owner ]) keyed

  -- what is the same as an entry of the name is the same as it
  partner_same : {y : Node} (u : ℕ) (c : List Attribute) (x : Declared) → x.name.name ≡ name → (one : IsSameItem ps (known ps) p.around.home u c x y)
      → IsSameData ps (known ps) p common item.attributes one.q one.other_common one.other.attributes
  partner_same u c x x_named one =
      let found_here : own ps (key space.Declared p.around.home name) ≡ Some one.p.number = subst (λ (n : List ℕ). own ps (key space.Declared p.around.home n) ≡ Some one.p.number) x_named one.mine.found in
      let number : one.p.number ≡ p.number = some_same (sym found_here ∙ own_item.found) in
      let phrase_same : one.p ≡ p = same_there one.p p (sym one.mine.there ∙ (ap (slice_get ps) number ∙ own_item.there)) in
      let node_same : OfItem c x ≡ OfItem common item = sym one.node ∙ (ap (λ (r : Phrase). r.node) phrase_same ∙ is) in
      let of_common : c ≡ common = cc in
      let of_item : x ≡ item = cc in
      subst (λ (r : Phrase). IsSameData ps (known ps) r common item.attributes one.q one.other_common one.other.attributes) phrase_same
      (subst (λ (d : Declared). IsSameData ps (known ps) one.p common d.attributes one.q one.other_common one.other.attributes) of_item
      (subst (λ (xs : List Attribute). IsSameData ps (known ps) one.p xs x.attributes one.q one.other_common one.other.attributes) of_common one.same))

  pooled_stands : (f : Phrase) (prefaces : List Preface) (unit : Naming) → slice_get ps p.around.home ≡ Some f → f.node ≡ OfFile prefaces unit → IsPooled ps p.around.home prefaces name → StandsForData ps k p common item
  pooled_stands f prefaces unit home file pooled_ =
      let given_ = gives pooled_.phrase pooled_.template pooled_.head pooled_.declarations pooled_.within pooled_.is in
      let u : ℕ = given_.unit.number in
      let homes : home_of pooled_.phrase pooled_.head ≡ p.around.home =
      ap (λ b. if b then pooled_.phrase.around.home else pooled_.phrase.number) (compool_same pooled_.head pooled_.compool) ∙ pooled_.here in
      let meanings : AreSameNames ps (known ps) p.around.home (entries pooled_.declarations) u (own_entries ps u given_.unit_head given_.unit_declarations) =
      subst (λ h. AreSameNames ps (known ps) h (entries pooled_.declarations) u (own_entries ps u given_.unit_head given_.unit_declarations)) homes given_.meanings in
      let entry = declared_entry name pooled_.declarations pooled_.says in
      let partner = partner_of ps (known ps) p.around.home (entries pooled_.declarations) u (own_entries ps u given_.unit_head given_.unit_declarations) meanings (OfItem entry.common entry.item) entry.within in
      finish f prefaces unit home file pooled_ u given_.unit entry.common entry.item entry.named (item_same partner.same entry.common entry.item refl) given_.is_unit.found given_.is_unit.there (ap is_unit given_.is_unit.is) where
        finish : {y : Node} (f : Phrase) (prefaces : List Preface) (unit : Naming) → slice_get ps p.around.home ≡ Some f → f.node ≡ OfFile prefaces unit → (pooled_ : IsPooled ps p.around.home prefaces name) (u : ℕ) (own_unit : Phrase) (c : List Attribute) (x : Declared)
            → x.name.name ≡ name → IsSameItem ps (known ps) p.around.home u c x y → unit_named ps pooled_.template.name ≡ Some u → slice_get ps u ≡ Some own_unit → is_unit own_unit.node ≡ true → StandsForData ps k p common item
        finish f prefaces unit home file pooled_ u own_unit c x x_named one found at is_one =
            record {
              phrase = one.q;
              stands =
                  ap (λ (o : Option ℕ). elim o [ None ↦ k | Some other ↦ other ])
                  (ap (option_and_then (λ (r : Phrase). meant_at ps r r.node)) there
                  ∙ (ap (meant_at ps p) is
                  ∙ (ap (option_and_then (λ (h : Phrase). pooled_at ps name h.node)) home
                  ∙ (ap (pooled_at ps name) file
                  ∙ (ap (option_and_then (λ pool. pooled ps pool name)) pooled_.pool
                  ∙ (ap (option_and_then (λ v. own ps (key space.Declared v name))) found
                  ∙ subst (λ (n : List ℕ). own ps (key space.Declared u n) ≡ Some one.q.number) (sym one.named ∙ x_named) one.theirs.found))))));
              there = one.theirs.there;
              other_common = one.other_common;
              other = one.other;
              declares = one.declares;
              named = sym one.named ∙ x_named;
              within = ap (is_in_unit ps) (home_is one.q u one.other_common one.other one.declares one.theirs) ∙ (ap (λ (o : Option Phrase). elim o [ None ↦ false | Some h ↦ is_unit h.node ]) at ∙ is_one);
              same = partner_same u c x x_named one;
            }

  pub data_stand : (f : Phrase) (prefaces : List Preface) (unit : Naming) → slice_get ps p.around.home ≡ Some f → f.node ≡ OfFile prefaces unit → StandsForData ps k p common item
  data_stand f prefaces unit home file =
      let held : AreHeld ps p.around.home name = subst (NodeHeld ps p) is (data_are_held files p (at_among ps k p there)) in
      let same : held.phrase ≡ f = let both : Some held.phrase ≡ Some f = sym held.there ∙ home in cc in
      let holds : HoldsData ps p.around.home (OfFile prefaces unit) name = subst (λ (n : Node). HoldsData ps p.around.home n name) (ap (λ (h : Phrase). h.node) same ∙ file) held.holds in
      pooled_stands f prefaces unit home file holds

  -- what a template declares for itself is a parameter of its unit: no event and no constant
  module _ (sound : IsSound type_rows ps) (counted : IsCounted ps) where
    parameter_plain : (u : ℕ) (other_common : List Attribute) (other : Declared) (q : Phrase) → IsOwn ps u other.name.name q → q.node ≡ OfItem other_common other → is_parameter_of ps u other.name.name ≡ true
        → IsSameData ps (known ps) p common item.attributes q other_common other.attributes → is_plain common item ≡ true
    parameter_plain u other_common other q owned declares_ parameter same =
        let within = at_among ps q.number q owned.there in
        let home = home_is q u other_common other declares_ owned in
        let of_q : is_parameter ps q other.name.name ≡ true = ap (λ h. is_some (own ps (key space.Parameter h other.name.name))) home ∙ parameter in
        let eventless : is_event_type (type_of common item) ≡ false = same.attributes.words.event ∙ parameter_eventless ps sound q other_common other within declares_ of_q in
        let variable : is_some (attributes.constant_of common item) ≡ false = same.attributes.words.constant ∙ parameter_stored ps sound q other_common other within declares_ of_q in
        ap (λ b. not b && not (is_value_item common item)) eventless ∙ ap (λ b. not (b && (not (is_some (sizes_of common item)) && not (is_structure_type (type_of common item))))) variable

    template_plain : (t : Phrase) (template : Naming) (head : Head) (declarations : List Declaration) → slice_get ps p.around.home ≡ Some t → t.node ≡ OfTemplate template head declarations → is_compool_head head ≡ false
        → list_any (declares name) declarations ≡ true → is_plain common item ≡ true
    template_plain t template head declarations there_ node called says =
        let given_ = gives t template head declarations (at_among ps p.around.home t there_) node in
        let u : ℕ = given_.unit.number in
        let homes : home_of t head ≡ p.around.home = ap (λ b. if b then t.around.home else t.number) (other_head head called) ∙ counted p.around.home t there_ in
        let meanings : AreSameNames ps (known ps) p.around.home (entries declarations) u (own_entries ps u given_.unit_head given_.unit_declarations) =
        subst (λ h. AreSameNames ps (known ps) h (entries declarations) u (own_entries ps u given_.unit_head given_.unit_declarations)) homes given_.meanings in
        let entry = declared_entry name declarations says in
        let partner = partner_of ps (known ps) p.around.home (entries declarations) u (own_entries ps u given_.unit_head given_.unit_declarations) meanings (OfItem entry.common entry.item) entry.within in
        let one = item_same partner.same entry.common entry.item refl in
        parameter_plain u one.other_common one.other one.q one.theirs one.declares
        (entry_parameter ps u given_.unit_head given_.unit_declarations (not_compool ps (known ps) t given_.unit head given_.unit_head given_.heads called) one.other_common one.other
        (subst (λ (n : Node). IsAmong n (own_entries ps u given_.unit_head given_.unit_declarations)) one.listed partner.within))
        (partner_same u entry.common entry.item entry.named one)

    -- other data stand for themselves
    pub data_or_itself : StandsForData ps k p common item ⊎ StandsForItself ps k p common item
    unfolding prefaces_of
    data_or_itself = by held.phrase.node refl held.holds where
      held : AreHeld ps p.around.home name
      held = subst (NodeHeld ps p) is (data_are_held files p (at_among ps k p there))

      none : (n : Node) → held.phrase.node ≡ n → pooled_at ps name n ≡ None → standing_for ps k ≡ k
      none n node is_none =
          ap (λ (o : Option ℕ). elim o [ None ↦ k | Some other ↦ other ])
          (ap (option_and_then (λ (r : Phrase). meant_at ps r r.node)) there
          ∙ (ap (meant_at ps p) is ∙ (ap (option_and_then (λ (h : Phrase). pooled_at ps name h.node)) held.there ∙ (ap (pooled_at ps name) node ∙ is_none))))

      outside : (n : Node) → held.phrase.node ≡ n → is_some (prefaces_of n) ≡ false → is_in_file ps p.around.home ≡ false
      outside n node is_none = ap (λ (o : Option Phrase). elim o [ None ↦ false | Some f ↦ is_some (prefaces_of f.node) ]) held.there ∙ (ap (λ m. is_some (prefaces_of m)) node ∙ is_none)

      unit_there : (unit : Naming) (head : Head) (declarations : List Declaration) → held.phrase.node ≡ OfUnit unit head declarations → is_in_unit ps p.around.home ≡ true
      unit_there unit head declarations node = ap (λ (o : Option Phrase). elim o [ None ↦ false | Some h ↦ is_unit h.node ]) held.there ∙ ap is_unit node

      by : (n : Node) → held.phrase.node ≡ n → HoldsData ps p.around.home n name → StandsForData ps k p common item ⊎ StandsForItself ps k p common item
      by (OfFile prefaces unit) node holds = inl (data_stand held.phrase prefaces unit held.there node)
      by (OfUnit unit head declarations) node holds = inr (none (OfUnit unit head declarations) node refl, outside (OfUnit unit head declarations) node refl, inl (unit_there unit head declarations node))
      by (OfTemplate template head declarations) node holds =
          inr (
            none (OfTemplate template head declarations) node refl,
            outside (OfTemplate template head declarations) node refl,
            inr (template_plain held.phrase template head declarations held.there node holds.0 holds.1),
          )
      by other node holds = absurd holds
