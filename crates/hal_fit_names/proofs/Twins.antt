-- What a written template of a unit that is called declares of a parameter is the same as what the unit does.
use Rattle.std.proofs.Common.{◌≡◌, ℕ, Bool, true, false, cond, List, [], ◌∷◌, Option, Some, None, filter, slice_get, refl, sym, ap, ◌∙◌, subst, inl, inr, ◌⊎◌, if◌then◌else◌}
use Rattle.std.specs.List.{list_any}
use Rattle.std.specs.Option.{option_and_then}
use Rattle.hal_grammar.specs.Leaves.{Naming}
use Rattle.hal_grammar.specs.Declarations.{Attribute, Declaration, Declared}
use Rattle.hal_grammar.specs.Units.{Compool, File, Head, Program, Task, Procedure, Function}
use Rattle.hal_phrases.specs.Phrases.{Node, Phrase, OfItem, OfUnit}
use Rattle.hal_phrases.specs.GatheredUnits.{phrases_of}
use Rattle.hal_names.specs.declared.key.Key.{Key}
use Rattle.hal_names.specs.declared.key.Space.TheVariants as space
use Rattle.hal_names.specs.Keys.{declared_at, declared_by, key, own}
use Rattle.hal_names.specs.Laws.{IsCounted, IsFirst}
use Rattle.hal_scope.specs.Rules.{IsAmong}
use Rattle.hal_shapes.specs.Arguments.{parameter_of}
use Rattle.hal_constants.specs.Known.{known}
use Rattle.hal_templates.specs.Agreeing.{IsSameData}
use Rattle.hal_templates.specs.Entries.{entries}
use Rattle.hal_templates.specs.Giving.{AreSameNames, IsData, IsOwn, IsSameName, IsStructure}
use Rattle.hal_templates.specs.Own.{is_parameter_of, is_shown, own_entries}
use Rattle.hal_templates.specs.Templates.{home_of}
use Rattle.hal_meaning.specs.Bodies.{declares, is_called_head, is_compool_head}
use Rattle.hal_fit_names.specs.Used.{IsDeclaredParameter}
use Rattle.hal_fit_names.proofs.Placing.{at_among}
use Rattle.hal_fit_names.proofs.Pooling.{AreHeld, HoldsData, NodeHeld, data_are_held}
use Rattle.hal_fit_names.proofs.Standing.{declared_entry, other_head}

-- data of a name that a template declares, and the same of its unit
pub record IsTwin (ps : List Phrase) (k u : ℕ) (name : List ℕ) : Type 0 where
  pub phrase : Phrase
  pub common : List Attribute
  pub item : Declared
  pub mine : IsOwn ps k name phrase
  pub declares_it : phrase.node ≡ OfItem common item
  pub other : Phrase
  pub other_common : List Attribute
  pub other_item : Declared
  pub theirs : IsOwn ps u name other
  pub declares_other : other.node ≡ OfItem other_common other_item
  pub same : IsSameData ps (known ps) phrase common item.attributes other other_common other_item.attributes

twin_by : {ps : List Phrase} {h u : ℕ} {x y : Node} → IsSameName ps (known ps) h u x y → (common : List Attribute) (item : Declared) → y ≡ OfItem common item → IsTwin ps h u item.name.name
twin_by {ps = ps} {h = h} {u = u} (IsData c other_common a b p q named mine this theirs that means) common item is =
    let of_item : b ≡ item = cc in
    subst (λ (d : Declared). IsTwin ps h u d.name.name) of_item
    (record {
      phrase = p;
      common = c;
      item = a;
      mine = subst (λ (n : List ℕ). IsOwn ps h n p) named mine;
      declares_it = this;
      other = q;
      other_common = other_common;
      other_item = b;
      theirs = theirs;
      declares_other = that;
      same = means;
    })
twin_by (IsStructure name other xs ys p q named mine this theirs that parts) common item is = absurd (cc)

twin_of : (ps : List Phrase) (h : ℕ) (xs : List Node) (u : ℕ) (ys : List Node) → AreSameNames ps (known ps) h xs u ys → (common : List Attribute) (item : Declared) → IsAmong (OfItem common item) ys → IsTwin ps h u item.name.name
twin_of ps h [] u [] same common item within = absurd within
twin_of ps h [] u (y ∷ ys) same common item within = absurd same
twin_of ps h (x ∷ xs) u [] same common item within = absurd within
twin_of ps h (x ∷ xs) u (y ∷ ys) same common item (inl is) = twin_by same.0 common item (sym is)
twin_of ps h (x ∷ xs) u (y ∷ ys) same common item (inr later) = twin_of ps h xs u ys same.1 common item later

-- what passes is kept
passing_kept : (test : Node → Bool) (x : Node) (xs : List Node) → test x ≡ true → IsAmong x xs → IsAmong x (filter test xs)
passing_kept test x [] is within = absurd within
passing_kept test x (y ∷ ys) is within = by (test y) refl within (passing_kept test x ys is) where
  by : (b : Bool) → test y ≡ b → (x ≡ y) ⊎ IsAmong x ys → (IsAmong x ys → IsAmong x (filter test ys)) → IsAmong x (cond b (y ∷ filter test ys) (filter test ys))
  by true passes (inl same) rest = inl same
  by true passes (inr later) rest = inr (rest later)
  by false passes (inl same) rest = absurd (let other : true ≡ false = sym is ∙ (ap test same ∙ passes) in cc)
  by false passes (inr later) rest = rest later

-- a parameter is in the own template of its unit
parameter_entry : (ps : List Phrase) (u : ℕ) (head : Head) (declarations : List Declaration) → is_called_head head ≡ true → (common : List Attribute) (item : Declared) → is_parameter_of ps u item.name.name ≡ true
    → IsAmong (OfItem common item) (entries declarations) → IsAmong (OfItem common item) (own_entries ps u head declarations)
unfolding own_entries is_shown
parameter_entry ps u (Program place) declarations called common item parameter within = absurd (cc)
parameter_entry ps u (Task place) declarations called common item parameter within = absurd (cc)
parameter_entry ps u (Compool place) declarations called common item parameter within = absurd (cc)
parameter_entry ps u (Procedure place inputs outputs mode) declarations called common item parameter within =
    passing_kept (is_shown ps u (entries declarations)) (OfItem common item) (entries declarations) parameter within
parameter_entry ps u (Function place inputs returns mode) declarations called common item parameter within =
    passing_kept (is_shown ps u (entries declarations)) (OfItem common item) (entries declarations) parameter within

no_compool : (head : Head) → is_called_head head ≡ true → is_compool_head head ≡ false
no_compool (Program place) is = refl
no_compool (Task place) is = refl
no_compool (Compool place) is = absurd (cc)
no_compool (Procedure place inputs outputs mode) is = refl
no_compool (Function place inputs returns mode) is = refl

some_phrase : (p q : Phrase) → Some p ≡ Some q → p ≡ q
some_phrase p q is = cc

-- the key of a declaration
abbrev owner_in : Option Key → ℕ
owner_in None = 0
owner_in (Some k) = k.owner

abbrev name_in : Option Key → List ℕ
name_in None = []
name_in (Some k) = k.name

-- what a parameter of a unit is declared by
pub parameter_own : (ps : List Phrase) → IsCounted ps → (u : ℕ) (name : Naming) (q : Phrase) → parameter_of ps u name ≡ Some q → IsOwn ps u name.name q
unfolding parameter_of
parameter_own ps counted u name q is = by (own ps (key space.Declared u name.name)) refl is where
  by : (o : Option ℕ) → own ps (key space.Declared u name.name) ≡ o → option_and_then (λ i. slice_get ps i) o ≡ Some q → IsOwn ps u name.name q
  by None found there = absurd (cc)
  by (Some j) found there = record { found = found ∙ ap Some (sym (counted j q there)); there = ap (slice_get ps) (counted j q there) ∙ there }

module _ (files : List File) (counted : IsCounted (phrases_of files)) (first : (q : Key) (n : ℕ) → own (phrases_of files) q ≡ Some n → IsFirst (phrases_of files) q n)
    (t unit : Phrase) (template naming : Naming) (head unit_head : Head) (declarations unit_declarations : List Declaration) (k : ℕ) (there : slice_get (phrases_of files) k ≡ Some t)
    (called : is_called_head head ≡ true) (called_too : is_called_head unit_head ≡ true)
    (unit_there : slice_get (phrases_of files) unit.number ≡ Some unit) (unit_is : unit.node ≡ OfUnit naming unit_head unit_declarations)
    (meanings : AreSameNames (phrases_of files) (known (phrases_of files)) (home_of t head) (entries declarations) unit.number (own_entries (phrases_of files) unit.number unit_head unit_declarations)) where
  -- a parameter of the unit, and what the template declares of it
  pub parameter_twin : (name : Naming) → IsDeclaredParameter (phrases_of files) unit.number name → is_parameter_of (phrases_of files) unit.number name.name ≡ true → IsTwin (phrases_of files) k unit.number name.name
  unfolding declared_at
  parameter_twin name is parameter =
      let ps : List Phrase = phrases_of files in
      let u : ℕ = unit.number in
      let owned = parameter_own ps counted u name is.phrase is.found in
      let one = first (key space.Declared u name.name) is.phrase.number owned.found in
      let same_phrase : one.declaring ≡ is.phrase = some_phrase one.declaring is.phrase (sym one.there ∙ owned.there) in
      let keyed : Some (key space.Declared is.phrase.around.home is.item.name.name) ≡ Some (key space.Declared u name.name) =
      ap (declared_at is.phrase.number is.phrase.around) (sym is.declares) ∙ (ap declared_by (sym same_phrase) ∙ one.declares) in
      let held : AreHeld ps is.phrase.around.home is.item.name.name =
      subst (NodeHeld ps is.phrase) is.declares (data_are_held files is.phrase (at_among ps is.phrase.number is.phrase owned.there)) in
      let unit_same : held.phrase ≡ unit = some_phrase held.phrase unit (sym held.there ∙ (ap (slice_get ps) (ap owner_in keyed) ∙ unit_there)) in
      let says : list_any (declares is.item.name.name) unit_declarations ≡ true =
      subst (λ (n : Node). HoldsData ps is.phrase.around.home n is.item.name.name) (ap (λ (p : Phrase). p.node) unit_same ∙ unit_is) held.holds in
      let entry = declared_entry is.item.name.name unit_declarations says in
      let entry_name : entry.item.name.name ≡ name.name = entry.named ∙ ap name_in keyed in
      let homes : home_of t head ≡ k = ap (λ b. if b then t.around.home else t.number) (other_head head (no_compool head called)) ∙ counted k t there in
      subst (λ (n : List ℕ). IsTwin ps k u n) entry_name
      (twin_of ps k (entries declarations) u (own_entries ps u unit_head unit_declarations)
      (subst (λ h. AreSameNames ps (known ps) h (entries declarations) u (own_entries ps u unit_head unit_declarations)) homes meanings) entry.common entry.item
      (parameter_entry ps u unit_head unit_declarations called_too entry.common entry.item (ap (is_parameter_of ps u) entry_name ∙ parameter) entry.within))
