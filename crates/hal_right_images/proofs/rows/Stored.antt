-- Parameters of units are declared as data that have elements, and are stored in own places or as references.
use Rattle.std.specs.Prelude.{◌≡◌, ℕ, zero, suc, Bool, true, false, not, ◌||◌, ◌&&◌, List, [], ◌∷◌, ◌++◌, flat_map, Option, Some, None, slice_get, if◌then◌else◌}
use Rattle.std.specs.Option.{option_and_then, option_or}
use Rattle.std.proofs.Common.{refl, sym, ap, subst, ◌∙◌, inl, inr}
use Rattle.std.proofs.lemmas.Bool.{eqb-true}
use Rattle.hal_grammar.specs.Leaves.{Naming}
use Rattle.hal_grammar.specs.Declarations.{Attribute, Declared, Declaration}
use Rattle.hal_grammar.specs.Units.{Head, File}
use Rattle.hal_phrases.specs.Phrases.{Node, Phrase, OfUnit, OfParameter, OfItem, OfStructure}
use Rattle.hal_phrases.specs.GatheredUnits.{phrases_of}
use Rattle.hal_names.specs.declared.key.Key.{Key}
use Rattle.hal_names.specs.declared.key.Space.TheVariants as space
use Rattle.hal_names.specs.Keys.{key, declared_at, declared_by, own}
use Rattle.hal_names.specs.Means.{means}
use Rattle.hal_scope.specs.Repeated.{given, is_number, is_first, is_given_before, is_of_block, is_included_before, twice, included_twice, repeated, is_item, is_item_at, undeclared}
use Rattle.hal_scope.specs.Rules.{IsAmong, IsSound, rows, ruled}
use Rattle.hal_scope.specs.Sorts.{type_in, type_among, type_of}
use Rattle.hal_scope.specs.Uses.{unless}
use Rattle.hal_constants.specs.Known.{Known, known}
use Rattle.hal_meaning.specs.Bodies.{Body, is_unit}
use Rattle.hal_meaning.specs.Elements.{kinds_of_component, components_at, components_named, shape_of, kinds_of}
use Rattle.hal_meaning.specs.Expressions.{inputs_at, outputs_at}
use Rattle.hal_meaning.specs.Places.{Storing, InPlaces, ByReference, Unstored, parameter_at, parameter, is_in_unit, storing_of_item}
use Rattle.hal_meaning.specs.Calls.{inputs_of, outputs_of}
use Rattle.hal_meaning.specs.Sets.{set_of, body_at}
use Rattle.hal_fit_calls.specs.Each.{Each}
use Rattle.hal_fit_layout.specs.Owned.{has_one, IsStored, AreStored}
use Rattle.hal_right_images.specs.rows.Parts.{HaveParts}
use Rattle.hal_right_images.proofs.rows.Bodied.{IsBody, body_is}
use Rattle.hal_right_images.proofs.rows.Filled.{HasComponents, parts_one, shape_one}
use Rattle.hal_right_images.proofs.rows.LookingUp.{LooksUp}
use Rattle.hal_right_images.proofs.rows.Rules.{ruled_none, unbroken}
use Rattle.hal_right_images.proofs.rows.Templates.{names_structure, unless_true}
use Rattle.hal_right_images.proofs.rows.Told.{names_of, unit_head, IsToldNode, IsTold}
use Rattle.hal_right_images.proofs.rows.ToldUnits.{set_told}

or_or : {X : Type 0} (one other third : Option X) → option_or (option_or one other) third ≡ option_or one (option_or other third)
or_or None other third = refl
or_or (Some x) other third = refl

-- the type of a name that is declared is the first one among its attributes and those before the comma
types_joined : (xs ys : List Attribute) → type_among (xs ++ ys) ≡ option_or (type_among xs) (type_among ys)
unfolding type_among
types_joined [] ys = refl
types_joined (x ∷ xs) ys = ap (option_or (type_in x)) (types_joined xs ys) ∙ sym (or_or (type_in x) (type_among xs) (type_among ys))

pub each_at : {X : Type 0} (P : X → Type 0) (xs : List X) (k : ℕ) (x : X) → Each P xs → slice_get xs k ≡ Some x → P x
each_at P [] k x each is = absurd (cc)
each_at P (y ∷ xs) zero x each is = subst P (let same : y ≡ x = cc in same) each.0
each_at P (y ∷ xs) (suc k) x each is = each_at P xs k x each.1 is

place_of : {X : Type 0} (xs : List X) (x : X) → IsAmong x xs → (k : ℕ) × (slice_get xs k ≡ Some x)
place_of [] x within = absurd within
place_of (y ∷ xs) x (inl same) = (zero, ap Some (sym same))
place_of (y ∷ xs) x (inr later) = let found = place_of xs x later in (suc found.0, found.1)

-- a node with the head of a unit
head_node : (node : Node) (head : Head) → unit_head node ≡ Some head → (name : Naming) × (declarations : List Declaration) × (node ≡ OfUnit name head declarations)
head_node (OfUnit name own declarations) head is = (name, declarations, ap (λ h. OfUnit name h declarations) (let same : own ≡ head = cc in same))
head_node other head is = absurd (cc)

-- a node that is an item
item_node : (node : Node) → is_item node ≡ true → (common : List Attribute) × (item : Declared) × (node ≡ OfItem common item)
unfolding is_item
item_node (OfItem common item) is = (common, item, refl)
item_node other is = absurd (cc)

-- how a parameter is stored
abbrev pub way : Bool → Storing
way true = ByReference
way false = InPlaces

way_is : (ps : List Phrase) (vs : Known) (p : Phrase) (common : List Attribute) (item : Declared) (output : Bool) → storing_of_item ps vs p common item (Some output) ≡ way output
way_is ps vs p common item true = refl
way_is ps vs p common item false = refl

first_none : {X : Type 0} (one other : Option X) → option_or one other ≡ None → one ≡ None
first_none None other is = refl
first_none (Some x) other is = absurd (cc)

first_so : (first : Bool) (other : Bool) → not (not first || other) ≡ true → first ≡ true
first_so true other is = refl
first_so false other is = absurd (cc)

module _ (files : List File) (looks : LooksUp (phrases_of files)) (sound : IsSound rows (phrases_of files)) where
  abbrev ps : List Phrase
  ps = phrases_of files

  abbrev vs : Known
  vs = known (phrases_of files)

  pub told_at : (k : ℕ) (p : Phrase) → slice_get ps k ≡ Some p → IsTold ps p
  told_at k p is = each_at (IsTold ps) ps k p (set_told files) is

  -- rule 606: the unit of a parameter declares it
  item_there : (q : Phrase) → IsAmong q ps → (name : Naming) (output : Bool) → q.node ≡ OfParameter name output → is_item_at ps (own ps (key space.Declared q.around.home name.name)) ≡ true
  unfolding undeclared
  item_there q within name output is =
      unless_true (is_item_at ps (own ps (key space.Declared q.around.home name.name))) name.place
      (ap (undeclared ps q) (sym is) ∙ ruled_none 606 (undeclared ps q q.node) (unbroken rows ps sound q within (λ qs p. ruled 606 (undeclared qs p p.node)) (inr (inr (inr (inr (inr (inl refl))))))))

  -- rule 602: it is the first parameter of its name
  first_there : (q : Phrase) → IsAmong q ps → (name : Naming) (output : Bool) → q.node ≡ OfParameter name output → is_first ps q ≡ true
  unfolding twice given
  first_there q within name output is =
      let none = first_none (twice ps q) (included_twice ps q q.node) (ruled_none 602 (repeated ps q) (unbroken rows ps sound q within (λ qs p. ruled 602 (repeated qs p)) (inr (inl refl)))) in
      first_so (is_first ps q) (is_of_block q.node && is_included_before ps q name.name)
      (unless_true (not (is_given_before ps q name.name)) name.place (ap (λ (node : Node). option_and_then (λ (n : Naming). unless (not (is_given_before ps q n.name)) n.place) (given node)) (sym is) ∙ none))

  -- so the block's parameter of this name is that one
  parameter_is : (q : Phrase) → IsAmong q ps → (name : Naming) (output : Bool) → q.node ≡ OfParameter name output → parameter ps q.around.home name.name ≡ Some output
  unfolding declared_at
  parameter_is q within name output is = by (own ps (key space.Parameter q.around.home name.name)) refl where
    declares : declared_by q ≡ Some (key space.Parameter q.around.home name.name)
    declares = ap (declared_at q.number q.around) is

    at : (k : ℕ) × (slice_get ps k ≡ Some q)
    at = place_of ps q within

    first : is_number q.number (own ps (key space.Parameter q.around.home name.name)) ≡ true
    first = ap (λ (o : Option Key). elim o [ None ↦ true | Some k ↦ is_number q.number (own ps k) ]) (sym declares) ∙ first_there q within name output is

    by : (o : Option ℕ) → own ps (key space.Parameter q.around.home name.name) ≡ o → parameter ps q.around.home name.name ≡ Some output
    by None none = absurd (looks.lacking (key space.Parameter q.around.home name.name) none at.0 q at.1 declares)
    by (Some n) found =
        let same : n ≡ q.number = eqb-true n q.number (ap (is_number q.number) (sym found) ∙ first) in
        let number : n ≡ at.0 = same ∙ looks.counted at.0 q at.1 in
        let there : slice_get ps n ≡ Some q = ap (slice_get ps) number ∙ at.1 in
        ap (λ (o : Option ℕ). option_and_then (λ (p : Phrase). parameter_at p.node) (option_and_then (slice_get ps) o)) found
        ∙ (ap (λ (o : Option Phrase). option_and_then (λ (p : Phrase). parameter_at p.node) o) there ∙ ap parameter_at is)

  -- what declares it
  record IsItem (home : ℕ) (name : List ℕ) : Type 0 where
    number : ℕ
    found : own ps (key space.Declared home name) ≡ Some number
    phrase : Phrase
    there : slice_get ps number ≡ Some phrase
    common : List Attribute
    item : Declared
    node : phrase.node ≡ OfItem common item
    at_home : phrase.around.home ≡ home
    same : item.name.name ≡ name

  item_is : (home : ℕ) (name : List ℕ) → is_item_at ps (own ps (key space.Declared home name)) ≡ true → IsItem home name
  unfolding declared_at
  item_is home name is = by (own ps (key space.Declared home name)) refl is where
    found_item : (number : ℕ) → own ps (key space.Declared home name) ≡ Some number → (o : Option Phrase) → slice_get ps number ≡ o → elim o [ None ↦ false | Some p ↦ is_item p.node ] ≡ true → IsItem home name
    found_item number found None there so = absurd (cc)
    found_item number found (Some p) there so =
        let node = item_node p.node so in
        let first = looks.found (key space.Declared home name) number found in
        let here = first.there in
        let one : first.declaring ≡ p = cc in
        let keyed : Some (key space.Declared p.around.home node.1.name.name) ≡ Some (key space.Declared home name) =
        sym (ap (declared_at p.number p.around) node.2) ∙ (sym (ap declared_by one) ∙ first.declares) in
        record {
          number = number;
          found = found;
          phrase = p;
          there = there;
          common = node.0;
          item = node.1;
          node = node.2;
          at_home = (let inner : key space.Declared p.around.home node.1.name.name ≡ key space.Declared home name = cc in ap (λ (k : Key). k.owner) inner);
          same = (let inner : key space.Declared p.around.home node.1.name.name ≡ key space.Declared home name = cc in ap (λ (k : Key). k.name) inner);
        }

    by : (o : Option ℕ) → own ps (key space.Declared home name) ≡ o → is_item_at ps o ≡ true → IsItem home name
    by None found so = absurd (cc)
    by (Some number) found so = found_item number found (slice_get ps number) refl so

  module _ (parts : HaveParts (phrases_of files)) where
    -- its structure has components
    components_there : (number : ℕ) (p : Phrase) → slice_get ps number ≡ Some p → (common : List Attribute) (item : Declared) → p.node ≡ OfItem common item → HasComponents ps vs p (type_of common item)
    components_there number p there common item node place template copies is =
        let told = subst (IsToldNode ps p) node (told_at number p there) in
        let type = told.1 place template copies is in
        let named = names_structure ps looks.meant sound type.phrase type.among type.place template type.is in
        let some = parts named.number named.phrase named.structure.name named.structure.parts named.there named.structure.is in
        let meant : means ps p.around.block template ≡ Some named.number = ap (λ block. means ps block template) (sym type.its) ∙ named.meant in
        let cs : components_named ps vs p.around.block template ≡ components_at ps vs named.phrase (OfStructure named.structure.name named.structure.parts) =
        ap (λ (o : Option ℕ). elim (option_and_then (slice_get ps) o) [ None ↦ [] | Some x ↦ components_at ps vs x x.node ]) meant
        ∙ (ap (λ (o : Option Phrase). elim o [ None ↦ [] | Some x ↦ components_at ps vs x x.node ]) named.there ∙ ap (components_at ps vs named.phrase) named.structure.is) in
        ap (λ l. has_one (flat_map kinds_of_component l)) cs ∙ parts_one ps vs named.phrase [] named.structure.parts some

    -- so data have elements
    pub item_some : (number : ℕ) (p : Phrase) → slice_get ps number ≡ Some p → (common : List Attribute) (item : Declared) → p.node ≡ OfItem common item → has_one (kinds_of (shape_of ps vs p common item)) ≡ true
    item_some number p there common item node = by (components_there number p there common item node) where
      by : HasComponents ps vs p (type_of common item) → has_one (kinds_of (shape_of ps vs p common item)) ≡ true
      by has = shape_one ps vs p (item.attributes ++ common) (type_among (item.attributes ++ common)) (λ place template copies is. has place template copies (sym (types_joined item.attributes common) ∙ is))

    -- a parameter that the head of a unit lists
    pub parameter_stored : (turns unit : ℕ) (p : Phrase) (head : Head) → slice_get ps unit ≡ Some p → unit_head p.node ≡ Some head → (output : Bool) (name : Naming) → IsAmong name (names_of head output)
        → IsStored (set_of turns files) unit name (way output)
    parameter_stored turns unit p head there is output name within =
        let node = head_node p.node head is in
        let told = subst (IsToldNode ps p) node.2 (told_at unit p there) in
        let q = told output name within in
        let home : q.phrase.around.home ≡ unit = q.its ∙ looks.counted unit p there in
        let found = item_is unit name.name (subst (λ h. is_item_at ps (own ps (key space.Declared h name.name)) ≡ true) home (item_there q.phrase q.among name output q.is)) in
        let its : parameter ps unit name.name ≡ Some output = subst (λ h. parameter ps h name.name ≡ Some output) home (parameter_is q.phrase q.among name output q.is) in
        let of_item : parameter ps found.phrase.around.home found.item.name.name ≡ Some output =
        ap (λ h. parameter ps h found.item.name.name) found.at_home ∙ (ap (parameter ps unit) found.same ∙ its) in
        let in_unit : is_in_unit ps found.phrase.around.home ≡ true =
        ap (is_in_unit ps) found.at_home ∙ (ap (λ (o : Option Phrase). elim o [ None ↦ false | Some x ↦ is_unit x.node ]) there ∙ ap is_unit node.2) in
        record {
          number = found.number;
          phrase = found.phrase;
          common = found.common;
          item = found.item;
          found = found.found;
          there = found.there;
          node = found.node;
          home = found.at_home;
          stored_so = ap (λ b. if b then storing_of_item ps vs found.phrase found.common found.item (parameter ps found.phrase.around.home found.item.name.name) else Unstored) in_unit
              ∙ (ap (storing_of_item ps vs found.phrase found.common found.item) of_item ∙ way_is ps vs found.phrase found.common found.item output);
          some = item_some found.number found.phrase found.there found.common found.item found.node;
        }

    parameters_stored : (turns unit : ℕ) (p : Phrase) (head : Head) → slice_get ps unit ≡ Some p → unit_head p.node ≡ Some head → (output : Bool) (names : List Naming) → ((name : Naming) → IsAmong name names → IsAmong name (names_of head output))
        → AreStored (set_of turns files) unit names (way output)
    parameters_stored turns unit p head there is output [] among = tt
    parameters_stored turns unit p head there is output (name ∷ names) among =
        (parameter_stored turns unit p head there is output name (among name (inl refl)), parameters_stored turns unit p head there is output names (λ other within. among other (inr within)))

    -- those of a body
    body_stored : (turns unit : ℕ) (b : Body) → IsBody files unit b → (output : Bool) → AreStored (set_of turns files) unit (names_of b.head output) (way output)
    body_stored turns unit b one output = parameters_stored turns unit one.phrase b.head one.there one.head output (names_of b.head output) (λ name within. within)

    pub inputs_stored : (turns unit : ℕ) → AreStored (set_of turns files) unit (inputs_at (set_of turns files) unit) InPlaces
    inputs_stored turns unit = by (body_at (set_of turns files) unit) refl where
      by : (o : Option Body) → body_at (set_of turns files) unit ≡ o → AreStored (set_of turns files) unit (elim o [ None ↦ [] | Some b ↦ inputs_of b.head ]) InPlaces
      by None is = tt
      by (Some b) is = body_stored turns unit b (body_is files looks.counted turns unit b is) false

    pub outputs_stored : (turns unit : ℕ) → AreStored (set_of turns files) unit (outputs_at (set_of turns files) unit) ByReference
    outputs_stored turns unit = by (body_at (set_of turns files) unit) refl where
      by : (o : Option Body) → body_at (set_of turns files) unit ≡ o → AreStored (set_of turns files) unit (elim o [ None ↦ [] | Some b ↦ outputs_of b.head ]) ByReference
      by None is = tt
      by (Some b) is = body_stored turns unit b (body_is files looks.counted turns unit b is) true
