-- The references among the own places of processes are to shapes that are there.
use Rattle.std.specs.Prelude.{◌≡◌, ℕ, zero, suc, Bool, true, false, ◌||◌, List, [], ◌∷◌, ◌++◌, Option, Some, None, slice_get, if◌then◌else◌}
use Rattle.std.specs.Option.{option_and_then}
use Rattle.std.proofs.Common.{refl, sym, ap, subst, ◌∙◌}
use Rattle.hal_grammar.specs.Leaves.{Naming}
use Rattle.hal_grammar.specs.Declarations.{Automatic, Attribute, Declared}
use Rattle.hal_grammar.specs.Units.{Head, File}
use Rattle.hal_phrases.specs.Phrases.{Node, Phrase, OfParameter, OfItem, OfGroup, OfUnit, OfTemporaryGroup}
use Rattle.hal_phrases.specs.GatheredUnits.{phrases_of}
use Rattle.hal_names.specs.declared.key.Key.{Key}
use Rattle.hal_names.specs.declared.key.Space.TheVariants as space
use Rattle.hal_names.specs.Keys.{key, declared_at, own}
use Rattle.hal_scope.specs.Rules.{IsAmong, IsSound, rows}
use Rattle.hal_scope.specs.Sorts.{type_of}
use Rattle.hal_kinds.specs.Attributes.{has_mark}
use Rattle.hal_kinds.specs.Data.{is_event_type}
use Rattle.hal_constants.specs.Naming.{is_value_item}
use Rattle.hal_constants.specs.Known.{Known, known}
use Rattle.hal_values.specs.declared.value.Kind.{Kind}
use Rattle.hal_values.specs.declared.value.Value.{Value}
use Rattle.hal_meaning.specs.Bodies.{Body, is_unit}
use Rattle.hal_meaning.specs.Calls.{Parameter, parameter_named, outputs_of}
use Rattle.hal_meaning.specs.Elements.{kinds_of, shape_of}
use Rattle.hal_meaning.specs.InitialValues.{first_values}
use Rattle.hal_meaning.specs.Places.{Storing, InCells, InPlaces, ByReference, Unstored, group_among, parameter_at, parameter, home_shares, is_in_unit, storing_of_data, storing_of_item, storing, places_from, hidden, places_of_item, is_for_or_case, places_at}
use Rattle.hal_meaning.specs.Runs.{places_of_process}
use Rattle.hal_meaning.specs.Sets.{body_at, Set, set_of}
use Rattle.hal_link.specs.Shapes.{shapes_of}
use Rattle.hal_fit_calls.specs.Each.{Each}
use Rattle.hal_fit_layout.specs.Owned.{has_one}
use Rattle.hal_fit_layout.specs.Owned.{IsStored}
use Rattle.hal_fit_layout.specs.Rows.{IsNumbered}
use Rattle.hal_fit_calls.proofs.Each.{each_if}
use Rattle.hal_fit_layout.proofs.Parameters.{parameter_is}
use Rattle.hal_fit_layout.proofs.Placing.{process_each}
use Rattle.hal_right_images.specs.rows.Parts.{HaveParts}
use Rattle.hal_right_images.proofs.rows.Bodied.{unit_has}
use Rattle.hal_right_images.proofs.rows.LookingUp.{LooksUp}
use Rattle.hal_right_images.proofs.rows.Referring.{AreSome, reference_low, shapes_some}
use Rattle.hal_right_images.proofs.rows.Stored.{parameter_stored, told_at}
use Rattle.hal_right_images.proofs.rows.Told.{head_in, unit_head, IsToldNode}

-- an item that is stored as a reference has the name of an ASSIGN parameter of its unit
of_data : (shares automatic : Bool) (group : Option ℕ) → storing_of_data shares automatic group ≡ ByReference → ⊥
of_data shares automatic (Some group) is = absurd (cc)
of_data true true None is = absurd (cc)
of_data true false None is = absurd (cc)
of_data false true None is = absurd (cc)
of_data false false None is = absurd (cc)

of_item : (ps : List Phrase) (vs : Known) (p : Phrase) (common : List Attribute) (item : Declared) (o : Option Bool) → storing_of_item ps vs p common item o ≡ ByReference → o ≡ Some true
of_item ps vs p common item (Some true) is = refl
of_item ps vs p common item (Some false) is = absurd (cc)
of_item ps vs p common item None is = absurd (by (is_event_type (type_of common item) || is_value_item common item) is) where
  by : (b : Bool) → (if b then Unstored else storing_of_data (home_shares ps p.around.home) (has_mark Automatic (item.attributes ++ common)) (group_among ps vs p (item.attributes ++ common))) ≡ ByReference → ⊥
  by true is_so = absurd (cc)
  by false is_so = of_data (home_shares ps p.around.home) (has_mark Automatic (item.attributes ++ common)) (group_among ps vs p (item.attributes ++ common)) is_so

record IsOutput (ps : List Phrase) (p : Phrase) (item : Declared) : Type 0 where
  in_unit : is_in_unit ps p.around.home ≡ true
  output : parameter ps p.around.home item.name.name ≡ Some true

output_by : (ps : List Phrase) (vs : Known) (p : Phrase) (common : List Attribute) (item : Declared) (b : Bool) → is_in_unit ps p.around.home ≡ b
    → (if b then storing_of_item ps vs p common item (parameter ps p.around.home item.name.name) else Unstored) ≡ ByReference → IsOutput ps p item
output_by ps vs p common item true is stored = record { in_unit = is; output = of_item ps vs p common item (parameter ps p.around.home item.name.name) stored }
output_by ps vs p common item false isnt stored = absurd (cc)

-- a parameter of a block is a phrase of it
record IsParameterAt (ps : List Phrase) (home : ℕ) (wanted : List ℕ) : Type 0 where
  number : ℕ
  phrase : Phrase
  there : slice_get ps number ≡ Some phrase
  name : Naming
  node : phrase.node ≡ OfParameter name true
  at_home : phrase.around.home ≡ home
  its_name : name.name ≡ wanted

parameter_node : (node : Node) → parameter_at node ≡ Some true → (name : Naming) × (node ≡ OfParameter name true)
parameter_node (OfParameter name output) is = (name, ap (OfParameter name) (let same : output ≡ true = cc in same))
parameter_node other is = absurd (cc)

-- the head of a unit is one
head_of_unit : (node : Node) (head : Head) → is_unit node ≡ true → head_in node ≡ Some head → unit_head node ≡ Some head
head_of_unit (OfUnit name own declarations) head unit is = is
head_of_unit other head unit is = absurd (cc)

unit_so : (o : Option Phrase) (p : Phrase) → o ≡ Some p → elim o [ None ↦ false | Some x ↦ is_unit x.node ] ≡ true → is_unit p.node ≡ true
unit_so o p is so = ap (λ (x : Option Phrase). elim x [ None ↦ false | Some y ↦ is_unit y.node ]) (sym is) ∙ so

module _ (files : List File) (looks : LooksUp (phrases_of files)) (sound : IsSound rows (phrases_of files)) (parts : HaveParts (phrases_of files)) (turns : ℕ) where
  abbrev ps : List Phrase
  ps = phrases_of files

  abbrev s : Set
  s = set_of turns files

  parameter_there : (home : ℕ) (name : List ℕ) → parameter ps home name ≡ Some true → IsParameterAt ps home name
  unfolding declared_at
  parameter_there home name is = by (own ps (key space.Parameter home name)) refl is where
    found_there : (number : ℕ) → own ps (key space.Parameter home name) ≡ Some number → (o : Option Phrase) → slice_get ps number ≡ o → option_and_then (λ (p : Phrase). parameter_at p.node) o ≡ Some true → IsParameterAt ps home name
    found_there number found None there so = absurd (cc)
    found_there number found (Some p) there so =
        let node = parameter_node p.node so in
        let first = looks.found (key space.Parameter home name) number found in
        let here = first.there in
        let one : first.declaring ≡ p = cc in
        let keyed : Some (key space.Parameter p.around.home node.0.name) ≡ Some (key space.Parameter home name) =
        sym (ap (declared_at p.number p.around) node.1) ∙ (sym (ap (λ (x : Phrase). declared_at x.number x.around x.node) one) ∙ first.declares) in
        record {
          number = number;
          phrase = p;
          there = there;
          name = node.0;
          node = node.1;
          at_home = (let inner : key space.Parameter p.around.home node.0.name ≡ key space.Parameter home name = cc in ap (λ (k : Key). k.owner) inner);
          its_name = (let inner : key space.Parameter p.around.home node.0.name ≡ key space.Parameter home name = cc in ap (λ (k : Key). k.name) inner);
        }

    by : (o : Option ℕ) → own ps (key space.Parameter home name) ≡ o → option_and_then (λ (p : Phrase). parameter_at p.node) (option_and_then (slice_get ps) o) ≡ Some true → IsParameterAt ps home name
    by None found so = absurd (cc)
    by (Some number) found so = found_there number found (slice_get ps number) refl so

  -- an item that is stored as a reference is an ASSIGN parameter of its unit
  pub record IsStoredOutput (p : Phrase) (item : Declared) : Type 0 where
    pub name : Naming
    pub its_name : name.name ≡ item.name.name
    pub body : Body
    pub found : body_at s p.around.home ≡ Some body
    pub among : IsAmong body s.bodies
    pub number : body.number ≡ p.around.home
    pub named : IsAmong name (outputs_of body.head)
    pub stored : IsStored s p.around.home name ByReference

  stored_output : (p : Phrase) (item : Declared) → IsOutput ps p item → IsStoredOutput p item
  stored_output p item output =
      let at = parameter_there p.around.home item.name.name output.output in
      let listed = subst (IsToldNode ps at.phrase) at.node (told_at files looks sound at.number at.phrase at.there) in
      let owner : slice_get ps p.around.home ≡ Some listed.phrase = ap (slice_get ps) (sym at.at_home) ∙ listed.there in
      let head = head_of_unit listed.phrase.node listed.head (unit_so (slice_get ps p.around.home) listed.phrase owner output.in_unit) listed.is in
      let unit = unit_has files looks.counted turns p.around.home listed.phrase listed.head owner head in
      record {
        name = at.name;
        its_name = at.its_name;
        body = unit.body;
        found = unit.found;
        among = unit.among;
        number = unit.number;
        named = subst (λ (h : Head). IsAmong at.name (outputs_of h)) (sym unit.head_is) listed.listed;
        stored = parameter_stored files looks sound parts turns p.around.home listed.phrase listed.head owner head true at.name listed.listed;
      }

  pub reference_stored : (p : Phrase) (common : List Attribute) (item : Declared) → storing ps (known ps) p (OfItem common item) ≡ ByReference → IsStoredOutput p item
  reference_stored p common item is = stored_output p item (output_by ps (known ps) p common item (is_in_unit ps p.around.home) refl is)

  -- where one is there are shapes
  shapes_there : (p : Phrase) (item : Declared) → IsOutput ps p item → AreSome (shapes_of s)
  shapes_there p item output =
      let one = stored_output p item output in
      let named = parameter_is s p.around.home one.name ByReference one.stored in
      shapes_some s one.body one.among one.name one.named (subst (λ n. has_one (kinds_of (parameter_named s n one.name).shape) ≡ true) (sym one.number) (ap (λ (q : Parameter). has_one (kinds_of q.shape)) named ∙ one.stored.some))

  from_numbered : (owner : ℕ) (automatic : Bool) (ks : List Kind) (vs : List Value) → Each (IsNumbered s (shapes_of s)) (places_from owner automatic ks vs)
  from_numbered owner automatic [] vs = tt
  from_numbered owner automatic (k ∷ ks) [] = tt
  from_numbered owner automatic (k ∷ ks) (v ∷ vs) = ((λ is. absurd (cc)), from_numbered owner automatic ks vs)

  hidden_numbered : (owner n : ℕ) → Each (IsNumbered s (shapes_of s)) (hidden owner n)
  hidden_numbered owner zero = tt
  hidden_numbered owner (suc n) = ((λ is. absurd (cc)), hidden_numbered owner n)

  item_numbered : (p : Phrase) (common : List Attribute) (item : Declared) (stored : Storing) → storing ps (known ps) p (OfItem common item) ≡ stored
      → Each (IsNumbered s (shapes_of s)) (places_of_item ps (known ps) p common item stored)
  item_numbered p common item InPlaces is =
      let ks = kinds_of (shape_of ps (known ps) p common item) in
      from_numbered p.number (has_mark Automatic (item.attributes ++ common)) ks (first_values ps (known ps) p (item.attributes ++ common) ks)
  item_numbered p common item ByReference is =
      ((λ none. reference_low s (shapes_of s) p.number (shapes_there p item (output_by ps (known ps) p common item (is_in_unit ps p.around.home) refl is))), tt)
  item_numbered p common item (InCells group) is = tt
  item_numbered p common item Unstored is = tt

  at_numbered : (p : Phrase) (node : Node) → Each (IsNumbered s (shapes_of s)) (places_at ps (known ps) p node)
  at_numbered p (OfItem common item) = item_numbered p common item (storing ps (known ps) p (OfItem common item)) refl
  at_numbered p (OfTemporaryGroup labels variable) = hidden_numbered p.number 5
  at_numbered p (OfGroup labels looping) = each_if (IsNumbered s (shapes_of s)) (is_for_or_case ps p.number) (hidden p.number 4) (hidden_numbered p.number 4)
  at_numbered p other = tt

  pub references_numbered : (process : ℕ) → Each (IsNumbered s (shapes_of s)) (places_of_process s process)
  references_numbered process = process_each s (IsNumbered s (shapes_of s)) (λ (p : Phrase). at_numbered p p.node) process
