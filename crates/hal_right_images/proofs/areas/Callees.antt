-- Which unit a name calls: that of its own, or the one for which a written template stands, whose head is the same.
use Rattle.std.specs.Prelude.{◌≡◌, ◌⊎◌, ℕ, Bool, true, false, List, Option, Some, None, slice_get, if◌then◌else◌}
use Rattle.std.specs.Option.{option_and_then}
use Rattle.std.proofs.Common.{refl, sym, ap, subst, ◌∙◌, inl, inr}
use Rattle.hal_grammar.specs.Leaves.{Naming}
use Rattle.hal_grammar.specs.Declarations.{Attribute, Declared, Declaration}
use Rattle.hal_grammar.specs.Units.{Head, Program, Compool, Task, Procedure, Function}
use Rattle.hal_phrases.specs.Phrases.{Node, Phrase, OfFile, OfItem, OfTemplate, OfTemporaryGroup, OfUnit}
use Rattle.hal_names.specs.Means.{means}
use Rattle.hal_scope.specs.declared.builtin.Builtin.{Builtin}
use Rattle.hal_scope.specs.Builtins.{builtin_named}
use Rattle.hal_scope.specs.Sorts.{type_of}
use Rattle.hal_kinds.specs.Data.{is_event_type}
use Rattle.hal_constants.specs.Known.{Known, known}
use Rattle.hal_constants.specs.Naming.{is_value_item}
use Rattle.hal_templates.specs.Entries.{entries}
use Rattle.hal_templates.specs.Giving.{HaveSameHead, AreSameNames, spelled}
use Rattle.hal_templates.specs.Own.{own_entries}
use Rattle.hal_templates.specs.Templates.{home_of}
use Rattle.hal_meaning.specs.Bodies.{is_called_head, meant, meant_at, pooled_at, standing_for}
use Rattle.hal_meaning.specs.Calls.{inputs_of, outputs_of}
use Rattle.hal_meaning.specs.Elements.{shape_of}
use Rattle.hal_meaning.specs.Events.{event_of}
use Rattle.hal_meaning.specs.Places.{storing}
use Rattle.hal_storage.specs.referents.Referents.{DataOf, EventOf, BlockOf, BuiltinOf, Unmeant, builtin_referent, declaration_referent, event_referent, constant_referent, head_referent, node_referent, phrase_referent}
use Rattle.hal_right_images.proofs.rows.LookingUp.{LooksUp}
use Rattle.hal_right_images.proofs.rows.Rules.{among_at}
use Rattle.hal_right_images.proofs.areas.Meaning.{KnowsTemplates, same_at, then_some}

-- the unit with this number may be called
pub record IsUnitAt (ps : List Phrase) (unit : ℕ) : Type 0 where
  pub phrase : Phrase
  pub there : slice_get ps unit ≡ Some phrase
  pub number : phrase.number ≡ unit
  pub own : Naming
  pub head : Head
  pub declarations : List Declaration
  pub is : phrase.node ≡ OfUnit own head declarations
  pub called : is_called_head head ≡ true

-- what declares the name by which it is called has a head with the same names of parameters; it is the unit itself, or its written template
pub record IsCallee (ps : List Phrase) (block : ℕ) (name : List ℕ) (unit : ℕ) : Type 0 where
  pub unit_at : IsUnitAt ps unit
  pub declared : ℕ
  pub means_it : means ps block name ≡ Some declared
  pub phrase : Phrase
  pub there : slice_get ps declared ≡ Some phrase
  pub own : Naming
  pub head : Head
  pub declarations : List Declaration
  pub is : (phrase.node ≡ OfUnit own head declarations) ⊎ (phrase.node ≡ OfTemplate own head declarations)
  pub called : is_called_head head ≡ true
  pub inputs : spelled (inputs_of unit_at.head) ≡ spelled (inputs_of head)
  pub outputs : spelled (outputs_of unit_at.head) ≡ spelled (outputs_of head)
  pub stands : standing_for ps declared ≡ unit
  pub same : (declared ≡ unit) ⊎ AreSameNames ps (known ps) (home_of phrase head) (entries declarations) unit_at.phrase.number (own_entries ps unit_at.phrase.number unit_at.head unit_at.declarations)

-- heads that are the same
same_head : (ps : List Phrase) (vs : Known) (p q : Phrase) (head other : Head) → HaveSameHead ps vs p head q other → is_called_head other ≡ true
    → (is_called_head head ≡ true) × (spelled (inputs_of other) ≡ spelled (inputs_of head)) × (spelled (outputs_of other) ≡ spelled (outputs_of head))
same_head ps vs p q (Procedure at inputs outputs mode) (Procedure there other_inputs other_outputs other_mode) same called = (refl, sym same.0, sym same.1)
same_head ps vs p q (Procedure at inputs outputs mode) (Function there other_inputs returns other_mode) same called = absurd same
same_head ps vs p q (Function at inputs returns mode) (Function there other_inputs other_returns other_mode) same called = (refl, sym same.0, refl)
same_head ps vs p q (Function at inputs returns mode) (Procedure there other_inputs outputs other_mode) same called = absurd same
same_head ps vs p q (Program at) (Procedure there other_inputs outputs other_mode) same called = absurd same
same_head ps vs p q (Program at) (Function there other_inputs returns other_mode) same called = absurd same
same_head ps vs p q (Compool at) (Procedure there other_inputs outputs other_mode) same called = absurd same
same_head ps vs p q (Compool at) (Function there other_inputs returns other_mode) same called = absurd same
same_head ps vs p q (Task at) (Procedure there other_inputs outputs other_mode) same called = absurd same
same_head ps vs p q (Task at) (Function there other_inputs returns other_mode) same called = absurd same
same_head ps vs p q head (Program there) same called = absurd (cc)
same_head ps vs p q head (Compool there) same called = absurd (cc)
same_head ps vs p q head (Task there) same called = absurd (cc)

module _ (ps : List Phrase) (looks : LooksUp ps) (templates : KnowsTemplates ps) where
  abbrev vs : Known
  vs = known ps

  no_event : (o : Option ℕ) (unit : ℕ) → elim o [ None ↦ Unmeant | Some e ↦ EventOf e ] ≡ BlockOf unit → ⊥
  no_event None unit is = absurd (cc)
  no_event (Some e) unit is = absurd (cc)

  head_block : (n : ℕ) (head : Head) (unit : ℕ) → head_referent ps n head ≡ BlockOf unit → (is_called_head head ≡ true) × (n ≡ unit)
  head_block n (Program place) unit is = absurd (no_event (event_of ps n) unit is)
  head_block n (Task place) unit is = absurd (no_event (event_of ps n) unit is)
  head_block n (Compool place) unit is = absurd (cc)
  head_block n (Procedure place inputs outputs mode) unit is = (refl, (let same : n ≡ unit = cc in same))
  head_block n (Function place inputs returns mode) unit is = (refl, (let same : n ≡ unit = cc in same))

  item_block : (p : Phrase) (common : List Attribute) (item : Declared) (unit : ℕ) → node_referent ps vs p (OfItem common item) ≡ BlockOf unit → ⊥
  item_block p common item unit = by (is_event_type (type_of common item)) (is_value_item common item) where
    by : (event constant : Bool) → (if event then event_referent ps p.number else if constant then constant_referent vs p.number else DataOf p.number (storing ps vs p (OfItem common item)) (shape_of ps vs p common item)) ≡ BlockOf unit → ⊥
    by true constant is = no_event (event_of ps p.number) unit is
    by false true is = absurd (cc)
    by false false is = absurd (cc)

  node_block : (k : ℕ) (p : Phrase) (node : Node) (unit : ℕ) → slice_get ps k ≡ Some p → p.node ≡ node → node_referent ps vs p node ≡ BlockOf unit → IsUnitAt ps unit × (k ≡ unit)
  node_block k p (OfUnit own head declarations) unit there is refers =
      let called = head_block p.number head unit refers in
      let same : k ≡ unit = sym (looks.counted k p there) ∙ called.1 in (
        record {
          phrase = p;
          there = ap (slice_get ps) (sym same) ∙ there;
          number = called.1;
          own = own;
          head = head;
          declarations = declarations;
          is = is;
          called = called.0;
        },
        same,
      )
  node_block k p (OfItem common item) unit there is refers = absurd (item_block p common item unit refers)
  node_block k p (OfTemporaryGroup labels variable) unit there is refers = absurd (cc)
  node_block k p other unit there is refers = absurd (cc)

  no_builtin : (o : Option Builtin) (unit : ℕ) → elim o [ None ↦ Unmeant | Some b ↦ BuiltinOf b ] ≡ BlockOf unit → ⊥
  no_builtin None unit is = absurd (cc)
  no_builtin (Some b) unit is = absurd (cc)

  -- what the declaration that is meant stands for
  abbrev stood : Option ℕ → Option ℕ
  stood o = elim o [ None ↦ None | Some k ↦ Some (standing_for ps k) ]

  module _ (block : ℕ) (name : List ℕ) (unit : ℕ) (k : ℕ) (p : Phrase) (meant_so : means ps block name ≡ Some k) (there : slice_get ps k ≡ Some p) (at : IsUnitAt ps unit) (stands : standing_for ps k ≡ unit) where
    stands_at : (node : Node) → p.node ≡ node → elim (meant_at ps p node) [ None ↦ k | Some other ↦ other ] ≡ unit
    stands_at node is = ap (λ n. elim (meant_at ps p n) [ None ↦ k | Some other ↦ other ]) (sym is) ∙ (ap (λ (o : Option Phrase). elim (option_and_then (λ (x : Phrase). meant_at ps x x.node) o) [ None ↦ k | Some other ↦ other ]) (sym there) ∙ stands)

    itself : k ≡ unit → IsCallee ps block name unit
    itself same =
        let one = same_at ps k unit p at.phrase there at.there same in
        record {
          unit_at = at;
          declared = k;
          means_it = meant_so;
          phrase = p;
          there = there;
          own = at.own;
          head = at.head;
          declarations = at.declarations;
          is = inl (ap (λ (x : Phrase). x.node) one ∙ at.is);
          called = at.called;
          inputs = refl;
          outputs = refl;
          stands = stands;
          same = inl same;
        }

    -- no data are called
    no_data : (q : Phrase) (common : List Attribute) (item : Declared) → q ≡ at.phrase → q.node ≡ OfItem common item → ⊥
    no_data q common item same node = let nodes : OfItem common item ≡ OfUnit at.own at.head at.declarations = sym node ∙ (ap (λ (x : Phrase). x.node) same ∙ at.is) in absurd (cc)

    pooled_so : (common : List Attribute) (item : Declared) → p.node ≡ OfItem common item → (f : Phrase) → slice_get ps p.around.home ≡ Some f → (m : ℕ) → (node : Node) → f.node ≡ node → pooled_at ps item.name.name node ≡ Some m → ⊥
    pooled_so common item node f home m (OfFile prefaces own) file found =
        let t = templates.stand k p common item f prefaces own there node home file in
        no_data t.phrase t.other_common t.other (same_at ps t.phrase.number unit t.phrase at.phrase t.there at.there (sym t.stands ∙ stands)) t.declares
    pooled_so common item node f home m other file found = absurd (cc)

    by_node : (node : Node) → p.node ≡ node → IsCallee ps block name unit
    by_node (OfItem common item) is = by (meant_at ps p (OfItem common item)) refl where
      by : (o : Option ℕ) → meant_at ps p (OfItem common item) ≡ o → IsCallee ps block name unit
      by None none = itself (sym (ap (λ (o : Option ℕ). elim o [ None ↦ k | Some other ↦ other ]) none) ∙ stands_at (OfItem common item) is)
      by (Some m) found =
          let one = then_some (λ (h : Phrase). pooled_at ps item.name.name h.node) (slice_get ps p.around.home) m found in
          absurd (pooled_so common item is one.0 one.1 m one.0.node refl one.2)
    by_node (OfTemplate own head declared) is =
        let gives = templates.gives p own head declared (among_at ps k p there) is in
        let its = gives.is_unit in
        let same : gives.unit.number ≡ unit = sym (ap (λ (o : Option ℕ). elim o [ None ↦ k | Some other ↦ other ]) its.found) ∙ stands_at (OfTemplate own head declared) is in
        let phrase = same_at ps gives.unit.number unit gives.unit at.phrase its.there at.there same in
        let nodes : OfUnit its.naming gives.unit_head gives.unit_declarations ≡ OfUnit at.own at.head at.declarations = sym its.is ∙ (ap (λ (x : Phrase). x.node) phrase ∙ at.is) in
        let heads : gives.unit_head ≡ at.head = cc in
        let decls : gives.unit_declarations ≡ at.declarations = cc in
        let both = same_head ps vs p at.phrase head at.head (subst (λ h. HaveSameHead ps vs p head at.phrase h) heads (subst (λ (x : Phrase). HaveSameHead ps vs p head x gives.unit_head) phrase gives.heads)) at.called in
        record {
          unit_at = at;
          declared = k;
          means_it = meant_so;
          phrase = p;
          there = there;
          own = own;
          head = head;
          declarations = declared;
          is = inr is;
          called = both.0;
          inputs = both.1;
          outputs = both.2;
          stands = stands;
          same = inr (subst (λ h. AreSameNames ps vs (home_of p head) (entries declared) at.phrase.number (own_entries ps at.phrase.number h at.declarations)) heads
              (subst (λ d. AreSameNames ps vs (home_of p head) (entries declared) at.phrase.number (own_entries ps at.phrase.number gives.unit_head d)) decls
              (subst (λ (x : Phrase). AreSameNames ps vs (home_of p head) (entries declared) x.number (own_entries ps x.number gives.unit_head gives.unit_declarations)) phrase gives.meanings)));
        }
    by_node other is = itself (stands_at other is)

  pub callee_is : (block : ℕ) (name : List ℕ) (unit : ℕ) → elim (meant ps block name) [ None ↦ builtin_referent name | Some k ↦ declaration_referent ps vs k ] ≡ BlockOf unit → IsCallee ps block name unit
  callee_is block name unit refers = by (means ps block name) refl refers where
    at_phrase : (k m : ℕ) → means ps block name ≡ Some k → standing_for ps k ≡ m → (o : Option Phrase) → slice_get ps m ≡ o → elim o [ None ↦ Unmeant | Some p ↦ phrase_referent ps vs p ] ≡ BlockOf unit → IsCallee ps block name unit
    at_phrase k m meant_so stands None there is = absurd (cc)
    at_phrase k m meant_so stands (Some q) there is =
        let at = node_block m q q.node unit there refl is in
        let first = (looks.meant block name k meant_so).1 in
        by_node block name unit k first.declaring meant_so first.there at.0 (stands ∙ at.1) first.declaring.node refl

    by : (o : Option ℕ) → means ps block name ≡ o → elim (stood o) [ None ↦ builtin_referent name | Some k ↦ declaration_referent ps vs k ] ≡ BlockOf unit → IsCallee ps block name unit
    by None meant_so is = absurd (no_builtin (builtin_named name) unit is)
    by (Some k) meant_so is = at_phrase k (standing_for ps k) meant_so refl (slice_get ps (standing_for ps k)) refl is
