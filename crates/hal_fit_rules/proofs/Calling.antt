-- Call forms of what the set itself declares agree, and so do CALLs of its PROCEDUREs.
use Rattle.std.proofs.Common.{◌≡◌, ℕ, zero, true, false, List, [], Option, Some, None, slice_get, refl, sym, ap, ◌∙◌, subst}
use Rattle.hal_grammar.specs.Leaves.{Naming}
use Rattle.hal_grammar.specs.Declarations.{Attribute, Declared}
use Rattle.hal_grammar.specs.Units.{Head, Procedure, Function}
use Rattle.hal_phrases.specs.Phrases.{Node, Phrase, OfUnit, OfItem, OfTemporaryGroup}
use Rattle.hal_names.specs.Laws.{IsCounted}
use Rattle.hal_names.specs.Means.{means}
use Rattle.hal_scope.specs.declared.builtin.Builtin.{Builtin}
use Rattle.hal_scope.specs.Builtins.{builtin_named}
use Rattle.hal_shapes.specs.Arguments.{head_of}
use Rattle.hal_meaning.specs.Bodies.{Body, standing_for}
use Rattle.hal_meaning.specs.Calls.{inputs_of}
use Rattle.hal_meaning.specs.Expressions.{inputs_at}
use Rattle.hal_states.specs.Spots.{Own}
use Rattle.hal_scope.specs.Sorts.{type_of}
use Rattle.hal_kinds.specs.declared.class.Class.TheVariants as class
use Rattle.hal_kinds.specs.Attributes.{sizes_of}
use Rattle.hal_kinds.specs.Data.{data_with, is_event_type}
use Rattle.hal_meaning.specs.Events.{event_of}
use Rattle.hal_meaning.specs.ReportNames.{first_place}
use Rattle.hal_meaning.specs.Sets.{body_at}
use Rattle.hal_meaning.specs.Variables.{Meant, MeantData, MeantEvent, MeantBlock, MeantBuiltin, MeantNothing, name_meant, declaration_meant, builtin_meant, event_meant, meant_by, temporary_shape}
use Rattle.hal_agreement.specs.Sites.{Site, here_at}
use Rattle.hal_fit_expr.specs.Uses.{Uses}
use Rattle.hal_fit_rules.specs.Agreeing.{NodeFormed, PhraseFormed, DeclarationFormed, FormAgrees}
use Rattle.hal_fit_rules.specs.Owned.{IsOwn, IsPlainData, IsTemporary, IsFunction}
use Rattle.hal_fit_rules.specs.Happening.{IsEvent}
use Rattle.hal_fit_rules.specs.Passed.{ProcedureAgrees}
use Rattle.hal_fit_rules.specs.Passing.{AreParameters, IsProcedure}
use Rattle.hal_fit_rules.specs.Parameters.{ParametersAgree, spelled}
use Rattle.hal_fit_rules.proofs.Declaring.{lying, item_alike, item_meant_so, temporary_alike, meant_itself, meant_standing, function_gives}
use Rattle.hal_fit_rules.proofs.Happening.{event_data, event_numbered, when_true}
use Rattle.hal_fit_rules.proofs.Parameters.{parameters_agree}

module _ (u : Uses) (site : Site) where
  -- a call form agrees where the declaration of its name does with what the name means
  pub formed_as : (name : List ℕ) (k : ℕ) (p : Phrase) (n : Node) (m : Meant) → means site.set.phrases site.block name ≡ Some k → slice_get site.set.phrases k ≡ Some p → p.node ≡ n → name_meant (here_at site) name [] ≡ m
      → NodeFormed u site site.set.phrases k p n m → FormAgrees u site site.set.phrases site.block name
  formed_as name k p n m meant there declares whole formed =
      let of_node : NodeFormed u site site.set.phrases k p p.node m = subst (λ (x : Node). NodeFormed u site site.set.phrases k p x m) (sym declares) formed in
      let of_phrase : PhraseFormed u site site.set.phrases k (slice_get site.set.phrases k) m =
      subst (λ (o : Option Phrase). PhraseFormed u site site.set.phrases k o m) (sym there) of_node in
      let of_number : DeclarationFormed u site site.set.phrases name (means site.set.phrases site.block name) m =
      subst (λ (o : Option ℕ). DeclarationFormed u site site.set.phrases name o m) (sym meant) of_phrase in
      subst (λ (x : Meant). DeclarationFormed u site site.set.phrases name (means site.set.phrases site.block name) x) (sym whole) of_number

  -- so where what declares it does
  pub formed_by : (name : List ℕ) (own : IsOwn site name) (n : Node) (m : Meant) → own.phrase.node ≡ n → meant_by (here_at site) [] own.phrase n ≡ m → NodeFormed u site site.set.phrases own.number own.phrase n m
      → FormAgrees u site site.set.phrases site.block name
  formed_by name own n m declares is formed =
      formed_as name own.number own.phrase n m own.meant own.there declares (meant_itself u site name own ∙ (ap (meant_by (here_at site) [] own.phrase) declares ∙ is)) formed

  -- the parameters of a unit, by the number of its phrase
  parameters_of : (k unit : ℕ) (names : List Naming) → unit ≡ k → AreParameters site unit names → ParametersAgree site site.set.phrases k unit names
  parameters_of k unit names same are = subst (λ (j : ℕ). ParametersAgree site site.set.phrases j unit names) same (parameters_agree site unit names are)

  taken_by : (unit : ℕ) (body : Body) (head : Head) → body_at site.set unit ≡ Some body → body.head ≡ head → inputs_at site.set unit ≡ inputs_of head
  taken_by unit body head found is = ap (λ (o : Option Body). elim o [ None ↦ [] | Some b ↦ inputs_of b.head ]) found ∙ ap inputs_of is

  pub function_formed : (name : List ℕ) (own : IsOwn site name) → IsCounted site.set.phrases → (is : IsFunction u site own.phrase) → AreParameters site own.phrase.number is.inputs → FormAgrees u site site.set.phrases site.block name
  function_formed name own counted is are =
      formed_by name own (OfUnit is.name (Function is.place is.inputs is.returns is.mode) is.declarations) (MeantBlock own.phrase.number) is.declares refl (record {
        taken = ap spelled (taken_by own.phrase.number is.body (Function is.place is.inputs is.returns is.mode) is.unit is.head);
        parameters = parameters_of own.number own.phrase.number is.inputs (counted own.number own.phrase own.there) are;
        gives = function_gives u site own.phrase is;
      })

  -- data, an event, and the variable of a DO FOR
  pub data_formed : (name : List ℕ) (own : IsOwn site name) → IsPlainData site own.phrase → FormAgrees u site site.set.phrases site.block name
  data_formed name own is =
      formed_by name own (OfItem is.common is.item) (lying u site own.phrase is.common is.item) is.declares (item_meant_so u site own.phrase is.common is.item is.kind is.typed is.eventless is.stored)
      (item_alike site.set.phrases site.set.constants own.phrase is.common is.item is.kind is.cells is.typed is.unstructured is.sized)

  pub temporary_formed : (name : List ℕ) (own : IsOwn site name) → IsTemporary own.phrase → FormAgrees u site site.set.phrases site.block name
  temporary_formed name own is =
      formed_by name own (OfTemporaryGroup is.labels is.variable) (MeantData (Own (first_place site.places own.phrase.number)) temporary_shape) is.declares refl
      (temporary_alike site.set.phrases own.phrase is.labels is.variable)

  pub event_formed_as : (name : List ℕ) (k : ℕ) (p : Phrase) (common : List Attribute) (item : Declared) → IsCounted site.set.phrases → means site.set.phrases site.block name ≡ Some k → slice_get site.set.phrases k ≡ Some p → p.node ≡ OfItem common item
      → is_event_type (type_of common item) ≡ true → sizes_of common item ≡ None → (j : ℕ) (q : Phrase) → standing_for site.set.phrases k ≡ j → slice_get site.set.phrases j ≡ Some q → IsEvent site q → FormAgrees u site site.set.phrases site.block name
  event_formed_as name k p common item counted meant there is eventful sized j q stands at event =
      let same = counted j q at in
      let one = event_numbered site j q at same event in
      formed_as name k p (OfItem common item) (MeantEvent one.event) meant there is
      (meant_standing u site name k j q meant stands at
      ∙ (ap (meant_by (here_at site) [] q) event.declares
      ∙ (when_true (is_event_type (type_of event.common event.item)) (event_meant (here_at site) q.number) _ event.eventful
      ∙ ap (λ (o : Option ℕ). elim o [ None ↦ MeantNothing | Some n ↦ MeantEvent n ]) (ap (event_of site.set.phrases) same ∙ one.is))))
      (data_with class.Bits zero false, event_data site.set.phrases p common item eventful sized, refl)

  pub event_formed : (name : List ℕ) (own : IsOwn site name) → IsCounted site.set.phrases → IsEvent site own.phrase → FormAgrees u site site.set.phrases site.block name
  event_formed name own counted is = event_formed_as name own.number own.phrase is.common is.item counted own.meant own.there is.declares is.eventful is.sized own.number own.phrase own.own own.there is

  -- a built-in function with a list
  pub builtin_formed : (name : List ℕ) (b : Builtin) → means site.set.phrases site.block name ≡ None → builtin_named name ≡ Some b → FormAgrees u site site.set.phrases site.block name
  builtin_formed name b undeclared named =
      let whole : name_meant (here_at site) name [] ≡ MeantBuiltin b =
      ap (λ o. elim o [ None ↦ builtin_meant name | Some k ↦ declaration_meant (here_at site) [] k ])
      (ap (λ (o : Option ℕ). elim o [ None ↦ None | Some k ↦ Some (standing_for site.set.phrases k) ]) undeclared)
      ∙ ap (λ (o : Option Builtin). elim o [ None ↦ MeantNothing | Some one ↦ MeantBuiltin one ]) named in
      let of_number : DeclarationFormed u site site.set.phrases name (means site.set.phrases site.block name) (MeantBuiltin b) =
      subst (λ (o : Option ℕ). DeclarationFormed u site site.set.phrases name o (MeantBuiltin b)) (sym undeclared) named in
      subst (λ (x : Meant). DeclarationFormed u site site.set.phrases name (means site.set.phrases site.block name) x) (sym whole) of_number

  pub procedure_agrees : (name : Naming) (own : IsOwn site name.name) → IsCounted site.set.phrases → IsProcedure u site own.phrase → ProcedureAgrees u site site.set.phrases site.block name
  unfolding head_of
  procedure_agrees name own counted is =
      let head : Head = Procedure is.place is.inputs is.outputs is.mode in
      record {
        declared = own.number;
        means_it = own.meant;
        phrase = own.phrase;
        there = own.there;
        place = is.place;
        inputs = is.inputs;
        outputs = is.outputs;
        mode = is.mode;
        head = ap head_of is.declares;
        unit = own.phrase.number;
        meant = meant_itself u site name.name own ∙ ap (meant_by (here_at site) [] own.phrase) is.declares;
        taken = ap spelled (taken_by own.phrase.number is.body head is.unit is.head);
        calls = is.calls;
        parameters = parameters_of own.number own.phrase.number is.inputs (counted own.number own.phrase own.there) is.parameters;
      }
