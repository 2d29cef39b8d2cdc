-- Call forms agree in a set that breaks no rule.
use Rattle.std.proofs.Common.{◌≡◌, ℕ, Bool, true, false, ◌||◌, List, [], Option, Some, None, slice_get, refl, sym, ap, ◌∙◌, inl, inr}
use Rattle.std.specs.Option.{option_and_then, is_some}
use Rattle.hal_base.specs.declared.refusal.Place.{Place}
use Rattle.hal_grammar.specs.Expressions.{Expressions, NoExpressions, MoreExpressions}
use Rattle.hal_grammar.specs.Leaves.{Naming}
use Rattle.hal_grammar.specs.Declarations.{Kind, IntegerKind, BooleanKind, EventKind, BitKind, CharacterKind, StructureKind, Attribute, Declaration, Declared}
use Rattle.hal_grammar.specs.Units.{Head, Program, Compool, Task, Procedure, Function}
use Rattle.hal_phrases.specs.Phrases.{Node, Phrase, OfTemplate, OfUnit, OfItem, OfTemporaryGroup, OfCallForm}
use Rattle.hal_names.specs.Laws.{IsCounted}
use Rattle.hal_names.specs.Means.{means}
use Rattle.hal_scope.specs.declared.builtin.Builtin.{Builtin}
use Rattle.hal_scope.specs.declared.usage.Usage.TheVariants as usage
use Rattle.hal_scope.specs.declared.used.Use.{Use}
use Rattle.hal_scope.specs.Builtins.{builtin_named, form_of}
use Rattle.hal_scope.specs.Rules.{IsAmong, IsSound, rows, ruled}
use Rattle.hal_scope.specs.Sorts.{type_of, used, is_known}
use Rattle.hal_scope.specs.Uses.{is_nil, unless, is_known_builtin, is_known_use, unknown}
use Rattle.hal_kinds.specs.Attributes.{no_more, sizes_of}
use Rattle.hal_kinds.specs.Subscripts.{is_structure_class}
use Rattle.hal_kinds.specs.Data.{class_of_type, has_copies, dimensions_of, data_with, data_of, data_at, is_event_type, is_structure_type}
use Rattle.hal_operands.specs.Wants.{at, misfit, misfit_of_whole}
use Rattle.hal_uses.specs.Calls.{head_fault, product_fault, is_raised, declared_fault, miscalled}
use Rattle.hal_uses.specs.Calls as calls
use Rattle.hal_types.specs.Rules.{use_rows, type_rows}
use Rattle.hal_constants.specs.Naming.{is_value_item}
use Rattle.hal_meaning.specs.Places.{is_in_unit}
use Rattle.hal_meaning.specs.Elements.{shape_of}
use Rattle.hal_meaning.specs.Variables.{MeantBlock}
use Rattle.hal_agreement.specs.Sites.{Site}
use Rattle.hal_fit_expr.specs.Uses.{Uses}
use Rattle.hal_fit_rules.specs.Agreeing.{FormAgrees}
use Rattle.hal_fit_rules.specs.Owned.{IsOwn}
use Rattle.hal_fit_rules.specs.Valued.{HasConstants}
use Rattle.hal_fit_rules.proofs.Constants.{constant_formed, constant_formed_as}
use Rattle.hal_fit_rules.proofs.Calling as calling
use Rattle.hal_fit_rules.proofs.Calling.{formed_by, data_formed, temporary_formed, event_formed, event_formed_as, function_formed, builtin_formed}
use Rattle.hal_fit_rules.proofs.Declaring.{item_meant_so, lying}
use Rattle.hal_fit_rules.proofs.Structuring.{structure_alike}
use Rattle.hal_fit_rules.proofs.Unbroken.{unbroken, ruled_none, of_uses}
use Rattle.hal_fit_names.specs.Named.{AreFunctions, AreLeft, FunctionParameters}
use Rattle.hal_fit_names.specs.Suited.{HasFitLiterals, AreDeclared, is_templated}
use Rattle.hal_fit_names.proofs.CalledBlocks.{used_meant}
use Rattle.hal_fit_names.proofs.Declaring.{plain_data}
use Rattle.hal_fit_names.proofs.MeantItems.{IsPlainName, ForData, ForItself, ForStructure, constant_pair, event_for, event_single, in_unit, item_typed, plainly, structure_known}
use Rattle.hal_fit_names.proofs.Owning.{IsShown, Plain, Pooled, PooledConstant, PooledEvent, Written, own_number, shown_so}
use Rattle.hal_fit_names.proofs.Placing.{NodePlaced, at_among}
use Rattle.hal_fit_names.proofs.Pooled.{pooled_formed, structure_class}
use Rattle.hal_fit_names.proofs.Suiting.{unless_true}
use Rattle.hal_fit_names.proofs.Usages.{unformed}

-- a structure is no factor
structure_product : (ps : List Phrase) (block : ℕ) (place : Place) (dimensions : ℕ) (copies raised : Bool) (ts : Expressions) (t : Kind) → is_structure_type (Some t) ≡ true
    → product_fault ps block place (Some (data_with (class_of_type t) dimensions copies)) raised ts ≡ None → ⊥
unfolding product_fault no_more is_structure_type class_of_type is_structure_class misfit misfit_of_whole
structure_product ps block place dimensions copies true ts t structured none = cc
structure_product ps block place dimensions copies false NoExpressions t structured none = cc
structure_product ps block place dimensions copies false (MoreExpressions x (MoreExpressions y others)) t structured none = cc
structure_product ps block place dimensions copies false (MoreExpressions x NoExpressions) (StructureKind at_ template more) structured none = cc
structure_product ps block place dimensions copies false (MoreExpressions x NoExpressions) (IntegerKind at_) structured none = cc
structure_product ps block place dimensions copies false (MoreExpressions x NoExpressions) (BooleanKind at_) structured none = cc
structure_product ps block place dimensions copies false (MoreExpressions x NoExpressions) (EventKind at_) structured none = cc
structure_product ps block place dimensions copies false (MoreExpressions x NoExpressions) (BitKind at_ size) structured none = cc
structure_product ps block place dimensions copies false (MoreExpressions x NoExpressions) (CharacterKind at_ size) structured none = cc

module _ (u : Uses) (site : Site) (named : IsSound rows site.set.phrases) (sound : IsSound type_rows site.set.phrases) (counted : IsCounted site.set.phrases) (declared : AreDeclared site.set.phrases) (literals : HasFitLiterals site.set.phrases)
    (has : HasConstants site) (placed : (p : Phrase) → IsAmong p site.set.phrases → NodePlaced site.set.phrases p p.node) where
  -- call forms of plain data agree, whatever they stand for
  plain_forms : (name : List ℕ) (k : ℕ) (p : Phrase) (common : List Attribute) (item : Declared) → means site.set.phrases site.block name ≡ Some k → slice_get site.set.phrases k ≡ Some p → p.node ≡ OfItem common item → IsPlainName site name k p common item
      → FormAgrees u site site.set.phrases site.block name
  plain_forms name k p common item meant there is (ForData t typed eventless stored stands) = pooled_formed u site named sound counted declared literals has placed k p name common item t meant there is typed eventless stored stands
  plain_forms name k p common item meant there is (ForItself own data_) = data_formed u site name own data_
  plain_forms name k p common item meant there is (ForStructure t own declares typed eventless structured stored) =
      formed_by u site name own (OfItem common item) (lying u site own.phrase common item) declares (item_meant_so u site own.phrase common item t typed eventless stored)
      (structure_alike (data_at site.set.phrases own.phrase [] (OfItem common item)) [] (shape_of site.set.phrases site.set.constants own.phrase common item) (data_with (class_of_type t) (dimensions_of (sizes_of common item)) (has_copies t)) (structure_known site own.phrase common item t typed) (structure_class t structured))

  -- the call form of data, as a factor
  stored_forms : (name : List ℕ) (left : AreLeft site name) (own : IsOwn site name) (common : List Attribute) (item : Declared) (t : Kind) (valued : Bool) → own.phrase.node ≡ OfItem common item → IsAmong own.phrase site.set.phrases → type_of common item ≡ Some t
      → is_event_type (Some t) ≡ false → is_structure_type (Some t) ≡ false → is_value_item common item ≡ valued → FormAgrees u site site.set.phrases site.block name
  stored_forms name left own common item t true is within typed eventless plain valued =
      let worth = left.valued own.number own.phrase common item own.meant own.there is valued in
      constant_formed u site counted has name own (record { common = common; item = item; declares = is; kind = t; typed = typed; eventless = eventless; valued = valued; value = worth.0; worth = worth.1 })
  stored_forms name left own common item t false is within typed eventless plain valued =
      data_formed u site name own (plain_data site.set.phrases named sound counted declared literals site refl has own.phrase (placed own.phrase within) common item t is typed valued eventless plain)

  -- structures have no call forms
  structured_forms : (name : List ℕ) (left : AreLeft site name) (own : IsOwn site name) (common : List Attribute) (item : Declared) (t : Kind) (structured : Bool) (block : ℕ) (place : Place) (raised : Bool) (ts : Expressions) → own.phrase.node ≡ OfItem common item
      → IsAmong own.phrase site.set.phrases → type_of common item ≡ Some t → is_event_type (Some t) ≡ false → is_structure_type (Some t) ≡ structured
      → product_fault site.set.phrases block place (Some (data_with (class_of_type t) (dimensions_of (sizes_of common item)) (has_copies t))) raised ts ≡ None → FormAgrees u site site.set.phrases site.block name
  structured_forms name left own common item t true block place raised ts is within typed eventless structured none = absurd (structure_product site.set.phrases block place (dimensions_of (sizes_of common item)) (has_copies t) raised ts t structured none)
  structured_forms name left own common item t false block place raised ts is within typed eventless structured none = stored_forms name left own common item t (is_value_item common item) is within typed eventless structured refl

  -- the call form of an event, or of other data
  typed_forms : (name : List ℕ) (left : AreLeft site name) (own : IsOwn site name) (common : List Attribute) (item : Declared) (t : Kind) (eventful : Bool) (block : ℕ) (place : Place) (raised : Bool) (ts : Expressions) → own.phrase.node ≡ OfItem common item
      → IsAmong own.phrase site.set.phrases → type_of common item ≡ Some t → is_in_unit site.set.phrases own.phrase.around.home ≡ true → is_event_type (Some t) ≡ eventful
      → product_fault site.set.phrases block place (Some (data_with (class_of_type t) (dimensions_of (sizes_of common item)) (has_copies t))) raised ts ≡ None → FormAgrees u site site.set.phrases site.block name
  typed_forms name left own common item t true block place raised ts is within typed home eventful none =
      let eventful_type : is_event_type (type_of common item) ≡ true = ap is_event_type typed ∙ eventful in
      event_formed u site name own counted (record { common = common; item = item; declares = is; eventful = eventful_type; sized = event_single site sound own.phrase common item within is eventful_type; within = home })
  typed_forms name left own common item t false block place raised ts is within typed home eventful none = structured_forms name left own common item t (is_structure_type (Some t)) block place raised ts is within typed eventful refl none

  -- the call form of data
  item_forms : (name : List ℕ) (left : AreLeft site name) (own : IsOwn site name) (common : List Attribute) (item : Declared) (o : Option Kind) (block : ℕ) (place : Place) (raised : Bool) (ts : Expressions) → own.phrase.node ≡ OfItem common item
      → IsAmong own.phrase site.set.phrases → type_of common item ≡ o → is_in_unit site.set.phrases own.phrase.around.home ≡ true → product_fault site.set.phrases block place (data_of o (sizes_of common item)) raised ts ≡ None
      → FormAgrees u site site.set.phrases site.block name
  unfolding data_of
  item_forms name left own common item None block place raised ts is within typed home none = let other : false ≡ true = ap (λ (o : Option Kind). is_some o) (sym typed) ∙ item_typed site sound own.phrase common item within is in absurd (cc)
  item_forms name left own common item (Some t) block place raised ts is within typed home none = typed_forms name left own common item t (is_event_type (Some t)) block place raised ts is within typed home refl none

  -- the call form of what no template declares
  node_forms : (name : List ℕ) (left : AreLeft site name) (functions : AreFunctions u site name) (parameters : FunctionParameters u site name) (own : IsOwn site name) (f : Phrase) (place : Place) (ts : Expressions) (n : Node) → own.phrase.node ≡ n → IsAmong own.phrase site.set.phrases → is_templated site.set.phrases own.phrase n ≡ false
      → declared_fault site.set.phrases f place ts own.phrase n ≡ None → FormAgrees u site site.set.phrases site.block name
  unfolding declared_fault head_fault data_at is_nil
  node_forms name left functions parameters own f place ts (OfTemplate unit head declarations) is within plain none = absurd (cc)
  node_forms name left functions parameters own f place ts (OfUnit unit (Program at_) declarations) is within plain none = absurd (cc)
  node_forms name left functions parameters own f place ts (OfUnit unit (Task at_) declarations) is within plain none = absurd (cc)
  node_forms name left functions parameters own f place ts (OfUnit unit (Compool at_) declarations) is within plain none = absurd (cc)
  node_forms name left functions parameters own f place ts (OfUnit unit (Procedure at_ inputs outputs mode) declarations) is within plain none = absurd (cc)
  node_forms name left functions parameters own f place ts (OfUnit unit (Function at_ inputs returns mode) declarations) is within plain none =
      let function_ = functions.itself own.number own.phrase unit at_ inputs returns mode declarations own.meant own.there is in
      function_formed u site name own counted function_ (parameters own.number own.phrase own.meant own.there function_)
  node_forms name left functions parameters own f place ts (OfItem common item) is within plain none =
      item_forms name left own common item (type_of common item) f.around.block place (is_raised site.set.phrases f.around.parent) ts is within refl (in_unit (is_in_unit site.set.phrases own.phrase.around.home) plain) none
  node_forms name left functions parameters own f place ts (OfTemporaryGroup labels variable) is within plain none = temporary_formed u site name own (record { labels = labels; variable = variable; declares = is })
  node_forms name left functions parameters own f place ts other is within plain none = absurd (cc)

  -- the call form of a FUNCTION whose template is written
  written_forms : (name : List ℕ) (functions : AreFunctions u site name) (f : Phrase) (place : Place) (ts : Expressions) (k : ℕ) (p : Phrase) (head : Head) (template : Naming) (declarations : List Declaration)
      → means site.set.phrases site.block name ≡ Some k → slice_get site.set.phrases k ≡ Some p → p.node ≡ OfTemplate template head declarations → head_fault site.set.phrases f.around.block place head ts ≡ None
      → FormAgrees u site site.set.phrases site.block name
  written_forms name functions f place ts k p (Function at_ inputs returns mode) template declarations meant there is none =
      let stands = functions.written k p template at_ inputs returns mode declarations meant there is in
      calling.formed_as u site name k p (OfTemplate template (Function at_ inputs returns mode) declarations) (MeantBlock stands.used.unit.number) meant there is (used_meant u site name k inputs meant stands.used)
      (record { taken = stands.used.taken; parameters = stands.used.parameters; gives = stands.gives })
  written_forms name functions f place ts k p (Program at_) template declarations meant there is none = unformed site.set.phrases f.around.block place (Program at_) ts refl none
  written_forms name functions f place ts k p (Task at_) template declarations meant there is none = unformed site.set.phrases f.around.block place (Task at_) ts refl none
  written_forms name functions f place ts k p (Compool at_) template declarations meant there is none = unformed site.set.phrases f.around.block place (Compool at_) ts refl none
  written_forms name functions f place ts k p (Procedure at_ inputs outputs mode) template declarations meant there is none =
      unformed site.set.phrases f.around.block place (Procedure at_ inputs outputs mode) ts refl none

  -- the call form of what is declared
  formed_as : (name : List ℕ) (left : AreLeft site name) (functions : AreFunctions u site name) (parameters : FunctionParameters u site name) (f : Phrase) (place : Place) (ts : Expressions) (k : ℕ) (p : Phrase) → means site.set.phrases site.block name ≡ Some k
      → slice_get site.set.phrases k ≡ Some p → IsShown site.set.phrases k p → declared_fault site.set.phrases f place ts p p.node ≡ None → FormAgrees u site site.set.phrases site.block name
  unfolding declared_fault
  formed_as name left functions parameters f place ts k p meant there (Plain plain) none =
      node_forms name left functions parameters (record { number = k; meant = meant; phrase = p; there = there; own = own_number site.set.phrases k p there plain }) f place ts p.node refl (at_among site.set.phrases k p there) plain none
  formed_as name left functions parameters f place ts k p meant there (Written template head declarations is) none =
      written_forms name functions f place ts k p head template declarations meant there is (ap (declared_fault site.set.phrases f place ts p) (sym is) ∙ none)
  formed_as name left functions parameters f place ts k p meant there (Pooled common item is plain) none = plain_forms name k p common item meant there is (plainly site named sound counted declared literals has placed name left k p common item meant there is plain)
  formed_as name left functions parameters f place ts k p meant there (PooledEvent common item is eventful stands) none =
      event_formed_as u site name k p common item counted meant there is eventful (event_single site sound p common item (at_among site.set.phrases k p there) is eventful) stands.phrase.number stands.phrase stands.stands stands.there
      (event_for site sound k p common item eventful stands)
  formed_as name left functions parameters f place ts k p meant there (PooledConstant common item is eventless constant stands) none =
      let pair = constant_pair site sound name left k p common item meant there is eventless constant stands in
      constant_formed_as u site counted has name k p meant there pair.mine pair.other.number pair.other pair.stands pair.at pair.theirs pair.same

  -- the call form of a built-in function
  builtin_forms : (name : List ℕ) (o : Option Builtin) → means site.set.phrases site.block name ≡ None → builtin_named name ≡ o → elim o [ None ↦ false | Some b ↦ is_known usage.CallForm (form_of b) ] ≡ true → FormAgrees u site site.set.phrases site.block name
  builtin_forms name None undeclared is known_ = absurd (cc)
  builtin_forms name (Some b) undeclared is known_ = builtin_formed u site name b undeclared is

  -- the call form of a name, whatever it means
  formed_by_name : (name : List ℕ) (left : AreLeft site name) (functions : AreFunctions u site name) (parameters : FunctionParameters u site name) (f : Phrase) (place : Place) (ts : Expressions) (o : Option ℕ) → means site.set.phrases site.block name ≡ o → (is_some o || is_known_builtin name usage.CallForm) ≡ true
      → ◌≡◌ {A = Option (ℕ × Place)} (elim o [ None ↦ calls.builtin_fault site.set.phrases f.around.block place name ts | Some k ↦ option_and_then (λ (r : Phrase). declared_fault site.set.phrases f place ts r r.node) (slice_get site.set.phrases k) ]) None
      → FormAgrees u site site.set.phrases site.block name
  formed_by_name name left functions parameters f place ts None meant known_ none = builtin_forms name (builtin_named name) meant refl known_
  formed_by_name name left functions parameters f place ts (Some k) meant known_ none =
      let first = (declared site.block name k meant).1 in
      let p : Phrase = first.declaring in
      formed_as name left functions parameters f place ts k p meant first.there (shown_so site.set.phrases k p p.node refl (λ common item is_item. left.pooled k p common item meant first.there is_item))
      (ap (option_and_then (λ (r : Phrase). declared_fault site.set.phrases f place ts r r.node)) (sym first.there) ∙ none)

  -- a call form agrees
  pub form_agrees : (q : Phrase) (place : Place) (name : List ℕ) (ts : Expressions) → AreLeft site name → AreFunctions u site name → FunctionParameters u site name → IsAmong q site.set.phrases → q.node ≡ OfCallForm place name ts → q.around.block ≡ site.block → FormAgrees u site site.set.phrases site.block name
  unfolding unknown used use_rows miscalled
  form_agrees q place name ts left functions parameters within is here =
      let ps : List Phrase = site.set.phrases in
      let block : ℕ = q.around.block in
      let no_unknown = ruled_none 601 (unknown ps q) (unbroken rows ps named q within (λ qs o. ruled 601 (unknown qs o)) (inl refl)) in
      let no_fault = unbroken type_rows ps sound q within (λ qs o. miscalled qs o o.node) (of_uses (λ qs o. miscalled qs o o.node) (inr (inr (inr (inr (inr (inr (inr (inl refl))))))))) in
      let known_ : (is_some (means ps block name) || is_known_builtin name usage.CallForm) ≡ true = unless_true (is_some (means ps block name) || is_known_builtin name usage.CallForm) place
      (ap (λ n. option_and_then (λ (v : Use). unless (is_known_use ps block v) v.place) (used n)) (sym is) ∙ no_unknown) in
      formed_by_name name left functions parameters q place ts (means ps site.block name) refl (ap (λ b. is_some (means ps b name) || is_known_builtin name usage.CallForm) (sym here) ∙ known_)
      (ap (λ b. elim (means ps b name) [ None ↦ calls.builtin_fault ps block place name ts | Some k ↦ option_and_then (λ (r : Phrase). declared_fault ps q place ts r r.node) (slice_get ps k) ]) (sym here) ∙ (ap (miscalled ps q) (sym is) ∙ no_fault))
