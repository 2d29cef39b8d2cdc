-- Names of values agree in a set that breaks no rule.
use Rattle.std.proofs.Common.{◌≡◌, ℕ, Bool, true, false, not, ◌||◌, List, [], Option, Some, None, slice_get, refl, sym, ap, ◌∙◌, inl, inr}
use Rattle.std.specs.Option.{option_and_then, is_some}
use Rattle.hal_base.specs.declared.refusal.Place.{Place}
use Rattle.hal_grammar.specs.Expressions.{Refers, Subscript}
use Rattle.hal_grammar.specs.Leaves.{Naming}
use Rattle.hal_phrases.specs.declared.role.Role.{Role}
use Rattle.hal_phrases.specs.declared.role.Role.TheVariants as role
use Rattle.hal_grammar.specs.Declarations.{Kind, Attribute, Declaration, Declared}
use Rattle.hal_grammar.specs.Units.{Head, Program, Compool, Task, Procedure, Function}
use Rattle.hal_phrases.specs.Phrases.{Node, Phrase, OfFile, OfTemplate, OfUnit, OfParameter, OfItem, OfStructure, OfPart, OfLabel, OfTemporaryGroup, OfReference, OfSubscriptName}
use Rattle.hal_names.specs.declared.key.Space.TheVariants as space
use Rattle.hal_names.specs.Keys.{key, declared_at}
use Rattle.hal_names.specs.Laws.{IsCounted}
use Rattle.hal_names.specs.Means.{means}
use Rattle.hal_scope.specs.declared.builtin.Builtin.{Builtin}
use Rattle.hal_scope.specs.declared.usage.Usage.TheVariants as usage
use Rattle.hal_scope.specs.declared.used.Use.{Use}
use Rattle.hal_scope.specs.Builtins.{builtin_named, form_of}
use Rattle.hal_scope.specs.Rules.{IsAmong, IsSound, rows, ruled}
use Rattle.hal_scope.specs.Sorts.{type_of, sort_of, sort_of_head, usage_of, use_of, use_of_reference, used, is_known, fits_builtin}
use Rattle.hal_scope.specs.Uses.{is_in_event, unless, sort_at, is_eventful, is_known_builtin, is_known_use, unknown, fits_declared, fits_named, fits_use, misused}
use Rattle.hal_kinds.specs.Classes.{class_of_head}
use Rattle.hal_kinds.specs.Data.{is_event_type, is_structure_type}
use Rattle.hal_operands.specs.Wants.{at}
use Rattle.hal_types.specs.Rules.{type_rows}
use Rattle.hal_constants.specs.Naming.{is_value_item}
use Rattle.hal_meaning.specs.Places.{is_in_unit}
use Rattle.hal_meaning.specs.Calls.{is_function}
use Rattle.hal_meaning.specs.Variables.{MeantBlock}
use Rattle.hal_agreement.specs.Sites.{Site}
use Rattle.hal_fit_expr.specs.Uses.{Uses}
use Rattle.hal_fit_rules.specs.Agreeing.{NameAgrees}
use Rattle.hal_fit_rules.specs.Owned.{IsOwn}
use Rattle.hal_fit_rules.specs.Valued.{HasConstants}
use Rattle.hal_fit_rules.proofs.Constants.{constant_agrees, constant_agrees_as}
use Rattle.hal_fit_rules.proofs.Declaring.{agrees_as, plain_data_agree, temporary_agrees, builtin_agrees, function_agrees}
use Rattle.hal_fit_rules.proofs.Happening.{event_agrees, event_agrees_as, process_agrees, written_process_agrees}
use Rattle.hal_fit_rules.proofs.Structuring.{structure_agrees}
use Rattle.hal_fit_rules.proofs.Unbroken.{unbroken, ruled_none}
use Rattle.hal_fit_names.specs.Named.{AreFunctions, AreLeft}
use Rattle.hal_fit_names.specs.Serving.{MayAsk}
use Rattle.hal_fit_names.specs.Suited.{HasFitLiterals, AreDeclared, is_templated}
use Rattle.hal_fit_names.proofs.Asking.{asked_all, asked_runtime, eventful_sort}
use Rattle.hal_fit_names.proofs.CalledBlocks.{used_meant}
use Rattle.hal_fit_names.proofs.Declaring.{plain_data}
use Rattle.hal_fit_names.proofs.MeantItems.{IsPlainName, ForData, ForItself, ForStructure, constant_pair, event_for, event_single, in_unit, item_typed, plainly, space_of, structure_data}
use Rattle.hal_fit_names.proofs.Owning.{IsShown, Plain, Pooled, PooledConstant, PooledEvent, Written, own_number, shown_so}
use Rattle.hal_fit_names.proofs.Placing.{NodePlaced, at_among}
use Rattle.hal_fit_names.proofs.Pooled.{pooled_agree}
use Rattle.hal_fit_names.proofs.Suiting.{unless_true}
use Rattle.hal_fit_names.proofs.Usages.{alone_form, known_same, limit_fits, value_process}

module _ (u : Uses) (site : Site) (named : IsSound rows site.set.phrases) (sound : IsSound type_rows site.set.phrases) (counted : IsCounted site.set.phrases) (declared : AreDeclared site.set.phrases) (literals : HasFitLiterals site.set.phrases)
    (has : HasConstants site) (placed : (p : Phrase) → IsAmong p site.set.phrases → NodePlaced site.set.phrases p p.node) where
  -- a constant, or other data that are no event and no structure
  stored_agrees : (name : List ℕ) (left : AreLeft site name) (own : IsOwn site name) (common : List Attribute) (item : Declared) (t : Kind) (valued : Bool) → own.phrase.node ≡ OfItem common item → IsAmong own.phrase site.set.phrases → type_of common item ≡ Some t
      → is_event_type (Some t) ≡ false → is_structure_type (Some t) ≡ false → is_value_item common item ≡ valued → NameAgrees u site site.set.phrases site.block name []
  stored_agrees name left own common item t true is within typed eventless plain valued =
      let worth = left.valued own.number own.phrase common item own.meant own.there is valued in
      constant_agrees u site counted has name own
      (record { common = common; item = item; declares = is; kind = t; typed = typed; eventless = eventless; valued = valued; value = worth.0; worth = worth.1 })
  stored_agrees name left own common item t false is within typed eventless plain valued =
      plain_data_agree u site name own (plain_data site.set.phrases named sound counted declared literals site refl has own.phrase (placed own.phrase within) common item t is typed valued eventless plain)

  -- a structure, or other data
  structured_agrees : (name : List ℕ) (left : AreLeft site name) (own : IsOwn site name) (common : List Attribute) (item : Declared) (t : Kind) (structured : Bool) → own.phrase.node ≡ OfItem common item → IsAmong own.phrase site.set.phrases → type_of common item ≡ Some t
      → is_event_type (Some t) ≡ false → is_structure_type (Some t) ≡ structured → NameAgrees u site site.set.phrases site.block name []
  structured_agrees name left own common item t true is within typed eventless structured = structure_agrees u site name [] own (structure_data site own.phrase common item t is typed structured)
  structured_agrees name left own common item t false is within typed eventless structured = stored_agrees name left own common item t (is_value_item common item) is within typed eventless structured refl

  -- an event, or other data
  typed_agrees : (name : List ℕ) (left : AreLeft site name) (may : MayAsk u site name) (own : IsOwn site name) (common : List Attribute) (item : Declared) (t : Kind) (eventful : Bool) → own.phrase.node ≡ OfItem common item → IsAmong own.phrase site.set.phrases → type_of common item ≡ Some t
      → is_in_unit site.set.phrases own.phrase.around.home ≡ true → is_event_type (Some t) ≡ eventful → NameAgrees u site site.set.phrases site.block name []
  typed_agrees name left may own common item t true is within typed home eventful =
      let eventful_type : is_event_type (type_of common item) ≡ true = ap is_event_type typed ∙ eventful in
      event_agrees u site (asked_all u site name own.number own.phrase own.meant own.there may (eventful_sort own.phrase common item is eventful_type)) counted name own (record { common = common; item = item; declares = is; eventful = eventful_type; sized = event_single site sound own.phrase common item within is eventful_type; within = home })
  typed_agrees name left may own common item t false is within typed home eventful = structured_agrees name left own common item t (is_structure_type (Some t)) is within typed eventful refl

  -- data that a unit declares
  item_agrees : (name : List ℕ) (left : AreLeft site name) (may : MayAsk u site name) (own : IsOwn site name) (common : List Attribute) (item : Declared) (o : Option Kind) → own.phrase.node ≡ OfItem common item → IsAmong own.phrase site.set.phrases → type_of common item ≡ o
      → is_in_unit site.set.phrases own.phrase.around.home ≡ true → NameAgrees u site site.set.phrases site.block name []
  item_agrees name left may own common item None is within typed home = let other : false ≡ true = ap (λ (o : Option Kind). is_some o) (sym typed) ∙ item_typed site sound own.phrase common item within is in absurd (cc)
  item_agrees name left may own common item (Some t) is within typed home = typed_agrees name left may own common item t (is_event_type (Some t)) is within typed home refl

  -- what a unit declares
  node_agrees : (name : List ℕ) (left : AreLeft site name) (may : MayAsk u site name) (functions : AreFunctions u site name) (own : IsOwn site name) (owner : ℕ) (q : Phrase) (n : Node) → own.phrase.node ≡ n → IsAmong own.phrase site.set.phrases → declared_at own.phrase.number own.phrase.around n ≡ Some (key space.Declared owner name)
      → is_templated site.set.phrases own.phrase n ≡ false → fits_declared site.set.phrases q usage.Value (sort_of n) ≡ true → NameAgrees u site site.set.phrases site.block name []
  unfolding sort_of sort_of_head is_eventful declared_at
  node_agrees name left may functions own owner q (OfTemplate unit head declarations) is within declares plain fits = absurd (cc)
  node_agrees name left may functions own owner q (OfUnit unit (Program place) declarations) is within declares plain fits =
      process_agrees u site (asked_all u site name own.number own.phrase own.meant own.there may (ap (λ n. is_eventful (sort_of n)) is)) counted name own (record { name = unit; head = Program place; declarations = declarations; declares = is; process = refl })
  node_agrees name left may functions own owner q (OfUnit unit (Task place) declarations) is within declares plain fits =
      process_agrees u site (asked_all u site name own.number own.phrase own.meant own.there may (ap (λ n. is_eventful (sort_of n)) is)) counted name own (record { name = unit; head = Task place; declarations = declarations; declares = is; process = refl })
  node_agrees name left may functions own owner q (OfUnit unit (Compool place) declarations) is within declares plain fits = absurd (cc)
  node_agrees name left may functions own owner q (OfUnit unit (Procedure place inputs outputs mode) declarations) is within declares plain fits = absurd (cc)
  node_agrees name left may functions own owner q (OfUnit unit (Function place inputs returns mode) declarations) is within declares plain fits =
      function_agrees u site name own (functions.itself own.number own.phrase unit place inputs returns mode declarations own.meant own.there is)
  node_agrees name left may functions own owner q (OfItem common item) is within declares plain fits = item_agrees name left may own common item (type_of common item) is within refl (in_unit (is_in_unit site.set.phrases own.phrase.around.home) plain)
  node_agrees name left may functions own owner q (OfTemporaryGroup labels variable) is within declares plain fits = temporary_agrees u site name own (record { labels = labels; variable = variable; declares = is })
  node_agrees name left may functions own owner q (OfStructure structure parts) is within declares plain fits = absurd (cc)
  node_agrees name left may functions own owner q (OfLabel label) is within declares plain fits = absurd (cc)
  node_agrees name left may functions own owner q (OfFile prefaces unit) is within declares plain fits = let other : Some space.Unit ≡ Some space.Declared = ap space_of declares in absurd (cc)
  node_agrees name left may functions own owner q (OfParameter parameter output) is within declares plain fits = let other : Some space.Parameter ≡ Some space.Declared = ap space_of declares in absurd (cc)
  node_agrees name left may functions own owner q (OfPart bottom part) is within declares plain fits = let other : Some space.Part ≡ Some space.Declared = ap space_of declares in absurd (cc)
  node_agrees name left may functions own owner q other is within declares plain fits = absurd (cc)

  -- a built-in function
  builtin_by : (name : List ℕ) (may : MayAsk u site name) (o : Option Builtin) → means site.set.phrases site.block name ≡ None → builtin_named name ≡ o → elim o [ None ↦ false | Some b ↦ is_known usage.Value (form_of b) ] ≡ true
      → elim o [ None ↦ true | Some b ↦ not (is_known usage.Value (form_of b)) || fits_builtin usage.Value (form_of b) ] ≡ true → NameAgrees u site site.set.phrases site.block name []
  builtin_by name may None undeclared is known_ fits = absurd (cc)
  builtin_by name may (Some b) undeclared is known_ fits = builtin_agrees u site name (record { undeclared = undeclared; function = b; named = is; alone = alone_form (form_of b) known_ fits; asked = λ asking. asked_runtime u site name b may undeclared is asking })

  -- plain data, whatever they stand for
  plain_agrees : (name : List ℕ) (k : ℕ) (p : Phrase) (common : List Attribute) (item : Declared) → means site.set.phrases site.block name ≡ Some k → slice_get site.set.phrases k ≡ Some p → p.node ≡ OfItem common item → IsPlainName site name k p common item
      → NameAgrees u site site.set.phrases site.block name []
  plain_agrees name k p common item meant there is (ForData t typed eventless stored stands) = pooled_agree u site named sound counted declared literals has placed k p name common item t meant there is typed eventless stored stands
  plain_agrees name k p common item meant there is (ForItself own data_) = plain_data_agree u site name own data_
  plain_agrees name k p common item meant there is (ForStructure t own declares typed eventless structured stored) = structure_agrees u site name [] own (structure_data site own.phrase common item t declares typed structured)

  -- a process whose template is written
  process_written : (name : List ℕ) (left : AreLeft site name) (may : MayAsk u site name) (k : ℕ) (q p : Phrase) (head : Head) (template : Naming) (declarations : List Declaration) → means site.set.phrases site.block name ≡ Some k
      → slice_get site.set.phrases k ≡ Some p → p.node ≡ OfTemplate template head declarations → is_function head ≡ false → fits_declared site.set.phrases q usage.Value (Some (sort_of_head head)) ≡ true
      → NameAgrees u site site.set.phrases site.block name []
  unfolding sort_of
  process_written name left may k q p head template declarations meant there is none fits =
      let process = value_process site.set.phrases q head none fits in
      written_process_agrees u site (asked_all u site name k p meant there may (ap (λ n. is_eventful (sort_of n)) is ∙ process.1)) counted name (record {
        number = k;
        meant = meant;
        phrase = p;
        there = there;
        template = template;
        head = head;
        declarations = declarations;
        declares = is;
        process = process.0;
        standing = left.standing k p template head declarations meant there is process.0;
      })

  -- a process or a FUNCTION whose template is written
  written_agrees : (name : List ℕ) (left : AreLeft site name) (may : MayAsk u site name) (functions : AreFunctions u site name) (k : ℕ) (q p : Phrase) (head : Head) (template : Naming) (declarations : List Declaration)
      → means site.set.phrases site.block name ≡ Some k → slice_get site.set.phrases k ≡ Some p → p.node ≡ OfTemplate template head declarations → fits_declared site.set.phrases q usage.Value (Some (sort_of_head head)) ≡ true
      → NameAgrees u site site.set.phrases site.block name []
  unfolding class_of_head
  written_agrees name left may functions k q p (Function place inputs returns mode) template declarations meant there is fits =
      let stands = functions.written k p template place inputs returns mode declarations meant there is in
      agrees_as u site [] name k p (OfTemplate template (Function place inputs returns mode) declarations) (MeantBlock stands.used.unit.number) meant there is (used_meant u site name k inputs meant stands.used) stands.gives
  written_agrees name left may functions k q p (Program place) template declarations meant there is fits = process_written name left may k q p (Program place) template declarations meant there is refl fits
  written_agrees name left may functions k q p (Task place) template declarations meant there is fits = process_written name left may k q p (Task place) template declarations meant there is refl fits
  written_agrees name left may functions k q p (Compool place) template declarations meant there is fits = process_written name left may k q p (Compool place) template declarations meant there is refl fits
  written_agrees name left may functions k q p (Procedure place inputs outputs mode) template declarations meant there is fits =
      process_written name left may k q p (Procedure place inputs outputs mode) template declarations meant there is refl fits

  -- a name that means a declaration
  named_as : (name : List ℕ) (left : AreLeft site name) (may : MayAsk u site name) (functions : AreFunctions u site name) (owner k : ℕ) (q p : Phrase) → means site.set.phrases site.block name ≡ Some k → slice_get site.set.phrases k ≡ Some p
      → declared_at p.number p.around p.node ≡ Some (key space.Declared owner name) → IsShown site.set.phrases k p → fits_declared site.set.phrases q usage.Value (sort_of p.node) ≡ true → NameAgrees u site site.set.phrases site.block name []
  unfolding sort_of
  named_as name left may functions owner k q p meant there declares (Plain plain) fits =
      node_agrees name left may functions (record { number = k; meant = meant; phrase = p; there = there; own = own_number site.set.phrases k p there plain }) owner q p.node refl (at_among site.set.phrases k p there) declares plain fits
  named_as name left may functions owner k q p meant there declares (Written template head declarations is) fits =
      written_agrees name left may functions k q p head template declarations meant there is (ap (λ n. fits_declared site.set.phrases q usage.Value (sort_of n)) (sym is) ∙ fits)
  named_as name left may functions owner k q p meant there declares (Pooled common item is plain) fits = plain_agrees name k p common item meant there is (plainly site named sound counted declared literals has placed name left k p common item meant there is plain)
  named_as name left may functions owner k q p meant there declares (PooledEvent common item is eventful stands) fits =
      event_agrees_as u site (asked_all u site name k p meant there may (eventful_sort p common item is eventful)) counted name k p common item meant there is eventful
      (event_single site sound p common item (at_among site.set.phrases k p there) is eventful) stands.phrase.number stands.phrase stands.stands stands.there (event_for site sound k p common item eventful stands)
  named_as name left may functions owner k q p meant there declares (PooledConstant common item is eventless constant stands) fits =
      let pair = constant_pair site sound name left k p common item meant there is eventless constant stands in
      constant_agrees_as u site counted has name k p meant there pair.mine pair.other.number pair.other pair.stands pair.at pair.theirs pair.same

  -- a name, whatever it means
  meant_by_name : (name : List ℕ) (left : AreLeft site name) (may : MayAsk u site name) (functions : AreFunctions u site name) (q : Phrase) (o : Option ℕ) → means site.set.phrases site.block name ≡ o → (is_some o || is_known_builtin name usage.Value) ≡ true
      → elim o [ None ↦ fits_named name usage.Value | Some k ↦ fits_declared site.set.phrases q usage.Value (sort_at site.set.phrases k) ] ≡ true → NameAgrees u site site.set.phrases site.block name []
  meant_by_name name left may functions q None meant known_ fits = builtin_by name may (builtin_named name) meant refl known_ fits
  meant_by_name name left may functions q (Some k) meant known_ fits =
      let is_declared = declared site.block name k meant in
      let first = is_declared.1 in
      let p : Phrase = first.declaring in
      named_as name left may functions is_declared.0 k q p meant first.there first.declares (shown_so site.set.phrases k p p.node refl (λ common item is_item. left.pooled k p common item meant first.there is_item))
      (ap (λ o. fits_declared site.set.phrases q usage.Value (option_and_then (λ (x : Phrase). sort_of x.node) o)) (sym first.there) ∙ fits)

  -- a name that is used as a value
  used_agrees : (q : Phrase) (place : Place) (name : List ℕ) → AreLeft site name → MayAsk u site name → AreFunctions u site name → IsAmong q site.set.phrases → used q.node ≡ Some (use_of place name usage.Value) → q.around.block ≡ site.block → NameAgrees u site site.set.phrases site.block name []
  unfolding unknown misused
  used_agrees q place name left may functions within is here =
      let ps : List Phrase = site.set.phrases in
      let block : ℕ = q.around.block in
      let no_unknown = ruled_none 601 (unknown ps q) (unbroken rows ps named q within (λ qs o. ruled 601 (unknown qs o)) (inl refl)) in
      let no_misuse = ruled_none 603 (misused ps q) (unbroken rows ps named q within (λ qs o. ruled 603 (misused qs o)) (inr (inr (inl refl)))) in
      let known_ : (is_some (means ps block name) || is_known_builtin name usage.Value) ≡ true = unless_true (is_some (means ps block name) || is_known_builtin name usage.Value) place
      (ap (option_and_then (λ (v : Use). unless (is_known_use ps block v) v.place)) (sym is) ∙ no_unknown) in
      let fits : elim (means ps block name) [ None ↦ fits_named name usage.Value | Some k ↦ fits_declared ps q usage.Value (sort_at ps k) ] ≡ true = unless_true (elim (means ps block name) [ None ↦ fits_named name usage.Value | Some k ↦ fits_declared ps q usage.Value (sort_at ps k) ]) place
      (ap (option_and_then (λ (v : Use). unless (fits_use ps q v) v.place)) (sym is) ∙ no_misuse) in
      meant_by_name name left may functions q (means ps site.block name) refl (ap (λ b. is_some (means ps b name) || is_known_builtin name usage.Value) (sym here) ∙ known_)
      (ap (λ b. elim (means ps b name) [ None ↦ fits_named name usage.Value | Some k ↦ fits_declared ps q usage.Value (sort_at ps k) ]) (sym here) ∙ fits)

  -- the name of a reference that is a value
  pub value_agrees : (q : Phrase) (role : Role) (place : Place) (name : List ℕ) (x : Subscript) → AreLeft site name → MayAsk u site name → AreFunctions u site name → IsAmong q site.set.phrases → q.node ≡ OfReference role (Refers place name [] x) → usage_of role ≡ usage.Value → q.around.block ≡ site.block
      → NameAgrees u site site.set.phrases site.block name []
  unfolding used use_of_reference
  value_agrees q role place name x left may functions within is wanted here = used_agrees q place name left may functions within (ap used is ∙ ap (λ w. Some (use_of place name w)) wanted) here

  -- and the one behind `$`
  pub subscript_agrees : (q : Phrase) (name : Naming) → AreLeft site name.name → MayAsk u site name.name → AreFunctions u site name.name → IsAmong q site.set.phrases → q.node ≡ OfSubscriptName name → q.around.block ≡ site.block → NameAgrees u site site.set.phrases site.block name.name []
  unfolding used
  subscript_agrees q name left may functions within is here = used_agrees q name.place name.name left may functions within (ap used is) here

  -- and the one of an operand behind UNTIL of SCHEDULE, where no event stands
  pub limit_agrees : (q : Phrase) (place : Place) (name : List ℕ) (x : Subscript) → AreLeft site name → MayAsk u site name → AreFunctions u site name → IsAmong q site.set.phrases
      → q.node ≡ OfReference role.EventOrTime (Refers place name [] x) → q.around.block ≡ site.block → is_in_event site.set.phrases q ≡ false → NameAgrees u site site.set.phrases site.block name []
  unfolding unknown misused used use_of_reference usage_of
  limit_agrees q place name x left may functions within is here calm =
      let ps : List Phrase = site.set.phrases in
      let block : ℕ = q.around.block in
      let no_unknown = ruled_none 601 (unknown ps q) (unbroken rows ps named q within (λ qs o. ruled 601 (unknown qs o)) (inl refl)) in
      let no_misuse = ruled_none 603 (misused ps q) (unbroken rows ps named q within (λ qs o. ruled 603 (misused qs o)) (inr (inr (inl refl)))) in
      let known_ : (is_some (means ps block name) || is_known_builtin name usage.EventOrTime) ≡ true = unless_true (is_some (means ps block name) || is_known_builtin name usage.EventOrTime) place
      (ap (λ n. option_and_then (λ (v : Use). unless (is_known_use ps block v) v.place) (used n)) (sym is) ∙ no_unknown) in
      let fits : elim (means ps block name) [ None ↦ fits_named name usage.EventOrTime | Some k ↦ fits_declared ps q usage.EventOrTime (sort_at ps k) ] ≡ true =
      unless_true (elim (means ps block name) [ None ↦ fits_named name usage.EventOrTime | Some k ↦ fits_declared ps q usage.EventOrTime (sort_at ps k) ]) place
      (ap (λ n. option_and_then (λ (v : Use). unless (fits_use ps q v) v.place) (used n)) (sym is) ∙ no_misuse) in
      meant_by_name name left may functions q (means ps site.block name) refl
      (ap (λ b. is_some (means ps site.block name) || b) (sym (known_same (builtin_named name))) ∙ (ap (λ b. is_some (means ps b name) || is_known_builtin name usage.EventOrTime) (sym here) ∙ known_))
      (sym (limit_fits ps q name (means ps site.block name) calm)
      ∙ (ap (λ b. elim (means ps b name) [ None ↦ fits_named name usage.EventOrTime | Some k ↦ fits_declared ps q usage.EventOrTime (sort_at ps k) ]) (sym here) ∙ fits))
