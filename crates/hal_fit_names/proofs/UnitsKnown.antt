-- What is known of a unit, where it is known of the phrases that are left.
use Rattle.std.proofs.Common.{◌≡◌, ◌⊎◌, ◌≤◌, ℕ, ◌+◌, Bool, true, false, not, List, [], ◌∷◌, length, Option, Some, None, slice_get, refl, sym, ap, ◌∙◌, subst, inl, inr, if◌then◌else◌, arith}
use Rattle.std.specs.Option.{option_and_then, is_some}
use Rattle.std.proofs.lemmas.List.{length-map}
use Rattle.hal_base.specs.declared.refusal.Place.{Place}
use Rattle.hal_grammar.specs.Leaves.{Naming}
use Rattle.hal_grammar.specs.Declarations.{Attribute, Kind, Declaration, Declared}
use Rattle.hal_grammar.specs.Expressions.{Expression, Literal, Decimal, Refers, Subscript}
use Rattle.hal_grammar.specs.Units.{Head, Mode, Procedure, Function, Returns}
use Rattle.hal_phrases.specs.declared.role.Role.{Role}
use Rattle.hal_phrases.specs.declared.role.Role.TheVariants as role
use Rattle.hal_phrases.specs.Phrases.{Node, Phrase, OfExpression, OfReference, OfSubscriptName, OfCallForm, OfCall, OfEvent, OfVariable, OfTemporaryGroup, OfAssignment, OfItem, OfReturn, OfTemplate, OfUnit}
use Rattle.hal_names.specs.declared.key.Space.TheVariants as space
use Rattle.hal_names.specs.Keys.{key, own}
use Rattle.hal_names.specs.Laws.{IsCounted}
use Rattle.hal_names.specs.Means.{means}
use Rattle.hal_scope.specs.declared.usage.Usage.TheVariants as usage
use Rattle.hal_scope.specs.declared.used.Use.{Use}
use Rattle.hal_scope.specs.Rules.{IsAmong, IsSound, rows}
use Rattle.hal_scope.specs.Sorts.{type_of, usage_of, use_of, use_of_reference, used}
use Rattle.hal_scope.specs.Uses.{is_nil, unless}
use Rattle.hal_types.specs.Rules.{type_rows}
use Rattle.hal_kinds.specs.Classes.{class_of_called_head, class_of_returns}
use Rattle.hal_shapes.specs.Arguments.{parameter_of}
use Rattle.hal_values.specs.declared.value.Value.{Value}
use Rattle.hal_values.specs.declared.tables.EventStart.{EventStart}
use Rattle.hal_values.specs.declared.tables.Tables.{Tables}
use Rattle.hal_constants.specs.declared.constant.Constant.TheVariants as constant
use Rattle.hal_constants.specs.Constants.{constant_of}
use Rattle.hal_constants.specs.Known.{Known}
use Rattle.hal_constants.specs.Naming.{is_value_item, value_at}
use Rattle.hal_meaning.specs.Bodies as bodies
use Rattle.hal_meaning.specs.Bodies.{Body, callee_at, called_block, is_called, is_called_head, is_process_head, processes_of, standing_for}
use Rattle.hal_meaning.specs.Calls.{inputs_of, is_function}
use Rattle.hal_meaning.specs.Events as starts
use Rattle.hal_meaning.specs.Events.{declared_events}
use Rattle.hal_meaning.specs.Sets.{Set, body_at}
use Rattle.hal_locks.specs.Barred.{barred, is_asked, is_read, is_reading}
use Rattle.hal_locks.specs.Callees.{is_barred}
use Rattle.hal_code.specs.declared.image.ImageParts.{ImageParts}
use Rattle.hal_code.specs.declared.row.Process.{Process}
use Rattle.hal_code.specs.Images.{start_of}
use Rattle.hal_agreement.specs.Constants.{IsConstant}
use Rattle.hal_agreement.specs.Sites.{Site, here_at, within_block}
use Rattle.hal_fitting.specs.Fitting.{Ground}
use Rattle.hal_fit_expr.specs.Sorted.{sort_of_call}
use Rattle.hal_fit_expr.specs.Uses.{Uses}
use Rattle.hal_fit_constants.specs.Names.{NamesAgree}
use Rattle.hal_fit_rules.specs.Happening.{StandsForProcess}
use Rattle.hal_fit_rules.specs.Leaves.{IsKnown}
use Rattle.hal_fit_rules.specs.Parameters as parameters
use Rattle.hal_fit_rules.specs.Passing.{IsParameter, AreParameters}
use Rattle.hal_fit_rules.specs.Signalled.{HasEvents}
use Rattle.hal_fit_rules.specs.Used.{LeafKnown, ChannelKnown, ReturnKnown, NodeKnown, ReferenceKnown, PhraseKnown, UnitKnown}
use Rattle.hal_fit_rules.specs.Valued.{HasConstants}
use Rattle.hal_fit_rules.proofs.Constants.{among_found}
use Rattle.hal_fit_names.specs.Bodied.{HasBody, IsUnitOf}
use Rattle.hal_fit_names.specs.Called.{StandsForCalled, StandsForUsed}
use Rattle.hal_fit_names.specs.Known.{is_left_node}
use Rattle.hal_fit_names.specs.Named.{AreFunctions, AreLeft, AreProcedures, FunctionParameters}
use Rattle.hal_fit_names.specs.Serving.{AsksNothing, MayAsk, ServesUnit}
use Rattle.hal_fit_names.specs.Spelled.{AreSpelled}
use Rattle.hal_fit_names.specs.Standing.{StandsForData, StandsForItself}
use Rattle.hal_fit_names.specs.Suited.{NodeIsFit, HasFitLiterals, AreDeclared}
use Rattle.hal_fit_names.specs.Used.{IsDeclaredParameter, AreDeclaredParameters, HaveValues, IsHome}
use Rattle.hal_fit_names.proofs.Asking.{unasked, unasked_otherwise}
use Rattle.hal_fit_names.proofs.Callable.{function_known, function_result, procedure_known}
use Rattle.hal_fit_names.proofs.Channelled.{channel_agrees}
use Rattle.hal_fit_names.proofs.Declaring.{parameter_known}
use Rattle.hal_fit_names.proofs.KindsMeant.{name_ranged}
use Rattle.hal_fit_names.proofs.MeantCalls.{call_agrees}
use Rattle.hal_fit_names.proofs.MeantCells.{receiver_agrees, output_agrees, variable_agrees}
use Rattle.hal_fit_names.proofs.MeantEvents.{changed_agrees}
use Rattle.hal_fit_names.proofs.MeantForms.{form_agrees}
use Rattle.hal_fit_names.proofs.MeantItems.{item_typed}
use Rattle.hal_fit_names.proofs.MeantValues.{value_agrees, subscript_agrees, limit_agrees}
use Rattle.hal_fit_names.proofs.Owning.{called_plain, own_number}
use Rattle.hal_fit_names.proofs.Placing.{NodePlaced, at_among}
use Rattle.hal_fit_names.proofs.Temporary.{temporary_sorted}

-- what is found is there
found_in : (ps : List Phrase) (r : Phrase) (o : Option ℕ) → option_and_then (λ j. slice_get ps j) o ≡ Some r → IsAmong r ps
found_in ps r None is = absurd (cc)
found_in ps r (Some j) is = at_among ps j r is

parameter_among : (ps : List Phrase) (unit : ℕ) (name : Naming) (r : Phrase) → parameter_of ps unit name ≡ Some r → IsAmong r ps
unfolding parameter_of
parameter_among ps unit name r is = found_in ps r (own ps (key space.Declared unit name.name)) is

-- a phrase that calls what a name means calls a unit that it means
unit_called : (ps : List Phrase) (k j : ℕ) (p : Phrase) (o : Option ℕ) → o ≡ Some k → slice_get ps j ≡ Some p → standing_for ps k ≡ j → is_called p.node ≡ true
    → called_block ps (elim o [ None ↦ None | Some i ↦ Some (standing_for ps i) ]) ≡ Some p.number
unit_called ps k j p o is there stands called =
    ap (λ (x : Option ℕ). called_block ps (elim x [ None ↦ None | Some i ↦ Some (standing_for ps i) ])) is
    ∙ (ap (λ n. called_block ps (Some n)) stands
    ∙ (ap (λ (x : Option Phrase). option_and_then (λ (q : Phrase). if is_called q.node then Some q.number else None) x) there ∙ ap (λ b. if b then Some p.number else None) called))

module _ (image : ImageParts) (g : Ground) (u : Bool → Uses) (site : Site) (home : ℕ) (named : IsSound rows site.set.phrases) (sound : IsSound type_rows site.set.phrases) (counted : IsCounted site.set.phrases)
    (declared : AreDeclared site.set.phrases) (literals : HasFitLiterals site.set.phrases) (spelled : AreSpelled site.set.phrases) (has : HasConstants site) (serves : ServesUnit site.set image u home)
    (written : (k : ℕ) (p : Phrase) (template : Naming) (head : Head) (declarations : List Declaration) → slice_get site.set.phrases k ≡ Some p → p.node ≡ OfTemplate template head declarations → is_process_head head ≡ true → StandsForProcess site.set.phrases k)
    (pools : (k : ℕ) (p : Phrase) (common : List Attribute) (item : Declared) → slice_get site.set.phrases k ≡ Some p → p.node ≡ OfItem common item → StandsForData site.set.phrases k p common item ⊎ StandsForItself site.set.phrases k p common item) (valued : HaveValues site.set)
    (same : (k : ℕ) (p : Phrase) (common : List Attribute) (item : Declared) → slice_get site.set.phrases k ≡ Some p → p.node ≡ OfItem common item → is_value_item common item ≡ true
    → (stands : StandsForData site.set.phrases k p common item) → value_at site.set.constants stands.phrase.number ≡ value_at site.set.constants p.number) (called_stand : (block k : ℕ) (p : Phrase) (template : Naming) (head : Head) (declarations : List Declaration) → slice_get site.set.phrases k ≡ Some p → p.node ≡ OfTemplate template head declarations → is_called_head head ≡ true
    → StandsForCalled (within_block block site) k head) (stands : IsHome g site home) (placed : (p : Phrase) → IsAmong p site.set.phrases → NodePlaced site.set.phrases p p.node)
    (bodied : (k : ℕ) (p : Phrase) (name : Naming) (head : Head) (declarations : List Declaration) → slice_get site.set.phrases k ≡ Some p → p.node ≡ OfUnit name head declarations → HasBody site.set.bodies k head)
    (united : (k : ℕ) (b : Body) → body_at site.set k ≡ Some b → IsUnitOf site.set.phrases k b)
    (inputs_known : (k : ℕ) (p : Phrase) (name : Naming) (head : Head) (declarations : List Declaration) → slice_get site.set.phrases k ≡ Some p → p.node ≡ OfUnit name head declarations
    → AreDeclaredParameters site.set.phrases k (inputs_of head)) (events : HasEvents image site)
    (constants : (here : Site) (vs : Known) (p : Phrase) (tree : Expression) (v : Value) → NamesAgree here vs p → constant_of here.set.phrases vs p tree ≡ constant.Worth v → IsConstant here tree v)
    (temporaries : (k : ℕ) (p : Phrase) (labels : List Naming) (variable : Naming) → slice_get site.set.phrases k ≡ Some p → p.node ≡ OfTemporaryGroup labels variable → means site.set.phrases k variable.name ≡ Some k) where
  -- what is used has all events
  all_there : (b : Bool) → length (processes_of site.set.phrases) + length (declared_events site.set.phrases) ≤ (u b).events
  all_there b =
      let set : Set = site.set in
      let of_processes : length image.processes ≡ length (processes_of set.phrases) =
      sym (length-map image.processes (λ (p : Process). p.name)) ∙ (ap (λ (t : Tables). length t.processes) events.tables ∙ events.processes) in
      let of_events : length image.events ≡ length (declared_events set.phrases) =
      sym (length-map image.events start_of) ∙ (ap (λ (t : Tables). length t.events) events.tables ∙ (ap (λ (xs : List EventStart). length xs) events.events ∙ length-map (declared_events set.phrases) (starts.start_of set.phrases set.constants))) in
      let of_image = serves.events b in
      omega (arith, of_processes, of_events, of_image)

  events_in : (block : ℕ) → HasEvents image (within_block block site)
  events_in block = record { tables = events.tables; processes = events.processes; events = events.events }

  -- a parameter that is declared as data is known
  typed_parameter : (block unit : ℕ) (name : Naming) (is : IsDeclaredParameter site.set.phrases unit name) (o : Option Kind) → type_of is.common is.item ≡ o → is_some o ≡ true → IsParameter (within_block block site) unit name
  typed_parameter block unit name is None typed some = absurd (cc)
  typed_parameter block unit name is (Some kind) typed some =
      parameter_known site.set.phrases named sound counted declared literals (within_block block site) refl has is.phrase (placed is.phrase (parameter_among site.set.phrases unit name is.phrase is.found)) is.common is.item kind is.declares typed
      is.stored unit name is.found is.dimensioned

  declared_parameter : (block unit : ℕ) (name : Naming) → IsDeclaredParameter site.set.phrases unit name → IsParameter (within_block block site) unit name
  declared_parameter block unit name is =
      typed_parameter block unit name is (type_of is.common is.item) refl
      (item_typed site sound is.phrase is.common is.item (parameter_among site.set.phrases unit name is.phrase is.found) is.declares)

  declared_parameters : (block unit : ℕ) (names : List Naming) → AreDeclaredParameters site.set.phrases unit names → AreParameters (within_block block site) unit names
  declared_parameters block unit [] are = tt
  declared_parameters block unit (name ∷ names) are = (declared_parameter block unit name are.0, declared_parameters block unit names are.1)

  numbered_inputs : (k : ℕ) (p : Phrase) (name : Naming) (head : Head) (declarations : List Declaration) → slice_get site.set.phrases k ≡ Some p → p.node ≡ OfUnit name head declarations
      → AreDeclaredParameters site.set.phrases p.number (inputs_of head)
  numbered_inputs k p name head declarations there is = subst (λ n. AreDeclaredParameters site.set.phrases n (inputs_of head)) (sym (counted k p there)) (inputs_known k p name head declarations there is)

  -- the phrase uses a name of the unit
  module _ (q : Phrase) (within : IsAmong q site.set.phrases) (here : q.around.home ≡ home) where
    module _ (v : Use) (uses : used q.node ≡ Some v) where
      name_left : AreLeft (within_block q.around.block site) v.name
      name_left = record {
        standing = λ k p template head declarations meant there is process. written k p template head declarations there is process;
        pooled = λ k p common item meant there is. pools k p common item there is;
        valued = λ k p common item meant there is value_item. valued p common item (at_among site.set.phrases k p there) is value_item;
        same = λ k p common item meant there is value_item stands_. same k p common item there is value_item stands_;
      }

      -- a unit that it means may be called where the phrase calls what the name means
      module _ (calling : callee_at site.set.phrases q.around.block q.node ≡ called_block site.set.phrases (bodies.meant site.set.phrases q.around.block v.name)) where
        may_call : (k : ℕ) (p : Phrase) → means site.set.phrases q.around.block v.name ≡ Some k → slice_get site.set.phrases k ≡ Some p → is_called p.node ≡ true → (u (is_some q.around.update)).calls p.number ≡ true
        may_call k p is there called =
            serves.calls q p.number within here
            (calling
            ∙ unit_called site.set.phrases k k p (means site.set.phrases q.around.block v.name) is there (own_number site.set.phrases k p there (called_plain site.set.phrases p p.node called)) called)

        template_calls : (k : ℕ) (head : Head) → means site.set.phrases q.around.block v.name ≡ Some k → (stands_ : StandsForCalled (within_block q.around.block site) k head)
            → (u (is_some q.around.update)).calls stands_.unit.number ≡ true
        template_calls k head is stands_ =
            serves.calls q stands_.unit.number within here
            (calling
            ∙ unit_called site.set.phrases k stands_.unit.number stands_.unit (means site.set.phrases q.around.block v.name) is stands_.there stands_.stands (ap is_called stands_.declares ∙ stands_.called))

        -- what the template of a PROCEDURE or FUNCTION stands for may be called too
        used_template : (k : ℕ) (head : Head) → means site.set.phrases q.around.block v.name ≡ Some k → StandsForCalled (within_block q.around.block site) k head
            → StandsForUsed (u (is_some q.around.update)) (within_block q.around.block site) k (inputs_of head)
        used_template k head is stands_ =
            let has_body = bodied stands_.unit.number stands_.unit stands_.name stands_.unit_head stands_.declarations stands_.there stands_.declares in
            record {
              unit = stands_.unit;
              stands = stands_.stands;
              there = stands_.there;
              name = stands_.name;
              head = stands_.unit_head;
              declarations = stands_.declarations;
              declares = stands_.declares;
              called = stands_.called;
              taken = ap parameters.spelled (ap (λ (o : Option Body). elim o [ None ↦ [] | Some b ↦ inputs_of b.head ]) has_body.found ∙ ap inputs_of has_body.same) ∙ stands_.named;
              calls = template_calls k head is stands_;
              parameters = stands_.parameters;
            }

        -- and a FUNCTION gives a value of the class that its template says
        template_gives : (k : ℕ) (place : Place) (inputs : List Naming) (returns : Returns) (mode : Option Mode) → means site.set.phrases q.around.block v.name ≡ Some k
            → (stands_ : StandsForCalled (within_block q.around.block site) k (Function place inputs returns mode)) (h : Head) → stands_.unit_head ≡ h → is_function h ≡ true → class_of_called_head h ≡ class_of_returns returns
            → IsKnown (class_of_returns returns) (sort_of_call (u (is_some q.around.update)) (within_block q.around.block site) stands_.unit.number)
        unfolding class_of_called_head
        template_gives k place inputs returns mode is stands_ (Function at others other_returns other_mode) same function gives =
            let declares = stands_.declares ∙ ap (λ h. OfUnit stands_.name h stands_.declarations) same in
            subst (λ c. IsKnown c (sort_of_call (u (is_some q.around.update)) (within_block q.around.block site) stands_.unit.number)) gives
            (function_result (u (is_some q.around.update)) (within_block q.around.block site) sound counted stands_.unit.number stands_.unit stands_.there stands_.name at others other_returns other_mode stands_.declarations declares
            (bodied stands_.unit.number stands_.unit stands_.name (Function at others other_returns other_mode) stands_.declarations stands_.there declares) (template_calls k (Function place inputs returns mode) is stands_))
        template_gives k place inputs returns mode is stands_ other same function gives = absurd (cc)

        functions : AreFunctions (u (is_some q.around.update)) (within_block q.around.block site) v.name
        unfolding class_of_called_head used_template
        functions = record {
          itself = λ k p unit place inputs returns mode declarations is there declares.
              function_known (u (is_some q.around.update)) (within_block q.around.block site) sound counted k p there unit place inputs returns mode declarations declares
              (bodied k p unit (Function place inputs returns mode) declarations there declares) (may_call k p is there (ap is_called declares));
          written = λ k p template place inputs returns mode declarations is there declares.
              let stands_ = called_stand q.around.block k p template (Function place inputs returns mode) declarations there declares refl in
              record { used = used_template k (Function place inputs returns mode) is stands_; gives = template_gives k place inputs returns mode is stands_ stands_.unit_head refl stands_.function stands_.gives };
        }

        procedures : AreProcedures (u (is_some q.around.update)) (within_block q.around.block site) v.name
        procedures = record {
          itself = λ k p unit place inputs outputs mode declarations is there declares.
              procedure_known (u (is_some q.around.update)) (within_block q.around.block site) sound counted k p there unit place inputs outputs mode declarations declares (bodied k p unit (Procedure place inputs outputs mode) declarations there declares)
              (may_call k p is there (ap is_called declares)) (declared_parameters q.around.block p.number inputs (numbered_inputs k p unit (Procedure place inputs outputs mode) declarations there declares));
          written = λ k p template place inputs outputs mode declarations is there declares.
              used_template k (Procedure place inputs outputs mode) is (called_stand q.around.block k p template (Procedure place inputs outputs mode) declarations there declares refl);
        }

    function_parameters : (name : List ℕ) → FunctionParameters (u (is_some q.around.update)) (within_block q.around.block site) name
    function_parameters name k p meant there is =
        declared_parameters q.around.block p.number is.inputs
        (numbered_inputs k p is.name (Function is.place is.inputs is.returns is.mode) is.declarations there is.declares)

    -- a name may be asked that the phrase doesn't ask where it does nothing that an UPDATE block may not do
    may_ask : (name : List ℕ) → (is_barred site.set.phrases q ≡ false → is_asked site.set.phrases q.around.block true name ≡ false) → MayAsk (u (is_some q.around.update)) (within_block q.around.block site) name
    may_ask name so = record { all = all_there (is_some q.around.update); asks = by (serves.asks (is_some q.around.update)) } where
      by : ((u (is_some q.around.update)).asks ≡ true) ⊎ AsksNothing site.set.phrases home (is_some q.around.update)
          → ((u (is_some q.around.update)).asks ≡ true) ⊎ (is_asked site.set.phrases q.around.block true name ≡ false)
      by (inl asks) = inl asks
      by (inr nothing) = inr (so (nothing q within here refl))

    -- as one that it reads
    may_read : (n : Node) (name : List ℕ) (place : Place) → q.node ≡ n → barred site.set.phrases q.around.block n ≡ unless (not (is_asked site.set.phrases q.around.block true name)) place
        → MayAsk (u (is_some q.around.update)) (within_block q.around.block site) name
    may_read n name place is so = may_ask name (unasked site.set.phrases q n true name place is so)

  -- RETURN
  return_known : (q : Phrase) (value : Option Expression) → q.around.home ≡ home → ReturnKnown image g (within_block q.around.block site) site.set.phrases q.around.home value
  return_known q None here = tt
  return_known q (Some tree) here =
      let unit = united home stands.body stands.found in
      record {
        phrase = unit.phrase;
        there = ap (slice_get site.set.phrases) here ∙ unit.there;
        name = unit.name;
        head = stands.body.head;
        declarations = unit.declarations;
        declares = unit.declares;
        body = stands.body;
        found = ap (body_at site.set) stands.unit ∙ stands.found;
        same = refl;
        gives = stands.gives;
      }

  -- an expression
  leaf_known : (q : Phrase) (r : Role) (tree : Expression) → IsAmong q site.set.phrases → q.node ≡ OfExpression r tree → NodeIsFit (OfExpression r tree) → LeafKnown tree
  leaf_known q r (Literal place literal) within is fit = fit
  leaf_known q r (Decimal place number) within is fit = spelled.times q r place number within is
  leaf_known q r other within is fit = tt

  -- a channel
  channel_known : (q : Phrase) (r : Role) (tree : Expression) → ChannelKnown (within_block q.around.block site) site.set.phrases q r tree
  channel_known q role.Channel tree = λ d begun. channel_agrees site named sound counted declared literals has pools same placed q constants tree d begun
  channel_known q other tree = tt

  -- a reference
  reference_known : (q : Phrase) (r : Role) (place : Place) (name : List ℕ) (path : List Naming) (x : Subscript) → IsAmong q site.set.phrases → q.around.home ≡ home → q.node ≡ OfReference r (Refers place name path x)
      → is_left_node (OfReference r (Refers place name path x)) ≡ false
      → ReferenceKnown (u (is_some q.around.update)) (within_block q.around.block site) site.set.phrases q r (Refers place name path x)
  unfolding is_nil usage_of used use_of_reference barred is_reading is_read
  reference_known q role.Receiver place name [] x within here is plain = (
    receiver_agrees (u (is_some q.around.update)) (within_block q.around.block site) named sound counted declared literals has placed q place name x
        (name_left q within here (use_of place name usage.Receiver) (ap used is)) within is refl,
    name_ranged (here_at (within_block q.around.block site)) [] [] name,
  )
  reference_known q role.Receiver place name (n ∷ path) x within here is plain = absurd (cc)
  reference_known q role.Event place name path x within here is plain = tt
  reference_known q role.EventOrTime place name [] x within here is plain =
      λ calm eventless.
      let v : Use = use_of place name usage.EventOrTime in
      limit_agrees (u (is_some q.around.update)) (within_block q.around.block site) named sound counted declared literals has placed q place name x
      (name_left q within here v (ap used is))
      (may_ask q within here name
      (λ free. unasked_otherwise site.set.phrases q.around.block name (unasked site.set.phrases q (OfReference role.EventOrTime (Refers place name [] x)) false name place is refl free) eventless))
      (functions q within here v (ap used is) (ap (callee_at site.set.phrases q.around.block) is)) within is refl calm
  reference_known q role.EventOrTime place name (n ∷ path) x within here is plain = absurd (cc)
  reference_known q role.Output place name [] x within here is plain =
      output_agrees (u (is_some q.around.update)) (within_block q.around.block site) named sound counted declared literals has placed q place name x
      (name_left q within here (use_of place name usage.Output) (ap used is)) within is refl
  reference_known q role.Output place name (n ∷ path) x within here is plain = absurd (cc)
  reference_known q other place name [] x within here is plain =
      let v : Use = use_of place name usage.Value in
      value_agrees (u (is_some q.around.update)) (within_block q.around.block site) named sound counted declared literals has placed q other place name x
      (name_left q within here v (ap used is)) (may_read q within here (OfReference other (Refers place name [] x)) name place is refl)
      (functions q within here v (ap used is) (ap (callee_at site.set.phrases q.around.block) is)) within is refl refl
  reference_known q other place name (n ∷ path) x within here is plain = absurd (cc)

  node_known : (q : Phrase) (n : Node) → IsAmong q site.set.phrases → q.around.home ≡ home → q.node ≡ n → is_left_node n ≡ false
      → NodeKnown image g (u (is_some q.around.update)) (within_block q.around.block site) site.set.phrases q n
  unfolding used barred is_reading
  node_known q (OfExpression r tree) within here is plain =
      (leaf_known q r tree within is (subst NodeIsFit is (literals q within)), channel_known q r tree)
  node_known q (OfReference r (Refers place name path x)) within here is plain = reference_known q r place name path x within here is plain
  node_known q (OfTemporaryGroup labels variable) within here is plain =
      let at_ = among_found q site.set.phrases within in
      temporary_sorted (u (is_some q.around.update)) (within_block q.around.block site) at_.0 q labels variable counted at_.1 is (temporaries at_.0 q labels variable at_.1 is)
  node_known q (OfAssignment receivers value) within here is plain = spelled.receivers q receivers value within is
  node_known q (OfReturn place value) within here is plain = return_known q value here
  node_known q (OfSubscriptName name) within here is plain =
      let v : Use = use_of name.place name.name usage.Value in
      subscript_agrees (u (is_some q.around.update)) (within_block q.around.block site) named sound counted declared literals has placed q name
      (name_left q within here v (ap used is)) (may_read q within here (OfSubscriptName name) name.name name.place is refl)
      (functions q within here v (ap used is) (ap (callee_at site.set.phrases q.around.block) is)) within is refl
  node_known q (OfCallForm place name arguments) within here is plain =
      let v : Use = use_of place name usage.CallForm in
      form_agrees (u (is_some q.around.update)) (within_block q.around.block site) named sound counted declared literals has placed q place name arguments
      (name_left q within here v (ap used is)) (functions q within here v (ap used is) (ap (callee_at site.set.phrases q.around.block) is)) (function_parameters q within here name) within is refl
  node_known q (OfVariable name) within here is plain =
      variable_agrees (u (is_some q.around.update)) (within_block q.around.block site) named sound counted declared literals has placed q name
      (name_left q within here (use_of name.place name.name usage.Variable) (ap used is)) within is refl
  node_known q (OfCall name arguments receivers) within here is plain =
      let v : Use = use_of name.place name.name usage.Called in
      call_agrees (u (is_some q.around.update)) (within_block q.around.block site) named sound counted declared literals has placed q name arguments receivers
      (name_left q within here v (ap used is)) (procedures q within here v (ap used is) (ap (callee_at site.set.phrases q.around.block) is)) within is refl
  node_known q (OfEvent event) within here is plain =
      changed_agrees (within_block q.around.block site) named sound counted declared literals has placed image q event
      (name_left q within here (use_of event.name.place event.name.name usage.Event) (ap used is)) (events_in q.around.block) within is refl
  node_known q other within here is plain = tt

  phrase_known : (q : Phrase) (b : Bool) → is_left_node q.node ≡ b → IsAmong q site.set.phrases → q.around.home ≡ home → (is_left_node q.node ≡ true → PhraseKnown image g u site q) → PhraseKnown image g u site q
  phrase_known q true is within here rest = rest is
  phrase_known q false is within here rest = node_known q q.node within here refl is

  pub unit_known : ((q : Phrase) → IsAmong q site.set.phrases → q.around.home ≡ home → is_left_node q.node ≡ true → PhraseKnown image g u site q) → UnitKnown image g u site home
  unit_known rest = λ q within here. phrase_known q (is_left_node q.node) refl within here (λ is. rest q within here is)
