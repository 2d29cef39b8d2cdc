-- A written template of a unit that is called stands for the unit.
use Rattle.std.proofs.Common.{◌≡◌, ℕ, true, List, [], ◌∷◌, Option, Some, None, slice_get, refl, sym, ap, ◌∙◌, subst, inl, inr}
use Rattle.std.specs.Option.{option_and_then, is_some}
use Rattle.hal_grammar.specs.Leaves.{Naming}
use Rattle.hal_grammar.specs.Declarations.{Declaration, Kind}
use Rattle.hal_grammar.specs.Units.{File, Head}
use Rattle.hal_phrases.specs.Phrases.{Phrase, OfTemplate, OfUnit}
use Rattle.hal_phrases.specs.GatheredUnits.{phrases_of}
use Rattle.hal_names.specs.declared.key.Key.{Key}
use Rattle.hal_names.specs.declared.key.Space.TheVariants as space
use Rattle.hal_names.specs.Keys.{key, own}
use Rattle.hal_names.specs.Laws.{IsCounted, IsFirst, IsUndeclared}
use Rattle.hal_scope.specs.Rules.{IsAmong, IsSound, rows}
use Rattle.hal_scope.specs.Sorts.{type_of}
use Rattle.hal_types.specs.Rules.{type_rows}
use Rattle.hal_constants.specs.Known.{known}
use Rattle.hal_templates.specs.Giving.{GivesItsUnit}
use Rattle.hal_meaning.specs.Bodies.{is_called_head, meant_at, standing_for}
use Rattle.hal_meaning.specs.Calls.{inputs_of}
use Rattle.hal_agreement.specs.Sites.{Site}
use Rattle.hal_fit_rules.specs.Passing.{AreParameters}
use Rattle.hal_fit_rules.specs.Valued.{HasConstants}
use Rattle.hal_fit_rules.proofs.Parameters.{parameters_agree}
use Rattle.hal_fit_names.specs.Called.{StandsForCalled}
use Rattle.hal_fit_names.specs.Suited.{AreDeclared, HasFitLiterals}
use Rattle.hal_fit_names.specs.Used.{AreDeclaredParameters, HaveSizes, IsDeclaredParameter}
use Rattle.hal_fit_names.proofs.Bodied.{AreInputs, IsInput, unit_has_inputs}
use Rattle.hal_fit_names.proofs.CalledParameters.{parameters_agree_too}
use Rattle.hal_fit_names.proofs.Declaring.{parameter_known}
use Rattle.hal_fit_names.proofs.Heads.{AreCalled, are_called, called_too, function_too, named_too}
use Rattle.hal_fit_names.proofs.MeantItems.{item_typed}
use Rattle.hal_fit_names.proofs.Parametered.{has_parameter}
use Rattle.hal_fit_names.proofs.Placing.{HeadPlaced, NodePlaced, at_among}
use Rattle.hal_fit_names.proofs.Results.{same_class}
use Rattle.hal_fit_names.proofs.Sizing.{is_valued}
use Rattle.hal_fit_names.proofs.Twins.{IsTwin, parameter_own, parameter_twin}

-- an input is one of inputs
input_of : (ps : List Phrase) (u : ℕ) (m : Naming) (ms : List Naming) → AreInputs ps u ms → IsAmong m ms → IsInput ps u m
input_of ps u m [] are within = absurd within
input_of ps u m (x ∷ xs) are (inl same) = subst (λ (n : Naming). IsInput ps u n) (sym same) are.0
input_of ps u m (x ∷ xs) are (inr later) = input_of ps u m xs are.1 later

some_type : (o : Option Kind) → is_some o ≡ true → (t : Kind) × (o ≡ Some t)
some_type (Some t) is = (t, refl)
some_type None is = absurd (cc)

module _ (site : Site) (named : IsSound rows site.set.phrases) (sound : IsSound type_rows site.set.phrases) (counted : IsCounted site.set.phrases) (declared : AreDeclared site.set.phrases) (literals : HasFitLiterals site.set.phrases)
    (has : HasConstants site) (placed : (p : Phrase) → IsAmong p site.set.phrases → NodePlaced site.set.phrases p p.node) where
  parameters_known : (u : ℕ) (names : List Naming) → AreDeclaredParameters site.set.phrases u names → AreParameters site u names
  parameters_known u [] are = tt
  parameters_known u (name ∷ names) are =
      let is = are.0 in
      let owned = parameter_own site.set.phrases counted u name is.phrase is.found in
      let within = at_among site.set.phrases is.phrase.number is.phrase owned.there in
      let type_ = some_type (type_of is.common is.item) (item_typed site sound is.phrase is.common is.item within is.declares) in (
        parameter_known site.set.phrases named sound counted declared literals site refl has is.phrase (placed is.phrase within) is.common is.item type_.0 is.declares type_.1 is.stored u name is.found is.dimensioned,
        parameters_known u names are.1,
      )

  module _ (files : List File) (whole : site.set.phrases ≡ phrases_of files) (all_named : IsSound rows (phrases_of files)) (all_sound : IsSound type_rows (phrases_of files)) (all_counted : IsCounted (phrases_of files))
      (sizes : HaveSizes (phrases_of files)) (first : (q : Key) (n : ℕ) → own (phrases_of files) q ≡ Some n → IsFirst (phrases_of files) q n)
      (lacking : (q : Key) → own (phrases_of files) q ≡ None → IsUndeclared (phrases_of files) q)
      (inputs_known : (k : ℕ) (p : Phrase) (name : Naming) (head : Head) (declarations : List Declaration) → slice_get (phrases_of files) k ≡ Some p → p.node ≡ OfUnit name head declarations
      → AreDeclaredParameters (phrases_of files) k (inputs_of head))
      (k : ℕ) (p : Phrase) (template : Naming) (head : Head) (declarations : List Declaration) (there : slice_get (phrases_of files) k ≡ Some p) (is : p.node ≡ OfTemplate template head declarations)
      (called : is_called_head head ≡ true) (gives : GivesItsUnit (phrases_of files) p template head declarations) where
    pub called_stands : StandsForCalled site k head
    called_stands =
        let u : ℕ = gives.unit.number in
        let unit = gives.is_unit in
        let heads = are_called (phrases_of files) (known (phrases_of files)) p gives.unit head gives.unit_head gives.heads called in
        let are = inputs_known u gives.unit unit.naming gives.unit_head gives.unit_declarations unit.there unit.is in
        let are_here : AreDeclaredParameters site.set.phrases u (inputs_of gives.unit_head) = subst (λ (ps : List Phrase). AreDeclaredParameters ps u (inputs_of gives.unit_head)) (sym whole) are in
        let unit_there : slice_get site.set.phrases u ≡ Some gives.unit = ap (λ (ps : List Phrase). slice_get ps u) whole ∙ unit.there in
        let mine : HeadPlaced site.set.phrases p head =
        subst (λ n. NodePlaced site.set.phrases p n) is (placed p (at_among site.set.phrases k p (ap (λ (ps : List Phrase). slice_get ps k) whole ∙ there))) in
        let theirs : HeadPlaced site.set.phrases gives.unit gives.unit_head =
        subst (λ n. NodePlaced site.set.phrases gives.unit n) unit.is (placed gives.unit (at_among site.set.phrases u gives.unit unit_there)) in
        let inputs = unit_has_inputs files u gives.unit unit.naming gives.unit_head gives.unit_declarations all_counted unit.there unit.is in
        record {
          unit = gives.unit;
          stands = subst (λ (ps : List Phrase). standing_for ps k ≡ u) (sym whole)
              (ap (λ (o : Option ℕ). elim o [ None ↦ k | Some other ↦ other ])
              (ap (option_and_then (λ (q : Phrase). meant_at (phrases_of files) q q.node)) there ∙ (ap (meant_at (phrases_of files) p) is ∙ unit.found)));
          there = unit_there;
          name = unit.naming;
          unit_head = gives.unit_head;
          declarations = gives.unit_declarations;
          declares = unit.is;
          called = called_too heads;
          function = function_too heads;
          gives = same_class site.set.phrases named sound counted declared literals p gives.unit (ap is_valued is) (ap is_valued unit.is)
              (subst (λ (ps : List Phrase). AreCalled ps (known ps) p gives.unit head gives.unit_head) (sym whole) heads) mine theirs;
          named = named_too heads;
          parameters = parameters_agree_too site named sound counted declared literals has placed k u (inputs_of head) (inputs_of gives.unit_head) (sym (named_too heads))
              (λ m declares_it within. subst (λ (ps : List Phrase). IsTwin ps k u m.name) (sym whole)
              (parameter_twin files all_counted first p gives.unit template unit.naming head gives.unit_head declarations gives.unit_declarations k there called (called_too heads) unit.there unit.is gives.meanings m
              (subst (λ (ps : List Phrase). IsDeclaredParameter ps u m) whole declares_it)
              (has_parameter (phrases_of files) all_named all_sound sizes first lacking u m (input_of (phrases_of files) u m (inputs_of gives.unit_head) inputs within) (own (phrases_of files) (key space.Parameter u m.name)) refl)))
              are_here (parameters_agree site u (inputs_of gives.unit_head) (parameters_known u (inputs_of gives.unit_head) are_here));
        }
