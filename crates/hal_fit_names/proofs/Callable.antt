-- Units of a set that breaks no rule of types, where they may be called.
use Rattle.std.proofs.Common.{◌≡◌, ℕ, true, not, List, Option, Some, slice_get, refl, sym, ap, ◌∙◌, inl, inr}
use Rattle.hal_base.specs.declared.refusal.Place.{Place}
use Rattle.hal_grammar.specs.Leaves.{Naming}
use Rattle.hal_grammar.specs.Declarations.{IntegerKind, BooleanKind, EventKind, BitKind, CharacterKind, StructureKind, Declaration}
use Rattle.hal_grammar.specs.Units.{Procedure, Function, Returns, NoKind, HasKind, Mode}
use Rattle.hal_phrases.specs.Phrases.{Phrase, OfUnit}
use Rattle.hal_names.specs.Laws.{IsCounted}
use Rattle.hal_scope.specs.Rules.{IsSound, ruled}
use Rattle.hal_kinds.specs.declared.class.Class.{Class}
use Rattle.hal_kinds.specs.Classes.{class_of_result, class_of_returns}
use Rattle.hal_kinds.specs.Data.{class_of_type}
use Rattle.hal_attributes.specs.Typed.{is_untyped, untyped_head, untyped, is_no_result, gives_no_value, no_result_head, no_result}
use Rattle.hal_types.specs.Rules.{attribute_rows, type_rows}
use Rattle.hal_meaning.specs.Sets.{body_at}
use Rattle.hal_agreement.specs.Sites.{Site}
use Rattle.hal_fit_expr.specs.Sorted.{sort_of_call}
use Rattle.hal_fit_expr.specs.Uses.{Uses}
use Rattle.hal_fit_rules.specs.Leaves.{IsKnown}
use Rattle.hal_fit_rules.specs.Owned.{IsFunction}
use Rattle.hal_fit_rules.specs.Passing.{AreParameters, IsProcedure}
use Rattle.hal_fit_rules.proofs.Declaring as declaring
use Rattle.hal_fit_rules.proofs.Unbroken.{unbroken, ruled_none}
use Rattle.hal_fit_names.specs.Bodied.{HasBody}
use Rattle.hal_fit_names.proofs.MeantItems.{of_attributes}
use Rattle.hal_fit_names.proofs.Placing.{at_among}
use Rattle.hal_fit_names.proofs.Suiting.{unless_true}

-- a type that is written and is one of results has a class
returns_class : (returns : Returns) → not (is_untyped returns) ≡ true → not (gives_no_value returns) ≡ true → (c : Class) × (class_of_returns returns ≡ Some c)
unfolding is_untyped gives_no_value is_no_result class_of_returns class_of_result
returns_class NoKind typed gives = absurd (cc)
returns_class (HasKind (IntegerKind place) precision) typed gives = (class_of_type (IntegerKind place), refl)
returns_class (HasKind (BooleanKind place) precision) typed gives = (class_of_type (BooleanKind place), refl)
returns_class (HasKind (BitKind place size) precision) typed gives = (class_of_type (BitKind place size), refl)
returns_class (HasKind (CharacterKind place size) precision) typed gives = (class_of_type (CharacterKind place size), refl)
returns_class (HasKind (EventKind place) precision) typed gives = absurd (cc)
returns_class (HasKind (StructureKind place template copies) precision) typed gives = absurd (cc)

module _ (u : Uses) (site : Site) (sound : IsSound type_rows site.set.phrases) (counted : IsCounted site.set.phrases) (k : ℕ) (p : Phrase) (found : slice_get site.set.phrases k ≡ Some p) where
  -- the result of a FUNCTION
  function_gives : (name : Naming) (place : Place) (inputs : List Naming) (returns : Returns) (mode : Option Mode) (declarations : List Declaration) → p.node ≡ OfUnit name (Function place inputs returns mode) declarations
      → (c : Class) × (class_of_returns returns ≡ Some c)
  unfolding attribute_rows untyped untyped_head no_result no_result_head
  function_gives name place inputs returns mode declarations is =
      let within = at_among site.set.phrases k p found in
      let head = Function place inputs returns mode in
      returns_class returns
      (unless_true (not (is_untyped returns)) place
      (ruled_none 323 (untyped (OfUnit name head declarations)) (ap (λ n. ruled 323 (untyped n)) (sym is) ∙ unbroken type_rows site.set.phrases sound p within (λ qs q. ruled 323 (untyped q.node)) (of_attributes (λ qs q. ruled 323 (untyped q.node)) (inl refl)))))
      (unless_true (not (gives_no_value returns)) place
      (ruled_none 724 (no_result (OfUnit name head declarations))
      (ap (λ n. ruled 724 (no_result n)) (sym is)
      ∙ unbroken type_rows site.set.phrases sound p within (λ qs q. ruled 724 (no_result q.node)) (of_attributes (λ qs q. ruled 724 (no_result q.node)) (inr (inr (inr (inr (inr (inr (inr (inl refl))))))))))))

  pub function_known : (name : Naming) (place : Place) (inputs : List Naming) (returns : Returns) (mode : Option Mode) (declarations : List Declaration) → p.node ≡ OfUnit name (Function place inputs returns mode) declarations
      → HasBody site.set.bodies k (Function place inputs returns mode) → u.calls p.number ≡ true → IsFunction u site p
  function_known name place inputs returns mode declarations is has calls =
      let gives = function_gives name place inputs returns mode declarations is in
      record {
        name = name;
        place = place;
        inputs = inputs;
        returns = returns;
        mode = mode;
        declarations = declarations;
        declares = is;
        result = gives.0;
        gives = gives.1;
        body = has.body;
        unit = ap (λ n. body_at site.set n) (counted k p found) ∙ has.found;
        head = has.same;
        calls = calls;
      }

  -- what it gives is of the class of its result
  pub function_result : (name : Naming) (place : Place) (inputs : List Naming) (returns : Returns) (mode : Option Mode) (declarations : List Declaration) → p.node ≡ OfUnit name (Function place inputs returns mode) declarations
      → HasBody site.set.bodies k (Function place inputs returns mode) → u.calls p.number ≡ true → IsKnown (class_of_returns returns) (sort_of_call u site p.number)
  unfolding function_known
  function_result name place inputs returns mode declarations is has calls = declaring.function_gives u site p (function_known name place inputs returns mode declarations is has calls)

  pub procedure_known : (name : Naming) (place : Place) (inputs outputs : List Naming) (mode : Option Mode) (declarations : List Declaration) → p.node ≡ OfUnit name (Procedure place inputs outputs mode) declarations
      → HasBody site.set.bodies k (Procedure place inputs outputs mode) → u.calls p.number ≡ true → AreParameters site p.number inputs → IsProcedure u site p
  procedure_known name place inputs outputs mode declarations is has calls parameters = record {
    name = name;
    place = place;
    inputs = inputs;
    outputs = outputs;
    mode = mode;
    declarations = declarations;
    declares = is;
    body = has.body;
    unit = ap (λ n. body_at site.set n) (counted k p found) ∙ has.found;
    head = has.same;
    calls = calls;
    parameters = parameters;
  }
