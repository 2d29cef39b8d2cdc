-- Input parameters of a unit are declared in it as data, where no rule is broken.
use Rattle.std.proofs.Common.{◌≡◌, ℕ, Bool, true, false, not, ◌&&◌, ◌||◌, List, [], ◌∷◌, Option, Some, None, slice_get, refl, sym, ap, ◌∙◌, inl, inr}
use Rattle.std.specs.Option.{option_and_then, is_some}
use Rattle.hal_grammar.specs.Leaves.{Naming}
use Rattle.hal_grammar.specs.Declarations.{Attribute, Declared}
use Rattle.hal_phrases.specs.Phrases.{Node, Phrase, OfItem}
use Rattle.hal_names.specs.declared.key.Key.{Key}
use Rattle.hal_names.specs.declared.key.Space.TheVariants as space
use Rattle.hal_names.specs.Keys.{key, own, declared_at, declared_by}
use Rattle.hal_names.specs.Laws.{IsFirst, IsUndeclared}
use Rattle.hal_scope.specs.Repeated.{is_item, is_item_at, undeclared}
use Rattle.hal_scope.specs.Rules.{IsAmong, IsSound, rows, ruled}
use Rattle.hal_scope.specs.Sorts.{type_of}
use Rattle.hal_kinds.specs.Attributes as attributes
use Rattle.hal_kinds.specs.Attributes.{sizes_of}
use Rattle.hal_kinds.specs.Data.{is_event_type, is_parameter, is_structure_type}
use Rattle.hal_attributes.specs.Storage.{is_automatic_outside, is_stored, is_stored_parameter, is_stored_event, misstored}
use Rattle.hal_attributes.specs.Typed.{is_no_variable, misplaced_event}
use Rattle.hal_types.specs.Rules.{attribute_rows, type_rows}
use Rattle.hal_constants.specs.Naming.{is_value_item}
use Rattle.hal_shapes.specs.Arguments.{parameter_of}
use Rattle.hal_fit_rules.proofs.Constants.{among_found}
use Rattle.hal_fit_rules.proofs.Unbroken.{unbroken, ruled_none}
use Rattle.hal_fit_names.specs.Used.{IsDeclaredParameter, AreDeclaredParameters, HaveSizes}
use Rattle.hal_fit_names.proofs.Bodied.{IsInput, AreInputs}
use Rattle.hal_fit_names.proofs.MeantItems.{of_attributes}
use Rattle.hal_fit_names.proofs.Placing.{at_among}
use Rattle.hal_fit_names.proofs.Suiting.{unless_true}

-- a phrase that declares data
item_node : (n : Node) → is_item n ≡ true → (common : List Attribute) × (item : Declared) × (n ≡ OfItem common item)
unfolding is_item
item_node (OfItem common item) is = (common, item, refl)
item_node other is = absurd (cc)

-- of parameters no value is said
unstored : (automatic said parameter event : Bool) → not (automatic || ((said && parameter) || event)) ≡ true → parameter ≡ true → said ≡ false
unstored false false parameter event is named = refl
unstored true said parameter event is named = absurd (cc)
unstored false true true event is named = absurd (cc)
unstored false true false event is named = absurd (cc)

no_constant : (static automatic initial constant : Bool) → (static || (automatic || (initial || constant))) ≡ false → constant ≡ false
no_constant static automatic initial false is = refl
no_constant true automatic initial true is = absurd (cc)
no_constant false true initial true is = absurd (cc)
no_constant false false true true is = absurd (cc)
no_constant false false false true is = absurd (cc)

uneventful : (event sized parameter : Bool) → not (event && (sized || parameter)) ≡ true → parameter ≡ true → event ≡ false
uneventful false sized parameter is named = refl
uneventful true true parameter is named = absurd (cc)
uneventful true false true is named = absurd (cc)
uneventful true false false is named = absurd (cc)

-- the owner of a key, and its name
abbrev pub owner_of : Option Key → ℕ
owner_of None = 0
owner_of (Some k) = k.owner

abbrev name_of : Option Key → List ℕ
name_of None = []
name_of (Some k) = k.name

module _ (ps : List Phrase) (sound : IsSound type_rows ps) (r : Phrase) (common : List Attribute) (item : Declared) (within : IsAmong r ps) (is : r.node ≡ OfItem common item)
    (parameter : is_parameter ps r item.name.name ≡ true) where
  -- rule 725: a parameter is no constant
  pub parameter_stored : is_some (attributes.constant_of common item) ≡ false
  unfolding attribute_rows misstored
  parameter_stored =
      no_constant _ _ (is_some (attributes.initial_of common item)) (is_some (attributes.constant_of common item))
      (unstored (is_automatic_outside ps r common item) (is_stored common item) (is_parameter ps r item.name.name) (is_stored_event common item)
      (unless_true (not (is_automatic_outside ps r common item || (is_stored_parameter ps r common item || is_stored_event common item))) item.name.place
      (ap (misstored ps r) (sym is)
      ∙ ruled_none 725 (misstored ps r r.node)
      (unbroken type_rows ps sound r within (λ qs q. ruled 725 (misstored qs q q.node)) (of_attributes (λ qs q. ruled 725 (misstored qs q q.node)) (inr (inr (inr (inr (inr (inr (inr (inr (inl refl)))))))))))))
      parameter)

  -- rule 327: and no event
  pub parameter_eventless : is_event_type (type_of common item) ≡ false
  unfolding attribute_rows misplaced_event
  parameter_eventless =
      uneventful (is_event_type (type_of common item)) (is_some (sizes_of common item)) (is_parameter ps r item.name.name)
      (unless_true (not (is_event_type (type_of common item) && is_no_variable ps r common item)) item.name.place
      (ruled_none 327 (misplaced_event ps r (OfItem common item))
      (ap (λ n. ruled 327 (misplaced_event ps r n)) (sym is)
      ∙ unbroken type_rows ps sound r within (λ qs q. ruled 327 (misplaced_event qs q q.node)) (of_attributes (λ qs q. ruled 327 (misplaced_event qs q q.node)) (inr (inr (inr (inl refl))))))))
      parameter

module _ (ps : List Phrase) (named : IsSound rows ps) (sound : IsSound type_rows ps) (sizes : HaveSizes ps) (found : (q : Key) (n : ℕ) → own ps q ≡ Some n → IsFirst ps q n) (lacking : (q : Key) → own ps q ≡ None → IsUndeclared ps q)
    (k : ℕ) (name : Naming) (input : IsInput ps k name) where
  -- the unit has a parameter of the name
  pub has_parameter : (o : Option ℕ) → own ps (key space.Parameter k name.name) ≡ o → is_some o ≡ true
  unfolding declared_at
  has_parameter (Some j) is = refl
  has_parameter None is =
      let there = among_found input.phrase ps input.within in
      absurd (lacking (key space.Parameter k name.name) is there.0 input.phrase there.1
      (ap (declared_at input.phrase.number input.phrase.around) input.is ∙ ap (λ home. Some (key space.Parameter home name.name)) input.home))

  -- rule 606: the unit declares data of the name
  declares_item : is_item_at ps (own ps (key space.Declared k name.name)) ≡ true
  unfolding undeclared
  declares_item =
      ap (λ home. is_item_at ps (own ps (key space.Declared home name.name))) (sym input.home)
      ∙ unless_true (is_item_at ps (own ps (key space.Declared input.phrase.around.home name.name))) name.place
      (ap (undeclared ps input.phrase) (sym input.is) ∙ ruled_none 606 (undeclared ps input.phrase input.phrase.node)
      (unbroken rows ps named input.phrase input.within (λ qs q. ruled 606 (undeclared qs q q.node)) (inr (inr (inr (inr (inr (inl refl))))))))

  -- these are no constant
  item_stored : (r : Phrase) (common : List Attribute) (item : Declared) → IsAmong r ps → r.node ≡ OfItem common item → declared_by r ≡ Some (key space.Declared k name.name) → is_value_item common item ≡ false
  unfolding declared_at
  item_stored r common item within is declares =
      let same : Some (key space.Declared r.around.home item.name.name) ≡ Some (key space.Declared k name.name) = ap (declared_at r.number r.around) (sym is) ∙ declares in
      let parameter : is_parameter ps r item.name.name ≡ true =
      ap (λ home. is_some (own ps (key space.Parameter home item.name.name))) (ap owner_of same)
      ∙ (ap (λ one. is_some (own ps (key space.Parameter k one))) (ap name_of same) ∙ has_parameter (own ps (key space.Parameter k name.name)) refl) in
      ap (λ b. b && (not (is_some (sizes_of common item)) && not (is_structure_type (type_of common item)))) (parameter_stored ps sound r common item within is parameter)

  item_parameter : (j : ℕ) (r : Phrase) → own ps (key space.Declared k name.name) ≡ Some j → slice_get ps j ≡ Some r → declared_by r ≡ Some (key space.Declared k name.name) → is_item r.node ≡ true → IsDeclaredParameter ps k name
  unfolding parameter_of
  item_parameter j r is there declares data_ =
      let item = item_node r.node data_ in
      let within = at_among ps j r there in
      record {
        phrase = r;
        found = ap (λ (o : Option ℕ). option_and_then (λ i. slice_get ps i) o) is ∙ there;
        common = item.0;
        item = item.1;
        declares = item.2;
        dimensioned = sizes r item.0 item.1 within item.2;
        stored = item_stored r item.0 item.1 within item.2 declares;
      }

  parameter_at : (o : Option ℕ) → own ps (key space.Declared k name.name) ≡ o → is_item_at ps o ≡ true → IsDeclaredParameter ps k name
  parameter_at None is data_ = absurd (cc)
  parameter_at (Some j) is data_ =
      let first = found (key space.Declared k name.name) j is in
      let r : Phrase = first.declaring in
      item_parameter j r is first.there first.declares (ap (λ (o : Option Phrase). elim o [ None ↦ false | Some p ↦ is_item p.node ]) (sym first.there) ∙ data_)

  pub input_declared : IsDeclaredParameter ps k name
  input_declared = parameter_at (own ps (key space.Declared k name.name)) refl declares_item

-- the input parameters of a unit
pub inputs_declared : (ps : List Phrase) → IsSound rows ps → IsSound type_rows ps → HaveSizes ps → ((q : Key) (n : ℕ) → own ps q ≡ Some n → IsFirst ps q n) → ((q : Key) → own ps q ≡ None → IsUndeclared ps q) → (k : ℕ)
    (names : List Naming) → AreInputs ps k names → AreDeclaredParameters ps k names
inputs_declared ps named sound sizes found lacking k [] are = tt
inputs_declared ps named sound sizes found lacking k (name ∷ names) are = (input_declared ps named sound sizes found lacking k name are.0, inputs_declared ps named sound sizes found lacking k names are.1)
