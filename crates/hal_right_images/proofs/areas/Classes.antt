-- The classes of references to data: of an array, and of one value.
use Rattle.std.specs.Prelude.{◌≡◌, ◌≤◌, ◌<◌, ◌==◌, ◌&&◌, ◌||◌, ℕ, nat_lt, not, Bool, true, false, List, [], Option, Some, None, slice_get, if◌then◌else◌}
use Rattle.std.specs.Option.{option_and_then}
use Rattle.std.proofs.Common.{refl, sym, ap, subst, ◌∙◌, inl, inr, arith}
use Rattle.std.proofs.lemmas.Bool.{and_parts, eqb-true, ltb-true, ltb-false}
use Rattle.hal_base.specs.declared.refusal.Place.{Place}
use Rattle.hal_grammar.specs.Leaves.{Naming}
use Rattle.hal_grammar.specs.Expressions.{Expression, Expressions, Refers, Subscript, Unsubscripted, ByName, ByInteger, ByParts}
use Rattle.hal_grammar.specs.Declarations.{Kind, IntegerKind, BooleanKind, EventKind, BitKind, CharacterKind, StructureKind, Attribute, Declared}
use Rattle.hal_phrases.specs.declared.role.Role.{Role}
use Rattle.hal_phrases.specs.Phrases.{Phrase, OfItem, OfReference, OfTemporaryGroup}
use Rattle.hal_names.specs.Means.{means}
use Rattle.hal_scope.specs.Builtins.{builtin_named}
use Rattle.hal_scope.specs.Rules.{IsAmong, IsSound, ruled}
use Rattle.hal_scope.specs.Sorts.{type_of}
use Rattle.hal_scope.specs.Uses.{is_nil}
use Rattle.std.specs.Option.{is_some}
use Rattle.hal_kinds.specs.declared.class.Class.TheVariants as class
use Rattle.hal_kinds.specs.declared.choice.Choice.{Choice}
use Rattle.hal_kinds.specs.declared.data.Data.{Data}
use Rattle.hal_kinds.specs.Attributes.{count_of, sizes_of}
use Rattle.hal_kinds.specs.Classes.{class_at, class_of_builtin, class_of_reference}
use Rattle.hal_kinds.specs.Data.{class_of_type, data_at, data_of, data_with, dimensions_of, has_copies, is_structure_type}
use Rattle.hal_kinds.specs.Subscripts.{are_left, are_many, choice, choice_of, chosen, class_in, class_left, has_places_left, is_miscounted, is_none, is_structure_class, miscopied, misplaced, parts_chosen, subscript_count}
use Rattle.hal_attributes.specs.Typed.{untyped}
use Rattle.hal_shapes.specs.Arguments as arguments
use Rattle.hal_shapes.specs.Shapes.{is_excused, is_whole_array, is_whole_structure}
use Rattle.hal_shapes.specs.Spans.{array_subs}
use Rattle.hal_uses.specs.Subscripts.{builtin_fault, component_fault, data_fault, fault_at, is_event_name, is_string, missubscripted, named_fault, reference_fault}
use Rattle.hal_types.specs.Rules.{attribute_rows, type_rows, use_rows}
use Rattle.hal_fit_rules.proofs.Unbroken.{unbroken, ruled_none, of_uses}
use Rattle.hal_fit_names.proofs.MeantItems.{of_attributes}
use Rattle.hal_fit_names.proofs.Suiting.{unless_true}

-- data of a type with sizes
abbrev pub typed_data : Kind → Option Expressions → Data
typed_data kind sizes = data_with (class_of_type kind) (dimensions_of sizes) (has_copies kind)

class_plain : (kind : Kind) (sizes : Option Expressions) (c : Choice) → is_structure_type (Some kind) ≡ false
    → class_in (typed_data kind sizes) c ≡ (if has_places_left (typed_data kind sizes) c then class.Array else class_of_type kind)
unfolding class_of_type has_copies is_structure_class is_structure_type
class_plain (IntegerKind place) sizes c plain = refl
class_plain (BooleanKind place) sizes c plain = refl
class_plain (EventKind place) sizes c plain = refl
class_plain (BitKind place size) sizes c plain = refl
class_plain (CharacterKind place size) sizes c plain = refl
class_plain (StructureKind place template copies) sizes c plain = absurd (cc)

pub class_structured : (kind : Kind) (sizes : Option Expressions) (c : Choice) → is_structure_type (Some kind) ≡ true → class_in (typed_data kind sizes) c ≡ class.Structure
unfolding class_of_type is_structure_class is_structure_type
class_structured (StructureKind place template copies) sizes c is = refl
class_structured (IntegerKind place) sizes c is = absurd (cc)
class_structured (BooleanKind place) sizes c is = absurd (cc)
class_structured (EventKind place) sizes c is = absurd (cc)
class_structured (BitKind place size) sizes c is = absurd (cc)
class_structured (CharacterKind place size) sizes c is = absurd (cc)

pub no_array : (kind : Kind) → is_whole_array (Some (class_of_type kind)) ≡ false
unfolding class_of_type is_whole_array
no_array (IntegerKind place) = refl
no_array (BooleanKind place) = refl
no_array (EventKind place) = refl
no_array (BitKind place size) = refl
no_array (CharacterKind place size) = refl
no_array (StructureKind place template copies) = refl

pub plain_class : (kind : Kind) → is_structure_type (Some kind) ≡ false → is_whole_structure (Some (class_of_type kind)) ≡ false
unfolding class_of_type is_whole_structure is_structure_type
plain_class (IntegerKind place) plain = refl
plain_class (BooleanKind place) plain = refl
plain_class (EventKind place) plain = refl
plain_class (BitKind place size) plain = refl
plain_class (CharacterKind place size) plain = refl
plain_class (StructureKind place template copies) plain = absurd (cc)

pub calm : (kind : Kind) → is_excused (Some (class_of_type kind)) ≡ false
unfolding class_of_type is_excused
calm (IntegerKind place) = refl
calm (BooleanKind place) = refl
calm (EventKind place) = refl
calm (BitKind place size) = refl
calm (CharacterKind place size) = refl
calm (StructureKind place template copies) = refl

-- nothing that is chosen is a condition
pub chosen_calm : (kind : Kind) (sizes : Option Expressions) (c : Choice) → is_excused (Some (class_in (typed_data kind sizes) c)) ≡ false
unfolding is_excused
chosen_calm kind sizes c = by (is_structure_type (Some kind)) refl where
  either : (b : Bool) → is_excused (Some (if b then class.Array else class_of_type kind)) ≡ false
  either true = refl
  either false = calm kind

  by : (b : Bool) → is_structure_type (Some kind) ≡ b → is_excused (Some (class_in (typed_data kind sizes) c)) ≡ false
  by true is = ap (λ x. is_excused (Some x)) (class_structured kind sizes c is)
  by false is = ap (λ x. is_excused (Some x)) (class_plain kind sizes c is) ∙ either (has_places_left (typed_data kind sizes) c)

-- one value is no structure
pub single_plain : (kind : Kind) (sizes : Option Expressions) (c : Choice) → arguments.is_single (Some (class_in (typed_data kind sizes) c)) ≡ true → is_structure_type (Some kind) ≡ false
unfolding is_whole_array is_whole_structure
single_plain kind sizes c single_ = by (is_structure_type (Some kind)) refl where
  by : (b : Bool) → is_structure_type (Some kind) ≡ b → is_structure_type (Some kind) ≡ false
  by false is = is
  by true is = absurd (let other = ap (λ x. arguments.is_single (Some x)) (sym (class_structured kind sizes c is)) ∙ single_ in cc)

-- what is a structure for rule 705 has the type of one
pub whole_structured : (kind : Kind) (sizes : Option Expressions) (c : Choice) → is_whole_structure (Some (class_in (typed_data kind sizes) c)) ≡ true → is_structure_type (Some kind) ≡ true
unfolding is_whole_structure
whole_structured kind sizes c whole = by (is_structure_type (Some kind)) refl where
  either : (b : Bool) → is_structure_type (Some kind) ≡ false → is_whole_structure (Some (if b then class.Array else class_of_type kind)) ≡ false
  either true plain = refl
  either false plain = plain_class kind plain

  by : (b : Bool) → is_structure_type (Some kind) ≡ b → is_structure_type (Some kind) ≡ true
  by true is = is
  by false is =
      absurd (let other : false ≡ true = sym (either (has_places_left (typed_data kind sizes) c) is) ∙ (ap (λ x. is_whole_structure (Some x)) (sym (class_plain kind sizes c is)) ∙ whole) in cc)

-- what subscripts an array is passed with
abbrev pub PassesArray : Expressions → Subscript → Type 0
PassesArray sizes Unsubscripted = Unit {0}
PassesArray sizes (ByName place name) = ⊥
PassesArray sizes (ByInteger place mark number) = ⊥
PassesArray sizes (ByParts place copies arrays components) = subscript_count (array_subs (ByParts place copies arrays components)) ≤ count_of sizes

pub record IsArray (kind : Kind) (sizes : Option Expressions) (subscript : Subscript) : Type 0 where
  pub plain : is_structure_type (Some kind) ≡ false
  pub given : Expressions
  pub sized : sizes ≡ Some given
  pub some : 0 < count_of given
  pub passes : PassesArray given subscript

pub low_places : (places dimensions : ℕ) → (nat_lt 0 places && not (places == dimensions)) ≡ false → places ≤ dimensions
low_places places dimensions is = by (nat_lt 0 places) (places == dimensions) refl refl is where
  by : (b c : Bool) → nat_lt 0 places ≡ b → (places == dimensions) ≡ c → (b && not c) ≡ false → places ≤ dimensions
  by false c none same so = omega (arith, ltb-false 0 places none)
  by true true some same so = omega (arith, eqb-true places dimensions same)
  by true false some same so = absurd (cc)

pub or_none : (a b : Bool) → (a || b) ≡ false → b ≡ false
or_none true b is = absurd (cc)
or_none false b is = is

-- an array that is passed as a whole
module _ (given : Expressions) (d : Data) (dimensioned : d.dimensions ≡ count_of given) (arrayed : nat_lt 0 (count_of given) ≡ true) where
  pub passes_so : (subscript : Subscript) → misplaced d (choice_of true subscript) ≡ false → are_left (choice_of true subscript).places (choice_of true subscript).many_places ≡ true → PassesArray given subscript
  unfolding choice_of parts_chosen array_subs
  passes_so Unsubscripted counted left = tt
  passes_so (ByName place name) counted left = absurd (cc)
  passes_so (ByInteger place mark number) counted left = absurd (cc)
  passes_so (ByParts place copies arrays components) counted left = by (is_none arrays) counted where
    by : (b : Bool) → misplaced d (if b then choice (subscript_count copies) (subscript_count components) 0 (are_many copies) (are_many components)
        else choice (subscript_count copies) (subscript_count arrays) (subscript_count components) (are_many copies) (are_many arrays)) ≡ false → subscript_count (if b then components else arrays) ≤ count_of given
    by true so = let low = low_places (subscript_count components) d.dimensions so in omega (arith, low, dimensioned)
    by false so = let low = low_places (subscript_count arrays) d.dimensions so in omega (arith, low, dimensioned)

pub array_is : (kind : Kind) (sizes : Option Expressions) (subscript : Subscript) → is_miscounted (typed_data kind sizes) (chosen (typed_data kind sizes) subscript) ≡ false
    → is_whole_array (Some (class_in (typed_data kind sizes) (chosen (typed_data kind sizes) subscript))) ≡ true → IsArray kind sizes subscript
unfolding is_whole_array dimensions_of
array_is kind sizes subscript counted whole = by (is_structure_type (Some kind)) refl where
  sized_so : is_structure_type (Some kind) ≡ false → (o : Option Expressions) → sizes ≡ o → (nat_lt 0 (dimensions_of o) && are_left (choice_of (nat_lt 0 (dimensions_of o)) subscript).places (choice_of (nat_lt 0 (dimensions_of o)) subscript).many_places) ≡ true
      → misplaced (typed_data kind o) (choice_of (nat_lt 0 (dimensions_of o)) subscript) ≡ false → IsArray kind sizes subscript
  sized_so plain None is left placed = absurd (cc)
  sized_so plain (Some given) is left placed =
      let both = and_parts (nat_lt 0 (count_of given)) (are_left (choice_of (nat_lt 0 (count_of given)) subscript).places (choice_of (nat_lt 0 (count_of given)) subscript).many_places) left in
      record {
        plain = plain;
        given = given;
        sized = is;
        some = ltb-true 0 (count_of given) both.0;
        passes = passes_so given (typed_data kind (Some given)) refl both.0 subscript (subst (λ b. misplaced (typed_data kind (Some given)) (choice_of b subscript) ≡ false) both.0 placed)
            (subst (λ b. are_left (choice_of b subscript).places (choice_of b subscript).many_places ≡ true) both.0 both.1);
      }

  left_so : is_structure_type (Some kind) ≡ false → (b : Bool) → has_places_left (typed_data kind sizes) (chosen (typed_data kind sizes) subscript) ≡ b → is_whole_array (Some (if b then class.Array else class_of_type kind)) ≡ true → IsArray kind sizes subscript
  left_so plain true left is = sized_so plain sizes refl left (or_none (miscopied (typed_data kind sizes) (chosen (typed_data kind sizes) subscript)) (misplaced (typed_data kind sizes) (chosen (typed_data kind sizes) subscript)) counted)
  left_so plain false left is = absurd (let other = sym (no_array kind) ∙ is in cc)

  by : (b : Bool) → is_structure_type (Some kind) ≡ b → IsArray kind sizes subscript
  by true is = absurd (let other = ap (λ x. is_whole_array (Some x)) (sym (class_structured kind sizes (chosen (typed_data kind sizes) subscript) is)) ∙ whole in cc)
  by false is = left_so is (has_places_left (typed_data kind sizes) (chosen (typed_data kind sizes) subscript)) refl (ap (λ x. is_whole_array (Some x)) (sym (class_plain kind sizes (chosen (typed_data kind sizes) subscript) is)) ∙ whole)

pub no_rule_at : (place : Place) (o : Option ℕ) → option_and_then {U = ℕ × Place} (λ rule. Some (rule, place)) o ≡ None → o ≡ None
no_rule_at place None is = refl
no_rule_at place (Some rule) is = absurd (cc)

pub counted_by : (b : Bool) (o : Option ℕ) → (if b then Some 707 else o) ≡ None → (b ≡ false) × (o ≡ None)
counted_by true o is = absurd (cc)
counted_by false o is = (refl, is)

pub no_component : (c : Choice) → component_fault false c ≡ None → nat_lt 0 c.components ≡ false
no_component c = by (nat_lt 0 c.components) where
  by : (b : Bool) → if◌then◌else◌ {A = Option ℕ} b (Some 721) None ≡ None → b ≡ false
  by true is = absurd (cc)
  by false is = refl

module _ (ps : List Phrase) (typed : IsSound type_rows ps) where
  -- rule 323
  pub item_typed : (p : Phrase) (common : List Attribute) (item : Declared) → IsAmong p ps → p.node ≡ OfItem common item → (kind : Kind) × (type_of common item ≡ Some kind)
  unfolding attribute_rows untyped
  item_typed p common item within is =
      by (type_of common item) refl
      (unless_true (is_some (type_of common item)) item.name.place
      (ap untyped (sym is) ∙ ruled_none 323 (untyped p.node) (unbroken type_rows ps typed p within (λ qs q. ruled 323 (untyped q.node)) (of_attributes (λ qs q. ruled 323 (untyped q.node)) (inl refl))))) where
        by : (o : Option Kind) → type_of common item ≡ o → is_some o ≡ true → (kind : Kind) × (type_of common item ≡ Some kind)
        by None none some = absurd (cc)
        by (Some kind) is_so some = (kind, is_so)

  -- rules 707 and 721
  module _ (w : Phrase) (within : IsAmong w ps) (r : Role) (place : Place) (name : List ℕ) (path : List Naming) (subscript : Subscript) (is : w.node ≡ OfReference r (Refers place name path subscript))
      (block k : ℕ) (here : w.around.block ≡ block) (meant : means ps block name ≡ Some k) (p : Phrase) (there : slice_get ps k ≡ Some p) where
    pub fault_none : fault_at ps p path subscript p.node ≡ None
    unfolding use_rows missubscripted reference_fault
    fault_none =
        let none : missubscripted ps w (OfReference r (Refers place name path subscript)) ≡ None =
        ap (missubscripted ps w) (sym is) ∙ unbroken type_rows ps typed w within (λ qs o. missubscripted qs o o.node) (of_uses (λ qs o. missubscripted qs o o.node) (inr (inr (inr (inr (inr (inr (inl refl)))))))) in
        let rule = no_rule_at place (named_fault ps w.around.block name path subscript) none in
        ap (option_and_then (λ (q : Phrase). fault_at ps q path subscript q.node)) (sym there)
        ∙ (ap (λ (o : Option ℕ). elim o [ None ↦ builtin_fault name subscript | Some m ↦ option_and_then (λ (q : Phrase). fault_at ps q path subscript q.node) (slice_get ps m) ]) (sym (ap (λ b. means ps b name) here ∙ meant)) ∙ rule)

    -- of an item without names of parts
    pub item_counted : path ≡ [] → (common : List Attribute) (item : Declared) (kind : Kind) → p.node ≡ OfItem common item → type_of common item ≡ Some kind
        → is_miscounted (typed_data kind (sizes_of common item)) (chosen (typed_data kind (sizes_of common item)) subscript) ≡ false
    unfolding fault_at data_fault data_at is_nil data_of
    item_counted none common item kind node type =
        let fault : data_fault (is_event_name path (OfItem common item)) subscript (data_at ps p path (OfItem common item)) ≡ None = ap (fault_at ps p path subscript) (sym node) ∙ fault_none in
        let at : data_at ps p path (OfItem common item) ≡ Some (typed_data kind (sizes_of common item)) = ap (λ l. data_at ps p l (OfItem common item)) none ∙ ap (λ o. data_of o (sizes_of common item)) type in
        let here_fault = ap (data_fault (is_event_name path (OfItem common item)) subscript) (sym at) ∙ fault in
        (counted_by (is_miscounted (typed_data kind (sizes_of common item)) (chosen (typed_data kind (sizes_of common item)) subscript)) _ here_fault).0

    -- rule 721 of a structure
    pub structure_single : path ≡ [] → (common : List Attribute) (item : Declared) (at_ : Place) (template : List ℕ) (copies : Option Expression) → p.node ≡ OfItem common item → type_of common item ≡ Some (StructureKind at_ template copies)
        → nat_lt 0 (chosen (typed_data (StructureKind at_ template copies) (sizes_of common item)) subscript).components ≡ false
    unfolding fault_at data_fault data_at is_nil data_of class_of_type is_string
    structure_single none common item at_ template copies node type =
        let d : Data = typed_data (StructureKind at_ template copies) (sizes_of common item) in
        let fault : data_fault (is_event_name path (OfItem common item)) subscript (data_at ps p path (OfItem common item)) ≡ None = ap (fault_at ps p path subscript) (sym node) ∙ fault_none in
        let at : data_at ps p path (OfItem common item) ≡ Some d = ap (λ l. data_at ps p l (OfItem common item)) none ∙ ap (λ o. data_of o (sizes_of common item)) type in
        let here_fault = ap (data_fault (is_event_name path (OfItem common item)) subscript) (sym at) ∙ fault in
        no_component (chosen d subscript) (counted_by (is_miscounted d (chosen d subscript)) (component_fault false (chosen d subscript)) here_fault).1

    -- of a TEMPORARY variable
    pub group_counted : path ≡ [] → (labels : List Naming) (variable : Naming) → p.node ≡ OfTemporaryGroup labels variable
        → (is_miscounted (data_with class.Integer 0 false) (chosen (data_with class.Integer 0 false) subscript) ≡ false) × (nat_lt 0 (chosen (data_with class.Integer 0 false) subscript).components ≡ false)
    unfolding fault_at data_fault data_at is_nil is_string
    group_counted none labels variable node =
        let d : Data = data_with class.Integer 0 false in
        let fault : data_fault (is_event_name path (OfTemporaryGroup labels variable)) subscript (data_at ps p path (OfTemporaryGroup labels variable)) ≡ None = ap (fault_at ps p path subscript) (sym node) ∙ fault_none in
        let at : data_at ps p path (OfTemporaryGroup labels variable) ≡ Some d = ap (λ l. data_at ps p l (OfTemporaryGroup labels variable)) none in
        let here_fault = ap (data_fault (is_event_name path (OfTemporaryGroup labels variable)) subscript) (sym at) ∙ fault in
        let both = counted_by (is_miscounted d (chosen d subscript)) (component_fault false (chosen d subscript)) here_fault in
        (both.0, no_component (chosen d subscript) both.1)

  -- the class of a reference to an item
  left_is : (d : Data) (c : Choice) → is_miscounted d c ≡ false → class_left d c ≡ Some (class_in d c)
  left_is d c counted = ap (λ b. if b then None else Some (class_in d c)) counted

  pub item_class : (block k : ℕ) (place : Place) (name : List ℕ) (subscript : Subscript) (p : Phrase) (common : List Attribute) (item : Declared) (kind : Kind) → means ps block name ≡ Some k → slice_get ps k ≡ Some p
      → p.node ≡ OfItem common item → type_of common item ≡ Some kind → is_miscounted (typed_data kind (sizes_of common item)) (chosen (typed_data kind (sizes_of common item)) subscript) ≡ false
      → class_of_reference ps block (Refers place name [] subscript) ≡ Some (class_in (typed_data kind (sizes_of common item)) (chosen (typed_data kind (sizes_of common item)) subscript))
  unfolding class_of_reference class_at data_at is_nil data_of
  item_class block k place name subscript p common item kind meant there node type counted =
      let d : Data = typed_data kind (sizes_of common item) in
      ap (λ (o : Option ℕ). elim o [ None ↦ if is_nil {X = Naming} [] then class_of_builtin (builtin_named name) else None | Some m ↦ option_and_then (λ (q : Phrase). class_at ps q [] subscript q.node) (slice_get ps m) ]) meant
      ∙ (ap (option_and_then (λ (q : Phrase). class_at ps q [] subscript q.node)) there
      ∙ (ap (class_at ps p [] subscript) node
      ∙ (ap (λ o. option_and_then (λ (e : Data). class_left e (chosen e subscript)) (data_of o (sizes_of common item))) type ∙ left_is d (chosen d subscript) counted)))

  pub group_class : (block k : ℕ) (place : Place) (name : List ℕ) (subscript : Subscript) (p : Phrase) (labels : List Naming) (variable : Naming) → means ps block name ≡ Some k → slice_get ps k ≡ Some p
      → p.node ≡ OfTemporaryGroup labels variable → is_miscounted (data_with class.Integer 0 false) (chosen (data_with class.Integer 0 false) subscript) ≡ false
      → class_of_reference ps block (Refers place name [] subscript) ≡ Some class.Integer
  unfolding class_of_reference class_at data_at is_nil is_structure_class
  group_class block k place name subscript p labels variable meant there node counted =
      let d : Data = data_with class.Integer 0 false in
      ap (λ (o : Option ℕ). elim o [ None ↦ if is_nil {X = Naming} [] then class_of_builtin (builtin_named name) else None | Some m ↦ option_and_then (λ (q : Phrase). class_at ps q [] subscript q.node) (slice_get ps m) ]) meant
      ∙ (ap (option_and_then (λ (q : Phrase). class_at ps q [] subscript q.node)) there ∙ (ap (class_at ps p [] subscript) node ∙ left_is d (chosen d subscript) counted))
