-- A constant that is its value has one, in a set that breaks no rule.
use Rattle.std.proofs.Common.{◌≡◌, ◌≤◌, ◌<◌, ℕ, zero, suc, ◌==◌, nat_le, pos, neg_ℤ, Bool, true, false, not, ◌&&◌, ◌||◌, List, [], ◌∷◌, length, Option, Some, None, Result, Ok, Err, slice_get, refl, sym, ap, ◌∙◌, subst, inl, inr, arith}
use Rattle.std.specs.Prelude.{if◌then◌else◌}
use Rattle.std.specs.Option.{option_and_then, option_or, is_some}
use Rattle.std.proofs.lemmas.Bool.{and_parts, eqb-true, eq-eqb, lt-ltb, leb-true}
use Rattle.hal_base.specs.declared.refusal.Place.{Place}
use Rattle.hal_grammar.specs.Leaves.{Naming, Sign, Plus, Minus, LiteralValue, Integer, Text, Bits, True, False, On, Off}
use Rattle.hal_grammar.specs.Expressions.{Expression, Unsubscripted, place_of}
use Rattle.hal_grammar.specs.Declarations.{Double, Initial, Value, LiteralTimes, NameTimes, ListTimes, Initials, NoInitials, MoreInitials, Attribute, ConstantValues, Declared, IntegerKind, BooleanKind, EventKind, BitKind, CharacterKind, StructureKind}
use Rattle.hal_grammar.specs.Declarations as declarations
use Rattle.hal_grammar.specs.Units.{File}
use Rattle.hal_phrases.specs.declared.around.Around.{Around}
use Rattle.hal_phrases.specs.declared.role.Role.TheVariants as role
use Rattle.hal_phrases.specs.Phrases.{Node, Phrase, phrase, add, OfExpression, OfFile, OfInitial, OfInitialName, OfItem}
use Rattle.hal_phrases.specs.GatheredExpressions.{below}
use Rattle.hal_phrases.specs.GatheredDeclarations.{gathered_attribute, gathered_initial, gathered_initials}
use Rattle.hal_phrases.specs.GatheredUnits.{gathered_file, gathered_prefaces, name_of_block, phrases_of}
use Rattle.hal_phrases.specs.Surroundings.{behind, in_file}
use Rattle.hal_names.specs.Laws.{IsCounted}
use Rattle.hal_names.specs.Means.{means}
use Rattle.hal_scope.specs.declared.usage.Usage.TheVariants as usage
use Rattle.hal_scope.specs.Rules.{IsAmong, IsSound, rows, ruled}
use Rattle.hal_scope.specs.Sorts.{type_of, used}
use Rattle.hal_scope.specs.Uses.{is_known_builtin, unknown}
use Rattle.hal_kinds.specs.declared.class.Class.{Class}
use Rattle.hal_kinds.specs.declared.class.Class.TheVariants as class
use Rattle.hal_kinds.specs.declared.data.Data.{Data}
use Rattle.hal_kinds.specs.Attributes as attributes
use Rattle.hal_kinds.specs.Attributes.{sizes_of}
use Rattle.hal_kinds.specs.Classes.{class_of, class_of_literal}
use Rattle.hal_kinds.specs.Data.{class_of_type, data_at, is_structure_type}
use Rattle.hal_kinds.specs.Subscripts.{chosen, class_in}
use Rattle.hal_operands.specs.declared.want.Want.TheVariants as want
use Rattle.hal_operands.specs.Taken.{takes}
use Rattle.hal_attributes.specs.Typed.{untyped}
use Rattle.hal_types.specs.Rules.{attribute_rows, size_rows, type_rows}
use Rattle.hal_values.specs.declared.environment.ErrNo.{ErrNo}
use Rattle.hal_values.specs.declared.value.Kind.{Kind}
use Rattle.hal_values.specs.declared.value.Kind.TheVariants as kind
use Rattle.hal_values.specs.declared.value.Value as values
use Rattle.hal_values.specs.declared.value.Value.TheVariants as value
use Rattle.hal_operations.specs.declared.operation.Op1.TheVariants as op1
use Rattle.hal_operations.specs.Errors.{range_error}
use Rattle.hal_operations.specs.Integers.{double, integer, is_within}
use Rattle.hal_operations.specs.Stores.{stored}
use Rattle.hal_constants.specs.declared.constant.Constant.{Constant}
use Rattle.hal_constants.specs.declared.constant.Constant.TheVariants as constant
use Rattle.hal_constants.specs.Results.{apply_one, whole, worth}
use Rattle.hal_constants.specs.Constants.{constant_of, signed}
use Rattle.hal_constants.specs.Known.{Known, is_file, known, kind_of_item, kind_of_type, kind_of, bits_kind, text_kind, signed_literal, signed_name, gives_none, only_of, only_with, only_in, kept, fitted, declared_value, size_of}
use Rattle.hal_constants.specs.Naming.{constant_named, is_value_item, literal_constant, value_at}
use Rattle.hal_constants.specs.Operands.{is_storable, is_string, takes_one}
use Rattle.hal_sizes.specs.Constancy.{inconstant, inconstant_as, inconstant_initial, unsettled}
use Rattle.hal_sizes.specs.Cells.{cells_of_item, cells_of_kind}
use Rattle.hal_sizes.specs.Sizes.{extent_of}
use Rattle.hal_initials.specs.Initials.{begun, counted, miscounted, misinitialed, missigned, misvalued, valued}
use Rattle.hal_initials.specs.Repetition.{count_of, count_with}
use Rattle.hal_initials.specs.Suiting.{class_named, fails, initial_fault, initials_fault, missigned_class, missigned_initial, overflows, single_fault, value_fault}
use Rattle.hal_sound_values.specs.Right.{IsRight}
use Rattle.hal_operations.specs.Operands.{IsString}
use Rattle.hal_code.specs.Sorts.{is_kind}
use Rattle.hal_fit_classes.specs.Kinded.{IsFitLiteral}
use Rattle.hal_fit_rules.specs.Begun.{AreFirst}
use Rattle.hal_fit_rules.proofs.Beginning.{among, one, then_}
use Rattle.hal_fit_rules.proofs.BegunDeclarations.{initials_first}
use Rattle.hal_fit_rules.proofs.BegunExpressions.{own_first}
use Rattle.hal_fit_rules.proofs.BegunUnits.{block_first, files_first}
use Rattle.hal_fit_rules.proofs.Ranging.{kind_ranged}
use Rattle.hal_fit_rules.proofs.Unbroken.{of_sizes, ruled_none, unbroken}
use Rattle.hal_fit_names.specs.Spelled.{AreSpelled, IsRightLiteral}
use Rattle.hal_fit_names.specs.Suited.{AreDeclared, HasFitLiterals, IsWorth, Suits, class_of_value}
use Rattle.hal_fit_names.proofs.Clashing.{IsOf, constant_alone, constant_is_of}
use Rattle.hal_fit_names.proofs.Counts.{first_more, first_one, first_zero, none_counts, one_times, zero_gives}
use Rattle.hal_fit_names.proofs.Growing.{Gets}
use Rattle.hal_fit_names.proofs.Homing.{prefaces_first}
use Rattle.hal_fit_names.proofs.Holding.{Holds, IsSane, is_string_of, minus_suits}
use Rattle.hal_fit_names.proofs.Keeping.{Keeps, Precedes, constant_keeps, named_keeps, signed_keeps}
use Rattle.hal_fit_names.proofs.MeantItems.{of_attributes}
use Rattle.hal_fit_names.proofs.Placing.{ArePlaced, IsPlaced, NodePlaced, longer, one_longer}
use Rattle.hal_fit_names.proofs.Rounds.{declared_known, known_declared}
use Rattle.hal_fit_names.proofs.Sizing.{hidden_kind_known, placed_precedes}
use Rattle.hal_fit_names.proofs.Suiting.{literal_suits, suits, unless_true, whole_holds}
use Rattle.hal_fit_names.proofs.Valuing.{IsValueName, in_class, named_sane, named_value, single, value_data}

-- the class of a kind of cells
abbrev class_of_cells : Kind → Class
class_of_cells kind.Single = class.Integer
class_of_cells kind.Double = class.Integer
class_of_cells (kind.Bits n) = class.Bits
class_of_cells (kind.Text n) = class.Text

-- a cell of the kind holds a constant
abbrev pub IsHeld : Kind → Constant → Type 0
IsHeld k c = (w : values.Value) × (fitted (Some k) c ≡ Some w)

kept_by : (r : Result values.Value ErrNo) → fails r ≡ false → (w : values.Value) × (kept r ≡ Some w)
unfolding fails kept
kept_by (Ok w) is = (w, refl)
kept_by (Err e) is = absurd (cc)

stored_by : (storable : Bool) (r : Result values.Value ErrNo) → storable ≡ true → (storable && fails r) ≡ false → (w : values.Value) × ((if storable then kept r else None) ≡ Some w)
stored_by true r is holds = kept_by r holds
stored_by false r is holds = absurd (cc)

string_storable : (n len word : ℕ) → (nat_le 1 n && nat_le n 32) ≡ true → IsString len word → (nat_le 1 n && (nat_le n 32 && is_string len word)) ≡ true
string_storable n len word is right = by (nat_le 1 n) (nat_le n 32) is where
  by : (a b : Bool) → (a && b) ≡ true → (a && (b && is_string len word)) ≡ true
  by true true so = is_string_of len word right
  by true false so = absurd (cc)
  by false b so = absurd (cc)

-- a right value that cells of this kind take and that is none that they can't hold
held_by : (k : Kind) (v : values.Value) → is_kind k ≡ true → IsRight v → takes (Some (class_of_cells k)) (Some (class_of_value v)) ≡ true → overflows (Some k) (constant.Worth v) ≡ false → IsHeld k (constant.Worth v)
unfolding fitted takes overflows is_storable
held_by kind.Single (value.Int a) range right taken holds = stored_by true (stored kind.Single (value.Int a)) refl holds
held_by kind.Single (value.Bits len word) range right taken holds = absurd (cc)
held_by kind.Single (value.Text text) range right taken holds = absurd (cc)
held_by kind.Double (value.Int a) range right taken holds = stored_by true (stored kind.Double (value.Int a)) refl holds
held_by kind.Double (value.Bits len word) range right taken holds = absurd (cc)
held_by kind.Double (value.Text text) range right taken holds = absurd (cc)
held_by (kind.Bits n) (value.Int a) range right taken holds = absurd (cc)
held_by (kind.Bits n) (value.Bits len word) range right taken holds =
    stored_by (nat_le 1 n && (nat_le n 32 && is_string len word)) (stored (kind.Bits n) (value.Bits len word)) (string_storable n len word range right) holds
held_by (kind.Bits n) (value.Text text) range right taken holds = absurd (cc)
held_by (kind.Text n) (value.Int a) range right taken holds = stored_by (nat_le 1 n && nat_le n 255) (stored (kind.Text n) (value.Int a)) range holds
held_by (kind.Text n) (value.Bits len word) range right taken holds = absurd (cc)
held_by (kind.Text n) (value.Text text) range right taken holds = stored_by (nat_le 1 n && nat_le n 255) (stored (kind.Text n) (value.Text text)) range holds

no_fault : {X : Type 0} (takes_ lost : Bool) (x y : X) → (if takes_ then (if lost then Some x else None) else Some y) ≡ None → (takes_ ≡ true) × (lost ≡ false)
no_fault true false x y is = (refl, refl)
no_fault true true x y is = absurd (cc)
no_fault false lost x y is = absurd (cc)

-- so it is of a constant that breaks no rule of initial values
worth_held : (k : Kind) (place : Place) (o : Option Class) (c : Constant) (v : values.Value) → is_kind k ≡ true → c ≡ constant.Worth v → IsWorth o v → value_fault (Some (class_of_cells k)) (Some k) place o c ≡ None → IsHeld k c
worth_held k place o c v range is worth none =
    let both = no_fault (takes (Some (class_of_cells k)) o) (overflows (Some k) c) (704, place) (702, place) none in
    subst (IsHeld k) (sym is) (held_by k v range worth.right (ap (takes (Some (class_of_cells k))) (sym worth.known) ∙ both.0) (ap (overflows (Some k)) (sym is) ∙ both.1))

-- a constant that suits its class and is settled is a value
settled_worth : (place : Place) (o : Option Class) (c : Constant) → unsettled place c ≡ None → Suits o c → (v : values.Value) × (c ≡ constant.Worth v) × IsWorth o v
unfolding unsettled
settled_worth place o (constant.Worth v) none suits_ = (v, refl, suits_)
settled_worth place o constant.Failed none suits_ = absurd (cc)
settled_worth place o constant.Open none suits_ = absurd (cc)
settled_worth place o constant.Unfit none suits_ = absurd suits_

kept_worth : (c d : Constant) (v : values.Value) → Keeps c d → c ≡ constant.Worth v → d ≡ constant.Worth v
kept_worth c d v keeps is = subst (λ e. Keeps e d) is keeps

-- a literal that is right
literal_worth : (literal : LiteralValue) → IsRightLiteral literal → (v : values.Value) × (literal_constant literal ≡ constant.Worth v)
unfolding literal_constant
literal_worth (Integer number) right = (value.Int (pos number), ap (λ b. if b then constant.Worth (value.Int (pos number)) else constant.Failed) right)
literal_worth (Text text) right = (value.Text text, ap (λ b. if b then constant.Worth (value.Text text) else constant.Failed) right)
literal_worth (Bits len bits) right = (value.Bits len bits, refl)
literal_worth True right = (value.Bits 1 1, refl)
literal_worth On right = (value.Bits 1 1, refl)
literal_worth False right = (value.Bits 1 0, refl)
literal_worth Off right = (value.Bits 1 0, refl)

literal_fit : (literal : LiteralValue) → IsRightLiteral literal → IsFitLiteral literal
literal_fit (Bits len bits) right = right
literal_fit other right = tt

-- a negative number whose positive one is one
minus_fits : (n : ℕ) → nat_le n 2147483647 ≡ true → is_within double (neg_ℤ (pos n)) ≡ true
minus_fits zero small = refl
minus_fits (suc n) small = let low = leb-true (suc n) 2147483647 small in lt-ltb n 2147483648 (omega (arith, low))

minus_worth : (n : ℕ) → nat_le n 2147483647 ≡ true → (v : values.Value) × (apply_one op1.Minus (whole n) ≡ constant.Worth v)
unfolding apply_one takes_one worth
minus_worth n small = (
  value.Int (neg_ℤ (pos n)),
  ap (λ b. apply_one op1.Minus (if b then constant.Worth (value.Int (pos n)) else constant.Failed)) small
      ∙ ap (λ b. worth (integer (if b then Ok (neg_ℤ (pos n)) else Err range_error))) (minus_fits n small),
)

-- a sign before an integer alone
integer_literal : (sign : Sign) (place : Place) (literal : LiteralValue) → missigned_class (Some sign) (Some (class_of_literal literal)) place ≡ None → (n : ℕ) × (literal ≡ Integer n)
unfolding missigned_class takes class_of_literal
integer_literal sign place (Integer n) none = (n, refl)
integer_literal sign place (Text text) none = absurd (cc)
integer_literal sign place (Bits len bits) none = absurd (cc)
integer_literal sign place True none = absurd (cc)
integer_literal sign place False none = absurd (cc)
integer_literal sign place On none = absurd (cc)
integer_literal sign place Off none = absurd (cc)

-- a literal behind a sign or none
signed_worth : (sign : Option Sign) (place : Place) (literal : LiteralValue) → IsRightLiteral literal → missigned_class sign (Some (class_of_literal literal)) place ≡ None
    → (v : values.Value) × (signed_literal sign literal ≡ constant.Worth v) × IsWorth (Some (class_of_literal literal)) v
unfolding signed literal_constant class_of_literal
signed_worth None place literal right none =
    let one = literal_worth literal right in (one.0, one.1, subst (Suits (Some (class_of_literal literal))) one.1 (literal_suits literal (literal_fit literal right)))
signed_worth (Some Plus) place literal right none =
    let one = literal_worth literal right in (one.0, one.1, subst (Suits (Some (class_of_literal literal))) one.1 (literal_suits literal (literal_fit literal right)))
signed_worth (Some Minus) place literal right none = by (integer_literal Minus place literal none) where
  by : (n : ℕ) × (literal ≡ Integer n) → (v : values.Value) × (signed_literal (Some Minus) literal ≡ constant.Worth v) × IsWorth (Some (class_of_literal literal)) v
  by is =
      let one = minus_worth is.0 (subst IsRightLiteral is.1 right) in
      subst (λ (x : LiteralValue). (v : values.Value) × (signed_literal (Some Minus) x ≡ constant.Worth v) × IsWorth (Some (class_of_literal x)) v) (sym is.1)
      (one.0, one.1, subst (Suits (Some class.Integer)) one.1 (minus_suits (whole is.0) (whole_holds is.0)))

-- a name behind a sign or none, which is settled
name_class : (sign : Sign) (place : Place) (v : values.Value) → missigned_class (Some sign) (Some (class_of_value v)) place ≡ None → class_of_value v ≡ class.Integer
unfolding missigned_class takes
name_class sign place (value.Int a) none = refl
name_class sign place (value.Bits len word) none = absurd (cc)
name_class sign place (value.Text text) none = absurd (cc)

integer_holds : (v : values.Value) → IsRight v → class_of_value v ≡ class.Integer → Holds want.Integer (constant.Worth v)
integer_holds (value.Int a) right is = (right, refl)
integer_holds (value.Bits len word) right is = absurd (cc)
integer_holds (value.Text text) right is = absurd (cc)

name_worth : (sign : Option Sign) (place : Place) (o : Option Class) (c : Constant) → IsSane c → ((v : values.Value) → c ≡ constant.Worth v → IsWorth o v) → missigned_class sign o place ≡ None → unsettled place (signed sign c) ≡ None
    → (v : values.Value) × (signed sign c ≡ constant.Worth v) × IsWorth o v
unfolding signed unsettled apply_one
name_worth None place o (constant.Worth v) sane worth none settled = (v, refl, worth v refl)
name_worth (Some Plus) place o (constant.Worth v) sane worth none settled = (v, refl, worth v refl)
name_worth (Some Minus) place o (constant.Worth v) sane worth none settled =
    let one = worth v refl in
    let integer_ = name_class Minus place v (ap (λ x. missigned_class (Some Minus) x place) (sym one.known) ∙ none) in
    settled_worth place o (apply_one op1.Minus (constant.Worth v)) settled
    (subst (λ x. Suits x (apply_one op1.Minus (constant.Worth v))) (sym (one.known ∙ ap Some integer_)) (minus_suits (constant.Worth v) (integer_holds v one.right integer_)))
name_worth None place o constant.Failed sane worth none settled = absurd (cc)
name_worth (Some Plus) place o constant.Failed sane worth none settled = absurd (cc)
name_worth (Some Minus) place o constant.Failed sane worth none settled = absurd (cc)
name_worth None place o constant.Open sane worth none settled = absurd (cc)
name_worth (Some Plus) place o constant.Open sane worth none settled = absurd (cc)
name_worth (Some Minus) place o constant.Open sane worth none settled = absurd (cc)
name_worth sign place o constant.Unfit sane worth none settled = absurd sane

first_none : {X : Type 0} (o p : Option X) → option_or o p ≡ None → (o ≡ None) × (p ≡ None)
first_none None p is = (refl, is)
first_none (Some x) p is = absurd (cc)

-- initial values that give none change nothing
only_rest : (ps : List Phrase) (vs : Known) (p : Phrase) (c : Constant) (one : Bool) (first : Initial) (others : Initials) → gives_none first ≡ true → only_with ps vs p c one (MoreInitials first others) ≡ only_with ps vs p c one others
unfolding only_with
only_rest ps vs p c one first others none =
    ap (λ b. if b then only_with ps vs p c one others else if one then constant.Unfit else only_with ps vs p (only_of ps vs p first) true others) none

only_first : (ps : List Phrase) (vs : Known) (p : Phrase) (c : Constant) (first : Initial) (others : Initials) → gives_none first ≡ false
    → only_with ps vs p c false (MoreInitials first others) ≡ only_with ps vs p (only_of ps vs p first) true others
unfolding only_with
only_first ps vs p c first others some =
    ap (λ b. if b then only_with ps vs p c false others else only_with ps vs p (only_of ps vs p first) true others) some

gives_some : (first : Initial) → count_of first ≡ 1 → gives_none first ≡ false
gives_some first is = by (gives_none first) refl where
  by : (b : Bool) → gives_none first ≡ b → b ≡ false
  by false none = refl
  by true none = let zero_ = none_counts first none in absurd (omega (arith, zero_, is))

rest_none : (ps : List Phrase) (vs : Known) (p : Phrase) (c : Constant) (list : Initials) → count_with 1 list ≡ 1 → only_with ps vs p c true list ≡ c
unfolding only_with count_with
rest_none ps vs p c NoInitials is = refl
rest_none ps vs p c (MoreInitials first others) is = by (count_of first) refl (λ more. rest_none ps vs p c others more) where
  by : (n : ℕ) → count_of first ≡ n → (count_with 1 others ≡ 1 → only_with ps vs p c true others ≡ c) → only_with ps vs p c true (MoreInitials first others) ≡ c
  by zero none rest = only_rest ps vs p c true first others (zero_gives first none) ∙ rest (sym (first_zero first others 1 (omega arith) none) ∙ is)
  by (suc n) some rest = absurd (first_more first others 1 (omega (arith, some)) is)

module _ (ps : List Phrase) (named : IsSound rows ps) (sound : IsSound type_rows ps) (counted_ : IsCounted ps) (declared : AreDeclared ps) (literals : HasFitLiterals ps)
    (right : (q : Phrase) (place : Place) (count : ℕ) (sign : Option Sign) (spot : Place) (literal : LiteralValue) → IsAmong q ps → q.node ≡ OfInitial (LiteralTimes place count sign spot literal) → IsRightLiteral literal)
    (p : Phrase) (x : Attribute) (placed : IsPlaced ps p x) (hidden : value_at (known ps) p.number ≡ None) (k : Kind) (range : is_kind k ≡ true) where
  abbrev limit : ℕ
  limit = length (gathered_attribute placed.around placed.before x)

  -- what stands before a phrase of the values stands before the constant
  precedes : (q : Phrase) → q.number < limit → q.around.home ≡ p.around.home → Precedes ps (known ps) (known ps) q p
  precedes q low home = placed_precedes ps (known ps) p q x placed (λ is. hidden) low home

  -- a value as an expression
  value_held : (d : List Phrase) (a : Around) (tree : Expression) → a.block ≡ p.around.block → a.home ≡ p.around.home → AreFirst (gathered_initial d a (Value tree)) ps → length (gathered_initial d a (Value tree)) ≤ limit
      → single_fault ps (known ps) p (Some (class_of_cells k)) (Some k) (Value tree) ≡ None → IsHeld k (constant_of ps (known ps) p tree)
  unfolding gathered_initial size_rows inconstant inconstant_as single_fault
  value_held d a tree block home first short none =
      let e : List Phrase = add d a (OfInitial (Value tree)) in
      let b : Around = below d a in
      let q : Phrase = phrase (length e) b (OfExpression role.Initial tree) in
      let settled = unbroken type_rows ps sound q (among ps e b (OfExpression role.Initial tree) (then_ (own_first e b role.Initial tree) first)) (λ qs o. inconstant qs (known qs) o o.node) (of_sizes (λ qs o. inconstant qs (known qs) o o.node) (inl refl)) in
      let worth = settled_worth (place_of tree) (class_of ps a.block tree) (constant_of ps (known ps) q tree) settled (suits ps named sound counted_ declared literals q e b role.Initial tree refl refl first) in
      let grown = longer (own_first e b role.Initial tree) in
      let own = one_longer e b (OfExpression role.Initial tree) in
      let here = kept_worth (constant_of ps (known ps) q tree) (constant_of ps (known ps) p tree) worth.0 (constant_keeps ps (known ps) (known ps) q p block (precedes q (omega (arith, grown, own, short)) home) tree) worth.1 in
      worth_held k (place_of tree) (class_of ps p.around.block tree) (constant_of ps (known ps) p tree) worth.0 range here (subst (λ n. IsWorth (class_of ps n tree) worth.0) block worth.2) none

  -- a literal that is there once
  literal_held : (d : List Phrase) (a : Around) (place : Place) (count : ℕ) (sign : Option Sign) (spot : Place) (literal : LiteralValue) → AreFirst (gathered_initial d a (LiteralTimes place count sign spot literal)) ps
      → single_fault ps (known ps) p (Some (class_of_cells k)) (Some k) (LiteralTimes place count sign spot literal) ≡ None → IsHeld k (signed_literal sign literal)
  unfolding gathered_initial size_rows missigned missigned_initial single_fault
  literal_held d a place count sign spot literal first none =
      let i : Initial = LiteralTimes place count sign spot literal in
      let q : Phrase = phrase (length d) a (OfInitial i) in
      let within = among ps d a (OfInitial i) first in
      let missign = ruled_none 702 (missigned ps q (OfInitial i)) (unbroken type_rows ps sound q within (λ qs o. ruled 702 (missigned qs o o.node)) (of_sizes (λ qs o. ruled 702 (missigned qs o o.node)) (inr (inr (inr (inr (inl refl))))))) in
      let worth = signed_worth sign spot literal (right q place count sign spot literal within refl) missign in
      worth_held k spot (Some (class_of_literal literal)) (signed_literal sign literal) worth.0 range worth.1 worth.2 none

  class_of_name : (block : ℕ) (name : List ℕ) (v : values.Value) (n : IsValueName ps block name [] v) → class_named ps block name ≡ Some (class_of_value v)
  class_of_name block name v n =
      ap (λ (o : Option ℕ). option_and_then (λ (d : Data). Some (class_in d (chosen d Unsubscripted))) (option_and_then (λ j. option_and_then (λ (r : Phrase). data_at ps r [] r.node) (slice_get ps j)) o)) n.meant
      ∙ (ap (λ (o : Option Phrase). option_and_then (λ (d : Data). Some (class_in d (chosen d Unsubscripted))) (option_and_then (λ (r : Phrase). data_at ps r [] r.node) o)) n.there
      ∙ (ap (λ m. option_and_then (λ (d : Data). Some (class_in d (chosen d Unsubscripted))) (data_at ps n.phrase [] m)) n.is.declares
      ∙ (ap (option_and_then (λ (d : Data). Some (class_in d (chosen d Unsubscripted)))) (value_data ps n.phrase [] v n.is) ∙ ap Some (in_class v (chosen (single v) Unsubscripted)))))

  -- a name that is there once
  name_held : (d : List Phrase) (a : Around) (place : Place) (count : ℕ) (sign : Option Sign) (name : Naming) → a.block ≡ p.around.block → a.home ≡ p.around.home → AreFirst (gathered_initial d a (NameTimes place count sign name)) ps
      → length (gathered_initial d a (NameTimes place count sign name)) ≤ limit → single_fault ps (known ps) p (Some (class_of_cells k)) (Some k) (NameTimes place count sign name) ≡ None → IsHeld k (signed_name ps (known ps) p sign name)
  unfolding gathered_initial size_rows missigned missigned_initial inconstant inconstant_initial single_fault unknown used
  name_held d a place count sign name block home first short none =
      let i : Initial = NameTimes place count sign name in
      let q : Phrase = phrase (length d) a (OfInitial i) in
      let e : List Phrase = add d a (OfInitial i) in
      let b : Around = below d a in
      let r : Phrase = phrase (length e) b (OfInitialName name) in
      let q_first = then_ (one e b (OfInitialName name)) first in
      let within = among ps d a (OfInitial i) q_first in
      let missign = ruled_none 702 (missigned ps q (OfInitial i)) (unbroken type_rows ps sound q within (λ qs o. ruled 702 (missigned qs o o.node)) (of_sizes (λ qs o. ruled 702 (missigned qs o o.node)) (inr (inr (inr (inr (inl refl))))))) in
      let settled = unbroken type_rows ps sound q within (λ qs o. inconstant qs (known qs) o o.node) (of_sizes (λ qs o. inconstant qs (known qs) o o.node) (inl refl)) in
      let known_ : (is_some (means ps a.block name.name) || is_known_builtin name.name usage.Value) ≡ true = unless_true (is_some (means ps a.block name.name) || is_known_builtin name.name usage.Value) name.place
      (ruled_none 601 (unknown ps r) (unbroken rows ps named r (among ps e b (OfInitialName name) first) (λ qs o. ruled 601 (unknown qs o)) (inl refl))) in
      let c : Constant = constant_named ps (known ps) q name.name [] in
      let worth = name_worth sign name.place (class_named ps a.block name.name) c (named_sane ps counted_ q declared name.name [] usage.Value known_)
      (λ v is. let n = named_value ps counted_ q name.name [] v is in record { known = class_of_name a.block name.name v n; right = n.is.right }) missign settled in
      let one_more = one_longer d a (OfInitial i) in
      let two_more = one_longer e b (OfInitialName name) in
      let keeps = signed_keeps sign c (constant_named ps (known ps) p name.name []) (named_keeps ps (known ps) (known ps) q p block (precedes q (omega (arith, one_more, two_more, short)) home) name.name []) in
      let here = kept_worth (signed_name ps (known ps) q sign name) (signed_name ps (known ps) p sign name) worth.0 keeps worth.1 in
      worth_held k name.place (class_named ps p.around.block name.name) (signed_name ps (known ps) p sign name) worth.0 range here (subst (λ n. IsWorth (class_named ps n name.name) worth.0) block worth.2) none

  once_held : (count : ℕ) (c : Constant) → count ≡ 1 → IsHeld k c → IsHeld k (if count == 1 then c else constant.Unfit)
  once_held count c is held = subst (IsHeld k) (sym (ap (λ b. if b then c else constant.Unfit) (eq-eqb count 1 is))) held

  -- the first of them gives it, or gives none
  first_held : (i : Initial) (others : Initials) (n : ℕ) → count_of i ≡ n → count_with 0 (MoreInitials i others) ≡ 1 → (count_of i ≡ 1 → IsHeld k (only_of ps (known ps) p i))
      → (count_with 0 others ≡ 1 → IsHeld k (only_with ps (known ps) p constant.Unfit false others)) → IsHeld k (only_with ps (known ps) p constant.Unfit false (MoreInitials i others))
  unfolding count_with
  first_held i others zero is single_ here rest =
      subst (IsHeld k) (sym (only_rest ps (known ps) p constant.Unfit false i others (zero_gives i is))) (rest (sym (first_zero i others 0 (omega arith) is) ∙ single_))
  first_held i others (suc zero) is single_ here rest =
      subst (IsHeld k)
      (sym (only_first ps (known ps) p constant.Unfit i others (gives_some i is) ∙ rest_none ps (known ps) p (only_of ps (known ps) p i) others (sym (first_one i others is) ∙ single_))) (here is)
  first_held i others (suc (suc n)) is single_ here rest = absurd (first_more i others 0 (omega (arith, is)) single_)

  mutual
    unfolding gathered_initial gathered_initials count_of count_with only_of initial_fault initials_fault

    -- an initial value that gives one value
    one_held : (i : Initial) (d : List Phrase) (a : Around) → a.block ≡ p.around.block → a.home ≡ p.around.home → AreFirst (gathered_initial d a i) ps → length (gathered_initial d a i) ≤ limit → count_of i ≡ 1
        → initial_fault ps (known ps) p (Some (class_of_cells k)) (Some k) i ≡ None → IsHeld k (only_of ps (known ps) p i)
    one_held (Value tree) d a block home first short single_ none = value_held d a tree block home first short none
    one_held (LiteralTimes place count sign spot literal) d a block home first short single_ none =
        once_held count (signed_literal sign literal) single_ (literal_held d a place count sign spot literal first none)
    one_held (NameTimes place count sign name) d a block home first short single_ none =
        once_held count (signed_name ps (known ps) p sign name) single_ (name_held d a place count sign name block home first short none)
    one_held (ListTimes place count list) d a block home first short single_ none =
        let both = one_times count list single_ in
        once_held count (only_with ps (known ps) p constant.Unfit false list) (eqb-true count 1 both.0)
        (all_held list (add d a (OfInitial (ListTimes place count list))) (below d a) block home first short both.1 none)

    -- initial values that give one value in all
    all_held : (list : Initials) (d : List Phrase) (a : Around) → a.block ≡ p.around.block → a.home ≡ p.around.home → AreFirst (gathered_initials d a list) ps → length (gathered_initials d a list) ≤ limit → count_with 0 list ≡ 1
        → initials_fault ps (known ps) p (Some (class_of_cells k)) (Some k) list ≡ None → IsHeld k (only_with ps (known ps) p constant.Unfit false list)
    all_held NoInitials d a block home first short single_ none = absurd (cc)
    all_held (MoreInitials i others) d a block home first short single_ none =
        let e : List Phrase = gathered_initial d a i in
        let both = first_none (initial_fault ps (known ps) p (Some (class_of_cells k)) (Some k) i) (initials_fault ps (known ps) p (Some (class_of_cells k)) (Some k) others) none in
        let grown = longer (initials_first e a others) in
        first_held i others (count_of i) refl single_ (λ one_. one_held i d a block home (then_ (initials_first e a others) first) (omega (arith, grown, short)) one_ both.0) (λ rest. all_held others e a block home first short rest both.1)

kind_same : (j k : Kind) → Some j ≡ Some k → j ≡ k
kind_same j k is = cc

bits_class : (o : Option ℕ) (k : Kind) → bits_kind o ≡ Some k → class.Bits ≡ class_of_cells k
unfolding bits_kind
bits_class None k is = absurd (cc)
bits_class (Some n) k is = ap class_of_cells (kind_same (kind.Bits n) k is)

text_class : (o : Option ℕ) (k : Kind) → text_kind o ≡ Some k → class.Text ≡ class_of_cells k
unfolding text_kind
text_class None k is = absurd (cc)
text_class (Some n) k is = ap class_of_cells (kind_same (kind.Text n) k is)

-- the kind of the cells of a type has its class
cells_class : (ps : List Phrase) (vs : Known) (p : Phrase) (double_ : Bool) (t : declarations.Kind) (k : Kind) → kind_of_type ps vs p double_ (Some t) ≡ Some k → class_of_type t ≡ class_of_cells k
unfolding kind_of_type kind_of class_of_type
cells_class ps vs p true (IntegerKind place) k is = ap class_of_cells (kind_same kind.Double k is)
cells_class ps vs p false (IntegerKind place) k is = ap class_of_cells (kind_same kind.Single k is)
cells_class ps vs p double_ (BooleanKind place) k is = ap class_of_cells (kind_same (kind.Bits 1) k is)
cells_class ps vs p double_ (EventKind place) k is = ap class_of_cells (kind_same (kind.Bits 1) k is)
cells_class ps vs p double_ (BitKind place size) k is = bits_class (size_of 32 (constant_of ps vs p size)) k is
cells_class ps vs p double_ (CharacterKind place size) k is = text_class (size_of 255 (constant_of ps vs p size)) k is
cells_class ps vs p double_ (StructureKind place template copies) k is = absurd (cc)

placed_among : (ps : List Phrase) (p : Phrase) (xs : List Attribute) (x : Attribute) → ArePlaced ps p xs → IsAmong x xs → IsPlaced ps p x
placed_among ps p [] x placed within = absurd within
placed_among ps p (y ∷ ys) x placed (inl same) = subst (λ a. IsPlaced ps p a) (sym same) placed.0
placed_among ps p (y ∷ ys) x placed (inr later) = placed_among ps p ys x placed.1 later

some_list : (o : Option Initials) (b : Bool) → (is_some o && b) ≡ true → (list : Initials) × (o ≡ Some list)
some_list (Some list) b is = (list, refl)
some_list None b is = absurd (cc)

not_some : {X : Type 0} (o : Option X) → not (is_some o) ≡ true → o ≡ None
not_some None is = refl
not_some (Some x) is = absurd (cc)

not_true : (b : Bool) → not b ≡ true → b ≡ false
not_true false is = refl
not_true true is = absurd (cc)

some_type : (o : Option declarations.Kind) → is_some o ≡ true → (t : declarations.Kind) × (o ≡ Some t)
some_type (Some t) is = (t, refl)
some_type None is = absurd (cc)

one_or_one : (n : ℕ) → ((n == 1) || (n == 1)) ≡ true → n ≡ 1
one_or_one n is = by (n == 1) refl is where
  by : (b : Bool) → (n == 1) ≡ b → (b || b) ≡ true → n ≡ 1
  by true same so = eqb-true n 1 same
  by false other so = absurd (cc)

list_same : (a b : Initials) → Some a ≡ Some b → a ≡ b
list_same a b is = cc

-- data that are no array and no structure have one cell
one_cell : (ps : List Phrase) (vs : Known) (p : Phrase) (t : declarations.Kind) → is_structure_type (Some t) ≡ false → cells_of_kind ps vs p t None ≡ Some 1
unfolding cells_of_kind extent_of is_structure_type
one_cell ps vs p (StructureKind place template copies) plain = absurd (cc)
one_cell ps vs p other plain = refl

plain_values : (ps : List Phrase) (vs : Known) (p : Phrase) (common : List Attribute) (item : Declared) (list : Initials) (t : declarations.Kind) → is_structure_type (Some t) ≡ false
    → misvalued ps vs p common item list t ≡ initials_fault ps vs p (Some (class_of_type t)) (kind_of_item ps vs p common item) list
unfolding misvalued is_structure_type
plain_values ps vs p common item list (StructureKind place template copies) plain = absurd (cc)
plain_values ps vs p common item list other plain = refl

module _ (ps : List Phrase) (named : IsSound rows ps) (sound : IsSound type_rows ps) (counted_ : IsCounted ps) (declared : AreDeclared ps) (literals : HasFitLiterals ps) (spelled : AreSpelled ps)
    (placed : (p : Phrase) → IsAmong p ps → NodePlaced ps p p.node) (told : (q : Phrase) → IsAmong q ps → Gets (declared_value ps (known ps) q q.node) (value_at (known ps) q.number))
    (p : Phrase) (common : List Attribute) (item : Declared) (within : IsAmong p ps) (is : p.node ≡ OfItem common item) (valued_ : is_value_item common item ≡ true) where
  -- its values, its type, and no sizes
  list_there : (list : Initials) × (attributes.constant_of common item ≡ Some list)
  list_there = some_list (attributes.constant_of common item) _ valued_

  parts : (not (is_some (sizes_of common item)) ≡ true) × (not (is_structure_type (type_of common item)) ≡ true)
  parts = and_parts (not (is_some (sizes_of common item))) (not (is_structure_type (type_of common item)))
      (and_parts (is_some (attributes.constant_of common item)) (not (is_some (sizes_of common item)) && not (is_structure_type (type_of common item))) valued_).1

  type_there : (t : declarations.Kind) × (type_of common item ≡ Some t)
  unfolding attribute_rows untyped
  type_there = some_type (type_of common item)
      (unless_true (is_some (type_of common item)) item.name.place
      (ruled_none 323 (untyped (OfItem common item)) (ap (λ n. ruled 323 (untyped n)) (sym is) ∙ unbroken type_rows ps sound p within (λ qs q. ruled 323 (untyped q.node)) (of_attributes (λ qs q. ruled 323 (untyped q.node)) (inl refl)))))

  -- the rules of initial values
  begun_none : begun ps (known ps) p common item list_there.0 ≡ None
  unfolding size_rows misinitialed
  begun_none =
      let given = (subst (λ n. NodePlaced ps p n) is (placed p within)).2 in
      let alone = constant_alone ps sound p within common item is given.phrase given.within given.is list_there.0 list_there.1 in
      ap (option_and_then (λ (list : Initials). begun ps (known ps) p common item list)) (sym (ap (λ o. option_or o (attributes.constant_of common item)) alone ∙ list_there.1))
      ∙ (ap (misinitialed ps (known ps) p) (sym is)
      ∙ unbroken type_rows ps sound p within (λ qs o. misinitialed qs (known qs) o o.node) (of_sizes (λ qs o. misinitialed qs (known qs) o o.node) (inr (inr (inr (inr (inr (inl refl))))))))

  plain : is_structure_type (Some type_there.0) ≡ false
  plain = ap is_structure_type (sym type_there.1) ∙ not_true (is_structure_type (type_of common item)) parts.1

  -- one value is given
  counts_one : count_with 0 list_there.0 ≡ 1
  unfolding miscounted
  counts_one =
      let cells : cells_of_item ps (known ps) p common item ≡ Some 1 = ap (λ o. option_and_then (λ t. cells_of_kind ps (known ps) p t o) (type_of common item)) (not_some (sizes_of common item) parts.0)
      ∙ (ap (option_and_then (λ t. cells_of_kind ps (known ps) p t None)) type_there.1 ∙ one_cell ps (known ps) p type_there.0 plain) in
      let none = ruled_none 706 (miscounted item.name.place (count_with 0 list_there.0) (cells_of_item ps (known ps) p common item))
      (first_none (counted ps (known ps) p common item list_there.0) (valued ps (known ps) p common item list_there.0) begun_none).0 in
      one_or_one (count_with 0 list_there.0)
      (unless_true ((count_with 0 list_there.0 == 1) || (count_with 0 list_there.0 == 1)) item.name.place (ap (miscounted item.name.place (count_with 0 list_there.0)) (sym cells) ∙ none))

  pub one_given : (list : Initials) → attributes.constant_of common item ≡ Some list → count_with 0 list ≡ 1
  one_given list there = subst (λ (l : Initials). count_with 0 l ≡ 1) (list_same list_there.0 list (sym list_there.1 ∙ there)) counts_one

  -- which cells of its kind take
  module _ (hidden : value_at (known ps) p.number ≡ None) where
    kind_there : (k : Kind) × (kind_of_type ps (known ps) p (attributes.is_marked Double common item) (Some type_there.0) ≡ Some k)
    kind_there = hidden_kind_known ps named sound counted_ declared literals p common item type_there.0 (attributes.is_marked Double common item) is type_there.1 plain (λ valued_too. hidden) (placed p within)

    kind_is : kind_of_item ps (known ps) p common item ≡ Some kind_there.0
    kind_is = ap (kind_of_type ps (known ps) p (attributes.is_marked Double common item)) type_there.1 ∙ kind_there.1

    faultless : initials_fault ps (known ps) p (Some (class_of_cells kind_there.0)) (Some kind_there.0) list_there.0 ≡ None
    faultless =
        ap (λ c. initials_fault ps (known ps) p (Some c) (Some kind_there.0) list_there.0) (sym (cells_class ps (known ps) p (attributes.is_marked Double common item) type_there.0 kind_there.0 kind_there.1))
        ∙ (ap (λ o. initials_fault ps (known ps) p (Some (class_of_type type_there.0)) o list_there.0) (sym kind_is)
        ∙ (sym (plain_values ps (known ps) p common item list_there.0 type_there.0 plain)
        ∙ (ap (option_and_then (λ t. misvalued ps (known ps) p common item list_there.0 t)) (sym type_there.1)
        ∙ (first_none (counted ps (known ps) p common item list_there.0) (valued ps (known ps) p common item list_there.0) begun_none).1)))

    held_there : IsHeld kind_there.0 (only_with ps (known ps) p constant.Unfit false list_there.0)
    unfolding gathered_attribute
    held_there =
        let values_at = constant_is_of common item list_there.0 list_there.1 in
        let node = subst (λ n. NodePlaced ps p n) is (placed p within) in
        at_place (ConstantValues values_at.0 list_there.0) refl (by_place values_at.1 node.0 node.1) where
          by_place : IsOf common item (ConstantValues (constant_is_of common item list_there.0 list_there.1).0 list_there.0) → ArePlaced ps p item.attributes → ArePlaced ps p common
              → IsPlaced ps p (ConstantValues (constant_is_of common item list_there.0 list_there.1).0 list_there.0)
          by_place (inl own) first second = placed_among ps p item.attributes _ first own
          by_place (inr given) first second = placed_among ps p common _ second given

          at_place : (x : Attribute) → x ≡ ConstantValues (constant_is_of common item list_there.0 list_there.1).0 list_there.0 → IsPlaced ps p (ConstantValues (constant_is_of common item list_there.0 list_there.1).0 list_there.0)
              → IsHeld kind_there.0 (only_with ps (known ps) p constant.Unfit false list_there.0)
          at_place x same where_ =
              all_held ps named sound counted_ declared literals spelled.initials p (ConstantValues (constant_is_of common item list_there.0 list_there.1).0 list_there.0) where_ hidden kind_there.0
              (kind_ranged ps (known ps) p (attributes.is_marked Double common item) type_there.0 kind_there.0 kind_there.1) list_there.0 where_.before where_.around where_.block where_.home where_.begun (omega arith)
              counts_one faultless

    value_there : (v : values.Value) × (value_at (known ps) p.number ≡ Some v)
    unfolding declared_value only_in
    value_there = (
      held_there.0,
      told p within held_there.0
          (ap (declared_value ps (known ps) p) is
          ∙ (ap (λ b. if b then fitted (kind_of_item ps (known ps) p common item) (only_in ps (known ps) p (attributes.constant_of common item)) else None) valued_
          ∙ (ap (λ o. fitted o (only_in ps (known ps) p (attributes.constant_of common item))) kind_is
          ∙ (ap (λ o. fitted (Some kind_there.0) (only_in ps (known ps) p o)) list_there.1 ∙ held_there.1)))),
    )

  -- so it has a value
  pub constant_has_value : (v : values.Value) × (value_at (known ps) p.number ≡ Some v)
  constant_has_value = by (value_at (known ps) p.number) refl where
    by : (o : Option values.Value) → value_at (known ps) p.number ≡ o → (v : values.Value) × (value_at (known ps) p.number ≡ Some v)
    by (Some v) there = (v, there)
    by None there = value_there there

-- what a constant of a set of files is by what is known is known
pub constants_are_told : (files : List File) → IsCounted (phrases_of files) → (q : Phrase) → IsAmong q (phrases_of files) → Gets (declared_value (phrases_of files) (known (phrases_of files)) q q.node) (value_at (known (phrases_of files)) q.number)
unfolding phrases_of gathered_file is_file
constants_are_told [] counted_ q within = absurd within
constants_are_told (f ∷ fs) counted_ q within =
    let a : Around = in_file 0 in
    let n : Node = OfFile f.prefaces (name_of_block f.block) in
    let d : List Phrase = gathered_prefaces (add [] a n) a 0 f.prefaces in
    let first = then_ (prefaces_first (add [] a n) a 0 f.prefaces) (then_ (block_first d (behind (length f.prefaces) a) f.block) (files_first (gathered_file [] f) fs)) in
    declared_known (phrases_of (f ∷ fs)) counted_ (phrase 0 a n) first.later first.whole refl q within

-- and what is known of one is what it is by that
pub constants_are_declared : (files : List File) → IsCounted (phrases_of files) → (q : Phrase) → IsAmong q (phrases_of files) → Gets (value_at (known (phrases_of files)) q.number) (declared_value (phrases_of files) (known (phrases_of files)) q q.node)
unfolding phrases_of gathered_file is_file
constants_are_declared [] counted_ q within = absurd within
constants_are_declared (f ∷ fs) counted_ q within =
    let a : Around = in_file 0 in
    let n : Node = OfFile f.prefaces (name_of_block f.block) in
    let d : List Phrase = gathered_prefaces (add [] a n) a 0 f.prefaces in
    let first = then_ (prefaces_first (add [] a n) a 0 f.prefaces) (then_ (block_first d (behind (length f.prefaces) a) f.block) (files_first (gathered_file [] f) fs)) in
    known_declared (phrases_of (f ∷ fs)) counted_ (phrase 0 a n) first.later first.whole refl q within
