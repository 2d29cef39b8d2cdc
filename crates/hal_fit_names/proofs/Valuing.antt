-- What names of constants are worth, and what subscripts choose of it.
use Rattle.std.proofs.Common.{◌≡◌, ℕ, zero, suc, ◌==◌, Bool, true, false, not, ◌&&◌, ◌||◌, List, [], ◌∷◌, Option, Some, None, slice_get, refl, sym, ap, ◌∙◌, subst, arith}
use Rattle.std.specs.Prelude.{nat_lt, if◌then◌else◌, Result, Ok, Err, IfOk}
use Rattle.std.specs.Option.{is_some}
use Rattle.std.proofs.lemmas.Bool.{and_parts, lt-ltb, ne_eqb}
use Rattle.hal_grammar.specs.Leaves.{Naming}
use Rattle.hal_grammar.specs.Declarations.{Kind, StructureKind, Attribute, Declared}
use Rattle.hal_grammar.specs.Expressions.{Expressions, Subscript, Unsubscripted, ByName, ByInteger, ByParts, Subscripts, NoSubscripts, MoreSubscripts}
use Rattle.hal_phrases.specs.Phrases.{Node, Phrase, OfItem}
use Rattle.hal_names.specs.Laws.{IsCounted}
use Rattle.hal_names.specs.Means.{means}
use Rattle.hal_scope.specs.declared.builtin.Builtin.{Builtin}
use Rattle.hal_scope.specs.declared.usage.Usage.{Usage}
use Rattle.hal_scope.specs.Builtins.{builtin_named, form_of}
use Rattle.hal_scope.specs.Sorts.{type_of, is_known}
use Rattle.hal_scope.specs.Uses.{is_nil, is_known_builtin}
use Rattle.hal_kinds.specs.declared.choice.Choice.{Choice}
use Rattle.hal_kinds.specs.declared.data.Data.{Data}
use Rattle.hal_kinds.specs.Attributes as attributes
use Rattle.hal_kinds.specs.Attributes.{sizes_of}
use Rattle.hal_kinds.specs.Data.{class_of_type, has_copies, dimensions_of, data_with, data_of, data_at, is_structure_type}
use Rattle.hal_kinds.specs.Subscripts.{subscript_count, choice_of, parts_chosen, miscopied, misplaced, is_miscounted, is_structure_class, class_in, class_left}
use Rattle.hal_kinds.specs.Subscripts as kinds
use Rattle.hal_operands.specs.declared.want.Want.TheVariants as want
use Rattle.hal_uses.specs.Subscripts.{is_string, component_fault, choice_fault}
use Rattle.hal_values.specs.declared.environment.ErrNo.{ErrNo}
use Rattle.hal_values.specs.declared.value.Value.{Value}
use Rattle.hal_values.specs.declared.value.Value.TheVariants as value
use Rattle.hal_operations.specs.declared.part.Part.{Part}
use Rattle.hal_operations.specs.declared.part.Part.TheVariants as part
use Rattle.hal_operations.specs.Parts.{picked}
use Rattle.hal_sound_values.specs.Right.{IsRight, AreAlike, IsPart}
use Rattle.hal_sound_values.proofs.KindsKept.{picked_is}
use Rattle.hal_constants.specs.declared.constant.Constant.{Constant}
use Rattle.hal_constants.specs.declared.constant.Constant.TheVariants as constant
use Rattle.hal_constants.specs.Known.{known}
use Rattle.hal_constants.specs.Naming.{is_value_item, is_before, value_at, constant_known, constant_at, undeclared, constant_named}
use Rattle.hal_constants.specs.Operands.{has_components}
use Rattle.hal_constants.specs.Results.{worth, component, component_at, component_to, component_from, picked_one, picked_to, picked_from}
use Rattle.hal_fit_rules.proofs.Constants.{among_found, phrase_same}
use Rattle.hal_fit_names.specs.Suited.{class_of_value, Suits, AreDeclared}
use Rattle.hal_fit_names.proofs.Holding.{Holds, IsSane, held_sane, idle_suits, worse_left, worse_right, worth_suits, chosen, is_string_of}
use Rattle.hal_fit_names.proofs.RightKnown.{known_noted}

-- a phrase declares a constant that is this value, to which a path without names leads
pub record IsValueItem (q : Phrase) (path : List Naming) (v : Value) : Type 0 where
  pub common : List Attribute
  pub item : Declared
  pub declares : q.node ≡ OfItem common item
  pub alone : is_nil path ≡ true
  pub valued : is_value_item common item ≡ true
  pub type_ : Kind
  pub typed : type_of common item ≡ Some type_
  pub class_ : class_of_value v ≡ class_of_type type_
  pub right : IsRight v

-- a name means one in a block
pub record IsValueName (ps : List Phrase) (block : ℕ) (name : List ℕ) (path : List Naming) (v : Value) : Type 0 where
  pub number : ℕ
  pub meant : means ps block name ≡ Some number
  pub phrase : Phrase
  pub there : slice_get ps number ≡ Some phrase
  pub is : IsValueItem phrase path v

known_worth : (o : Option Value) (v : Value) → constant_known o ≡ constant.Worth v → o ≡ Some v
unfolding constant_known
known_worth None v is = absurd (cc)
known_worth (Some w) v is = ap Some (let same : w ≡ v = cc in same)

chosen_worth : (b : Bool) (c : Constant) (v : Value) → (if b then c else constant.Open) ≡ constant.Worth v → (b ≡ true) × (c ≡ constant.Worth v)
chosen_worth true c v is = (refl, is)
chosen_worth false c v is = absurd (cc)

undeclared_worth : (b : Bool) (v : Value) → (if b then constant.Open else constant.Unfit) ≡ constant.Worth v → ⊥
undeclared_worth true v is = cc
undeclared_worth false v is = cc

known_sane : (o : Option Value) → IsSane (constant_known o)
unfolding constant_known
known_sane None = tt
known_sane (Some v) = tt

sane_if : (b : Bool) (c d : Constant) → IsSane c → IsSane d → IsSane (if b then c else d)
sane_if true c d is also = is
sane_if false c d is also = also

named_builtin : (u : Usage) (o : Option Builtin) → elim o [ None ↦ false | Some b ↦ is_known u (form_of b) ] ≡ true → IsSane (if is_some o then constant.Open else constant.Unfit)
named_builtin u None is = absurd (cc)
named_builtin u (Some b) is = tt

module _ (ps : List Phrase) (counted : IsCounted ps) (p : Phrase) where
  pub node_value : (k : ℕ) (q : Phrase) (path : List Naming) (n : Node) (v : Value) → slice_get ps k ≡ Some q → constant_at ps (known ps) p q path n ≡ constant.Worth v → IsValueItem q path v
  unfolding constant_at
  node_value k q path (OfItem common item) v there is =
      let both = chosen_worth (is_nil path && (is_value_item common item && is_before ps p q)) (constant_known (value_at (known ps) q.number)) v is in
      let note = known_noted ps q.number v (known_worth (value_at (known ps) q.number) v both.1) in
      let found = among_found note.phrase ps note.among in
      let place : found.0 ≡ k = sym (counted found.0 note.phrase found.1) ∙ (note.number ∙ counted k q there) in
      let own : note.phrase ≡ q = phrase_same note.phrase q (sym found.1 ∙ (ap (slice_get ps) place ∙ there)) in
      record {
        common = note.common;
        item = note.item;
        declares = ap (λ (x : Phrase). x.node) (sym own) ∙ note.declares;
        alone = (and_parts (is_nil path) (is_value_item common item && is_before ps p q) both.0).0;
        valued = note.valued;
        type_ = note.type_;
        typed = note.typed;
        class_ = note.class_;
        right = note.right;
      }
  node_value k q path other v there is = absurd (cc)

  phrase_value : (name : List ℕ) (path : List Naming) (v : Value) (k : ℕ) (o : Option Phrase) → means ps p.around.block name ≡ Some k → slice_get ps k ≡ o
      → elim o [ None ↦ constant.Unfit | Some q ↦ constant_at ps (known ps) p q path q.node ] ≡ constant.Worth v → IsValueName ps p.around.block name path v
  phrase_value name path v k None meant there is = absurd (cc)
  phrase_value name path v k (Some q) meant there is = record { number = k; meant = meant; phrase = q; there = there; is = node_value k q path q.node v there is }

  meant_value : (name : List ℕ) (path : List Naming) (v : Value) (o : Option ℕ) → means ps p.around.block name ≡ o
      → elim o [ None ↦ undeclared name | Some k ↦ elim (slice_get ps k) [ None ↦ constant.Unfit | Some q ↦ constant_at ps (known ps) p q path q.node ] ] ≡ constant.Worth v → IsValueName ps p.around.block name path v
  meant_value name path v None meant is = absurd (undeclared_worth (is_some (builtin_named name)) v is)
  meant_value name path v (Some k) meant is = phrase_value name path v k (slice_get ps k) meant refl is

  -- a name that is worth a value
  pub named_value : (name : List ℕ) (path : List Naming) (v : Value) → constant_named ps (known ps) p name path ≡ constant.Worth v → IsValueName ps p.around.block name path v
  named_value name path v is = meant_value name path v (means ps p.around.block name) refl is

  pub node_sane : (q : Phrase) (path : List Naming) (n : Node) → IsSane (constant_at ps (known ps) p q path n)
  unfolding constant_at
  node_sane q path (OfItem common item) =
      sane_if (is_nil path && (is_value_item common item && is_before ps p q)) (constant_known (value_at (known ps) q.number)) constant.Open (known_sane (value_at (known ps) q.number)) tt
  node_sane q path other = tt

  meant_sane : (declared : AreDeclared ps) (name : List ℕ) (path : List Naming) (u : Usage) (o : Option ℕ) → means ps p.around.block name ≡ o → (is_some o || is_known_builtin name u) ≡ true
      → IsSane (elim o [ None ↦ undeclared name | Some k ↦ elim (slice_get ps k) [ None ↦ constant.Unfit | Some q ↦ constant_at ps (known ps) p q path q.node ] ])
  meant_sane declared name path u None meant is = named_builtin u (builtin_named name) is
  meant_sane declared name path u (Some k) meant is =
      let first = (declared p.around.block name k meant).1 in
      subst (λ (o : Option Phrase). IsSane (elim o [ None ↦ constant.Unfit | Some q ↦ constant_at ps (known ps) p q path q.node ])) (sym first.there) (node_sane first.declaring path first.declaring.node)

  -- a name that is known has no wrong operand
  pub named_sane : (declared : AreDeclared ps) (name : List ℕ) (path : List Naming) (u : Usage) → (is_some (means ps p.around.block name) || is_known_builtin name u) ≡ true
      → IsSane (constant_named ps (known ps) p name path)
  named_sane declared name path u is = meant_sane declared name path u (means ps p.around.block name) refl is

-- a single value of the class of this one
abbrev pub single : Value → Data
single v = data_with (class_of_value v) zero false

not_true : (b : Bool) → not b ≡ true → b ≡ false
not_true false is = refl
not_true true is = absurd (cc)

no_sizes : (o : Option Expressions) → is_some o ≡ false → o ≡ None
no_sizes None is = refl
no_sizes (Some sizes) is = absurd (cc)

uncopied : (t : Kind) → is_structure_type (Some t) ≡ false → has_copies t ≡ false
unfolding has_copies is_structure_type
uncopied (StructureKind place template copies) is = absurd (cc)
uncopied other is = refl

-- it is data for the checks
pub value_data : (ps : List Phrase) (q : Phrase) (path : List Naming) (v : Value) (is : IsValueItem q path v) → data_at ps q path (OfItem is.common is.item) ≡ Some (single v)
unfolding data_at is_nil data_of dimensions_of
value_data ps q [] v is =
    let parts = and_parts (is_some (attributes.constant_of is.common is.item)) (not (is_some (sizes_of is.common is.item)) && not (is_structure_type (type_of is.common is.item))) is.valued in
    let rest = and_parts (not (is_some (sizes_of is.common is.item))) (not (is_structure_type (type_of is.common is.item))) parts.1 in
    let plain : is_structure_type (Some is.type_) ≡ false = ap is_structure_type (sym is.typed) ∙ not_true (is_structure_type (type_of is.common is.item)) rest.1 in
    ap (data_of (type_of is.common is.item)) (no_sizes (sizes_of is.common is.item) (not_true (is_some (sizes_of is.common is.item)) rest.0))
    ∙ (ap (λ o. data_of o None) is.typed ∙ (ap (λ b. Some (data_with (class_of_type is.type_) zero b)) (uncopied is.type_ plain) ∙ ap (λ c. Some (data_with c zero false)) (sym is.class_)))
value_data ps q (n ∷ ns) v is = let other : false ≡ true = is.alone in absurd (cc)

pub in_class : (v : Value) (c : Choice) → class_in (single v) c ≡ class_of_value v
unfolding is_structure_class
in_class (value.Int a) c = refl
in_class (value.Bits len word) c = refl
in_class (value.Text text) c = refl

pub left_class : (v : Value) (c : Choice) → is_miscounted (single v) c ≡ false → class_left (single v) c ≡ Some (class_of_value v)
left_class v c is = ap (λ b. if b then None else Some (class_in (single v) c)) is ∙ ap Some (in_class v c)

-- components fit a value: there is none, or one of what has some
abbrev pub ComponentsFit : Value → Subscripts → Type 0
ComponentsFit v NoSubscripts = Unit {0}
ComponentsFit v (MoreSubscripts x NoSubscripts) = is_string (class_of_value v) ≡ true
ComponentsFit v (MoreSubscripts x (MoreSubscripts y others)) = ⊥

-- and so does a subscript
abbrev pub PartsFit : Value → Subscript → Type 0
PartsFit v Unsubscripted = Unit {0}
PartsFit v (ByName place name) = is_string (class_of_value v) ≡ true
PartsFit v (ByInteger place at number) = is_string (class_of_value v) ≡ true
PartsFit v (ByParts place copies arrays components) = (copies ≡ NoSubscripts) × (arrays ≡ NoSubscripts) × ComponentsFit v components

not_miscounted : (b : Bool) (o : Option ℕ) → (if b then Some 707 else o) ≡ None → (b ≡ false) × (o ≡ None)
not_miscounted true o is = absurd (cc)
not_miscounted false o is = (refl, is)

neither : (a b : Bool) → (a || b) ≡ false → (a ≡ false) × (b ≡ false)
neither false false is = (refl, refl)
neither true b is = absurd (cc)
neither false true is = absurd (cc)

one_of : (n : ℕ) → nat_lt 0 (suc n) ≡ true
one_of n = lt-ltb 0 (suc n) (omega arith)

no_copies : (copies : Subscripts) → (nat_lt 0 (subscript_count copies) && true) ≡ false → copies ≡ NoSubscripts
unfolding subscript_count
no_copies NoSubscripts is = refl
no_copies (MoreSubscripts x others) is = let some : true ≡ false = ap (λ b. b && true) (sym (one_of (subscript_count others))) ∙ is in absurd (cc)

no_arrays : (arrays : Subscripts) → (nat_lt 0 (subscript_count arrays) && not (subscript_count arrays == 0)) ≡ false → arrays ≡ NoSubscripts
unfolding subscript_count
no_arrays NoSubscripts is = refl
no_arrays (MoreSubscripts x others) is =
    let n : ℕ = subscript_count others in
    let some : true ≡ false = ap (λ b. b && true) (sym (one_of n)) ∙ (ap (λ b. nat_lt 0 (suc n) && not b) (sym (ne_eqb (suc n) 0 (λ same. omega (arith, same)))) ∙ is) in absurd (cc)

not_broken : (b : Bool) (rule : ℕ) → b ≡ true → (if b then Some rule else None) ≡ None → ⊥
not_broken true rule is none = cc
not_broken false rule is none = cc

one_component : (has : Bool) → component_fault has (kinds.choice 0 0 1 false false) ≡ None → has ≡ true
one_component true is = refl
one_component false is = absurd (cc)

components_fit : (v : Value) (eventful : Bool) (copies places : ℕ) (b c : Bool) (xs : Subscripts)
    → component_fault (is_string (class_of_value v) && not eventful) (kinds.choice copies places (subscript_count xs) b c) ≡ None → ComponentsFit v xs
unfolding subscript_count
components_fit v eventful copies places b c NoSubscripts is = tt
components_fit v eventful copies places b c (MoreSubscripts x NoSubscripts) is = by (is_string (class_of_value v)) eventful is where
  by : (string event : Bool) → component_fault (string && not event) (kinds.choice copies places 1 b c) ≡ None → string ≡ true
  by true event none = refl
  by false event none = absurd (cc)
components_fit v eventful copies places b c (MoreSubscripts x (MoreSubscripts y others)) is = by (is_string (class_of_value v) && not eventful) is where
  by : (has : Bool) → component_fault has (kinds.choice copies places (suc (suc (subscript_count others))) b c) ≡ None → ⊥
  by true none = not_broken (nat_lt 1 (suc (suc (subscript_count others)))) 707 (lt-ltb 1 (suc (suc (subscript_count others))) (omega arith)) none
  by false none = not_broken (nat_lt 0 (suc (suc (subscript_count others)))) 721 (one_of (suc (subscript_count others))) none

-- a subscript that breaks no rule chooses of a value what is of its class
pub parts_fit : (v : Value) (x : Subscript) (eventful : Bool) → choice_fault eventful (single v) (choice_of false x) ≡ None → (class_left (single v) (choice_of false x) ≡ Some (class_of_value v)) × PartsFit v x
unfolding choice_of parts_chosen
parts_fit v Unsubscripted eventful is = (left_class v (kinds.choice 0 0 0 false false) refl, tt)
parts_fit v (ByName place name) eventful is =
    (left_class v (kinds.choice 0 0 1 false false) refl, (and_parts (is_string (class_of_value v)) (not eventful) (one_component (is_string (class_of_value v) && not eventful) is)).0)
parts_fit v (ByInteger place at number) eventful is =
    (left_class v (kinds.choice 0 0 1 false false) refl, (and_parts (is_string (class_of_value v)) (not eventful) (one_component (is_string (class_of_value v) && not eventful) is)).0)
parts_fit v (ByParts place copies arrays components) eventful is =
    let c : Choice = kinds.choice (subscript_count copies) (subscript_count arrays) (subscript_count components) (kinds.are_many copies) (kinds.are_many arrays) in
    let both = not_miscounted (is_miscounted (single v) c) (component_fault (is_string (class_of_value v) && not eventful) c) is in
    let none = neither (miscopied (single v) c) (misplaced (single v) c) both.0 in (
      left_class v c both.0,
      (
        no_copies copies none.0,
        no_arrays arrays none.1,
        components_fit v eventful (subscript_count copies) (subscript_count arrays) (kinds.are_many copies) (kinds.are_many arrays) components both.1,
      ),
    )

-- components of a string
alike_class : (v w : Value) → AreAlike v w → class_of_value w ≡ class_of_value v
alike_class (value.Int a) (value.Int b) is = refl
alike_class (value.Bits m x) (value.Bits n y) is = refl
alike_class (value.Text x) (value.Text y) is = refl
alike_class (value.Int a) (value.Bits n y) is = absurd is
alike_class (value.Int a) (value.Text y) is = absurd is
alike_class (value.Bits m x) (value.Int b) is = absurd is
alike_class (value.Bits m x) (value.Text y) is = absurd is
alike_class (value.Text x) (value.Int b) is = absurd is
alike_class (value.Text x) (value.Bits n y) is = absurd is

part_class : (v w : Value) (pt : Part) → IsRight v → IsPart pt v w → IsRight w × (class_of_value w ≡ class_of_value v)
part_class (value.Int a) w pt right is = (subst IsRight (sym is) right, ap class_of_value is)
part_class (value.Bits len word) w pt right is = (is.0.right, alike_class (value.Bits len word) w is.0.alike)
part_class (value.Text text) w pt right is = (is.0.right, alike_class (value.Text text) w is.0.alike)

parted : (v : Value) (pt : Part) (r : Result Value ErrNo) → IsRight v → IfOk r (IsPart pt v) → IfOk r IsRight × IfOk r (λ w. class_of_value w ≡ class_of_value v)
parted v pt (Ok w) right is = part_class v w pt right is
parted v pt (Err e) right is = (tt, tt)

string_has : (v : Value) → IsRight v → is_string (class_of_value v) ≡ true → has_components v ≡ true
unfolding is_string has_components
string_has (value.Int a) right is = absurd (cc)
string_has (value.Bits len word) right is = is_string_of len word right
string_has (value.Text text) right is = refl

pub component_suits : (v : Value) (pt : Part) → IsRight v → is_string (class_of_value v) ≡ true → Suits (Some (class_of_value v)) (component v pt)
component_suits v pt right is =
    let both = parted v pt (picked v pt) right (picked_is v pt right) in
    subst (Suits (Some (class_of_value v))) (sym (chosen (has_components v) (worth (picked v pt)) constant.Unfit (string_has v right is))) (worth_suits (class_of_value v) (picked v pt) both.0 both.1)

pub one_picks : (v : Value) (c : Constant) → IsRight v → is_string (class_of_value v) ≡ true → Holds want.Integer c → Suits (Some (class_of_value v)) (picked_one v c)
unfolding picked_one component_at
one_picks v (constant.Worth (value.Int i)) right is holds = component_suits v (part.One i) right is
one_picks v (constant.Worth (value.Bits len word)) right is holds = let other = holds.1 in absurd (cc)
one_picks v (constant.Worth (value.Text text)) right is holds = let other = holds.1 in absurd (cc)
one_picks v constant.Failed right is holds = tt
one_picks v constant.Open right is holds = tt
one_picks v constant.Unfit right is holds = absurd holds

pub to_picks : (v : Value) (c d : Constant) → IsRight v → is_string (class_of_value v) ≡ true → Holds want.Integer c → Holds want.Integer d → Suits (Some (class_of_value v)) (picked_to v c d)
unfolding picked_to component_to
to_picks v (constant.Worth (value.Int i)) (constant.Worth (value.Int j)) right is holds also = component_suits v (part.To i j) right is
to_picks v (constant.Worth (value.Bits len word)) d right is holds also = let other = holds.1 in absurd (cc)
to_picks v (constant.Worth (value.Text text)) d right is holds also = let other = holds.1 in absurd (cc)
to_picks v (constant.Worth (value.Int i)) (constant.Worth (value.Bits len word)) right is holds also = let other = also.1 in absurd (cc)
to_picks v (constant.Worth (value.Int i)) (constant.Worth (value.Text text)) right is holds also = let other = also.1 in absurd (cc)
to_picks v (constant.Worth (value.Int i)) constant.Failed right is holds also = idle_suits _ _ (worse_right (constant.Worth (value.Int i)) constant.Failed tt tt)
to_picks v (constant.Worth (value.Int i)) constant.Open right is holds also = idle_suits _ _ (worse_right (constant.Worth (value.Int i)) constant.Open tt tt)
to_picks v (constant.Worth (value.Int i)) constant.Unfit right is holds also = absurd also
to_picks v constant.Failed d right is holds also = idle_suits _ _ (worse_left constant.Failed d tt (held_sane want.Integer d also))
to_picks v constant.Open d right is holds also = idle_suits _ _ (worse_left constant.Open d tt (held_sane want.Integer d also))
to_picks v constant.Unfit d right is holds also = absurd holds

pub from_picks : (v : Value) (c d : Constant) → IsRight v → is_string (class_of_value v) ≡ true → Holds want.Integer c → Holds want.Integer d → Suits (Some (class_of_value v)) (picked_from v c d)
unfolding picked_from component_from
from_picks v (constant.Worth (value.Int i)) (constant.Worth (value.Int j)) right is holds also = component_suits v (part.At i j) right is
from_picks v (constant.Worth (value.Bits len word)) d right is holds also = let other = holds.1 in absurd (cc)
from_picks v (constant.Worth (value.Text text)) d right is holds also = let other = holds.1 in absurd (cc)
from_picks v (constant.Worth (value.Int i)) (constant.Worth (value.Bits len word)) right is holds also = let other = also.1 in absurd (cc)
from_picks v (constant.Worth (value.Int i)) (constant.Worth (value.Text text)) right is holds also = let other = also.1 in absurd (cc)
from_picks v (constant.Worth (value.Int i)) constant.Failed right is holds also = idle_suits _ _ (worse_right (constant.Worth (value.Int i)) constant.Failed tt tt)
from_picks v (constant.Worth (value.Int i)) constant.Open right is holds also = idle_suits _ _ (worse_right (constant.Worth (value.Int i)) constant.Open tt tt)
from_picks v (constant.Worth (value.Int i)) constant.Unfit right is holds also = absurd also
from_picks v constant.Failed d right is holds also = idle_suits _ _ (worse_left constant.Failed d tt (held_sane want.Integer d also))
from_picks v constant.Open d right is holds also = idle_suits _ _ (worse_left constant.Open d tt (held_sane want.Integer d also))
from_picks v constant.Unfit d right is holds also = absurd holds
