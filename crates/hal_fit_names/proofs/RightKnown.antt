-- What is known of a phrase is a right value of the class of its type.
use Rattle.std.proofs.Common.{◌≡◌, ℕ, zero, suc, Bool, true, false, ◌&&◌, ◌⊎◌, List, [], ◌∷◌, length, Option, Some, None, refl, sym, ap, ◌∙◌, subst, inl, inr}
use Rattle.std.specs.Prelude.{◌==◌, nat_le, replicate, slice_set, if◌then◌else◌, Result, Ok, Err, IfOk}
use Rattle.std.proofs.lemmas.Bool.{and_parts, leb-true}
use Rattle.hal_grammar.specs.Declarations.{Kind, IntegerKind, BooleanKind, EventKind, BitKind, CharacterKind, StructureKind, Double, Attribute, Declared, Initial, Value as InitialValue, LiteralTimes, NameTimes, ListTimes, Initials, NoInitials, MoreInitials}
use Rattle.hal_phrases.specs.Phrases.{Node, Phrase, OfItem}
use Rattle.hal_scope.specs.Rules.{IsAmong}
use Rattle.hal_scope.specs.Sorts.{type_of}
use Rattle.hal_kinds.specs.declared.class.Class.{Class}
use Rattle.hal_kinds.specs.declared.class.Class.TheVariants as class
use Rattle.hal_kinds.specs.Attributes as attributes
use Rattle.hal_kinds.specs.Data.{class_of_type}
use Rattle.hal_values.specs.Kinds.{IsKind, IsOfKind}
use Rattle.hal_values.specs.declared.environment.ErrNo.{ErrNo}
use Rattle.hal_values.specs.declared.value.Kind as values
use Rattle.hal_values.specs.declared.value.Kind.TheVariants as kind
use Rattle.hal_values.specs.declared.value.Value.{Value}
use Rattle.hal_values.specs.declared.value.Value.TheVariants as value
use Rattle.hal_operations.specs.Operands.{IsStorable}
use Rattle.hal_operations.specs.Stores.{stored}
use Rattle.hal_sound_values.specs.Right.{IsRight}
use Rattle.hal_sound_values.proofs.KindsKept.{stored_is, right_is}
use Rattle.hal_constants.specs.declared.constant.Constant.{Constant}
use Rattle.hal_constants.specs.declared.constant.Constant.TheVariants as constant
use Rattle.hal_constants.specs.Constants.{constant_of}
use Rattle.hal_constants.specs.Known.{Known, size_of, bits_kind, text_kind, kind_of, kind_of_type, kind_of_item, kept, fitted, gives_none, only_of, only_with, only_in, signed_literal, signed_name, declared_value, noted, round, starts_round, rounds, nothing_known, known}
use Rattle.hal_constants.specs.Naming.{is_value_item, value_at, literal_constant, constant_named}
use Rattle.hal_constants.specs.Operands.{is_storable, is_string}
use Rattle.hal_fit_names.specs.Suited.{class_of_value}
use Rattle.hal_fit_names.proofs.Loose.{IsLoose, IsLooseConstant, AreLoose, right_loose, string_is, literal_loose, signed_loose, named_loose, constant_loose}

-- a phrase declares a constant that is its value, this right one of the class of its type
pub record IsNoted (ps : List Phrase) (k : ℕ) (v : Value) : Type 0 where
  pub phrase : Phrase
  pub among : IsAmong phrase ps
  pub number : phrase.number ≡ k
  pub common : List Attribute
  pub item : Declared
  pub declares : phrase.node ≡ OfItem common item
  pub valued : is_value_item common item ≡ true
  pub type_ : Kind
  pub typed : type_of common item ≡ Some type_
  pub class_ : class_of_value v ≡ class_of_type type_
  pub right : IsRight v

abbrev pub AllNoted : List Phrase → Known → Type 0
AllNoted ps vs = (k : ℕ) (v : Value) → value_at vs k ≡ Some v → IsNoted ps k v

noted_loose : (ps : List Phrase) (vs : Known) → AllNoted ps vs → AreLoose vs
noted_loose ps vs all k v is = right_loose v (all k v is).right

-- initial values
times_loose : (b : Bool) (c : Constant) → IsLooseConstant c → IsLooseConstant (if b then c else constant.Unfit)
times_loose true c is = is
times_loose false c is = tt

more_loose : (none one : Bool) (c d : Constant) → IsLooseConstant c → IsLooseConstant d → IsLooseConstant (if none then c else if one then constant.Unfit else d)
more_loose true one c d is also = is
more_loose false true c d is also = tt
more_loose false false c d is also = also

module _ (ps : List Phrase) (vs : Known) (loose : AreLoose vs) (p : Phrase) where
  mutual
    unfolding only_of only_with

    only_loose : (x : Initial) → IsLooseConstant (only_of ps vs p x)
    only_loose (InitialValue tree) = constant_loose ps vs loose p tree
    only_loose (LiteralTimes place count sign at literal) = times_loose (count == 1) (signed_literal sign literal) (signed_loose sign (literal_constant literal) (literal_loose literal))
    only_loose (NameTimes place count sign name) = times_loose (count == 1) (signed_name ps vs p sign name) (signed_loose sign (constant_named ps vs p name.name []) (named_loose ps vs loose p name.name []))
    only_loose (ListTimes place count list) = times_loose (count == 1) (only_with ps vs p constant.Unfit false list) (with_loose constant.Unfit false list tt)

    with_loose : (c : Constant) (one : Bool) (xs : Initials) → IsLooseConstant c → IsLooseConstant (only_with ps vs p c one xs)
    with_loose c one NoInitials is = is
    with_loose c one (MoreInitials first others) is = more_loose (gives_none first) one (only_with ps vs p c one others) (only_with ps vs p (only_of ps vs p first) true others) (with_loose c one others is) (with_loose (only_of ps vs p first) true others (only_loose first))

  in_loose : (o : Option Initials) → IsLooseConstant (only_in ps vs p o)
  unfolding only_in
  in_loose None = tt
  in_loose (Some list) = with_loose constant.Unfit false list tt

-- the class of the values that cells of a kind hold
abbrev class_of_kind : values.Kind → Class
class_of_kind kind.Single = class.Integer
class_of_kind kind.Double = class.Integer
class_of_kind (kind.Bits n) = class.Bits
class_of_kind (kind.Text n) = class.Text

value_of_kind : (k : values.Kind) (v : Value) → IsOfKind k v → class_of_value v ≡ class_of_kind k
value_of_kind kind.Single (value.Int a) is = refl
value_of_kind kind.Double (value.Int a) is = refl
value_of_kind (kind.Bits n) (value.Bits len word) is = refl
value_of_kind (kind.Text n) (value.Text text) is = refl
value_of_kind kind.Single (value.Bits len word) is = absurd is
value_of_kind kind.Single (value.Text text) is = absurd is
value_of_kind kind.Double (value.Bits len word) is = absurd is
value_of_kind kind.Double (value.Text text) is = absurd is
value_of_kind (kind.Bits n) (value.Int a) is = absurd is
value_of_kind (kind.Bits n) (value.Text text) is = absurd is
value_of_kind (kind.Text n) (value.Int a) is = absurd is
value_of_kind (kind.Text n) (value.Bits len word) is = absurd is

integer_kind : (double : Bool) (k : values.Kind) → Some (if double then kind.Double else kind.Single) ≡ Some k → class.Integer ≡ class_of_kind k
integer_kind true k is = ap class_of_kind (let same : kind.Double ≡ k = cc in same)
integer_kind false k is = ap class_of_kind (let same : kind.Single ≡ k = cc in same)

bit_kind : (o : Option ℕ) (k : values.Kind) → bits_kind o ≡ Some k → class.Bits ≡ class_of_kind k
unfolding bits_kind
bit_kind None k is = absurd (cc)
bit_kind (Some n) k is = ap class_of_kind (let same : kind.Bits n ≡ k = cc in same)

text_of_kind : (o : Option ℕ) (k : values.Kind) → text_kind o ≡ Some k → class.Text ≡ class_of_kind k
unfolding text_kind
text_of_kind None k is = absurd (cc)
text_of_kind (Some n) k is = ap class_of_kind (let same : kind.Text n ≡ k = cc in same)

one_bit : (k : values.Kind) → Some (kind.Bits 1) ≡ Some k → class.Bits ≡ class_of_kind k
one_bit k is = ap class_of_kind (let same : kind.Bits 1 ≡ k = cc in same)

type_kind : (ps : List Phrase) (vs : Known) (p : Phrase) (double : Bool) (t : Kind) (k : values.Kind) → kind_of ps vs p double t ≡ Some k → class_of_type t ≡ class_of_kind k
unfolding kind_of class_of_type
type_kind ps vs p double (IntegerKind place) k is = integer_kind double k is
type_kind ps vs p double (BooleanKind place) k is = one_bit k is
type_kind ps vs p double (EventKind place) k is = one_bit k is
type_kind ps vs p double (BitKind place size) k is = bit_kind (size_of 32 (constant_of ps vs p size)) k is
type_kind ps vs p double (CharacterKind place size) k is = text_of_kind (size_of 255 (constant_of ps vs p size)) k is
type_kind ps vs p double (StructureKind place template copies) k is = absurd (cc)

-- what is stored in a cell that takes it
storable : (k : values.Kind) (w : Value) → is_storable k w ≡ true → IsLoose w → IsRight w × IsStorable k w × IsKind k
unfolding is_storable
storable kind.Single (value.Int a) can loose = (loose, tt, tt)
storable kind.Double (value.Int a) can loose = (loose, tt, tt)
storable (kind.Bits n) (value.Bits len word) can loose =
    let first = and_parts (nat_le 1 n) (nat_le n 32 && is_string len word) can in
    let second = and_parts (nat_le n 32) (is_string len word) first.1 in
    let string = string_is len word second.1 in
    (string, (leb-true 1 n first.0, leb-true n 32 second.0, string), (leb-true 1 n first.0, leb-true n 32 second.0))
storable (kind.Text n) (value.Int a) can loose =
    let both = and_parts (nat_le 1 n) (nat_le n 255) can in
    (loose, (leb-true 1 n both.0, leb-true n 255 both.1), (leb-true 1 n both.0, leb-true n 255 both.1))
storable (kind.Text n) (value.Text text) can loose =
    let both = and_parts (nat_le 1 n) (nat_le n 255) can in
    (loose, (leb-true 1 n both.0, leb-true n 255 both.1), (leb-true 1 n both.0, leb-true n 255 both.1))
storable kind.Single (value.Bits len word) can loose = absurd (cc)
storable kind.Single (value.Text text) can loose = absurd (cc)
storable kind.Double (value.Bits len word) can loose = absurd (cc)
storable kind.Double (value.Text text) can loose = absurd (cc)
storable (kind.Bits n) (value.Int a) can loose = absurd (cc)
storable (kind.Bits n) (value.Text text) can loose = absurd (cc)
storable (kind.Text n) (value.Bits len word) can loose = absurd (cc)

kept_value : (k : values.Kind) (r : Result Value ErrNo) (v : Value) → IfOk r (IsOfKind k) → kept r ≡ Some v → IsOfKind k v
unfolding kept
kept_value k (Ok w) v is same = subst (IsOfKind k) (let one : w ≡ v = cc in one) is
kept_value k (Err e) v is same = absurd (cc)

chosen_some : {X : Type 0} (b : Bool) (o : Option X) (x : X) → (if b then o else None) ≡ Some x → (b ≡ true) × (o ≡ Some x)
chosen_some true o x is = (refl, is)
chosen_some false o x is = absurd (cc)

-- a value that is fitted to a kind
fitted_value : (o : Option values.Kind) (c : Constant) (v : Value) → IsLooseConstant c → fitted o c ≡ Some v → (k : values.Kind) × (o ≡ Some k) × IsRight v × (class_of_value v ≡ class_of_kind k)
unfolding fitted
fitted_value (Some k) (constant.Worth w) v loose is =
    let both = chosen_some (is_storable k w) (kept (stored k w)) v is in
    let can = storable k w both.0 loose in
    let of_kind = kept_value k (stored k w) v (stored_is k w can.0 can.1) both.1 in
    (k, refl, right_is k v can.2 of_kind, value_of_kind k v of_kind)
fitted_value (Some k) constant.Open v loose is = absurd (cc)
fitted_value (Some k) constant.Failed v loose is = absurd (cc)
fitted_value (Some k) constant.Unfit v loose is = absurd (cc)
fitted_value None (constant.Worth w) v loose is = absurd (cc)
fitted_value None constant.Open v loose is = absurd (cc)
fitted_value None constant.Failed v loose is = absurd (cc)
fitted_value None constant.Unfit v loose is = absurd (cc)

-- a type of which a kind is known
typed_by : (ps : List Phrase) (vs : Known) (p : Phrase) (double : Bool) (o : Option Kind) (k : values.Kind) → kind_of_type ps vs p double o ≡ Some k → (t : Kind) × (o ≡ Some t) × (class_of_type t ≡ class_of_kind k)
unfolding kind_of_type
typed_by ps vs p double None k is = absurd (cc)
typed_by ps vs p double (Some t) k is = (t, refl, type_kind ps vs p double t k is)

declared_noted : (ps : List Phrase) (vs : Known) → AllNoted ps vs → (p : Phrase) → IsAmong p ps → (n : Node) → p.node ≡ n → (v : Value) → declared_value ps vs p n ≡ Some v → IsNoted ps p.number v
unfolding declared_value
declared_noted ps vs all p within (OfItem common item) same v is =
    let both = chosen_some (is_value_item common item) (fitted (kind_of_item ps vs p common item) (only_in ps vs p (attributes.constant_of common item))) v is in
    let fit = fitted_value (kind_of_item ps vs p common item) (only_in ps vs p (attributes.constant_of common item)) v (in_loose ps vs (noted_loose ps vs all) p (attributes.constant_of common item)) both.1 in
    let typed_ = typed_by ps vs p (attributes.is_marked Double common item) (type_of common item) fit.0 fit.1 in
    record {
      phrase = p;
      among = within;
      number = refl;
      common = common;
      item = item;
      declares = same;
      valued = both.0;
      type_ = typed_.0;
      typed = typed_.1;
      class_ = fit.3 ∙ sym typed_.2;
      right = fit.2;
    }
declared_noted ps vs all p within other same v is = absurd (cc)

-- with another value at one place
set_value : (vs : Known) (n : ℕ) (o : Option Value) (k : ℕ) (v : Value) → value_at (slice_set vs n o) k ≡ Some v → (value_at vs k ≡ Some v) ⊎ ((n ≡ k) × (o ≡ Some v))
set_value [] n o k v is = inl is
set_value (x ∷ vs) zero o zero v is = inr (refl, is)
set_value (x ∷ vs) zero o (suc k) v is = inl is
set_value (x ∷ vs) (suc n) o zero v is = inl is
set_value (x ∷ vs) (suc n) o (suc k) v is = further (set_value vs n o k v is) where
  further : (value_at vs k ≡ Some v) ⊎ ((n ≡ k) × (o ≡ Some v)) → (value_at vs k ≡ Some v) ⊎ ((suc n ≡ suc k) × (o ≡ Some v))
  further (inl same) = inl same
  further (inr here) = inr (ap suc here.0, here.1)

one_noted : (ps : List Phrase) (vs : Known) (p : Phrase) → IsAmong p ps → AllNoted ps vs → AllNoted ps (noted ps vs p)
one_noted ps vs p within all k v is = by (set_value vs p.number (declared_value ps vs p p.node) k v is) where
  by : (value_at vs k ≡ Some v) ⊎ ((p.number ≡ k) × (declared_value ps vs p p.node ≡ Some v)) → IsNoted ps k v
  by (inl same) = all k v same
  by (inr here) = subst (λ n. IsNoted ps n v) here.0 (declared_noted ps vs all p within p.node refl v here.1)

round_noted : (ps : List Phrase) (vs : Known) (rest : List Phrase) → ((p : Phrase) → IsAmong p rest → IsAmong p ps) → AllNoted ps vs → AllNoted ps (round ps vs rest)
unfolding round
round_noted ps vs [] within all = all
round_noted ps vs (p ∷ rest) within all = round_noted ps (noted ps vs p) rest (λ q later. within q (inr later)) (one_noted ps vs p (within p (inl refl)) all)

rounds_by : (ps : List Phrase) (file : Bool) (vs ws : Known) → AllNoted ps vs → AllNoted ps ws → AllNoted ps (if file then vs else ws)
rounds_by ps true vs ws first second = first
rounds_by ps false vs ws first second = second

rounds_noted : (ps : List Phrase) (vs : Known) (rest : List Phrase) → AllNoted ps vs → AllNoted ps (rounds ps vs rest)
unfolding rounds
rounds_noted ps vs [] all = all
rounds_noted ps vs (p ∷ rest) all =
    rounds_by ps (starts_round ps p) (rounds ps (round ps vs ps) rest) (rounds ps vs rest) (rounds_noted ps (round ps vs ps) rest (round_noted ps vs ps (λ q within. within) all)) (rounds_noted ps vs rest all)

nothing_noted : (n k : ℕ) (v : Value) → value_at (replicate n None) k ≡ Some v → ⊥
nothing_noted zero k v is = absurd (cc)
nothing_noted (suc n) zero v is = absurd (cc)
nothing_noted (suc n) (suc k) v is = nothing_noted n k v is

pub known_noted : (ps : List Phrase) → AllNoted ps (known ps)
known_noted ps = rounds_noted ps (nothing_known ps) ps (λ k v is. absurd (nothing_noted (length ps) k v is))
