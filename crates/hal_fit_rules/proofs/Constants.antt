-- Names of constants that the unit itself declares agree: what is known of a constant is a value of its type.
use Rattle.std.proofs.Common.{◌≡◌, ℕ, zero, suc, nat_le, nat_lt, ◌^◌, ℤ, pos, Bool, true, false, not, ◌&&◌, List, [], ◌∷◌, length, replicate, Option, Some, None, Result, Ok, Err, slice_get, slice_set, inl, inr, ◌⊎◌, if◌then◌else◌, refl, sym, ap, ◌∙◌, subst}
use Rattle.std.specs.Prelude.{unwrap_or}
use Rattle.std.specs.Option.{is_some}
use Rattle.std.proofs.lemmas.Bool.{and_from, and_parts, lt-ltb}
use Rattle.hal_grammar.specs.Declarations.{Kind, IntegerKind, BooleanKind, EventKind, BitKind, CharacterKind, StructureKind, Double}
use Rattle.hal_grammar.specs.Expressions.{Expressions}
use Rattle.hal_phrases.specs.Phrases.{Phrase, OfItem}
use Rattle.hal_names.specs.Laws.{IsCounted}
use Rattle.hal_names.specs.Means.{means}
use Rattle.hal_scope.specs.Rules.{IsAmong}
use Rattle.hal_scope.specs.Sorts.{type_of}
use Rattle.hal_scope.specs.Uses.{is_nil}
use Rattle.hal_kinds.specs.Attributes as attributes
use Rattle.hal_kinds.specs.Attributes.{sizes_of}
use Rattle.hal_kinds.specs.Data.{class_of_type, has_copies, dimensions_of, data_of, data_with, data_at, is_event_type, is_structure_type}
use Rattle.hal_values.specs.declared.environment.ErrNo.{ErrNo}
use Rattle.hal_values.specs.declared.value.Kind as values
use Rattle.hal_values.specs.declared.value.Kind.TheVariants as kind
use Rattle.hal_values.specs.declared.value.Value.{Value}
use Rattle.hal_values.specs.declared.value.Value.TheVariants as value
use Rattle.hal_values.specs.Kinds.{IsBits}
use Rattle.hal_operations.specs.Integers.{single, integer, ranged}
use Rattle.hal_operations.specs.Stores.{stored}
use Rattle.hal_operations.specs.Strings.{bits_of}
use Rattle.hal_sound_values.proofs.RightStrings.{fitted_is_bits}
use Rattle.hal_constants.specs.declared.constant.Constant.{Constant}
use Rattle.hal_constants.specs.declared.constant.Constant.TheVariants as constant
use Rattle.hal_constants.specs.Known.{Known, kind_of_item, kind_of_type, kept, fitted, only_in, declared_value, noted, round, rounds, starts_round, nothing_known, known}
use Rattle.hal_constants.specs.Naming.{is_value_item, value_at}
use Rattle.hal_constants.specs.Operands.{is_storable, is_string}
use Rattle.hal_meaning.specs.Bodies.{standing_for}
use Rattle.hal_meaning.specs.Variables.{MeantConstant, meant_by, name_meant}
use Rattle.hal_code.specs.Sorts.{Sort, I, B, T, sort_of}
use Rattle.hal_agreement.specs.Sites.{Site, here_at}
use Rattle.hal_fit_expr.specs.Uses.{Uses}
use Rattle.hal_fit_expr.specs.Sorted.{sort_of_value, sort_of_meant}
use Rattle.hal_fit_classes.specs.Kinded.{sort_of_class}
use Rattle.hal_fit_rules.specs.Agreeing.{IsSingle, NameAgrees, FormAgrees}
use Rattle.hal_fit_rules.specs.Owned.{IsOwn}
use Rattle.hal_fit_rules.specs.Valued.{HasConstants, IsConstantItem}
use Rattle.hal_fit_rules.proofs.Calling.{formed_as}
use Rattle.hal_fit_rules.proofs.Declaring.{agrees_as, cells_of_type, meant_standing}
use Rattle.hal_fit_rules.proofs.Happening.{when_true}

-- what a cell keeps of a value has the sort of the cell's kind
integer_kept : (r : Result ℤ ErrNo) (v : Value) → kept (integer r) ≡ Some v → sort_of_value v ≡ Some I
unfolding kept
integer_kept (Ok a) v is = ap sort_of_value (let same : v ≡ value.Int a = cc in same)
integer_kept (Err e) v is = absurd (cc)

bits_ranged : (n : ℕ) (v : Value) → IsBits n v → (nat_le 1 n && nat_le n 32) ≡ true → sort_of_value v ≡ Some B
bits_ranged n (value.Bits len word) is ranged_ =
    ap (λ b. if b then Some B else None)
    (and_from (nat_le 1 len && nat_le len 32) (nat_lt word (2 ^ len)) (ap (λ k. nat_le 1 k && nat_le k 32) is.0 ∙ ranged_)
    (ap (λ k. nat_lt word (2 ^ k)) is.0 ∙ lt-ltb word (2 ^ n) is.1))
bits_ranged n (value.Int a) is ranged_ = absurd is
bits_ranged n (value.Text text) is ranged_ = absurd is

text_kept : (bytes : List ℕ) (v : Value) → ◌≡◌ {A = Option Value} (Some (value.Text bytes)) (Some v) → sort_of_value v ≡ Some T
text_kept bytes v is = ap sort_of_value (let same : v ≡ value.Text bytes = cc in same)

value_same : (v w : Value) → Some w ≡ Some v → w ≡ v
value_same v w is = cc

within_both : (a b c : Bool) → a && (b && c) ≡ true → (a && b) ≡ true
within_both true true c is = refl
within_both true false c is = absurd (cc)
within_both false b c is = absurd (cc)

kept_sorted : (k : values.Kind) (w v : Value) → is_storable k w ≡ true → kept (stored k w) ≡ Some v → sort_of_value v ≡ Some (sort_of k)
unfolding is_storable kept
kept_sorted kind.Single (value.Int a) v can is = integer_kept (ranged single a) v is
kept_sorted kind.Double (value.Int a) v can is = ap sort_of_value (sym (value_same v (value.Int a) is))
kept_sorted (kind.Bits n) (value.Bits len word) v can is =
    bits_ranged n v (subst (λ (x : Value). IsBits n x) (value_same v _ is) (fitted_is_bits n (bits_of len word))) (within_both (nat_le 1 n) (nat_le n 32) (is_string len word) can)
kept_sorted (kind.Text n) (value.Int a) v can is = text_kept _ v is
kept_sorted (kind.Text n) (value.Text text) v can is = text_kept _ v is
kept_sorted kind.Single (value.Bits len word) v can is = absurd (cc)
kept_sorted kind.Single (value.Text text) v can is = absurd (cc)
kept_sorted kind.Double (value.Bits len word) v can is = absurd (cc)
kept_sorted kind.Double (value.Text text) v can is = absurd (cc)
kept_sorted (kind.Bits n) (value.Int a) v can is = absurd (cc)
kept_sorted (kind.Bits n) (value.Text text) v can is = absurd (cc)
kept_sorted (kind.Text n) (value.Bits len word) v can is = absurd (cc)

chosen_kept : (can : Bool) (o : Option Value) (v : Value) → (if can then o else None) ≡ Some v → (can ≡ true) × (o ≡ Some v)
chosen_kept true o v is = (refl, is)
chosen_kept false o v is = absurd (cc)

-- a value that is fitted to a type has the sort of its class
fitted_sorted : (o : Option values.Kind) (c : Constant) (v : Value) (s : Sort) → fitted o c ≡ Some v → ((k : values.Kind) → o ≡ Some k → sort_of k ≡ s) → sort_of_value v ≡ Some s
unfolding fitted
fitted_sorted (Some k) (constant.Worth w) v s is sorted =
    let both = chosen_kept (is_storable k w) (kept (stored k w)) v is in
    kept_sorted k w v both.0 both.1 ∙ ap (λ (t : Sort). Some t) (sorted k refl)
fitted_sorted (Some k) constant.Open v s is sorted = absurd (cc)
fitted_sorted (Some k) constant.Failed v s is sorted = absurd (cc)
fitted_sorted (Some k) constant.Unfit v s is sorted = absurd (cc)
fitted_sorted None (constant.Worth w) v s is sorted = absurd (cc)
fitted_sorted None constant.Open v s is sorted = absurd (cc)
fitted_sorted None constant.Failed v s is sorted = absurd (cc)
fitted_sorted None constant.Unfit v s is sorted = absurd (cc)

-- a phrase declares this value, by what was known at some time
record IsNoted (ps : List Phrase) (k : ℕ) (v : Value) : Type 0 where
  phrase : Phrase
  among : IsAmong phrase ps
  number : phrase.number ≡ k
  before : Known
  declared : declared_value ps before phrase phrase.node ≡ Some v

abbrev AllNoted : List Phrase → Known → Type 0
AllNoted ps vs = (k : ℕ) (v : Value) → value_at vs k ≡ Some v → IsNoted ps k v

-- with another value at one place
set_value : (vs : Known) (n : ℕ) (o : Option Value) (k : ℕ) (v : Value) → value_at (slice_set vs n o) k ≡ Some v → (value_at vs k ≡ Some v) ⊎ ((n ≡ k) × (o ≡ Some v))
set_value [] n o k v is = inl is
set_value (x ∷ vs) zero o zero v is = inr (refl, is)
set_value (x ∷ vs) zero o (suc k) v is = inl is
set_value (x ∷ vs) (suc n) o zero v is = inl is
set_value (x ∷ vs) (suc n) o (suc k) v is = further (set_value vs n o k v is) where
  further : (value_at vs k ≡ Some v) ⊎ ((n ≡ k) × (o ≡ Some v)) → (value_at vs k ≡ Some v) ⊎ ((suc n ≡ suc k) × (o ≡ Some v))
  further (inl same) = inl same
  further (inr here) = inr (ap suc here.0, here.1)

one_noted : (ps : List Phrase) (vs : Known) (p : Phrase) → IsAmong p ps → AllNoted ps vs → AllNoted ps (noted ps vs p)
one_noted ps vs p among_ all k v is = by (set_value vs p.number (declared_value ps vs p p.node) k v is) where
  by : (value_at vs k ≡ Some v) ⊎ ((p.number ≡ k) × (declared_value ps vs p p.node ≡ Some v)) → IsNoted ps k v
  by (inl same) = all k v same
  by (inr here) = record { phrase = p; among = among_; number = here.0; before = vs; declared = here.1 }

round_noted : (ps : List Phrase) (vs : Known) (rest : List Phrase) → ((p : Phrase) → IsAmong p rest → IsAmong p ps) → AllNoted ps vs → AllNoted ps (round ps vs rest)
unfolding round
round_noted ps vs [] within all = all
round_noted ps vs (p ∷ rest) within all = round_noted ps (noted ps vs p) rest (λ q later. within q (inr later)) (one_noted ps vs p (within p (inl refl)) all)

rounds_by : (ps : List Phrase) (file : Bool) (vs ws : Known) → AllNoted ps vs → AllNoted ps ws → AllNoted ps (if file then vs else ws)
rounds_by ps true vs ws first second = first
rounds_by ps false vs ws first second = second

rounds_noted : (ps : List Phrase) (vs : Known) (rest : List Phrase) → AllNoted ps vs → AllNoted ps (rounds ps vs rest)
unfolding rounds
rounds_noted ps vs [] all = all
rounds_noted ps vs (p ∷ rest) all =
    rounds_by ps (starts_round ps p) (rounds ps (round ps vs ps) rest) (rounds ps vs rest) (rounds_noted ps (round ps vs ps) rest (round_noted ps vs ps (λ q within. within) all)) (rounds_noted ps vs rest all)

nothing_noted : (n k : ℕ) (v : Value) → value_at (replicate n None) k ≡ Some v → ⊥
nothing_noted zero k v is = absurd (cc)
nothing_noted (suc n) zero v is = absurd (cc)
nothing_noted (suc n) (suc k) v is = nothing_noted n k v is

known_noted : (ps : List Phrase) → AllNoted ps (known ps)
known_noted ps = rounds_noted ps (nothing_known ps) ps (λ k v is. absurd (nothing_noted (length ps) k v is))

-- a phrase among all is at its number
pub among_found : {X : Type 0} (x : X) (xs : List X) → IsAmong x xs → (k : ℕ) × (slice_get xs k ≡ Some x)
among_found x [] within = absurd within
among_found x (y ∷ ys) (inl same) = (zero, ap Some (sym same))
among_found x (y ∷ ys) (inr later) = let found = among_found x ys later in (suc found.0, found.1)

pub phrase_same : (p q : Phrase) → Some p ≡ Some q → p ≡ q
phrase_same p q is = cc

when_false : {X : Type 0} (b : Bool) (x y : X) → b ≡ false → (if b then x else y) ≡ y
when_false false x y is = refl
when_false true x y is = absurd (cc)

module _ (u : Uses) (site : Site) (counted : IsCounted site.set.phrases) (has : HasConstants site) where
  the_phrase : (k : ℕ) (p q : Phrase) → IsAmong p site.set.phrases → p.number ≡ k → slice_get site.set.phrases k ≡ Some q → p ≡ q
  the_phrase k p q within number there =
      let found = among_found p site.set.phrases within in
      let same : found.0 ≡ k = sym (counted found.0 p found.1) ∙ number in
      phrase_same p q (sym found.1 ∙ (ap (slice_get site.set.phrases) same ∙ there))

  chosen_value : (valued : Bool) (o : Option Value) (v : Value) → (if valued then o else None) ≡ Some v → o ≡ Some v
  chosen_value true o v is = is
  chosen_value false o v is = absurd (cc)

  -- the value of a constant has the sort of its type
  constant_sorted : (k : ℕ) (p : Phrase) (s : Sort) → slice_get site.set.phrases k ≡ Some p → (is : IsConstantItem site p) → sort_of_class (class_of_type is.kind) ≡ Some s → sort_of_value is.value ≡ Some s
  unfolding declared_value
  constant_sorted k p s there is worth =
      let ps = site.set.phrases in
      let note = known_noted ps p.number is.value (ap (λ vs. value_at vs p.number) (sym has) ∙ is.worth) in
      let number : p.number ≡ k = counted k p there in
      let same : note.phrase ≡ p = the_phrase k note.phrase p note.among (note.number ∙ number) there in
      let c : Constant = only_in ps note.before p (attributes.constant_of is.common is.item) in
      let value_is : fitted (kind_of_item ps note.before p is.common is.item) c ≡ Some is.value =
      chosen_value (is_value_item is.common is.item) (fitted (kind_of_item ps note.before p is.common is.item) c) is.value
      (ap (declared_value ps note.before p) (sym is.declares) ∙ (ap (λ (q : Phrase). declared_value ps note.before q q.node) (sym same) ∙ note.declared)) in
      fitted_sorted (kind_of_item ps note.before p is.common is.item) c is.value s value_is
      (λ one of_one. cells_of_type ps note.before p (attributes.is_marked Double is.common is.item) is.kind one s
      (ap (kind_of_type ps note.before p (attributes.is_marked Double is.common is.item)) (sym is.typed) ∙ of_one) worth)

  not_true : (b : Bool) → not b ≡ true → b ≡ false
  not_true false is = refl
  not_true true is = absurd (cc)

  no_sizes : (o : Option Expressions) → is_some o ≡ false → o ≡ None
  no_sizes None is = refl
  no_sizes (Some sizes) is = absurd (cc)

  -- the class of a type that is no structure has a sort, and no copies
  type_sort : (type_ : Kind) → is_structure_type (Some type_) ≡ false → (s : Sort) × (sort_of_class (class_of_type type_) ≡ Some s) × (has_copies type_ ≡ false)
  unfolding is_structure_type class_of_type has_copies
  type_sort (IntegerKind place) plain = (I, refl, refl)
  type_sort (BooleanKind place) plain = (B, refl, refl)
  type_sort (EventKind place) plain = (B, refl, refl)
  type_sort (BitKind place size) plain = (B, refl, refl)
  type_sort (CharacterKind place size) plain = (T, refl, refl)
  type_sort (StructureKind place template copies) plain = absurd (cc)

  constant_data : (p : Phrase) (is : IsConstantItem site p) → sizes_of is.common is.item ≡ None → data_at site.set.phrases p [] (OfItem is.common is.item) ≡ Some (data_with (class_of_type is.kind) zero (has_copies is.kind))
  unfolding data_at is_nil data_of dimensions_of
  constant_data p is unsized = ap (data_of (type_of is.common is.item)) unsized ∙ ap (λ o. data_of o None) is.typed

  -- a constant is a single value for the checks
  constant_single : (k : ℕ) (p : Phrase) → slice_get site.set.phrases k ≡ Some p → (is : IsConstantItem site p) → IsSingle (data_at site.set.phrases p [] (OfItem is.common is.item)) (sort_of_meant u site [] (MeantConstant is.value))
  constant_single k p there is =
      let parts = and_parts (is_some (attributes.constant_of is.common is.item)) (not (is_some (sizes_of is.common is.item)) && not (is_structure_type (type_of is.common is.item))) is.valued in
      let rest = and_parts (not (is_some (sizes_of is.common is.item))) (not (is_structure_type (type_of is.common is.item))) parts.1 in
      let plain : is_structure_type (Some is.kind) ≡ false = ap is_structure_type (sym is.typed) ∙ not_true (is_structure_type (type_of is.common is.item)) rest.1 in
      let has_sort = type_sort is.kind plain in
      record {
        declared = data_with (class_of_type is.kind) zero (has_copies is.kind);
        known = constant_data p is (no_sizes (sizes_of is.common is.item) (not_true (is_some (sizes_of is.common is.item)) rest.0));
        single = refl;
        alone = has_sort.2;
        worth = has_sort.0;
        class = has_sort.1;
        sorted = constant_sorted k p has_sort.0 there is has_sort.1;
      }

  constant_meant : (q : Phrase) (is : IsConstantItem site q) → meant_by (here_at site) [] q (OfItem is.common is.item) ≡ MeantConstant is.value
  constant_meant q is =
      when_false (is_event_type (type_of is.common is.item)) _ _ (ap is_event_type is.typed ∙ is.eventless)
      ∙ (when_true (is_value_item is.common is.item) _ _ is.valued ∙ ap (λ (o : Option Value). MeantConstant (unwrap_or o (value.Int (pos 0)))) is.worth)

  -- one that stands for another one with the same value
  module _ (name : List ℕ) (k : ℕ) (p : Phrase) (meant : means site.set.phrases site.block name ≡ Some k) (there : slice_get site.set.phrases k ≡ Some p) (is : IsConstantItem site p) (j : ℕ) (q : Phrase)
      (stands : standing_for site.set.phrases k ≡ j) (at : slice_get site.set.phrases j ≡ Some q) (other : IsConstantItem site q) (same : other.value ≡ is.value) where
    means_value : name_meant (here_at site) name [] ≡ MeantConstant is.value
    means_value = meant_standing u site name k j q meant stands at ∙ (ap (meant_by (here_at site) [] q) other.declares ∙ (constant_meant q other ∙ ap (λ (v : Value). MeantConstant v) same))

    pub constant_agrees_as : NameAgrees u site site.set.phrases site.block name []
    constant_agrees_as = agrees_as u site [] name k p (OfItem is.common is.item) (MeantConstant is.value) meant there is.declares means_value (constant_single k p there is)

    pub constant_formed_as : FormAgrees u site site.set.phrases site.block name
    constant_formed_as = formed_as u site name k p (OfItem is.common is.item) (MeantConstant is.value) meant there is.declares means_value (constant_single k p there is)

  pub constant_agrees : (name : List ℕ) (own : IsOwn site name) → IsConstantItem site own.phrase → NameAgrees u site site.set.phrases site.block name []
  constant_agrees name own is = constant_agrees_as name own.number own.phrase own.meant own.there is own.number own.phrase own.own own.there is refl

  pub constant_formed : (name : List ℕ) (own : IsOwn site name) → IsConstantItem site own.phrase → FormAgrees u site site.set.phrases site.block name
  constant_formed name own is = constant_formed_as name own.number own.phrase own.meant own.there is own.number own.phrase own.own own.there is refl
