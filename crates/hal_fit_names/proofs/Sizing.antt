-- The lengths of types are known in a set that breaks no rule of names or types.
use Rattle.std.proofs.Common.{◌≡◌, ◌<◌, ◌⊎◌, ℕ, Bool, true, false, not, ◌&&◌, ◌||◌, ◌==◌, List, [], ◌∷◌, length, Option, Some, None, if◌then◌else◌, refl, sym, ap, ◌∙◌, subst, inl, inr, arith}
use Rattle.std.specs.Prelude.{nat_lt}
use Rattle.std.specs.Option.{option_or, is_some}
use Rattle.std.proofs.lemmas.Bool.{lt-ltb, ltb-true}
use Rattle.hal_base.specs.declared.refusal.Place.{Place}
use Rattle.hal_grammar.specs.Expressions.{Expression, place_of}
use Rattle.hal_grammar.specs.Declarations.{Kind, IntegerKind, BooleanKind, EventKind, BitKind, CharacterKind, StructureKind, Attribute, Dimensions, Typed, Marked, LockGroup, LockAny, InitialValues, ConstantValues, Declared}
use Rattle.hal_phrases.specs.declared.around.Around.{Around}
use Rattle.hal_phrases.specs.declared.role.Role.{Role}
use Rattle.hal_phrases.specs.declared.role.Role.TheVariants as role
use Rattle.hal_phrases.specs.Phrases.{Node, Phrase, phrase, OfExpression, OfItem}
use Rattle.hal_phrases.specs.GatheredExpressions.{gathered}
use Rattle.hal_phrases.specs.GatheredDeclarations.{gathered_kind, gathered_attribute}
use Rattle.hal_names.specs.Laws.{IsCounted}
use Rattle.hal_scope.specs.Rules.{IsSound, rows}
use Rattle.hal_scope.specs.Sorts.{type_in, type_among, type_of}
use Rattle.hal_kinds.specs.Data.{is_structure_type}
use Rattle.hal_operands.specs.declared.want.Want.TheVariants as want
use Rattle.hal_operands.specs.Wants.{wanted}
use Rattle.hal_sizes.specs.Constancy.{unsettled, missized_value, missized, inconstant_as, inconstant}
use Rattle.hal_types.specs.Rules.{size_rows, type_rows}
use Rattle.hal_values.specs.declared.value.Kind as values
use Rattle.hal_values.specs.declared.value.Kind.TheVariants as kind
use Rattle.hal_values.specs.declared.value.Value.TheVariants as value
use Rattle.hal_constants.specs.declared.constant.Constant.{Constant}
use Rattle.hal_constants.specs.declared.constant.Constant.TheVariants as constant
use Rattle.hal_constants.specs.Constants.{constant_of}
use Rattle.hal_constants.specs.Known.{Known, known, size_of_integer, size_of_value, size_of, bits_kind, text_kind, kind_of, kind_of_type}
use Rattle.hal_constants.specs.Naming.{is_value_item, is_compool_at, is_before, value_at}
use Rattle.hal_fit_rules.specs.Begun.{AreFirst}
use Rattle.hal_fit_rules.proofs.Beginning.{then_, among}
use Rattle.hal_fit_rules.proofs.BegunExpressions.{own_first}
use Rattle.hal_fit_rules.proofs.Unbroken.{unbroken, of_sizes}
use Rattle.hal_fit_names.specs.Suited.{HasFitLiterals, AreDeclared}
use Rattle.hal_fit_names.proofs.Holding.{Holds}
use Rattle.hal_fit_names.proofs.Suiting.{suits, holds}
use Rattle.hal_fit_names.proofs.Keeping.{Keeps, Precedes, constant_keeps}
use Rattle.hal_fit_names.proofs.Plain.{is_item}
use Rattle.hal_fit_names.proofs.Placing.{IsPlaced, ArePlaced, NodePlaced, longer, one_longer}

bit_length : wanted role.BitLength ≡ want.Integer
unfolding wanted
bit_length = refl

text_length : wanted role.TextLength ≡ want.Integer
unfolding wanted
text_length = refl

found : {X : Type 0} (o : Option X) (fault : Option (ℕ × Place)) → (if is_some o then None else fault) ≡ None → (fault ≡ None → ⊥) → (x : X) × (o ≡ Some x)
found None fault is broken = absurd (broken is)
found (Some x) fault is broken = (x, refl)

-- a size that breaks no rule is known, and so it is where the same stands before
pub size_known : (limit : ℕ) (place : Place) (c d : Constant) → Holds want.Integer c → missized limit place c ≡ None → Keeps c d → (n : ℕ) × (size_of limit d ≡ Some n)
unfolding missized missized_value unsettled size_of size_of_value
size_known limit place (constant.Worth (value.Int z)) d holds_ none keeps =
    let size = found (size_of_integer limit z) (Some (710, place)) none (λ is. cc) in
    (size.0, ap (size_of limit) keeps ∙ size.1)
size_known limit place (constant.Worth (value.Bits len word)) d holds_ none keeps = let other = holds_.1 in absurd (cc)
size_known limit place (constant.Worth (value.Text text)) d holds_ none keeps = let other = holds_.1 in absurd (cc)
size_known limit place constant.Failed d holds_ none keeps = absurd (cc)
size_known limit place constant.Open d holds_ none keeps = absurd (cc)
size_known limit place constant.Unfit d holds_ none keeps = absurd holds_

-- whether a phrase declares a constant that is its value
abbrev pub is_valued : Node → Bool
is_valued (OfItem common item) = is_value_item common item
is_valued other = false

one_true : (a b : Bool) → (a || b) ≡ true → (a ≡ true) ⊎ (b ≡ true)
one_true true b is = inl refl
one_true false b is = inr is

left_true : (a b : Bool) → a ≡ true → (a || b) ≡ true
left_true true b is = refl
left_true false b is = absurd (cc)

right_true : (a b : Bool) → b ≡ true → (a || b) ≡ true
right_true true b is = refl
right_true false b is = is

-- what stands before a phrase among those of an attribute stands before what has the attribute, where no value of that is known
pub placed_precedes : (ps : List Phrase) (vs : Known) (p q : Phrase) (x : Attribute) (placed : IsPlaced ps p x) → (is_valued p.node ≡ true → value_at vs p.number ≡ None)
    → q.number < length (gathered_attribute placed.around placed.before x) → q.around.home ≡ p.around.home → Precedes ps vs vs q p
placed_precedes ps vs p q x placed hidden low home k r common item there is valued before v has =
    (by (one_true (nat_lt r.number q.number) (is_compool_at ps r.around.home && not (r.around.home == q.around.home)) before), has)
  where
    in_text : nat_lt r.number q.number ≡ true → (r.number < p.number) ⊎ (r ≡ p) → is_before ps p r ≡ true
    in_text first (inl less) = left_true (nat_lt r.number p.number) (is_compool_at ps r.around.home && not (r.around.home == p.around.home)) (lt-ltb r.number p.number less)
    in_text first (inr same) =
        let none = hidden (ap (λ (y : Phrase). is_valued y.node) (sym same) ∙ (ap is_valued is ∙ valued)) in
        let other = sym has ∙ (ap (λ (y : Phrase). value_at vs y.number) same ∙ none) in
        absurd (cc)

    by : (nat_lt r.number q.number ≡ true) ⊎ ((is_compool_at ps r.around.home && not (r.around.home == q.around.home)) ≡ true) → is_before ps p r ≡ true
    by (inl first) = in_text first (placed.beside k r there (ap is_item is) (omega (arith, ltb-true r.number q.number first, low)))
    by (inr pooled) =
        right_true (nat_lt r.number p.number) (is_compool_at ps r.around.home && not (r.around.home == p.around.home)) (ap (λ h. is_compool_at ps r.around.home && not (r.around.home == h)) (sym home) ∙ pooled)

same_kind : (ps : List Phrase) (p : Phrase) (k t : Kind) → Some k ≡ Some t → IsPlaced ps p (Typed k) → IsPlaced ps p (Typed t)
same_kind ps p k t is placed = subst (λ x. IsPlaced ps p (Typed x)) (let same : k ≡ t = cc in same) placed

-- where the type among attributes stands
pub typed_among : (ps : List Phrase) (p : Phrase) (xs : List Attribute) (t : Kind) → type_among xs ≡ Some t → ArePlaced ps p xs → IsPlaced ps p (Typed t)
unfolding type_among type_in
typed_among ps p [] t is placed = absurd (cc)
typed_among ps p (Dimensions place sizes ∷ xs) t is placed = typed_among ps p xs t is placed.1
typed_among ps p (Typed k ∷ xs) t is placed = same_kind ps p k t is placed.0
typed_among ps p (Marked place mark ∷ xs) t is placed = typed_among ps p xs t is placed.1
typed_among ps p (LockGroup place group ∷ xs) t is placed = typed_among ps p xs t is placed.1
typed_among ps p (LockAny place ∷ xs) t is placed = typed_among ps p xs t is placed.1
typed_among ps p (InitialValues place values_ ∷ xs) t is placed = typed_among ps p xs t is placed.1
typed_among ps p (ConstantValues place values_ ∷ xs) t is placed = typed_among ps p xs t is placed.1

pub typed_by : (ps : List Phrase) (p : Phrase) (own common : List Attribute) (o : Option Kind) (t : Kind) → type_among own ≡ o → option_or o (type_among common) ≡ Some t → ArePlaced ps p own → ArePlaced ps p common → IsPlaced ps p (Typed t)
typed_by ps p own common (Some k) t here is first second = typed_among ps p own t (here ∙ is) first
typed_by ps p own common None t here is first second = typed_among ps p common t is second

module _ (ps : List Phrase) (named : IsSound rows ps) (sound : IsSound type_rows ps) (counted : IsCounted ps) (declared : AreDeclared ps) (literals : HasFitLiterals ps) where
  -- a length of bits breaks no rule
  bits_right : (d : List Phrase) (a : Around) (t : Expression) → AreFirst (gathered d a role.BitLength t) ps → missized 32 (place_of t) (constant_of ps (known ps) (phrase (length d) a (OfExpression role.BitLength t)) t) ≡ None
  unfolding size_rows inconstant inconstant_as
  bits_right d a t begun =
      unbroken type_rows ps sound (phrase (length d) a (OfExpression role.BitLength t)) (among ps d a (OfExpression role.BitLength t) (then_ (own_first d a role.BitLength t) begun)) (λ qs o. inconstant qs (known qs) o o.node)
      (of_sizes (λ qs o. inconstant qs (known qs) o o.node) (inl refl))

  -- nor does one of a text
  text_right : (d : List Phrase) (a : Around) (t : Expression) → AreFirst (gathered d a role.TextLength t) ps → missized 255 (place_of t) (constant_of ps (known ps) (phrase (length d) a (OfExpression role.TextLength t)) t) ≡ None
  unfolding size_rows inconstant inconstant_as
  text_right d a t begun =
      unbroken type_rows ps sound (phrase (length d) a (OfExpression role.TextLength t)) (among ps d a (OfExpression role.TextLength t) (then_ (own_first d a role.TextLength t) begun)) (λ qs o. inconstant qs (known qs) o o.node)
      (of_sizes (λ qs o. inconstant qs (known qs) o o.node) (inl refl))

  low_number : (d : List Phrase) (a : Around) (r : Role) (t : Expression) → length d < length (gathered d a r t)
  low_number d a r t = omega (arith, longer (own_first d a r t), one_longer d a (OfExpression r t))

  -- the kind of the cells of a type is known
  pub kind_known : (p : Phrase) (double : Bool) (t : Kind) → (is_valued p.node ≡ true → value_at (known ps) p.number ≡ None) → is_structure_type (Some t) ≡ false → IsPlaced ps p (Typed t) → (cells : values.Kind) × (kind_of_type ps (known ps) p double (Some t) ≡ Some cells)
  unfolding kind_of_type kind_of is_structure_type gathered_attribute gathered_kind bits_kind text_kind
  kind_known p double (IntegerKind place) hidden plain placed = (if double then kind.Double else kind.Single, refl)
  kind_known p double (BooleanKind place) hidden plain placed = (kind.Bits 1, refl)
  kind_known p double (EventKind place) hidden plain placed = (kind.Bits 1, refl)
  kind_known p double (BitKind place t) hidden plain placed =
      let d : List Phrase = placed.before in
      let a : Around = placed.around in
      let q : Phrase = phrase (length d) a (OfExpression role.BitLength t) in
      let is = suits ps named sound counted declared literals q d a role.BitLength t refl refl placed.begun in
      let size = size_known 32 (place_of t) (constant_of ps (known ps) q t) (constant_of ps (known ps) p t) (holds ps named sound counted declared literals q d a role.BitLength want.Integer t bit_length placed.begun is)
      (bits_right d a t placed.begun) (constant_keeps ps (known ps) (known ps) q p placed.block (placed_precedes ps (known ps) p q (Typed (BitKind place t)) placed hidden (low_number d a role.BitLength t) placed.home) t) in
      (kind.Bits size.0, ap bits_kind size.1)
  kind_known p double (CharacterKind place t) hidden plain placed =
      let d : List Phrase = placed.before in
      let a : Around = placed.around in
      let q : Phrase = phrase (length d) a (OfExpression role.TextLength t) in
      let is = suits ps named sound counted declared literals q d a role.TextLength t refl refl placed.begun in
      let size = size_known 255 (place_of t) (constant_of ps (known ps) q t) (constant_of ps (known ps) p t) (holds ps named sound counted declared literals q d a role.TextLength want.Integer t text_length placed.begun is)
      (text_right d a t placed.begun) (constant_keeps ps (known ps) (known ps) q p placed.block (placed_precedes ps (known ps) p q (Typed (CharacterKind place t)) placed hidden (low_number d a role.TextLength t) placed.home) t) in
      (kind.Text size.0, ap text_kind size.1)
  kind_known p double (StructureKind place template copies) hidden plain placed = absurd (cc)

  -- so it is of an item that is placed, where no value of it is known
  pub hidden_kind_known : (p : Phrase) (common : List Attribute) (item : Declared) (t : Kind) (double : Bool) → p.node ≡ OfItem common item → type_of common item ≡ Some t → is_structure_type (Some t) ≡ false
      → (is_value_item common item ≡ true → value_at (known ps) p.number ≡ None) → NodePlaced ps p p.node → (cells : values.Kind) × (kind_of_type ps (known ps) p double (Some t) ≡ Some cells)
  hidden_kind_known p common item t double is typed plain hidden placed =
      let both = subst (λ n. NodePlaced ps p n) is placed in
      kind_known p double t (λ valued. hidden (ap is_valued (sym is) ∙ valued)) plain (typed_by ps p item.attributes common (type_among item.attributes) t refl typed both.0 both.1)

  -- and of one that is no constant
  pub item_kind_known : (p : Phrase) (common : List Attribute) (item : Declared) (t : Kind) (double : Bool) → p.node ≡ OfItem common item → type_of common item ≡ Some t → is_structure_type (Some t) ≡ false → is_value_item common item ≡ false
      → NodePlaced ps p p.node → (cells : values.Kind) × (kind_of_type ps (known ps) p double (Some t) ≡ Some cells)
  item_kind_known p common item t double is typed plain stored placed =
      hidden_kind_known p common item t double is typed plain (λ valued. absurd (let other = sym stored ∙ valued in cc)) placed
