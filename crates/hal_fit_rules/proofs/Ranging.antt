-- Cells of a type whose length is known have a kind in its range.
use Rattle.std.proofs.Common.{◌≡◌, ℕ, nat_le, ℤ, pos, Bool, true, false, ◌&&◌, List, [], ◌++◌, Option, Some, None, if◌then◌else◌, refl, ap, ◌∙◌}
use Rattle.std.specs.Prelude.{unwrap_or}
use Rattle.hal_grammar.specs.Declarations.{Kind, IntegerKind, BooleanKind, EventKind, BitKind, CharacterKind, StructureKind, Double}
use Rattle.hal_phrases.specs.Phrases.{Phrase}
use Rattle.hal_values.specs.declared.value.Kind as values
use Rattle.hal_values.specs.declared.value.Kind.TheVariants as kind
use Rattle.hal_values.specs.declared.value.Value.TheVariants as value
use Rattle.hal_constants.specs.declared.constant.Constant.{Constant}
use Rattle.hal_constants.specs.declared.constant.Constant.TheVariants as constant
use Rattle.hal_constants.specs.Constants.{constant_of}
use Rattle.hal_constants.specs.Known.{Known, bits_kind, text_kind, kind_of, kind_of_type, size_of, size_of_value, size_of_integer}
use Rattle.hal_scope.specs.Sorts.{type_among}
use Rattle.hal_kinds.specs.Attributes.{has_mark}
use Rattle.hal_meaning.specs.Elements.{Shape, chosen, shape_of_type}
use Rattle.hal_meaning.specs.Statements.{kind_meant}
use Rattle.hal_meaning.specs.Variables.{name_meant, meant_by, kind_of_first}
use Rattle.hal_code.specs.Sorts.{is_kind}
use Rattle.hal_agreement.specs.Sites.{Site, here_at}
use Rattle.hal_fit_expr.specs.Uses.{Uses}
use Rattle.hal_fit_rules.specs.Owned.{IsOwn, IsPlainData, IsTemporary}
use Rattle.hal_fit_rules.proofs.Declaring.{types_joined, plain_shape, meant_itself, item_meant_so}

in_limit : (limit n m : ℕ) (fits : Bool) → (nat_le 1 n && nat_le n limit) ≡ fits → (if fits then Some n else None) ≡ Some m → (nat_le 1 m && nat_le m limit) ≡ true
in_limit limit n m true fits is = ap (λ k. nat_le 1 k && nat_le k limit) (let same : m ≡ n = cc in same) ∙ fits
in_limit limit n m false fits is = absurd (cc)

integer_size : (limit : ℕ) (i : ℤ) (m : ℕ) → size_of_integer limit i ≡ Some m → (nat_le 1 m && nat_le m limit) ≡ true
unfolding size_of_integer
integer_size limit (pos n) m is = in_limit limit n m (nat_le 1 n && nat_le n limit) refl is
integer_size limit other m is = absurd (cc)

-- a size is within its limit
size_within : (limit : ℕ) (c : Constant) (m : ℕ) → size_of limit c ≡ Some m → (nat_le 1 m && nat_le m limit) ≡ true
unfolding size_of size_of_value
size_within limit (constant.Worth (value.Int i)) m is = integer_size limit i m is
size_within limit (constant.Worth (value.Bits len word)) m is = absurd (cc)
size_within limit (constant.Worth (value.Text text)) m is = absurd (cc)
size_within limit constant.Open m is = absurd (cc)
size_within limit constant.Failed m is = absurd (cc)
size_within limit constant.Unfit m is = absurd (cc)

bits_ranged : (o : Option ℕ) (k : values.Kind) → ((m : ℕ) → o ≡ Some m → (nat_le 1 m && nat_le m 32) ≡ true) → bits_kind o ≡ Some k → is_kind k ≡ true
unfolding bits_kind
bits_ranged None k sized is = absurd (cc)
bits_ranged (Some n) k sized is = ap is_kind (let same : k ≡ kind.Bits n = cc in same) ∙ sized n refl

text_ranged : (o : Option ℕ) (k : values.Kind) → ((m : ℕ) → o ≡ Some m → (nat_le 1 m && nat_le m 255) ≡ true) → text_kind o ≡ Some k → is_kind k ≡ true
unfolding text_kind
text_ranged None k sized is = absurd (cc)
text_ranged (Some n) k sized is = ap is_kind (let same : k ≡ kind.Text n = cc in same) ∙ sized n refl

integer_ranged : (double : Bool) (k : values.Kind) → Some (if double then kind.Double else kind.Single) ≡ Some k → is_kind k ≡ true
integer_ranged true k is = ap is_kind (let same : k ≡ kind.Double = cc in same)
integer_ranged false k is = ap is_kind (let same : k ≡ kind.Single = cc in same)

one_bit : (k : values.Kind) → ◌≡◌ {A = Option values.Kind} (Some (kind.Bits 1)) (Some k) → is_kind k ≡ true
one_bit k is = ap is_kind (let same : k ≡ kind.Bits 1 = cc in same)

pub kind_ranged : (ps : List Phrase) (vs : Known) (p : Phrase) (double : Bool) (type_ : Kind) (k : values.Kind) → kind_of_type ps vs p double (Some type_) ≡ Some k → is_kind k ≡ true
unfolding kind_of_type kind_of
kind_ranged ps vs p double (IntegerKind place) k is = integer_ranged double k is
kind_ranged ps vs p double (BooleanKind place) k is = one_bit k is
kind_ranged ps vs p double (EventKind place) k is = one_bit k is
kind_ranged ps vs p double (BitKind place size) k is = bits_ranged (size_of 32 (constant_of ps vs p size)) k (size_within 32 (constant_of ps vs p size)) is
kind_ranged ps vs p double (CharacterKind place size) k is = text_ranged (size_of 255 (constant_of ps vs p size)) k (size_within 255 (constant_of ps vs p size)) is
kind_ranged ps vs p double (StructureKind place template copies) k is = absurd (cc)

-- data that the unit itself declares have cells of a kind in its range
pub plain_ranged : (u : Uses) (site : Site) (name : List ℕ) (own : IsOwn site name) → IsPlainData site own.phrase → is_kind (kind_meant [] (name_meant (here_at site) name [])) ≡ true
plain_ranged u site name own is =
    let ps = site.set.phrases in
    let vs = site.set.constants in
    let joined : type_among (is.item.attributes ++ is.common) ≡ Some is.kind = types_joined is.item.attributes is.common ∙ is.typed in
    ap (λ m. is_kind (kind_meant [] m)) (meant_itself u site name own ∙ (ap (meant_by (here_at site) [] own.phrase) is.declares ∙ item_meant_so u site own.phrase is.common is.item is.kind is.typed is.eventless is.stored))
    ∙ (ap (λ (one : Shape). is_kind (kind_of_first (chosen [] one.components))) (ap (shape_of_type ps vs own.phrase (is.item.attributes ++ is.common)) joined ∙ plain_shape ps vs own.phrase (is.item.attributes ++ is.common) is.kind is.unstructured)
    ∙ (ap (λ o. is_kind (unwrap_or (kind_of_type ps vs own.phrase (has_mark Double (is.item.attributes ++ is.common)) o) kind.Single)) joined
    ∙ (ap (λ o. is_kind (unwrap_or o kind.Single)) is.sized ∙ kind_ranged ps vs own.phrase (has_mark Double (is.item.attributes ++ is.common)) is.kind is.cells is.sized)))

pub temporary_ranged : (u : Uses) (site : Site) (name : List ℕ) (own : IsOwn site name) → IsTemporary own.phrase → is_kind (kind_meant [] (name_meant (here_at site) name [])) ≡ true
temporary_ranged u site name own is = ap (λ m. is_kind (kind_meant [] m)) (meant_itself u site name own ∙ ap (meant_by (here_at site) [] own.phrase) is.declares)
