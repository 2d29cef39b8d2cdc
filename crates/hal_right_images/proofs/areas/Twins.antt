-- Data of a written template have the shape of those that they stand for, where they are no structure.
use Rattle.std.specs.Prelude.{◌≡◌, false, List, ◌∷◌, Option, Some, None}
use Rattle.std.proofs.Common.{refl, sym, ap, subst, ◌∙◌}
use Rattle.hal_grammar.specs.Expressions.{Expressions, NoExpressions, MoreExpressions}
use Rattle.hal_grammar.specs.Declarations as declarations
use Rattle.hal_grammar.specs.Declarations.{IntegerKind, BooleanKind, EventKind, BitKind, CharacterKind, StructureKind, Attribute, Declared}
use Rattle.hal_phrases.specs.Phrases.{Phrase, OfItem}
use Rattle.hal_scope.specs.Rules.{IsAmong}
use Rattle.hal_scope.specs.Sorts.{type_of}
use Rattle.hal_kinds.specs.Attributes.{sizes_of}
use Rattle.hal_kinds.specs.Data.{is_structure_type}
use Rattle.hal_constants.specs.Known.{Known, known, kind_of_item}
use Rattle.hal_constants.specs.Naming.{is_value_item}
use Rattle.hal_sizes.specs.Sizes.{size_in}
use Rattle.hal_templates.specs.Agreeing.{Agree, AgreeInSizes, BothOrNeither, IsSameData}
use Rattle.hal_templates.specs.Own.{template_of}
use Rattle.hal_meaning.specs.Elements.{all_sizes, shape_of, size_given, sizes_given}
use Rattle.hal_fit_names.proofs.SameValues.{valued_same}
use Rattle.hal_right_images.specs.areas.Sized.{AreKnown}
use Rattle.hal_right_images.proofs.areas.Parameters.{KindsKnown, kind_known}
use Rattle.hal_right_images.proofs.areas.Plainly.{item_shape, plain_with}

-- what agrees is equal where both are known
pub agree_so : {X : Type 0} (o p : Option X) (x y : X) → Agree o p → o ≡ Some x → p ≡ Some y → x ≡ y
agree_so {X} o p x y agree one other = by (subst (λ q. Agree (Some x) q) other (subst (λ q. Agree q p) one agree)) where
  by : Agree (Some x) (Some y) → x ≡ y
  by same = same

-- a type names a structure template where it is that of a structure
template_none : (t : Option declarations.Kind) → is_structure_type t ≡ false → template_of t ≡ None
unfolding is_structure_type template_of
template_none None plain = refl
template_none (Some (IntegerKind place)) plain = refl
template_none (Some (BooleanKind place)) plain = refl
template_none (Some (EventKind place)) plain = refl
template_none (Some (BitKind place size)) plain = refl
template_none (Some (CharacterKind place size)) plain = refl
template_none (Some (StructureKind place name copies)) plain = absurd (cc)

none_structured : (t : Option declarations.Kind) → template_of t ≡ None → is_structure_type t ≡ false
unfolding is_structure_type template_of
none_structured None none = refl
none_structured (Some (IntegerKind place)) none = refl
none_structured (Some (BooleanKind place)) none = refl
none_structured (Some (EventKind place)) none = refl
none_structured (Some (BitKind place size)) none = refl
none_structured (Some (CharacterKind place size)) none = refl
none_structured (Some (StructureKind place name copies)) none = absurd (cc)

module _ (ps : List Phrase) (kinds : KindsKnown ps) where
  abbrev vs : Known
  vs = known ps

  -- sizes in order
  sizes_same : (p q : Phrase) (xs ys : Expressions) → AgreeInSizes ps vs p xs q ys → AreKnown ps vs p xs → AreKnown ps vs q ys → all_sizes ps vs p xs ≡ all_sizes ps vs q ys
  sizes_same p q NoExpressions NoExpressions agree one other = refl
  sizes_same p q NoExpressions (MoreExpressions y ys) agree one other = absurd agree
  sizes_same p q (MoreExpressions x xs) NoExpressions agree one other = absurd agree
  sizes_same p q (MoreExpressions x xs) (MoreExpressions y ys) agree one other =
      let first : size_given ps vs p x ≡ size_given ps vs q y = agree_so (size_in ps vs p x) (size_in ps vs q y) (size_given ps vs p x) (size_given ps vs q y) agree.0 one.0 other.0 in
      ap (λ n. n ∷ all_sizes ps vs p xs) first ∙ ap (λ ns. size_given ps vs q y ∷ ns) (sizes_same p q xs ys agree.1 one.1 other.1)

  pub given_same : (p q : Phrase) (o r : Option Expressions) → BothOrNeither (λ xs ys. AgreeInSizes ps vs p xs q ys) o r → ((xs : Expressions) → o ≡ Some xs → AreKnown ps vs p xs) → ((ys : Expressions) → r ≡ Some ys → AreKnown ps vs q ys)
      → sizes_given ps vs p o ≡ sizes_given ps vs q r
  given_same p q None None agree one other = refl
  given_same p q None (Some ys) agree one other = absurd agree
  given_same p q (Some xs) None agree one other = absurd agree
  given_same p q (Some xs) (Some ys) agree one other = sizes_same p q xs ys agree (one xs refl) (other ys refl)

  -- those of a template and of its unit
  module _ (p : Phrase) (common : List Attribute) (item : Declared) (q : Phrase) (other_common : List Attribute) (other : Declared) (within : IsAmong p ps) (among : IsAmong q ps) (node : p.node ≡ OfItem common item)
      (other_node : q.node ≡ OfItem other_common other) (same : IsSameData ps vs p common item.attributes q other_common other.attributes)
      (types : (x : Phrase) (c : List Attribute) (i : Declared) → IsAmong x ps → x.node ≡ OfItem c i → (t : declarations.Kind) × (type_of c i ≡ Some t))
      (sized : (x : Phrase) (c : List Attribute) (i : Declared) (xs : Expressions) → IsAmong x ps → x.node ≡ OfItem c i → sizes_of c i ≡ Some xs → AreKnown ps vs x xs) where
    pub valued_too : is_value_item common item ≡ is_value_item other_common other
    valued_too = valued_same ps vs p q common other_common item other same

    pub plain_too : is_structure_type (type_of common item) ≡ false → is_structure_type (type_of other_common other) ≡ false
    plain_too plain = none_structured (type_of other_common other) (sym same.attributes.template ∙ template_none (type_of common item) plain)

    pub plain_back : is_structure_type (type_of other_common other) ≡ false → is_structure_type (type_of common item) ≡ false
    plain_back plain = none_structured (type_of common item) (same.attributes.template ∙ template_none (type_of other_common other) plain)

    pub twin_shape : is_structure_type (type_of common item) ≡ false → is_value_item common item ≡ false → shape_of ps vs q other_common other ≡ shape_of ps vs p common item
    twin_shape plain stored =
        let type = types p common item within node in
        let other_type = types q other_common other among other_node in
        let other_plain = plain_too plain in
        let cells = kind_known ps kinds p common item type.0 within node type.1 (ap is_structure_type (sym type.1) ∙ plain) stored in
        let other_cells = kind_known ps kinds q other_common other other_type.0 among other_node other_type.1 (ap is_structure_type (sym other_type.1) ∙ other_plain) (sym valued_too ∙ stored) in
        let one : cells.0 ≡ other_cells.0 = agree_so (kind_of_item ps vs p common item) (kind_of_item ps vs q other_common other) cells.0 other_cells.0 same.attributes.words.kind cells.1 other_cells.1 in
        let sizes = given_same p q (sizes_of common item) (sizes_of other_common other) same.attributes.dimensions (λ xs is. sized p common item xs within node is) (λ ys is. sized q other_common other ys among other_node is) in
        item_shape ps vs q other_common other other_cells.0 other_plain other_cells.1
        ∙ (ap (λ k. plain_with k (sizes_given ps vs q (sizes_of other_common other))) (sym one) ∙ (ap (plain_with cells.0) (sym sizes) ∙ sym (item_shape ps vs p common item cells.0 plain cells.1)))
