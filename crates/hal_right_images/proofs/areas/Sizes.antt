-- The sizes of arrays are known in a set that breaks no rule of names or types, and there are at most three.
use Rattle.std.proofs.Common.{◌≡◌, ◌≤◌, ◌<◌, ℕ, Bool, true, false, List, [], ◌∷◌, length, Option, Some, None, refl, sym, ap, ◌∙◌, subst, inl, inr, arith}
use Rattle.std.proofs.lemmas.Bool.{leb-true}
use Rattle.std.specs.Prelude.{nat_le, not, ◌&&◌, unwrap_or}
use Rattle.std.specs.Option.{option_or, is_some}
use Rattle.hal_base.specs.declared.refusal.Place.{Place}
use Rattle.hal_grammar.specs.Expressions.{Expression, Expressions, NoExpressions, MoreExpressions, place_of}
use Rattle.hal_grammar.specs.Declarations.{Attribute, Dimensions, Typed, Marked, LockGroup, LockAny, InitialValues, ConstantValues, Declared, Part}
use Rattle.hal_phrases.specs.declared.around.Around.{Around}
use Rattle.hal_phrases.specs.declared.role.Role.TheVariants as role
use Rattle.hal_phrases.specs.Phrases.{Phrase, phrase, OfExpression, OfItem, OfPart}
use Rattle.hal_phrases.specs.GatheredExpressions.{gathered, gathered_all}
use Rattle.hal_phrases.specs.GatheredDeclarations.{gathered_attribute}
use Rattle.hal_names.specs.Laws.{IsCounted}
use Rattle.hal_scope.specs.Rules.{IsAmong, IsSound, rows, ruled}
use Rattle.hal_scope.specs.Sorts.{type_of}
use Rattle.hal_kinds.specs.Attributes as attributes
use Rattle.hal_kinds.specs.Attributes.{count_of, sizes_in, sizes_among, sizes_of}
use Rattle.hal_kinds.specs.Data.{is_structure_type}
use Rattle.hal_operands.specs.declared.want.Want.TheVariants as want
use Rattle.hal_operands.specs.Wants.{wanted}
use Rattle.hal_sizes.specs.Constancy.{inconstant_as, inconstant, missized, misdimensioned, misdimensioned_among, misdimensioned_by}
use Rattle.hal_sizes.specs.Sizes.{behind, extent_of, first_size, known_extent, size_in}
use Rattle.hal_types.specs.Rules.{size_rows, type_rows}
use Rattle.hal_constants.specs.Constants.{constant_of}
use Rattle.hal_constants.specs.Known.{Known, known, size_of}
use Rattle.hal_constants.specs.Naming.{is_value_item, value_at}
use Rattle.hal_meaning.specs.Elements.{all_sizes, size_given}
use Rattle.hal_fit_rules.specs.Begun.{AreFirst}
use Rattle.hal_fit_rules.proofs.Beginning.{then_, among}
use Rattle.hal_fit_rules.proofs.BegunExpressions.{expressions_first, own_first}
use Rattle.hal_fit_rules.proofs.Unbroken.{unbroken, ruled_none, of_sizes}
use Rattle.hal_fit_names.specs.Suited.{HasFitLiterals, AreDeclared}
use Rattle.hal_fit_names.proofs.Suiting.{suits, holds, unless_true}
use Rattle.hal_fit_names.proofs.Keeping.{constant_keeps}
use Rattle.hal_fit_names.proofs.Placing.{IsPlaced, ArePlaced, IsGiven, NodePlaced, longer, one_longer}
use Rattle.hal_fit_names.proofs.Sizing.{is_valued, placed_precedes, size_known}
use Rattle.hal_right_images.specs.areas.Sized.{AreKnown, extent_with}

dimension_wanted : wanted role.Dimension ≡ want.Integer
unfolding wanted
dimension_wanted = refl

-- a size that is known is the one that is given
pub given_is : (ps : List Phrase) (vs : Known) (p : Phrase) (t : Expression) (n : ℕ) → size_of 32767 (constant_of ps vs p t) ≡ Some n → size_in ps vs p t ≡ Some (size_given ps vs p t)
given_is ps vs p t n is = is ∙ ap Some (sym (ap (λ o. unwrap_or o 1) is))

-- where the sizes among attributes stand
pub sized_among : (ps : List Phrase) (p : Phrase) (xs : List Attribute) (sizes : Expressions) → sizes_among xs ≡ Some sizes → ArePlaced ps p xs → (place : Place) × IsPlaced ps p (Dimensions place sizes)
unfolding sizes_among sizes_in
sized_among ps p [] sizes is placed = absurd (cc)
sized_among ps p (Dimensions place own ∷ xs) sizes is placed = (place, subst (λ t. IsPlaced ps p (Dimensions place t)) (let same : own ≡ sizes = cc in same) placed.0)
sized_among ps p (Typed k ∷ xs) sizes is placed = sized_among ps p xs sizes is placed.1
sized_among ps p (Marked place mark ∷ xs) sizes is placed = sized_among ps p xs sizes is placed.1
sized_among ps p (LockGroup place group ∷ xs) sizes is placed = sized_among ps p xs sizes is placed.1
sized_among ps p (LockAny place ∷ xs) sizes is placed = sized_among ps p xs sizes is placed.1
sized_among ps p (InitialValues place values_ ∷ xs) sizes is placed = sized_among ps p xs sizes is placed.1
sized_among ps p (ConstantValues place values_ ∷ xs) sizes is placed = sized_among ps p xs sizes is placed.1

sized_by : (ps : List Phrase) (p : Phrase) (own common : List Attribute) (o : Option Expressions) (sizes : Expressions) → sizes_among own ≡ o → option_or o (sizes_among common) ≡ Some sizes → ArePlaced ps p own → ArePlaced ps p common
    → (place : Place) × IsPlaced ps p (Dimensions place sizes)
sized_by ps p own common (Some k) sizes here is first second = sized_among ps p own sizes (here ∙ is) first
sized_by ps p own common None sizes here is first second = sized_among ps p common sizes is second

-- at most three dimensions
first_none : (one other : Option Place) → option_or one other ≡ None → (one ≡ None) × (other ≡ None)
first_none None other is = (refl, is)
first_none (Some x) other is = absurd (cc)

pub few_among : (xs : List Attribute) (sizes : Expressions) → misdimensioned_among xs ≡ None → sizes_among xs ≡ Some sizes → nat_le (count_of sizes) 3 ≡ true
unfolding misdimensioned_among misdimensioned_by sizes_among sizes_in
few_among [] sizes none is = absurd (cc)
few_among (Dimensions place own ∷ xs) sizes none is =
    let few = unless_true (nat_le (count_of own) 3) place (first_none (misdimensioned_by (Dimensions place own)) (misdimensioned_among xs) none).0 in
    subst (λ t. nat_le (count_of t) 3 ≡ true) (let same : own ≡ sizes = cc in same) few
few_among (Typed k ∷ xs) sizes none is = few_among xs sizes none is
few_among (Marked place mark ∷ xs) sizes none is = few_among xs sizes none is
few_among (LockGroup place group ∷ xs) sizes none is = few_among xs sizes none is
few_among (LockAny place ∷ xs) sizes none is = few_among xs sizes none is
few_among (InitialValues place values_ ∷ xs) sizes none is = few_among xs sizes none is
few_among (ConstantValues place values_ ∷ xs) sizes none is = few_among xs sizes none is

few_by : (own common : List Attribute) (o : Option Expressions) (sizes : Expressions) → sizes_among own ≡ o → option_or o (sizes_among common) ≡ Some sizes → misdimensioned_among own ≡ None → misdimensioned_among common ≡ None
    → nat_le (count_of sizes) 3 ≡ true
few_by own common (Some k) sizes here is first second = few_among own sizes first (here ∙ is)
few_by own common None sizes here is first second = few_among common sizes second is

-- the dimensions of an array whose sizes are known
pub extent_is : (ps : List Phrase) (vs : Known) (p : Phrase) (sizes : Expressions) → AreKnown ps vs p sizes → nat_le (count_of sizes) 3 ≡ true → extent_of ps vs p (Some sizes) ≡ Some (extent_with (all_sizes ps vs p sizes))
unfolding extent_of first_size behind known_extent count_of
extent_is ps vs p NoExpressions known_ few = refl
extent_is ps vs p (MoreExpressions a NoExpressions) known_ few = ap (λ o. known_extent o (Some 0) (Some 0)) known_.0
extent_is ps vs p (MoreExpressions a (MoreExpressions b NoExpressions)) known_ few = ap (λ o. known_extent o (size_in ps vs p b) (Some 0)) known_.0 ∙ ap (λ o. known_extent (Some (size_given ps vs p a)) o (Some 0)) known_.1.0
extent_is ps vs p (MoreExpressions a (MoreExpressions b (MoreExpressions c NoExpressions))) known_ few =
    ap (λ o. known_extent o (size_in ps vs p b) (size_in ps vs p c)) known_.0
    ∙ (ap (λ o. known_extent (Some (size_given ps vs p a)) o (size_in ps vs p c)) known_.1.0 ∙ ap (λ o. known_extent (Some (size_given ps vs p a)) (Some (size_given ps vs p b)) o) known_.1.1.0)
extent_is ps vs p (MoreExpressions a (MoreExpressions b (MoreExpressions c (MoreExpressions d others)))) known_ few = absurd (let low = leb-true (count_of (MoreExpressions a (MoreExpressions b (MoreExpressions c (MoreExpressions d others))))) 3 few in omega (arith, low))

-- data with sizes are no constants that are their values
pub sized_item : (common : List Attribute) (item : Declared) (sizes : Expressions) → sizes_of common item ≡ Some sizes → is_value_item common item ≡ false
sized_item common item sizes is =
    ap (λ (o : Option Expressions). is_some (attributes.constant_of common item) && (not (is_some o) && not (is_structure_type (type_of common item)))) is ∙ none (is_some (attributes.constant_of common item)) where
      none : (b : Bool) → (b && false) ≡ false
      none true = refl
      none false = refl

module _ (ps : List Phrase) (named : IsSound rows ps) (sound : IsSound type_rows ps) (counted : IsCounted ps) (declared : AreDeclared ps) (literals : HasFitLiterals ps) where
  -- a size breaks no rule
  size_right : (d : List Phrase) (a : Around) (t : Expression) → AreFirst (gathered d a role.Dimension t) ps → missized 32767 (place_of t) (constant_of ps (known ps) (phrase (length d) a (OfExpression role.Dimension t)) t) ≡ None
  unfolding size_rows inconstant inconstant_as
  size_right d a t begun =
      unbroken type_rows ps sound (phrase (length d) a (OfExpression role.Dimension t)) (among ps d a (OfExpression role.Dimension t) (then_ (own_first d a role.Dimension t) begun)) (λ qs o. inconstant qs (known qs) o o.node)
      (of_sizes (λ qs o. inconstant qs (known qs) o o.node) (inl refl))

  -- those of an attribute that is placed are known
  pub placed_known : (p : Phrase) (x : Attribute) (placed : IsPlaced ps p x) (hidden : is_valued p.node ≡ true → value_at (known ps) p.number ≡ None) (d : List Phrase) (sizes : Expressions) → AreFirst (gathered_all d placed.around role.Dimension sizes) ps
      → length (gathered_all d placed.around role.Dimension sizes) ≤ length (gathered_attribute placed.around placed.before x) → AreKnown ps (known ps) p sizes
  unfolding gathered_all
  placed_known p x placed hidden d NoExpressions begun low = tt
  placed_known p x placed hidden d (MoreExpressions t others) begun low =
      let a : Around = placed.around in
      let e : List Phrase = gathered d a role.Dimension t in
      let rest : AreFirst e (gathered_all e a role.Dimension others) = expressions_first e a role.Dimension others in
      let first : AreFirst e ps = then_ rest begun in
      let q : Phrase = phrase (length d) a (OfExpression role.Dimension t) in
      let is = suits ps named sound counted declared literals q d a role.Dimension t refl refl first in
      let less : length d < length (gathered_attribute placed.around placed.before x) =
      omega (arith, longer (own_first d a role.Dimension t), one_longer d a (OfExpression role.Dimension t), longer rest, low) in
      let size = size_known 32767 (place_of t) (constant_of ps (known ps) q t) (constant_of ps (known ps) p t) (holds ps named sound counted declared literals q d a role.Dimension want.Integer t dimension_wanted first is)
      (size_right d a t first) (constant_keeps ps (known ps) (known ps) q p placed.block (placed_precedes ps (known ps) p q x placed hidden less placed.home) t) in
      (given_is ps (known ps) p t size.0 size.1, placed_known p x placed hidden e others begun low)

  -- no declaration has more than three dimensions
  item_few : (p : Phrase) (common : List Attribute) (item : Declared) → IsAmong p ps → p.node ≡ OfItem common item → misdimensioned_among item.attributes ≡ None
  unfolding size_rows misdimensioned
  item_few p common item within is =
      ap misdimensioned (sym is)
      ∙ ruled_none 710 (misdimensioned p.node) (unbroken type_rows ps sound p within (λ qs o. ruled 710 (misdimensioned o.node)) (of_sizes (λ qs o. ruled 710 (misdimensioned o.node)) (inr (inl refl))))

  common_few : (common : List Attribute) (given : IsGiven ps common) → misdimensioned_among common ≡ None
  unfolding size_rows misdimensioned
  common_few common given =
      ap misdimensioned (sym given.is)
      ∙ ruled_none 710 (misdimensioned given.phrase.node) (unbroken type_rows ps sound given.phrase given.within (λ qs o. ruled 710 (misdimensioned o.node)) (of_sizes (λ qs o. ruled 710 (misdimensioned o.node)) (inr (inl refl))))

  part_few : (e : Phrase) (part : Part) → IsAmong e ps → e.node ≡ OfPart true part → misdimensioned_among part.attributes ≡ None
  unfolding size_rows misdimensioned
  part_few e part within is =
      ap misdimensioned (sym is)
      ∙ ruled_none 710 (misdimensioned e.node) (unbroken type_rows ps sound e within (λ qs o. ruled 710 (misdimensioned o.node)) (of_sizes (λ qs o. ruled 710 (misdimensioned o.node)) (inr (inl refl))))

  -- so the dimensions of an item are known
  pub item_extent : (p : Phrase) (common : List Attribute) (item : Declared) (sizes : Expressions) → IsAmong p ps → p.node ≡ OfItem common item → sizes_of common item ≡ Some sizes → NodePlaced ps p p.node
      → AreKnown ps (known ps) p sizes × (nat_le (count_of sizes) 3 ≡ true)
  unfolding gathered_attribute
  item_extent p common item sizes within is sized placed =
      let both = subst (λ n. NodePlaced ps p n) is placed in
      let at = sized_by ps p item.attributes common (sizes_among item.attributes) sizes refl sized both.0 both.1 in
      let stored = sized_item common item sizes sized in
      let spot : IsPlaced ps p (Dimensions at.0 sizes) = at.1 in (
        placed_known p (Dimensions at.0 sizes) spot (λ valued. absurd (let other = sym stored ∙ (ap is_valued (sym is) ∙ valued) in cc)) spot.before sizes spot.begun (omega arith),
        few_by item.attributes common (sizes_among item.attributes) sizes refl sized (item_few p common item within is) (common_few common both.2),
      )

  -- so are those of a part at the bottom, where its structure stands
  pub part_extent : (t e : Phrase) (part : Part) (sizes : Expressions) → IsAmong e ps → e.node ≡ OfPart true part → is_valued t.node ≡ false → sizes_among part.attributes ≡ Some sizes → ArePlaced ps t part.attributes
      → AreKnown ps (known ps) t sizes × (nat_le (count_of sizes) 3 ≡ true)
  unfolding gathered_attribute
  part_extent t e part sizes within is stored sized placed =
      let at = sized_among ps t part.attributes sizes sized placed in
      let spot : IsPlaced ps t (Dimensions at.0 sizes) = at.1 in (
        placed_known t (Dimensions at.0 sizes) spot (λ valued. absurd (let other = sym stored ∙ valued in cc)) spot.before sizes spot.begun (omega arith),
        few_among part.attributes sizes (part_few e part within is) sized,
      )
