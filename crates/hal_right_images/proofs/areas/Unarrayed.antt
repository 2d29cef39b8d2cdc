-- A structure is no array, and has no components, so that subscripts of it choose copies: rules 701, 707 and 721.
use Rattle.std.specs.Prelude.{◌≡◌, ◌≤◌, ◌⊎◌, ◌&&◌, ◌||◌, ℕ, nat_lt, Bool, true, false, List, [], ◌∷◌, Option, Some, None, if◌then◌else◌}
use Rattle.std.specs.List.{list_any}
use Rattle.std.specs.Option.{option_or}
use Rattle.std.proofs.Common.{refl, sym, ap, subst, ◌∙◌, inl, inr, arith}
use Rattle.std.proofs.lemmas.Bool.{and_from, and_parts, ltb-false}
use Rattle.hal_base.specs.declared.refusal.Place.{Place}
use Rattle.hal_grammar.specs.Expressions.{Expression, Expressions, Subscript, Unsubscripted, ByName, ByInteger, ByParts, Subscripts, NoSubscripts, MoreSubscripts}
use Rattle.hal_grammar.specs.Declarations.{Kind, IntegerKind, BooleanKind, EventKind, BitKind, CharacterKind, StructureKind, Attribute, Dimensions, Typed, Marked, LockGroup, LockAny, InitialValues, ConstantValues, Declared}
use Rattle.hal_phrases.specs.Phrases.{Phrase, OfDeclare, OfItem}
use Rattle.hal_scope.specs.Rules.{IsAmong, IsSound, ruled}
use Rattle.hal_scope.specs.Sorts.{type_among, type_in, type_of}
use Rattle.hal_kinds.specs.declared.data.Data.{Data}
use Rattle.hal_kinds.specs.Attributes.{sizes_among, sizes_in, sizes_of}
use Rattle.hal_kinds.specs.Data.{is_structure_type}
use Rattle.hal_kinds.specs.Subscripts.{choice_of, chosen, is_arrayed, is_miscounted, miscopied, misplaced, parts_chosen, subscript_count}
use Rattle.hal_attributes.specs.Clashes.{attributes_clash, clash_among, clash_at, clash_behind, clashes_with, clashing}
use Rattle.hal_attributes.specs.Features.{excludes, feature_of, feature_of_kind, place_of_attribute, sort_of}
use Rattle.hal_types.specs.Rules.{attribute_rows, type_rows}
use Rattle.hal_fit_rules.proofs.Unbroken.{ruled_none, unbroken}
use Rattle.hal_fit_names.proofs.MeantItems.{of_attributes}
use Rattle.hal_fit_names.proofs.Placing.{IsGiven, NodePlaced}
use Rattle.hal_right_images.proofs.areas.Classes.{low_places, or_none}

first_none : {X : Type 0} (o p : Option X) → option_or o p ≡ None → (o ≡ None) × (p ≡ None)
first_none None p is = (refl, is)
first_none (Some x) p is = absurd (cc)

none_if : {X : Type 0} (b : Bool) (x : X) (o : Option X) → (if b then Some x else o) ≡ None → (b ≡ false) × (o ≡ None)
none_if false x o is = (refl, is)
none_if true x o is = absurd (cc)

-- whether an attribute says a structure
abbrev says_structure : Attribute → Bool
says_structure (Typed k) = is_structure_type (Some k)
says_structure other = false

-- an array has no structures
structure_clashes : (x : Attribute) (place : Place) (sizes : Expressions) → says_structure x ≡ true → (attributes_clash x (Dimensions place sizes) ≡ true) × (attributes_clash (Dimensions place sizes) x ≡ true)
unfolding is_structure_type feature_of feature_of_kind sort_of excludes
structure_clashes (Typed (StructureKind at_ template copies)) place sizes is = (refl, refl)
structure_clashes (Typed (IntegerKind at_)) place sizes is = absurd (cc)
structure_clashes (Typed (BooleanKind at_)) place sizes is = absurd (cc)
structure_clashes (Typed (EventKind at_)) place sizes is = absurd (cc)
structure_clashes (Typed (BitKind at_ size)) place sizes is = absurd (cc)
structure_clashes (Typed (CharacterKind at_ size)) place sizes is = absurd (cc)
structure_clashes (Dimensions at_ own) place sizes is = absurd (cc)
structure_clashes (Marked at_ mark) place sizes is = absurd (cc)
structure_clashes (LockGroup at_ group) place sizes is = absurd (cc)
structure_clashes (LockAny at_) place sizes is = absurd (cc)
structure_clashes (InitialValues at_ values) place sizes is = absurd (cc)
structure_clashes (ConstantValues at_ values) place sizes is = absurd (cc)

pub any_there : {X : Type 0} (test : X → Bool) (xs : List X) (x : X) → IsAmong x xs → test x ≡ true → list_any test xs ≡ true
any_there test [] x within is = absurd within
any_there test (y ∷ ys) x (inl same) is = first_true (test y) (list_any test ys) (ap test (sym same) ∙ is) where
  first_true : (a b : Bool) → a ≡ true → (a || b) ≡ true
  first_true true b so = refl
  first_true false b so = absurd (cc)
any_there test (y ∷ ys) x (inr later) is = second_true (test y) (list_any test ys) (any_there test ys x later is) where
  second_true : (a b : Bool) → b ≡ true → (a || b) ≡ true
  second_true true b so = refl
  second_true false b so = so

behind_clash : (x : Attribute) (ys : List Attribute) (y : Attribute) → IsAmong y ys → attributes_clash x y ≡ true → clash_behind x ys ≡ None → ⊥
unfolding clash_behind
behind_clash x [] y within clash none = absurd within
behind_clash x (z ∷ zs) y (inl same) clash none =
    let one = (none_if (attributes_clash x z) (place_of_attribute z) (clash_behind x zs) none).0 in
    absurd (let wrong : true ≡ false = sym clash ∙ (ap (attributes_clash x) same ∙ one) in cc)
behind_clash x (z ∷ zs) y (inr later) clash none = behind_clash x zs y later clash (none_if (attributes_clash x z) (place_of_attribute z) (clash_behind x zs) none).1

-- one of a list and one before the comma
common_clash : (common xs : List Attribute) → clash_among common xs ≡ None → (x y : Attribute) → IsAmong x xs → IsAmong y common → attributes_clash x y ≡ true → ⊥
unfolding clash_among
common_clash common [] none x y within also clash = absurd within
common_clash common (z ∷ zs) none x y (inl same) also clash =
    let first = (first_none (clash_at common z zs) (clash_among common zs) none).0 in
    let other = (none_if (clashes_with z common) (place_of_attribute z) (clash_behind z zs) first).0 in
    absurd (let wrong : true ≡ false = sym (any_there (attributes_clash z) common y also (ap (λ a. attributes_clash a y) (sym same) ∙ clash)) ∙ other in cc)
common_clash common (z ∷ zs) none x y (inr later) also clash = common_clash common zs (first_none (clash_at common z zs) (clash_among common zs) none).1 x y later also clash

-- two of a list
own_clash : (common xs : List Attribute) → clash_among common xs ≡ None → (x y : Attribute) → IsAmong x xs → IsAmong y xs → attributes_clash x y ≡ true → attributes_clash y x ≡ true → (x ≡ y → ⊥) → ⊥
unfolding clash_among
own_clash common [] none x y within also clash back other = absurd within
own_clash common (z ∷ zs) none x y (inl here) (inl there) clash back other = other (here ∙ sym there)
own_clash common (z ∷ zs) none x y (inl here) (inr later) clash back other =
    let first = (first_none (clash_at common z zs) (clash_among common zs) none).0 in
    behind_clash z zs y later (ap (λ a. attributes_clash a y) (sym here) ∙ clash) (none_if (clashes_with z common) (place_of_attribute z) (clash_behind z zs) first).1
own_clash common (z ∷ zs) none x y (inr later) (inl there) clash back other =
    let first = (first_none (clash_at common z zs) (clash_among common zs) none).0 in
    behind_clash z zs x later (ap (λ a. attributes_clash a x) (sym there) ∙ back) (none_if (clashes_with z common) (place_of_attribute z) (clash_behind z zs) first).1
own_clash common (z ∷ zs) none x y (inr later) (inr also) clash back other = own_clash common zs (first_none (clash_at common z zs) (clash_among common zs) none).1 x y later also clash back other

-- where the attributes stand that say a structure and dimensions
structure_within : (xs : List Attribute) (t : Kind) → type_among xs ≡ Some t → IsAmong (Typed t) xs
unfolding type_among type_in
structure_within [] t is = absurd (cc)
structure_within (Dimensions place sizes ∷ xs) t is = inr (structure_within xs t is)
structure_within (Typed k ∷ xs) t is = inl (ap (λ x. Typed x) (let same : t ≡ k = cc in same))
structure_within (Marked place mark ∷ xs) t is = inr (structure_within xs t is)
structure_within (LockGroup place group ∷ xs) t is = inr (structure_within xs t is)
structure_within (LockAny place ∷ xs) t is = inr (structure_within xs t is)
structure_within (InitialValues place list ∷ xs) t is = inr (structure_within xs t is)
structure_within (ConstantValues place list ∷ xs) t is = inr (structure_within xs t is)

dimensions_within : (xs : List Attribute) (sizes : Expressions) → sizes_among xs ≡ Some sizes → (place : Place) × IsAmong (Dimensions place sizes) xs
unfolding sizes_among sizes_in
dimensions_within [] sizes is = absurd (cc)
dimensions_within (Dimensions place own ∷ xs) sizes is = (place, inl (ap (Dimensions place) (let same : sizes ≡ own = cc in same)))
dimensions_within (Typed k ∷ xs) sizes is = let rest = dimensions_within xs sizes is in (rest.0, inr rest.1)
dimensions_within (Marked place mark ∷ xs) sizes is = let rest = dimensions_within xs sizes is in (rest.0, inr rest.1)
dimensions_within (LockGroup place group ∷ xs) sizes is = let rest = dimensions_within xs sizes is in (rest.0, inr rest.1)
dimensions_within (LockAny place ∷ xs) sizes is = let rest = dimensions_within xs sizes is in (rest.0, inr rest.1)
dimensions_within (InitialValues place values ∷ xs) sizes is = let rest = dimensions_within xs sizes is in (rest.0, inr rest.1)
dimensions_within (ConstantValues place values ∷ xs) sizes is = let rest = dimensions_within xs sizes is in (rest.0, inr rest.1)

-- attributes of a name: its own, or those before the comma
structure_by : (common : List Attribute) (item : Declared) (t : Kind) (o : Option Kind) → type_among item.attributes ≡ o → option_or o (type_among common) ≡ Some t → IsAmong (Typed t) item.attributes ⊎ IsAmong (Typed t) common
structure_by common item t (Some k) here is = inl (structure_within item.attributes t (here ∙ is))
structure_by common item t None here is = inr (structure_within common t is)

dimensions_by : (common : List Attribute) (item : Declared) (sizes : Expressions) (o : Option Expressions) → sizes_among item.attributes ≡ o → option_or o (sizes_among common) ≡ Some sizes
    → (place : Place) × (IsAmong (Dimensions place sizes) item.attributes ⊎ IsAmong (Dimensions place sizes) common)
dimensions_by common item sizes (Some own) here is = let there = dimensions_within item.attributes sizes (here ∙ is) in (there.0, inl there.1)
dimensions_by common item sizes None here is = let there = dimensions_within common sizes is in (there.0, inr there.1)

-- a structure has no dimensions among its attributes
structure_apart : (common own : List Attribute) → clash_among common own ≡ None → clash_among [] common ≡ None → (x : Attribute) → says_structure x ≡ true → (place : Place) (sizes : Expressions) → IsAmong x own ⊎ IsAmong x common
    → IsAmong (Dimensions place sizes) own ⊎ IsAmong (Dimensions place sizes) common → ⊥
structure_apart common own first second x says place sizes one two = by one two where
  other : x ≡ Dimensions place sizes → ⊥
  other same = let wrong : true ≡ false = sym says ∙ ap says_structure same in absurd (cc)

  by : IsAmong x own ⊎ IsAmong x common → IsAmong (Dimensions place sizes) own ⊎ IsAmong (Dimensions place sizes) common → ⊥
  by (inl here) (inl there) = own_clash common own first x (Dimensions place sizes) here there (structure_clashes x place sizes says).0 (structure_clashes x place sizes says).1 other
  by (inl here) (inr there) = common_clash common own first x (Dimensions place sizes) here there (structure_clashes x place sizes says).0
  by (inr here) (inl there) = common_clash common own first (Dimensions place sizes) x there here (structure_clashes x place sizes says).1
  by (inr here) (inr there) = own_clash [] common second x (Dimensions place sizes) here there (structure_clashes x place sizes says).0 (structure_clashes x place sizes says).1 other

module _ (ps : List Phrase) (sound : IsSound type_rows ps) where
  -- rule 701
  own_none : (p : Phrase) → IsAmong p ps → (common : List Attribute) (item : Declared) → p.node ≡ OfItem common item → clash_among common item.attributes ≡ None
  unfolding attribute_rows clashing
  own_none p within common item is =
      ruled_none 701 (clashing (OfItem common item))
      (ap (λ n. ruled 701 (clashing n)) (sym is) ∙ unbroken type_rows ps sound p within (λ qs q. ruled 701 (clashing q.node)) (of_attributes (λ qs q. ruled 701 (clashing q.node)) (inr (inr (inr (inr (inl refl)))))))

  given_none : (common : List Attribute) → IsGiven ps common → clash_among [] common ≡ None
  unfolding attribute_rows clashing
  given_none common given =
      ruled_none 701 (clashing (OfDeclare common))
      (ap (λ n. ruled 701 (clashing n)) (sym given.is)
      ∙ unbroken type_rows ps sound given.phrase given.within (λ qs q. ruled 701 (clashing q.node)) (of_attributes (λ qs q. ruled 701 (clashing q.node)) (inr (inr (inr (inr (inl refl)))))))

  pub unarrayed : (p : Phrase) → IsAmong p ps → (common : List Attribute) (item : Declared) → p.node ≡ OfItem common item → NodePlaced ps p p.node → (at_ : Place) (template : List ℕ) (copies : Option Expression)
      → type_of common item ≡ Some (StructureKind at_ template copies) → sizes_of common item ≡ None
  unfolding is_structure_type
  unarrayed p within common item is placed at_ template copies typed = by (sizes_of common item) refl where
    by : (o : Option Expressions) → sizes_of common item ≡ o → o ≡ None
    by None none = refl
    by (Some sizes) some =
        let both = subst (λ n. NodePlaced ps p n) is placed in
        let at = dimensions_by common item sizes (sizes_among item.attributes) refl some in
        absurd (structure_apart common item.attributes (own_none p within common item is) (given_none common both.2) (Typed (StructureKind at_ template copies)) refl at.0 sizes
        (structure_by common item (StructureKind at_ template copies) (type_among item.attributes) refl typed) at.1)

abbrev is_without : Subscripts → Bool
is_without NoSubscripts = true
is_without (MoreSubscripts first others) = false

-- whether a subscript leaves all of a structure, or some of its copies
abbrev leaves_copies : Subscript → Bool
leaves_copies Unsubscripted = true
leaves_copies (ByParts there copies arrays components) = is_without arrays && is_without components
leaves_copies other = false

none_left : (xs : Subscripts) → subscript_count xs ≤ 0 → is_without xs ≡ true
unfolding subscript_count
none_left NoSubscripts low = refl
none_left (MoreSubscripts x xs) low = absurd (omega (arith, low))

-- so a subscript leaves copies
copies_left : (d : Data) (x : Subscript) → d.dimensions ≡ 0 → is_arrayed d ≡ false → is_miscounted d (chosen d x) ≡ false → nat_lt 0 (chosen d x).components ≡ false → leaves_copies x ≡ true
unfolding choice_of parts_chosen
copies_left d x none plain counted single = by x (subst (λ b. is_miscounted d (choice_of b x) ≡ false) plain counted) (subst (λ b. nat_lt 0 (choice_of b x).components ≡ false) plain single) where
  by : (y : Subscript) → is_miscounted d (choice_of false y) ≡ false → nat_lt 0 (choice_of false y).components ≡ false → leaves_copies y ≡ true
  by Unsubscripted right alone = refl
  by (ByName place name) right alone = absurd (let wrong : true ≡ false = alone in cc)
  by (ByInteger place mark number) right alone = absurd (let wrong : true ≡ false = alone in cc)
  by (ByParts there copies arrays components) right alone =
      let placed = or_none (miscopied d (choice_of false (ByParts there copies arrays components))) (misplaced d (choice_of false (ByParts there copies arrays components))) right in
      let low = low_places (subscript_count arrays) d.dimensions placed in
      and_from (is_without arrays) (is_without components) (none_left arrays (omega (arith, low, none))) (none_left components (ltb-false 0 (subscript_count components) alone))

-- the forms of a subscript that leaves a structure, or copies of it
without_is : (xs : Subscripts) → is_without xs ≡ true → xs ≡ NoSubscripts
without_is NoSubscripts is = refl
without_is (MoreSubscripts first others) is = absurd (cc)

has_form : (x : Subscript) → leaves_copies x ≡ true → (x ≡ Unsubscripted) ⊎ ((there : Place) × (copies : Subscripts) × (x ≡ ByParts there copies NoSubscripts NoSubscripts))
has_form Unsubscripted is = inl refl
has_form (ByName there name) is = absurd (cc)
has_form (ByInteger there mark number) is = absurd (cc)
has_form (ByParts there copies arrays components) is =
    let both = and_parts (is_without arrays) (is_without components) is in
    inr (there, copies, ap (λ a. ByParts there copies a components) (without_is arrays both.0) ∙ ap (ByParts there copies NoSubscripts) (without_is components both.1))

-- of all of it, or of copies
pub form_of : (d : Data) (x : Subscript) → d.dimensions ≡ 0 → is_arrayed d ≡ false → is_miscounted d (chosen d x) ≡ false → nat_lt 0 (chosen d x).components ≡ false
    → (x ≡ Unsubscripted) ⊎ ((there : Place) × (copies : Subscripts) × (x ≡ ByParts there copies NoSubscripts NoSubscripts))
form_of d x none plain counted single = has_form x (copies_left d x none plain counted single)
