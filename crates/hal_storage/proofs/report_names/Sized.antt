-- Data have as many cells or places as their shape has elements.
use Rattle.std.proofs.Common.{◌≡◌, ◌∙◌, ◌≤◌, ◌*◌, ◌&&◌, ℕ, zero, suc, pos, negsuc, Bool, true, false, nat_le, List, [], ◌∷◌, ◌++◌, Option, Some, None, length, map, flat_map, unwrap_or, if◌then◌else◌, refl, ap, arith, length-append}
use Rattle.std.specs.Option.{option_map}
use Rattle.std.proofs.lemmas.Bool.{leb-true}
use Rattle.std.proofs.lemmas.List.{length-replicate}
use Rattle.std.proofs.lemmas.List.Sums.{sum_by-cons}
use Rattle.hal_grammar.specs.Expressions.{Expression}
use Rattle.hal_grammar.specs.Declarations as declarations
use Rattle.hal_grammar.specs.Declarations.{IntegerKind, BooleanKind, EventKind, BitKind, CharacterKind, StructureKind, Attribute, Declared, Initials}
use Rattle.hal_phrases.specs.Phrases.{Phrase}
use Rattle.hal_scope.specs.Sorts.{type_among}
use Rattle.hal_kinds.specs.Attributes.{has_mark}
use Rattle.hal_constants.specs.declared.constant.Constant.{Constant}
use Rattle.hal_constants.specs.declared.constant.Constant.TheVariants as constant
use Rattle.hal_constants.specs.Constants.{constant_of}
use Rattle.hal_constants.specs.Known.{Known, size_of_integer, size_of_value, size_of}
use Rattle.hal_values.specs.declared.value.Kind.{Kind}
use Rattle.hal_values.specs.declared.value.Value.{Value}
use Rattle.hal_values.specs.declared.value.Value.TheVariants as value
use Rattle.hal_states.specs.OfKinds.{nothing}
use Rattle.hal_meaning.specs.Elements.{Component, Shape, count, copy_size, times, kinds_of_component, kinds_of, size_given, shape_of_type, shape_of}
use Rattle.hal_meaning.specs.InitialValues.{held, one_each, filled, given, all_values, first_values}
use Rattle.hal_meaning.specs.Places.{InCells, InPlaces, cells_from, cells_of_item, places_from, places_of_item}

length_times : {X : Type 0} (n : ℕ) (xs : List X) → length (times n xs) ≡ n * length xs
length_times zero xs = omega (arith)
length_times (suc n) xs = omega (arith, length-append xs (times n xs), length_times n xs)

length_kinds : (cs : List Component) → length (flat_map kinds_of_component cs) ≡ copy_size cs
length_kinds [] = refl
length_kinds (c ∷ cs) = omega (arith, length-append (kinds_of_component c) (flat_map kinds_of_component cs), length-replicate (count c) c.kind, length_kinds cs, sum_by-cons count c cs)

-- a size or a number of copies is at least 1
abbrev IsSome : Option ℕ → Type 0
IsSome None = Unit {0}
IsSome (Some n) = 1 ≤ n

first_of_both : (a b : Bool) → (a && b) ≡ true → a ≡ true
first_of_both true b e = refl
first_of_both false b e = absurd (cc)

sized : (most n : ℕ) (b : Bool) → (nat_le 1 n && nat_le n most) ≡ b → IsSome (if b then Some n else None)
sized most n true e = leb-true 1 n (first_of_both _ _ e)
sized most n false e = tt

size_is : (most : ℕ) (c : Constant) → IsSome (size_of most c)
unfolding size_of size_of_value size_of_integer
size_is most (constant.Worth (value.Int (pos n))) = sized most n (nat_le 1 n && nat_le n most) refl
size_is most (constant.Worth (value.Int (negsuc n))) = tt
size_is most (constant.Worth (value.Bits len word)) = tt
size_is most (constant.Worth (value.Text text)) = tt
size_is most constant.Failed = tt
size_is most constant.Open = tt
size_is most constant.Unfit = tt

given_is : (o : Option ℕ) → IsSome o → 1 ≤ unwrap_or o 1
given_is None is = omega (arith)
given_is (Some n) is = is

copies_are : (ps : List Phrase) (vs : Known) (p : Phrase) (copies : Option Expression) → 1 ≤ unwrap_or (option_map (size_given ps vs p) copies) 1
copies_are ps vs p None = omega (arith)
copies_are ps vs p (Some size) = given_is (size_of 32767 (constant_of ps vs p size)) (size_is 32767 (constant_of ps vs p size))

type_has_copies : (ps : List Phrase) (vs : Known) (p : Phrase) (attributes : List Attribute) (type : Option declarations.Kind) → 1 ≤ unwrap_or (shape_of_type ps vs p attributes type).copies 1
type_has_copies ps vs p attributes None = omega (arith)
type_has_copies ps vs p attributes (Some (IntegerKind place)) = omega (arith)
type_has_copies ps vs p attributes (Some (BooleanKind place)) = omega (arith)
type_has_copies ps vs p attributes (Some (EventKind place)) = omega (arith)
type_has_copies ps vs p attributes (Some (BitKind place size)) = omega (arith)
type_has_copies ps vs p attributes (Some (CharacterKind place size)) = omega (arith)
type_has_copies ps vs p attributes (Some (StructureKind place template copies)) = copies_are ps vs p copies

once : (n size : ℕ) → 1 ≤ n → size ≤ n * size
once zero size some = absurd (omega (arith, some))
once (suc n) size some = omega (arith)

length_of_kinds : (shape : Shape) → length (kinds_of shape) ≡ unwrap_or shape.copies 1 * copy_size shape.components
length_of_kinds shape = length_times (unwrap_or shape.copies 1) (flat_map kinds_of_component shape.components) ∙ ap (λ n. unwrap_or shape.copies 1 * n) (length_kinds shape.components)

copy_within : (shape : Shape) → 1 ≤ unwrap_or shape.copies 1 → copy_size shape.components ≤ length (kinds_of shape)
copy_within shape some = omega (arith, length_of_kinds shape, once (unwrap_or shape.copies 1) (copy_size shape.components) some)

-- one copy has no more elements than there are kinds
size_within : (ps : List Phrase) (vs : Known) (p : Phrase) (common : List Attribute) (item : Declared) → copy_size (shape_of ps vs p common item).components ≤ length (kinds_of (shape_of ps vs p common item))
size_within ps vs p common item = copy_within (shape_of ps vs p common item) (type_has_copies ps vs p (item.attributes ++ common) (type_among (item.attributes ++ common)))

-- there is a value for each kind
length_each : (ks : List Kind) (vs : List Value) → length (one_each ks vs) ≡ length ks
length_each [] vs = refl
length_each (k ∷ ks) [] = ap suc (length_each ks [])
length_each (k ∷ ks) (v ∷ vs) = ap suc (length_each ks vs)

length_held : (ks : List Kind) (v : Value) → length (map (λ k. held k v) ks) ≡ length ks
length_held [] v = refl
length_held (k ∷ ks) v = ap suc (length_held ks v)

length_nothing : (ks : List Kind) → length (map nothing ks) ≡ length ks
length_nothing [] = refl
length_nothing (k ∷ ks) = ap suc (length_nothing ks)

length_filled : (ks : List Kind) (vs : List Value) → length (filled ks vs) ≡ length ks
length_filled ks [] = length_each ks []
length_filled ks (v ∷ []) = length_held ks v
length_filled ks (v ∷ w ∷ more) = length_each ks (v ∷ w ∷ more)

abbrev values_by : List Phrase → Known → Phrase → List Kind → Option Initials → List Value
values_by ps vs p ks list = elim list [ None ↦ map nothing ks | Some one ↦ filled ks (all_values ps vs p one) ]

length_given : (ps : List Phrase) (vs : Known) (p : Phrase) (ks : List Kind) (list : Option Initials) → length (values_by ps vs p ks list) ≡ length ks
length_given ps vs p ks None = length_nothing ks
length_given ps vs p ks (Some one) = length_filled ks (all_values ps vs p one)

length_values : (ps : List Phrase) (vs : Known) (p : Phrase) (attributes : List Attribute) (ks : List Kind) → length (first_values ps vs p attributes ks) ≡ length ks
length_values ps vs p attributes ks = length_given ps vs p ks (given attributes)

-- and a cell or a place
length_cells : (group : ℕ) (ks : List Kind) (vs : List Value) → length vs ≡ length ks → length (cells_from group ks vs) ≡ length ks
length_cells group [] [] same = refl
length_cells group [] (v ∷ vs) same = absurd (omega (arith, same))
length_cells group (k ∷ ks) [] same = absurd (omega (arith, same))
length_cells group (k ∷ ks) (v ∷ vs) same = ap suc (length_cells group ks vs (omega (arith, same)))

length_places : (owner : ℕ) (automatic : Bool) (ks : List Kind) (vs : List Value) → length vs ≡ length ks → length (places_from owner automatic ks vs) ≡ length ks
length_places owner automatic [] [] same = refl
length_places owner automatic [] (v ∷ vs) same = absurd (omega (arith, same))
length_places owner automatic (k ∷ ks) [] same = absurd (omega (arith, same))
length_places owner automatic (k ∷ ks) (v ∷ vs) same = ap suc (length_places owner automatic ks vs (omega (arith, same)))

-- so one copy has no more elements than there are cells
pub cells_of_copy : (ps : List Phrase) (vs : Known) (p : Phrase) (common : List Attribute) (item : Declared) (group : ℕ)
    → copy_size (shape_of ps vs p common item).components ≤ length (cells_of_item ps vs p common item (InCells group))
cells_of_copy ps vs p common item group =
    let ks = kinds_of (shape_of ps vs p common item) in
    let values = first_values ps vs p (item.attributes ++ common) ks in
    omega (arith, size_within ps vs p common item, length_cells group ks values (length_values ps vs p (item.attributes ++ common) ks))

-- nor than there are places
pub places_of_copy : (ps : List Phrase) (vs : Known) (p : Phrase) (common : List Attribute) (item : Declared)
    → copy_size (shape_of ps vs p common item).components ≤ length (places_of_item ps vs p common item InPlaces)
places_of_copy ps vs p common item =
    let ks = kinds_of (shape_of ps vs p common item) in
    let values = first_values ps vs p (item.attributes ++ common) ks in
    omega (arith, size_within ps vs p common item, length_places p.number (has_mark declarations.Automatic (item.attributes ++ common)) ks values (length_values ps vs p (item.attributes ++ common) ks))
