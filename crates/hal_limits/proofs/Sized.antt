-- Data have as many cells or places as their shape has elements.
use Rattle.std.proofs.Common.{◌≡◌, ◌∙◌, ◌*◌, ℕ, zero, suc, min, Bool, true, false, List, [], ◌∷◌, Option, Some, None, length, map, flat_map, unwrap_or, if◌then◌else◌, refl, sym, ap, arith, length-append}
use Rattle.std.proofs.lemmas.List.{length-replicate, length-map}
use Rattle.std.proofs.lemmas.List.Sums.{sum_by-cons}
use Rattle.hal_grammar.specs.Declarations.{Initials, Attribute}
use Rattle.hal_phrases.specs.Phrases.{Phrase}
use Rattle.hal_constants.specs.Known.{Known}
use Rattle.hal_values.specs.declared.value.Kind.{Kind}
use Rattle.hal_values.specs.declared.value.Value.{Value}
use Rattle.hal_states.specs.OfKinds.{nothing}
use Rattle.hal_storage.proofs.elements.Capped as capped
use Rattle.hal_meaning.specs.Elements.{Component, count, copy_size, times, kinds_of_component}
use Rattle.hal_meaning.specs.InitialValues.{held, one_each, filled, given, all_values, first_values}
use Rattle.hal_meaning.specs.Places.{cells_from, places_from, hidden, is_for_or_case}
use Rattle.hal_storage.specs.declared.own_places.groups.PlacedGroups.{PlacedGroups}
use Rattle.hal_storage.specs.own_places.PlacedGroups.{ArePlaced}
use Rattle.hal_limits.specs.Counts.{capped as capped_at}
use Rattle.hal_limits.specs.Sizes.{places_by}

length_times : {X : Type 0} (n : ℕ) (xs : List X) → length (times n xs) ≡ n * length xs
length_times zero xs = omega (arith)
length_times (suc n) xs = omega (arith, length-append xs (times n xs), length_times n xs)

length_kinds : (cs : List Component) → length (flat_map kinds_of_component cs) ≡ copy_size cs
length_kinds [] = refl
length_kinds (c ∷ cs) = omega (arith, length-append (kinds_of_component c) (flat_map kinds_of_component cs), length-replicate (count c) c.kind, length_kinds cs, sum_by-cons count c cs)

length_copies : (n : ℕ) (cs : List Component) → length (times n (flat_map kinds_of_component cs)) ≡ n * copy_size cs
length_copies n cs = length_times n (flat_map kinds_of_component cs) ∙ ap (λ k. n * k) (length_kinds cs)

-- the elements of data, as far as is counted
pub shape_sized : (copies : Option ℕ) (cs : List Component)
    → min (unwrap_or copies 1 * min (copy_size cs) 4294967295) 4294967295 ≡ min (length (times (unwrap_or copies 1) (flat_map kinds_of_component cs))) 4294967295
shape_sized copies cs = capped.capped (unwrap_or copies 1) (copy_size cs) 4294967295 ∙ ap (λ k. min k 4294967295) (sym (length_copies (unwrap_or copies 1) cs))

-- there is a value for each kind
length_each : (ks : List Kind) (vs : List Value) → length (one_each ks vs) ≡ length ks
length_each [] vs = refl
length_each (k ∷ ks) [] = ap suc (length_each ks [])
length_each (k ∷ ks) (v ∷ vs) = ap suc (length_each ks vs)

length_filled : (ks : List Kind) (vs : List Value) → length (filled ks vs) ≡ length ks
length_filled ks [] = length_each ks []
length_filled ks (v ∷ []) = length-map ks (λ k. held k v)
length_filled ks (v ∷ w ∷ more) = length_each ks (v ∷ w ∷ more)

abbrev values_by : List Phrase → Known → Phrase → List Kind → Option Initials → List Value
values_by ps vs p ks list = elim list [ None ↦ map nothing ks | Some one ↦ filled ks (all_values ps vs p one) ]

length_given : (ps : List Phrase) (vs : Known) (p : Phrase) (ks : List Kind) (list : Option Initials) → length (values_by ps vs p ks list) ≡ length ks
length_given ps vs p ks None = length-map ks nothing
length_given ps vs p ks (Some one) = length_filled ks (all_values ps vs p one)

-- and a cell or a place
length_cells : (group : ℕ) (ks : List Kind) (vs : List Value) → length vs ≡ length ks → length (cells_from group ks vs) ≡ length ks
length_cells group [] [] same = refl
length_cells group [] (v ∷ vs) same = absurd (omega (arith, same))
length_cells group (k ∷ ks) [] same = absurd (omega (arith, same))
length_cells group (k ∷ ks) (v ∷ vs) same = ap suc (length_cells group ks vs (omega (arith, same)))

length_places : (owner : ℕ) (automatic : Bool) (ks : List Kind) (vs : List Value) → length vs ≡ length ks → length (places_from owner automatic ks vs) ≡ length ks
length_places owner automatic [] [] same = refl
length_places owner automatic [] (v ∷ vs) same = absurd (omega (arith, same))
length_places owner automatic (k ∷ ks) [] same = absurd (omega (arith, same))
length_places owner automatic (k ∷ ks) (v ∷ vs) same = ap suc (length_places owner automatic ks vs (omega (arith, same)))

pub cells_sized : (ps : List Phrase) (vs : Known) (p : Phrase) (attributes : List Attribute) (ks : List Kind) (group : ℕ)
    → length (cells_from group ks (first_values ps vs p attributes ks)) ≡ length ks
cells_sized ps vs p attributes ks group = length_cells group ks (first_values ps vs p attributes ks) (length_given ps vs p ks (given attributes))

pub places_sized : (ps : List Phrase) (vs : Known) (p : Phrase) (attributes : List Attribute) (ks : List Kind) (owner : ℕ) (automatic : Bool)
    → length (places_from owner automatic ks (first_values ps vs p attributes ks)) ≡ length ks
places_sized ps vs p attributes ks owner automatic = length_places owner automatic ks (first_values ps vs p attributes ks) (length_given ps vs p ks (given attributes))

-- the places of a group
four_or_none : (b : Bool) (k : ℕ) → (if b then 4 else 0) ≡ capped_at (length (if b then hidden k 4 else []))
four_or_none true k = refl
four_or_none false k = refl

pub group_sized : (ps : List Phrase) (g : PlacedGroups) → ArePlaced ps g → (k : ℕ) → places_by g k ≡ capped_at (length (if is_for_or_case ps k then hidden k 4 else []))
group_sized ps g are k = ap (λ b. if b then 4 else 0) (are k) ∙ four_or_none (is_for_or_case ps k) k
