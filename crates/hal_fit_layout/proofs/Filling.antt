-- The rows of cells and own places of a linked image are right.
use Rattle.std.specs.Prelude.{◌≡◌, ℕ, zero, suc, nat_le, nat_lt, length, map, Bool, true, false, ◌&&◌, ◌||◌, List, [], ◌∷◌, ◌++◌, Option, Some, None, unwrap_or, if◌then◌else◌}
use Rattle.std.specs.List.{list_all}
use Rattle.std.specs.Option.{option_or}
use Rattle.std.proofs.Common.{refl, sym, subst}
use Rattle.std.proofs.lemmas.Bool.{and_from, and_parts}
use Rattle.hal_grammar.specs.Declarations.{Automatic, Attribute, LockGroup, Declared}
use Rattle.hal_phrases.specs.Phrases.{Node, Phrase, OfItem, OfGroup, OfTemporaryGroup}
use Rattle.hal_scope.specs.Sorts.{type_of}
use Rattle.hal_kinds.specs.Attributes.{has_mark}
use Rattle.hal_kinds.specs.Data.{is_event_type}
use Rattle.hal_constants.specs.Naming.{is_value_item}
use Rattle.hal_constants.specs.Constants.{constant_of}
use Rattle.hal_constants.specs.Known.{Known, size_of}
use Rattle.hal_states.specs.OfKinds.{nothing}
use Rattle.hal_values.specs.declared.tables.Cell.{Cell}
use Rattle.hal_values.specs.declared.value.Kind.{Kind}
use Rattle.hal_values.specs.declared.value.Kind.TheVariants as kind
use Rattle.hal_values.specs.declared.value.Value.{Value}
use Rattle.hal_code.specs.declared.row.Run.{Run}
use Rattle.hal_code.specs.declared.row.OwnPlace.{OwnPlace}
use Rattle.hal_code.specs.declared.row.OwnPlace.TheVariants as place
use Rattle.hal_code.specs.Right.{cell_right}
use Rattle.hal_code.specs.Sorts.{is_initial}
use Rattle.hal_meaning.specs.Elements.{kinds_of, shape_of}
use Rattle.hal_meaning.specs.InitialValues.{first_values}
use Rattle.hal_meaning.specs.Places.{Place, Storing, InCells, InPlaces, ByReference, Unstored, group_in, group_among, parameter, home_shares, is_in_unit, storing_of_data, storing_of_item, storing, cells_from, cells_of_item, cells_at, places_from, hidden, places_of_item, is_for_or_case, places_at}
use Rattle.hal_meaning.specs.Runs.{places_of_process}
use Rattle.hal_meaning.specs.Sets.{Set, cells_of}
use Rattle.hal_runs.specs.Joined.{alone, joins, longer, with_some, with_run, with_rows, rows_joined}
use Rattle.hal_runs.specs.Same.{same_cell, same_place}
use Rattle.hal_link.specs.Linking.{own_row}
use Rattle.hal_link.specs.Shapes.{Shapes, reference_shape}
use Rattle.hal_fit_calls.specs.Each.{Each}
use Rattle.hal_fit_layout.specs.Rows.{IsNumbered}
use Rattle.hal_fit_calls.proofs.Each.{each_one, each_flat, each_if}
use Rattle.hal_fit_layout.proofs.Ranges.{IsSize, size_is, IsRanged, Beside, kinds_ranged, nothing_is, first_beside, initial_is}
use Rattle.hal_fit_layout.proofs.Placing.{process_each}

-- where rows are joined that pass a test, each run does
module _ {T : Type 0} (same : T → T → Bool) (test : T → Bool) where
  abbrev pub passes : Run T → Bool
  passes run = test run.row

  pub some_pass : (runs : List (Run T)) (run : Run T) → list_all passes runs ≡ true → test run.row ≡ true → list_all passes (with_some same runs run) ≡ true
  unfolding with_some
  some_pass [] run all is = and_from (test run.row) true is refl
  some_pass (one ∷ []) run all is = by (joins same one run) where
    by : (b : Bool) → list_all passes (if b then longer one run.repeat ∷ [] else one ∷ run ∷ []) ≡ true
    by true = all
    by false = and_from (test one.row) (test run.row && true) (and_parts (test one.row) true all).0 (and_from (test run.row) true is refl)
  some_pass (one ∷ next ∷ runs) run all is =
      and_from (test one.row) (list_all passes (with_some same (next ∷ runs) run)) (and_parts (test one.row) (list_all passes (next ∷ runs)) all).0
      (some_pass (next ∷ runs) run (and_parts (test one.row) (list_all passes (next ∷ runs)) all).1 is)

  rows_pass : (runs : List (Run T)) (rows : List T) → list_all passes runs ≡ true → list_all test rows ≡ true → list_all passes (with_rows same runs rows) ≡ true
  unfolding with_rows
  rows_pass runs [] all is = all
  rows_pass runs (row ∷ rows) all is =
      rows_pass (with_run same runs (alone row)) rows (some_pass runs (alone row) all (and_parts (test row) (list_all test rows) is).0) (and_parts (test row) (list_all test rows) is).1

  pub joined_pass : (rows : List T) → list_all test rows ≡ true → list_all passes (rows_joined same rows) ≡ true
  joined_pass rows is = rows_pass [] rows refl is

-- an own place that holds values holds one of its kind at first, and refers to a shape otherwise
abbrev pub IsFilled : Place → Type 0
IsFilled one = (k : Kind) → one.kind ≡ Some k → is_initial k one.initial ≡ true

filled_so : (k : Kind) (v : Value) → is_initial k v ≡ true → (other : Kind) → Some k ≡ Some other → is_initial other v ≡ true
filled_so k v is other same = subst (λ x. is_initial x v ≡ true) (let one : k ≡ other = cc in one) is

from_filled : (owner : ℕ) (automatic : Bool) (ks : List Kind) (vs : List Value) → Each IsRanged ks → Beside ks vs → Each IsFilled (places_from owner automatic ks vs)
from_filled owner automatic [] vs ranged beside = tt
from_filled owner automatic (k ∷ ks) [] ranged beside = tt
from_filled owner automatic (k ∷ ks) (v ∷ vs) ranged beside = (filled_so k v (initial_is k v ranged.0 beside.0), from_filled owner automatic ks vs ranged.1 beside.1)

hidden_filled : (owner n : ℕ) → Each IsFilled (hidden owner n)
hidden_filled owner zero = tt
hidden_filled owner (suc n) = (filled_so kind.Double (nothing kind.Double) (initial_is kind.Double (nothing kind.Double) refl (nothing_is kind.Double)), hidden_filled owner n)

-- a cell that is right
abbrev pub cell_told : Cell → Bool
cell_told cell = is_initial cell.kind cell.initial && nat_le cell.group 15

abbrev IsToldCell : Cell → Type 0
IsToldCell cell = cell_told cell ≡ true

from_told : (group : ℕ) (ks : List Kind) (vs : List Value) → nat_le group 15 ≡ true → Each IsRanged ks → Beside ks vs → Each IsToldCell (cells_from group ks vs)
from_told group [] vs low ranged beside = tt
from_told group (k ∷ ks) [] low ranged beside = tt
from_told group (k ∷ ks) (v ∷ vs) low ranged beside =
    (and_from (is_initial k v) (nat_le group 15) (initial_is k v ranged.0 beside.0) low, from_told group ks vs low ranged.1 beside.1)

-- lock groups are at most 15
or_zero : (o : Option ℕ) → IsSize 15 o → nat_le (unwrap_or o 0) 15 ≡ true
or_zero None is = refl
or_zero (Some n) is = (and_parts (nat_le 1 n) (nat_le n 15) is).1

abbrev IsLow : Option ℕ → Type 0
IsLow None = Unit {0}
IsLow (Some group) = nat_le group 15 ≡ true

either_low : (a b : Option ℕ) → IsLow a → IsLow b → IsLow (option_or a b)
either_low None b one other = other
either_low (Some group) b one other = one

abbrev HasLowGroup : Storing → Type 0
HasLowGroup (InCells group) = nat_le group 15 ≡ true
HasLowGroup other = Unit {0}

data_low : (shared automatic : Bool) (group : Option ℕ) → IsLow group → HasLowGroup (storing_of_data shared automatic group)
data_low shared automatic (Some group) low = low
data_low shared true None low = tt
data_low true false None low = refl
data_low false false None low = tt

if_low : (b : Bool) (one other : Storing) → HasLowGroup one → HasLowGroup other → HasLowGroup (if b then one else other)
if_low true one other first second = first
if_low false one other first second = second

module _ (ps : List Phrase) (vs : Known) where
  in_low : (p : Phrase) (a : Attribute) → IsLow (group_in ps vs p a)
  in_low p (LockGroup place group) = or_zero (size_of 15 (constant_of ps vs p group)) (size_is 15 (constant_of ps vs p group))
  in_low p other = tt

  among_low : (p : Phrase) (attributes : List Attribute) → IsLow (group_among ps vs p attributes)
  among_low p [] = tt
  among_low p (a ∷ others) = either_low (group_in ps vs p a) (group_among ps vs p others) (in_low p a) (among_low p others)

  item_low : (p : Phrase) (common : List Attribute) (item : Declared) (given : Option Bool) → HasLowGroup (storing_of_item ps vs p common item given)
  item_low p common item (Some true) = tt
  item_low p common item (Some false) = tt
  item_low p common item None =
      if_low (is_event_type (type_of common item) || is_value_item common item) Unstored
      (storing_of_data (home_shares ps p.around.home) (has_mark Automatic (item.attributes ++ common)) (group_among ps vs p (item.attributes ++ common))) tt
      (data_low (home_shares ps p.around.home) (has_mark Automatic (item.attributes ++ common)) (group_among ps vs p (item.attributes ++ common)) (among_low p (item.attributes ++ common)))

  stored_low : (p : Phrase) (common : List Attribute) (item : Declared) → HasLowGroup (storing ps vs p (OfItem common item))
  stored_low p common item =
      if_low (is_in_unit ps p.around.home) (storing_of_item ps vs p common item (parameter ps p.around.home item.name.name)) Unstored (item_low p common item (parameter ps p.around.home item.name.name)) tt

  item_filled : (p : Phrase) (common : List Attribute) (item : Declared) (how : Storing) → Each IsFilled (places_of_item ps vs p common item how)
  item_filled p common item InPlaces =
      let ks = kinds_of (shape_of ps vs p common item) in
      from_filled p.number (has_mark Automatic (item.attributes ++ common)) ks (first_values ps vs p (item.attributes ++ common) ks) (kinds_ranged ps vs p common item) (first_beside ps vs p (item.attributes ++ common) ks)
  item_filled p common item ByReference = ((λ k is. absurd (cc)), tt)
  item_filled p common item (InCells group) = tt
  item_filled p common item Unstored = tt

  pub at_filled : (p : Phrase) (node : Node) → Each IsFilled (places_at ps vs p node)
  at_filled p (OfItem common item) = item_filled p common item (storing ps vs p (OfItem common item))
  at_filled p (OfTemporaryGroup labels variable) = hidden_filled p.number 5
  at_filled p (OfGroup labels looping) = each_if IsFilled (is_for_or_case ps p.number) (hidden p.number 4) (hidden_filled p.number 4)
  at_filled p other = tt

  item_told : (p : Phrase) (common : List Attribute) (item : Declared) (how : Storing) → HasLowGroup how → Each IsToldCell (cells_of_item ps vs p common item how)
  item_told p common item (InCells group) low =
      let ks = kinds_of (shape_of ps vs p common item) in
      from_told group ks (first_values ps vs p (item.attributes ++ common) ks) low (kinds_ranged ps vs p common item) (first_beside ps vs p (item.attributes ++ common) ks)
  item_told p common item other low = tt

  cells_told_at : (p : Phrase) (node : Node) → Each IsToldCell (cells_at ps vs p node)
  cells_told_at p (OfItem common item) = item_told p common item (storing ps vs p (OfItem common item)) (stored_low p common item)
  cells_told_at p other = tt

  cells_told : Each IsToldCell (cells_of ps vs)
  cells_told = each_flat (λ (p : Phrase). Unit {0}) IsToldCell (λ (p : Phrase). cells_at ps vs p p.node) ps (each_one (λ (p : Phrase). Unit {0}) ps (λ p. tt)) (λ p so. cells_told_at p p.node)

each_told : {X : Type 0} (test : X → Bool) (xs : List X) → Each (λ x. test x ≡ true) xs → list_all test xs ≡ true
each_told test [] each = refl
each_told test (x ∷ xs) each = and_from (test x) (list_all test xs) each.0 (each_told test xs each.1)

-- the rows of shared cells
pub cell_rows_right : (s : Set) → s.tables.cells ≡ cells_of s.phrases s.constants → list_all cell_right (rows_joined same_cell s.tables.cells) ≡ true
cell_rows_right s same = joined_pass same_cell cell_told s.tables.cells (subst (λ cells. list_all cell_told cells ≡ true) (sym same) (each_told cell_told (cells_of s.phrases s.constants) (cells_told s.phrases s.constants)))

abbrev pub place_told : Shapes → OwnPlace → Bool
place_told shapes one = elim one [ place.Data kind initial ↦ is_initial kind initial | place.Reference shape ↦ nat_lt shape (length shapes) ]

row_told : (s : Set) (shapes : Shapes) (one : Place) (o : Option Kind) → one.kind ≡ o → IsFilled one → IsNumbered s shapes one → place_told shapes (elim o [ None ↦ place.Reference (reference_shape s shapes one.owner) | Some k ↦ place.Data k one.initial ]) ≡ true
row_told s shapes one None is filled numbered = numbered is
row_told s shapes one (Some k) is filled numbered = filled k is

rows_told : (s : Set) (shapes : Shapes) (places : List Place) → Each IsFilled places → Each (IsNumbered s shapes) places → list_all (place_told shapes) (map (own_row s shapes) places) ≡ true
rows_told s shapes [] filled numbered = refl
rows_told s shapes (one ∷ places) filled numbered =
    and_from (place_told shapes (own_row s shapes one)) (list_all (place_told shapes) (map (own_row s shapes) places)) (row_told s shapes one one.kind refl filled.0 numbered.0) (rows_told s shapes places filled.1 numbered.1)

-- the rows of the own places of a process
pub place_rows_right : (s : Set) (shapes : Shapes) (process : ℕ) → Each (IsNumbered s shapes) (places_of_process s process)
    → list_all (λ (run : Run OwnPlace). place_told shapes run.row) (rows_joined same_place (map (own_row s shapes) (places_of_process s process))) ≡ true
place_rows_right s shapes process numbered =
    joined_pass same_place (place_told shapes) (map (own_row s shapes) (places_of_process s process))
    (rows_told s shapes (places_of_process s process) (process_each s IsFilled (λ (p : Phrase). at_filled s.phrases s.constants p p.node) process) numbered)
