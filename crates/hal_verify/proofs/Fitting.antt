-- Views, and own places, by what stands there.
use Rattle.std.specs.Prelude.{◌≡◌, ℕ, zero, suc, ◌+◌, nat_le, nat_lt, Bool, true, false, ◌&&◌, List, [], ◌∷◌, drop, length, map, Option, Some, None, slice_get}
use Rattle.std.specs.Option.{option_map}
use Rattle.std.specs.List.{list_all}
use Rattle.std.proofs.Common.{refl, ap, sym, ◌∙◌, arith}
use Rattle.std.proofs.lemmas.List.{length-map}
use Rattle.std.proofs.lemmas.Option.{slice_get-map}
use Rattle.hal_values.specs.declared.tables.Cell.{Cell}
use Rattle.hal_values.specs.declared.value.Kind.{Kind}
use Rattle.hal_code.specs.declared.image.ImageParts.{ImageParts}
use Rattle.hal_code.specs.declared.row.Base.{Base}
use Rattle.hal_code.specs.declared.row.Base.TheVariants as base
use Rattle.hal_code.specs.declared.row.OwnPlace.{OwnPlace}
use Rattle.hal_code.specs.declared.row.OwnPlace.TheVariants as place
use Rattle.hal_code.specs.declared.row.Target.{Target}
use Rattle.hal_code.specs.declared.row.Target.TheVariants as target
use Rattle.hal_code.specs.declared.row.View.{View}
use Rattle.hal_code.specs.Images.{expanded, kinds_of}
use Rattle.hal_code.specs.Memory.{lies_from, own_memory, shared_memory, shape_memory, kind_of_place, shape_of_place, target_kinds, all_lie, lies_through, fits_places, are_data, referred_shape, offsets}
use Rattle.hal_verify.specs.Rooms.{room_of_place, room_of_cell, room_of_kind, kind_in, all_hold, lie}
use Rattle.hal_verify.specs.Viewing.{kind_runs, view_lies, lies_behind, fits_rooms}
use Rattle.hal_verify.specs.Placing.{referred_by, is_there}
use Rattle.hal_verify.specs.declared.room.Room.{Room}
use Rattle.hal_verify.proofs.Lying.{lies_there, spread_there}

kind_there : (one : OwnPlace) → kind_of_place one ≡ kind_in (room_of_place one)
kind_there (place.Data kind initial) = refl
kind_there (place.Reference shape) = refl

own_rooms : (places : List OwnPlace) → own_memory places ≡ map kind_in (map room_of_place places)
own_rooms [] = refl
own_rooms (one ∷ places) = ap (λ k. k ∷ own_memory places) (kind_there one) ∙ ap (λ list. kind_in (room_of_place one) ∷ list) (own_rooms places)

shape_rooms : (kinds : List Kind) → map (λ (k : Kind). Some k) kinds ≡ map kind_in (map room_of_kind kinds)
shape_rooms [] = refl
shape_rooms (k ∷ kinds) = ap (λ list. Some k ∷ list) (shape_rooms kinds)

cell_rooms : (cells : List Cell) → map (λ (cell : Cell). Some cell.kind) cells ≡ map kind_in (map room_of_cell cells)
cell_rooms [] = refl
cell_rooms (cell ∷ cells) = ap (λ list. Some cell.kind ∷ list) (cell_rooms cells)

pub shape_kinds : (image : ImageParts) (shape : ℕ) → kinds_of image shape ≡ expanded (kind_runs image (target.Shape shape))
shape_kinds image shape = elim (slice_get image.shapes shape) as (λ found. elim found [ None ↦ [] | Some runs ↦ expanded runs ] ≡ expanded (elim found [ None ↦ [] | Some runs ↦ runs ])) [ None ↦ refl | Some runs ↦ refl ]

kinds_there : (image : ImageParts) (one : Target) → target_kinds image one ≡ expanded (kind_runs image one)
kinds_there image (target.Cell kind) = refl
kinds_there image (target.Shape shape) = shape_kinds image shape

-- all addresses of a view lie in memory
pub lies_all : (image : ImageParts) (view : View) (memory : List (Option Kind)) (rooms : List Room) (number : ℕ) → memory ≡ map kind_in rooms
    → all_lie image view memory number ≡ view_lies image view (drop number rooms)
lies_all image view memory rooms number is =
    ap (λ m. all_lie image view m number) is
    ∙ ap (λ kinds. list_all (λ n. lies_from (map kind_in rooms) (number + n) kinds) (offsets view.dimensions)) (kinds_there image view.target)
    ∙ spread_there rooms (kind_runs image view.target) view.dimensions number

pub shared_there : (image : ImageParts) (view : View) (number : ℕ) → all_lie image view (shared_memory image) number ≡ view_lies image view (drop number (map room_of_cell (expanded image.cells)))
shared_there image view number = lies_all image view (shared_memory image) (map room_of_cell (expanded image.cells)) number (cell_rooms (expanded image.cells))

-- what stands at a place
pub get_there : {X : Type 0} (n : ℕ) (xs : List X) → slice_get (drop n xs) 0 ≡ slice_get xs n
get_there zero xs = refl
get_there (suc n) [] = refl
get_there (suc n) (x ∷ xs) = get_there n xs

through : (image : ImageParts) (view : View) (offset : ℕ) (found : Option OwnPlace) → lies_through image view offset found ≡ lies_behind image view offset (option_map room_of_place found)
through image view offset None = refl
through image view offset (Some (place.Data kind initial)) = refl
through image view offset (Some (place.Reference shape)) =
    lies_all image view (shape_memory image shape) (map room_of_kind (kinds_of image shape)) offset (shape_rooms (kinds_of image shape))

room_there : (places : List OwnPlace) (n : ℕ) → option_map room_of_place (slice_get places n) ≡ slice_get (drop n (map room_of_place places)) 0
room_there places n = sym (slice_get-map room_of_place places n) ∙ sym (get_there n (map room_of_place places))

-- a view fits own places
abbrev places_by : ImageParts → View → List OwnPlace → Base → Bool
places_by image view places b = elim b [
  | base.Shared number ↦ true
  | base.Own number ↦ all_lie image view (own_memory places) number
  | base.Through place offset ↦ lies_through image view offset (slice_get places place)
  | base.Other byte number ↦ false
]

abbrev pub rooms_by : ImageParts → View → List Room → Base → Bool
rooms_by image view rooms b = elim b [
  | base.Shared number ↦ true
  | base.Own number ↦ view_lies image view (drop number rooms)
  | base.Through place offset ↦ lies_behind image view offset (slice_get (drop place rooms) 0)
  | base.Other byte number ↦ false
]

fits_base : (image : ImageParts) (view : View) (places : List OwnPlace) (b : Base) → places_by image view places b ≡ rooms_by image view (map room_of_place places) b
fits_base image view places (base.Shared number) = refl
fits_base image view places (base.Own number) = lies_all image view (own_memory places) (map room_of_place places) number (own_rooms places)
fits_base image view places (base.Through place offset) =
    through image view offset (slice_get places place) ∙ ap (λ found. lies_behind image view offset found) (room_there places place)
fits_base image view places (base.Other byte number) = refl

pub fits_there : (image : ImageParts) (view : View) (places : List OwnPlace) → fits_places image view places ≡ fits_rooms image view (map room_of_place places)
fits_there image view places = fits_base image view places view.base

-- a reference at a place
referred_at : (found : Option OwnPlace) → elim found [ None ↦ None | Some one ↦ shape_of_place one ] ≡ referred_by (option_map room_of_place found)
referred_at None = refl
referred_at (Some (place.Data kind initial)) = refl
referred_at (Some (place.Reference shape)) = refl

pub referred_there : (places : List OwnPlace) (n : ℕ) → referred_shape places n ≡ referred_by (slice_get (drop n (map room_of_place places)) 0)
referred_there places n = referred_at (slice_get places n) ∙ ap referred_by (room_there places n)

-- a place is there
pub place_there : (n : ℕ) (places : List OwnPlace) → nat_lt n (length places) ≡ is_there (slice_get (drop n (map room_of_place places)) 0)
place_there zero [] = grind (arith)
place_there zero (one ∷ places) = grind (arith)
place_there (suc n) [] = grind (arith)
place_there (suc n) (one ∷ places) = less (length places) ∙ place_there n places
  where
    less : (k : ℕ) → nat_lt (suc n) (suc k) ≡ nat_lt n k
    less k = grind (arith)

-- the kinds of a shape stand at own places
pub copied_there : (image : ImageParts) (places : List OwnPlace) (n shape : ℕ)
    → lies_from (own_memory places) n (kinds_of image shape) ≡ lie (drop n (map room_of_place places)) (kind_runs image (target.Shape shape))
copied_there image places n shape =
    ap (λ m. lies_from m n (kinds_of image shape)) (own_rooms places)
    ∙ ap (λ kinds. lies_from (map kind_in (map room_of_place places)) n kinds) (shape_kinds image shape)
    ∙ lies_there (map room_of_place places) n (kind_runs image (target.Shape shape))

-- places that hold values
nat_le_next : (n k : ℕ) → nat_le (suc n) (suc k) ≡ nat_le n k
nat_le_next n k = grind (arith)

abbrev data_at : Option OwnPlace → Bool → Bool
data_at None others = false
data_at (Some (place.Data kind initial)) others = others
data_at (Some (place.Reference shape)) others = false

data_by : (found : Option OwnPlace) (others : Bool) → elim found [ None ↦ false | Some one ↦ elim (kind_of_place one) [ None ↦ false | Some k ↦ others ] ] ≡ data_at found others
data_by None others = refl
data_by (Some (place.Data kind initial)) others = refl
data_by (Some (place.Reference shape)) others = refl

data_next : (one : OwnPlace) (places : List OwnPlace) (n count : ℕ) → are_data (one ∷ places) (suc n) count ≡ are_data places n count
data_next one places n zero = nat_le_next n (length places)
data_next one places n (suc count) =
    data_by (slice_get places n) (are_data (one ∷ places) (suc (suc n)) count)
    ∙ ap (λ others. data_at (slice_get places n) others) (data_next one places (suc n) count)
    ∙ sym (data_by (slice_get places n) (are_data places (suc n) count))

none_first : (k : ℕ) → nat_le 0 k ≡ true
none_first k = grind (arith)

data_first : (one : OwnPlace) (others : Bool) (rooms : List Room) (count : ℕ) → others ≡ all_hold None count rooms → data_at (Some one) others ≡ all_hold None (suc count) (room_of_place one ∷ rooms)
data_first (place.Data kind initial) others rooms count is = is
data_first (place.Reference shape) others rooms count is = refl

data_start : (places : List OwnPlace) (count : ℕ) → are_data places 0 count ≡ all_hold None count (map room_of_place places)
data_start places zero = none_first (length places)
data_start [] (suc count) = refl
data_start (one ∷ places) (suc count) =
    data_by (Some one) (are_data (one ∷ places) 1 count)
    ∙ data_first one (are_data (one ∷ places) 1 count) (map room_of_place places) count (data_next one places 0 count ∙ data_start places count)

none_past : (n : ℕ) → nat_le (suc n) 0 ≡ false
none_past n = grind (arith)

data_from : (places : List OwnPlace) (n count : ℕ) → are_data places n count ≡ (nat_le n (length places) && all_hold None count (drop n (map room_of_place places)))
data_from places zero count = data_start places count ∙ ap (λ b. b && all_hold None count (map room_of_place places)) (sym (none_first (length places)))
data_from [] (suc n) zero = none_past n ∙ ap (λ b. b && true) (sym (none_past n))
data_from [] (suc n) (suc count) = ap (λ b. b && false) (sym (none_past n))
data_from (one ∷ places) (suc n) count =
    data_next one places n count
    ∙ data_from places n count
    ∙ ap (λ b. b && all_hold None count (drop n (map room_of_place places))) (sym (nat_le_next n (length places)))

pub data_there : (places : List OwnPlace) (n count : ℕ) → are_data places n count ≡ (nat_le n (length (map room_of_place places)) && all_hold None count (drop n (map room_of_place places)))
data_there places n count = data_from places n count ∙ ap (λ k. nat_le n k && all_hold None count (drop n (map room_of_place places))) (sym (length-map places room_of_place))

-- at least one place that holds values
pub some_data : (places : List OwnPlace) (n count : ℕ) → are_data places n (suc count) ≡ all_hold None (suc count) (drop n (map room_of_place places))
some_data places zero count = data_start places (suc count)
some_data [] (suc n) count = refl
some_data (one ∷ places) (suc n) count = data_next one places n (suc count) ∙ some_data places n count
