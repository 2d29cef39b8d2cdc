-- The elements of report names, copy by copy.
use Rattle.std.specs.Prelude.{◌≡◌, ℕ, zero, suc, ◌+◌, ◌-◌, ◌*◌, ◌<◌, ◌≤◌, ◌==◌, nat_le, length, Bool, true, false, ◌&&◌, List, [], ◌∷◌, drop, map, replicate, None, if◌then◌else◌}
use Rattle.std.specs.List.{list_all, range_with_len}
use Rattle.std.proofs.Common.{refl, ap, sym, ◌∙◌, arith, ⊎_elim, ne_eqb, le-leb}
use Rattle.std.proofs.lemmas.Bool.{cases_lt}
use Rattle.std.proofs.lemmas.List.{length-append, length-replicate, length-map}
use Rattle.hal_values.specs.ReportElements.{size_of}
use Rattle.hal_values.specs.declared.tables.ReportName.{ReportName}
use Rattle.hal_values.specs.declared.tables.ReportBase.{ReportBase}
use Rattle.hal_values.specs.declared.tables.ReportBase.TheVariants as named
use Rattle.hal_code.specs.declared.image.ImageParts.{ImageParts}
use Rattle.hal_code.specs.declared.row.OwnPlace.{OwnPlace}
use Rattle.hal_code.specs.declared.row.Run.{Run}
use Rattle.hal_code.specs.Images.{expanded, row_count, places_of}
use Rattle.hal_code.specs.Memory.{are_data}
use Rattle.hal_code.specs.Operands.{events_of}
use Rattle.hal_code.specs.Right.{copies_of, line_count, name_right}
use Rattle.hal_verify.specs.Rooms.{room_of_place, all_hold, each_lies}
use Rattle.hal_verify.specs.Naming.{ends_within, each_holds, own_there}
use Rattle.hal_verify.specs.declared.room.Room.{Room}
use Rattle.hal_verify.proofs.Lying.{turns, all_alike}
use Rattle.hal_verify.proofs.Fitting.{some_data}

-- how many places runs have
pub row_length : (runs : List (Run Room)) → length (expanded runs) ≡ row_count runs
row_length [] = refl
row_length (run ∷ runs) =
    length-append (replicate run.repeat run.row) (expanded runs)
    ∙ ap (λ n. n + length (expanded runs)) (length-replicate run.repeat run.row)
    ∙ ap (λ n. run.repeat + n) (row_length runs)

-- the last one of some numbers decides
and_false : (b : Bool) → (b && false) ≡ false
and_false true = refl
and_false false = refl

and_true : (b : Bool) → (b && true) ≡ b
and_true true = refl
and_true false = refl

not_le : (n m : ℕ) → m < n → nat_le n m ≡ false
not_le n m less = grind (arith)

le_both : (x y t : ℕ) → x ≤ y → (nat_le x t && nat_le y t) ≡ nat_le y t
le_both x y t below =
    ⊎_elim
    (λ (less : t < y). ap (λ b. nat_le x t && b) (not_le y t less) ∙ and_false (nat_le x t) ∙ sym (not_le y t less))
    (λ (more : y ≤ t). ap (λ b. b && nat_le y t) (le-leb x t (omega (arith, below, more))))
    (cases_lt t y)

further : (a n s : ℕ) → (a + suc n) * s ≡ a * s + suc n * s
further a n s = omega arith

last_one : (f s c t n a : ℕ) → list_all (λ i. nat_le ((f + i * s) + c) t) (range_with_len a (suc n)) ≡ nat_le ((f + (a + n) * s) + c) t
last_one f s c t zero a = and_true (nat_le ((f + a * s) + c) t) ∙ (let same : a ≡ a + 0 = omega arith in ap (λ k. nat_le ((f + k * s) + c) t) same)
last_one f s c t (suc n) a =
    ap (λ b. nat_le ((f + a * s) + c) t && b) (last_one f s c t n (a + 1))
    ∙ (let same : (a + 1) + n ≡ a + suc n = omega arith in ap (λ k. nat_le ((f + a * s) + c) t && nat_le ((f + k * s) + c) t) same)
    ∙ le_both ((f + a * s) + c) ((f + (a + suc n) * s) + c) t (omega (arith, further a n s))

last_copy : (f s c t n : ℕ) → 0 < n → list_all (λ i. nat_le ((f + i * s) + c) t) (range_with_len 0 n) ≡ nat_le ((f + (n - 1) * s) + c) t
last_copy f s c t zero some = absurd (omega (arith, some))
last_copy f s c t (suc n) some = last_one f s c t n 0 ∙ (let same : 0 + n ≡ suc n - 1 = omega arith in ap (λ k. nat_le ((f + k * s) + c) t) same)

some_copies : (name : ReportName) → 0 < copies_of name
some_copies name = by name.copies
  where
    by : (n : ℕ) → 0 < (if n == 0 then 1 else n)
    by zero = omega arith
    by (suc n) = (let is : (suc n == 0) ≡ false = ne_eqb (suc n) 0 (λ same. omega (arith, same)) in rw is (omega arith))

pub all_within : (name : ReportName) (size total : ℕ) → list_all (λ copy. nat_le ((name.first + copy * name.stride) + size) total) (range_with_len 0 (copies_of name)) ≡ ends_within name size total
all_within name size total = last_copy name.first name.stride size total (copies_of name) (some_copies name)

-- own places
pub own_all : (name : ReportName) (places : List OwnPlace) (size : ℕ)
    → list_all (λ copy. are_data places (name.first + copy * name.stride) size) (range_with_len 0 (copies_of name)) ≡ own_there name size (map room_of_place places)
own_all name places zero =
    all_alike (λ copy. nat_le (name.first + copy * name.stride) (length places)) (λ copy. nat_le ((name.first + copy * name.stride) + 0) (length places))
    (λ copy. let same : name.first + copy * name.stride ≡ (name.first + copy * name.stride) + 0 = omega arith in ap (λ k. nat_le k (length places)) same)
    (range_with_len 0 (copies_of name))
    ∙ all_within name 0 (length places)
    ∙ ap (λ total. ends_within name 0 total) (sym (length-map places room_of_place))
own_all name places (suc size) =
    all_alike (λ copy. are_data places (name.first + copy * name.stride) (suc size)) (λ copy. all_hold None (suc size) (drop (name.first + copy * name.stride) (map room_of_place places)))
    (λ copy. some_data places (name.first + copy * name.stride) size) (range_with_len 0 (copies_of name))
    ∙ sym (turns (map room_of_place places) name.first name.stride (all_hold None (suc size)) (λ copy. all_hold None (suc size) (drop (name.first + copy * name.stride) (map room_of_place places)))
    (λ copy. refl) (copies_of name) 0)
    ∙ (let same : name.first + 0 * name.stride ≡ name.first = omega arith in
    ap (λ k. each_lies (all_hold None (suc size)) name.stride (copies_of name) (drop k (map room_of_place places))) same)
    ∙ sym (ap (λ b. if b then ends_within name 0 (length (map room_of_place places)) else each_holds name (suc size) (map room_of_place places))
    (ne_eqb (suc size) 0 (λ same. omega (arith, same))))

abbrev there_by : ImageParts → ReportName → ℕ → ReportBase → Bool
there_by image name size b = elim b [
  | named.Shared ↦ ends_within name size (row_count image.cells)
  | named.Own p ↦ own_there name size (map room_of_place (places_of image p))
  | named.Event ↦ ends_within name size (events_of image)
]

abbrev copy_by : ImageParts → ReportBase → ℕ → ℕ → Bool
copy_by image b from count = elim b [
  | named.Shared ↦ nat_le (from + count) (row_count image.cells)
  | named.Own p ↦ are_data (places_of image p) from count
  | named.Event ↦ nat_le (from + count) (events_of image)
]

by_base : (image : ImageParts) (name : ReportName) (b : ReportBase)
    → list_all (λ copy. copy_by image b (name.first + copy * name.stride) (size_of name.dimensions)) (range_with_len 0 (copies_of name)) ≡ there_by image name (size_of name.dimensions) b
by_base image name named.Shared = all_within name (size_of name.dimensions) (row_count image.cells)
by_base image name (named.Own p) = own_all name (places_of image p) (size_of name.dimensions)
by_base image name named.Event = all_within name (size_of name.dimensions) (events_of image)

pub shared_right : (image : ImageParts) (name : ReportName) → name.base ≡ named.Shared → name_right image name ≡ ends_within name (size_of name.dimensions) (row_count image.cells)
shared_right image name is = by_base image name name.base ∙ ap (λ b. there_by image name (size_of name.dimensions) b) is

pub own_right : (image : ImageParts) (name : ReportName) (p : ℕ) → name.base ≡ named.Own p → name_right image name ≡ own_there name (size_of name.dimensions) (map room_of_place (places_of image p))
own_right image name p is = by_base image name name.base ∙ ap (λ b. there_by image name (size_of name.dimensions) b) is

pub event_right : (image : ImageParts) (name : ReportName) → name.base ≡ named.Event → name_right image name ≡ ends_within name (size_of name.dimensions) (events_of image)
event_right image name is = by_base image name name.base ∙ ap (λ b. there_by image name (size_of name.dimensions) b) is

-- bounds
factor : (n s m : ℕ) → 0 < n → n * s ≤ m → s ≤ m
factor zero s m some few = absurd (omega (arith, some))
factor (suc n) s m some few = omega (arith, few)

pub size_few : (name : ReportName) (m : ℕ) → line_count name ≤ m → size_of name.dimensions ≤ m
size_few name m few = factor (copies_of name) (size_of name.dimensions) m (some_copies name) few
