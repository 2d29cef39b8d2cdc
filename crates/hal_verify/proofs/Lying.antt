-- Which kinds stand in memory, by runs.
use Rattle.std.specs.Prelude.{◌≡◌, ℕ, zero, suc, ◌+◌, ◌*◌, Bool, true, false, ◌&&◌, List, [], ◌∷◌, ◌++◌, drop, map, replicate, flat_map, Option, Some, None, slice_get}
use Rattle.std.specs.List.{list_all, range_with_len}
use Rattle.std.proofs.Common.{refl, ap, sym, ◌∙◌, arith}
use Rattle.std.proofs.lemmas.List.{drop-drop}
use Rattle.std.proofs.lemmas.List.Folds.{list_all-append, list_all-map}
use Rattle.hal_values.specs.declared.value.Kind.{Kind}
use Rattle.hal_code.specs.declared.row.Dimension.{Dimension}
use Rattle.hal_code.specs.declared.row.Run.{Run}
use Rattle.hal_code.specs.Images.{expanded}
use Rattle.hal_code.specs.Memory.{lies_from, offsets}
use Rattle.hal_code.specs.Sorts.{same_kind}
use Rattle.hal_verify.specs.Rooms.{kind_in, holds, all_hold, lie, each_lies, spread_lies}
use Rattle.hal_verify.specs.declared.room.Room.{Room}
use Rattle.hal_verify.specs.declared.room.Room.TheVariants as room

-- kinds one by one
abbrev lies_list : List Room → List Kind → Bool
lies_list rooms [] = true
lies_list [] (k ∷ ks) = false
lies_list (one ∷ rooms) (k ∷ ks) = holds (Some k) one && lies_list rooms ks

-- what a place says of the first kind, where this is so of the others
abbrev at_place : Kind → Option (Option Kind) → Bool → Bool
at_place k None others = false
at_place k (Some None) others = false
at_place k (Some (Some found)) others = same_kind found k && others

by_place : (memory : List (Option Kind)) (n : ℕ) (k : Kind) (ks : List Kind) → lies_from memory n (k ∷ ks) ≡ at_place k (slice_get memory n) (lies_from memory (suc n) ks)
by_place memory n k ks = elim (slice_get memory n) as (λ there. elim there [ None ↦ false | Some one ↦ elim one [ None ↦ false | Some found ↦ same_kind found k && lies_from memory (suc n) ks ] ] ≡ at_place k there (lies_from memory (suc n) ks)) [
  | None ↦ refl
  | Some one ↦ elim one as (λ x. elim x [ None ↦ false | Some found ↦ same_kind found k && lies_from memory (suc n) ks ] ≡ at_place k (Some x) (lies_from memory (suc n) ks)) [ None ↦ refl | Some found ↦ refl ]
]

-- one place further on
shifted : (there : Option Kind) (memory : List (Option Kind)) (n : ℕ) (ks : List Kind) → lies_from (there ∷ memory) (suc n) ks ≡ lies_from memory n ks
shifted there memory n [] = refl
shifted there memory n (k ∷ ks) =
    by_place (there ∷ memory) (suc n) k ks
    ∙ ap (λ others. at_place k (slice_get memory n) others) (shifted there memory (suc n) ks)
    ∙ sym (by_place memory n k ks)

by_room : (k : Kind) (one : Room) (others : Bool) → at_place k (Some (kind_in one)) others ≡ (holds (Some k) one && others)
by_room k (room.Of kind) others = refl
by_room k (room.To shape) others = refl

from_start : (rooms : List Room) (ks : List Kind) → lies_from (map kind_in rooms) 0 ks ≡ lies_list rooms ks
from_start rooms [] = refl
from_start [] (k ∷ ks) = refl
from_start (one ∷ rooms) (k ∷ ks) =
    by_place (map kind_in (one ∷ rooms)) 0 k ks
    ∙ ap (λ others. at_place k (Some (kind_in one)) others) (shifted (kind_in one) (map kind_in rooms) 0 ks ∙ from_start rooms ks)
    ∙ by_room k one (lies_list rooms ks)

from_place : (rooms : List Room) (n : ℕ) (ks : List Kind) → lies_from (map kind_in rooms) n ks ≡ lies_list (drop n rooms) ks
from_place rooms zero ks = from_start rooms ks
from_place [] (suc n) [] = refl
from_place [] (suc n) (k ∷ ks) = refl
from_place (one ∷ rooms) (suc n) ks = shifted (kind_in one) (map kind_in rooms) n ks ∙ from_place rooms n ks

and_behind : (a b c : Bool) → (a && (b && c)) ≡ ((a && b) && c)
and_behind true b c = refl
and_behind false b c = refl

-- a run of kinds
of_run : (n : ℕ) (k : Kind) (ks : List Kind) (rooms : List Room) → lies_list rooms (replicate n k ++ ks) ≡ (all_hold (Some k) n rooms && lies_list (drop n rooms) ks)
of_run zero k ks rooms = refl
of_run (suc n) k ks [] = refl
of_run (suc n) k ks (one ∷ rooms) =
    ap (λ b. holds (Some k) one && b) (of_run n k ks rooms) ∙ and_behind (holds (Some k) one) (all_hold (Some k) n rooms) (lies_list (drop n rooms) ks)

of_runs : (runs : List (Run Kind)) (rooms : List Room) → lies_list rooms (expanded runs) ≡ lie rooms runs
of_runs [] rooms = refl
of_runs (run ∷ runs) rooms = of_run run.repeat run.row (expanded runs) rooms ∙ ap (λ b. all_hold (Some run.row) run.repeat rooms && b) (of_runs runs (drop run.repeat rooms))

pub lies_there : (rooms : List Room) (n : ℕ) (runs : List (Run Kind)) → lies_from (map kind_in rooms) n (expanded runs) ≡ lie (drop n rooms) runs
lies_there rooms n runs = from_place rooms n (expanded runs) ∙ of_runs runs (drop n rooms)

-- tests of all of a list
pub all_alike : {X : Type 0} (p q : X → Bool) (same : (x : X) → p x ≡ q x) (xs : List X) → list_all p xs ≡ list_all q xs
all_alike p q same [] = refl
all_alike p q same (x ∷ xs) = ap (λ b. b && list_all p xs) (same x) ∙ ap (λ b. q x && b) (all_alike p q same xs)

all_flat : {X Y : Type 0} (p : Y → Bool) (f : X → List Y) (xs : List X) → list_all p (flat_map f xs) ≡ list_all (λ x. list_all p (f x)) xs
all_flat p f [] = refl
all_flat p f (x ∷ xs) = list_all-append p (f x) (flat_map f xs) ∙ ap (λ b. list_all p (f x) && b) (all_flat p f xs)

-- the addresses of one more dimension
all_offsets : (p : ℕ → Bool) (d : Dimension) (ds : List Dimension)
    → list_all p (offsets (d ∷ ds)) ≡ list_all (λ i. list_all (λ n. p (i * d.stride + n)) (offsets ds)) (range_with_len 0 d.size)
all_offsets p d ds =
    all_flat p (λ i. map (λ n. i * d.stride + n) (offsets ds)) (range_with_len 0 d.size)
    ∙ all_alike (λ i. list_all p (map (λ n. i * d.stride + n) (offsets ds))) (λ i. list_all (λ n. p (i * d.stride + n)) (offsets ds))
    (λ i. list_all-map p (λ n. i * d.stride + n) (offsets ds)) (range_with_len 0 d.size)

same_drop : (n m : ℕ) (rooms : List Room) → n ≡ m → drop n rooms ≡ drop m rooms
same_drop n m rooms is = ap (λ k. drop k rooms) is

pub turns : (rooms : List Room) (number stride : ℕ) (test : List Room → Bool) (q : ℕ → Bool) (here : (i : ℕ) → test (drop (number + i * stride) rooms) ≡ q i) (n a : ℕ)
    → each_lies test stride n (drop (number + a * stride) rooms) ≡ list_all q (range_with_len a n)
turns rooms number stride test q here zero a = refl
turns rooms number stride test q here (suc n) a =
    ap (λ b. b && each_lies test stride n (drop stride (drop (number + a * stride) rooms))) (here a)
    ∙ ap (λ list. q a && each_lies test stride n list)
    (drop-drop stride (number + a * stride) rooms ∙ same_drop ((number + a * stride) + stride) (number + (a + 1) * stride) rooms (omega arith))
    ∙ ap (λ b. q a && b) (turns rooms number stride test q here n (a + 1))

abbrev lies_at : List Room → List (Run Kind) → ℕ → ℕ → Bool
lies_at rooms runs number n = lies_from (map kind_in rooms) (number + n) (expanded runs)

one_alone : (b c : Bool) → b ≡ c → (b && true) ≡ c
one_alone true c is = is
one_alone false c is = is

pub spread_there : (rooms : List Room) (runs : List (Run Kind)) (ds : List Dimension) (number : ℕ)
    → list_all (λ n. lies_from (map kind_in rooms) (number + n) (expanded runs)) (offsets ds) ≡ spread_lies runs ds (drop number rooms)
spread_there rooms runs [] number =
    one_alone (lies_from (map kind_in rooms) (number + 0) (expanded runs)) (lie (drop number rooms) runs)
    (lies_there rooms (number + 0) runs ∙ ap (λ list. lie list runs) (same_drop (number + 0) number rooms (omega arith)))
spread_there rooms runs (d ∷ ds) number =
    all_offsets (lies_at rooms runs number) d ds
    ∙ sym (turns rooms number d.stride (spread_lies runs ds) (λ i. list_all (λ n. lies_at rooms runs number (i * d.stride + n)) (offsets ds))
    (λ i. sym (spread_there rooms runs ds (number + i * d.stride))
    ∙ all_alike (lies_at rooms runs (number + i * d.stride)) (λ n. lies_at rooms runs number (i * d.stride + n))
    (λ n. let same : (number + i * d.stride) + n ≡ number + (i * d.stride + n) = omega arith in ap (λ k. lies_from (map kind_in rooms) k (expanded runs)) same)
    (offsets ds))
    d.size 0)
    ∙ ap (λ list. each_lies (spread_lies runs ds) d.stride d.size list) (same_drop (number + 0 * d.stride) number rooms (omega arith))
