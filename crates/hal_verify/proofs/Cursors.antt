-- Places behind so many alike.
use Rattle.std.specs.Prelude.{min, if◌then◌else◌, ◌≡◌, ℕ, zero, suc, ◌-◌, ◌+◌, ◌≤◌, ◌<◌, ◌==◌, nat_le, Bool, true, false, ◌&&◌, ◌||◌, List, [], ◌∷◌, ◌++◌, drop, length, replicate, Option, Some, slice_get}
use Rattle.std.proofs.Common.{refl, ap, sym, ◌∙◌, arith, add-one, le-leb, ne_eqb}
use Rattle.std.proofs.lemmas.List.{length-append, length-replicate}
use Rattle.hal_values.specs.declared.value.Kind.{Kind}
use Rattle.hal_code.specs.Images.{expanded}
use Rattle.hal_code.specs.declared.row.Run.{Run}
use Rattle.hal_verify.specs.Rooms.{holds, all_hold, each_lies, turns_of}
use Rattle.hal_verify.specs.declared.room.Room.{Room}

same_drop : {X : Type 0} (n m : ℕ) (xs : List X) → n ≡ m → drop n xs ≡ drop m xs
same_drop n m xs is = ap (λ k. drop k xs) is

-- within them
pub drop_within : {X : Type 0} (n c : ℕ) (x : X) (xs : List X) → n ≤ c → drop n (replicate c x ++ xs) ≡ replicate (c - n) x ++ xs
drop_within zero c x xs within = ap (λ k. replicate k x ++ xs) (omega arith)
drop_within (suc n) zero x xs within = absurd (omega (arith, within))
drop_within (suc n) (suc c) x xs within = drop_within n c x xs (omega (arith, within)) ∙ ap (λ k. replicate k x ++ xs) (omega arith)

-- behind all of them
pub drop_past : {X : Type 0} (n c : ℕ) (x : X) (xs : List X) → c ≤ n → drop n (replicate c x ++ xs) ≡ drop (n - c) xs
drop_past n zero x xs past = same_drop n (n - 0) xs (omega arith)
drop_past zero (suc c) x xs past = absurd (omega (arith, past))
drop_past (suc n) (suc c) x xs past = drop_past n c x xs (omega (arith, past)) ∙ same_drop (n - c) (suc n - suc c) xs (omega arith)

pub drop_none : {X : Type 0} (n : ℕ) → ◌≡◌ {A = List X} (drop n []) []
drop_none zero = refl
drop_none (suc n) = refl

pub first_alike : {X : Type 0} (c : ℕ) (x : X) (xs : List X) → 0 < c → slice_get (replicate c x ++ xs) 0 ≡ Some x
first_alike zero x xs some = absurd (omega (arith, some))
first_alike (suc c) x xs some = refl

-- how many there are
length_alike : {X : Type 0} (c : ℕ) (x : X) (xs : List X) → length (replicate c x ++ xs) ≡ c + length xs
length_alike c x xs = length-append (replicate c x) xs ∙ ap (λ k. k + length xs) (length-replicate c x)

pub long_within : {X : Type 0} (n c : ℕ) (x : X) (xs : List X) → n ≤ c → nat_le n (length (replicate c x ++ xs)) ≡ true
long_within n c x xs within = ap (λ k. nat_le n k) (length_alike c x xs) ∙ le-leb n (c + length xs) (omega (arith, within))

less : (n c k : ℕ) → c ≤ n → nat_le n (c + k) ≡ nat_le (n - c) k
less n zero k past = grind (arith)
less zero (suc c) k past = absurd (omega (arith, past))
less (suc n) (suc c) k past = grind (arith, less n c k (omega (arith, past)))

pub long_past : {X : Type 0} (n c : ℕ) (x : X) (xs : List X) → c ≤ n → nat_le n (length (replicate c x ++ xs)) ≡ nat_le (n - c) (length xs)
long_past n c x xs past = ap (λ k. nat_le n k) (length_alike c x xs) ∙ less n c (length xs) past

pub long_none : (n : ℕ) → 0 < n → nat_le n 0 ≡ false
long_none zero some = absurd (omega (arith, some))
long_none (suc n) some = grind (arith)

-- whether each of them holds
hold_all : (wanted : Option Kind) (n : ℕ) (one : Room) (rooms : List Room) → holds wanted one ≡ true → all_hold wanted (suc n) (one ∷ rooms) ≡ all_hold wanted n rooms
hold_all wanted n one rooms is = ap (λ b. b && all_hold wanted n rooms) is

hold_not : (wanted : Option Kind) (n : ℕ) (one : Room) (rooms : List Room) → holds wanted one ≡ false → all_hold wanted (suc n) (one ∷ rooms) ≡ false
hold_not wanted n one rooms is = ap (λ b. b && all_hold wanted n rooms) is

and_again : (b c : Bool) → (b && (b && c)) ≡ (b && c)
and_again true c = refl
and_again false c = refl

and_or : (b c : Bool) → (b && (c || b)) ≡ b
and_or true true = refl
and_or true false = refl
and_or false c = refl

and_false : (b : Bool) → (b && false) ≡ false
and_false true = refl
and_false false = refl

not_zero : (n : ℕ) → (suc n == 0) ≡ false
not_zero n = ne_eqb (suc n) 0 (λ is. omega (arith, is))

pub hold_within : (wanted : Option Kind) (n c : ℕ) (one : Room) (rooms : List Room) → n ≤ c → all_hold wanted n (replicate c one ++ rooms) ≡ ((n == 0) || holds wanted one)
hold_within wanted zero c one rooms within = refl
hold_within wanted (suc n) zero one rooms within = absurd (omega (arith, within))
hold_within wanted (suc n) (suc c) one rooms within =
    ap (λ b. holds wanted one && b) (hold_within wanted n c one rooms (omega (arith, within))) ∙ and_or (holds wanted one) (n == 0)
    ∙ sym (ap (λ b. b || holds wanted one) (not_zero n))

and_next : (b c d : Bool) → (b && ((c || b) && d)) ≡ (b && d)
and_next true true d = refl
and_next true false d = refl
and_next false c d = refl

pub hold_past : (wanted : Option Kind) (n c : ℕ) (one : Room) (rooms : List Room) → c ≤ n → all_hold wanted n (replicate c one ++ rooms) ≡ (((c == 0) || holds wanted one) && all_hold wanted (n - c) rooms)
hold_past wanted n zero one rooms past = ap (λ k. all_hold wanted k rooms) (omega arith)
hold_past wanted zero (suc c) one rooms past = absurd (omega (arith, past))
hold_past wanted (suc n) (suc c) one rooms past =
    ap (λ b. holds wanted one && b) (hold_past wanted n c one rooms (omega (arith, past)))
    ∙ and_next (holds wanted one) (c == 0) (all_hold wanted (n - c) rooms)
    ∙ sym (ap (λ b. (b || holds wanted one) && all_hold wanted (n - c) rooms) (not_zero c))
    ∙ (let same : n - c ≡ suc n - suc c = omega arith in ap (λ k. ((suc c == 0) || holds wanted one) && all_hold wanted k rooms) same)

pub hold_none : (wanted : Option Kind) (n : ℕ) → 0 < n → all_hold wanted n [] ≡ false
hold_none wanted zero some = absurd (omega (arith, some))
hold_none wanted (suc n) some = refl

pub hold_short : (wanted : Option Kind) (n c : ℕ) (one : Room) (rooms : List Room) → rooms ≡ [] → c < n → all_hold wanted n (replicate c one ++ rooms) ≡ false
hold_short wanted n c one rooms none short =
    hold_past wanted n c one rooms (omega (arith, short))
    ∙ ap (λ list. ((c == 0) || holds wanted one) && all_hold wanted (n - c) list) none
    ∙ ap (λ b. ((c == 0) || holds wanted one) && b) (hold_none wanted (n - c) (omega (arith, short)))
    ∙ and_false ((c == 0) || holds wanted one)

-- one turn of a dimension
pub one_turn : (test : List Room → Bool) (stride n m : ℕ) (rooms : List Room) → n ≡ m + 1 → test rooms ≡ true → each_lies test stride n rooms ≡ each_lies test stride m (drop stride rooms)
one_turn test stride n m rooms is lies =
    ap (λ k. each_lies test stride k rooms) (is ∙ add-one m) ∙ ap (λ b. b && each_lies test stride m (drop stride rooms)) lies

pub last_turn : (test : List Room → Bool) (stride n m : ℕ) (rooms : List Room) → n ≡ m + 1 → test rooms ≡ false → each_lies test stride n rooms ≡ false
last_turn test stride n m rooms is lies =
    ap (λ k. each_lies test stride k rooms) (is ∙ add-one m) ∙ ap (λ b. b && each_lies test stride m (drop stride rooms)) lies

-- no runs
pub no_rooms : (runs : List (Run Room)) → length runs ≡ 0 → expanded runs ≡ []
no_rooms [] none = refl
no_rooms (run ∷ runs) none = absurd (omega (arith, none))

-- where the next place is the same
twice : (b : Bool) → (b && b) ≡ b
twice true = refl
twice false = refl

and_true : (b : Bool) → (b && true) ≡ b
and_true true = refl
and_true false = refl

one_place : (test : List Room → Bool) (n : ℕ) (rooms : List Room) → each_lies test 0 (suc n) rooms ≡ test rooms
one_place test zero rooms = and_true (test rooms)
one_place test (suc n) rooms = ap (λ b. test rooms && b) (one_place test n rooms) ∙ twice (test rooms)

pub few_turns : (test : List Room → Bool) (stride size : ℕ) (rooms : List Room) → each_lies test stride (turns_of size stride) rooms ≡ each_lies test stride size rooms
few_turns test zero zero rooms = refl
few_turns test zero (suc n) rooms =
    (let same : min (suc n) 1 ≡ 1 = omega arith in ap (λ k. each_lies test 0 k rooms) same) ∙ one_place test 0 rooms ∙ sym (one_place test n rooms)
few_turns test (suc s) size rooms = ap (λ b. each_lies test (suc s) (if b then min size 1 else size) rooms) (not_zero s)
