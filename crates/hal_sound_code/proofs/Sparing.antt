-- Entries for errors have room.
use Rattle.std.specs.Prelude.{ℕ, zero, suc, ◌+◌, ◌*◌, ◌-◌, ◌<◌, ◌≤◌, ◌==◌, ◌≡◌, nat_lt, length, take, drop, Bool, true, false, List, [], ◌∷◌, Option, Some, None, slice_get, if◌then◌else◌}
use Rattle.std.proofs.Common.{refl, sym, ap, subst, ◌∙◌, arith}
use Rattle.std.proofs.lemmas.Bool.{eqb-true, ltb-true, and_parts}
use Rattle.std.proofs.lemmas.Option.{slice_get_within}
use Rattle.hal_values.specs.declared.environment.Selector.{Selector}
use Rattle.hal_code.specs.declared.image.ImageParts.{ImageParts}
use Rattle.hal_code.specs.declared.instr.Instr.{Instr}
use Rattle.hal_code.specs.declared.instr.Instr.TheVariants as instr
use Rattle.hal_code.specs.declared.row.Block.{Block}
use Rattle.hal_code.specs.Blocks.{code_of}
use Rattle.hal_code.specs.Right.{follow}
use Rattle.hal_code.specs.Cores.{Setting, Core, Frame, Return}
use Rattle.hal_sound_code.specs.Entries.{with_on, selectors_in, selectors_of, is_on, on_count, saved_entries, entry_count}
use Rattle.hal_sound_code.specs.Standing.{AreBelow}
use Rattle.hal_sound_code.specs.Typed.{IsTyped}
use Rattle.hal_sound_code.proofs.Entering.{Under}
use Rattle.hal_sound_code.proofs.Rights.{Whole}
use Rattle.hal_sound_code.proofs.Selecting.{entries_few}

-- the entries that the blocks with smaller numbers than this can have together, each twice: itself, and an UPDATE block in it
abbrev pub entries_below : ImageParts → ℕ → ℕ
entries_below image zero = 0
entries_below image (suc number) = entries_below image number + 2 * length (selectors_of image number)

below_on : (image : ImageParts) (a more : ℕ) → entries_below image a ≤ entries_below image (a + more)
below_on image a zero = subst (λ n. entries_below image a ≤ entries_below image n) (let same : a ≡ a + zero = omega arith in same) (omega arith)
below_on image a (suc more) = subst (λ n. entries_below image a ≤ entries_below image n) (let same : suc (a + more) ≡ a + suc more = omega arith in same) (low (entries_below image a) (entries_below image (a + more)) (2 * length (selectors_of image (a + more))) (below_on image a more))
  where
    low : (x y z : ℕ) → x ≤ y → x ≤ y + z
    low x y z is = omega (arith, is)

below_more : (image : ImageParts) (a b : ℕ) → a ≤ b → entries_below image a ≤ entries_below image b
below_more image a b low = subst (λ n. entries_below image a ≤ entries_below image n) (let same : a + (b - a) ≡ b = omega (arith, low) in same) (below_on image a (b - a))

-- how many entries a block and its UPDATE block can have, one inside of it or outside
abbrev own_room : ImageParts → ℕ → Bool → ℕ
own_room image number inside = if inside then length (selectors_of image number) else 2 * length (selectors_of image number)

own_low : (image : ImageParts) (number : ℕ) (inside : Bool) (n : ℕ) → n ≤ length (selectors_of image number) → n ≤ own_room image number inside
own_low image number true n few = few
own_low image number false n few = omega (arith, few)

own_high : (image : ImageParts) (number : ℕ) (inside : Bool) → own_room image number inside ≤ 2 * length (selectors_of image number)
own_high image number true = omega arith
own_high image number false = omega arith

-- the blocks below have room above the block that runs
saved_few : (s : Setting) (frames : List Frame) (number : ℕ) (inside : Bool) → AreBelow s number inside frames → number < length s.image.blocks
    → (entries_below s.image number + own_room s.image number inside) + saved_entries frames ≤ entries_below s.image (length s.image.blocks)
saved_few s [] number inside below less =
    low (entries_below s.image number) (own_room s.image number inside) (2 * length (selectors_of s.image number)) (entries_below s.image (length s.image.blocks)) (own_high s.image number inside) (below_more s.image (suc number) (length s.image.blocks) (omega (arith, less)))
  where
    low : (x own most all : ℕ) → own ≤ most → x + most ≤ all → (x + own) + 0 ≤ all
    low x own most all few is = omega (arith, few, is)
saved_few s (f ∷ fs) number inside below less = at_back (saved_few s fs) f.back below
  where
    in_block : (x own here rest all : ℕ) → here ≤ own → (x + 2 * own) + rest ≤ all → (x + own) + (here + rest) ≤ all
    in_block x own here rest all few is = omega (arith, few, is)

    called : (x own most there room here rest all : ℕ) → own ≤ most → x + most ≤ there → here ≤ room → (there + room) + rest ≤ all → (x + own) + (here + rest) ≤ all
    called x own most there room here rest all low above few is = omega (arith, low, above, few, is)

    at_back : ((other : ℕ) (part : Bool) → AreBelow s other part fs → other < length s.image.blocks → (entries_below s.image other + own_room s.image other part) + saved_entries fs ≤ entries_below s.image (length s.image.blocks))
        → (back : Option Return) → Under s number inside f.entries fs back → (entries_below s.image number + own_room s.image number inside) + (length f.entries + saved_entries fs) ≤ entries_below s.image (length s.image.blocks)
    at_back later None under =
        subst (λ b. (entries_below s.image number + own_room s.image number b) + (length f.entries + saved_entries fs) ≤ entries_below s.image (length s.image.blocks)) (sym under.0)
        (in_block (entries_below s.image number) (length (selectors_of s.image number)) (length f.entries) (saved_entries fs) (entries_below s.image (length s.image.blocks)) (entries_few s number false f.entries under.1) (later number false under.2 less))
    at_back later (Some back) under =
        called (entries_below s.image number) (own_room s.image number inside) (2 * length (selectors_of s.image number)) (entries_below s.image under.1.caller) (own_room s.image under.1.caller under.1.within) (length f.entries) (saved_entries fs) (entries_below s.image (length s.image.blocks))
        (own_high s.image number inside)
        (below_more s.image (suc number) under.1.caller (omega (arith, under.1.smaller)))
        (own_low s.image under.1.caller under.1.within (length f.entries) (entries_few s under.1.caller under.1.within f.entries under.1.enter))
        (later under.1.caller under.1.within under.1.below (slice_get_within s.image.blocks under.1.caller under.1.stands.block under.1.stands.row))

entries_low : (s : Setting) (c : Core) → IsTyped s c → entry_count c ≤ entries_below s.image (length s.image.blocks)
entries_low s c typed =
    sums (length c.entries) (entries_below s.image typed.number) (own_room s.image typed.number typed.inside) (saved_entries c.frames) (entries_below s.image (length s.image.blocks))
    (own_low s.image typed.number typed.inside (length c.entries) (entries_few s typed.number typed.inside c.entries typed.enter))
    (saved_few s c.frames typed.number typed.inside typed.below (slice_get_within s.image.blocks typed.number typed.stands.block typed.stands.row))
  where
    sums : (here x own saved all : ℕ) → here ≤ own → (x + own) + saved ≤ all → here + saved ≤ all
    sums here x own saved all few is = omega (arith, few, is)

-- the ON instructions of some code, and of what is behind it
abbrev one_if : Bool → ℕ
one_if b = if b then 1 else 0

pub one_counted : (i : Instr) (xs : List Selector) → length (with_on i xs) ≡ one_if (is_on i) + length xs
one_counted (instr.On group number response change event target) xs = omega arith
one_counted other xs = omega arith

parted : (n : ℕ) (code : List Instr) → on_count (take n code) + on_count (drop n code) ≡ on_count code
parted zero code = omega arith
parted (suc n) [] = refl
parted (suc n) (i ∷ code) =
    sums (one_if (is_on i)) (on_count (take n code)) (on_count (drop n code)) (on_count code) _ _ (one_counted i (selectors_in (take n code))) (one_counted i (selectors_in code)) (parted n code)
  where
    sums : (one a b all more whole : ℕ) → more ≡ one + a → whole ≡ one + all → a + b ≡ all → more + b ≡ whole
    sums one a b all more whole first last is = omega (arith, first, last, is)

-- the entries of the first so many of some blocks, and of all of them
abbrev counts_of : ImageParts → Option Block → ℕ
counts_of image row = length {A = Selector} (elim row [ None ↦ [] | Some block ↦ selectors_in (code_of image block) ])

abbrev first_counts : ImageParts → List Block → ℕ → ℕ
first_counts image blocks zero = 0
first_counts image blocks (suc n) = first_counts image blocks n + 2 * counts_of image (slice_get blocks n)

abbrev all_counts : ImageParts → List Block → ℕ
all_counts image [] = 0
all_counts image (block ∷ blocks) = 2 * on_count (code_of image block) + all_counts image blocks

one_before : (image : ImageParts) (block : Block) (blocks : List Block) (n : ℕ) → first_counts image (block ∷ blocks) (suc n) ≡ 2 * on_count (code_of image block) + first_counts image blocks n
one_before image block blocks zero = omega arith
one_before image block blocks (suc n) = next (first_counts image (block ∷ blocks) (suc n)) (2 * on_count (code_of image block)) (first_counts image blocks n) (2 * counts_of image (slice_get blocks n)) (one_before image block blocks n)
  where
    next : (first one others last : ℕ) → first ≡ one + others → first + last ≡ one + (others + last)
    next first one others last e = omega (arith, e)

all_counted : (image : ImageParts) (blocks : List Block) → first_counts image blocks (length blocks) ≡ all_counts image blocks
all_counted image [] = refl
all_counted image (block ∷ blocks) = one_before image block blocks (length blocks) ∙ ap (λ n. 2 * on_count (code_of image block) + n) (all_counted image blocks)

below_counted : (image : ImageParts) (n : ℕ) → entries_below image n ≡ first_counts image image.blocks n
below_counted image zero = refl
below_counted image (suc n) = ap (λ m. m + 2 * counts_of image (slice_get image.blocks n)) (below_counted image n)

-- blocks that follow each other have no instruction twice
none_behind : (n : ℕ) → drop {A = Instr} n [] ≡ []
none_behind zero = refl
none_behind (suc n) = refl

code_behind : (code : List Instr) (from end : ℕ) → from ≤ end → drop (end - from) (drop from code) ≡ drop end code
code_behind code zero end low = ap (λ n. drop n code) (let same : end - 0 ≡ end = omega arith in same)
code_behind code (suc from) zero low = absurd (omega (arith, low))
code_behind [] (suc from) (suc end) low = none_behind (suc end - suc from)
code_behind (i ∷ code) (suc from) (suc end) low = ap (λ n. drop n (drop from code)) (let same : suc end - suc from ≡ end - from = omega arith in same) ∙ code_behind code from end (omega (arith, low))

all_few : (image : ImageParts) (size from : ℕ) (blocks : List Block) → follow size from blocks ≡ true → all_counts image blocks ≤ 2 * on_count (drop from image.code)
all_few image size from [] e = omega arith
all_few image size from (block ∷ blocks) e =
    sums (on_count (code_of image block)) (all_counts image blocks) (on_count (drop block.end image.code)) (on_count (drop from image.code))
    (subst (λ n. on_count (code_of image block) + on_count (drop block.end image.code) ≡ on_count (drop n image.code)) (eqb-true block.first from first)
    (ap (λ code. on_count (code_of image block) + on_count code) (sym (code_behind image.code block.first block.end (below block.first block.end (ltb-true block.first block.end later))))
    ∙ parted (block.end - block.first) (drop block.first image.code)))
    (all_few image size block.end blocks (and_parts _ (follow size block.end blocks) e).1)
  where
    first : (block.first == from) ≡ true
    first = (and_parts (block.first == from) (nat_lt block.first block.end) (and_parts _ (follow size block.end blocks) e).0).0

    later : nat_lt block.first block.end ≡ true
    later = (and_parts (block.first == from) (nat_lt block.first block.end) (and_parts _ (follow size block.end blocks) e).0).1

    below : (a b : ℕ) → a < b → a ≤ b
    below a b less = omega (arith, less)

    sums : (own others behind all : ℕ) → own + behind ≡ all → others ≤ 2 * behind → 2 * own + others ≤ 2 * all
    sums own others behind all e few = omega (arith, e, few)

pub entries_have_room : (s : Setting) → Whole s.image → (c : Core) → IsTyped s c → entry_count c ≤ 2 * on_count s.image.code
entries_have_room s all c typed =
    on (entry_count c) (entries_below s.image (length s.image.blocks)) (all_counts s.image s.image.blocks) (2 * on_count s.image.code)
    (entries_low s c typed)
    (below_counted s.image (length s.image.blocks) ∙ all_counted s.image s.image.blocks)
    (all_few s.image (length s.image.code) 0 s.image.blocks (and_parts (follow (length s.image.code) 0 s.image.blocks) _ all.blocks).0)
  where
    on : (n below every most : ℕ) → n ≤ below → below ≡ every → every ≤ most → n ≤ most
    on n below every most low e few = omega (arith, low, e, few)
