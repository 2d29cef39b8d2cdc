-- Views lead to cells and places whose numbers are small.
use Rattle.std.specs.Prelude.{◌≡◌, ℕ, zero, suc, ◌+◌, ◌*◌, ◌<◌, ◌≤◌, ◌^◌, nat_le, nat_lt, length, replicate, Bool, true, ◌&&◌, List, [], ◌∷◌, ◌++◌, ℤ, Option, Some, None, slice_get}
use Rattle.std.specs.List.{list_all, fold, sum_by}
use Rattle.std.proofs.Common.{refl, sym, ap, subst, ◌∙◌, arith}
use Rattle.std.proofs.lemmas.Bool.{leb-true, and_parts}
use Rattle.std.proofs.lemmas.List.{length-append, length-map, length-replicate}
use Rattle.std.proofs.lemmas.Option.{slice_get_within}
use Rattle.hal_base.specs.declared.limits.TheConstants.{CELL_LIMIT, EVENT_LIMIT, PROCESS_LIMIT}
use Rattle.hal_values.specs.declared.tables.Cell.{Cell}
use Rattle.hal_values.specs.declared.value.Kind.{Kind}
use Rattle.hal_states.specs.Numbers.{before_nearest}
use Rattle.hal_states.specs.Spots.{Spot, Shared, Own, Nowhere, further}
use Rattle.hal_code.specs.declared.choice.Choice.{Choice}
use Rattle.hal_values.specs.declared.tables.EventStart.{EventStart}
use Rattle.hal_code.specs.declared.image.ImageParts.{ImageParts}
use Rattle.hal_code.specs.declared.row.Dimension.{Dimension}
use Rattle.hal_code.specs.declared.row.OwnPlace.{OwnPlace}
use Rattle.hal_code.specs.declared.row.Process.{Process}
use Rattle.hal_code.specs.declared.row.Run.{Run}
use Rattle.hal_code.specs.declared.row.View.{View}
use Rattle.hal_code.specs.Addressing.{cells_before, spot_of}
use Rattle.hal_code.specs.Cores.{Operand, Setting, Core}
use Rattle.hal_code.specs.Images.{expanded, row_count, places_of}
use Rattle.hal_code.specs.Memory.{lies_from, shared_memory, own_memory, kind_of_place}
use Rattle.hal_code.specs.Operands.{is_known}
use Rattle.hal_code.specs.Right.{cell_right, place_right, cell_count, limits_right}
use Rattle.hal_sound_code.specs.Lying.{LieAt}
use Rattle.hal_sound_code.proofs.Places.{first_lies}
use Rattle.hal_sound_code.proofs.Rights.{Whole}
use Rattle.hal_sound_code.proofs.Taking.{some_is}
use Rattle.hal_right_values.specs.Finding.{CopiesFit}
use Rattle.hal_right_values.specs.Spreading.{integer_taken, Spread, spread_by, spread, HasRoom, LeadsWithin, CellFits}

-- runs have as many rows as they say
pub expanded_length : {T : Type 0} (runs : List (Run T)) → length (expanded runs) ≡ row_count runs
expanded_length [] = refl
expanded_length (run ∷ runs) =
    length-append (replicate run.repeat run.row) (expanded runs) ∙ sum (length (replicate run.repeat run.row)) run.repeat (length (expanded runs)) (row_count runs) (length-replicate run.repeat run.row) (expanded_length runs)
  where
    sum : (a b c d : ℕ) → a ≡ b → c ≡ d → a + c ≡ b + d
    sum a b c d e f = omega (arith, e, f)

-- all cells together are few
limits_are : (limits cells events common rest : Bool) → (((limits && cells) && (events && common)) && rest) ≡ true → limits ≡ true
limits_are limits cells events common rest e = (and_parts limits cells (and_parts (limits && cells) (events && common) (and_parts ((limits && cells) && (events && common)) rest e).0).0).0

count_is : (few fewer others : Bool) → ((few && fewer) && others) ≡ true → few ≡ true
count_is few fewer others e = (and_parts few fewer (and_parts (few && fewer) others e).0).0

few_cells : (image : ImageParts) → Whole image → cell_count image ≤ CELL_LIMIT
few_cells image all =
    leb-true (cell_count image) CELL_LIMIT
    (count_is (nat_le (cell_count image) CELL_LIMIT) (nat_le (length image.processes) PROCESS_LIMIT) (nat_le (length image.events) EVENT_LIMIT && nat_lt image.first (length image.processes))
    (limits_are (limits_right image) (list_all cell_right image.cells) (list_all (λ (one : Choice EventStart). is_known one) image.events) (list_all (place_right image) image.common) _ all.rows))

-- one of some numbers is no more than their sum
sum_from : {T : Type 0} (f : T → ℕ) (start : ℕ) (xs : List T) → start ≤ fold (λ a x. a + f x) start xs
sum_from f start [] = omega arith
sum_from f start (x ∷ xs) = above (f x) start (fold (λ a y. a + f y) (start + f x) xs) (sum_from f (start + f x) xs)
  where
    above : (n low high : ℕ) → low + n ≤ high → low ≤ high
    above n low high h = omega (arith, h)

pub sum_at : {T : Type 0} (f : T → ℕ) (start : ℕ) (xs : List T) (n : ℕ) (x : T) → slice_get xs n ≡ Some x → f x ≤ fold (λ a y. a + f y) start xs
sum_at f start [] n x e = absurd (cc)
sum_at f start (y ∷ xs) zero x e = subst (λ z. f z ≤ fold (λ a w. a + f w) (start + f y) xs) (let same : y ≡ x = cc in same) (above (f y) start (fold (λ a w. a + f w) (start + f y) xs) (sum_from f (start + f y) xs))
  where
    above : (n low high : ℕ) → low + n ≤ high → n ≤ high
    above n low high h = omega (arith, h)
sum_at f start (y ∷ xs) (suc n) x e = sum_at f (start + f y) xs n x e

-- so are the own places of a process
few_places : (image : ImageParts) (p : ℕ) → cell_count image ≤ CELL_LIMIT → length (places_of image p) ≤ CELL_LIMIT
few_places image p few = of_process (slice_get image.processes p) refl
  where
    below : (cells all some one two : ℕ) → cells + all ≤ CELL_LIMIT → one + two ≤ all → some ≡ one + two → some ≤ CELL_LIMIT
    below cells all some one two low part is = omega (arith, low, part, is)

    of_process : (o : Option Process) → slice_get image.processes p ≡ o → length {A = OwnPlace} (elim o [ None ↦ [] | Some process ↦ expanded image.common ++ expanded process.places ]) ≤ CELL_LIMIT
    of_process None e = omega arith
    of_process (Some process) e =
        below (row_count image.cells) (sum_by (λ (q : Process). row_count image.common + row_count q.places) image.processes) (length (expanded image.common ++ expanded process.places)) (row_count image.common) (row_count process.places) few
        (sum_at (λ (q : Process). row_count image.common + row_count q.places) 0 image.processes p process e)
        (length-append (expanded image.common) (expanded process.places) ∙ ap (λ n. n + length (expanded process.places)) (expanded_length image.common) ∙ ap (λ n. row_count image.common + n) (expanded_length process.places))

-- where cells lie, their numbers are small
lies_low : (s : Setting) → Whole s.image → (at : Spot) (k : Kind) (ks : List Kind) → LieAt s at (k ∷ ks) → HasRoom at
lies_low s all (Shared number) k ks lies =
    small number (length (shared_memory s.image)) (length (expanded s.image.cells)) (row_count s.image.cells) _ (slice_get_within (shared_memory s.image) number (Some k) (first_lies (shared_memory s.image) number k ks lies).there)
    (length-map (expanded s.image.cells) (λ (cell : Cell). Some cell.kind)) (expanded_length s.image.cells) (few_cells s.image all)
  where
    small : (n size some cells others : ℕ) → n < size → size ≡ some → some ≡ cells → cells + others ≤ CELL_LIMIT → n < 2 ^ 32
    small n size some cells others less is also low = omega (arith, less, is, also, low)
lies_low s all (Own number) k ks lies =
    small number (length (own_memory (places_of s.image s.process))) (length (places_of s.image s.process))
    (slice_get_within (own_memory (places_of s.image s.process)) number (Some k) (first_lies (own_memory (places_of s.image s.process)) number k ks lies).there) (length-map (places_of s.image s.process) kind_of_place)
    (few_places s.image s.process (few_cells s.image all))
  where
    small : (n size some : ℕ) → n < size → size ≡ some → some ≤ CELL_LIMIT → n < 2 ^ 32
    small n size some less is low = omega (arith, less, is, low)
lies_low s all Nowhere k ks lies = tt

-- some kinds that lie in memory end within it
lies_end : (memory : List (Option Kind)) (number : ℕ) (k : Kind) (ks : List Kind) → lies_from memory number (k ∷ ks) ≡ true → number + suc (length ks) ≤ length memory
lies_end memory number k [] e = omega (arith, slice_get_within memory number (Some k) (first_lies memory number k [] e).there)
lies_end memory number k (l ∷ ks) e = one_on number (length (l ∷ ks)) (length memory) (lies_end memory (suc number) l ks (first_lies memory number k (l ∷ ks) e).others)
  where
    one_on : (n some size : ℕ) → suc n + some ≤ size → n + suc some ≤ size
    one_on n some size h = omega (arith, h)

own_low : (s : Setting) → Whole s.image → (number : ℕ) (k : Kind) (ks : List Kind) → lies_from (own_memory (places_of s.image s.process)) number (k ∷ ks) ≡ true → number + suc (length ks) < 2 ^ 32
own_low s all number k ks lies = small (number + suc (length ks)) (length (own_memory (places_of s.image s.process))) (length (places_of s.image s.process)) (lies_end (own_memory (places_of s.image s.process)) number k ks lies) (length-map (places_of s.image s.process) kind_of_place) (few_places s.image s.process (few_cells s.image all))
  where
    small : (n size some : ℕ) → n ≤ size → size ≡ some → some ≤ CELL_LIMIT → n < 2 ^ 32
    small n size some less is low = omega (arith, less, is, low)

pub room_at : (s : Setting) → Whole s.image → (at : Spot) (kinds : List Kind) → (kinds ≡ [] → ⊥) → LieAt s at kinds → HasRoom at
room_at s all at [] some lies = absurd (some refl)
room_at s all at (k ∷ ks) some lies = lies_low s all at k ks lies

-- so their numbers are small, and so are those of own places
copies_low : (s : Setting) → Whole s.image → (at : Spot) (k : Kind) (ks : List Kind) → LieAt s at (k ∷ ks) → HasRoom (further (suc (length ks)) at)
copies_low s all (Shared number) k ks lies =
    small (number + suc (length ks)) (length (shared_memory s.image)) (length (expanded s.image.cells)) (row_count s.image.cells) _ (lies_end (shared_memory s.image) number k ks lies) (length-map (expanded s.image.cells) (λ (cell : Cell). Some cell.kind))
    (expanded_length s.image.cells) (few_cells s.image all)
  where
    small : (n size some cells others : ℕ) → n ≤ size → size ≡ some → some ≡ cells → cells + others ≤ CELL_LIMIT → n < 2 ^ 32
    small n size some cells others less is also low = omega (arith, less, is, also, low)
copies_low s all (Own number) k ks lies = own_low s all number k ks lies
copies_low s all Nowhere k ks lies = tt

pub copies_fit : (s : Setting) → Whole s.image → (at : Spot) (place : ℕ) (k : Kind) (ks : List Kind) → LieAt s at (k ∷ ks) → lies_from (own_memory (places_of s.image s.process)) place (k ∷ ks) ≡ true → CopiesFit (suc (length ks)) at place
copies_fit s all at place k ks lies own = (copies_low s all at k ks lies, own_low s all place k ks own)

-- what is spread are the cells before those that some subscripts choose
spread_ints : (ds : List Dimension) (stack : List Operand) (got : Spread) → spread ds stack ≡ Some got → (is : List ℤ) × (got.before ≡ cells_before ds is)
spread_ints [] stack got e = ([], sym (ap (λ (one : Spread). one.before) (let same : record { before = 0; inside = true; left = stack } ≡ got = some_is _ got e in same)))
spread_ints (d ∷ ds) stack got e = of_below (λ below is. spread_ints ds stack below is) (spread ds stack) refl e
  where
    of_int : (below : Spread) (o : Option (ℤ × List Operand)) → (is : List ℤ) × (below.before ≡ cells_before ds is) → spread_by d below o ≡ Some got → (is : List ℤ) × (got.before ≡ cells_before (d ∷ ds) is)
    of_int below None known h = absurd (cc)
    of_int below (Some x) known h = (x.0 ∷ known.0, sym (ap (λ (one : Spread). one.before) (some_is _ got h)) ∙ ap (λ n. before_nearest d.size x.0 * d.stride + n) known.1)

    of_below : ((below : Spread) → spread ds stack ≡ Some below → (is : List ℤ) × (below.before ≡ cells_before ds is)) → (o : Option Spread) → spread ds stack ≡ o → ◌≡◌ {A = Option Spread} (elim o [ None ↦ None | Some below ↦ spread_by d below (integer_taken below.left) ]) (Some got) → (is : List ℤ) × (got.before ≡ cells_before (d ∷ ds) is)
    of_below each None is h = absurd (cc)
    of_below each (Some below) is h = of_int below (integer_taken below.left) (each below is) h

-- so a view leads to such a number where each address of it does
pub cell_fits : (view : View) (c : Core) → ((is : List ℤ) → HasRoom (further (cells_before view.dimensions is) (spot_of view.base c.kept.places))) → CellFits view c
cell_fits view c each = of_spread (spread view.dimensions c.stack) refl
  where
    of_spread : (o : Option Spread) → spread view.dimensions c.stack ≡ o → LeadsWithin view c o
    of_spread None e = tt
    of_spread (Some got) e = with_ints (spread_ints view.dimensions c.stack got e)
      where
        with_ints : (is : List ℤ) × (got.before ≡ cells_before view.dimensions is) → HasRoom (further got.before (spot_of view.base c.kept.places))
        with_ints known = subst (λ n. HasRoom (further n (spot_of view.base c.kept.places))) (sym known.1) (each known.0)
