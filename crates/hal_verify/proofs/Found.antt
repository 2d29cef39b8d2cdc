-- Views that lie in memory, process by process.
use Rattle.std.specs.Prelude.{◌≡◌, ℕ, zero, suc, ◌+◌, ◌==◌, length, Bool, true, false, not, ◌&&◌, ◌||◌, List, [], ◌∷◌, drop, map, slice_set, if◌then◌else◌}
use Rattle.std.specs.List.{list_all, list_any, range_with_len}
use Rattle.std.proofs.Common.{refl, ap, sym, ◌∙◌, arith, ne_eqb}
use Rattle.hal_code.specs.declared.image.ImageParts.{ImageParts}
use Rattle.hal_code.specs.declared.instr.Instr.{Instr}
use Rattle.hal_code.specs.declared.instr.Instr.TheVariants as instr
use Rattle.hal_code.specs.declared.row.Base.{Base}
use Rattle.hal_code.specs.declared.row.Base.TheVariants as base
use Rattle.hal_code.specs.declared.row.Block.{Block}
use Rattle.hal_code.specs.declared.row.View.{View}
use Rattle.hal_code.specs.Blocks.{code_of}
use Rattle.hal_code.specs.Images.{places_of, expanded}
use Rattle.hal_code.specs.Memory.{is_own, fits_places, all_lie, shared_memory}
use Rattle.hal_code.specs.Right.{names_view, process_names, lies_right, views_lie}
use Rattle.hal_verify.specs.Marking.{mark, mark_code, mark_blocks, no_marks, named_of, fits_of, all_named, either_of, own_found, processes_fit, shared_lies}
use Rattle.hal_verify.specs.Rooms.{room_of_cell, room_of_place}
use Rattle.hal_verify.specs.Viewing.{view_lies}
use Rattle.hal_verify.specs.declared.room.Room.{Room}
use Rattle.hal_verify.proofs.Lying.{all_alike}
use Rattle.hal_verify.proofs.Fitting as fitting
use Rattle.hal_verify.proofs.Fitting.{shared_there, rooms_by}

-- bits by number
abbrev bits : (ℕ → Bool) → ℕ → List Bool
bits f zero = []
bits f (suc n) = f 0 ∷ bits (λ v. f (suc v)) n

bits_alike : (f g : ℕ → Bool) (same : (v : ℕ) → f v ≡ g v) (n : ℕ) → bits f n ≡ bits g n
bits_alike f g same zero = refl
bits_alike f g same (suc n) =
    ap (λ b. b ∷ bits (λ v. f (suc v)) n) (same 0) ∙ ap (λ list. g 0 ∷ list) (bits_alike (λ v. f (suc v)) (λ v. g (suc v)) (λ v. same (suc v)) n)

or_true : (b : Bool) → (b || true) ≡ true
or_true true = refl
or_true false = refl

or_false : (b : Bool) → (b || false) ≡ b
or_false true = refl
or_false false = refl

or_behind : (a b c : Bool) → ((a || b) || c) ≡ (a || (b || c))
or_behind true b c = refl
or_behind false b c = refl

same_next : (m n : ℕ) → (suc m == suc n) ≡ (m == n)
same_next m n = grind (arith)

not_same : (n : ℕ) → (0 == suc n) ≡ false
not_same n = ne_eqb 0 (suc n) (λ is. omega (arith, is))

not_first : (n : ℕ) → (suc n == 0) ≡ false
not_first n = ne_eqb (suc n) 0 (λ is. omega (arith, is))

-- one of them is set
bit_set : (f : ℕ → Bool) (n w : ℕ) → slice_set (bits f n) w true ≡ bits (λ v. f v || (w == v)) n
bit_set f zero zero = refl
bit_set f zero (suc w) = refl
bit_set f (suc n) zero =
    ap (λ b. b ∷ bits (λ v. f (suc v)) n) (sym (or_true (f 0)))
    ∙ ap (λ list. (f 0 || true) ∷ list)
    (bits_alike (λ v. f (suc v)) (λ v. f (suc v) || (0 == suc v)) (λ v. sym (or_false (f (suc v))) ∙ ap (λ b. f (suc v) || b) (sym (not_same v))) n)
bit_set f (suc n) (suc w) =
    ap (λ list. f 0 ∷ list)
    (bit_set (λ v. f (suc v)) n w
    ∙ bits_alike (λ v. f (suc v) || (w == v)) (λ v. f (suc v) || (suc w == suc v)) (λ v. ap (λ b. f (suc v) || b) (sym (same_next w v))) n)
    ∙ ap (λ b. b ∷ bits (λ v. f (suc v) || (suc w == suc v)) n) (sym (or_false (f 0)) ∙ ap (λ b. f 0 || b) (sym (not_first w)))

no_more : (f : ℕ → Bool) (n : ℕ) → bits f n ≡ bits (λ v. f v || false) n
no_more f n = bits_alike f (λ v. f v || false) (λ v. sym (or_false (f v))) n

mark_one : (f : ℕ → Bool) (n : ℕ) (i : Instr) → mark (bits f n) i ≡ bits (λ v. f v || names_view v i) n
mark_one f n (instr.Cell view) = bit_set f n view
mark_one f n (instr.Whole view) = bit_set f n view
mark_one f n (instr.Int x) = no_more f n
mark_one f n (instr.Bits len word) = no_more f n
mark_one f n (instr.Text x) = no_more f n
mark_one f n instr.Fetch = no_more f n
mark_one f n instr.Peek = no_more f n
mark_one f n instr.Keep = no_more f n
mark_one f n instr.Dup = no_more f n
mark_one f n instr.Drop = no_more f n
mark_one f n (instr.Event x) = no_more f n
mark_one f n (instr.Op1 x) = no_more f n
mark_one f n (instr.Op2 x) = no_more f n
mark_one f n (instr.Len x) = no_more f n
mark_one f n (instr.Pick x) = no_more f n
mark_one f n (instr.Patch x) = no_more f n
mark_one f n (instr.Call x) = no_more f n
mark_one f n instr.Return = no_more f n
mark_one f n (instr.Off group number) = no_more f n
mark_one f n (instr.Raise group number) = no_more f n
mark_one f n instr.ErrGrp = no_more f n
mark_one f n instr.ErrNum = no_more f n
mark_one f n (instr.Bind x) = no_more f n
mark_one f n (instr.Copy x) = no_more f n
mark_one f n (instr.Clear spot many) = no_more f n
mark_one f n instr.Next = no_more f n
mark_one f n instr.Begin = no_more f n
mark_one f n instr.Finish = no_more f n
mark_one f n (instr.Schedule p begins prio dependent again until) = no_more f n
mark_one f n (instr.Cancel x) = no_more f n
mark_one f n (instr.Terminate x) = no_more f n
mark_one f n (instr.Wait x) = no_more f n
mark_one f n (instr.Signal x) = no_more f n
mark_one f n (instr.Set x) = no_more f n
mark_one f n (instr.Reset x) = no_more f n
mark_one f n (instr.Priority x) = no_more f n
mark_one f n instr.Item = no_more f n
mark_one f n (instr.Print x) = no_more f n
mark_one f n instr.Now = no_more f n
mark_one f n (instr.Open x) = no_more f n
mark_one f n instr.Close = no_more f n
mark_one f n (instr.Jump target) = no_more f n
mark_one f n (instr.JumpNot target) = no_more f n
mark_one f n (instr.Turn target) = no_more f n
mark_one f n (instr.Input channel k target) = no_more f n
mark_one f n (instr.On group number r e event target) = no_more f n

marked : (f : ℕ → Bool) (n : ℕ) (is : List Instr) → mark_code (bits f n) is ≡ bits (λ v. f v || list_any (names_view v) is) n
marked f n [] = no_more f n
marked f n (i ∷ is) =
    ap (λ list. mark_code list is) (mark_one f n i)
    ∙ marked (λ v. f v || names_view v i) n is
    ∙ bits_alike (λ v. (f v || names_view v i) || list_any (names_view v) is) (λ v. f v || (names_view v i || list_any (names_view v) is))
    (λ v. or_behind (f v) (names_view v i) (list_any (names_view v) is)) n

abbrev names_in : ImageParts → ℕ → ℕ → Block → Bool
names_in image p v block = (block.process == p) && list_any (names_view v) (code_of image block)

block_by : (f : ℕ → Bool) (n : ℕ) (is : List Instr) (own : Bool)
    → (if own then mark_code (bits f n) is else bits f n) ≡ bits (λ v. f v || (own && list_any (names_view v) is)) n
block_by f n is true = marked f n is
block_by f n is false = no_more f n

blocks_marked : (image : ImageParts) (p : ℕ) (f : ℕ → Bool) (n : ℕ) (blocks : List Block)
    → mark_blocks image p (bits f n) blocks ≡ bits (λ v. f v || list_any (names_in image p v) blocks) n
blocks_marked image p f n [] = no_more f n
blocks_marked image p f n (block ∷ blocks) =
    ap (λ list. mark_blocks image p list blocks) (block_by f n (code_of image block) (block.process == p))
    ∙ blocks_marked image p (λ v. f v || names_in image p v block) n blocks
    ∙ bits_alike (λ v. (f v || names_in image p v block) || list_any (names_in image p v) blocks) (λ v. f v || (names_in image p v block || list_any (names_in image p v) blocks))
    (λ v. or_behind (f v) (names_in image p v block) (list_any (names_in image p v) blocks)) n

none_set : (views : List View) → no_marks views ≡ bits (λ v. false) (length views)
none_set [] = refl
none_set (view ∷ views) = ap (λ list. false ∷ list) (none_set views)

named_there : (image : ImageParts) (p : ℕ) → named_of image p ≡ bits (λ v. process_names image v p) (length image.views)
named_there image p = ap (λ list. mark_blocks image p list image.blocks) (none_set image.views) ∙ blocks_marked image p (λ v. false) (length image.views) image.blocks

-- what is found of a view by all processes from one on
maps_alike : {X : Type 0} (f g : X → Bool) (same : (x : X) → f x ≡ g x) (xs : List X) → map f xs ≡ map g xs
maps_alike f g same [] = refl
maps_alike f g same (x ∷ xs) = ap (λ b. b ∷ map f xs) (same x) ∙ ap (λ list. g x ∷ list) (maps_alike f g same xs)

either_there : {X : Type 0} (f g : X → Bool) (xs : List X) → either_of (map f xs) (map g xs) ≡ map (λ x. f x || g x) xs
either_there f g [] = refl
either_there f g (x ∷ xs) = ap (λ list. (f x || g x) ∷ list) (either_there f g xs)

abbrev fit_of : ImageParts → ℕ → View → Bool
fit_of image p view = fits_places image view (places_of image p)

abbrev named_fit : ImageParts → ℕ → Bool
named_fit image p = all_named (named_of image p) (fits_of image p)

and_behind : (a b c : Bool) → (a && (b && c)) ≡ ((a && b) && c)
and_behind true b c = refl
and_behind false b c = refl

processes_there : (image : ImageParts) (f : View → Bool) (n p : ℕ)
    → processes_fit image p (map f image.views) n ≡ (list_all (named_fit image) (range_with_len p n) && own_found image.views (map (λ view. f view || list_any (λ q. fit_of image q view) (range_with_len p n)) image.views))
processes_there image f zero p = ap (λ list. own_found image.views list) (maps_alike f (λ view. f view || false) (λ view. sym (or_false (f view))) image.views)
processes_there image f (suc n) p =
    ap (λ list. named_fit image p && processes_fit image (suc p) list n) (either_there f (fit_of image p) image.views)
    ∙ ap (λ b. named_fit image p && b) (processes_there image (λ view. f view || fit_of image p view) n (suc p))
    ∙ and_behind (named_fit image p) (list_all (named_fit image) (range_with_len (suc p) n))
    (own_found image.views (map (λ view. (f view || fit_of image p view) || list_any (λ q. fit_of image q view) (range_with_len (suc p) n)) image.views))
    ∙ ap (λ list. (named_fit image p && list_all (named_fit image) (range_with_len (suc p) n)) && own_found image.views list)
    (maps_alike (λ view. (f view || fit_of image p view) || list_any (λ q. fit_of image q view) (range_with_len (suc p) n)) (λ view. f view || (fit_of image p view || list_any (λ q. fit_of image q view) (range_with_len (suc p) n)))
    (λ view. or_behind (f view) (fit_of image p view) (list_any (λ q. fit_of image q view) (range_with_len (suc p) n))) image.views)
    ∙ (let same : suc p ≡ p + 1 = omega arith in
    ap (λ k. (named_fit image p && list_all (named_fit image) (range_with_len k n)) && own_found image.views (map (λ view. f view || (fit_of image p view || list_any (λ q. fit_of image q view) (range_with_len k n))) image.views)) same)

-- views and processes the other way round
all_true : {X : Type 0} (xs : List X) → list_all (λ x. true) xs ≡ true
all_true [] = refl
all_true (x ∷ xs) = all_true xs

four : (a b c d : Bool) → ((a && b) && (c && d)) ≡ ((a && c) && (b && d))
four true true c d = refl
four true false true d = refl
four true false false d = refl
four false b c d = refl

all_both : {X : Type 0} (f g : X → Bool) (xs : List X) → list_all (λ x. f x && g x) xs ≡ (list_all f xs && list_all g xs)
all_both f g [] = refl
all_both f g (x ∷ xs) = ap (λ b. (f x && g x) && b) (all_both f g xs) ∙ four (f x) (g x) (list_all f xs) (list_all g xs)

abbrev rest_fit : ImageParts → ℕ → List View → ℕ → Bool
rest_fit image v views p = all_named (bits (λ w. process_names image (v + w) p) (length views)) (map (fit_of image p) views)

abbrev found_of : ImageParts → List ℕ → View → Bool
found_of image ps view = list_any (λ p. fit_of image p view) ps

abbrev lies_by : ImageParts → View → Bool → Base → Bool
lies_by image view fits b = elim b [
  | base.Shared number ↦ all_lie image view (shared_memory image) number
  | base.Own number ↦ fits
  | base.Through place offset ↦ fits
  | base.Other byte number ↦ false
]

abbrev shared_by : ImageParts → List Room → View → Base → Bool
shared_by image rooms view b = elim b [
  | base.Shared number ↦ view_lies image view (drop number rooms)
  | base.Own number ↦ true
  | base.Through place offset ↦ true
  | base.Other byte number ↦ false
]

and_false : (b : Bool) → (b && false) ≡ false
and_false true = refl
and_false false = refl

own_turned : (x y s n f : Bool) → ((x && y) && (s && (n && f))) ≡ (s && ((x && n) && (y && f)))
own_turned true true s n f = refl
own_turned true false s n f = sym (ap (λ b. s && b) (and_false n) ∙ and_false s)
own_turned false y s n f = sym (and_false s)

fit_shared : (image : ImageParts) (view : View) (p number : ℕ) → view.base ≡ base.Shared number → fit_of image p view ≡ true
fit_shared image view p number is = fitting.fits_there image view (places_of image p) ∙ ap (λ b. rooms_by image view (map room_of_place (places_of image p)) b) is

abbrev own_by : Base → Bool
own_by b = elim b [ base.Shared number ↦ false | base.Own number ↦ true | base.Through place offset ↦ true | base.Other byte number ↦ false ]

abbrev named_ok : ImageParts → ℕ → View → ℕ → Bool
named_ok image v view p = not (process_names image v p) || fit_of image p view

-- a view, and those behind it
by_base : (image : ImageParts) (rooms : List Room) → rooms ≡ map room_of_cell (expanded image.cells) → (v : ℕ) (view : View) (ps : List ℕ) (s n f : Bool) (b : Base) → view.base ≡ b
    → (lies_by image view (list_all (named_ok image v view) ps && found_of image ps view) b && (s && (n && f)))
    ≡ ((shared_by image rooms view b && s) && ((list_all (named_ok image v view) ps && n) && ((not (own_by b) || found_of image ps view) && f)))
by_base image rooms is v view ps s n f (base.Shared number) at =
    ap (λ b. b && (s && (n && f))) (shared_there image view number ∙ sym (ap (λ list. view_lies image view (drop number list)) is))
    ∙ and_behind (view_lies image view (drop number rooms)) s (n && f)
    ∙ sym (ap (λ b. (view_lies image view (drop number rooms) && s) && ((b && n) && f))
    (all_alike (named_ok image v view) (λ p. true) (λ p. ap (λ b. not (process_names image v p) || b) (fit_shared image view p number at) ∙ or_true (not (process_names image v p))) ps ∙ all_true ps))
by_base image rooms is v view ps s n f (base.Own number) at = own_turned (list_all (named_ok image v view) ps) (found_of image ps view) s n f
by_base image rooms is v view ps s n f (base.Through place offset) at = own_turned (list_all (named_ok image v view) ps) (found_of image ps view) s n f
by_base image rooms is v view ps s n f (base.Other byte number) at = refl

next_number : (image : ImageParts) (v : ℕ) (view : View) (views : List View) (p : ℕ) → rest_fit image v (view ∷ views) p ≡ (named_ok image v view p && rest_fit image (suc v) views p)
next_number image v view views p =
    (let same : v + 0 ≡ v = omega arith in
    ap (λ k. (not (process_names image k p) || fit_of image p view) && all_named (bits (λ w. process_names image (v + suc w) p) (length views)) (map (fit_of image p) views)) same)
    ∙ ap (λ list. named_ok image v view p && all_named list (map (fit_of image p) views))
    (bits_alike (λ w. process_names image (v + suc w) p) (λ w. process_names image (suc v + w) p)
    (λ w. let same : v + suc w ≡ suc v + w = omega arith in ap (λ k. process_names image k p) same) (length views))

turned : (image : ImageParts) (rooms : List Room) → rooms ≡ map room_of_cell (expanded image.cells) → (views : List View) (v : ℕ)
    → views_lie image v views
    ≡ (list_all (shared_lies image rooms) views
    && (list_all (rest_fit image v views) (range_with_len 0 (length image.processes)) && own_found views (map (found_of image (range_with_len 0 (length image.processes))) views)))
turned image rooms is [] v = sym (ap (λ b. b && true) (all_true (range_with_len 0 (length image.processes))))
turned image rooms is (view ∷ views) v =
    let ps : List ℕ = range_with_len 0 (length image.processes) in
    ap (λ b. lies_right image v view && b) (turned image rooms is views (suc v))
    ∙ by_base image rooms is v view ps (list_all (shared_lies image rooms) views) (list_all (rest_fit image (suc v) views) ps) (own_found views (map (found_of image ps) views)) view.base refl
    ∙ sym (ap (λ b. (shared_lies image rooms view && list_all (shared_lies image rooms) views) && (b && ((not (is_own view) || found_of image ps view) && own_found views (map (found_of image ps) views))))
    (all_alike (rest_fit image v (view ∷ views)) (λ p. named_ok image v view p && rest_fit image (suc v) views p) (next_number image v view views) ps
    ∙ all_both (named_ok image v view) (rest_fit image (suc v) views) ps))

whole_named : (image : ImageParts) (p : ℕ) → named_fit image p ≡ rest_fit image 0 image.views p
whole_named image p =
    ap (λ list. all_named list (fits_of image p)) (named_there image p
    ∙ bits_alike (λ v. process_names image v p) (λ w. process_names image (0 + w) p) (λ w. let same : w ≡ 0 + w = omega arith in ap (λ k. process_names image k p) same) (length image.views))

views_there : (image : ImageParts) (rooms : List Room) → rooms ≡ map room_of_cell (expanded image.cells)
    → views_lie image 0 image.views ≡ (list_all (shared_lies image rooms) image.views && processes_fit image 0 (no_marks image.views) (length image.processes))
views_there image rooms is =
    turned image rooms is image.views 0
    ∙ sym (ap (λ b. list_all (shared_lies image rooms) image.views && b)
    (processes_there image (λ view. false) (length image.processes) 0
    ∙ ap (λ b. b && own_found image.views (map (found_of image (range_with_len 0 (length image.processes))) image.views))
    (all_alike (named_fit image) (rest_fit image 0 image.views) (whole_named image) (range_with_len 0 (length image.processes)))))

-- the same by what stands at the shared cells
pub views_turned : (image : ImageParts)
    → views_lie image 0 image.views ≡ (list_all (shared_lies image (map room_of_cell (expanded image.cells))) image.views && processes_fit image 0 (no_marks image.views) (length image.processes))
views_turned image = views_there image (map room_of_cell (expanded image.cells)) refl
