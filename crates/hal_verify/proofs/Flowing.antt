-- The flow of a block, by its notes.
use Rattle.std.specs.Prelude.{◌≡◌, ℕ, zero, suc, ◌+◌, ◌-◌, ◌==◌, nat_le, nat_lt, length, Bool, true, false, not, ◌&&◌, ◌||◌, List, [], ◌∷◌, Option, Some, None, slice_get, if◌then◌else◌}
use Rattle.std.proofs.Common.{refl, ap, sym, ◌∙◌, arith, ne_eqb}
use Rattle.hal_code.specs.declared.choice.Choice.TheVariants as choice
use Rattle.hal_code.specs.declared.image.ImageParts.{ImageParts}
use Rattle.hal_code.specs.declared.instr.Instr.{Instr}
use Rattle.hal_code.specs.declared.instr.Instr.TheVariants as instr
use Rattle.hal_code.specs.declared.operand.Response.TheVariants as response
use Rattle.hal_code.specs.declared.row.Block.{Block}
use Rattle.hal_code.specs.Blocks.{is_of_process}
use Rattle.hal_code.specs.Effects.{Sorts}
use Rattle.hal_code.specs.Flow.{Flow, flow_of, sorts_next, stacks, part_next, parts, same_part, part_at, is_inside, is_empty, is_entry, is_turn_over, leads_on, jumps_right, behind_bits, jumps}
use Rattle.hal_code.specs.Operands.{operands_right, holds_of}
use Rattle.hal_code.specs.Right.{stack_right, stands_right, frames_right, ends_right, is_last, instr_right, first_wrong, wrong_in}
use Rattle.hal_verify.specs.declared.note.Note.{Note}
use Rattle.hal_verify.specs.Noting.{note_of, notes, Noted, begins_in, entry_noted, leads_noted, jump_noted, jumps_noted, ends_noted, instr_noted, first_noted}

-- a stack is empty where it has no operands
not_zero : (n : ℕ) → (suc n == 0) ≡ false
not_zero n = ne_eqb (suc n) 0 (λ is. omega (arith, is))

empty_by : (stack : Sorts) → is_empty stack ≡ (length stack == 0)
empty_by [] = refl
empty_by (one ∷ stack) = sym (not_zero (length stack))

behind_by : (stack : Sorts) → is_empty (behind_bits stack) ≡ ((length stack - 1) == 0)
behind_by [] = refl
behind_by (one ∷ stack) = empty_by stack ∙ (let same : length stack ≡ suc (length stack) - 1 = omega arith in ap (λ n. n == 0) same)

abbrev part_of : Option (Option ℕ) → Option ℕ
part_of found = elim found [ None ↦ None | Some part ↦ part ]

-- a statement begins where the notes say so
begins_same : (image : ImageParts) (block : Block) (b n : ℕ) (is : List Instr) (part : Option ℕ) (stack : Sorts) (wanted : Option ℕ) (k : ℕ)
    → (holds_of is_empty (slice_get (stacks image block b is stack) k) && same_part wanted (part_of (slice_get (parts n is part) k)))
    ≡ begins_in wanted (slice_get (notes image block b n is part stack) k)
begins_same image block b n [] part stack wanted zero = refl
begins_same image block b n [] part stack wanted (suc k) = refl
begins_same image block b n (i ∷ is) part stack wanted zero = ap (λ e. e && same_part wanted part) (empty_by stack)
begins_same image block b n (i ∷ is) part stack wanted (suc k) =
    begins_same image block b (suc n) is (part_next n i part) (sorts_next image block b i stack) wanted k

-- what holds of a block and its notes together
record Fits (f : Flow) (w : Noted) : Type 0 where
  block : w.block ≡ f.block
  code : w.code ≡ f.code
  begins : (wanted : Option ℕ) (k : ℕ) → (holds_of is_empty (slice_get f.stacks k) && same_part wanted (part_at f k)) ≡ begins_in wanted (slice_get w.notes k)

entry_same : (f : Flow) (w : Noted) → Fits f w → (n : ℕ) (part : Option ℕ) → part_at f n ≡ part → (target : ℕ) → is_entry f n target ≡ entry_noted w part target
entry_same f w h n part here target =
    ap (λ p. (nat_le f.block.first target && nat_lt target f.block.end) && (holds_of is_empty (slice_get f.stacks (target - f.block.first)) && same_part p (part_at f (target - f.block.first)))) here
    ∙ ap (λ e. (nat_le f.block.first target && nat_lt target f.block.end) && e) (h.begins part (target - f.block.first))
    ∙ sym (ap (λ (block : Block). (nat_le block.first target && nat_lt target block.end) && begins_in part (slice_get w.notes (target - block.first))) h.block)

leads_same : (f : Flow) (w : Noted) → Fits f w → (at target : ℕ) → leads_on f at target ≡ leads_noted w at target
leads_same f w h at target =
    sym (ap (λ (block : Block). nat_lt at target || holds_of (is_turn_over at) (slice_get f.code (target - block.first))) h.block
    ) ∙ sym (ap (λ code. nat_lt at target || holds_of (is_turn_over at) (slice_get code (target - w.block.first))) h.code)

jump_same : (f : Flow) (w : Noted) → Fits f w → (n depth : ℕ) (stack : Sorts) (part : Option ℕ) → part_at f n ≡ part → is_empty stack ≡ (depth == 0) → (target : ℕ)
    → jumps_right f n stack target ≡ jump_noted w (f.block.first + n) depth part target
jump_same f w h n depth stack part here deep target =
    ap (λ e. e && (is_entry f n target && leads_on f (f.block.first + n) target)) deep
    ∙ ap (λ e. (depth == 0) && (e && leads_on f (f.block.first + n) target)) (entry_same f w h n part here target)
    ∙ ap (λ e. (depth == 0) && (entry_noted w part target && e)) (leads_same f w h (f.block.first + n) target)

jumps_same : (f : Flow) (w : Noted) → Fits f w → (n : ℕ) (stack : Sorts) (note : Note) → note.depth ≡ length stack → part_at f n ≡ note.part → (i : Instr)
    → jumps f n stack i ≡ jumps_noted w (f.block.first + n) note i
jumps_same f w h n stack note deep here (instr.Jump target) = jump_same f w h n note.depth stack note.part here (empty_by stack ∙ sym (ap (λ k. k == 0) deep)) target
jumps_same f w h n stack note deep here (instr.JumpNot target) = jump_same f w h n (note.depth - 1) (behind_bits stack) note.part here (behind_by stack ∙ sym (ap (λ k. (k - 1) == 0) deep)) target
jumps_same f w h n stack note deep here (instr.Turn target) =
    ap (λ e. e && (is_entry f n target && nat_lt (f.block.first + n) target)) (empty_by stack ∙ sym (ap (λ k. k == 0) deep))
    ∙ ap (λ e. (note.depth == 0) && (e && nat_lt (f.block.first + n) target)) (entry_same f w h n note.part here target)
jumps_same f w h n stack note deep here (instr.Input channel k target) = jump_same f w h n note.depth stack note.part here (empty_by stack ∙ sym (ap (λ k. k == 0) deep)) target
jumps_same f w h n stack note deep here (instr.On group number (choice.Known response.Statement) e event target) = entry_same f w h n note.part here target
jumps_same f w h n stack note deep here (instr.On group number (choice.Known response.System) e event target) = refl
jumps_same f w h n stack note deep here (instr.On group number (choice.Known response.Ignore) e event target) = refl
jumps_same f w h n stack note deep here (instr.On group number (choice.Other byte) e event target) = refl
jumps_same f w h n stack note deep here (instr.Int x) = refl
jumps_same f w h n stack note deep here (instr.Bits len word) = refl
jumps_same f w h n stack note deep here (instr.Text x) = refl
jumps_same f w h n stack note deep here (instr.Cell x) = refl
jumps_same f w h n stack note deep here (instr.Whole x) = refl
jumps_same f w h n stack note deep here instr.Fetch = refl
jumps_same f w h n stack note deep here instr.Peek = refl
jumps_same f w h n stack note deep here instr.Keep = refl
jumps_same f w h n stack note deep here instr.Dup = refl
jumps_same f w h n stack note deep here instr.Drop = refl
jumps_same f w h n stack note deep here (instr.Event x) = refl
jumps_same f w h n stack note deep here (instr.Op1 x) = refl
jumps_same f w h n stack note deep here (instr.Op2 x) = refl
jumps_same f w h n stack note deep here (instr.Len x) = refl
jumps_same f w h n stack note deep here (instr.Pick x) = refl
jumps_same f w h n stack note deep here (instr.Patch x) = refl
jumps_same f w h n stack note deep here (instr.Call x) = refl
jumps_same f w h n stack note deep here instr.Return = refl
jumps_same f w h n stack note deep here (instr.Off group number) = refl
jumps_same f w h n stack note deep here (instr.Raise group number) = refl
jumps_same f w h n stack note deep here instr.ErrGrp = refl
jumps_same f w h n stack note deep here instr.ErrNum = refl
jumps_same f w h n stack note deep here (instr.Bind x) = refl
jumps_same f w h n stack note deep here (instr.Copy x) = refl
jumps_same f w h n stack note deep here (instr.Clear spot many) = refl
jumps_same f w h n stack note deep here instr.Next = refl
jumps_same f w h n stack note deep here instr.Begin = refl
jumps_same f w h n stack note deep here instr.Finish = refl
jumps_same f w h n stack note deep here (instr.Schedule p begins prio dependent again until) = refl
jumps_same f w h n stack note deep here (instr.Cancel x) = refl
jumps_same f w h n stack note deep here (instr.Terminate x) = refl
jumps_same f w h n stack note deep here (instr.Wait x) = refl
jumps_same f w h n stack note deep here (instr.Signal x) = refl
jumps_same f w h n stack note deep here (instr.Set x) = refl
jumps_same f w h n stack note deep here (instr.Reset x) = refl
jumps_same f w h n stack note deep here (instr.Priority x) = refl
jumps_same f w h n stack note deep here instr.Item = refl
jumps_same f w h n stack note deep here (instr.Print x) = refl
jumps_same f w h n stack note deep here instr.Now = refl
jumps_same f w h n stack note deep here (instr.Open x) = refl
jumps_same f w h n stack note deep here instr.Close = refl

head_part : (n : ℕ) (is : List Instr) (part : Option ℕ) → slice_get (parts n is part) 0 ≡ Some part
head_part n [] part = refl
head_part n (i ∷ is) part = refl

abbrev ends_by : ℕ → ℕ → Instr → Option ℕ → Bool
ends_by n size i part = if suc n == size then is_last i && not (is_inside part) else true

instr_same : (image : ImageParts) (out : List Bool) (f : Flow) (w : Noted) → Fits f w → w.outward ≡ out → w.of_process ≡ is_of_process image f.number
    → (n : ℕ) (stack : Sorts) (part : Option ℕ) (i : Instr) → part_at f n ≡ part → part_at f (suc n) ≡ part_next n i part
    → instr_right image out f n i stack ≡ instr_noted w n (note_of image f.block f.number part i stack) i
instr_same image out f w h outward of_process n stack part i here next =
    ap (λ e. ((operands_right image f.block f.number i && stack_right image f.block i stack) && (e && stands_right out (is_inside (part_at f n)) i)) && (frames_right (is_of_process image f.number) (n == 0) i && ends_right f n i))
    (jumps_same f w h n stack (note_of image f.block f.number part i stack) refl here i)
    ∙ ap (λ p. ((operands_right image f.block f.number i && stack_right image f.block i stack) && (jumps_noted w (f.block.first + n) (note_of image f.block f.number part i stack) i && stands_right out (is_inside p) i)) && (frames_right (is_of_process image f.number) (n == 0) i && ends_right f n i)) here
    ∙ ap (λ p. ((operands_right image f.block f.number i && stack_right image f.block i stack) && (jumps_noted w (f.block.first + n) (note_of image f.block f.number part i stack) i && stands_right out (is_inside part) i)) && (frames_right (is_of_process image f.number) (n == 0) i && ends_by n (length f.code) i p)) next
    ∙ sym (ap (λ (block : Block). ((operands_right image f.block f.number i && stack_right image f.block i stack) && (jumps_noted w (block.first + n) (note_of image f.block f.number part i stack) i && stands_right w.outward (is_inside part) i)) && (frames_right w.of_process (n == 0) i && ends_noted w n (note_of image f.block f.number part i stack) i)) h.block
    ∙ ap (λ (o : List Bool). ((operands_right image f.block f.number i && stack_right image f.block i stack) && (jumps_noted w (f.block.first + n) (note_of image f.block f.number part i stack) i && stands_right o (is_inside part) i)) && (frames_right w.of_process (n == 0) i && ends_noted w n (note_of image f.block f.number part i stack) i)) outward
    ∙ ap (λ (o : Bool). ((operands_right image f.block f.number i && stack_right image f.block i stack) && (jumps_noted w (f.block.first + n) (note_of image f.block f.number part i stack) i && stands_right out (is_inside part) i)) && (frames_right o (n == 0) i && ends_noted w n (note_of image f.block f.number part i stack) i)) of_process
    ∙ ap (λ (code : List Instr). ((operands_right image f.block f.number i && stack_right image f.block i stack) && (jumps_noted w (f.block.first + n) (note_of image f.block f.number part i stack) i && stands_right out (is_inside part) i)) && (frames_right (is_of_process image f.number) (n == 0) i && ends_by n (length code) i (part_next n i part))) h.code)

-- the tail of those from a number on
next_get : {X : Type 0} (all : List X) (n : ℕ) (x : X) (xs : List X) → ((k : ℕ) → slice_get all (n + k) ≡ slice_get (x ∷ xs) k) → (k : ℕ) → slice_get all (suc n + k) ≡ slice_get xs k
next_get all n x xs there k = (let same : suc n + k ≡ n + suc k = omega arith in ap (λ m. slice_get all m) same) ∙ there (suc k)

here_get : {X : Type 0} (all : List X) (n : ℕ) (x : X) (xs : List X) → ((k : ℕ) → slice_get all (n + k) ≡ slice_get (x ∷ xs) k) → slice_get all n ≡ Some x
here_get all n x xs there = (let same : n ≡ n + 0 = omega arith in ap (λ m. slice_get all m) same) ∙ there 0

first_step : (w : Noted) (n : ℕ) (i : Instr) (is : List Instr) (note : Note) (found : Option Note) → found ≡ Some note
    → elim found [ None ↦ None | Some note ↦ if instr_noted w n note i then first_noted w (suc n) is else Some (w.block.first + n) ]
    ≡ (if instr_noted w n note i then first_noted w (suc n) is else Some (w.block.first + n))
first_step w n i is note found is_note = ap (λ x. elim x [ None ↦ None | Some note ↦ if instr_noted w n note i then first_noted w (suc n) is else Some (w.block.first + n) ]) is_note

first_same : (image : ImageParts) (out : List Bool) (f : Flow) (w : Noted) → Fits f w → w.outward ≡ out → w.of_process ≡ is_of_process image f.number
    → (n : ℕ) (is : List Instr) (part : Option ℕ) (stack : Sorts)
    → ((k : ℕ) → slice_get w.notes (n + k) ≡ slice_get (notes image f.block f.number n is part stack) k)
    → ((k : ℕ) → slice_get f.parts (n + k) ≡ slice_get (parts n is part) k)
    → first_wrong image out f n is (stacks image f.block f.number is stack) ≡ first_noted w n is
first_same image out f w h outward of_process n [] part stack noted parted = refl
first_same image out f w h outward of_process n (i ∷ is) part stack noted parted =
    let next_parts : (k : ℕ) → slice_get f.parts (suc n + k) ≡ slice_get (parts (suc n) is (part_next n i part)) k = next_get f.parts n part (parts (suc n) is (part_next n i part)) parted in
    let next_notes : (k : ℕ) → slice_get w.notes (suc n + k) ≡ slice_get (notes image f.block f.number (suc n) is (part_next n i part) (sorts_next image f.block f.number i stack)) k
    = next_get w.notes n (note_of image f.block f.number part i stack) (notes image f.block f.number (suc n) is (part_next n i part) (sorts_next image f.block f.number i stack)) noted in
    let here : part_at f n ≡ part = ap part_of (here_get f.parts n part (parts (suc n) is (part_next n i part)) parted) in
    let next : part_at f (suc n) ≡ part_next n i part =
    ap part_of ((let same : suc n ≡ suc n + 0 = omega arith in ap (λ m. slice_get f.parts m) same) ∙ next_parts 0 ∙ head_part (suc n) is (part_next n i part)) in
    ap (λ e. if e then first_wrong image out f (suc n) is (stacks image f.block f.number is (sorts_next image f.block f.number i stack)) else Some (f.block.first + n))
    (instr_same image out f w h outward of_process n stack part i here next)
    ∙ ap (λ others. if instr_noted w n (note_of image f.block f.number part i stack) i then others else Some (f.block.first + n))
    (first_same image out f w h outward of_process (suc n) is (part_next n i part) (sorts_next image f.block f.number i stack) next_notes next_parts)
    ∙ sym (ap (λ (block : Block). if instr_noted w n (note_of image f.block f.number part i stack) i then first_noted w (suc n) is else Some (block.first + n)) h.block)
    ∙ sym (first_step w n i is (note_of image f.block f.number part i stack) (slice_get w.notes n)
    (here_get w.notes n (note_of image f.block f.number part i stack) (notes image f.block f.number (suc n) is (part_next n i part) (sorts_next image f.block f.number i stack)) noted))

zero_get : {X : Type 0} (all : List X) (k : ℕ) → slice_get all (0 + k) ≡ slice_get all k
zero_get all k = let same : 0 + k ≡ k = omega arith in ap (λ m. slice_get all m) same

-- the first instruction of a block that isn't right
pub wrong_there : (image : ImageParts) (out : List Bool) (block : Block) (b : ℕ) (code : List Instr)
    → wrong_in image out (flow_of image block b code)
    ≡ first_noted (record { block = block; code = code; notes = notes image block b 0 code None []; outward = out; of_process = is_of_process image b }) 0 code
wrong_there image out block b code =
    let w : Noted = record { block = block; code = code; notes = notes image block b 0 code None []; outward = out; of_process = is_of_process image b } in
    first_same image out (flow_of image block b code) w
    (record { block = refl; code = refl; begins = λ wanted k. begins_same image block b 0 code None [] wanted k })
    refl refl 0 code None [] (λ k. zero_get w.notes k) (λ k. zero_get (parts 0 code None) k)
