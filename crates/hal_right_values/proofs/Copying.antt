-- What COPY copies lies at small numbers, and what CLEAR clears is there.
use Rattle.std.specs.Prelude.{◌||◌, ◌≡◌, ℕ, zero, suc, ◌+◌, ◌<◌, ◌≤◌, ◌==◌, length, Bool, true, false, List, [], ◌∷◌, Option, Some, None, slice_get}
use Rattle.std.proofs.Common.{refl, arith}
use Rattle.std.proofs.lemmas.Bool.{leb-true}
use Rattle.hal_values.specs.declared.value.Kind.{Kind}
use Rattle.hal_states.specs.Spots.{Spot, Held}
use Rattle.hal_code.specs.declared.instr.Instr.{Instr}
use Rattle.hal_code.specs.declared.instr.Instr.TheVariants as instr
use Rattle.hal_code.specs.declared.row.Block.{Block}
use Rattle.hal_code.specs.declared.row.OwnPlace.{OwnPlace}
use Rattle.hal_code.specs.Blocks.{is_common, block_places}
use Rattle.hal_code.specs.Cores.{Operand, Val, At, Area, Setting, Core}
use Rattle.hal_code.specs.Effects.{Sorts, copied_sorts}
use Rattle.hal_code.specs.Images.{places_of, kinds_of}
use Rattle.hal_code.specs.Memory.{lies_from, own_memory, kind_of_place, are_data}
use Rattle.hal_sound_code.specs.Lying.{LieAt, sorts_of, AllLead, AreHeld}
use Rattle.hal_sound_code.specs.Typed.{IsTyped}
use Rattle.hal_sound_code.proofs.Memory.{lies_own}
use Rattle.hal_sound_code.proofs.Points.{Faces}
use Rattle.hal_sound_code.proofs.Rights.{Whole}
use Rattle.hal_sound_code.proofs.Taking.{if_taken}
use Rattle.hal_sound_code.proofs.Views.{places_there}
use Rattle.hal_right_values.specs.Finding.{ClearFits}
use Rattle.hal_right_values.proofs.Acting.{IsLow}
use Rattle.hal_right_values.proofs.Addressing.{AreLow, AreLowOn}
use Rattle.hal_right_values.proofs.Rooms.{copies_fit}

low_of : (s : Setting) → Whole s.image → (at : Spot) (place : ℕ) (ks : List Kind) → LieAt s at ks → lies_from (own_memory (places_of s.image s.process)) place ks ≡ true → AreLow ks at place
low_of s all at place [] lies own = tt
low_of s all at place (k ∷ ks) lies own = copies_fit s all at place k ks lies own

low_on_stack : (s : Setting) → Whole s.image → s.process < length s.image.processes → (block : Block) → (is_common block || (block.process == s.process)) ≡ true → (place : ℕ) (stack : List Operand) (after : Sorts) → AllLead s stack
    → copied_sorts s.image block place (sorts_of stack) ≡ Some after → AreLowOn s place stack
low_on_stack s all exists block own place [] after lead e = tt
low_on_stack s all exists block own place (Val v ∷ stack) after lead e = tt
low_on_stack s all exists block own place (At at k ∷ stack) after lead e = tt
low_on_stack s all exists block own place (Area at shape ∷ stack) after lead e =
    low_of s all at place (kinds_of s.image shape) lead.0
    (lies_own (block_places s.image block) (places_of s.image s.process) (places_there s block exists own) place (kinds_of s.image shape) (if_taken (lies_from (own_memory (block_places s.image block)) place (kinds_of s.image shape)) (sorts_of stack) after e).0)

pub low_at : (s : Setting) → Whole s.image → s.process < length s.image.processes → (c : Core) (typed : IsTyped s c) (i : Instr) → Faces s typed.number typed.inside c.at (sorts_of c.stack) i → IsLow s i c.stack
low_at s all exists c typed (instr.Copy place) f = low_on_stack s all exists f.block f.own place c.stack f.after typed.lead f.stack
low_at s all exists c typed other f = tt

-- own places that hold data are there
data_end : (places : List OwnPlace) (number count : ℕ) → are_data places number count ≡ true → number + count ≤ length places
data_end places number zero e = omega (arith, leb-true number (length places) e)
data_end places number (suc count) e = one_on (length places) (data_end places (suc number) count (of_place (slice_get places number) e))
  where
    one_on : (size : ℕ) → suc number + count ≤ size → number + suc count ≤ size
    one_on size h = omega (arith, h)

    of_kind : (k : Option Kind) → ◌≡◌ {A = Bool} (elim k [ None ↦ false | Some one ↦ are_data places (suc number) count ]) true → are_data places (suc number) count ≡ true
    of_kind None h = absurd (cc)
    of_kind (Some k) h = h

    of_place : (o : Option OwnPlace) → ◌≡◌ {A = Bool} (elim o [ None ↦ false | Some one ↦ elim (kind_of_place one) [ None ↦ false | Some k ↦ are_data places (suc number) count ] ]) true → are_data places (suc number) count ≡ true
    of_place None h = absurd (cc)
    of_place (Some one) h = of_kind (kind_of_place one) h

-- a list of which another one has all is no longer
no_longer : {T : Type 0} (xs ys : List T) → ((n : ℕ) (x : T) → slice_get xs n ≡ Some x → slice_get ys n ≡ Some x) → length xs ≤ length ys
no_longer [] ys each = omega arith
no_longer (x ∷ xs) [] each = absurd (let no : None ≡ Some x = each zero x refl in cc)
no_longer (x ∷ xs) (y ∷ ys) each = omega (arith, no_longer xs ys (λ n one e. each (suc n) one e))

-- a place holds one thing
held_length : (s : Setting) (places : List OwnPlace) (held : List Held) → AreHeld s places held → length held ≡ length places
held_length s [] [] are = refl
held_length s (one ∷ places) (h ∷ held) are = omega (arith, held_length s places held are.1)
held_length s [] (h ∷ held) are = absurd (are)
held_length s (one ∷ places) [] are = absurd (are)

pub clear_fits : (s : Setting) → s.process < length s.image.processes → (block : Block) → (is_common block || (block.process == s.process)) ≡ true → (place count : ℕ) (c : Core) → AreHeld s (places_of s.image s.process) s.firsts
    → AreHeld s (places_of s.image s.process) c.kept.places → are_data (block_places s.image block) place count ≡ true → ClearFits s place count c
clear_fits s exists block own place count c firsts kept e = (below (length s.firsts) (held_length s (places_of s.image s.process) s.firsts firsts), below (length c.kept.places) (held_length s (places_of s.image s.process) c.kept.places kept))
  where
    within : place + count ≤ length (block_places s.image block)
    within = data_end (block_places s.image block) place count e

    few : length (block_places s.image block) ≤ length (places_of s.image s.process)
    few = no_longer (block_places s.image block) (places_of s.image s.process) (places_there s block exists own)

    below : (size : ℕ) → size ≡ length (places_of s.image s.process) → place + count ≤ size
    below size is = chain (place + count) (length (block_places s.image block)) (length (places_of s.image s.process)) size within few is
      where
        chain : (a b c d : ℕ) → a ≤ b → b ≤ c → d ≡ c → a ≤ d
        chain a b c d one two three = omega (arith, one, two, three)
