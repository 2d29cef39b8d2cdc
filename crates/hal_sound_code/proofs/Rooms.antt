-- Operands have room.
use Rattle.std.specs.Prelude.{ℕ, zero, suc, ◌+◌, ◌-◌, ◌<◌, ◌≤◌, ◌≡◌, max, length, Bool, false, List, [], ◌∷◌, Option, Some, None, slice_get}
use Rattle.std.proofs.Common.{sym, subst, arith}
use Rattle.std.proofs.lemmas.List.{length-map}
use Rattle.std.proofs.lemmas.Option.{slice_get_within}
use Rattle.hal_values.specs.declared.value.Value.{Value}
use Rattle.hal_code.specs.declared.image.ImageParts.{ImageParts}
use Rattle.hal_code.specs.Blocks.{code_of}
use Rattle.hal_code.specs.Controlling.{with_result}
use Rattle.hal_code.specs.Cores.{Operand, Setting, Core, Frame, Return}
use Rattle.hal_code.specs.Effects.{Sorts}
use Rattle.hal_code.specs.Flow.{flow_of}
use Rattle.hal_sound_code.specs.Lying.{sort_of_operand, sorts_of}
use Rattle.hal_sound_code.specs.Room.{deepest, depth_of, room_below, saved_count, operand_count}
use Rattle.hal_sound_code.specs.Standing.{Stands, AreBelow}
use Rattle.hal_sound_code.specs.Typed.{IsTyped}
use Rattle.hal_sound_code.proofs.Entering.{Under}

-- no stack is deeper than the deepest
below_deepest : (stacks : List Sorts) (n : ℕ) (sorts : Sorts) → slice_get stacks n ≡ Some sorts → length sorts ≤ deepest stacks
below_deepest [] n sorts e = absurd (cc)
below_deepest (stack ∷ stacks) zero sorts e = subst (λ one. length one ≤ max (length stack) (deepest stacks)) (let same : stack ≡ sorts = cc in same) (omega arith)
below_deepest (stack ∷ stacks) (suc n) sorts e = above (length sorts) (length stack) (deepest stacks) (below_deepest stacks n sorts e)
  where
    above : (a b c : ℕ) → a ≤ c → a ≤ max b c
    above a b c low = omega (arith, low)

-- where control stands the stack is no deeper than the block's
stands_low : (s : Setting) (number : ℕ) (inside : Bool) (at : ℕ) (sorts : Sorts) → Stands s number inside at sorts → length sorts ≤ depth_of s.image number
stands_low s number inside at sorts st =
    subst (λ o. length sorts ≤ elim o [ None ↦ 0 | Some block ↦ deepest (flow_of s.image block number (code_of s.image block)).stacks ]) (sym st.row) (below_deepest (flow_of s.image st.block number (code_of s.image st.block)).stacks st.place sorts st.stack)

-- more blocks have no less room
room_on : (image : ImageParts) (a more : ℕ) → room_below image a ≤ room_below image (a + more)
room_on image a zero = subst (λ n. room_below image a ≤ room_below image n) (let same : a ≡ a + zero = omega arith in same) (omega arith)
room_on image a (suc more) = subst (λ n. room_below image a ≤ room_below image n) (let same : suc (a + more) ≡ a + suc more = omega arith in same) (low (room_below image a) (room_below image (a + more)) (depth_of image (a + more)) (room_on image a more))
  where
    low : (x y z : ℕ) → x ≤ y → x ≤ y + z
    low x y z is = omega (arith, is)

room_more : (image : ImageParts) (a b : ℕ) → a ≤ b → room_below image a ≤ room_below image b
room_more image a b low = subst (λ n. room_below image a ≤ room_below image n) (let same : a + (b - a) ≡ b = omega (arith, low) in same) (room_on image a (b - a))

-- a stack is no longer with a result
less_than_with : (wanted : Option Value) (stack : List Operand) → length stack ≤ length (sorts_of (with_result wanted stack))
less_than_with None stack = omega (arith, length-map stack sort_of_operand)
less_than_with (Some v) stack = omega (arith, length-map stack sort_of_operand)

-- the blocks that called have room above the block that runs
saved_low : (s : Setting) (frames : List Frame) (number : ℕ) (inside : Bool) → AreBelow s number inside frames → number < length s.image.blocks → room_below s.image (suc number) + saved_count frames ≤ room_below s.image (length s.image.blocks)
saved_low s [] number inside below less = low (room_below s.image (suc number)) (room_below s.image (length s.image.blocks)) (room_more s.image (suc number) (length s.image.blocks) (omega (arith, less)))
  where
    low : (x y : ℕ) → x ≤ y → x + 0 ≤ y
    low x y is = omega (arith, is)
saved_low s (f ∷ fs) number inside below less = at_back (saved_low s fs) f.back below
  where
    sums : (here there depth saved rest all : ℕ) → here ≤ there → saved ≤ depth → (there + depth) + rest ≤ all → here + (saved + rest) ≤ all
    sums here there depth saved rest all low few is = omega (arith, low, few, is)

    at_back : ((caller : ℕ) (in_block : Bool) → AreBelow s caller in_block fs → caller < length s.image.blocks → room_below s.image (suc caller) + saved_count fs ≤ room_below s.image (length s.image.blocks)) → (back : Option Return) → Under s number inside f.entries fs back
        → room_below s.image (suc number) + elim back [ None ↦ saved_count fs | Some one ↦ length one.stack + saved_count fs ] ≤ room_below s.image (length s.image.blocks)
    at_back later None under = later number false under.2 less
    at_back later (Some back) under =
        sums (room_below s.image (suc number)) (room_below s.image under.1.caller) (depth_of s.image under.1.caller) (length back.stack) (saved_count fs) (room_below s.image (length s.image.blocks))
        (room_more s.image (suc number) under.1.caller (omega (arith, under.1.smaller)))
        (saved (stands_low s under.1.caller under.1.within back.at (sorts_of (with_result back.result back.stack)) under.1.stands))
        (later under.1.caller under.1.within under.1.below (slice_get_within s.image.blocks under.1.caller under.1.stands.block under.1.stands.row))
      where
        saved : length (sorts_of (with_result back.result back.stack)) ≤ depth_of s.image under.1.caller → length back.stack ≤ depth_of s.image under.1.caller
        saved low = omega (arith, low, less_than_with back.result back.stack)

-- all operands have room
pub operands_low : (s : Setting) (c : Core) → IsTyped s c → operand_count c ≤ room_below s.image (length s.image.blocks)
operands_low s c typed =
    sums (length c.stack) (room_below s.image typed.number) (depth_of s.image typed.number) (saved_count c.frames) (room_below s.image (length s.image.blocks))
    (omega (arith, length-map c.stack sort_of_operand, stands_low s typed.number typed.inside c.at (sorts_of c.stack) typed.stands))
    (saved_low s c.frames typed.number typed.inside typed.below (slice_get_within s.image.blocks typed.number typed.stands.block typed.stands.row))
  where
    sums : (size room depth saved all : ℕ) → size ≤ depth → (room + depth) + saved ≤ all → size + saved ≤ all
    sums size room depth saved all low is = omega (arith, low, is)
