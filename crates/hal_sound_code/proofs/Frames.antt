-- Frames are few, since blocks call only blocks with smaller numbers.
use Rattle.std.specs.Prelude.{ℕ, suc, ◌+◌, ◌*◌, ◌<◌, ◌≤◌, length, Bool, true, false, List, [], ◌∷◌, Option, Some, None, if◌then◌else◌}
use Rattle.std.proofs.Common.{sym, subst, arith}
use Rattle.std.proofs.lemmas.Option.{slice_get_within}
use Rattle.hal_code.specs.Cores.{Setting, Core, Frame, Return}
use Rattle.hal_code.specs.Effects.{Sorts}
use Rattle.hal_sound_code.specs.Standing.{Stands, AreBelow, call_count}
use Rattle.hal_sound_code.specs.Typed.{IsTyped}
use Rattle.hal_sound_code.proofs.Entering.{Under}

within : (s : Setting) (number : ℕ) (inside : Bool) (at : ℕ) (sorts : Sorts) → Stands s number inside at sorts → number < length s.image.blocks
within s number inside at sorts st = slice_get_within s.image.blocks number st.block st.row

-- the calls
few_calls : (s : Setting) (frames : List Frame) (number : ℕ) (inside : Bool) → AreBelow s number inside frames → number < length s.image.blocks → number + call_count frames < length s.image.blocks
few_calls s [] number inside below less = omega (arith, less)
few_calls s (f ∷ fs) number inside below less = at_back (few_calls s fs) f.back below
  where
    at_back : ((caller : ℕ) (in_block : Bool) → AreBelow s caller in_block fs → caller < length s.image.blocks → caller + call_count fs < length s.image.blocks) → (back : Option Return) → Under s number inside f.entries fs back
        → number + elim back [ None ↦ call_count fs | Some one ↦ suc (call_count fs) ] < length s.image.blocks
    at_back later None under = later number false under.2 less
    at_back later (Some back) under = above number under.1.caller (call_count fs) (length s.image.blocks) under.1.smaller (later under.1.caller under.1.within under.1.below (within s under.1.caller under.1.within back.at _ under.1.stands))
      where
        above : (a b n size : ℕ) → a < b → b + n < size → a + suc n < size
        above a b n size smaller few = omega (arith, smaller, few)

-- the frames, with those of UPDATE blocks
abbrev one_if : Bool → ℕ
one_if b = if b then 1 else 0

few_frames : (s : Setting) (frames : List Frame) (number : ℕ) (inside : Bool) → AreBelow s number inside frames → length frames ≤ 2 * call_count frames + one_if inside
few_frames s [] number inside below = omega arith
few_frames s (f ∷ fs) number inside below = at_back (few_frames s fs) f.back below
  where
    at_back : ((caller : ℕ) (in_block : Bool) → AreBelow s caller in_block fs → length fs ≤ 2 * call_count fs + one_if in_block) → (back : Option Return) → Under s number inside f.entries fs back
        → suc (length fs) ≤ 2 * elim back [ None ↦ call_count fs | Some one ↦ suc (call_count fs) ] + one_if inside
    at_back later None under = subst (λ b. suc (length fs) ≤ 2 * call_count fs + one_if b) (sym under.0) (one_more (length fs) (call_count fs) (later number false under.2))
      where
        one_more : (n calls : ℕ) → n ≤ 2 * calls + 0 → suc n ≤ 2 * calls + 1
        one_more n calls few = omega (arith, few)
    at_back later (Some back) under = one_more (length fs) (call_count fs) under.1.within (one_if inside) (later under.1.caller under.1.within under.1.below)
      where
        one_more : (n calls : ℕ) (b : Bool) (some : ℕ) → n ≤ 2 * calls + one_if b → suc n ≤ 2 * suc calls + some
        one_more n calls true some few = omega (arith, few)
        one_more n calls false some few = omega (arith, few)

pub calls_are_few : (s : Setting) (c : Core) → IsTyped s c → call_count c.frames < length s.image.blocks
calls_are_few s c typed = less typed.number (call_count c.frames) (length s.image.blocks) (few_calls s c.frames typed.number typed.inside typed.below (within s typed.number typed.inside c.at _ typed.stands))
  where
    less : (a n size : ℕ) → a + n < size → n < size
    less a n size few = omega (arith, few)

pub frames_are_few : (s : Setting) (c : Core) → IsTyped s c → length c.frames < 2 * length s.image.blocks
frames_are_few s c typed = less (length c.frames) (call_count c.frames) (length s.image.blocks) typed.inside (few_frames s c.frames typed.number typed.inside typed.below) (calls_are_few s c typed)
  where
    less : (n calls size : ℕ) (b : Bool) → n ≤ 2 * calls + one_if b → calls < size → n < 2 * size
    less n calls size true few fewer = omega (arith, few, fewer)
    less n calls size false few fewer = omega (arith, few, fewer)
