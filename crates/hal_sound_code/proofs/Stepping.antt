-- Cores and steps that fit their image.
use Rattle.std.specs.Prelude.{ℕ, ◌<◌, ◌≤◌, ◌≡◌, Bool, true, false, List, if◌then◌else◌}
use Rattle.std.proofs.Common.{refl, ap, arith}
use Rattle.hal_values.specs.declared.environment.ErrNo.{ErrNo}
use Rattle.hal_values.specs.declared.request.Request.{Request}
use Rattle.hal_values.specs.declared.request.Request.TheVariants as request
use Rattle.hal_states.specs.Spots.{Held, kept}
use Rattle.hal_states.specs.Modes.{Mode}
use Rattle.hal_code.specs.Images.{places_of}
use Rattle.hal_code.specs.Cores.{with_kept, Setting, Core, core, Goes, Wait, Then, Step, Waits, Moves, Counts}
use Rattle.hal_sound_code.specs.Lying.{AreHeld}
use Rattle.hal_sound_code.specs.Typed.{IsKept, IsTyped, IsError, IsAsked, IsReady, Awaits}

-- a core that fits, with at most so many turns left
pub record Well (s : Setting) (most : ℕ) (c : Core) : Type 0 where
  pub typed : IsTyped s c
  pub few : c.mode.turns ≤ most

-- a step leads to such a core, and a turn that is counted to fewer turns
abbrev pub IsWell : Setting → ℕ → Step → Type 0
IsWell s most (Waits r w c) = Awaits s r w c
IsWell s most (Moves c) = Well s most c
IsWell s most (Counts c) = IsTyped s c × (c.mode.turns < most)

pub record Typed (s : Setting) (most : ℕ) (step : Step) : Type 0 where
  pub is : IsWell s most step

-- other lines, modes and last errors
pub typed_with : (s : Setting) (c : Core) (line : List ℕ) (m : Mode) (last : ErrNo) → IsTyped s c → IsTyped s (core c.at c.stack line c.entries c.frames (kept c.kept.places last) m)
typed_with s c line m last is = record { number = is.number; inside = is.inside; stands = is.stands; lead = is.lead; enter = is.enter; below = is.below; kept = is.kept }

-- other values of own places
pub well_kept : (s : Setting) (most : ℕ) (c : Core) (places : List Held) → Well s most c → AreHeld s (places_of s.image s.process) places → Well s most (with_kept (kept places c.kept.last) c)
well_kept s most c places well are = record {
  typed = record { number = well.typed.number; inside = well.typed.inside; stands = well.typed.stands; lead = well.typed.lead; enter = well.typed.enter; below = well.typed.below; kept = are };
  few = well.few;
}

-- the group of the error with which a process ends
abbrev group_of : Request → ℕ
group_of (request.Stop e) = e.group
group_of other = 1

pub stops : (e : ErrNo) → IsError e → IsAsked (request.Stop e)
stops e is same = absurd (omega (arith, is, none))
  where
    none : e.group ≡ 0
    none = ap group_of same

module _ (s : Setting) (most : ℕ) where
  pub moves : (c : Core) → Well s most c → Typed s most (Moves c)
  moves c well = record { is = well }

  pub counts : (c : Core) → IsTyped s c → c.mode.turns < most → Typed s most (Counts c)
  counts c typed fewer = record { is = (typed, fewer) }

  pub awaits : (r : Request) (w : Wait) (c : Core) → IsAsked r → IsKept s c → IsReady s r w c → Typed s most (Waits r w c)
  awaits r w c asks is ready = record { is = record { asked = asks; kept = is; ready = ready } }

  -- something is asked, and then the machine goes on with the core
  pub goes_on : (r : Request) (c : Core) → IsAsked r → IsTyped s c → Typed s most (Waits r (Then Goes) c)
  goes_on r c asks typed = awaits r (Then Goes) c asks typed.kept (typed, tt)

  pub either : (b : Bool) (x y : Step) → (b ≡ true → Typed s most x) → (b ≡ false → Typed s most y) → Typed s most (if b then x else y)
  either true x y one other = one refl
  either false x y one other = other refl
