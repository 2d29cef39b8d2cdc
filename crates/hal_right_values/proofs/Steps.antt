-- Cores and steps that hold right values.
use Rattle.std.specs.Prelude.{ℕ, zero, suc, ◌≡◌, Bool, true, false, List, [], ◌∷◌, ◌++◌, take, drop, Option, Some, None, slice_get, slice_set, if◌then◌else◌}
use Rattle.std.proofs.Common.{refl}
use Rattle.hal_values.specs.declared.environment.Entry.{Entry}
use Rattle.hal_values.specs.declared.request.Request.{Request}
use Rattle.hal_values.specs.declared.request.Request.TheVariants as request
use Rattle.hal_values.specs.declared.tables.Cell.{Cell}
use Rattle.hal_values.specs.declared.value.Value.{Value}
use Rattle.hal_values.specs.Answers.{error}
use Rattle.hal_values.specs.Kinds.{IsKind}
use Rattle.hal_states.specs.Spots.{Held, Holds, Refers, kept, held_in}
use Rattle.hal_states.specs.Modes.{Mode}
use Rattle.hal_code.specs.declared.row.Target.{Target}
use Rattle.hal_code.specs.declared.row.Target.TheVariants as target
use Rattle.hal_code.specs.declared.row.View.{View}
use Rattle.hal_code.specs.Addressing.{cleared}
use Rattle.hal_code.specs.Cores.{Operand, Frame, Setting, Core, core, with_kept, going, Wait, Halts, Step, Waits, Moves, Counts}
use Rattle.hal_code.specs.Images.{kinds_of}
use Rattle.hal_code.specs.Raising.{stuck}
use Rattle.hal_sound_values.specs.Right.{IsRight}
use Rattle.hal_right_values.specs.Holding.{AreRightOperands, AreRightFrames, IsRightHeld, AreRightHeld, AreRight, AreRightWrites, Holding, AreKinds, HoldsAfter, HoldingStep}
use Rattle.hal_right_values.proofs.Rights.{zero_right}

-- what a view gives is of a kind that a declaration can have
abbrev pub IsRightTarget : Target → Type 0
IsRightTarget (target.Cell kind) = IsKind kind
IsRightTarget (target.Shape shape) = Unit {0}

-- what is known of the tables of a right image
pub record Known (s : Setting) : Type 0 where
  pub cells : (number : ℕ) (cell : Cell) → slice_get s.tables.cells number ≡ Some cell → IsKind cell.kind
  pub firsts : AreRightHeld s.firsts
  pub shapes : (shape : ℕ) → AreKinds (kinds_of s.image shape)
  pub views : (v : ℕ) (view : View) → slice_get s.image.views v ≡ Some view → IsRightTarget view.target

pub record Right (step : Step) : Type 0 where
  pub is : HoldingStep step

-- what a core that holds right values becomes
pub going_right : (c : Core) (at : ℕ) (stack : List Operand) → Holding c → AreRightOperands stack → Holding (going at stack c)
going_right c at stack h right = record { operands = right; frames = h.frames; places = h.places; last = h.last; store = h.store; writes = h.writes }

pub placed_right : (c : Core) (places : List Held) → Holding c → AreRightHeld places → Holding (with_kept (kept places c.kept.last) c)
placed_right c places h right = record { operands = h.operands; frames = h.frames; places = right; last = h.last; store = h.store; writes = h.writes }

pub core_right : (c : Core) (at : ℕ) (stack : List Operand) (line : List ℕ) (entries : List Entry) (frames : List Frame) (m : Mode) → Holding c → AreRightOperands stack → AreRightFrames frames → AreRight m.store → AreRightWrites m.writes
    → Holding (core at stack line entries frames c.kept m)
core_right c at stack line entries frames m h right below store writes = record { operands = right; frames = below; places = h.places; last = h.last; store = store; writes = writes }

-- values in lists
pub held_set : (places : List Held) (n : ℕ) (held : Held) → AreRightHeld places → IsRightHeld held → AreRightHeld (slice_set places n held)
held_set [] n held right is = tt
held_set (one ∷ places) zero held right is = (is, right.1)
held_set (one ∷ places) (suc n) held right is = (right.0, held_set places n held right.1 is)

held_append : (xs ys : List Held) → AreRightHeld xs → AreRightHeld ys → AreRightHeld (xs ++ ys)
held_append [] ys one other = other
held_append (x ∷ xs) ys one other = (one.0, held_append xs ys one.1 other)

held_take : (n : ℕ) (xs : List Held) → AreRightHeld xs → AreRightHeld (take n xs)
held_take zero xs right = tt
held_take (suc n) [] right = tt
held_take (suc n) (x ∷ xs) right = (right.0, held_take n xs right.1)

held_drop : (n : ℕ) (xs : List Held) → AreRightHeld xs → AreRightHeld (drop n xs)
held_drop zero xs right = right
held_drop (suc n) [] right = tt
held_drop (suc n) (x ∷ xs) right = held_drop n xs right.1

pub held_cleared : (firsts places : List Held) (place count : ℕ) → AreRightHeld firsts → AreRightHeld places → AreRightHeld (cleared firsts place count places)
held_cleared firsts places place count first right =
    held_append (take place places) _ (held_take place places right) (held_append (take count (drop place firsts)) _ (held_take count (drop place firsts) (held_drop place firsts first)) (held_drop _ places right))

pub held_right : (places : List Held) (n : ℕ) → AreRightHeld places → IsRight (held_in (slice_get places n))
held_right [] n right = zero_right
held_right (Holds v ∷ places) zero right = right.0
held_right (Refers at ∷ places) zero right = zero_right
held_right (one ∷ places) (suc n) right = held_right places n right.1

pub store_set : (store : List Value) (n : ℕ) (v : Value) → AreRight store → IsRight v → AreRight (slice_set store n v)
store_set [] n v right is = tt
store_set (one ∷ store) zero v right is = (is, right.1)
store_set (one ∷ store) (suc n) v right is = (right.0, store_set store n v right.1 is)

pub writes_push : (writes : List (ℕ × Value)) (n : ℕ) (v : Value) → AreRightWrites writes → IsRight v → AreRightWrites (writes ++ ((n, v) ∷ []))
writes_push [] n v right is = (is, tt)
writes_push (one ∷ writes) n v right is = (right.0, writes_push writes n v right.1 is)

-- steps
pub moves : (c : Core) → Holding c → Right (Moves c)
moves c h = record { is = h }

pub counts : (c : Core) → Holding c → Right (Counts c)
counts c h = record { is = h }

pub waits : (r : Request) (w : Wait) (c : Core) → Holding c → HoldsAfter r w → Right (Waits r w c)
waits r w c h after = record { is = (h, after) }

pub sticks : (c : Core) → Holding c → Right (stuck c)
sticks c h = waits (request.Stop (error 0 0)) (Halts (error 0 0)) c h tt

pub either : (b : Bool) (x y : Step) → (b ≡ true → Right x) → (b ≡ false → Right y) → Right (if b then x else y)
either true x y one other = one refl
either false x y one other = other refl

pub found : {A : Type 0} (o : Option A) (none : Step) (some : A → Step) → Right none → ((a : A) → o ≡ Some a → Right (some a)) → Right (elim o [ None ↦ none | Some a ↦ some a ])
found None none some without each = without
found (Some a) none some without each = each a refl
