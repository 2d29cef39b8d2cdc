-- Instructions with addresses hold right values.
use Rattle.std.specs.Prelude.{ℕ, zero, suc, ◌+◌, length, List, [], ◌∷◌, ◌++◌, ℤ, pos, Option, Some, None, slice_get, Result, Ok, Err, IfOk, IfErr}
use Rattle.std.proofs.Common.{arith}
use Rattle.hal_values.specs.declared.environment.ErrNo.{ErrNo}
use Rattle.hal_values.specs.declared.request.Request.TheVariants as request
use Rattle.hal_values.specs.declared.request.Spot.TheVariants as asked
use Rattle.hal_values.specs.declared.tables.Cell.{Cell}
use Rattle.hal_values.specs.declared.value.Kind.{Kind}
use Rattle.hal_values.specs.declared.value.Value.{Value}
use Rattle.hal_values.specs.declared.value.Value.TheVariants as value
use Rattle.hal_values.specs.Answers.{error}
use Rattle.hal_values.specs.Kinds.{IsKind}
use Rattle.hal_operations.specs.Stores.{stored, mended_store}
use Rattle.hal_states.specs.Spots.{Spot, Shared, Own, Nowhere, Holds, Refers, held_in, further}
use Rattle.hal_states.specs.OfKinds.{nothing}
use Rattle.hal_states.specs.Modes.{seen_cell}
use Rattle.hal_code.specs.declared.row.Target.{Target}
use Rattle.hal_code.specs.declared.row.Target.TheVariants as target
use Rattle.hal_code.specs.declared.row.View.{View}
use Rattle.hal_code.specs.Addressing.{popped, all_inside, cells_before, spot_of, operand_of, addressed, viewed, is_of_cell, cell_viewed, area_viewed, pushed, fetched_cell, fetched, stored_at, placed, copied_cell, copied, cleared, act_fetch, act_peek, act_keep, act_bind, act_copy, act_clear}
use Rattle.hal_code.specs.Cores.{Operand, Val, At, Area, Setting, Core, going, Puts, Pushes, Copies, Step}
use Rattle.hal_code.specs.Images.{kinds_of}
use Rattle.hal_code.specs.Raising.{stuck}
use Rattle.hal_sound_values.specs.Right.{IsRight}
use Rattle.hal_right_values.specs.Ranges.{IsOfBytes}
use Rattle.hal_right_values.specs.Finding.{CopiesFit}
use Rattle.hal_right_values.specs.Holding.{IsRightOperand, AreRightOperands, Holding, AreKinds}
use Rattle.hal_right_values.proofs.Errors.{small, stored_errs}
use Rattle.hal_right_values.proofs.Rights.{nothing_right, seen_right, stored_right, mended_store_right, zero_right}
use Rattle.hal_right_values.proofs.Raising.{Right-raised, Right-put, Right-raised_before}
use Rattle.hal_right_values.proofs.Steps.{IsRightTarget, Known, Right, going_right, placed_right, held_set, held_cleared, held_right, moves, waits, sticks, either, found}

-- what is left below integers on the stack
abbrev Leaves : Option (List ℤ × List Operand) → Type 0
Leaves None = Unit {0}
Leaves (Some got) = AreRightOperands got.1

one_popped : (v : Value) (o : Option (List ℤ × List Operand)) (one : List ℤ) → Leaves o → Leaves (elim o [ None ↦ None | Some got ↦ Some (got.0 ++ one, got.1) ])
one_popped v None one left = tt
one_popped v (Some got) one left = left

popped_right : (n : ℕ) (stack : List Operand) → AreRightOperands stack → Leaves (popped n stack)
popped_right zero stack right = right
popped_right (suc n) [] right = tt
popped_right (suc n) (Val v ∷ stack) right = one_popped v (popped n stack) _ (popped_right n stack right.1)
popped_right (suc n) (At at k ∷ stack) right = tt
popped_right (suc n) (Area at shape ∷ stack) right = tt

-- the numbers of the cells and places of a copy are small, where there are any
abbrev pub AreLow : List Kind → Spot → ℕ → Type 0
AreLow [] from place = Unit {0}
AreLow (k ∷ ks) from place = CopiesFit (suc (length ks)) from place

-- those of a copy that COPY begins
abbrev pub AreLowOn : Setting → ℕ → List Operand → Type 0
AreLowOn s place [] = Unit {0}
AreLowOn s place (Val v ∷ stack) = Unit {0}
AreLowOn s place (At at k ∷ stack) = Unit {0}
AreLowOn s place (Area at shape ∷ stack) = AreLow (kinds_of s.image shape) at place

pub low_rest : (ks : List Kind) (from : Spot) (place : ℕ) → CopiesFit (length ks) from place → AreLow ks from place
low_rest [] from place low = tt
low_rest (k ∷ ks) from place low = low

low_on : (n : ℕ) (from : Spot) (place : ℕ) → CopiesFit (suc n) from place → CopiesFit n (further 1 from) (suc place)
low_on zero from place low = tt
low_on (suc n) (Shared number) place low = (omega (arith, low.0), omega (arith, low.1))
low_on (suc n) (Own number) place low = (omega (arith, low.0), omega (arith, low.1))
low_on (suc n) Nowhere place low = (tt, omega (arith, low.1))

target_right : (t : Target) (at : Spot) → IsRightTarget t → IsRightOperand (operand_of t at)
target_right (target.Cell k) at is = is
target_right (target.Shape shape) at is = tt

module _ (s : Setting) (known : Known s) where
  -- CELL and WHOLE
  Right-addressed : (view : View) (is : List ℤ) (c : Core) → Holding c → Right (addressed s view is c)
  Right-addressed view is c h = either (all_inside view.dimensions is) _ _ (λ e. moves c h) (λ e. Right-raised s known (error 1 3) c (small 1 3 (omega arith) (omega arith)) h)

  Right-viewed : (view : View) (c : Core) → IsRightTarget view.target → Holding c → Right (viewed s view c)
  Right-viewed view c is h = of_popped (popped (length view.dimensions) c.stack) (popped_right (length view.dimensions) c.stack h.operands)
    where
      goes : List ℤ → List Operand → Core
      goes ints rest = going (suc c.at) (operand_of view.target (further (cells_before view.dimensions ints) (spot_of view.base c.kept.places)) ∷ rest) c

      of_popped : (o : Option (List ℤ × List Operand)) → Leaves o → Right (elim o [ None ↦ stuck c | Some got ↦ addressed s view got.0 (goes got.0 got.1) ])
      of_popped None left = sticks c h
      of_popped (Some got) left = Right-addressed view got.0 (goes got.0 got.1) (going_right c (suc c.at) _ h (target_right view.target _ is, left))

  pub Right-cell_viewed : (view : View) (c : Core) → IsRightTarget view.target → Holding c → Right (cell_viewed s view c)
  Right-cell_viewed view c is h = either (is_of_cell view) (viewed s view c) (stuck c) (λ e. Right-viewed view c is h) (λ e. sticks c h)

  pub Right-area_viewed : (view : View) (c : Core) → IsRightTarget view.target → Holding c → Right (area_viewed s view c)
  Right-area_viewed view c is h = either (is_of_cell view) (stuck c) (viewed s view c) (λ e. sticks c h) (λ e. Right-viewed view c is h)

  pub Right-pushed : (v : Value) (stack : List Operand) (c : Core) → IsRight v → AreRightOperands stack → Holding c → Right (pushed v stack c)
  Right-pushed v stack c is right h = moves _ (going_right c (suc c.at) (Val v ∷ stack) h (is, right))

  -- what is fetched
  Right-fetched_cell : (number : ℕ) (cell : Cell) (groups : Option ℕ) (stack : List Operand) (c : Core) → IsKind cell.kind → AreRightOperands stack → Holding c → Right (fetched_cell number cell groups stack c)
  Right-fetched_cell number cell None stack c is right h = waits (request.Read (asked.Cell number)) (Pushes cell.kind) (going (suc c.at) stack c) (going_right c (suc c.at) stack h right) is
  Right-fetched_cell number cell (Some groups) stack c is right h = Right-pushed (seen_cell groups cell (slice_get c.mode.store number)) stack c (seen_right groups cell (slice_get c.mode.store number) is) right h

  Right-fetched : (k : Kind) (at : Spot) (stack : List Operand) (c : Core) → IsKind k → AreRightOperands stack → Holding c → Right (fetched s k at stack c)
  Right-fetched k (Shared number) stack c is right h =
      found {A = Cell} (slice_get s.tables.cells number) (pushed (value.Int (pos 0)) stack c) (λ cell. fetched_cell number cell c.mode.groups stack c) (Right-pushed (value.Int (pos 0)) stack c zero_right right h)
      (λ cell e. Right-fetched_cell number cell c.mode.groups stack c (known.cells number cell e) right h)
  Right-fetched k (Own number) stack c is right h = Right-pushed (held_in (slice_get c.kept.places number)) stack c (held_right c.kept.places number h.places) right h
  Right-fetched k Nowhere stack c is right h = Right-pushed (nothing k) stack c (nothing_right k is) right h

  pub Right-fetch : (stack : List Operand) (c : Core) → AreRightOperands stack → Holding c → Right (act_fetch s stack c)
  Right-fetch [] c right h = sticks c h
  Right-fetch (At at k ∷ stack) c right h = Right-fetched k at stack c right.0 right.1 h
  Right-fetch (Val v ∷ stack) c right h = sticks c h
  Right-fetch (Area at shape ∷ stack) c right h = sticks c h

  pub Right-peek : (stack : List Operand) (c : Core) → AreRightOperands stack → Holding c → Right (act_peek s stack c)
  Right-peek [] c right h = sticks c h
  Right-peek (At at k ∷ stack) c right h = Right-fetched k at (At at k ∷ stack) c right.0 right h
  Right-peek (Val v ∷ stack) c right h = sticks c h
  Right-peek (Area at shape ∷ stack) c right h = sticks c h

  -- a store
  Right-stored : (k : Kind) (v : Value) (at : Spot) (r : Result Value ErrNo) (c : Core) → IfOk r IsRight → IfErr r IsOfBytes → IsRight (mended_store k v) → Holding c → Right (stored_at s k v at r c)
  Right-stored k v at (Ok fitting) c is errs mended h = Right-put s known at fitting c is h
  Right-stored k v at (Err e) c is errs mended h = Right-raised_before s known e (Puts at (mended_store k v)) c errs h mended

  pub Right-keep : (stack : List Operand) (c : Core) → AreRightOperands stack → Holding c → Right (act_keep s stack c)
  Right-keep [] c right h = sticks c h
  Right-keep (At at k ∷ []) c right h = sticks c h
  Right-keep (At at k ∷ Val v ∷ stack) c right h =
      Right-stored k v at (stored k v) (going (suc c.at) stack c) (stored_right k v right.0 right.1.0) (stored_errs k v) (mended_store_right k v right.0 right.1.0) (going_right c (suc c.at) stack h right.1.1)
  Right-keep (At at k ∷ At other l ∷ stack) c right h = sticks c h
  Right-keep (At at k ∷ Area other shape ∷ stack) c right h = sticks c h
  Right-keep (Val v ∷ stack) c right h = sticks c h
  Right-keep (Area at shape ∷ stack) c right h = sticks c h

  -- COPY
  pub one_placed : (number : ℕ) (v : Value) (c : Core) → IsRight v → Holding c → Holding (placed number v c)
  one_placed number v c is h = placed_right c _ h (held_set c.kept.places number (Holds v) h.places is)

  Right-copied_cell : (number : ℕ) (cell : Cell) (groups : Option ℕ) (ks : List Kind) (place : ℕ) (next : Value → Step) (c : Core) → IsKind cell.kind → AreKinds ks → CopiesFit (length ks) (Shared (number + 1)) (suc place) → ((v : Value) → IsRight v → Right (next v)) → Holding c
      → Right (copied_cell number cell groups ks place next c)
  Right-copied_cell number cell None ks place next c is are low each h = waits (request.Read (asked.Cell number)) (Copies cell.kind ks (Shared (number + 1)) place) c h (is, are, low)
  Right-copied_cell number cell (Some groups) ks place next c is are low each h = each (seen_cell groups cell (slice_get c.mode.store number)) (seen_right groups cell (slice_get c.mode.store number) is)

  pub Right-copied : (ks : List Kind) (from : Spot) (place : ℕ) (c : Core) → AreKinds ks → AreLow ks from place → Holding c → Right (copied s ks from place c)
  Right-copied [] from place c are low h = moves c h
  Right-copied (k ∷ ks) (Shared number) place c are low h =
      found {A = Cell} (slice_get s.tables.cells number) (copied s ks (Shared (number + 1)) (suc place) (placed place (value.Int (pos 0)) c))
      (λ cell. copied_cell number cell c.mode.groups ks place (λ v. copied s ks (Shared (number + 1)) (suc place) (placed place v c)) c)
      (Right-copied ks (Shared (number + 1)) (suc place) (placed place (value.Int (pos 0)) c) are.1 (low_rest ks (Shared (number + 1)) (suc place) (low_on (length ks) (Shared number) place low)) (one_placed place (value.Int (pos 0)) c zero_right h))
      (λ cell e. Right-copied_cell number cell c.mode.groups ks place _ c (known.cells number cell e) are.1 (low_on (length ks) (Shared number) place low) (λ v is. Right-copied ks (Shared (number + 1)) (suc place) (placed place v c) are.1 (low_rest ks (Shared (number + 1)) (suc place) (low_on (length ks) (Shared number) place low)) (one_placed place v c is h)) h)
  Right-copied (k ∷ ks) (Own number) place c are low h =
      Right-copied ks (Own (number + 1)) (suc place) (placed place (held_in (slice_get c.kept.places number)) c) are.1 (low_rest ks (Own (number + 1)) (suc place) (low_on (length ks) (Own number) place low)) (one_placed place (held_in (slice_get c.kept.places number)) c (held_right c.kept.places number h.places) h)
  Right-copied (k ∷ ks) Nowhere place c are low h = Right-copied ks Nowhere (suc place) (placed place (nothing k) c) are.1 (low_rest ks Nowhere (suc place) (low_on (length ks) Nowhere place low)) (one_placed place (nothing k) c (nothing_right k are.0) h)

  pub Right-copy : (place : ℕ) (stack : List Operand) (c : Core) → AreRightOperands stack → AreLowOn s place stack → Holding c → Right (act_copy s place stack c)
  Right-copy place [] c right low h = sticks c h
  Right-copy place (Area at shape ∷ stack) c right low h = Right-copied (kinds_of s.image shape) at place (going (suc c.at) stack c) (known.shapes shape) low (going_right c (suc c.at) stack h right.1)
  Right-copy place (Val v ∷ stack) c right low h = sticks c h
  Right-copy place (At at k ∷ stack) c right low h = sticks c h

  -- BIND
  pub Right-bind : (place : ℕ) (stack : List Operand) (c : Core) → AreRightOperands stack → Holding c → Right (act_bind place stack c)
  Right-bind place [] c right h = sticks c h
  Right-bind place (Area at shape ∷ stack) c right h = moves _ (placed_right (going (suc c.at) stack c) _ (going_right c (suc c.at) stack h right.1) (held_set c.kept.places place (Refers at) h.places tt))
  Right-bind place (Val v ∷ stack) c right h = sticks c h
  Right-bind place (At at k ∷ stack) c right h = sticks c h

  -- CLEAR
  pub Right-clear : (place count : ℕ) (c : Core) → Holding c → Right (act_clear s place count c)
  Right-clear place count c h =
      moves _ (placed_right (going (suc c.at) c.stack c) (cleared s.firsts place count c.kept.places) (going_right c (suc c.at) c.stack h h.operands) (held_cleared s.firsts c.kept.places place count known.firsts h.places))
