-- Instructions that compute hold right values.
use Rattle.std.specs.Prelude.{ℕ, zero, suc, ◌≡◌, Bool, true, false, List, [], ◌∷◌, ℤ, pos, ◌+ℤ◌, Option, Some, None, slice_get, Result, Ok, Err, IfOk, IfErr}
use Rattle.std.proofs.Common.{refl, subst, arith}
use Rattle.hal_values.specs.declared.environment.ErrNo.{ErrNo}
use Rattle.hal_values.specs.declared.value.Value.{Value}
use Rattle.hal_values.specs.declared.value.Value.TheVariants as value
use Rattle.hal_operations.specs.declared.operation.Op1.{Op1}
use Rattle.hal_operations.specs.declared.operation.Op2.{Op2}
use Rattle.hal_operations.specs.declared.part.Part.{Part}
use Rattle.hal_operations.specs.Values.{value_of_one, value_of_two}
use Rattle.hal_operations.specs.Mended.{mended_of_one, mended_of_two}
use Rattle.hal_operations.specs.Parts.{picked, mended_pick, patched, mended_patch, place_count}
use Rattle.hal_states.specs.Numbers.{integer_of, is_past}
use Rattle.hal_code.specs.declared.choice.Choice.{Choice}
use Rattle.hal_code.specs.declared.choice.Choice.TheVariants as choice
use Rattle.hal_code.specs.declared.operand.Places.{Places}
use Rattle.hal_code.specs.declared.operand.Places.TheVariants as places
use Rattle.hal_code.specs.Computing.{tested, act_dup, act_drop, act_one, act_two, counted_places, act_len, part_taken, part_picked, act_pick, replaced, part_patched, act_patch, counted_on, act_next}
use Rattle.hal_code.specs.Cores.{Operand, Val, At, Area, Setting, Core, going}
use Rattle.hal_code.specs.Raising.{stuck}
use Rattle.hal_sound_values.specs.Right.{IsRight}
use Rattle.hal_sound_values.proofs.RightResults.{one_right, mended_one_right, two_right, mended_two_right}
use Rattle.hal_right_values.specs.Ranges.{IsOfBytes}
use Rattle.hal_right_values.specs.Holding.{IsRightOperand, AreRightOperands, Holding}
use Rattle.hal_right_values.proofs.Addressing.{Right-pushed}
use Rattle.hal_right_values.proofs.Errors.{one_errs, two_errs, picked_errs, patched_errs}
use Rattle.hal_right_values.proofs.Raising.{Right-raised}
use Rattle.hal_right_values.proofs.Rights.{picked_right, mended_pick_right, patched_right, mended_patch_right, count_right, bit_right, integer_right, next_right}
use Rattle.hal_right_values.proofs.Steps.{Known, Right, going_right, moves, sticks}

-- the places of a part are taken
abbrev pub LeavesPart : Option (Part × List Operand) → Type 0
LeavesPart None = Unit {0}
LeavesPart (Some got) = AreRightOperands got.1

pub part_leaves : (chosen : Places) (stack : List Operand) → AreRightOperands stack → LeavesPart (part_taken chosen stack)
part_leaves places.One [] right = tt
part_leaves places.One (Val v ∷ stack) right = right.1
part_leaves places.One (At at k ∷ stack) right = tt
part_leaves places.One (Area at shape ∷ stack) right = tt
part_leaves places.To [] right = tt
part_leaves places.To (Val v ∷ []) right = tt
part_leaves places.To (Val v ∷ Val w ∷ stack) right = right.1.1
part_leaves places.To (Val v ∷ At at k ∷ stack) right = tt
part_leaves places.To (Val v ∷ Area at shape ∷ stack) right = tt
part_leaves places.To (At at k ∷ stack) right = tt
part_leaves places.To (Area at shape ∷ stack) right = tt
part_leaves places.At [] right = tt
part_leaves places.At (Val v ∷ []) right = tt
part_leaves places.At (Val v ∷ Val w ∷ stack) right = right.1.1
part_leaves places.At (Val v ∷ At at k ∷ stack) right = tt
part_leaves places.At (Val v ∷ Area at shape ∷ stack) right = tt
part_leaves places.At (At at k ∷ stack) right = tt
part_leaves places.At (Area at shape ∷ stack) right = tt

operand_at : (stack : List Operand) (n : ℕ) (one : Operand) → AreRightOperands stack → slice_get stack n ≡ Some one → IsRightOperand one
operand_at [] n one right e = absurd (cc)
operand_at (x ∷ stack) zero one right e = subst IsRightOperand (let same : x ≡ one = cc in same) right.0
operand_at (x ∷ stack) (suc n) one right e = operand_at stack n one right.1 e

module _ (s : Setting) (known : Known s) where
  Right-tested : (r : Result Value ErrNo) (mended : Value) (stack : List Operand) (c : Core) → IfOk r IsRight → IfErr r IsOfBytes → IsRight mended → AreRightOperands stack → Holding c → Right (tested s r mended stack c)
  Right-tested (Ok v) mended stack c is errs also right h = Right-pushed s known v stack c is right h
  Right-tested (Err e) mended stack c is errs also right h = Right-raised s known e (going (suc c.at) (Val mended ∷ stack) c) errs (going_right c (suc c.at) (Val mended ∷ stack) h (also, right))

  pub Right-dup : (stack : List Operand) (c : Core) → AreRightOperands stack → Holding c → Right (act_dup stack c)
  Right-dup [] c right h = sticks c h
  Right-dup (Val v ∷ stack) c right h = Right-pushed s known v (Val v ∷ stack) c right.0 right h
  Right-dup (At at k ∷ stack) c right h = sticks c h
  Right-dup (Area at shape ∷ stack) c right h = sticks c h

  pub Right-drop : (stack : List Operand) (c : Core) → AreRightOperands stack → Holding c → Right (act_drop stack c)
  Right-drop [] c right h = sticks c h
  Right-drop (Val v ∷ stack) c right h = moves _ (going_right c (suc c.at) stack h right.1)
  Right-drop (At at k ∷ stack) c right h = sticks c h
  Right-drop (Area at shape ∷ stack) c right h = sticks c h

  pub Right-one : (op : Choice Op1) (stack : List Operand) (c : Core) → AreRightOperands stack → Holding c → Right (act_one s op stack c)
  Right-one (choice.Known op) [] c right h = sticks c h
  Right-one (choice.Known op) (Val v ∷ stack) c right h = Right-tested (value_of_one op v) (mended_of_one op v) stack c (one_right op v right.0) (one_errs op v) (mended_one_right op v right.0) right.1 h
  Right-one (choice.Known op) (At at k ∷ stack) c right h = sticks c h
  Right-one (choice.Known op) (Area at shape ∷ stack) c right h = sticks c h
  Right-one (choice.Other byte) stack c right h = sticks c h

  pub Right-two : (op : Choice Op2) (stack : List Operand) (c : Core) → AreRightOperands stack → Holding c → Right (act_two s op stack c)
  Right-two (choice.Known op) [] c right h = sticks c h
  Right-two (choice.Known op) (Val w ∷ []) c right h = sticks c h
  Right-two (choice.Known op) (Val w ∷ Val v ∷ stack) c right h =
      Right-tested (value_of_two op v w) (mended_of_two op v w) stack c (two_right op v w right.1.0 right.0) (two_errs op v w) (mended_two_right op v w right.1.0 right.0) right.1.1 h
  Right-two (choice.Known op) (Val w ∷ At at k ∷ stack) c right h = sticks c h
  Right-two (choice.Known op) (Val w ∷ Area at shape ∷ stack) c right h = sticks c h
  Right-two (choice.Known op) (At at k ∷ stack) c right h = sticks c h
  Right-two (choice.Known op) (Area at shape ∷ stack) c right h = sticks c h
  Right-two (choice.Other byte) stack c right h = sticks c h

  Right-counted : (o : Option Operand) (c : Core) → ((one : Operand) → o ≡ Some one → IsRightOperand one) → Holding c → Right (counted_places o c)
  Right-counted None c each h = sticks c h
  Right-counted (Some (Val v)) c each h = Right-pushed s known (value.Int (pos (place_count v))) c.stack c (count_right v (each (Val v) refl)) h.operands h
  Right-counted (Some (At at k)) c each h = sticks c h
  Right-counted (Some (Area at shape)) c each h = sticks c h

  pub Right-len : (depth : ℕ) (c : Core) → Holding c → Right (act_len depth c)
  Right-len depth c h = Right-counted (slice_get c.stack depth) c (λ one e. operand_at c.stack depth one h.operands e) h

  -- parts
  Right-picked : (p : Part) (stack : List Operand) (c : Core) → AreRightOperands stack → Holding c → Right (part_picked s p stack c)
  Right-picked p [] c right h = sticks c h
  Right-picked p (Val v ∷ stack) c right h = Right-tested (picked v p) (mended_pick v p) stack c (picked_right v p right.0) (picked_errs v p) (mended_pick_right v p right.0) right.1 h
  Right-picked p (At at k ∷ stack) c right h = sticks c h
  Right-picked p (Area at shape ∷ stack) c right h = sticks c h

  pub Right-pick : (chosen : Choice Places) (c : Core) → Holding c → Right (act_pick s chosen c)
  Right-pick (choice.Known chosen) c h = of_part (part_taken chosen c.stack) (part_leaves chosen c.stack h.operands)
    where
      of_part : (o : Option (Part × List Operand)) → LeavesPart o → Right (elim o [ None ↦ stuck c | Some got ↦ part_picked s got.0 got.1 c ])
      of_part None left = sticks c h
      of_part (Some got) left = Right-picked got.0 got.1 c left h
  Right-pick (choice.Other byte) c h = sticks c h

  Right-replaced : (r : Result Value ErrNo) (mended : Value) (address : Operand) (stack : List Operand) (c : Core) → IfOk r IsRight → IfErr r IsOfBytes → IsRight mended → IsRightOperand address → AreRightOperands stack → Holding c
      → Right (replaced s r mended address stack c)
  Right-replaced (Ok v) mended address stack c is errs also at right h = moves _ (going_right c (suc c.at) (address ∷ Val v ∷ stack) h (at, (is, right)))
  Right-replaced (Err e) mended address stack c is errs also at right h = Right-raised s known e (going (suc c.at) (address ∷ Val mended ∷ stack) c) errs (going_right c (suc c.at) (address ∷ Val mended ∷ stack) h (at, (also, right)))

  Right-patched : (p : Part) (stack : List Operand) (c : Core) → AreRightOperands stack → Holding c → Right (part_patched s p stack c)
  Right-patched p [] c right h = sticks c h
  Right-patched p (Val old ∷ []) c right h = sticks c h
  Right-patched p (Val old ∷ Val v ∷ stack) c right h = sticks c h
  Right-patched p (Val old ∷ At at k ∷ []) c right h = sticks c h
  Right-patched p (Val old ∷ At at k ∷ Val new ∷ stack) c right h =
      Right-replaced (patched old p new) (mended_patch old p new) (At at k) stack c (patched_right old new p right.0) (patched_errs old new p) (mended_patch_right old new p right.0) right.1.0 right.1.1.1 h
  Right-patched p (Val old ∷ At at k ∷ At other l ∷ stack) c right h = sticks c h
  Right-patched p (Val old ∷ At at k ∷ Area other shape ∷ stack) c right h = sticks c h
  Right-patched p (Val old ∷ Area at shape ∷ stack) c right h = sticks c h
  Right-patched p (At at k ∷ stack) c right h = sticks c h
  Right-patched p (Area at shape ∷ stack) c right h = sticks c h

  pub Right-patch : (chosen : Choice Places) (c : Core) → Holding c → Right (act_patch s chosen c)
  Right-patch (choice.Known chosen) c h = of_part (part_taken chosen c.stack) (part_leaves chosen c.stack h.operands)
    where
      of_part : (o : Option (Part × List Operand)) → LeavesPart o → Right (elim o [ None ↦ stuck c | Some got ↦ part_patched s got.0 got.1 c ])
      of_part None left = sticks c h
      of_part (Some got) left = Right-patched got.0 got.1 c left h
  Right-patch (choice.Other byte) c h = sticks c h

  -- loops
  Right-counted_on : (b : Bool) (before next : ℤ) (stack : List Operand) (c : Core) → IsRight (value.Int before) → (b ≡ false → IsRight (value.Int next)) → AreRightOperands stack → Holding c → Right (counted_on b before next stack c)
  Right-counted_on true before next stack c is each right h = Right-pushed s known (value.Bits 1 0) (Val (value.Int before) ∷ stack) c (bit_right 0 (omega arith)) (is, right) h
  Right-counted_on false before next stack c is each right h = Right-pushed s known (value.Bits 1 1) (Val (value.Int next) ∷ stack) c (bit_right 1 (omega arith)) (each refl, right) h

  pub Right-next : (stack : List Operand) (c : Core) → AreRightOperands stack → Holding c → Right (act_next stack c)
  Right-next (Val last ∷ Val step ∷ Val before ∷ stack) c right h =
      Right-counted_on (is_past (integer_of step) (integer_of last) (integer_of before +ℤ integer_of step)) (integer_of before) (integer_of before +ℤ integer_of step) stack c (integer_right before right.1.1.0)
      (λ e. next_right (integer_of step) (integer_of last) (integer_of before) (integer_right step right.1.0) (integer_right last right.0) (integer_right before right.1.1.0) e) right.1.1.1 h
  Right-next (Val last ∷ Val step ∷ At at k ∷ stack) c right h = sticks c h
  Right-next (Val last ∷ Val step ∷ Area at shape ∷ stack) c right h = sticks c h
  Right-next (Val last ∷ Val step ∷ []) c right h = sticks c h
  Right-next (Val last ∷ At at k ∷ stack) c right h = sticks c h
  Right-next (Val last ∷ Area at shape ∷ stack) c right h = sticks c h
  Right-next (Val last ∷ []) c right h = sticks c h
  Right-next (At at k ∷ stack) c right h = sticks c h
  Right-next (Area at shape ∷ stack) c right h = sticks c h
  Right-next [] c right h = sticks c h
