-- Instructions that say where control goes on hold right values.
use Rattle.std.specs.Prelude.{ℕ, suc, List, [], ◌∷◌, Option, Some, None, if◌then◌else◌}
use Rattle.std.proofs.Common.{arith}
use Rattle.hal_values.specs.declared.environment.Entry.{Entry}
use Rattle.hal_values.specs.declared.value.Value.{Value}
use Rattle.hal_values.specs.Answers.{error}
use Rattle.hal_states.specs.Modes.{closed}
use Rattle.hal_states.specs.Numbers.{holds}
use Rattle.hal_code.specs.declared.choice.Choice.{Choice}
use Rattle.hal_code.specs.declared.choice.Choice.TheVariants as choice
use Rattle.hal_code.specs.declared.operand.EventChange.{EventChange}
use Rattle.hal_code.specs.declared.operand.Response.{Response}
use Rattle.hal_code.specs.declared.row.Block.{Block}
use Rattle.hal_code.specs.declared.row.ResultKind.{ResultKind}
use Rattle.hal_code.specs.declared.row.ResultKind.TheVariants as result
use Rattle.hal_code.specs.Asking.{act_close}
use Rattle.hal_code.specs.Controlling.{act_jump_not, act_turn, zero_of, with_result, calling, called, returned, act_return, act_on}
use Rattle.hal_code.specs.Cores.{Operand, Val, At, Area, Return, Frame, Setting, Core, core, going, with_entries, Moves}
use Rattle.hal_code.specs.Raising.{stuck}
use Rattle.hal_right_values.specs.Ranges.{IsOfBytes}
use Rattle.hal_right_values.specs.Holding.{AreRightOperands, IsRightResult, IsRightBack, AreRightFrames, Holding}
use Rattle.hal_right_values.proofs.Errors.{small}
use Rattle.hal_right_values.proofs.Raising.{Right-turned, Right-raised}
use Rattle.hal_right_values.proofs.Rights.{zero_right, bit_right, empty_right}
use Rattle.hal_right_values.proofs.Steps.{Known, Right, going_right, core_right, moves, sticks}

-- other entries for errors
pub entries_right : (c : Core) (entries : List Entry) → Holding c → Holding (with_entries entries c)
entries_right c entries h = core_right c c.at c.stack c.line entries c.frames c.mode h h.operands h.frames h.store h.writes

-- the result that a block gives where it gives none of its own
zero_is : (r : Choice ResultKind) → IsRightResult (zero_of r)
zero_is (choice.Known result.Nothing) = tt
zero_is (choice.Known result.Integer) = zero_right
zero_is (choice.Known result.Bits) = bit_right 0 (omega arith)
zero_is (choice.Known result.Text) = empty_right
zero_is (choice.Other byte) = tt

result_is : (o : Option Value) (stack : List Operand) → IsRightResult o → AreRightOperands stack → AreRightOperands (with_result o stack)
result_is None stack is right = right
result_is (Some v) stack is right = (is, right)

module _ (s : Setting) (known : Known s) where
  -- a turn too many
  eight : IsOfBytes (error 1 8)
  eight = small 1 8 (omega arith) (omega arith)

  pub Right-jump_not : (target : ℕ) (stack : List Operand) (c : Core) → AreRightOperands stack → Holding c → Right (act_jump_not target stack c)
  Right-jump_not target [] c right h = sticks c h
  Right-jump_not target (Val v ∷ stack) c right h = moves _ (going_right c (if holds v then suc c.at else target) stack h right.1)
  Right-jump_not target (At at k ∷ stack) c right h = sticks c h
  Right-jump_not target (Area at shape ∷ stack) c right h = sticks c h

  pub Right-turn : (target : ℕ) (c : Core) → Holding c → Right (act_turn s target c)
  Right-turn target c h = Right-turned s known _ (going (suc c.at) c.stack c) (going_right c (suc c.at) c.stack h h.operands) (Right-raised s known (error 1 8) (going target c.stack c) eight (going_right c target c.stack h h.operands))

  pub Right-called : (block : Block) (c : Core) → Holding c → Right (called s block c)
  Right-called block c h =
      Right-turned s known _ (core block.first [] [] [] (calling (zero_of block.result) c ∷ c.frames) c.kept c.mode) (core_right c block.first [] [] [] (calling (zero_of block.result) c ∷ c.frames) c.mode h tt ((h.operands, zero_is block.result), h.frames) h.store h.writes)
      (Right-raised s known (error 1 8) _ eight (going_right c (suc c.at) (with_result (zero_of block.result) c.stack) h (result_is (zero_of block.result) c.stack (zero_is block.result) h.operands)))

  -- control goes back
  Right-returned : (wanted : Option Value) (stack : List Operand) (back : Return) (entries : List Entry) (fs : List Frame) (c : Core) → AreRightOperands stack → AreRightOperands back.stack → AreRightFrames fs → Holding c → Right (returned wanted stack back entries fs c)
  Right-returned None stack back entries fs c right saved below h = moves _ (core_right c back.at back.stack back.line entries fs c.mode h saved below h.store h.writes)
  Right-returned (Some wanted) [] back entries fs c right saved below h = sticks c h
  Right-returned (Some wanted) (Val v ∷ stack) back entries fs c right saved below h = moves _ (core_right c back.at (Val v ∷ back.stack) back.line entries fs c.mode h (right.0, saved) below h.store h.writes)
  Right-returned (Some wanted) (At at k ∷ stack) back entries fs c right saved below h = sticks c h
  Right-returned (Some wanted) (Area at shape ∷ stack) back entries fs c right saved below h = sticks c h

  pub Right-return : (frames : List Frame) (c : Core) → AreRightFrames frames → Holding c → Right (act_return frames c)
  Right-return [] c below h = sticks c h
  Right-return (f ∷ fs) c below h = of_back f.back below.0
    where
      of_back : (o : Option Return) → IsRightBack o → Right (elim o [ None ↦ stuck c | Some back ↦ returned back.result c.stack back f.entries fs c ])
      of_back None is = sticks c h
      of_back (Some back) is = Right-returned back.result c.stack back f.entries fs c h.operands is.0 below.1 h

  pub Right-close : (frames : List Frame) (c : Core) → AreRightFrames frames → Holding c → Right (act_close frames c)
  Right-close [] c below h = sticks c h
  Right-close (f ∷ fs) c below h = of_back f.back
    where
      of_back : (o : Option Return) → Right (elim o [ None ↦ Moves (core (suc c.at) c.stack c.line f.entries fs c.kept (closed c.mode)) | Some back ↦ stuck c ])
      of_back None = moves _ (core_right c (suc c.at) c.stack c.line f.entries fs (closed c.mode) h h.operands below.1 h.store h.writes)
      of_back (Some back) = sticks c h

  pub Right-on : (group number : ℕ) (r : Choice Response) (e : Choice EventChange) (event target : ℕ) (c : Core) → Holding c → Right (act_on group number r e event target c)
  Right-on group number (choice.Known r) (choice.Known e) event target c h = moves _ (entries_right (going (suc c.at) c.stack c) _ (going_right c (suc c.at) c.stack h h.operands))
  Right-on group number (choice.Known r) (choice.Other byte) event target c h = sticks c h
  Right-on group number (choice.Other byte) e event target c h = sticks c h
