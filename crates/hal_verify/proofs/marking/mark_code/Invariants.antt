use Rattle.std.proofs.Common.{◌≡◌, drop}
use Rattle.hal_verify.specs.Marking.{mark_code}
use Rattle.hal_verify.proofs.marking.mark_code.Given as goal

abbrev pub invariant-loop-instr : goal.invariant-loop-instr
invariant-loop-instr l = mark_code l.marks.items (drop l.instr-index l.code) ≡ mark_code l.fn.marks.items l.code
