use Rattle.std.proofs.Common.{◌≡◌, drop, None, []}
use Rattle.hal_verify.specs.Noting.{notes}
use Rattle.hal_verify.specs.SeenSorts.{seen_stack}
use Rattle.hal_verify.proofs.Notes.{noted}
use Rattle.hal_verify.proofs.noting.notes_of.Given as goal

abbrev pub invariant-loop-instr : goal.invariant-loop-instr
invariant-loop-instr l =
    noted l.scope.image.now l.scope.block.now l.scope.number l.walk.notes.items (drop l.instr-index l.code) l.walk.part (seen_stack l.walk.stack)
    ≡ notes l.scope.image.now l.scope.block.now l.scope.number 0 l.code None []
