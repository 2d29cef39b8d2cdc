use Rattle.std.proofs.Common.{◌≡◌, ◌++◌, drop}
use Rattle.hal_verify.specs.Marking.{no_marks}
use Rattle.hal_verify.proofs.marking.add_marks.Given as goal

abbrev pub invariant-loop-view : goal.invariant-loop-view
invariant-loop-view l = l.marks.items ++ no_marks (drop l._view-index l.views) ≡ l.fn.marks.items ++ no_marks l.views
