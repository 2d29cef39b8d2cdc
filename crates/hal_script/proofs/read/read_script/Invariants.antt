use Rattle.std.proofs.Common.{length}
use Rattle.std.specs.Str.Lines.{lines}
use Rattle.hal_script.proofs.Progress.{IsRead}
use Rattle.hal_script.proofs.read.read_script.Given as goal

abbrev pub invariant-lines : goal.invariant-lines
invariant-lines l = IsRead (lines l.bytes) l.rest l.so_far l.script.items

abbrev pub decreases-lines : goal.decreases-lines
decreases-lines l = length l.rest
