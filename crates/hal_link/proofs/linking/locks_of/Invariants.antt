use Rattle.std.proofs.Common.{◌≡◌, ◌++◌, map, drop}
use Rattle.hal_lock_groups.specs.Gathering.{bits_for}
use Rattle.hal_link.proofs.linking.locks_of.Given as goal

abbrev pub invariant-loop-mark : goal.invariant-loop-mark
invariant-loop-mark l = l.list.items ++ map (bits_for l.groups) (drop l.mark-index l.marks) ≡ map (bits_for l.groups) l.marks
