use Rattle.std.proofs.Common.{◌≡◌, ◌++◌, ◌-◌, length, filter}
use Rattle.std.specs.List.{range_with_len}
use Rattle.exec_model.specs.Killing.{is_of_family, family}
use Rattle.exec_model.proofs.killing.family_of.Given as goal

abbrev pub invariant-places : goal.invariant-places
invariant-places l = l.members.items ++ filter (is_of_family l.rows l.head) (range_with_len l.place (length l.rows - l.place)) ≡ family l.rows l.head
