use Rattle.std.proofs.Common.{◌≡◌, ◌≤◌, drop}
use Rattle.std.specs.List.{list_all, sum_by}
use Rattle.hal_code.specs.Right.{line_count, name_right}
use Rattle.hal_verify.proofs.naming.each_right.Given as goal

abbrev pub invariant-loop-name : goal.invariant-loop-name
invariant-loop-name l = (list_all (name_right l.image) (drop l.name-index l.names) ≡ list_all (name_right l.image) l.names) × (sum_by line_count (drop l.name-index l.names) ≤ 1048576)
