use Rattle.std.proofs.Common.{◌≡◌, drop}
use Rattle.std.specs.List.{list_any}
use Rattle.hal_reach.specs.Marks.{is_marked}
use Rattle.hal_reach.proofs.marks.is_any_marked.Given as goal

abbrev pub invariant-loop-place : goal.invariant-loop-place
invariant-loop-place l = list_any (is_marked l.marked) (drop l.place-index l.places) ≡ list_any (is_marked l.marked) l.places
