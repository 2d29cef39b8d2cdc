use Rattle.std.proofs.Common.{◌≡◌, drop}
use Rattle.exec_rows.specs.Places.{place_point}
use Rattle.exec_rows.specs.Scripting.{point_after, point_of}
use Rattle.exec_rows.proofs.place.place_of.Given as goal

abbrev pub invariant-loop-given : goal.invariant-loop-given
invariant-loop-given l = point_after (drop l.given-index l.answers) (place_point l.place) ≡ point_of l.bodies l.process l.answers
