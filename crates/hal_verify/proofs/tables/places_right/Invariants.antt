use Rattle.std.proofs.Common.{◌≡◌, drop}
use Rattle.std.specs.List.{list_all}
use Rattle.hal_code.specs.Right.{place_right}
use Rattle.hal_verify.proofs.tables.places_right.Given as goal

abbrev pub invariant-loop-run : goal.invariant-loop-run
invariant-loop-run l = list_all (place_right l.image) (drop l.run-index l.places) ≡ list_all (place_right l.image) l.places
