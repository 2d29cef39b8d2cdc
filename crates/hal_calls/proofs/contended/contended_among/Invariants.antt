use Rattle.std.proofs.Common.{◌≡◌, ◌++◌, map, drop}
use Rattle.hal_reach.specs.SeenUnits.{seen_reached}
use Rattle.hal_calls.specs.Blocks.{contended_among}
use Rattle.hal_calls.proofs.contended.contended_among.Given as goal

abbrev pub invariant-loop-row : goal.invariant-loop-row
invariant-loop-row l = l.units.items ++ contended_among (map seen_reached (drop l.row-index l.rows)) ≡ contended_among (map seen_reached l.rows)
