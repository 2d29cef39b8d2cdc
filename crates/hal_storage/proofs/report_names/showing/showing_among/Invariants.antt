use Rattle.std.proofs.Common.{◌≡◌, map, drop}
use Rattle.hal_reach.specs.SeenUnits.{seen_reached}
use Rattle.hal_storage.specs.report_names.Rows.{showing_among}
use Rattle.hal_storage.proofs.report_names.showing.showing_among.Given as goal

abbrev pub invariant-loop-unit : goal.invariant-loop-unit
invariant-loop-unit l =
    showing_among l.all (map seen_reached (drop l.unit-index l.units)) l.number ≡ showing_among l.all (map seen_reached l.units) l.number
