use Rattle.std.proofs.Common.{◌≡◌, ◌≤◌, ◌+◌, drop, length, map}
use Rattle.hal_compile.specs.Reading.{seen_text}
use Rattle.hal_top.proofs.Fetching.{HasGone, wanted}
use Rattle.hal_top.proofs.prepare.fetched_units.Given as goal

abbrev pub invariant-loop-name : goal.invariant-loop-name
invariant-loop-name g l = record {
  on : HasGone (g.S.Shelf.files l.fn.shelf) l.first (wanted l.names) (wanted (drop l.name-index l.names)) l.name-index (map seen_text l.units.items);
  count : length l.units.items ≡ l.name-index;
  same : g.S.Shelf.files l.shelf ≡ g.S.Shelf.files l.fn.shelf;
  later : g.S.Shelf.faults l.fn.shelf ≤ g.S.Shelf.faults l.shelf;
  number : l.number ≡ l.first + l.name-index;
}
