use Rattle.std.proofs.Common.{◌≡◌, [], map, drop}
use Rattle.hal_storage.specs.processes.SeenPaths.{seen_path}
use Rattle.hal_storage.specs.sets.SeenSets.{seen_set}
use Rattle.hal_link.specs.SeenLinking.{rows_if}
use Rattle.hal_link.specs.SeenOutlines.{seen_outline}
use Rattle.hal_link.proofs.image.process_rows.Given as goal

abbrev pub invariant-loop-process : goal.invariant-loop-process
invariant-loop-process l = rows_if (seen_set l.set) (map seen_outline l.outlines) l.process l.rows.items (map seen_path (drop l.process l.names)) ≡ rows_if (seen_set l.set) (map seen_outline l.outlines) 0 [] (map seen_path l.names)
