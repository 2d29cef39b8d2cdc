use Rattle.std.proofs.Common.{◌≡◌, [], map, drop}
use Rattle.hal_tree.specs.SeenUnits.{seen_file}
use Rattle.hal_storage.specs.sets.SeenBodies.{lent_unit}
use Rattle.hal_storage.specs.sets.Units.{with_files}
use Rattle.hal_storage.proofs.sets.units.units_of.Given as goal

abbrev pub invariant-loop-file : goal.invariant-loop-file
invariant-loop-file l = with_files (map lent_unit l.list.items) (map seen_file (drop l.file-index l.files)) ≡ with_files [] (map seen_file l.files)
