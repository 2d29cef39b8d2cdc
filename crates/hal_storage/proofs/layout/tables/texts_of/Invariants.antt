use Rattle.std.proofs.Common.{◌≡◌, ◌++◌, map, drop}
use Rattle.hal_storage.specs.processes.SeenPaths.{seen_path}
use Rattle.hal_storage.specs.layout.Layouts.{AreShort}
use Rattle.hal_storage.proofs.layout.tables.texts_of.Given as goal

abbrev pub invariant-loop-name : goal.invariant-loop-name
invariant-loop-name l =
    (l.list.items ++ map seen_path (drop l.name-index l.names) ≡ map seen_path l.names)
    × (AreShort (map seen_path (drop l.name-index l.names)) → AreShort (map seen_path l.names))
    × (AreShort (map seen_path l.names) → AreShort (map seen_path (drop l.name-index l.names)))
