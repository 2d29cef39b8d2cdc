use Rattle.std.proofs.Common.{◌≡◌, map, drop}
use Rattle.std.specs.List.{list_all}
use Rattle.hal_storage.specs.processes.SeenPaths.{seen_path}
use Rattle.hal_compile.specs.Fitness.{is_short}
use Rattle.hal_compile.proofs.fitness.are_short.Given as goal

abbrev pub invariant-loop-name : goal.invariant-loop-name
invariant-loop-name l = list_all is_short (map seen_path (drop l.name-index l.names)) ≡ list_all is_short (map seen_path l.names)
