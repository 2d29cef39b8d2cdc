use Rattle.std.proofs.Common.{◌≡◌, ◌++◌, map, drop}
use Rattle.hal_names.specs.SeenNames.{seen_names}
use Rattle.hal_meaning.specs.ReportNames.{path_of}
use Rattle.hal_storage.specs.processes.SeenPaths.{seen_path}
use Rattle.hal_storage.proofs.processes.paths.paths_of.Given as goal

abbrev pub invariant-loop-number : goal.invariant-loop-number
invariant-loop-number l = map seen_path l.paths.items ++ map (path_of (seen_names l.names)) (drop l.number-index l.numbers) ≡ map (path_of (seen_names l.names)) l.numbers
