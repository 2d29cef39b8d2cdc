use Rattle.std.proofs.Common.{◌≡◌, drop}
use Rattle.hal_meaning.specs.ReportNames.{with_path}
use Rattle.hal_storage.proofs.report_names.paths.with_path.Given as goal

abbrev pub invariant-loop-part : goal.invariant-loop-part
invariant-loop-part l = with_path l.whole.items (drop l.part-index l.path) ≡ with_path l.name l.path
