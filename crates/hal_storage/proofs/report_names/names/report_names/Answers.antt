use Rattle.std.proofs.Common.{sym, subst}
use Rattle.hal_names.specs.SeenNames.{seen_names}
use Rattle.hal_constants.specs.SeenKnown.{seen_known}
use Rattle.hal_storage.specs.report_names.Rooms.{HaveRows}
use Rattle.hal_storage.proofs.report_names.Roomy.{have_rows}
use Rattle.hal_storage.proofs.report_names.names.report_names.Goals as goal

pub push_all-requires-clause-room : goal.push_all-requires-clause-room
push_all-requires-clause-room c =
    subst (λ l. HaveRows (seen_names c.args.names.now) (seen_known c.args.known.now) l 0 (seen_names c.args.names.now)) (sym c.requires.lookups)
    (have_rows (seen_names c.args.names.now) (seen_known c.args.known.now) c.requires.counted c.requires.few_cells c.requires.few_processes)
