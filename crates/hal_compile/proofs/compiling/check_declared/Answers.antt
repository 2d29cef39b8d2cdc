use Rattle.std.proofs.Common.{ap}
use Rattle.hal_names.specs.SeenNames.{seen_names}
use Rattle.hal_compile.proofs.Broken.{lawful}
use Rattle.hal_compile.proofs.compiling.check_declared.Goals as goal

pub returns-clause-lawful : goal.returns-clause-lawful
returns-clause-lawful c =
    lawful (seen_names c.names-names.result.now) (seen_names c.args.units.now.names.now) (ap seen_names c.names-names.ensures)
    c.in_ok-match_templates.ensures.sound c.in_ok-check_names.ensures.sound c.in_ok-check_types.ensures.sound c.in_ok-check_locks.ensures.sound
