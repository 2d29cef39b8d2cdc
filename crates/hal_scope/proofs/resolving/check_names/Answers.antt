use Rattle.std.proofs.Common.{◌∙◌, sym}
use Rattle.hal_names.specs.SeenNames.{seen_names}
use Rattle.hal_scope.specs.Rules.{rows}
use Rattle.hal_scope.proofs.Broken.{sound}
use Rattle.hal_scope.proofs.resolving.check_names.Goals as goal

pub returns-in-None-clause-sound : goal.returns-in-None-clause-sound
returns-in-None-clause-sound c = sound rows (seen_names c.args.names.now) (sym c.first_fault.ensures ∙ c.in-None.is)
