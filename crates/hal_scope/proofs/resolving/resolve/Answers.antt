use Rattle.std.proofs.Common.{ℕ}
use Rattle.hal_scope.proofs.Broken.{sound_here}
use Rattle.hal_scope.proofs.resolving.resolve.Goals as goal

pub returns-in-Ok-check_names-clause-sound : goal.returns-in-Ok-check_names-clause-sound
returns-in-Ok-check_names-clause-sound c = sound_here _ _ c.in-Ok.ensures c.in-Ok-check_names.ensures.sound
