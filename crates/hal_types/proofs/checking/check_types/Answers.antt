use Rattle.std.proofs.Common.{◌∙◌, sym}
use Rattle.hal_types.proofs.Tables.{sound_by}
use Rattle.hal_types.proofs.checking.check_types.Goals as goal

pub returns-in-None-clause-sound : goal.returns-in-None-clause-sound
returns-in-None-clause-sound c = sound_by _ _ c.requires.constants (sym c.in-Ok.ensures ∙ c.in-None.is)
