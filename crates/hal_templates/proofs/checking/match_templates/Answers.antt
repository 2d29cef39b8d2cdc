use Rattle.std.proofs.Common.{◌∙◌, sym}
use Rattle.hal_templates.proofs.Tables.{sound_by}
use Rattle.hal_templates.proofs.checking.match_templates.Goals as goal

pub returns-in-None-clause-sound : goal.returns-in-None-clause-sound
returns-in-None-clause-sound c = sound_by _ _ c.requires.constants (sym c.in-Ok.ensures ∙ c.in-None.is)
