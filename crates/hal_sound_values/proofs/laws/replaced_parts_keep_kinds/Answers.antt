use Rattle.hal_sound_values.proofs.KindsKept.{patched_is, mended_patch_is}
use Rattle.hal_sound_values.proofs.laws.replaced_parts_keep_kinds.Goals as goal

pub returns-clause-replaced : goal.returns-clause-replaced
returns-clause-replaced c = patched_is

pub returns-clause-mended : goal.returns-clause-mended
returns-clause-mended c = mended_patch_is
