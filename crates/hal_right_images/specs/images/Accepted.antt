-- What is known of a set of files that is accepted, and of its image.
use Rattle.std.specs.Prelude.{◌≡◌, true, List}
use Rattle.hal_grammar.specs.Units.{File}
use Rattle.hal_phrases.specs.GatheredUnits.{phrases_of}
use Rattle.hal_scope.specs.Rules.{IsSound, rows}
use Rattle.hal_constants.specs.Known.{known}
use Rattle.hal_templates.specs.Rules.{template_rows}
use Rattle.hal_types.specs.Rules.{type_rows}
use Rattle.hal_locks.specs.Rules.{lock_rows}
use Rattle.hal_calls.specs.Programs.{has_program}
use Rattle.hal_calls.specs.Rules.{call_rows}
use Rattle.hal_limits.specs.Limits.{IsWithin}
use Rattle.hal_code.specs.declared.image.ImageParts.{ImageParts}
use Rattle.hal_verify.specs.Limits.{spread_kept}
use Rattle.hal_right_images.specs.spelled.Words.{AreAllSpelled}

-- right words spell the files, no rule of templates, names, types, locks, calls or limits is broken, and the image's shapes and views have few enough cells
pub record IsAccepted (files : List File) (image : ImageParts) : Type 0 where
  pub spelled : AreAllSpelled files
  pub given : IsSound template_rows (phrases_of files)
  pub named : IsSound rows (phrases_of files)
  pub typed : IsSound type_rows (phrases_of files)
  pub locked : IsSound lock_rows (phrases_of files)
  pub called : IsSound call_rows (phrases_of files)
  pub program : has_program (phrases_of files) ≡ true
  pub within : IsWithin (phrases_of files) (known (phrases_of files))
  pub few : spread_kept image ≡ true
