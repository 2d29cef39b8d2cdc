-- The set that the program makes of files.
use Rattle.std.specs.Prelude.{ℕ, List}
use Rattle.std.proofs.Common.{◌≡◌, refl}
use Rattle.hal_grammar.specs.Units.{File}
use Rattle.hal_phrases.specs.GatheredUnits.{phrases_of}
use Rattle.hal_constants.specs.Known.{known}
use Rattle.hal_storage.specs.layout.Layouts.{layout_of, tables_of}
use Rattle.hal_meaning.specs.Bodies.{bodies_of}
use Rattle.hal_meaning.specs.Sets.{set_of}

-- its parts
pub set_made : (turns : ℕ) (files : List File)
    → (record { phrases = phrases_of files; constants = known (phrases_of files); bodies = bodies_of files (phrases_of files); stated = (layout_of (phrases_of files) (known (phrases_of files))).expressions; tables = tables_of (layout_of (phrases_of files) (known (phrases_of files))); turns = turns })
    ≡ set_of turns files
set_made turns files = refl
