-- Which rules the files of a set keep before code is made, and what they are linked to.
use Rattle.std.specs.Prelude.{◌≡◌, true, List, Option, Result, Ok}
use Rattle.hal_base.specs.declared.refusal.Place.{Place}
use Rattle.hal_grammar.specs.Units.{File}
use Rattle.hal_phrases.specs.Phrases.{Phrase}
use Rattle.hal_scope.specs.Rules.{IsSound, rows}
use Rattle.hal_templates.specs.Rules.{template_rows}
use Rattle.hal_types.specs.Rules.{type_rows}
use Rattle.hal_locks.specs.Rules.{lock_rows}
use Rattle.hal_calls.specs.Programs.{has_program}
use Rattle.hal_calls.specs.Rules.{call_rows}
use Rattle.hal_constants.specs.Known.{known}
use Rattle.hal_limits.specs.Limits.{IsWithin}
use Rattle.hal_values.specs.Loads.{turn_limit}
use Rattle.hal_meaning.specs.Sets.{Set, set_of}
use Rattle.hal_code.specs.declared.image.ImageParts.{ImageParts}
use Rattle.hal_code.specs.Right.{IsRight}
use Rattle.hal_right_values.specs.Finding.{HaveCells}
use Rattle.hal_verify.specs.Limits.{spread_kept}
use Rattle.hal_link.specs.Linking as linking
use Rattle.hal_link.specs.CalledViews.{views_of}

-- the set of these files, whose UPDATE blocks have as many turns as they may have
unfoldable pub set_in : List File → Set
set_in files = set_of turn_limit files

-- no rule of names or types is broken
pub record IsTyped (ps : List Phrase) : Type 0 where
  pub named : IsSound rows ps
  pub typed : IsSound type_rows ps

-- nor one of templates or locks
pub record IsLawful (ps : List Phrase) : Type 0 where
  pub matched : IsSound template_rows ps
  pub typed : IsTyped ps
  pub locked : IsSound lock_rows ps

-- nor one of calls or limits
pub record IsChecked (ps : List Phrase) : Type 0 where
  pub lawful : IsLawful ps
  pub program : has_program ps ≡ true
  pub within : IsWithin ps (known ps)
  pub called : IsSound call_rows ps

-- what linking the files comes to
unfoldable pub linked_in : List File → Result ImageParts (Option Place)
linked_in files = linking.image_of (set_in files) (views_of (set_in files))

-- an image is right, and each of its views has a cell
pub record IsWhole (image : ImageParts) : Type 0 where
  pub right : IsRight image
  pub cells : HaveCells image

-- so is the one that linking came to, where its shapes and views have few enough cells
abbrev pub LinksWholeBy : Result ImageParts (Option Place) → Type 0
LinksWholeBy wanted = (image : ImageParts) → wanted ≡ Ok image → spread_kept image ≡ true → IsWhole image

-- and the one that the files are linked to
abbrev pub LinksWhole : List File → Type 0
LinksWhole files = LinksWholeBy (linked_in files)
