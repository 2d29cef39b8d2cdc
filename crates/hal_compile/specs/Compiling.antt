-- When a set of files has an image, and which rules it breaks otherwise.
use Rattle.std.specs.Prelude.{◌≡◌, ◌⊎◌, ℕ, true, false, List, Option, Some, None, Result, Ok, Err, length, if◌then◌else◌, ⊤}
use Rattle.hal_base.specs.declared.refusal.Place.{Place}
use Rattle.hal_base.specs.declared.refusal.Refusal.{Refusal}
use Rattle.hal_base.specs.declared.refusal.Fault.{Fault}
use Rattle.hal_base.specs.declared.refusal.Fault.TheVariants as fault
use Rattle.hal_grammar.specs.Units.{File}
use Rattle.hal_phrases.specs.Phrases.{Phrase}
use Rattle.hal_phrases.specs.GatheredUnits.{phrases_of}
use Rattle.hal_scope.specs.Rules.{Row, rows}
use Rattle.hal_scope.specs.Rules as scope
use Rattle.hal_templates.specs.Rules.{template_rows}
use Rattle.hal_types.specs.Rules.{type_rows}
use Rattle.hal_locks.specs.Rules.{lock_rows}
use Rattle.hal_calls.specs.Rules.{BreaksCalls}
use Rattle.hal_constants.specs.Known.{known}
use Rattle.hal_limits.specs.Limits.{BreaksLimit}
use Rattle.hal_storage.specs.layout.Layouts.{IsNarrow, layout_of}
use Rattle.hal_meaning.specs.Sets.{beginning}
use Rattle.hal_code.specs.declared.image.ImageParts.{ImageParts}
use Rattle.hal_code.specs.Right.{IsRight}
use Rattle.hal_right_values.specs.Finding.{HaveCells}
use Rattle.hal_object.specs.Images.{IsSpelled}
use Rattle.hal_verify.specs.Limits.{first_fault, spread_kept}
use Rattle.hal_checked.specs.Checking.{IsChecked, IsLawful, linked_in}
use Rattle.hal_compile.specs.declared.lacking.Lacking.{Lacking}
use Rattle.hal_compile.specs.declared.lacking.Lacking.TheVariants as lacking
use Rattle.hal_compile.specs.Fitness.{have_cells}

-- the first instruction at fault of an image, or the number of instructions where tables alone are: rows that aren't right, limits that aren't kept, or a view without a cell
abbrev pub image_fault : ImageParts → Option ℕ
image_fault image = elim (first_fault image) [ None ↦ if have_cells image then None else Some (length image.code) | Some n ↦ Some n ]

-- the image can run, and be written: it is right, each of its views has a cell, and it has bytes
pub record CanRun (image : ImageParts) : Type 0 where
  pub right : IsRight image
  pub cells : HaveCells image
  pub spelled : IsSpelled image

-- this is the image of the files; its tables have room, and it can run
pub record Compiles (files : List File) (image : ImageParts) : Type 0 where
  pub linked : linked_in files ≡ Ok image
  pub narrow : IsNarrow (layout_of (phrases_of files) (known (phrases_of files)))
  pub runs : CanRun image

-- what linking came to is an image whose shapes have too many cells, or whose views give too many
pub record Spreads (wanted : Result ImageParts (Option Place)) : Type 0 where
  pub image : ImageParts
  pub there : wanted ≡ Ok image
  pub exceeded : spread_kept image ≡ false

-- the image of the files is such a one, and their tables have room
pub record Overfills (files : List File) : Type 0 where
  pub narrow : IsNarrow (layout_of (phrases_of files) (known (phrases_of files)))
  pub spreads : Spreads (linked_in files)

-- the files have no image: this is the place of the first phrase that has no code yet, or the beginning of the set where all have code or the tables have no room,
-- and no more cells are reached than may be
abbrev pub IsUncompiled : List File → Place → Type 0
IsUncompiled files place =
    (linked_in files ≡ Err (Some place))
    ⊎ ((place ≡ beginning) × ((at : Place) → IsNarrow (layout_of (phrases_of files) (known (phrases_of files))) → linked_in files ≡ Err (Some at) → ⊥) × ((image : ImageParts) → Compiles files image → ⊥)
    × (Overfills files → ⊥))

-- what linking came to gives an image that can run, or lacks one, as at this place
abbrev pub LacksCode : Result ImageParts (Option Place) → Place → Type 0
LacksCode wanted place =
    (wanted ≡ Err (Some place))
    ⊎ ((place ≡ beginning) × ((at : Place) → wanted ≡ Err (Some at) → ⊥) × ((image : ImageParts) → wanted ≡ Ok image → CanRun image → ⊥) × (Spreads wanted → ⊥))

abbrev pub Fits : Result ImageParts (Option Place) → Result ImageParts Lacking → Type 0
Fits wanted (Ok image) = (wanted ≡ Ok image) × CanRun image
Fits wanted (Err (lacking.Code place)) = LacksCode wanted place
Fits wanted (Err lacking.Room) = Spreads wanted

-- the image of files, or what they lack
abbrev pub IsImageOf : List File → Result ImageParts Lacking → Type 0
IsImageOf files (Ok image) = Compiles files image
IsImageOf files (Err (lacking.Code place)) = IsUncompiled files place
IsImageOf files (Err lacking.Room) = Overfills files

-- one of these phrases breaks a row of a table of rules
abbrev pub BreaksRow : List Row → List Phrase → Refusal → Type 0
BreaksRow table ps refusal = scope.Breaks table ps refusal.rule.0 refusal.place

-- a rule of limits, told where no rule of names, templates, types or locks is broken
pub record ExceedsLimit (ps : List Phrase) (refusal : Refusal) : Type 0 where
  pub lawful : IsLawful ps
  pub exceeded : BreaksLimit ps (known ps) refusal.rule.0
  pub at : refusal.place ≡ beginning

-- a rule of calls
abbrev pub Miscalls : List Phrase → Refusal → Type 0
Miscalls ps refusal = BreaksCalls ps refusal.rule.0 refusal.place

-- a rule of names, of templates, of types or of locks that is broken, at the place; want of memory says nothing of the set
abbrev pub MisdeclaredBy : List Phrase → Fault → Type 0
MisdeclaredBy ps (fault.Broken refusal) = BreaksRow rows ps refusal ⊎ BreaksRow template_rows ps refusal ⊎ BreaksRow type_rows ps refusal ⊎ BreaksRow lock_rows ps refusal
MisdeclaredBy ps (fault.Memory error) = ⊤

-- one of calls or limits; want of memory says nothing
abbrev pub OversteppedBy : List Phrase → Fault → Type 0
OversteppedBy ps (fault.Broken refusal) = Miscalls ps refusal ⊎ ExceedsLimit ps refusal
OversteppedBy ps (fault.Memory error) = ⊤

-- rule 410, told where no other is broken
pub record LacksImage (files : List File) (refusal : Refusal) : Type 0 where
  pub checked : IsChecked (phrases_of files)
  pub rule_is : refusal.rule.0 ≡ 410
  pub uncompiled : IsUncompiled files refusal.place

-- rule 951 of an image, told where no other is broken
pub record ExceedsImage (files : List File) (refusal : Refusal) : Type 0 where
  pub checked : IsChecked (phrases_of files)
  pub rule_is : refusal.rule.0 ≡ 951
  pub at : refusal.place ≡ beginning
  pub overfills : Overfills files

-- the files break a rule of names, of templates, of types, of locks, of calls, of limits, 410, or 951 by their image
abbrev pub FilesBreak : List File → Refusal → Type 0
FilesBreak files refusal =
    BreaksRow rows (phrases_of files) refusal ⊎ BreaksRow template_rows (phrases_of files) refusal ⊎ BreaksRow type_rows (phrases_of files) refusal ⊎ BreaksRow lock_rows (phrases_of files) refusal
    ⊎ Miscalls (phrases_of files) refusal ⊎ ExceedsLimit (phrases_of files) refusal ⊎ LacksImage files refusal ⊎ ExceedsImage files refusal

abbrev pub FilesBreakBy : List File → Fault → Type 0
FilesBreakBy files (fault.Broken refusal) = FilesBreak files refusal
FilesBreakBy files (fault.Memory error) = ⊤

-- rule 410 at this place
abbrev pub IsToldAt : Place → Fault → Type 0
IsToldAt place (fault.Broken refusal) = (refusal.rule.0 ≡ 410) × (refusal.place ≡ place)
IsToldAt place (fault.Memory error) = ⊥

-- rule 951 at the beginning
abbrev pub IsToldOfCells : Fault → Type 0
IsToldOfCells (fault.Broken refusal) = (refusal.rule.0 ≡ 951) × (refusal.place ≡ beginning)
IsToldOfCells (fault.Memory error) = ⊥

-- memory is wanting
abbrev pub IsOfMemory : Fault → Type 0
IsOfMemory (fault.Broken refusal) = ⊥
IsOfMemory (fault.Memory error) = ⊤
