-- The meaning of files and their image agree, and both are loads.
use Rattle.std.proofs.Common.{◌≡◌, ◌∙◌, ◌<◌, ◌≤◌, arith, List, ℕ, ap, sym, subst, length, map}
use Rattle.std.proofs.lemmas.List.{length-map}
use Rattle.hal_base.specs.declared.limits.TheConstants.{EVENT_LIMIT, PROCESS_LIMIT}
use Rattle.hal_grammar.specs.Units.{File}
use Rattle.hal_phrases.specs.GatheredUnits.{phrases_of}
use Rattle.hal_constants.specs.Known.{known}
use Rattle.hal_values.specs.declared.tables.Tables.{Tables}
use Rattle.hal_values.specs.Loads.{Agree, IsLoad, turn_limit}
use Rattle.hal_values.specs.Tables.{IsTables, process_count}
use Rattle.hal_meaning.specs.Bodies.{processes_of}
use Rattle.hal_meaning.specs.Events.{declared_events, start_of}
use Rattle.hal_meaning.specs.ReportNames.{path_of}
use Rattle.hal_meaning.specs.SetLoad as set
use Rattle.hal_meaning.specs.SetLoad.{IsSmall}
use Rattle.hal_meaning.specs.Sets.{set_of, tables_of}
use Rattle.hal_meaning.proofs.Accepted.{files_are_load}
use Rattle.hal_code.specs.declared.image.ImageParts.{ImageParts}
use Rattle.hal_code.specs.Courses as code
use Rattle.hal_code.specs.Images as images
use Rattle.hal_code.proofs.Loading.{image_is_load}
use Rattle.hal_code.proofs.RightTables.{right_tables}
use Rattle.hal_agreement.proofs.Agreeing.{files_agree}
use Rattle.hal_link.proofs.Linked.{image_placed}
use Rattle.hal_link.specs.CalledViews.{views_of}
use Rattle.hal_checked.specs.Checking.{linked_in, set_in}
use Rattle.hal_compile.specs.Compiling.{CanRun, Compiles}

-- the meaning of files and their image agree
pub agrees : (files : List File) (image : ImageParts) → Compiles files image → Agree (set.load_of (set_in files)) (code.load_of turn_limit image)
unfolding set_in linked_in
agrees files image compiles = files_agree turn_limit files image (image_placed turn_limit files (views_of (set_in files)) image compiles.linked)

pub image_load : (image : ImageParts) → CanRun image → IsLoad (code.load_of turn_limit image)
image_load image runs = image_is_load turn_limit image (right_tables image runs.right) (omega arith)

-- files are few enough for tables that are right
small_by : (files : List File) → IsTables (set_in files).tables → IsSmall turn_limit files
unfolding set_in
small_by files right = record {
  cells = right.few_cells;
  processes = subst (λ (n : ℕ). n ≤ PROCESS_LIMIT) (length-map (processes_of (phrases_of files)) (path_of (phrases_of files))) right.few_processes;
  events = subst (λ (n : ℕ). n ≤ EVENT_LIMIT) (length-map (declared_events (phrases_of files)) (start_of (phrases_of files) (known (phrases_of files)))) right.few_events;
  some = omega (arith, right.first, length-map (processes_of (phrases_of files)) (path_of (phrases_of files)));
  few_turns = omega arith;
}

pub files_load : (files : List File) (image : ImageParts) → Compiles files image → IsLoad (set.load_of (set_in files))
unfolding set_in
files_load files image compiles =
    files_are_load turn_limit files (small_by files (subst IsTables (sym (agrees files image compiles).tables) (right_tables image compiles.runs.right)))
