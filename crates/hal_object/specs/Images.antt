-- Images as bytes.
use Rattle.std.specs.Prelude.{◌≡◌, ℕ, ◌<◌, ◌^◌, List, [], ◌∷◌, ◌++◌, length}
use Rattle.std.specs.List.{flat_map}
use Rattle.hal_values.specs.declared.value.Kind.{Kind}
use Rattle.hal_code.specs.declared.image.ImageParts.{ImageParts}
use Rattle.hal_code.specs.declared.row.Process.{Process}
use Rattle.hal_code.specs.declared.row.Run.{Run}
use Rattle.hal_object.specs.Numbers.{in_eight, list_bytes, AreFew}
use Rattle.hal_object.specs.Choices.{choice_bytes, FitsChoice, start_code}
use Rattle.hal_object.specs.Instructions.{instr_bytes, FitsInstr}
use Rattle.hal_object.specs.Kinds.{kind_bytes, FitsKind, cell_bytes, FitsCell, place_bytes, FitsPlace}
use Rattle.hal_object.specs.Rows.{run_bytes, FitsRun, process_bytes, FitsProcess, view_bytes, FitsView, item_bytes, FitsItem, block_bytes, FitsBlock, name_bytes, FitsName}

-- `HALI`, and the version
abbrev pub mark : List ℕ
mark = 72 ∷ 65 ∷ 76 ∷ 73 ∷ 1 ∷ []

-- the instructions behind their count
abbrev pub code_bytes : ImageParts → List ℕ
code_bytes image = in_eight (length image.code) ++ flat_map instr_bytes image.code

-- the tables that the code names and those of the report, in this order, and the code
abbrev pub later_bytes : ImageParts → List ℕ
later_bytes image =
    list_bytes (list_bytes (run_bytes kind_bytes)) image.shapes
    ++ (list_bytes view_bytes image.views
    ++ (list_bytes (list_bytes item_bytes) image.expressions
    ++ (list_bytes block_bytes image.blocks
    ++ (list_bytes name_bytes image.names
    ++ code_bytes image))))

-- the data, the events and the processes, in this order, and all others
abbrev pub parts_bytes : ImageParts → List ℕ
parts_bytes image =
    list_bytes (run_bytes cell_bytes) image.cells
    ++ (list_bytes (choice_bytes start_code) image.events
    ++ (list_bytes (run_bytes place_bytes) image.common
    ++ (list_bytes process_bytes image.processes
    ++ (image.first
    ∷ later_bytes image))))

-- the bytes of an image
abbrev pub image_bytes : ImageParts → List ℕ
image_bytes image = mark ++ parts_bytes image

-- numbers, counts and forms of the tables that the code names, of those of the report, and of the code are as the bytes can say
abbrev pub FitLater : ImageParts → Type 0
FitLater image =
    AreFew (2 ^ 32) (AreFew (2 ^ 32) (FitsRun FitsKind)) image.shapes × (AreFew (2 ^ 32) FitsView image.views × (AreFew (2 ^ 32) (AreFew (2 ^ 32) FitsItem) image.expressions × (AreFew (2 ^ 32) FitsBlock image.blocks × (AreFew (2 ^ 32) FitsName image.names × AreFew (2 ^ 64) FitsInstr image.code))))

-- and so are those of all parts
abbrev pub FitsBytes : ImageParts → Type 0
FitsBytes image =
    AreFew (2 ^ 32) (FitsRun FitsCell) image.cells × (AreFew (2 ^ 32) (FitsChoice 3) image.events × (AreFew (2 ^ 32) (FitsRun FitsPlace) image.common × (AreFew (2 ^ 32) FitsProcess image.processes × ((image.first < 2 ^ 8) × FitLater image))))

-- the first of these runs, if there is one, has another row
abbrev pub BeginsOtherwise : {T : Type 0} → T → List (Run T) → Type 0
BeginsOtherwise row [] = Unit {0}
BeginsOtherwise row (run ∷ runs) = row ≡ run.row → ⊥

-- each run has a row at least once, and the next one has another row
abbrev pub AreRuns : {T : Type 0} → List (Run T) → Type 0
AreRuns [] = Unit {0}
AreRuns (run ∷ runs) = (0 < run.repeat) × BeginsOtherwise run.row runs × AreRuns runs

-- so are the own places of all processes
abbrev pub HaveRuns : List Process → Type 0
HaveRuns [] = Unit {0}
HaveRuns (process ∷ processes) = AreRuns process.places × HaveRuns processes

-- and the kinds of all shapes
abbrev pub ShapesAreRuns : List (List (Run Kind)) → Type 0
ShapesAreRuns [] = Unit {0}
ShapesAreRuns (runs ∷ shapes) = AreRuns runs × ShapesAreRuns shapes

-- all runs of an image
abbrev pub HasRuns : ImageParts → Type 0
HasRuns image = (AreRuns image.cells × AreRuns image.common) × (HaveRuns image.processes × ShapesAreRuns image.shapes)

-- the image has bytes, which are its spelling then
pub record IsSpelled (image : ImageParts) : Type 0 where
  pub fits : FitsBytes image
  pub runs : HasRuns image
