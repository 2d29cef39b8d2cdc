-- The rows of an image's tables as bytes.
use Rattle.std.specs.Prelude.{ℕ, ◌<◌, ◌≤◌, ◌^◌, List, [], ◌∷◌, ◌++◌, length}
use Rattle.std.specs.List.{flat_map, AllByRecursion}
use Rattle.hal_values.specs.declared.tables.Item.{Item}
use Rattle.hal_values.specs.declared.tables.Item.TheVariants as item
use Rattle.hal_values.specs.declared.tables.ReportBase.{ReportBase}
use Rattle.hal_values.specs.declared.tables.ReportBase.TheVariants as named
use Rattle.hal_values.specs.declared.tables.ReportName.{ReportName}
use Rattle.hal_code.specs.declared.row.Base.{Base}
use Rattle.hal_code.specs.declared.row.Base.TheVariants as base
use Rattle.hal_code.specs.declared.row.Block.{Block}
use Rattle.hal_code.specs.declared.row.Dimension.{Dimension}
use Rattle.hal_code.specs.declared.row.Process.{Process}
use Rattle.hal_code.specs.declared.row.Run.{Run}
use Rattle.hal_code.specs.declared.row.Target.{Target}
use Rattle.hal_code.specs.declared.row.Target.TheVariants as target
use Rattle.hal_code.specs.declared.row.View.{View}
use Rattle.hal_object.specs.Numbers.{in_two, in_four, in_eight, text_bytes, list_bytes, AreFew}
use Rattle.hal_object.specs.Choices.{choice_bytes, FitsChoice, result_code}
use Rattle.hal_object.specs.Kinds.{kind_bytes, FitsKind, place_bytes, FitsPlace}

-- a run: how often its row stands, and the row
abbrev pub run_bytes : {T : Type 0} → (T → List ℕ) → Run T → List ℕ
run_bytes row_bytes run = in_four run.repeat ++ row_bytes run.row

abbrev pub FitsRun : {T : Type 0} → (T → Type 0) → Run T → Type 0
FitsRun Fits run = (run.repeat < 2 ^ 32) × Fits run.row

abbrev pub process_bytes : Process → List ℕ
process_bytes process = text_bytes process.name ++ (in_four process.block ++ list_bytes (run_bytes place_bytes) process.places)

abbrev pub FitsProcess : Process → Type 0
FitsProcess process =
    (length process.name < 2 ^ 8) × ((process.block < 2 ^ 32) × AreFew (2 ^ 32) (FitsRun FitsPlace) process.places)

-- where a view begins
abbrev pub base_bytes : Base → List ℕ
base_bytes (base.Shared number) = 0 ∷ in_four number
base_bytes (base.Own number) = 1 ∷ in_four number
base_bytes (base.Through place offset) = 2 ∷ (in_four place ++ in_four offset)
base_bytes (base.Other byte number) = byte ∷ in_four number

abbrev pub FitsBase : Base → Type 0
FitsBase (base.Shared number) = number < 2 ^ 32
FitsBase (base.Own number) = number < 2 ^ 32
FitsBase (base.Through place offset) = (place < 2 ^ 32) × (offset < 2 ^ 32)
FitsBase (base.Other byte number) = (3 ≤ byte) × ((byte < 2 ^ 8) × (number < 2 ^ 32))

abbrev pub dimension_bytes : Dimension → List ℕ
dimension_bytes d = in_four d.size ++ in_four d.stride

abbrev pub FitsDimension : Dimension → Type 0
FitsDimension d = (d.size < 2 ^ 32) × (d.stride < 2 ^ 32)

-- what a view gives
abbrev pub target_bytes : Target → List ℕ
target_bytes (target.Cell k) = 0 ∷ kind_bytes k
target_bytes (target.Shape shape) = 1 ∷ in_four shape

abbrev pub FitsTarget : Target → Type 0
FitsTarget (target.Cell k) = FitsKind k
FitsTarget (target.Shape shape) = shape < 2 ^ 32

abbrev pub view_bytes : View → List ℕ
view_bytes view = base_bytes view.base ++ (length view.dimensions ∷ (flat_map dimension_bytes view.dimensions ++ target_bytes view.target))

-- a view has four dimensions at most
abbrev pub FitsView : View → Type 0
FitsView view =
    FitsBase view.base × (((length view.dimensions < 5) × AllByRecursion FitsDimension view.dimensions) × FitsTarget view.target)

-- an item of an event expression
abbrev pub item_bytes : Item → List ℕ
item_bytes (item.Event e) = 0 ∷ in_two e
item_bytes item.Not = 1 ∷ []
item_bytes item.And = 2 ∷ []
item_bytes item.Or = 3 ∷ []

abbrev pub FitsItem : Item → Type 0
FitsItem (item.Event e) = e < 2 ^ 16
FitsItem item.Not = Unit {0}
FitsItem item.And = Unit {0}
FitsItem item.Or = Unit {0}

abbrev pub block_bytes : Block → List ℕ
block_bytes block = block.process ∷ (in_eight block.first ++ (in_eight block.end ++ choice_bytes result_code block.result))

abbrev pub FitsBlock : Block → Type 0
FitsBlock block = (block.process < 2 ^ 8) × ((block.first < 2 ^ 64) × ((block.end < 2 ^ 64) × FitsChoice 4 block.result))

-- where the elements of a report's name lie
abbrev pub named_bytes : ReportBase → List ℕ
named_bytes named.Shared = 0 ∷ []
named_bytes (named.Own process) = 1 ∷ process ∷ []
named_bytes named.Event = 2 ∷ []

abbrev pub FitsNamed : ReportBase → Type 0
FitsNamed named.Shared = Unit {0}
FitsNamed (named.Own process) = process < 2 ^ 8
FitsNamed named.Event = Unit {0}

-- the elements of a report's name: the first one, the copies and how far apart they are, and the dimensions
abbrev pub elements_bytes : ReportName → List ℕ
elements_bytes name = in_four name.first ++ (in_four name.copies ++ (in_four name.stride ++ (length name.dimensions ∷ flat_map in_four name.dimensions)))

abbrev pub name_bytes : ReportName → List ℕ
name_bytes name = (in_two (length name.name) ++ name.name) ++ (named_bytes name.base ++ elements_bytes name)

abbrev pub FitsName : ReportName → Type 0
FitsName name =
    (length name.name < 2 ^ 16) × (FitsNamed name.base × ((name.first < 2 ^ 32) × ((name.copies < 2 ^ 32) × ((name.stride < 2 ^ 32) × ((length name.dimensions < 2 ^ 8) × AllByRecursion (λ size. size < 2 ^ 32) name.dimensions)))))
