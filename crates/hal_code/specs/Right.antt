-- When an image is right, and the first instruction that isn't.
use Rattle.std.specs.Prelude.{◌≡◌, ℕ, suc, ◌+◌, ◌*◌, ◌-◌, ◌==◌, nat_le, nat_lt, length, Bool, true, false, not, ◌&&◌, ◌||◌, List, [], ◌∷◌, Option, Some, None, slice_get, unwrap_or, if◌then◌else◌}
use Rattle.std.specs.List.{list_all, list_any, range_with_len, sum_by}
use Rattle.hal_base.specs.declared.limits.TheConstants.{CELL_LIMIT, EVENT_LIMIT, PROCESS_LIMIT}
use Rattle.hal_values.specs.declared.tables.Cell.{Cell}
use Rattle.hal_values.specs.declared.tables.EventStart.{EventStart}
use Rattle.hal_values.specs.declared.tables.Item.{Item}
use Rattle.hal_values.specs.declared.tables.Item.TheVariants as item
use Rattle.hal_values.specs.declared.tables.ReportBase.TheVariants as named
use Rattle.hal_values.specs.declared.tables.ReportName.{ReportName}
use Rattle.hal_values.specs.declared.value.Kind.{Kind}
use Rattle.hal_values.specs.ReportElements.{size_of}
use Rattle.hal_code.specs.declared.choice.Choice.{Choice}
use Rattle.hal_code.specs.declared.image.ImageParts.{ImageParts}
use Rattle.hal_code.specs.declared.instr.Instr.{Instr}
use Rattle.hal_code.specs.declared.instr.Instr.TheVariants as instr
use Rattle.hal_code.specs.declared.row.Base.TheVariants as base
use Rattle.hal_code.specs.declared.row.Block.{Block}
use Rattle.hal_code.specs.declared.row.Dimension.{Dimension}
use Rattle.hal_code.specs.declared.row.OwnPlace.{OwnPlace}
use Rattle.hal_code.specs.declared.row.OwnPlace.TheVariants as place
use Rattle.hal_code.specs.declared.row.Process.{Process}
use Rattle.hal_code.specs.declared.row.Run.{Run}
use Rattle.hal_code.specs.declared.row.Target.TheVariants as target
use Rattle.hal_code.specs.declared.row.View.{View}
use Rattle.hal_code.specs.Images.{row_count, places_of}
use Rattle.hal_code.specs.Sorts.{is_kind, is_initial}
use Rattle.hal_code.specs.Memory.{spread_limit, shared_memory, all_lie, spread_of, fits_places, are_data}
use Rattle.hal_code.specs.Blocks.{is_common, code_of, is_of_process, is_kept_out, outward}
use Rattle.hal_code.specs.Operands.{is_known, events_of, operands_right}
use Rattle.hal_code.specs.Effects.{Sorts, sorts_after}
use Rattle.hal_code.specs.Flow.{Flow, flow_of, part_at, is_inside, jumps}

-- the n-th instruction of a block may stand inside or outside UPDATE blocks, as it does; a block that asks isn't called inside
abbrev pub stands_inside : List Bool → Instr → Bool
stands_inside out (instr.Call callee) = not (unwrap_or (slice_get out callee) false)
stands_inside out i = not (is_kept_out i)

abbrev pub stands_outside : Instr → Bool
stands_outside instr.Close = false
stands_outside i = true

abbrev pub stands_right : List Bool → Bool → Instr → Bool
stands_right out true i = stands_inside out i
stands_right out false i = stands_outside i

-- BEGIN is the first instruction of a process's block alone, FINISH stands there alone, and RETURN elsewhere
abbrev pub frames_right : Bool → Bool → Instr → Bool
frames_right of_process first instr.Begin = of_process && first
frames_right of_process first instr.Finish = of_process && not first
frames_right of_process first instr.Return = not of_process
frames_right of_process first i = not (of_process && first)

-- the last instruction of a block goes away, and no UPDATE block is open behind it
abbrev pub is_last : Instr → Bool
is_last (instr.Jump target) = true
is_last instr.Return = true
is_last instr.Finish = true
is_last other = false

abbrev pub ends_right : Flow → ℕ → Instr → Bool
ends_right f n i = if suc n == length f.code then is_last i && not (is_inside (part_at f (suc n))) else true

-- the stack fits
abbrev pub stack_right : ImageParts → Block → Instr → Sorts → Bool
stack_right image block i stack = elim (sorts_after image block i stack) [ None ↦ false | Some after ↦ true ]

-- the n-th instruction of a block is right
abbrev pub instr_right : ImageParts → List Bool → Flow → ℕ → Instr → Sorts → Bool
instr_right image out f n i stack =
    ((operands_right image f.block f.number i && stack_right image f.block i stack) && (jumps f n stack i && stands_right out (is_inside (part_at f n)) i))
    && (frames_right (is_of_process image f.number) (n == 0) i && ends_right f n i)

-- the first instruction of a block that isn't right, from the n-th one on
abbrev pub first_wrong : ImageParts → List Bool → Flow → ℕ → List Instr → List Sorts → Option ℕ
first_wrong image out f n (i ∷ is) (stack ∷ stacks) = if instr_right image out f n i stack then first_wrong image out f (suc n) is stacks else Some (f.block.first + n)
first_wrong image out f n is stacks = None

abbrev pub wrong_in : ImageParts → List Bool → Flow → Option ℕ
wrong_in image out f = first_wrong image out f 0 f.code f.stacks

-- the first instruction of the blocks from the b-th on that isn't right
abbrev pub wrong_instr : ImageParts → List Bool → ℕ → List Block → Option ℕ
wrong_instr image out b [] = None
wrong_instr image out b (block ∷ blocks) =
    elim (wrong_in image out (flow_of image block b (code_of image block))) [ None ↦ wrong_instr image out (suc b) blocks | Some n ↦ Some n ]

-- blocks aren't empty, and follow each other from an instruction on over the whole code
abbrev pub follow : ℕ → ℕ → List Block → Bool
follow size from [] = from == size
follow size from (block ∷ blocks) = (block.first == from && nat_lt block.first block.end) && follow size block.end blocks

-- a block is common or of a process that is there, and gives something that there is
abbrev pub block_right : ImageParts → Block → Bool
block_right image block = (is_common block || nat_lt block.process (length image.processes)) && is_known block.result

abbrev pub blocks_right : ImageParts → Bool
blocks_right image = follow (length image.code) 0 image.blocks && list_all (block_right image) image.blocks

-- shared cells
abbrev pub cell_right : Run Cell → Bool
cell_right run = is_initial run.row.kind run.row.initial && nat_le run.row.group 15

-- own places
abbrev pub place_right : ImageParts → Run OwnPlace → Bool
place_right image run = elim run.row [ place.Data kind initial ↦ is_initial kind initial | place.Reference shape ↦ nat_lt shape (length image.shapes) ]

-- the block of the p-th process is its own
abbrev pub process_right : ImageParts → ℕ → Process → Bool
process_right image p process =
    elim (slice_get image.blocks process.block) [ None ↦ false | Some block ↦ block.process == p ] && list_all (place_right image) process.places

abbrev pub processes_right : ImageParts → ℕ → List Process → Bool
processes_right image p [] = true
processes_right image p (process ∷ processes) = process_right image p process && processes_right image (suc p) processes

-- all cells: the shared ones, and for each process its places, the common ones among them
abbrev pub cell_count : ImageParts → ℕ
cell_count image = row_count image.cells + sum_by (λ (p : Process). row_count image.common + row_count p.places) image.processes

abbrev pub limits_right : ImageParts → Bool
limits_right image =
    (nat_le (cell_count image) CELL_LIMIT && nat_le (length image.processes) PROCESS_LIMIT) && (nat_le (length image.events) EVENT_LIMIT && nat_lt image.first (length image.processes))

-- shapes, and how many cells they have together
abbrev pub shape_right : List (Run Kind) → Bool
shape_right runs = list_all (λ (run : Run Kind). is_kind run.row) runs

abbrev pub shapes_right : ImageParts → Bool
shapes_right image = list_all shape_right image.shapes && nat_le (sum_by (λ (runs : List (Run Kind)). row_count runs) image.shapes) spread_limit

-- an instruction names the view with this number
abbrev pub names_view : ℕ → Instr → Bool
names_view v (instr.Cell view) = view == v
names_view v (instr.Whole view) = view == v
names_view v other = false

-- a block of the process names the view
abbrev pub process_names : ImageParts → ℕ → ℕ → Bool
process_names image v p = list_any (λ (block : Block). (block.process == p) && list_any (names_view v) (code_of image block)) image.blocks

-- a view of own places fits each process whose blocks name it, and at least one
abbrev pub fits_processes : ImageParts → ℕ → View → Bool
fits_processes image v view =
    list_all (λ p. not (process_names image v p) || fits_places image view (places_of image p)) (range_with_len 0 (length image.processes))
    && list_any (λ p. fits_places image view (places_of image p)) (range_with_len 0 (length image.processes))

abbrev pub lies_right : ImageParts → ℕ → View → Bool
lies_right image v view = elim view.base [
  | base.Shared number ↦ all_lie image view (shared_memory image) number
  | base.Own number ↦ fits_processes image v view
  | base.Through place offset ↦ fits_processes image v view
  | base.Other byte number ↦ false
]

-- the kind of a view is one, or its shape is there, and its dimensions have places
abbrev pub target_right : ImageParts → View → Bool
target_right image view = elim view.target [ target.Cell kind ↦ is_kind kind | target.Shape shape ↦ nat_lt shape (length image.shapes) ]

abbrev pub form_right : ImageParts → View → Bool
form_right image view = target_right image view && list_all (λ (d : Dimension). nat_le 1 d.size) view.dimensions

abbrev pub views_lie : ImageParts → ℕ → List View → Bool
views_lie image v [] = true
views_lie image v (view ∷ views) = lies_right image v view && views_lie image (suc v) views

-- views: their cells, counted with repeats, are few
abbrev pub views_right : ImageParts → Bool
views_right image = (list_all (form_right image) image.views && nat_le (sum_by (spread_of image) image.views) spread_limit) && views_lie image 0 image.views

-- an event expression leaves one value where so many operands stand before it, and names events that are there
abbrev pub postfix_right : ℕ → ℕ → List Item → Bool
postfix_right events operands [] = operands == 1
postfix_right events operands (item.Event e ∷ items) = nat_lt e events && postfix_right events (operands + 1) items
postfix_right events operands (item.Not ∷ items) = nat_le 1 operands && postfix_right events operands items
postfix_right events operands (item.And ∷ items) = nat_le 2 operands && postfix_right events (operands - 1) items
postfix_right events operands (item.Or ∷ items) = nat_le 2 operands && postfix_right events (operands - 1) items

-- how many copies a report name has, and how many lines it gives
abbrev pub copies_of : ReportName → ℕ
copies_of name = if name.copies == 0 then 1 else name.copies

abbrev pub line_count : ReportName → ℕ
line_count name = copies_of name * size_of name.dimensions

-- elements from a number on are there
abbrev pub elements_there : ImageParts → ReportName → ℕ → ℕ → Bool
elements_there image name from count = elim name.base [
  | named.Shared ↦ nat_le (from + count) (row_count image.cells)
  | named.Own p ↦ are_data (places_of image p) from count
  | named.Event ↦ nat_le (from + count) (events_of image)
]

-- those of each copy are there
abbrev pub name_right : ImageParts → ReportName → Bool
name_right image name = list_all (λ copy. elements_there image name (name.first + copy * name.stride) (size_of name.dimensions)) (range_with_len 0 (copies_of name))

abbrev pub names_right : ImageParts → Bool
names_right image = nat_le (sum_by line_count image.names) spread_limit && list_all (name_right image) image.names

-- all rows of tables but those of blocks
abbrev pub rows_right : ImageParts → Bool
rows_right image =
    ((limits_right image && list_all cell_right image.cells) && (list_all (λ (one : Choice EventStart). is_known one) image.events && list_all (place_right image) image.common))
    && ((processes_right image 0 image.processes && shapes_right image) && (views_right image && (list_all (postfix_right (events_of image) 0) image.expressions && names_right image)))

-- the first instruction that isn't right, or the number of instructions where rows of tables alone aren't. Where a row of blocks isn't, no instruction is looked at
abbrev pub first_failure : ImageParts → Option ℕ
first_failure image =
    if not (blocks_right image) then Some (length image.code)
    else elim (wrong_instr image (outward image) 0 image.blocks) [ None ↦ if rows_right image then None else Some (length image.code) | Some n ↦ Some n ]

-- an image is right
abbrev pub IsRight : ImageParts → Type 0
IsRight image = first_failure image ≡ None
