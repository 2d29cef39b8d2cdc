-- Rows of wrong_tables.txt, written by tools/code_rows.
use Rattle.std.specs.Prelude.{◌≡◌, ℕ, List, [], ◌∷◌, Some, None, pos, negsuc, true, false, codes}
use Rattle.std.specs.Fmt.{digits}
use Rattle.std.proofs.Common.{refl}
use Rattle.hal_values.specs.declared.value.Kind.TheVariants as kind
use Rattle.hal_values.specs.declared.value.Value.TheVariants as value
use Rattle.hal_values.specs.declared.tables.EventStart.TheVariants as begins
use Rattle.hal_values.specs.declared.tables.Item.TheVariants as item
use Rattle.hal_values.specs.declared.tables.ReportBase.TheVariants as named
use Rattle.hal_operations.specs.declared.operation.Op1.TheVariants as op1
use Rattle.hal_operations.specs.declared.operation.Op2.TheVariants as op2
use Rattle.exec_model.specs.declared.script.ScriptLine.TheVariants as line
use Rattle.hal_code.specs.declared.choice.Choice.TheVariants as choice
use Rattle.hal_code.specs.declared.image.ImageParts.{ImageParts}
use Rattle.hal_code.specs.declared.instr.Instr.TheVariants as instr
use Rattle.hal_code.specs.declared.operand.Time.TheVariants as time
use Rattle.hal_code.specs.declared.operand.Start.TheVariants as start
use Rattle.hal_code.specs.declared.operand.Round.TheVariants as round
use Rattle.hal_code.specs.declared.operand.Limit.TheVariants as limit
use Rattle.hal_code.specs.declared.operand.Delay.TheVariants as delay
use Rattle.hal_code.specs.declared.operand.Places.TheVariants as places
use Rattle.hal_code.specs.declared.operand.Response.TheVariants as response
use Rattle.hal_code.specs.declared.operand.EventChange.TheVariants as change
use Rattle.hal_code.specs.declared.row.Base.TheVariants as base
use Rattle.hal_code.specs.declared.row.OwnPlace.TheVariants as place
use Rattle.hal_code.specs.declared.row.ResultKind.TheVariants as result
use Rattle.hal_code.specs.declared.row.Target.TheVariants as target
use Rattle.hal_code.specs.Right.{first_failure}
use Rattle.code_rows.specs.Playing.{reported}
use Rattle.hal_states.specs.OfKinds as states_ofkinds

-- a gap between blocks
abbrev row1 : ImageParts
row1 = record { cells = []; events = []; common = []; processes = ((record { name = codes "P"; block = 0; places = [] }) ∷ []); shapes = []; views = []; expressions = []; blocks = ((record { process = 0; first = 0; end = 2; result = (choice.Known result.Nothing) }) ∷ (record { process = 0; first = 3; end = 4; result = (choice.Known result.Nothing) }) ∷ []); names = []; code = ((instr.Begin) ∷ (instr.Finish) ∷ (instr.Return) ∷ (instr.Return) ∷ []); first = 0 }

abbrev Says1 : Type 0
Says1 = (first_failure row1 ≡ (Some 4))

-- an empty block
abbrev row2 : ImageParts
row2 = record { cells = []; events = []; common = []; processes = ((record { name = codes "P"; block = 0; places = [] }) ∷ []); shapes = []; views = []; expressions = []; blocks = ((record { process = 0; first = 0; end = 2; result = (choice.Known result.Nothing) }) ∷ (record { process = 0; first = 2; end = 2; result = (choice.Known result.Nothing) }) ∷ []); names = []; code = ((instr.Begin) ∷ (instr.Finish) ∷ []); first = 0 }

abbrev Says2 : Type 0
Says2 = (first_failure row2 ≡ (Some 2))

-- a block of a process that is not there
abbrev row3 : ImageParts
row3 = record { cells = []; events = []; common = []; processes = ((record { name = codes "P"; block = 0; places = [] }) ∷ []); shapes = []; views = []; expressions = []; blocks = ((record { process = 0; first = 0; end = 2; result = (choice.Known result.Nothing) }) ∷ (record { process = 7; first = 2; end = 3; result = (choice.Known result.Nothing) }) ∷ []); names = []; code = ((instr.Begin) ∷ (instr.Finish) ∷ (instr.Return) ∷ []); first = 0 }

abbrev Says3 : Type 0
Says3 = (first_failure row3 ≡ (Some 3))

-- a byte that is no result
abbrev row4 : ImageParts
row4 = record { cells = []; events = []; common = []; processes = ((record { name = codes "P"; block = 0; places = [] }) ∷ []); shapes = []; views = []; expressions = []; blocks = ((record { process = 0; first = 0; end = 2; result = (choice.Known result.Nothing) }) ∷ (record { process = 0; first = 2; end = 3; result = (choice.Other 4) }) ∷ []); names = []; code = ((instr.Begin) ∷ (instr.Finish) ∷ (instr.Return) ∷ []); first = 0 }

abbrev Says4 : Type 0
Says4 = (first_failure row4 ≡ (Some 3))

-- where a row of blocks is wrong no instruction is looked at
abbrev row5 : ImageParts
row5 = record { cells = []; events = []; common = []; processes = ((record { name = codes "P"; block = 0; places = [] }) ∷ []); shapes = []; views = []; expressions = []; blocks = ((record { process = 0; first = 0; end = 2; result = (choice.Known result.Nothing) }) ∷ []); names = []; code = ((instr.Begin) ∷ (instr.Raise 0 0) ∷ (instr.Finish) ∷ []); first = 0 }

abbrev Says5 : Type 0
Says5 = (first_failure row5 ≡ (Some 3))

-- a process with the block of another
abbrev row6 : ImageParts
row6 = record { cells = []; events = []; common = []; processes = ((record { name = codes "P"; block = 0; places = [] }) ∷ (record { name = codes "Q"; block = 0; places = [] }) ∷ []); shapes = []; views = []; expressions = []; blocks = ((record { process = 0; first = 0; end = 2; result = (choice.Known result.Nothing) }) ∷ []); names = []; code = ((instr.Begin) ∷ (instr.Finish) ∷ []); first = 0 }

abbrev Says6 : Type 0
Says6 = (first_failure row6 ≡ (Some 2))

-- no process
abbrev row7 : ImageParts
row7 = record { cells = []; events = []; common = []; processes = []; shapes = []; views = []; expressions = []; blocks = ((record { process = 255; first = 0; end = 1; result = (choice.Known result.Nothing) }) ∷ []); names = []; code = ((instr.Return) ∷ []); first = 0 }

abbrev Says7 : Type 0
Says7 = (first_failure row7 ≡ (Some 1))

-- a first process that is not there
abbrev row8 : ImageParts
row8 = record { cells = []; events = []; common = []; processes = ((record { name = codes "P"; block = 0; places = [] }) ∷ []); shapes = []; views = []; expressions = []; blocks = ((record { process = 0; first = 0; end = 2; result = (choice.Known result.Nothing) }) ∷ []); names = []; code = ((instr.Begin) ∷ (instr.Finish) ∷ []); first = 1 }

abbrev Says8 : Type 0
Says8 = (first_failure row8 ≡ (Some 2))

-- a byte that is no start of an event
abbrev row9 : ImageParts
row9 = record { cells = []; events = ((choice.Other 3) ∷ []); common = []; processes = ((record { name = codes "P"; block = 0; places = [] }) ∷ []); shapes = []; views = []; expressions = []; blocks = ((record { process = 0; first = 0; end = 2; result = (choice.Known result.Nothing) }) ∷ []); names = []; code = ((instr.Begin) ∷ (instr.Finish) ∷ []); first = 0 }

abbrev Says9 : Type 0
Says9 = (first_failure row9 ≡ (Some 2))

-- an initial value of another kind
abbrev row10 : ImageParts
row10 = record { cells = ((record { repeat = 1; row = (record { kind = kind.Single; group = 0; initial = (value.Text (codes "A")) }) }) ∷ []); events = []; common = []; processes = ((record { name = codes "P"; block = 0; places = [] }) ∷ []); shapes = []; views = []; expressions = []; blocks = ((record { process = 0; first = 0; end = 2; result = (choice.Known result.Nothing) }) ∷ []); names = []; code = ((instr.Begin) ∷ (instr.Finish) ∷ []); first = 0 }

abbrev Says10 : Type 0
Says10 = (first_failure row10 ≡ (Some 2))

-- an initial value out of range
abbrev row11 : ImageParts
row11 = record { cells = ((record { repeat = 1; row = (record { kind = kind.Single; group = 0; initial = (value.Int (pos 32768)) }) }) ∷ []); events = []; common = []; processes = ((record { name = codes "P"; block = 0; places = [] }) ∷ []); shapes = []; views = []; expressions = []; blocks = ((record { process = 0; first = 0; end = 2; result = (choice.Known result.Nothing) }) ∷ []); names = []; code = ((instr.Begin) ∷ (instr.Finish) ∷ []); first = 0 }

abbrev Says11 : Type 0
Says11 = (first_failure row11 ≡ (Some 2))

-- a text of 256 bytes
abbrev row12 : ImageParts
row12 = record { cells = []; events = []; common = []; processes = ((record { name = codes "P"; block = 0; places = ((record { repeat = 1; row = (place.Data (kind.Text 256) (value.Text (codes ""))) }) ∷ []) }) ∷ []); shapes = []; views = []; expressions = []; blocks = ((record { process = 0; first = 0; end = 2; result = (choice.Known result.Nothing) }) ∷ []); names = []; code = ((instr.Begin) ∷ (instr.Finish) ∷ []); first = 0 }

abbrev Says12 : Type 0
Says12 = (first_failure row12 ≡ (Some 2))

-- lock group 16
abbrev row13 : ImageParts
row13 = record { cells = ((record { repeat = 1; row = (record { kind = kind.Single; group = 16; initial = (value.Int (pos 0)) }) }) ∷ []); events = []; common = []; processes = ((record { name = codes "P"; block = 0; places = [] }) ∷ []); shapes = []; views = []; expressions = []; blocks = ((record { process = 0; first = 0; end = 2; result = (choice.Known result.Nothing) }) ∷ []); names = []; code = ((instr.Begin) ∷ (instr.Finish) ∷ []); first = 0 }

abbrev Says13 : Type 0
Says13 = (first_failure row13 ≡ (Some 2))

-- 65,537 cells
abbrev row14 : ImageParts
row14 = record { cells = ((record { repeat = 65535; row = (record { kind = kind.Single; group = 0; initial = (value.Int (pos 0)) }) }) ∷ []); events = []; common = ((record { repeat = 1; row = (place.Data kind.Single (value.Int (pos 0))) }) ∷ []); processes = ((record { name = codes "P"; block = 0; places = ((record { repeat = 1; row = (place.Data kind.Single (value.Int (pos 0))) }) ∷ []) }) ∷ []); shapes = []; views = []; expressions = []; blocks = ((record { process = 0; first = 0; end = 2; result = (choice.Known result.Nothing) }) ∷ []); names = []; code = ((instr.Begin) ∷ (instr.Finish) ∷ []); first = 0 }

abbrev Says14 : Type 0
Says14 = (first_failure row14 ≡ (Some 2))

-- a reference to a shape that is not there
abbrev row15 : ImageParts
row15 = record { cells = []; events = []; common = []; processes = ((record { name = codes "P"; block = 0; places = ((record { repeat = 1; row = (place.Reference 0) }) ∷ []) }) ∷ []); shapes = []; views = []; expressions = []; blocks = ((record { process = 0; first = 0; end = 2; result = (choice.Known result.Nothing) }) ∷ []); names = []; code = ((instr.Begin) ∷ (instr.Finish) ∷ []); first = 0 }

abbrev Says15 : Type 0
Says15 = (first_failure row15 ≡ (Some 2))

-- a view beyond the shared cells
abbrev row16 : ImageParts
row16 = record { cells = ((record { repeat = 3; row = (record { kind = kind.Single; group = 0; initial = (value.Int (pos 0)) }) }) ∷ []); events = []; common = []; processes = ((record { name = codes "P"; block = 0; places = [] }) ∷ []); shapes = []; views = ((record { base = (base.Shared 1); dimensions = ((record { size = 3; stride = 1 }) ∷ []); target = (target.Cell kind.Single) }) ∷ []); expressions = []; blocks = ((record { process = 0; first = 0; end = 2; result = (choice.Known result.Nothing) }) ∷ []); names = []; code = ((instr.Begin) ∷ (instr.Finish) ∷ []); first = 0 }

abbrev Says16 : Type 0
Says16 = (first_failure row16 ≡ (Some 2))

-- a view to the last shared cell
abbrev row17 : ImageParts
row17 = record { cells = ((record { repeat = 3; row = (record { kind = kind.Single; group = 0; initial = (value.Int (pos 0)) }) }) ∷ []); events = []; common = []; processes = ((record { name = codes "P"; block = 0; places = [] }) ∷ []); shapes = []; views = ((record { base = (base.Shared 1); dimensions = ((record { size = 2; stride = 1 }) ∷ []); target = (target.Cell kind.Single) }) ∷ []); expressions = []; blocks = ((record { process = 0; first = 0; end = 2; result = (choice.Known result.Nothing) }) ∷ []); names = []; code = ((instr.Begin) ∷ (instr.Finish) ∷ []); first = 0 }

abbrev Says17 : Type 0
Says17 = (first_failure row17 ≡ None)

-- a view of cells of another kind
abbrev row18 : ImageParts
row18 = record { cells = ((record { repeat = 3; row = (record { kind = kind.Single; group = 0; initial = (value.Int (pos 0)) }) }) ∷ []); events = []; common = []; processes = ((record { name = codes "P"; block = 0; places = [] }) ∷ []); shapes = []; views = ((record { base = (base.Shared 1); dimensions = ((record { size = 2; stride = 1 }) ∷ []); target = (target.Cell kind.Double) }) ∷ []); expressions = []; blocks = ((record { process = 0; first = 0; end = 2; result = (choice.Known result.Nothing) }) ∷ []); names = []; code = ((instr.Begin) ∷ (instr.Finish) ∷ []); first = 0 }

abbrev Says18 : Type 0
Says18 = (first_failure row18 ≡ (Some 2))

-- a dimension of no place
abbrev row19 : ImageParts
row19 = record { cells = ((record { repeat = 3; row = (record { kind = kind.Single; group = 0; initial = (value.Int (pos 0)) }) }) ∷ []); events = []; common = []; processes = ((record { name = codes "P"; block = 0; places = [] }) ∷ []); shapes = []; views = ((record { base = (base.Shared 1); dimensions = ((record { size = 0; stride = 1 }) ∷ []); target = (target.Cell kind.Single) }) ∷ []); expressions = []; blocks = ((record { process = 0; first = 0; end = 2; result = (choice.Known result.Nothing) }) ∷ []); names = []; code = ((instr.Begin) ∷ (instr.Finish) ∷ []); first = 0 }

abbrev Says19 : Type 0
Says19 = (first_failure row19 ≡ (Some 2))

-- a byte that is no base
abbrev row20 : ImageParts
row20 = record { cells = ((record { repeat = 1; row = (record { kind = kind.Single; group = 0; initial = (value.Int (pos 0)) }) }) ∷ []); events = []; common = []; processes = ((record { name = codes "P"; block = 0; places = [] }) ∷ []); shapes = []; views = ((record { base = (base.Other 3 0); dimensions = []; target = (target.Cell kind.Single) }) ∷ []); expressions = []; blocks = ((record { process = 0; first = 0; end = 2; result = (choice.Known result.Nothing) }) ∷ []); names = []; code = ((instr.Begin) ∷ (instr.Finish) ∷ []); first = 0 }

abbrev Says20 : Type 0
Says20 = (first_failure row20 ≡ (Some 2))

-- a view through a place that holds values
abbrev row21 : ImageParts
row21 = record { cells = []; events = []; common = []; processes = ((record { name = codes "P"; block = 0; places = ((record { repeat = 1; row = (place.Data kind.Single (value.Int (pos 0))) }) ∷ []) }) ∷ []); shapes = (((record { repeat = 1; row = kind.Single }) ∷ []) ∷ []); views = ((record { base = (base.Through 0 0); dimensions = []; target = (target.Cell kind.Single) }) ∷ []); expressions = []; blocks = ((record { process = 0; first = 0; end = 2; result = (choice.Known result.Nothing) }) ∷ []); names = []; code = ((instr.Begin) ∷ (instr.Finish) ∷ []); first = 0 }

abbrev Says21 : Type 0
Says21 = (first_failure row21 ≡ (Some 2))

-- a view that fits no process
abbrev row22 : ImageParts
row22 = record { cells = []; events = []; common = []; processes = ((record { name = codes "P"; block = 0; places = ((record { repeat = 1; row = (place.Data kind.Single (value.Int (pos 0))) }) ∷ []) }) ∷ []); shapes = []; views = ((record { base = (base.Own 1); dimensions = []; target = (target.Cell kind.Single) }) ∷ []); expressions = []; blocks = ((record { process = 0; first = 0; end = 2; result = (choice.Known result.Nothing) }) ∷ []); names = []; code = ((instr.Begin) ∷ (instr.Finish) ∷ []); first = 0 }

abbrev Says22 : Type 0
Says22 = (first_failure row22 ≡ (Some 2))

-- a view that fits another process than the one that names it
abbrev row23 : ImageParts
row23 = record { cells = []; events = []; common = []; processes = ((record { name = codes "P"; block = 0; places = ((record { repeat = 1; row = (place.Data kind.Single (value.Int (pos 0))) }) ∷ []) }) ∷ (record { name = codes "Q"; block = 1; places = [] }) ∷ []); shapes = []; views = ((record { base = (base.Own 0); dimensions = []; target = (target.Cell kind.Single) }) ∷ []); expressions = []; blocks = ((record { process = 0; first = 0; end = 2; result = (choice.Known result.Nothing) }) ∷ (record { process = 1; first = 2; end = 6; result = (choice.Known result.Nothing) }) ∷ []); names = []; code = ((instr.Begin) ∷ (instr.Finish) ∷ (instr.Begin) ∷ (instr.Cell 0) ∷ (instr.Fetch) ∷ (instr.Finish) ∷ []); first = 0 }

abbrev Says23 : Type 0
Says23 = (first_failure row23 ≡ (Some 6))

-- a view that fits the process that names it
abbrev row24 : ImageParts
row24 = record { cells = []; events = []; common = []; processes = ((record { name = codes "P"; block = 0; places = [] }) ∷ (record { name = codes "Q"; block = 1; places = ((record { repeat = 1; row = (place.Data kind.Single (value.Int (pos 0))) }) ∷ []) }) ∷ []); shapes = []; views = ((record { base = (base.Own 0); dimensions = []; target = (target.Cell kind.Single) }) ∷ []); expressions = []; blocks = ((record { process = 0; first = 0; end = 2; result = (choice.Known result.Nothing) }) ∷ (record { process = 1; first = 2; end = 6; result = (choice.Known result.Nothing) }) ∷ []); names = []; code = ((instr.Begin) ∷ (instr.Finish) ∷ (instr.Begin) ∷ (instr.Cell 0) ∷ (instr.Fetch) ∷ (instr.Finish) ∷ []); first = 0 }

abbrev Says24 : Type 0
Says24 = (first_failure row24 ≡ None)

-- views of too many cells
abbrev row25 : ImageParts
row25 = record { cells = ((record { repeat = 1; row = (record { kind = kind.Single; group = 0; initial = (value.Int (pos 0)) }) }) ∷ []); events = []; common = []; processes = ((record { name = codes "P"; block = 0; places = [] }) ∷ []); shapes = []; views = ((record { base = (base.Shared 0); dimensions = ((record { size = 1025; stride = 0 }) ∷ (record { size = 1024; stride = 0 }) ∷ []); target = (target.Cell kind.Single) }) ∷ []); expressions = []; blocks = ((record { process = 0; first = 0; end = 2; result = (choice.Known result.Nothing) }) ∷ []); names = []; code = ((instr.Begin) ∷ (instr.Finish) ∷ []); first = 0 }

abbrev Says25 : Type 0
Says25 = (first_failure row25 ≡ (Some 2))

-- shapes of too many cells
abbrev row26 : ImageParts
row26 = record { cells = []; events = []; common = []; processes = ((record { name = codes "P"; block = 0; places = [] }) ∷ []); shapes = (((record { repeat = 1048577; row = kind.Single }) ∷ []) ∷ []); views = []; expressions = []; blocks = ((record { process = 0; first = 0; end = 2; result = (choice.Known result.Nothing) }) ∷ []); names = []; code = ((instr.Begin) ∷ (instr.Finish) ∷ []); first = 0 }

abbrev Says26 : Type 0
Says26 = (first_failure row26 ≡ (Some 2))

-- an event expression with an operand too few
abbrev row27 : ImageParts
row27 = record { cells = []; events = []; common = []; processes = ((record { name = codes "P"; block = 0; places = [] }) ∷ []); shapes = []; views = []; expressions = (((item.Event 0) ∷ item.And ∷ []) ∷ []); blocks = ((record { process = 0; first = 0; end = 2; result = (choice.Known result.Nothing) }) ∷ []); names = []; code = ((instr.Begin) ∷ (instr.Finish) ∷ []); first = 0 }

abbrev Says27 : Type 0
Says27 = (first_failure row27 ≡ (Some 2))

-- an event expression that leaves two values
abbrev row28 : ImageParts
row28 = record { cells = []; events = []; common = []; processes = ((record { name = codes "P"; block = 0; places = [] }) ∷ []); shapes = []; views = []; expressions = (((item.Event 0) ∷ (item.Event 0) ∷ []) ∷ []); blocks = ((record { process = 0; first = 0; end = 2; result = (choice.Known result.Nothing) }) ∷ []); names = []; code = ((instr.Begin) ∷ (instr.Finish) ∷ []); first = 0 }

abbrev Says28 : Type 0
Says28 = (first_failure row28 ≡ (Some 2))

-- an event expression
abbrev row29 : ImageParts
row29 = record { cells = []; events = []; common = []; processes = ((record { name = codes "P"; block = 0; places = [] }) ∷ []); shapes = []; views = []; expressions = (((item.Event 0) ∷ (item.Event 0) ∷ item.Not ∷ item.Or ∷ []) ∷ []); blocks = ((record { process = 0; first = 0; end = 2; result = (choice.Known result.Nothing) }) ∷ []); names = []; code = ((instr.Begin) ∷ (instr.Finish) ∷ []); first = 0 }

abbrev Says29 : Type 0
Says29 = (first_failure row29 ≡ None)

-- a report name behind the last cell
abbrev row30 : ImageParts
row30 = record { cells = ((record { repeat = 1; row = (record { kind = kind.Single; group = 0; initial = (value.Int (pos 0)) }) }) ∷ []); events = []; common = []; processes = ((record { name = codes "P"; block = 0; places = [] }) ∷ []); shapes = []; views = []; expressions = []; blocks = ((record { process = 0; first = 0; end = 2; result = (choice.Known result.Nothing) }) ∷ []); names = ((record { name = codes "N"; base = named.Shared; first = 1; copies = 0; stride = 0; dimensions = [] }) ∷ []); code = ((instr.Begin) ∷ (instr.Finish) ∷ []); first = 0 }

abbrev Says30 : Type 0
Says30 = (first_failure row30 ≡ (Some 2))

-- a report name of a place that refers
abbrev row31 : ImageParts
row31 = record { cells = []; events = []; common = []; processes = ((record { name = codes "P"; block = 0; places = ((record { repeat = 1; row = (place.Reference 0) }) ∷ []) }) ∷ []); shapes = (((record { repeat = 1; row = kind.Single }) ∷ []) ∷ []); views = []; expressions = []; blocks = ((record { process = 0; first = 0; end = 2; result = (choice.Known result.Nothing) }) ∷ []); names = ((record { name = codes "N"; base = named.Own 0; first = 0; copies = 0; stride = 0; dimensions = [] }) ∷ []); code = ((instr.Begin) ∷ (instr.Finish) ∷ []); first = 0 }

abbrev Says31 : Type 0
Says31 = (first_failure row31 ≡ (Some 2))

-- a report name of copies
abbrev row32 : ImageParts
row32 = record { cells = ((record { repeat = 6; row = (record { kind = kind.Single; group = 0; initial = (value.Int (pos 0)) }) }) ∷ []); events = []; common = []; processes = ((record { name = codes "P"; block = 0; places = [] }) ∷ []); shapes = []; views = []; expressions = []; blocks = ((record { process = 0; first = 0; end = 2; result = (choice.Known result.Nothing) }) ∷ []); names = ((record { name = codes "N"; base = named.Shared; first = 1; copies = 2; stride = 3; dimensions = (2 ∷ []) }) ∷ []); code = ((instr.Begin) ∷ (instr.Finish) ∷ []); first = 0 }

abbrev Says32 : Type 0
Says32 = (first_failure row32 ≡ None)

-- a report name of copies that goes beyond
abbrev row33 : ImageParts
row33 = record { cells = ((record { repeat = 5; row = (record { kind = kind.Single; group = 0; initial = (value.Int (pos 0)) }) }) ∷ []); events = []; common = []; processes = ((record { name = codes "P"; block = 0; places = [] }) ∷ []); shapes = []; views = []; expressions = []; blocks = ((record { process = 0; first = 0; end = 2; result = (choice.Known result.Nothing) }) ∷ []); names = ((record { name = codes "N"; base = named.Shared; first = 1; copies = 2; stride = 3; dimensions = (2 ∷ []) }) ∷ []); code = ((instr.Begin) ∷ (instr.Finish) ∷ []); first = 0 }

abbrev Says33 : Type 0
Says33 = (first_failure row33 ≡ (Some 2))

-- report names of too many lines
abbrev row34 : ImageParts
row34 = record { cells = ((record { repeat = 1; row = (record { kind = kind.Single; group = 0; initial = (value.Int (pos 0)) }) }) ∷ []); events = []; common = []; processes = ((record { name = codes "P"; block = 0; places = [] }) ∷ []); shapes = []; views = []; expressions = []; blocks = ((record { process = 0; first = 0; end = 2; result = (choice.Known result.Nothing) }) ∷ []); names = ((record { name = codes "N"; base = named.Shared; first = 0; copies = 1048577; stride = 0; dimensions = [] }) ∷ []); code = ((instr.Begin) ∷ (instr.Finish) ∷ []); first = 0 }

abbrev Says34 : Type 0
Says34 = (first_failure row34 ≡ (Some 2))

-- an instruction comes before a row
abbrev row35 : ImageParts
row35 = record { cells = []; events = []; common = []; processes = ((record { name = codes "P"; block = 0; places = ((record { repeat = 1; row = (place.Reference 0) }) ∷ []) }) ∷ []); shapes = []; views = []; expressions = []; blocks = ((record { process = 0; first = 0; end = 3; result = (choice.Known result.Nothing) }) ∷ []); names = []; code = ((instr.Begin) ∷ (instr.Raise 0 1) ∷ (instr.Finish) ∷ []); first = 0 }

abbrev Says35 : Type 0
Says35 = (first_failure row35 ≡ (Some 1))

pub all_say : Says1 × Says2 × Says3 × Says4 × Says5 × Says6 × Says7 × Says8 × Says9 × Says10 × Says11 × Says12 × Says13 × Says14 × Says15 × Says16 × Says17 × Says18 × Says19 × Says20 × Says21 × Says22 × Says23 × Says24 × Says25 × Says26 × Says27 × Says28 × Says29 × Says30 × Says31 × Says32 × Says33 × Says34 × Says35
unfolding digits states_ofkinds.is_of
all_say = (refl, refl, refl, refl, refl, refl, refl, refl, refl, refl, refl, refl, refl, refl, refl, refl, refl, refl, refl, refl, refl, refl, refl, refl, refl, refl, refl, refl, refl, refl, refl, refl, refl, refl, refl)
