-- Rows of wrong_instructions.txt, written by tools/code_rows.
use Rattle.std.specs.Prelude.{◌≡◌, ℕ, List, [], ◌∷◌, Some, None, pos, negsuc, true, false, codes}
use Rattle.std.specs.Fmt.{digits}
use Rattle.std.proofs.Common.{refl}
use Rattle.hal_values.specs.declared.value.Kind.TheVariants as kind
use Rattle.hal_values.specs.declared.value.Value.TheVariants as value
use Rattle.hal_values.specs.declared.tables.EventStart.TheVariants as begins
use Rattle.hal_values.specs.declared.tables.Item.TheVariants as item
use Rattle.hal_values.specs.declared.tables.ReportBase.TheVariants as named
use Rattle.hal_operations.specs.declared.operation.Op1.TheVariants as op1
use Rattle.hal_operations.specs.declared.operation.Op2.TheVariants as op2
use Rattle.exec_model.specs.declared.script.ScriptLine.TheVariants as line
use Rattle.hal_code.specs.declared.choice.Choice.TheVariants as choice
use Rattle.hal_code.specs.declared.image.ImageParts.{ImageParts}
use Rattle.hal_code.specs.declared.instr.Instr.TheVariants as instr
use Rattle.hal_code.specs.declared.operand.Time.TheVariants as time
use Rattle.hal_code.specs.declared.operand.Start.TheVariants as start
use Rattle.hal_code.specs.declared.operand.Round.TheVariants as round
use Rattle.hal_code.specs.declared.operand.Limit.TheVariants as limit
use Rattle.hal_code.specs.declared.operand.Delay.TheVariants as delay
use Rattle.hal_code.specs.declared.operand.Places.TheVariants as places
use Rattle.hal_code.specs.declared.operand.Response.TheVariants as response
use Rattle.hal_code.specs.declared.operand.EventChange.TheVariants as change
use Rattle.hal_code.specs.declared.row.Base.TheVariants as base
use Rattle.hal_code.specs.declared.row.OwnPlace.TheVariants as place
use Rattle.hal_code.specs.declared.row.ResultKind.TheVariants as result
use Rattle.hal_code.specs.declared.row.Target.TheVariants as target
use Rattle.hal_code.specs.Right.{first_failure}
use Rattle.code_rows.specs.Playing.{reported}
use Rattle.hal_states.specs.OfKinds as states_ofkinds

-- a string of 33 bits
abbrev row1 : ImageParts
row1 = record { cells = []; events = ((choice.Known begins.Unlatched) ∷ (choice.Known (begins.Latched false)) ∷ []); common = []; processes = ((record { name = codes "P"; block = 0; places = ((record { repeat = 1; row = (place.Data kind.Single (value.Int (pos 1))) }) ∷ (record { repeat = 1; row = (place.Data (kind.Text 3) (value.Text (codes ""))) }) ∷ (record { repeat = 1; row = (place.Reference 0) }) ∷ []) }) ∷ []); shapes = (((record { repeat = 1; row = kind.Single }) ∷ (record { repeat = 1; row = (kind.Text 3) }) ∷ []) ∷ []); views = ((record { base = (base.Own 0); dimensions = []; target = (target.Cell kind.Single) }) ∷ (record { base = (base.Own 1); dimensions = []; target = (target.Cell (kind.Text 3)) }) ∷ (record { base = (base.Own 0); dimensions = []; target = (target.Shape 0) }) ∷ (record { base = (base.Through 2 1); dimensions = []; target = (target.Cell (kind.Text 3)) }) ∷ []); expressions = []; blocks = ((record { process = 0; first = 0; end = 4; result = (choice.Known result.Nothing) }) ∷ []); names = []; code = ((instr.Begin) ∷ (instr.Bits 33 0) ∷ (instr.Drop) ∷ (instr.Finish) ∷ []); first = 0 }

abbrev Says1 : Type 0
Says1 = (first_failure row1 ≡ (Some 1))

-- a string of no bit
abbrev row2 : ImageParts
row2 = record { cells = []; events = ((choice.Known begins.Unlatched) ∷ (choice.Known (begins.Latched false)) ∷ []); common = []; processes = ((record { name = codes "P"; block = 0; places = ((record { repeat = 1; row = (place.Data kind.Single (value.Int (pos 1))) }) ∷ (record { repeat = 1; row = (place.Data (kind.Text 3) (value.Text (codes ""))) }) ∷ (record { repeat = 1; row = (place.Reference 0) }) ∷ []) }) ∷ []); shapes = (((record { repeat = 1; row = kind.Single }) ∷ (record { repeat = 1; row = (kind.Text 3) }) ∷ []) ∷ []); views = ((record { base = (base.Own 0); dimensions = []; target = (target.Cell kind.Single) }) ∷ (record { base = (base.Own 1); dimensions = []; target = (target.Cell (kind.Text 3)) }) ∷ (record { base = (base.Own 0); dimensions = []; target = (target.Shape 0) }) ∷ (record { base = (base.Through 2 1); dimensions = []; target = (target.Cell (kind.Text 3)) }) ∷ []); expressions = []; blocks = ((record { process = 0; first = 0; end = 4; result = (choice.Known result.Nothing) }) ∷ []); names = []; code = ((instr.Begin) ∷ (instr.Bits 0 0) ∷ (instr.Drop) ∷ (instr.Finish) ∷ []); first = 0 }

abbrev Says2 : Type 0
Says2 = (first_failure row2 ≡ (Some 1))

-- a word beyond its length
abbrev row3 : ImageParts
row3 = record { cells = []; events = ((choice.Known begins.Unlatched) ∷ (choice.Known (begins.Latched false)) ∷ []); common = []; processes = ((record { name = codes "P"; block = 0; places = ((record { repeat = 1; row = (place.Data kind.Single (value.Int (pos 1))) }) ∷ (record { repeat = 1; row = (place.Data (kind.Text 3) (value.Text (codes ""))) }) ∷ (record { repeat = 1; row = (place.Reference 0) }) ∷ []) }) ∷ []); shapes = (((record { repeat = 1; row = kind.Single }) ∷ (record { repeat = 1; row = (kind.Text 3) }) ∷ []) ∷ []); views = ((record { base = (base.Own 0); dimensions = []; target = (target.Cell kind.Single) }) ∷ (record { base = (base.Own 1); dimensions = []; target = (target.Cell (kind.Text 3)) }) ∷ (record { base = (base.Own 0); dimensions = []; target = (target.Shape 0) }) ∷ (record { base = (base.Through 2 1); dimensions = []; target = (target.Cell (kind.Text 3)) }) ∷ []); expressions = []; blocks = ((record { process = 0; first = 0; end = 4; result = (choice.Known result.Nothing) }) ∷ []); names = []; code = ((instr.Begin) ∷ (instr.Bits 3 8) ∷ (instr.Drop) ∷ (instr.Finish) ∷ []); first = 0 }

abbrev Says3 : Type 0
Says3 = (first_failure row3 ≡ (Some 1))

-- a view that is not there
abbrev row4 : ImageParts
row4 = record { cells = []; events = ((choice.Known begins.Unlatched) ∷ (choice.Known (begins.Latched false)) ∷ []); common = []; processes = ((record { name = codes "P"; block = 0; places = ((record { repeat = 1; row = (place.Data kind.Single (value.Int (pos 1))) }) ∷ (record { repeat = 1; row = (place.Data (kind.Text 3) (value.Text (codes ""))) }) ∷ (record { repeat = 1; row = (place.Reference 0) }) ∷ []) }) ∷ []); shapes = (((record { repeat = 1; row = kind.Single }) ∷ (record { repeat = 1; row = (kind.Text 3) }) ∷ []) ∷ []); views = ((record { base = (base.Own 0); dimensions = []; target = (target.Cell kind.Single) }) ∷ (record { base = (base.Own 1); dimensions = []; target = (target.Cell (kind.Text 3)) }) ∷ (record { base = (base.Own 0); dimensions = []; target = (target.Shape 0) }) ∷ (record { base = (base.Through 2 1); dimensions = []; target = (target.Cell (kind.Text 3)) }) ∷ []); expressions = []; blocks = ((record { process = 0; first = 0; end = 5; result = (choice.Known result.Nothing) }) ∷ []); names = []; code = ((instr.Begin) ∷ (instr.Cell 9) ∷ (instr.Fetch) ∷ (instr.Drop) ∷ (instr.Finish) ∷ []); first = 0 }

abbrev Says4 : Type 0
Says4 = (first_failure row4 ≡ (Some 1))

-- CELL by a view of a shape
abbrev row5 : ImageParts
row5 = record { cells = []; events = ((choice.Known begins.Unlatched) ∷ (choice.Known (begins.Latched false)) ∷ []); common = []; processes = ((record { name = codes "P"; block = 0; places = ((record { repeat = 1; row = (place.Data kind.Single (value.Int (pos 1))) }) ∷ (record { repeat = 1; row = (place.Data (kind.Text 3) (value.Text (codes ""))) }) ∷ (record { repeat = 1; row = (place.Reference 0) }) ∷ []) }) ∷ []); shapes = (((record { repeat = 1; row = kind.Single }) ∷ (record { repeat = 1; row = (kind.Text 3) }) ∷ []) ∷ []); views = ((record { base = (base.Own 0); dimensions = []; target = (target.Cell kind.Single) }) ∷ (record { base = (base.Own 1); dimensions = []; target = (target.Cell (kind.Text 3)) }) ∷ (record { base = (base.Own 0); dimensions = []; target = (target.Shape 0) }) ∷ (record { base = (base.Through 2 1); dimensions = []; target = (target.Cell (kind.Text 3)) }) ∷ []); expressions = []; blocks = ((record { process = 0; first = 0; end = 5; result = (choice.Known result.Nothing) }) ∷ []); names = []; code = ((instr.Begin) ∷ (instr.Cell 2) ∷ (instr.Fetch) ∷ (instr.Drop) ∷ (instr.Finish) ∷ []); first = 0 }

abbrev Says5 : Type 0
Says5 = (first_failure row5 ≡ (Some 1))

-- WHOLE by a view of a cell
abbrev row6 : ImageParts
row6 = record { cells = []; events = ((choice.Known begins.Unlatched) ∷ (choice.Known (begins.Latched false)) ∷ []); common = []; processes = ((record { name = codes "P"; block = 0; places = ((record { repeat = 1; row = (place.Data kind.Single (value.Int (pos 1))) }) ∷ (record { repeat = 1; row = (place.Data (kind.Text 3) (value.Text (codes ""))) }) ∷ (record { repeat = 1; row = (place.Reference 0) }) ∷ []) }) ∷ []); shapes = (((record { repeat = 1; row = kind.Single }) ∷ (record { repeat = 1; row = (kind.Text 3) }) ∷ []) ∷ []); views = ((record { base = (base.Own 0); dimensions = []; target = (target.Cell kind.Single) }) ∷ (record { base = (base.Own 1); dimensions = []; target = (target.Cell (kind.Text 3)) }) ∷ (record { base = (base.Own 0); dimensions = []; target = (target.Shape 0) }) ∷ (record { base = (base.Through 2 1); dimensions = []; target = (target.Cell (kind.Text 3)) }) ∷ []); expressions = []; blocks = ((record { process = 0; first = 0; end = 4; result = (choice.Known result.Nothing) }) ∷ []); names = []; code = ((instr.Begin) ∷ (instr.Whole 0) ∷ (instr.Bind 2) ∷ (instr.Finish) ∷ []); first = 0 }

abbrev Says6 : Type 0
Says6 = (first_failure row6 ≡ (Some 1))

-- an event that is not there
abbrev row7 : ImageParts
row7 = record { cells = []; events = ((choice.Known begins.Unlatched) ∷ (choice.Known (begins.Latched false)) ∷ []); common = []; processes = ((record { name = codes "P"; block = 0; places = ((record { repeat = 1; row = (place.Data kind.Single (value.Int (pos 1))) }) ∷ (record { repeat = 1; row = (place.Data (kind.Text 3) (value.Text (codes ""))) }) ∷ (record { repeat = 1; row = (place.Reference 0) }) ∷ []) }) ∷ []); shapes = (((record { repeat = 1; row = kind.Single }) ∷ (record { repeat = 1; row = (kind.Text 3) }) ∷ []) ∷ []); views = ((record { base = (base.Own 0); dimensions = []; target = (target.Cell kind.Single) }) ∷ (record { base = (base.Own 1); dimensions = []; target = (target.Cell (kind.Text 3)) }) ∷ (record { base = (base.Own 0); dimensions = []; target = (target.Shape 0) }) ∷ (record { base = (base.Through 2 1); dimensions = []; target = (target.Cell (kind.Text 3)) }) ∷ []); expressions = []; blocks = ((record { process = 0; first = 0; end = 4; result = (choice.Known result.Nothing) }) ∷ []); names = []; code = ((instr.Begin) ∷ (instr.Event 3) ∷ (instr.Drop) ∷ (instr.Finish) ∷ []); first = 0 }

abbrev Says7 : Type 0
Says7 = (first_failure row7 ≡ (Some 1))

-- an event that is there
abbrev row8 : ImageParts
row8 = record { cells = []; events = ((choice.Known begins.Unlatched) ∷ (choice.Known (begins.Latched false)) ∷ []); common = []; processes = ((record { name = codes "P"; block = 0; places = ((record { repeat = 1; row = (place.Data kind.Single (value.Int (pos 1))) }) ∷ (record { repeat = 1; row = (place.Data (kind.Text 3) (value.Text (codes ""))) }) ∷ (record { repeat = 1; row = (place.Reference 0) }) ∷ []) }) ∷ []); shapes = (((record { repeat = 1; row = kind.Single }) ∷ (record { repeat = 1; row = (kind.Text 3) }) ∷ []) ∷ []); views = ((record { base = (base.Own 0); dimensions = []; target = (target.Cell kind.Single) }) ∷ (record { base = (base.Own 1); dimensions = []; target = (target.Cell (kind.Text 3)) }) ∷ (record { base = (base.Own 0); dimensions = []; target = (target.Shape 0) }) ∷ (record { base = (base.Through 2 1); dimensions = []; target = (target.Cell (kind.Text 3)) }) ∷ []); expressions = []; blocks = ((record { process = 0; first = 0; end = 4; result = (choice.Known result.Nothing) }) ∷ []); names = []; code = ((instr.Begin) ∷ (instr.Event 2) ∷ (instr.Drop) ∷ (instr.Finish) ∷ []); first = 0 }

abbrev Says8 : Type 0
Says8 = (first_failure row8 ≡ None)

-- a byte that is no operation
abbrev row9 : ImageParts
row9 = record { cells = []; events = ((choice.Known begins.Unlatched) ∷ (choice.Known (begins.Latched false)) ∷ []); common = []; processes = ((record { name = codes "P"; block = 0; places = ((record { repeat = 1; row = (place.Data kind.Single (value.Int (pos 1))) }) ∷ (record { repeat = 1; row = (place.Data (kind.Text 3) (value.Text (codes ""))) }) ∷ (record { repeat = 1; row = (place.Reference 0) }) ∷ []) }) ∷ []); shapes = (((record { repeat = 1; row = kind.Single }) ∷ (record { repeat = 1; row = (kind.Text 3) }) ∷ []) ∷ []); views = ((record { base = (base.Own 0); dimensions = []; target = (target.Cell kind.Single) }) ∷ (record { base = (base.Own 1); dimensions = []; target = (target.Cell (kind.Text 3)) }) ∷ (record { base = (base.Own 0); dimensions = []; target = (target.Shape 0) }) ∷ (record { base = (base.Through 2 1); dimensions = []; target = (target.Cell (kind.Text 3)) }) ∷ []); expressions = []; blocks = ((record { process = 0; first = 0; end = 5; result = (choice.Known result.Nothing) }) ∷ []); names = []; code = ((instr.Begin) ∷ (instr.Int (pos 1)) ∷ (instr.Op1 (choice.Other 10)) ∷ (instr.Drop) ∷ (instr.Finish) ∷ []); first = 0 }

abbrev Says9 : Type 0
Says9 = (first_failure row9 ≡ (Some 2))

-- a byte that is no operation of two
abbrev row10 : ImageParts
row10 = record { cells = []; events = ((choice.Known begins.Unlatched) ∷ (choice.Known (begins.Latched false)) ∷ []); common = []; processes = ((record { name = codes "P"; block = 0; places = ((record { repeat = 1; row = (place.Data kind.Single (value.Int (pos 1))) }) ∷ (record { repeat = 1; row = (place.Data (kind.Text 3) (value.Text (codes ""))) }) ∷ (record { repeat = 1; row = (place.Reference 0) }) ∷ []) }) ∷ []); shapes = (((record { repeat = 1; row = kind.Single }) ∷ (record { repeat = 1; row = (kind.Text 3) }) ∷ []) ∷ []); views = ((record { base = (base.Own 0); dimensions = []; target = (target.Cell kind.Single) }) ∷ (record { base = (base.Own 1); dimensions = []; target = (target.Cell (kind.Text 3)) }) ∷ (record { base = (base.Own 0); dimensions = []; target = (target.Shape 0) }) ∷ (record { base = (base.Through 2 1); dimensions = []; target = (target.Cell (kind.Text 3)) }) ∷ []); expressions = []; blocks = ((record { process = 0; first = 0; end = 6; result = (choice.Known result.Nothing) }) ∷ []); names = []; code = ((instr.Begin) ∷ (instr.Int (pos 1)) ∷ (instr.Int (pos 1)) ∷ (instr.Op2 (choice.Other 22)) ∷ (instr.Drop) ∷ (instr.Finish) ∷ []); first = 0 }

abbrev Says10 : Type 0
Says10 = (first_failure row10 ≡ (Some 3))

-- a byte that chooses no places
abbrev row11 : ImageParts
row11 = record { cells = []; events = ((choice.Known begins.Unlatched) ∷ (choice.Known (begins.Latched false)) ∷ []); common = []; processes = ((record { name = codes "P"; block = 0; places = ((record { repeat = 1; row = (place.Data kind.Single (value.Int (pos 1))) }) ∷ (record { repeat = 1; row = (place.Data (kind.Text 3) (value.Text (codes ""))) }) ∷ (record { repeat = 1; row = (place.Reference 0) }) ∷ []) }) ∷ []); shapes = (((record { repeat = 1; row = kind.Single }) ∷ (record { repeat = 1; row = (kind.Text 3) }) ∷ []) ∷ []); views = ((record { base = (base.Own 0); dimensions = []; target = (target.Cell kind.Single) }) ∷ (record { base = (base.Own 1); dimensions = []; target = (target.Cell (kind.Text 3)) }) ∷ (record { base = (base.Own 0); dimensions = []; target = (target.Shape 0) }) ∷ (record { base = (base.Through 2 1); dimensions = []; target = (target.Cell (kind.Text 3)) }) ∷ []); expressions = []; blocks = ((record { process = 0; first = 0; end = 6; result = (choice.Known result.Nothing) }) ∷ []); names = []; code = ((instr.Begin) ∷ (instr.Text (codes "A")) ∷ (instr.Int (pos 1)) ∷ (instr.Pick (choice.Other 3)) ∷ (instr.Drop) ∷ (instr.Finish) ∷ []); first = 0 }

abbrev Says11 : Type 0
Says11 = (first_failure row11 ≡ (Some 3))

-- ON of any group with a number
abbrev row12 : ImageParts
row12 = record { cells = []; events = ((choice.Known begins.Unlatched) ∷ (choice.Known (begins.Latched false)) ∷ []); common = []; processes = ((record { name = codes "P"; block = 0; places = ((record { repeat = 1; row = (place.Data kind.Single (value.Int (pos 1))) }) ∷ (record { repeat = 1; row = (place.Data (kind.Text 3) (value.Text (codes ""))) }) ∷ (record { repeat = 1; row = (place.Reference 0) }) ∷ []) }) ∷ []); shapes = (((record { repeat = 1; row = kind.Single }) ∷ (record { repeat = 1; row = (kind.Text 3) }) ∷ []) ∷ []); views = ((record { base = (base.Own 0); dimensions = []; target = (target.Cell kind.Single) }) ∷ (record { base = (base.Own 1); dimensions = []; target = (target.Cell (kind.Text 3)) }) ∷ (record { base = (base.Own 0); dimensions = []; target = (target.Shape 0) }) ∷ (record { base = (base.Through 2 1); dimensions = []; target = (target.Cell (kind.Text 3)) }) ∷ []); expressions = []; blocks = ((record { process = 0; first = 0; end = 3; result = (choice.Known result.Nothing) }) ∷ []); names = []; code = ((instr.Begin) ∷ (instr.On 0 4 (choice.Known response.Ignore) (choice.Known change.Nothing) 0 0) ∷ (instr.Finish) ∷ []); first = 0 }

abbrev Says12 : Type 0
Says12 = (first_failure row12 ≡ (Some 1))

-- ON of a group with any number
abbrev row13 : ImageParts
row13 = record { cells = []; events = ((choice.Known begins.Unlatched) ∷ (choice.Known (begins.Latched false)) ∷ []); common = []; processes = ((record { name = codes "P"; block = 0; places = ((record { repeat = 1; row = (place.Data kind.Single (value.Int (pos 1))) }) ∷ (record { repeat = 1; row = (place.Data (kind.Text 3) (value.Text (codes ""))) }) ∷ (record { repeat = 1; row = (place.Reference 0) }) ∷ []) }) ∷ []); shapes = (((record { repeat = 1; row = kind.Single }) ∷ (record { repeat = 1; row = (kind.Text 3) }) ∷ []) ∷ []); views = ((record { base = (base.Own 0); dimensions = []; target = (target.Cell kind.Single) }) ∷ (record { base = (base.Own 1); dimensions = []; target = (target.Cell (kind.Text 3)) }) ∷ (record { base = (base.Own 0); dimensions = []; target = (target.Shape 0) }) ∷ (record { base = (base.Through 2 1); dimensions = []; target = (target.Cell (kind.Text 3)) }) ∷ []); expressions = []; blocks = ((record { process = 0; first = 0; end = 3; result = (choice.Known result.Nothing) }) ∷ []); names = []; code = ((instr.Begin) ∷ (instr.On 4 0 (choice.Known response.Ignore) (choice.Known change.Nothing) 0 0) ∷ (instr.Finish) ∷ []); first = 0 }

abbrev Says13 : Type 0
Says13 = (first_failure row13 ≡ None)

-- ON with a statement and an event
abbrev row14 : ImageParts
row14 = record { cells = []; events = ((choice.Known begins.Unlatched) ∷ (choice.Known (begins.Latched false)) ∷ []); common = []; processes = ((record { name = codes "P"; block = 0; places = ((record { repeat = 1; row = (place.Data kind.Single (value.Int (pos 1))) }) ∷ (record { repeat = 1; row = (place.Data (kind.Text 3) (value.Text (codes ""))) }) ∷ (record { repeat = 1; row = (place.Reference 0) }) ∷ []) }) ∷ []); shapes = (((record { repeat = 1; row = kind.Single }) ∷ (record { repeat = 1; row = (kind.Text 3) }) ∷ []) ∷ []); views = ((record { base = (base.Own 0); dimensions = []; target = (target.Cell kind.Single) }) ∷ (record { base = (base.Own 1); dimensions = []; target = (target.Cell (kind.Text 3)) }) ∷ (record { base = (base.Own 0); dimensions = []; target = (target.Shape 0) }) ∷ (record { base = (base.Through 2 1); dimensions = []; target = (target.Cell (kind.Text 3)) }) ∷ []); expressions = []; blocks = ((record { process = 0; first = 0; end = 3; result = (choice.Known result.Nothing) }) ∷ []); names = []; code = ((instr.Begin) ∷ (instr.On 4 0 (choice.Known response.Statement) (choice.Known change.Signal) 1 2) ∷ (instr.Finish) ∷ []); first = 0 }

abbrev Says14 : Type 0
Says14 = (first_failure row14 ≡ (Some 1))

-- ON that sets an unlatched event
abbrev row15 : ImageParts
row15 = record { cells = []; events = ((choice.Known begins.Unlatched) ∷ (choice.Known (begins.Latched false)) ∷ []); common = []; processes = ((record { name = codes "P"; block = 0; places = ((record { repeat = 1; row = (place.Data kind.Single (value.Int (pos 1))) }) ∷ (record { repeat = 1; row = (place.Data (kind.Text 3) (value.Text (codes ""))) }) ∷ (record { repeat = 1; row = (place.Reference 0) }) ∷ []) }) ∷ []); shapes = (((record { repeat = 1; row = kind.Single }) ∷ (record { repeat = 1; row = (kind.Text 3) }) ∷ []) ∷ []); views = ((record { base = (base.Own 0); dimensions = []; target = (target.Cell kind.Single) }) ∷ (record { base = (base.Own 1); dimensions = []; target = (target.Cell (kind.Text 3)) }) ∷ (record { base = (base.Own 0); dimensions = []; target = (target.Shape 0) }) ∷ (record { base = (base.Through 2 1); dimensions = []; target = (target.Cell (kind.Text 3)) }) ∷ []); expressions = []; blocks = ((record { process = 0; first = 0; end = 3; result = (choice.Known result.Nothing) }) ∷ []); names = []; code = ((instr.Begin) ∷ (instr.On 4 0 (choice.Known response.Ignore) (choice.Known change.Set) 1 0) ∷ (instr.Finish) ∷ []); first = 0 }

abbrev Says15 : Type 0
Says15 = (first_failure row15 ≡ (Some 1))

-- ON that signals the name of a process
abbrev row16 : ImageParts
row16 = record { cells = []; events = ((choice.Known begins.Unlatched) ∷ (choice.Known (begins.Latched false)) ∷ []); common = []; processes = ((record { name = codes "P"; block = 0; places = ((record { repeat = 1; row = (place.Data kind.Single (value.Int (pos 1))) }) ∷ (record { repeat = 1; row = (place.Data (kind.Text 3) (value.Text (codes ""))) }) ∷ (record { repeat = 1; row = (place.Reference 0) }) ∷ []) }) ∷ []); shapes = (((record { repeat = 1; row = kind.Single }) ∷ (record { repeat = 1; row = (kind.Text 3) }) ∷ []) ∷ []); views = ((record { base = (base.Own 0); dimensions = []; target = (target.Cell kind.Single) }) ∷ (record { base = (base.Own 1); dimensions = []; target = (target.Cell (kind.Text 3)) }) ∷ (record { base = (base.Own 0); dimensions = []; target = (target.Shape 0) }) ∷ (record { base = (base.Through 2 1); dimensions = []; target = (target.Cell (kind.Text 3)) }) ∷ []); expressions = []; blocks = ((record { process = 0; first = 0; end = 3; result = (choice.Known result.Nothing) }) ∷ []); names = []; code = ((instr.Begin) ∷ (instr.On 4 0 (choice.Known response.Ignore) (choice.Known change.Signal) 0 0) ∷ (instr.Finish) ∷ []); first = 0 }

abbrev Says16 : Type 0
Says16 = (first_failure row16 ≡ (Some 1))

-- OFF of any group with a number
abbrev row17 : ImageParts
row17 = record { cells = []; events = ((choice.Known begins.Unlatched) ∷ (choice.Known (begins.Latched false)) ∷ []); common = []; processes = ((record { name = codes "P"; block = 0; places = ((record { repeat = 1; row = (place.Data kind.Single (value.Int (pos 1))) }) ∷ (record { repeat = 1; row = (place.Data (kind.Text 3) (value.Text (codes ""))) }) ∷ (record { repeat = 1; row = (place.Reference 0) }) ∷ []) }) ∷ []); shapes = (((record { repeat = 1; row = kind.Single }) ∷ (record { repeat = 1; row = (kind.Text 3) }) ∷ []) ∷ []); views = ((record { base = (base.Own 0); dimensions = []; target = (target.Cell kind.Single) }) ∷ (record { base = (base.Own 1); dimensions = []; target = (target.Cell (kind.Text 3)) }) ∷ (record { base = (base.Own 0); dimensions = []; target = (target.Shape 0) }) ∷ (record { base = (base.Through 2 1); dimensions = []; target = (target.Cell (kind.Text 3)) }) ∷ []); expressions = []; blocks = ((record { process = 0; first = 0; end = 3; result = (choice.Known result.Nothing) }) ∷ []); names = []; code = ((instr.Begin) ∷ (instr.Off 0 1) ∷ (instr.Finish) ∷ []); first = 0 }

abbrev Says17 : Type 0
Says17 = (first_failure row17 ≡ (Some 1))

-- RAISE of group 0
abbrev row18 : ImageParts
row18 = record { cells = []; events = ((choice.Known begins.Unlatched) ∷ (choice.Known (begins.Latched false)) ∷ []); common = []; processes = ((record { name = codes "P"; block = 0; places = ((record { repeat = 1; row = (place.Data kind.Single (value.Int (pos 1))) }) ∷ (record { repeat = 1; row = (place.Data (kind.Text 3) (value.Text (codes ""))) }) ∷ (record { repeat = 1; row = (place.Reference 0) }) ∷ []) }) ∷ []); shapes = (((record { repeat = 1; row = kind.Single }) ∷ (record { repeat = 1; row = (kind.Text 3) }) ∷ []) ∷ []); views = ((record { base = (base.Own 0); dimensions = []; target = (target.Cell kind.Single) }) ∷ (record { base = (base.Own 1); dimensions = []; target = (target.Cell (kind.Text 3)) }) ∷ (record { base = (base.Own 0); dimensions = []; target = (target.Shape 0) }) ∷ (record { base = (base.Through 2 1); dimensions = []; target = (target.Cell (kind.Text 3)) }) ∷ []); expressions = []; blocks = ((record { process = 0; first = 0; end = 3; result = (choice.Known result.Nothing) }) ∷ []); names = []; code = ((instr.Begin) ∷ (instr.Raise 0 1) ∷ (instr.Finish) ∷ []); first = 0 }

abbrev Says18 : Type 0
Says18 = (first_failure row18 ≡ (Some 1))

-- RAISE of number 0
abbrev row19 : ImageParts
row19 = record { cells = []; events = ((choice.Known begins.Unlatched) ∷ (choice.Known (begins.Latched false)) ∷ []); common = []; processes = ((record { name = codes "P"; block = 0; places = ((record { repeat = 1; row = (place.Data kind.Single (value.Int (pos 1))) }) ∷ (record { repeat = 1; row = (place.Data (kind.Text 3) (value.Text (codes ""))) }) ∷ (record { repeat = 1; row = (place.Reference 0) }) ∷ []) }) ∷ []); shapes = (((record { repeat = 1; row = kind.Single }) ∷ (record { repeat = 1; row = (kind.Text 3) }) ∷ []) ∷ []); views = ((record { base = (base.Own 0); dimensions = []; target = (target.Cell kind.Single) }) ∷ (record { base = (base.Own 1); dimensions = []; target = (target.Cell (kind.Text 3)) }) ∷ (record { base = (base.Own 0); dimensions = []; target = (target.Shape 0) }) ∷ (record { base = (base.Through 2 1); dimensions = []; target = (target.Cell (kind.Text 3)) }) ∷ []); expressions = []; blocks = ((record { process = 0; first = 0; end = 3; result = (choice.Known result.Nothing) }) ∷ []); names = []; code = ((instr.Begin) ∷ (instr.Raise 1 0) ∷ (instr.Finish) ∷ []); first = 0 }

abbrev Says19 : Type 0
Says19 = (first_failure row19 ≡ (Some 1))

-- BIND of a place that holds values
abbrev row20 : ImageParts
row20 = record { cells = []; events = ((choice.Known begins.Unlatched) ∷ (choice.Known (begins.Latched false)) ∷ []); common = []; processes = ((record { name = codes "P"; block = 0; places = ((record { repeat = 1; row = (place.Data kind.Single (value.Int (pos 1))) }) ∷ (record { repeat = 1; row = (place.Data (kind.Text 3) (value.Text (codes ""))) }) ∷ (record { repeat = 1; row = (place.Reference 0) }) ∷ []) }) ∷ []); shapes = (((record { repeat = 1; row = kind.Single }) ∷ (record { repeat = 1; row = (kind.Text 3) }) ∷ []) ∷ []); views = ((record { base = (base.Own 0); dimensions = []; target = (target.Cell kind.Single) }) ∷ (record { base = (base.Own 1); dimensions = []; target = (target.Cell (kind.Text 3)) }) ∷ (record { base = (base.Own 0); dimensions = []; target = (target.Shape 0) }) ∷ (record { base = (base.Through 2 1); dimensions = []; target = (target.Cell (kind.Text 3)) }) ∷ []); expressions = []; blocks = ((record { process = 0; first = 0; end = 4; result = (choice.Known result.Nothing) }) ∷ []); names = []; code = ((instr.Begin) ∷ (instr.Whole 2) ∷ (instr.Bind 0) ∷ (instr.Finish) ∷ []); first = 0 }

abbrev Says20 : Type 0
Says20 = (first_failure row20 ≡ (Some 2))

-- BIND of a reference
abbrev row21 : ImageParts
row21 = record { cells = []; events = ((choice.Known begins.Unlatched) ∷ (choice.Known (begins.Latched false)) ∷ []); common = []; processes = ((record { name = codes "P"; block = 0; places = ((record { repeat = 1; row = (place.Data kind.Single (value.Int (pos 1))) }) ∷ (record { repeat = 1; row = (place.Data (kind.Text 3) (value.Text (codes ""))) }) ∷ (record { repeat = 1; row = (place.Reference 0) }) ∷ []) }) ∷ []); shapes = (((record { repeat = 1; row = kind.Single }) ∷ (record { repeat = 1; row = (kind.Text 3) }) ∷ []) ∷ []); views = ((record { base = (base.Own 0); dimensions = []; target = (target.Cell kind.Single) }) ∷ (record { base = (base.Own 1); dimensions = []; target = (target.Cell (kind.Text 3)) }) ∷ (record { base = (base.Own 0); dimensions = []; target = (target.Shape 0) }) ∷ (record { base = (base.Through 2 1); dimensions = []; target = (target.Cell (kind.Text 3)) }) ∷ []); expressions = []; blocks = ((record { process = 0; first = 0; end = 7; result = (choice.Known result.Nothing) }) ∷ []); names = []; code = ((instr.Begin) ∷ (instr.Whole 2) ∷ (instr.Bind 2) ∷ (instr.Cell 3) ∷ (instr.Fetch) ∷ (instr.Drop) ∷ (instr.Finish) ∷ []); first = 0 }

abbrev Says21 : Type 0
Says21 = (first_failure row21 ≡ None)

-- COPY behind the last place
abbrev row22 : ImageParts
row22 = record { cells = []; events = ((choice.Known begins.Unlatched) ∷ (choice.Known (begins.Latched false)) ∷ []); common = []; processes = ((record { name = codes "P"; block = 0; places = ((record { repeat = 1; row = (place.Data kind.Single (value.Int (pos 1))) }) ∷ (record { repeat = 1; row = (place.Data (kind.Text 3) (value.Text (codes ""))) }) ∷ (record { repeat = 1; row = (place.Reference 0) }) ∷ []) }) ∷ []); shapes = (((record { repeat = 1; row = kind.Single }) ∷ (record { repeat = 1; row = (kind.Text 3) }) ∷ []) ∷ []); views = ((record { base = (base.Own 0); dimensions = []; target = (target.Cell kind.Single) }) ∷ (record { base = (base.Own 1); dimensions = []; target = (target.Cell (kind.Text 3)) }) ∷ (record { base = (base.Own 0); dimensions = []; target = (target.Shape 0) }) ∷ (record { base = (base.Through 2 1); dimensions = []; target = (target.Cell (kind.Text 3)) }) ∷ []); expressions = []; blocks = ((record { process = 0; first = 0; end = 4; result = (choice.Known result.Nothing) }) ∷ []); names = []; code = ((instr.Begin) ∷ (instr.Whole 2) ∷ (instr.Copy 3) ∷ (instr.Finish) ∷ []); first = 0 }

abbrev Says22 : Type 0
Says22 = (first_failure row22 ≡ (Some 2))

-- COPY into a reference
abbrev row23 : ImageParts
row23 = record { cells = []; events = ((choice.Known begins.Unlatched) ∷ (choice.Known (begins.Latched false)) ∷ []); common = []; processes = ((record { name = codes "P"; block = 0; places = ((record { repeat = 1; row = (place.Data kind.Single (value.Int (pos 1))) }) ∷ (record { repeat = 1; row = (place.Data (kind.Text 3) (value.Text (codes ""))) }) ∷ (record { repeat = 1; row = (place.Reference 0) }) ∷ []) }) ∷ []); shapes = (((record { repeat = 1; row = kind.Single }) ∷ (record { repeat = 1; row = (kind.Text 3) }) ∷ []) ∷ []); views = ((record { base = (base.Own 0); dimensions = []; target = (target.Cell kind.Single) }) ∷ (record { base = (base.Own 1); dimensions = []; target = (target.Cell (kind.Text 3)) }) ∷ (record { base = (base.Own 0); dimensions = []; target = (target.Shape 0) }) ∷ (record { base = (base.Through 2 1); dimensions = []; target = (target.Cell (kind.Text 3)) }) ∷ []); expressions = []; blocks = ((record { process = 0; first = 0; end = 4; result = (choice.Known result.Nothing) }) ∷ []); names = []; code = ((instr.Begin) ∷ (instr.Whole 2) ∷ (instr.Copy 1) ∷ (instr.Finish) ∷ []); first = 0 }

abbrev Says23 : Type 0
Says23 = (first_failure row23 ≡ (Some 2))

-- CLEAR of a reference
abbrev row24 : ImageParts
row24 = record { cells = []; events = ((choice.Known begins.Unlatched) ∷ (choice.Known (begins.Latched false)) ∷ []); common = []; processes = ((record { name = codes "P"; block = 0; places = ((record { repeat = 1; row = (place.Data kind.Single (value.Int (pos 1))) }) ∷ (record { repeat = 1; row = (place.Data (kind.Text 3) (value.Text (codes ""))) }) ∷ (record { repeat = 1; row = (place.Reference 0) }) ∷ []) }) ∷ []); shapes = (((record { repeat = 1; row = kind.Single }) ∷ (record { repeat = 1; row = (kind.Text 3) }) ∷ []) ∷ []); views = ((record { base = (base.Own 0); dimensions = []; target = (target.Cell kind.Single) }) ∷ (record { base = (base.Own 1); dimensions = []; target = (target.Cell (kind.Text 3)) }) ∷ (record { base = (base.Own 0); dimensions = []; target = (target.Shape 0) }) ∷ (record { base = (base.Through 2 1); dimensions = []; target = (target.Cell (kind.Text 3)) }) ∷ []); expressions = []; blocks = ((record { process = 0; first = 0; end = 3; result = (choice.Known result.Nothing) }) ∷ []); names = []; code = ((instr.Begin) ∷ (instr.Clear 1 2) ∷ (instr.Finish) ∷ []); first = 0 }

abbrev Says24 : Type 0
Says24 = (first_failure row24 ≡ (Some 1))

-- CLEAR behind the last place
abbrev row25 : ImageParts
row25 = record { cells = []; events = ((choice.Known begins.Unlatched) ∷ (choice.Known (begins.Latched false)) ∷ []); common = []; processes = ((record { name = codes "P"; block = 0; places = ((record { repeat = 1; row = (place.Data kind.Single (value.Int (pos 1))) }) ∷ (record { repeat = 1; row = (place.Data (kind.Text 3) (value.Text (codes ""))) }) ∷ (record { repeat = 1; row = (place.Reference 0) }) ∷ []) }) ∷ []); shapes = (((record { repeat = 1; row = kind.Single }) ∷ (record { repeat = 1; row = (kind.Text 3) }) ∷ []) ∷ []); views = ((record { base = (base.Own 0); dimensions = []; target = (target.Cell kind.Single) }) ∷ (record { base = (base.Own 1); dimensions = []; target = (target.Cell (kind.Text 3)) }) ∷ (record { base = (base.Own 0); dimensions = []; target = (target.Shape 0) }) ∷ (record { base = (base.Through 2 1); dimensions = []; target = (target.Cell (kind.Text 3)) }) ∷ []); expressions = []; blocks = ((record { process = 0; first = 0; end = 3; result = (choice.Known result.Nothing) }) ∷ []); names = []; code = ((instr.Begin) ∷ (instr.Clear 3 1) ∷ (instr.Finish) ∷ []); first = 0 }

abbrev Says25 : Type 0
Says25 = (first_failure row25 ≡ (Some 1))

-- CLEAR of no place
abbrev row26 : ImageParts
row26 = record { cells = []; events = ((choice.Known begins.Unlatched) ∷ (choice.Known (begins.Latched false)) ∷ []); common = []; processes = ((record { name = codes "P"; block = 0; places = ((record { repeat = 1; row = (place.Data kind.Single (value.Int (pos 1))) }) ∷ (record { repeat = 1; row = (place.Data (kind.Text 3) (value.Text (codes ""))) }) ∷ (record { repeat = 1; row = (place.Reference 0) }) ∷ []) }) ∷ []); shapes = (((record { repeat = 1; row = kind.Single }) ∷ (record { repeat = 1; row = (kind.Text 3) }) ∷ []) ∷ []); views = ((record { base = (base.Own 0); dimensions = []; target = (target.Cell kind.Single) }) ∷ (record { base = (base.Own 1); dimensions = []; target = (target.Cell (kind.Text 3)) }) ∷ (record { base = (base.Own 0); dimensions = []; target = (target.Shape 0) }) ∷ (record { base = (base.Through 2 1); dimensions = []; target = (target.Cell (kind.Text 3)) }) ∷ []); expressions = []; blocks = ((record { process = 0; first = 0; end = 3; result = (choice.Known result.Nothing) }) ∷ []); names = []; code = ((instr.Begin) ∷ (instr.Clear 3 0) ∷ (instr.Finish) ∷ []); first = 0 }

abbrev Says26 : Type 0
Says26 = (first_failure row26 ≡ None)

-- a process that is not there
abbrev row27 : ImageParts
row27 = record { cells = []; events = ((choice.Known begins.Unlatched) ∷ (choice.Known (begins.Latched false)) ∷ []); common = []; processes = ((record { name = codes "P"; block = 0; places = ((record { repeat = 1; row = (place.Data kind.Single (value.Int (pos 1))) }) ∷ (record { repeat = 1; row = (place.Data (kind.Text 3) (value.Text (codes ""))) }) ∷ (record { repeat = 1; row = (place.Reference 0) }) ∷ []) }) ∷ []); shapes = (((record { repeat = 1; row = kind.Single }) ∷ (record { repeat = 1; row = (kind.Text 3) }) ∷ []) ∷ []); views = ((record { base = (base.Own 0); dimensions = []; target = (target.Cell kind.Single) }) ∷ (record { base = (base.Own 1); dimensions = []; target = (target.Cell (kind.Text 3)) }) ∷ (record { base = (base.Own 0); dimensions = []; target = (target.Shape 0) }) ∷ (record { base = (base.Through 2 1); dimensions = []; target = (target.Cell (kind.Text 3)) }) ∷ []); expressions = []; blocks = ((record { process = 0; first = 0; end = 3; result = (choice.Known result.Nothing) }) ∷ []); names = []; code = ((instr.Begin) ∷ (instr.Cancel 1) ∷ (instr.Finish) ∷ []); first = 0 }

abbrev Says27 : Type 0
Says27 = (first_failure row27 ≡ (Some 1))

-- the process itself
abbrev row28 : ImageParts
row28 = record { cells = []; events = ((choice.Known begins.Unlatched) ∷ (choice.Known (begins.Latched false)) ∷ []); common = []; processes = ((record { name = codes "P"; block = 0; places = ((record { repeat = 1; row = (place.Data kind.Single (value.Int (pos 1))) }) ∷ (record { repeat = 1; row = (place.Data (kind.Text 3) (value.Text (codes ""))) }) ∷ (record { repeat = 1; row = (place.Reference 0) }) ∷ []) }) ∷ []); shapes = (((record { repeat = 1; row = kind.Single }) ∷ (record { repeat = 1; row = (kind.Text 3) }) ∷ []) ∷ []); views = ((record { base = (base.Own 0); dimensions = []; target = (target.Cell kind.Single) }) ∷ (record { base = (base.Own 1); dimensions = []; target = (target.Cell (kind.Text 3)) }) ∷ (record { base = (base.Own 0); dimensions = []; target = (target.Shape 0) }) ∷ (record { base = (base.Through 2 1); dimensions = []; target = (target.Cell (kind.Text 3)) }) ∷ []); expressions = []; blocks = ((record { process = 0; first = 0; end = 3; result = (choice.Known result.Nothing) }) ∷ []); names = []; code = ((instr.Begin) ∷ (instr.Cancel 255) ∷ (instr.Finish) ∷ []); first = 0 }

abbrev Says28 : Type 0
Says28 = (first_failure row28 ≡ None)

-- SCHEDULE of oneself by 255
abbrev row29 : ImageParts
row29 = record { cells = []; events = ((choice.Known begins.Unlatched) ∷ (choice.Known (begins.Latched false)) ∷ []); common = []; processes = ((record { name = codes "P"; block = 0; places = ((record { repeat = 1; row = (place.Data kind.Single (value.Int (pos 1))) }) ∷ (record { repeat = 1; row = (place.Data (kind.Text 3) (value.Text (codes ""))) }) ∷ (record { repeat = 1; row = (place.Reference 0) }) ∷ []) }) ∷ []); shapes = (((record { repeat = 1; row = kind.Single }) ∷ (record { repeat = 1; row = (kind.Text 3) }) ∷ []) ∷ []); views = ((record { base = (base.Own 0); dimensions = []; target = (target.Cell kind.Single) }) ∷ (record { base = (base.Own 1); dimensions = []; target = (target.Cell (kind.Text 3)) }) ∷ (record { base = (base.Own 0); dimensions = []; target = (target.Shape 0) }) ∷ (record { base = (base.Through 2 1); dimensions = []; target = (target.Cell (kind.Text 3)) }) ∷ []); expressions = []; blocks = ((record { process = 0; first = 0; end = 3; result = (choice.Known result.Nothing) }) ∷ []); names = []; code = ((instr.Begin) ∷ (instr.Schedule 255 start.Now (choice.Known false) (choice.Known false) round.Once limit.Free) ∷ (instr.Finish) ∷ []); first = 0 }

abbrev Says29 : Type 0
Says29 = (first_failure row29 ≡ (Some 1))

-- a time that is none
abbrev row30 : ImageParts
row30 = record { cells = []; events = ((choice.Known begins.Unlatched) ∷ (choice.Known (begins.Latched false)) ∷ []); common = []; processes = ((record { name = codes "P"; block = 0; places = ((record { repeat = 1; row = (place.Data kind.Single (value.Int (pos 1))) }) ∷ (record { repeat = 1; row = (place.Data (kind.Text 3) (value.Text (codes ""))) }) ∷ (record { repeat = 1; row = (place.Reference 0) }) ∷ []) }) ∷ []); shapes = (((record { repeat = 1; row = kind.Single }) ∷ (record { repeat = 1; row = (kind.Text 3) }) ∷ []) ∷ []); views = ((record { base = (base.Own 0); dimensions = []; target = (target.Cell kind.Single) }) ∷ (record { base = (base.Own 1); dimensions = []; target = (target.Cell (kind.Text 3)) }) ∷ (record { base = (base.Own 0); dimensions = []; target = (target.Shape 0) }) ∷ (record { base = (base.Through 2 1); dimensions = []; target = (target.Cell (kind.Text 3)) }) ∷ []); expressions = []; blocks = ((record { process = 0; first = 0; end = 3; result = (choice.Known result.Nothing) }) ∷ []); names = []; code = ((instr.Begin) ∷ (instr.Wait (delay.For time.Absent)) ∷ (instr.Finish) ∷ []); first = 0 }

abbrev Says30 : Type 0
Says30 = (first_failure row30 ≡ (Some 1))

-- a time of too many milliseconds
abbrev row31 : ImageParts
row31 = record { cells = []; events = ((choice.Known begins.Unlatched) ∷ (choice.Known (begins.Latched false)) ∷ []); common = []; processes = ((record { name = codes "P"; block = 0; places = ((record { repeat = 1; row = (place.Data kind.Single (value.Int (pos 1))) }) ∷ (record { repeat = 1; row = (place.Data (kind.Text 3) (value.Text (codes ""))) }) ∷ (record { repeat = 1; row = (place.Reference 0) }) ∷ []) }) ∷ []); shapes = (((record { repeat = 1; row = kind.Single }) ∷ (record { repeat = 1; row = (kind.Text 3) }) ∷ []) ∷ []); views = ((record { base = (base.Own 0); dimensions = []; target = (target.Cell kind.Single) }) ∷ (record { base = (base.Own 1); dimensions = []; target = (target.Cell (kind.Text 3)) }) ∷ (record { base = (base.Own 0); dimensions = []; target = (target.Shape 0) }) ∷ (record { base = (base.Through 2 1); dimensions = []; target = (target.Cell (kind.Text 3)) }) ∷ []); expressions = []; blocks = ((record { process = 0; first = 0; end = 3; result = (choice.Known result.Nothing) }) ∷ []); names = []; code = ((instr.Begin) ∷ (instr.Wait (delay.For (time.Milliseconds 2147483648000))) ∷ (instr.Finish) ∷ []); first = 0 }

abbrev Says31 : Type 0
Says31 = (first_failure row31 ≡ (Some 1))

-- the longest time
abbrev row32 : ImageParts
row32 = record { cells = []; events = ((choice.Known begins.Unlatched) ∷ (choice.Known (begins.Latched false)) ∷ []); common = []; processes = ((record { name = codes "P"; block = 0; places = ((record { repeat = 1; row = (place.Data kind.Single (value.Int (pos 1))) }) ∷ (record { repeat = 1; row = (place.Data (kind.Text 3) (value.Text (codes ""))) }) ∷ (record { repeat = 1; row = (place.Reference 0) }) ∷ []) }) ∷ []); shapes = (((record { repeat = 1; row = kind.Single }) ∷ (record { repeat = 1; row = (kind.Text 3) }) ∷ []) ∷ []); views = ((record { base = (base.Own 0); dimensions = []; target = (target.Cell kind.Single) }) ∷ (record { base = (base.Own 1); dimensions = []; target = (target.Cell (kind.Text 3)) }) ∷ (record { base = (base.Own 0); dimensions = []; target = (target.Shape 0) }) ∷ (record { base = (base.Through 2 1); dimensions = []; target = (target.Cell (kind.Text 3)) }) ∷ []); expressions = []; blocks = ((record { process = 0; first = 0; end = 3; result = (choice.Known result.Nothing) }) ∷ []); names = []; code = ((instr.Begin) ∷ (instr.Wait (delay.For (time.Milliseconds 2147483647999))) ∷ (instr.Finish) ∷ []); first = 0 }

abbrev Says32 : Type 0
Says32 = (first_failure row32 ≡ None)

-- an event expression that is not there
abbrev row33 : ImageParts
row33 = record { cells = []; events = ((choice.Known begins.Unlatched) ∷ (choice.Known (begins.Latched false)) ∷ []); common = []; processes = ((record { name = codes "P"; block = 0; places = ((record { repeat = 1; row = (place.Data kind.Single (value.Int (pos 1))) }) ∷ (record { repeat = 1; row = (place.Data (kind.Text 3) (value.Text (codes ""))) }) ∷ (record { repeat = 1; row = (place.Reference 0) }) ∷ []) }) ∷ []); shapes = (((record { repeat = 1; row = kind.Single }) ∷ (record { repeat = 1; row = (kind.Text 3) }) ∷ []) ∷ []); views = ((record { base = (base.Own 0); dimensions = []; target = (target.Cell kind.Single) }) ∷ (record { base = (base.Own 1); dimensions = []; target = (target.Cell (kind.Text 3)) }) ∷ (record { base = (base.Own 0); dimensions = []; target = (target.Shape 0) }) ∷ (record { base = (base.Through 2 1); dimensions = []; target = (target.Cell (kind.Text 3)) }) ∷ []); expressions = []; blocks = ((record { process = 0; first = 0; end = 3; result = (choice.Known result.Nothing) }) ∷ []); names = []; code = ((instr.Begin) ∷ (instr.Wait (delay.Event 0)) ∷ (instr.Finish) ∷ []); first = 0 }

abbrev Says33 : Type 0
Says33 = (first_failure row33 ≡ (Some 1))

-- SIGNAL of the name of a process
abbrev row34 : ImageParts
row34 = record { cells = []; events = ((choice.Known begins.Unlatched) ∷ (choice.Known (begins.Latched false)) ∷ []); common = []; processes = ((record { name = codes "P"; block = 0; places = ((record { repeat = 1; row = (place.Data kind.Single (value.Int (pos 1))) }) ∷ (record { repeat = 1; row = (place.Data (kind.Text 3) (value.Text (codes ""))) }) ∷ (record { repeat = 1; row = (place.Reference 0) }) ∷ []) }) ∷ []); shapes = (((record { repeat = 1; row = kind.Single }) ∷ (record { repeat = 1; row = (kind.Text 3) }) ∷ []) ∷ []); views = ((record { base = (base.Own 0); dimensions = []; target = (target.Cell kind.Single) }) ∷ (record { base = (base.Own 1); dimensions = []; target = (target.Cell (kind.Text 3)) }) ∷ (record { base = (base.Own 0); dimensions = []; target = (target.Shape 0) }) ∷ (record { base = (base.Through 2 1); dimensions = []; target = (target.Cell (kind.Text 3)) }) ∷ []); expressions = []; blocks = ((record { process = 0; first = 0; end = 3; result = (choice.Known result.Nothing) }) ∷ []); names = []; code = ((instr.Begin) ∷ (instr.Signal 0) ∷ (instr.Finish) ∷ []); first = 0 }

abbrev Says34 : Type 0
Says34 = (first_failure row34 ≡ (Some 1))

-- SET of an unlatched event
abbrev row35 : ImageParts
row35 = record { cells = []; events = ((choice.Known begins.Unlatched) ∷ (choice.Known (begins.Latched false)) ∷ []); common = []; processes = ((record { name = codes "P"; block = 0; places = ((record { repeat = 1; row = (place.Data kind.Single (value.Int (pos 1))) }) ∷ (record { repeat = 1; row = (place.Data (kind.Text 3) (value.Text (codes ""))) }) ∷ (record { repeat = 1; row = (place.Reference 0) }) ∷ []) }) ∷ []); shapes = (((record { repeat = 1; row = kind.Single }) ∷ (record { repeat = 1; row = (kind.Text 3) }) ∷ []) ∷ []); views = ((record { base = (base.Own 0); dimensions = []; target = (target.Cell kind.Single) }) ∷ (record { base = (base.Own 1); dimensions = []; target = (target.Cell (kind.Text 3)) }) ∷ (record { base = (base.Own 0); dimensions = []; target = (target.Shape 0) }) ∷ (record { base = (base.Through 2 1); dimensions = []; target = (target.Cell (kind.Text 3)) }) ∷ []); expressions = []; blocks = ((record { process = 0; first = 0; end = 3; result = (choice.Known result.Nothing) }) ∷ []); names = []; code = ((instr.Begin) ∷ (instr.Set 1) ∷ (instr.Finish) ∷ []); first = 0 }

abbrev Says35 : Type 0
Says35 = (first_failure row35 ≡ (Some 1))

-- RESET of a latched event
abbrev row36 : ImageParts
row36 = record { cells = []; events = ((choice.Known begins.Unlatched) ∷ (choice.Known (begins.Latched false)) ∷ []); common = []; processes = ((record { name = codes "P"; block = 0; places = ((record { repeat = 1; row = (place.Data kind.Single (value.Int (pos 1))) }) ∷ (record { repeat = 1; row = (place.Data (kind.Text 3) (value.Text (codes ""))) }) ∷ (record { repeat = 1; row = (place.Reference 0) }) ∷ []) }) ∷ []); shapes = (((record { repeat = 1; row = kind.Single }) ∷ (record { repeat = 1; row = (kind.Text 3) }) ∷ []) ∷ []); views = ((record { base = (base.Own 0); dimensions = []; target = (target.Cell kind.Single) }) ∷ (record { base = (base.Own 1); dimensions = []; target = (target.Cell (kind.Text 3)) }) ∷ (record { base = (base.Own 0); dimensions = []; target = (target.Shape 0) }) ∷ (record { base = (base.Through 2 1); dimensions = []; target = (target.Cell (kind.Text 3)) }) ∷ []); expressions = []; blocks = ((record { process = 0; first = 0; end = 3; result = (choice.Known result.Nothing) }) ∷ []); names = []; code = ((instr.Begin) ∷ (instr.Reset 2) ∷ (instr.Finish) ∷ []); first = 0 }

abbrev Says36 : Type 0
Says36 = (first_failure row36 ≡ None)

-- channel 32
abbrev row37 : ImageParts
row37 = record { cells = []; events = ((choice.Known begins.Unlatched) ∷ (choice.Known (begins.Latched false)) ∷ []); common = []; processes = ((record { name = codes "P"; block = 0; places = ((record { repeat = 1; row = (place.Data kind.Single (value.Int (pos 1))) }) ∷ (record { repeat = 1; row = (place.Data (kind.Text 3) (value.Text (codes ""))) }) ∷ (record { repeat = 1; row = (place.Reference 0) }) ∷ []) }) ∷ []); shapes = (((record { repeat = 1; row = kind.Single }) ∷ (record { repeat = 1; row = (kind.Text 3) }) ∷ []) ∷ []); views = ((record { base = (base.Own 0); dimensions = []; target = (target.Cell kind.Single) }) ∷ (record { base = (base.Own 1); dimensions = []; target = (target.Cell (kind.Text 3)) }) ∷ (record { base = (base.Own 0); dimensions = []; target = (target.Shape 0) }) ∷ (record { base = (base.Through 2 1); dimensions = []; target = (target.Cell (kind.Text 3)) }) ∷ []); expressions = []; blocks = ((record { process = 0; first = 0; end = 3; result = (choice.Known result.Nothing) }) ∷ []); names = []; code = ((instr.Begin) ∷ (instr.Print 32) ∷ (instr.Finish) ∷ []); first = 0 }

abbrev Says37 : Type 0
Says37 = (first_failure row37 ≡ (Some 1))

-- a datum for a text of no byte
abbrev row38 : ImageParts
row38 = record { cells = []; events = ((choice.Known begins.Unlatched) ∷ (choice.Known (begins.Latched false)) ∷ []); common = []; processes = ((record { name = codes "P"; block = 0; places = ((record { repeat = 1; row = (place.Data kind.Single (value.Int (pos 1))) }) ∷ (record { repeat = 1; row = (place.Data (kind.Text 3) (value.Text (codes ""))) }) ∷ (record { repeat = 1; row = (place.Reference 0) }) ∷ []) }) ∷ []); shapes = (((record { repeat = 1; row = kind.Single }) ∷ (record { repeat = 1; row = (kind.Text 3) }) ∷ []) ∷ []); views = ((record { base = (base.Own 0); dimensions = []; target = (target.Cell kind.Single) }) ∷ (record { base = (base.Own 1); dimensions = []; target = (target.Cell (kind.Text 3)) }) ∷ (record { base = (base.Own 0); dimensions = []; target = (target.Shape 0) }) ∷ (record { base = (base.Through 2 1); dimensions = []; target = (target.Cell (kind.Text 3)) }) ∷ []); expressions = []; blocks = ((record { process = 0; first = 0; end = 4; result = (choice.Known result.Nothing) }) ∷ []); names = []; code = ((instr.Begin) ∷ (instr.Input 5 (kind.Text 0) 3) ∷ (instr.Drop) ∷ (instr.Finish) ∷ []); first = 0 }

abbrev Says38 : Type 0
Says38 = (first_failure row38 ≡ (Some 1))

-- an operand too few
abbrev row39 : ImageParts
row39 = record { cells = []; events = ((choice.Known begins.Unlatched) ∷ (choice.Known (begins.Latched false)) ∷ []); common = []; processes = ((record { name = codes "P"; block = 0; places = ((record { repeat = 1; row = (place.Data kind.Single (value.Int (pos 1))) }) ∷ (record { repeat = 1; row = (place.Data (kind.Text 3) (value.Text (codes ""))) }) ∷ (record { repeat = 1; row = (place.Reference 0) }) ∷ []) }) ∷ []); shapes = (((record { repeat = 1; row = kind.Single }) ∷ (record { repeat = 1; row = (kind.Text 3) }) ∷ []) ∷ []); views = ((record { base = (base.Own 0); dimensions = []; target = (target.Cell kind.Single) }) ∷ (record { base = (base.Own 1); dimensions = []; target = (target.Cell (kind.Text 3)) }) ∷ (record { base = (base.Own 0); dimensions = []; target = (target.Shape 0) }) ∷ (record { base = (base.Through 2 1); dimensions = []; target = (target.Cell (kind.Text 3)) }) ∷ []); expressions = []; blocks = ((record { process = 0; first = 0; end = 5; result = (choice.Known result.Nothing) }) ∷ []); names = []; code = ((instr.Begin) ∷ (instr.Int (pos 1)) ∷ (instr.Op2 (choice.Known op2.Plus)) ∷ (instr.Drop) ∷ (instr.Finish) ∷ []); first = 0 }

abbrev Says39 : Type 0
Says39 = (first_failure row39 ≡ (Some 2))

-- an operation of operands that it does not take
abbrev row40 : ImageParts
row40 = record { cells = []; events = ((choice.Known begins.Unlatched) ∷ (choice.Known (begins.Latched false)) ∷ []); common = []; processes = ((record { name = codes "P"; block = 0; places = ((record { repeat = 1; row = (place.Data kind.Single (value.Int (pos 1))) }) ∷ (record { repeat = 1; row = (place.Data (kind.Text 3) (value.Text (codes ""))) }) ∷ (record { repeat = 1; row = (place.Reference 0) }) ∷ []) }) ∷ []); shapes = (((record { repeat = 1; row = kind.Single }) ∷ (record { repeat = 1; row = (kind.Text 3) }) ∷ []) ∷ []); views = ((record { base = (base.Own 0); dimensions = []; target = (target.Cell kind.Single) }) ∷ (record { base = (base.Own 1); dimensions = []; target = (target.Cell (kind.Text 3)) }) ∷ (record { base = (base.Own 0); dimensions = []; target = (target.Shape 0) }) ∷ (record { base = (base.Through 2 1); dimensions = []; target = (target.Cell (kind.Text 3)) }) ∷ []); expressions = []; blocks = ((record { process = 0; first = 0; end = 6; result = (choice.Known result.Nothing) }) ∷ []); names = []; code = ((instr.Begin) ∷ (instr.Int (pos 1)) ∷ (instr.Text (codes "A")) ∷ (instr.Op2 (choice.Known op2.Plus)) ∷ (instr.Drop) ∷ (instr.Finish) ∷ []); first = 0 }

abbrev Says40 : Type 0
Says40 = (first_failure row40 ≡ (Some 3))

-- text and integer joined
abbrev row41 : ImageParts
row41 = record { cells = []; events = ((choice.Known begins.Unlatched) ∷ (choice.Known (begins.Latched false)) ∷ []); common = []; processes = ((record { name = codes "P"; block = 0; places = ((record { repeat = 1; row = (place.Data kind.Single (value.Int (pos 1))) }) ∷ (record { repeat = 1; row = (place.Data (kind.Text 3) (value.Text (codes ""))) }) ∷ (record { repeat = 1; row = (place.Reference 0) }) ∷ []) }) ∷ []); shapes = (((record { repeat = 1; row = kind.Single }) ∷ (record { repeat = 1; row = (kind.Text 3) }) ∷ []) ∷ []); views = ((record { base = (base.Own 0); dimensions = []; target = (target.Cell kind.Single) }) ∷ (record { base = (base.Own 1); dimensions = []; target = (target.Cell (kind.Text 3)) }) ∷ (record { base = (base.Own 0); dimensions = []; target = (target.Shape 0) }) ∷ (record { base = (base.Through 2 1); dimensions = []; target = (target.Cell (kind.Text 3)) }) ∷ []); expressions = []; blocks = ((record { process = 0; first = 0; end = 6; result = (choice.Known result.Nothing) }) ∷ []); names = []; code = ((instr.Begin) ∷ (instr.Text (codes "A")) ∷ (instr.Int (pos 1)) ∷ (instr.Op2 (choice.Known op2.Cat)) ∷ (instr.Drop) ∷ (instr.Finish) ∷ []); first = 0 }

abbrev Says41 : Type 0
Says41 = (first_failure row41 ≡ None)

-- KEEP of a text in an integer
abbrev row42 : ImageParts
row42 = record { cells = []; events = ((choice.Known begins.Unlatched) ∷ (choice.Known (begins.Latched false)) ∷ []); common = []; processes = ((record { name = codes "P"; block = 0; places = ((record { repeat = 1; row = (place.Data kind.Single (value.Int (pos 1))) }) ∷ (record { repeat = 1; row = (place.Data (kind.Text 3) (value.Text (codes ""))) }) ∷ (record { repeat = 1; row = (place.Reference 0) }) ∷ []) }) ∷ []); shapes = (((record { repeat = 1; row = kind.Single }) ∷ (record { repeat = 1; row = (kind.Text 3) }) ∷ []) ∷ []); views = ((record { base = (base.Own 0); dimensions = []; target = (target.Cell kind.Single) }) ∷ (record { base = (base.Own 1); dimensions = []; target = (target.Cell (kind.Text 3)) }) ∷ (record { base = (base.Own 0); dimensions = []; target = (target.Shape 0) }) ∷ (record { base = (base.Through 2 1); dimensions = []; target = (target.Cell (kind.Text 3)) }) ∷ []); expressions = []; blocks = ((record { process = 0; first = 0; end = 5; result = (choice.Known result.Nothing) }) ∷ []); names = []; code = ((instr.Begin) ∷ (instr.Text (codes "A")) ∷ (instr.Cell 0) ∷ (instr.Keep) ∷ (instr.Finish) ∷ []); first = 0 }

abbrev Says42 : Type 0
Says42 = (first_failure row42 ≡ (Some 3))

-- KEEP of an integer in a text
abbrev row43 : ImageParts
row43 = record { cells = []; events = ((choice.Known begins.Unlatched) ∷ (choice.Known (begins.Latched false)) ∷ []); common = []; processes = ((record { name = codes "P"; block = 0; places = ((record { repeat = 1; row = (place.Data kind.Single (value.Int (pos 1))) }) ∷ (record { repeat = 1; row = (place.Data (kind.Text 3) (value.Text (codes ""))) }) ∷ (record { repeat = 1; row = (place.Reference 0) }) ∷ []) }) ∷ []); shapes = (((record { repeat = 1; row = kind.Single }) ∷ (record { repeat = 1; row = (kind.Text 3) }) ∷ []) ∷ []); views = ((record { base = (base.Own 0); dimensions = []; target = (target.Cell kind.Single) }) ∷ (record { base = (base.Own 1); dimensions = []; target = (target.Cell (kind.Text 3)) }) ∷ (record { base = (base.Own 0); dimensions = []; target = (target.Shape 0) }) ∷ (record { base = (base.Through 2 1); dimensions = []; target = (target.Cell (kind.Text 3)) }) ∷ []); expressions = []; blocks = ((record { process = 0; first = 0; end = 5; result = (choice.Known result.Nothing) }) ∷ []); names = []; code = ((instr.Begin) ∷ (instr.Int (pos 1)) ∷ (instr.Cell 1) ∷ (instr.Keep) ∷ (instr.Finish) ∷ []); first = 0 }

abbrev Says43 : Type 0
Says43 = (first_failure row43 ≡ None)

-- FETCH of a value
abbrev row44 : ImageParts
row44 = record { cells = []; events = ((choice.Known begins.Unlatched) ∷ (choice.Known (begins.Latched false)) ∷ []); common = []; processes = ((record { name = codes "P"; block = 0; places = ((record { repeat = 1; row = (place.Data kind.Single (value.Int (pos 1))) }) ∷ (record { repeat = 1; row = (place.Data (kind.Text 3) (value.Text (codes ""))) }) ∷ (record { repeat = 1; row = (place.Reference 0) }) ∷ []) }) ∷ []); shapes = (((record { repeat = 1; row = kind.Single }) ∷ (record { repeat = 1; row = (kind.Text 3) }) ∷ []) ∷ []); views = ((record { base = (base.Own 0); dimensions = []; target = (target.Cell kind.Single) }) ∷ (record { base = (base.Own 1); dimensions = []; target = (target.Cell (kind.Text 3)) }) ∷ (record { base = (base.Own 0); dimensions = []; target = (target.Shape 0) }) ∷ (record { base = (base.Through 2 1); dimensions = []; target = (target.Cell (kind.Text 3)) }) ∷ []); expressions = []; blocks = ((record { process = 0; first = 0; end = 5; result = (choice.Known result.Nothing) }) ∷ []); names = []; code = ((instr.Begin) ∷ (instr.Int (pos 1)) ∷ (instr.Fetch) ∷ (instr.Drop) ∷ (instr.Finish) ∷ []); first = 0 }

abbrev Says44 : Type 0
Says44 = (first_failure row44 ≡ (Some 2))

-- DUP of an address
abbrev row45 : ImageParts
row45 = record { cells = []; events = ((choice.Known begins.Unlatched) ∷ (choice.Known (begins.Latched false)) ∷ []); common = []; processes = ((record { name = codes "P"; block = 0; places = ((record { repeat = 1; row = (place.Data kind.Single (value.Int (pos 1))) }) ∷ (record { repeat = 1; row = (place.Data (kind.Text 3) (value.Text (codes ""))) }) ∷ (record { repeat = 1; row = (place.Reference 0) }) ∷ []) }) ∷ []); shapes = (((record { repeat = 1; row = kind.Single }) ∷ (record { repeat = 1; row = (kind.Text 3) }) ∷ []) ∷ []); views = ((record { base = (base.Own 0); dimensions = []; target = (target.Cell kind.Single) }) ∷ (record { base = (base.Own 1); dimensions = []; target = (target.Cell (kind.Text 3)) }) ∷ (record { base = (base.Own 0); dimensions = []; target = (target.Shape 0) }) ∷ (record { base = (base.Through 2 1); dimensions = []; target = (target.Cell (kind.Text 3)) }) ∷ []); expressions = []; blocks = ((record { process = 0; first = 0; end = 8; result = (choice.Known result.Nothing) }) ∷ []); names = []; code = ((instr.Begin) ∷ (instr.Cell 0) ∷ (instr.Dup) ∷ (instr.Fetch) ∷ (instr.Drop) ∷ (instr.Fetch) ∷ (instr.Drop) ∷ (instr.Finish) ∷ []); first = 0 }

abbrev Says45 : Type 0
Says45 = (first_failure row45 ≡ (Some 2))

-- LEN below the stack
abbrev row46 : ImageParts
row46 = record { cells = []; events = ((choice.Known begins.Unlatched) ∷ (choice.Known (begins.Latched false)) ∷ []); common = []; processes = ((record { name = codes "P"; block = 0; places = ((record { repeat = 1; row = (place.Data kind.Single (value.Int (pos 1))) }) ∷ (record { repeat = 1; row = (place.Data (kind.Text 3) (value.Text (codes ""))) }) ∷ (record { repeat = 1; row = (place.Reference 0) }) ∷ []) }) ∷ []); shapes = (((record { repeat = 1; row = kind.Single }) ∷ (record { repeat = 1; row = (kind.Text 3) }) ∷ []) ∷ []); views = ((record { base = (base.Own 0); dimensions = []; target = (target.Cell kind.Single) }) ∷ (record { base = (base.Own 1); dimensions = []; target = (target.Cell (kind.Text 3)) }) ∷ (record { base = (base.Own 0); dimensions = []; target = (target.Shape 0) }) ∷ (record { base = (base.Through 2 1); dimensions = []; target = (target.Cell (kind.Text 3)) }) ∷ []); expressions = []; blocks = ((record { process = 0; first = 0; end = 6; result = (choice.Known result.Nothing) }) ∷ []); names = []; code = ((instr.Begin) ∷ (instr.Text (codes "A")) ∷ (instr.Len 1) ∷ (instr.Drop) ∷ (instr.Drop) ∷ (instr.Finish) ∷ []); first = 0 }

abbrev Says46 : Type 0
Says46 = (first_failure row46 ≡ (Some 2))

-- LEN of an integer
abbrev row47 : ImageParts
row47 = record { cells = []; events = ((choice.Known begins.Unlatched) ∷ (choice.Known (begins.Latched false)) ∷ []); common = []; processes = ((record { name = codes "P"; block = 0; places = ((record { repeat = 1; row = (place.Data kind.Single (value.Int (pos 1))) }) ∷ (record { repeat = 1; row = (place.Data (kind.Text 3) (value.Text (codes ""))) }) ∷ (record { repeat = 1; row = (place.Reference 0) }) ∷ []) }) ∷ []); shapes = (((record { repeat = 1; row = kind.Single }) ∷ (record { repeat = 1; row = (kind.Text 3) }) ∷ []) ∷ []); views = ((record { base = (base.Own 0); dimensions = []; target = (target.Cell kind.Single) }) ∷ (record { base = (base.Own 1); dimensions = []; target = (target.Cell (kind.Text 3)) }) ∷ (record { base = (base.Own 0); dimensions = []; target = (target.Shape 0) }) ∷ (record { base = (base.Through 2 1); dimensions = []; target = (target.Cell (kind.Text 3)) }) ∷ []); expressions = []; blocks = ((record { process = 0; first = 0; end = 6; result = (choice.Known result.Nothing) }) ∷ []); names = []; code = ((instr.Begin) ∷ (instr.Int (pos 1)) ∷ (instr.Len 0) ∷ (instr.Drop) ∷ (instr.Drop) ∷ (instr.Finish) ∷ []); first = 0 }

abbrev Says47 : Type 0
Says47 = (first_failure row47 ≡ (Some 2))

-- PATCH of an integer by a place
abbrev row48 : ImageParts
row48 = record { cells = []; events = ((choice.Known begins.Unlatched) ∷ (choice.Known (begins.Latched false)) ∷ []); common = []; processes = ((record { name = codes "P"; block = 0; places = ((record { repeat = 1; row = (place.Data kind.Single (value.Int (pos 1))) }) ∷ (record { repeat = 1; row = (place.Data (kind.Text 3) (value.Text (codes ""))) }) ∷ (record { repeat = 1; row = (place.Reference 0) }) ∷ []) }) ∷ []); shapes = (((record { repeat = 1; row = kind.Single }) ∷ (record { repeat = 1; row = (kind.Text 3) }) ∷ []) ∷ []); views = ((record { base = (base.Own 0); dimensions = []; target = (target.Cell kind.Single) }) ∷ (record { base = (base.Own 1); dimensions = []; target = (target.Cell (kind.Text 3)) }) ∷ (record { base = (base.Own 0); dimensions = []; target = (target.Shape 0) }) ∷ (record { base = (base.Through 2 1); dimensions = []; target = (target.Cell (kind.Text 3)) }) ∷ []); expressions = []; blocks = ((record { process = 0; first = 0; end = 8; result = (choice.Known result.Nothing) }) ∷ []); names = []; code = ((instr.Begin) ∷ (instr.Int (pos 1)) ∷ (instr.Cell 0) ∷ (instr.Peek) ∷ (instr.Int (pos 1)) ∷ (instr.Patch (choice.Known places.One)) ∷ (instr.Keep) ∷ (instr.Finish) ∷ []); first = 0 }

abbrev Says48 : Type 0
Says48 = (first_failure row48 ≡ (Some 5))

-- BIND of another shape
abbrev row49 : ImageParts
row49 = record { cells = []; events = ((choice.Known begins.Unlatched) ∷ (choice.Known (begins.Latched false)) ∷ []); common = []; processes = ((record { name = codes "P"; block = 0; places = ((record { repeat = 1; row = (place.Data kind.Single (value.Int (pos 1))) }) ∷ (record { repeat = 1; row = (place.Data (kind.Text 3) (value.Text (codes ""))) }) ∷ (record { repeat = 1; row = (place.Reference 0) }) ∷ (record { repeat = 1; row = (place.Reference 1) }) ∷ []) }) ∷ []); shapes = (((record { repeat = 1; row = kind.Single }) ∷ (record { repeat = 1; row = (kind.Text 3) }) ∷ []) ∷ ((record { repeat = 1; row = kind.Single }) ∷ (record { repeat = 1; row = (kind.Text 3) }) ∷ []) ∷ []); views = ((record { base = (base.Own 0); dimensions = []; target = (target.Cell kind.Single) }) ∷ (record { base = (base.Own 1); dimensions = []; target = (target.Cell (kind.Text 3)) }) ∷ (record { base = (base.Own 0); dimensions = []; target = (target.Shape 0) }) ∷ (record { base = (base.Through 2 1); dimensions = []; target = (target.Cell (kind.Text 3)) }) ∷ []); expressions = []; blocks = ((record { process = 0; first = 0; end = 4; result = (choice.Known result.Nothing) }) ∷ []); names = []; code = ((instr.Begin) ∷ (instr.Whole 2) ∷ (instr.Bind 3) ∷ (instr.Finish) ∷ []); first = 0 }

abbrev Says49 : Type 0
Says49 = (first_failure row49 ≡ (Some 2))

-- JUMPNOT of an integer
abbrev row50 : ImageParts
row50 = record { cells = []; events = ((choice.Known begins.Unlatched) ∷ (choice.Known (begins.Latched false)) ∷ []); common = []; processes = ((record { name = codes "P"; block = 0; places = ((record { repeat = 1; row = (place.Data kind.Single (value.Int (pos 1))) }) ∷ (record { repeat = 1; row = (place.Data (kind.Text 3) (value.Text (codes ""))) }) ∷ (record { repeat = 1; row = (place.Reference 0) }) ∷ []) }) ∷ []); shapes = (((record { repeat = 1; row = kind.Single }) ∷ (record { repeat = 1; row = (kind.Text 3) }) ∷ []) ∷ []); views = ((record { base = (base.Own 0); dimensions = []; target = (target.Cell kind.Single) }) ∷ (record { base = (base.Own 1); dimensions = []; target = (target.Cell (kind.Text 3)) }) ∷ (record { base = (base.Own 0); dimensions = []; target = (target.Shape 0) }) ∷ (record { base = (base.Through 2 1); dimensions = []; target = (target.Cell (kind.Text 3)) }) ∷ []); expressions = []; blocks = ((record { process = 0; first = 0; end = 4; result = (choice.Known result.Nothing) }) ∷ []); names = []; code = ((instr.Begin) ∷ (instr.Int (pos 1)) ∷ (instr.JumpNot 3) ∷ (instr.Finish) ∷ []); first = 0 }

abbrev Says50 : Type 0
Says50 = (first_failure row50 ≡ (Some 2))

-- a stack that is left behind FINISH
abbrev row51 : ImageParts
row51 = record { cells = []; events = ((choice.Known begins.Unlatched) ∷ (choice.Known (begins.Latched false)) ∷ []); common = []; processes = ((record { name = codes "P"; block = 0; places = ((record { repeat = 1; row = (place.Data kind.Single (value.Int (pos 1))) }) ∷ (record { repeat = 1; row = (place.Data (kind.Text 3) (value.Text (codes ""))) }) ∷ (record { repeat = 1; row = (place.Reference 0) }) ∷ []) }) ∷ []); shapes = (((record { repeat = 1; row = kind.Single }) ∷ (record { repeat = 1; row = (kind.Text 3) }) ∷ []) ∷ []); views = ((record { base = (base.Own 0); dimensions = []; target = (target.Cell kind.Single) }) ∷ (record { base = (base.Own 1); dimensions = []; target = (target.Cell (kind.Text 3)) }) ∷ (record { base = (base.Own 0); dimensions = []; target = (target.Shape 0) }) ∷ (record { base = (base.Through 2 1); dimensions = []; target = (target.Cell (kind.Text 3)) }) ∷ []); expressions = []; blocks = ((record { process = 0; first = 0; end = 3; result = (choice.Known result.Nothing) }) ∷ []); names = []; code = ((instr.Begin) ∷ (instr.Int (pos 1)) ∷ (instr.Finish) ∷ []); first = 0 }

abbrev Says51 : Type 0
Says51 = (first_failure row51 ≡ None)

-- a jump behind the block
abbrev row52 : ImageParts
row52 = record { cells = []; events = ((choice.Known begins.Unlatched) ∷ (choice.Known (begins.Latched false)) ∷ []); common = []; processes = ((record { name = codes "P"; block = 0; places = ((record { repeat = 1; row = (place.Data kind.Single (value.Int (pos 1))) }) ∷ (record { repeat = 1; row = (place.Data (kind.Text 3) (value.Text (codes ""))) }) ∷ (record { repeat = 1; row = (place.Reference 0) }) ∷ []) }) ∷ []); shapes = (((record { repeat = 1; row = kind.Single }) ∷ (record { repeat = 1; row = (kind.Text 3) }) ∷ []) ∷ []); views = ((record { base = (base.Own 0); dimensions = []; target = (target.Cell kind.Single) }) ∷ (record { base = (base.Own 1); dimensions = []; target = (target.Cell (kind.Text 3)) }) ∷ (record { base = (base.Own 0); dimensions = []; target = (target.Shape 0) }) ∷ (record { base = (base.Through 2 1); dimensions = []; target = (target.Cell (kind.Text 3)) }) ∷ []); expressions = []; blocks = ((record { process = 0; first = 0; end = 3; result = (choice.Known result.Nothing) }) ∷ []); names = []; code = ((instr.Begin) ∷ (instr.Jump 3) ∷ (instr.Finish) ∷ []); first = 0 }

abbrev Says52 : Type 0
Says52 = (first_failure row52 ≡ (Some 1))

-- a jump with an operand
abbrev row53 : ImageParts
row53 = record { cells = []; events = ((choice.Known begins.Unlatched) ∷ (choice.Known (begins.Latched false)) ∷ []); common = []; processes = ((record { name = codes "P"; block = 0; places = ((record { repeat = 1; row = (place.Data kind.Single (value.Int (pos 1))) }) ∷ (record { repeat = 1; row = (place.Data (kind.Text 3) (value.Text (codes ""))) }) ∷ (record { repeat = 1; row = (place.Reference 0) }) ∷ []) }) ∷ []); shapes = (((record { repeat = 1; row = kind.Single }) ∷ (record { repeat = 1; row = (kind.Text 3) }) ∷ []) ∷ []); views = ((record { base = (base.Own 0); dimensions = []; target = (target.Cell kind.Single) }) ∷ (record { base = (base.Own 1); dimensions = []; target = (target.Cell (kind.Text 3)) }) ∷ (record { base = (base.Own 0); dimensions = []; target = (target.Shape 0) }) ∷ (record { base = (base.Through 2 1); dimensions = []; target = (target.Cell (kind.Text 3)) }) ∷ []); expressions = []; blocks = ((record { process = 0; first = 0; end = 4; result = (choice.Known result.Nothing) }) ∷ []); names = []; code = ((instr.Begin) ∷ (instr.Int (pos 1)) ∷ (instr.Jump 3) ∷ (instr.Finish) ∷ []); first = 0 }

abbrev Says53 : Type 0
Says53 = (first_failure row53 ≡ (Some 2))

-- a jump to where an operand lies
abbrev row54 : ImageParts
row54 = record { cells = []; events = ((choice.Known begins.Unlatched) ∷ (choice.Known (begins.Latched false)) ∷ []); common = []; processes = ((record { name = codes "P"; block = 0; places = ((record { repeat = 1; row = (place.Data kind.Single (value.Int (pos 1))) }) ∷ (record { repeat = 1; row = (place.Data (kind.Text 3) (value.Text (codes ""))) }) ∷ (record { repeat = 1; row = (place.Reference 0) }) ∷ []) }) ∷ []); shapes = (((record { repeat = 1; row = kind.Single }) ∷ (record { repeat = 1; row = (kind.Text 3) }) ∷ []) ∷ []); views = ((record { base = (base.Own 0); dimensions = []; target = (target.Cell kind.Single) }) ∷ (record { base = (base.Own 1); dimensions = []; target = (target.Cell (kind.Text 3)) }) ∷ (record { base = (base.Own 0); dimensions = []; target = (target.Shape 0) }) ∷ (record { base = (base.Through 2 1); dimensions = []; target = (target.Cell (kind.Text 3)) }) ∷ []); expressions = []; blocks = ((record { process = 0; first = 0; end = 5; result = (choice.Known result.Nothing) }) ∷ []); names = []; code = ((instr.Begin) ∷ (instr.Jump 3) ∷ (instr.Int (pos 1)) ∷ (instr.Drop) ∷ (instr.Finish) ∷ []); first = 0 }

abbrev Says54 : Type 0
Says54 = (first_failure row54 ≡ (Some 1))

-- a jump back to no TURN
abbrev row55 : ImageParts
row55 = record { cells = []; events = ((choice.Known begins.Unlatched) ∷ (choice.Known (begins.Latched false)) ∷ []); common = []; processes = ((record { name = codes "P"; block = 0; places = ((record { repeat = 1; row = (place.Data kind.Single (value.Int (pos 1))) }) ∷ (record { repeat = 1; row = (place.Data (kind.Text 3) (value.Text (codes ""))) }) ∷ (record { repeat = 1; row = (place.Reference 0) }) ∷ []) }) ∷ []); shapes = (((record { repeat = 1; row = kind.Single }) ∷ (record { repeat = 1; row = (kind.Text 3) }) ∷ []) ∷ []); views = ((record { base = (base.Own 0); dimensions = []; target = (target.Cell kind.Single) }) ∷ (record { base = (base.Own 1); dimensions = []; target = (target.Cell (kind.Text 3)) }) ∷ (record { base = (base.Own 0); dimensions = []; target = (target.Shape 0) }) ∷ (record { base = (base.Through 2 1); dimensions = []; target = (target.Cell (kind.Text 3)) }) ∷ []); expressions = []; blocks = ((record { process = 0; first = 0; end = 5; result = (choice.Known result.Nothing) }) ∷ []); names = []; code = ((instr.Begin) ∷ (instr.ErrNum) ∷ (instr.Drop) ∷ (instr.Jump 1) ∷ (instr.Finish) ∷ []); first = 0 }

abbrev Says55 : Type 0
Says55 = (first_failure row55 ≡ (Some 3))

-- a jump back to a TURN
abbrev row56 : ImageParts
row56 = record { cells = []; events = ((choice.Known begins.Unlatched) ∷ (choice.Known (begins.Latched false)) ∷ []); common = []; processes = ((record { name = codes "P"; block = 0; places = ((record { repeat = 1; row = (place.Data kind.Single (value.Int (pos 1))) }) ∷ (record { repeat = 1; row = (place.Data (kind.Text 3) (value.Text (codes ""))) }) ∷ (record { repeat = 1; row = (place.Reference 0) }) ∷ []) }) ∷ []); shapes = (((record { repeat = 1; row = kind.Single }) ∷ (record { repeat = 1; row = (kind.Text 3) }) ∷ []) ∷ []); views = ((record { base = (base.Own 0); dimensions = []; target = (target.Cell kind.Single) }) ∷ (record { base = (base.Own 1); dimensions = []; target = (target.Cell (kind.Text 3)) }) ∷ (record { base = (base.Own 0); dimensions = []; target = (target.Shape 0) }) ∷ (record { base = (base.Through 2 1); dimensions = []; target = (target.Cell (kind.Text 3)) }) ∷ []); expressions = []; blocks = ((record { process = 0; first = 0; end = 4; result = (choice.Known result.Nothing) }) ∷ []); names = []; code = ((instr.Begin) ∷ (instr.Turn 3) ∷ (instr.Jump 1) ∷ (instr.Finish) ∷ []); first = 0 }

abbrev Says56 : Type 0
Says56 = (first_failure row56 ≡ None)

-- a jump back to a TURN that leads to it
abbrev row57 : ImageParts
row57 = record { cells = []; events = ((choice.Known begins.Unlatched) ∷ (choice.Known (begins.Latched false)) ∷ []); common = []; processes = ((record { name = codes "P"; block = 0; places = ((record { repeat = 1; row = (place.Data kind.Single (value.Int (pos 1))) }) ∷ (record { repeat = 1; row = (place.Data (kind.Text 3) (value.Text (codes ""))) }) ∷ (record { repeat = 1; row = (place.Reference 0) }) ∷ []) }) ∷ []); shapes = (((record { repeat = 1; row = kind.Single }) ∷ (record { repeat = 1; row = (kind.Text 3) }) ∷ []) ∷ []); views = ((record { base = (base.Own 0); dimensions = []; target = (target.Cell kind.Single) }) ∷ (record { base = (base.Own 1); dimensions = []; target = (target.Cell (kind.Text 3)) }) ∷ (record { base = (base.Own 0); dimensions = []; target = (target.Shape 0) }) ∷ (record { base = (base.Through 2 1); dimensions = []; target = (target.Cell (kind.Text 3)) }) ∷ []); expressions = []; blocks = ((record { process = 0; first = 0; end = 4; result = (choice.Known result.Nothing) }) ∷ []); names = []; code = ((instr.Begin) ∷ (instr.Turn 2) ∷ (instr.Jump 1) ∷ (instr.Finish) ∷ []); first = 0 }

abbrev Says57 : Type 0
Says57 = (first_failure row57 ≡ (Some 2))

-- a TURN that leads back
abbrev row58 : ImageParts
row58 = record { cells = []; events = ((choice.Known begins.Unlatched) ∷ (choice.Known (begins.Latched false)) ∷ []); common = []; processes = ((record { name = codes "P"; block = 0; places = ((record { repeat = 1; row = (place.Data kind.Single (value.Int (pos 1))) }) ∷ (record { repeat = 1; row = (place.Data (kind.Text 3) (value.Text (codes ""))) }) ∷ (record { repeat = 1; row = (place.Reference 0) }) ∷ []) }) ∷ []); shapes = (((record { repeat = 1; row = kind.Single }) ∷ (record { repeat = 1; row = (kind.Text 3) }) ∷ []) ∷ []); views = ((record { base = (base.Own 0); dimensions = []; target = (target.Cell kind.Single) }) ∷ (record { base = (base.Own 1); dimensions = []; target = (target.Cell (kind.Text 3)) }) ∷ (record { base = (base.Own 0); dimensions = []; target = (target.Shape 0) }) ∷ (record { base = (base.Through 2 1); dimensions = []; target = (target.Cell (kind.Text 3)) }) ∷ []); expressions = []; blocks = ((record { process = 0; first = 0; end = 4; result = (choice.Known result.Nothing) }) ∷ []); names = []; code = ((instr.Begin) ∷ (instr.Jump 2) ∷ (instr.Turn 1) ∷ (instr.Finish) ∷ []); first = 0 }

abbrev Says58 : Type 0
Says58 = (first_failure row58 ≡ (Some 2))

-- a statement of ON at an operand
abbrev row59 : ImageParts
row59 = record { cells = []; events = ((choice.Known begins.Unlatched) ∷ (choice.Known (begins.Latched false)) ∷ []); common = []; processes = ((record { name = codes "P"; block = 0; places = ((record { repeat = 1; row = (place.Data kind.Single (value.Int (pos 1))) }) ∷ (record { repeat = 1; row = (place.Data (kind.Text 3) (value.Text (codes ""))) }) ∷ (record { repeat = 1; row = (place.Reference 0) }) ∷ []) }) ∷ []); shapes = (((record { repeat = 1; row = kind.Single }) ∷ (record { repeat = 1; row = (kind.Text 3) }) ∷ []) ∷ []); views = ((record { base = (base.Own 0); dimensions = []; target = (target.Cell kind.Single) }) ∷ (record { base = (base.Own 1); dimensions = []; target = (target.Cell (kind.Text 3)) }) ∷ (record { base = (base.Own 0); dimensions = []; target = (target.Shape 0) }) ∷ (record { base = (base.Through 2 1); dimensions = []; target = (target.Cell (kind.Text 3)) }) ∷ []); expressions = []; blocks = ((record { process = 0; first = 0; end = 5; result = (choice.Known result.Nothing) }) ∷ []); names = []; code = ((instr.Begin) ∷ (instr.On 7 0 (choice.Known response.Statement) (choice.Known change.Nothing) 0 3) ∷ (instr.Int (pos 1)) ∷ (instr.Drop) ∷ (instr.Finish) ∷ []); first = 0 }

abbrev Says59 : Type 0
Says59 = (first_failure row59 ≡ (Some 1))

-- a statement of ON in another block
abbrev row60 : ImageParts
row60 = record { cells = []; events = ((choice.Known begins.Unlatched) ∷ (choice.Known (begins.Latched false)) ∷ []); common = []; processes = ((record { name = codes "P"; block = 0; places = ((record { repeat = 1; row = (place.Data kind.Single (value.Int (pos 1))) }) ∷ (record { repeat = 1; row = (place.Data (kind.Text 3) (value.Text (codes ""))) }) ∷ (record { repeat = 1; row = (place.Reference 0) }) ∷ []) }) ∷ []); shapes = (((record { repeat = 1; row = kind.Single }) ∷ (record { repeat = 1; row = (kind.Text 3) }) ∷ []) ∷ []); views = ((record { base = (base.Own 0); dimensions = []; target = (target.Cell kind.Single) }) ∷ (record { base = (base.Own 1); dimensions = []; target = (target.Cell (kind.Text 3)) }) ∷ (record { base = (base.Own 0); dimensions = []; target = (target.Shape 0) }) ∷ (record { base = (base.Through 2 1); dimensions = []; target = (target.Cell (kind.Text 3)) }) ∷ []); expressions = []; blocks = ((record { process = 0; first = 0; end = 3; result = (choice.Known result.Nothing) }) ∷ []); names = []; code = ((instr.Begin) ∷ (instr.On 7 0 (choice.Known response.Statement) (choice.Known change.Nothing) 0 9) ∷ (instr.Finish) ∷ []); first = 0 }

abbrev Says60 : Type 0
Says60 = (first_failure row60 ≡ (Some 1))

-- CLOSE without OPEN
abbrev row61 : ImageParts
row61 = record { cells = []; events = ((choice.Known begins.Unlatched) ∷ (choice.Known (begins.Latched false)) ∷ []); common = []; processes = ((record { name = codes "P"; block = 0; places = ((record { repeat = 1; row = (place.Data kind.Single (value.Int (pos 1))) }) ∷ (record { repeat = 1; row = (place.Data (kind.Text 3) (value.Text (codes ""))) }) ∷ (record { repeat = 1; row = (place.Reference 0) }) ∷ []) }) ∷ []); shapes = (((record { repeat = 1; row = kind.Single }) ∷ (record { repeat = 1; row = (kind.Text 3) }) ∷ []) ∷ []); views = ((record { base = (base.Own 0); dimensions = []; target = (target.Cell kind.Single) }) ∷ (record { base = (base.Own 1); dimensions = []; target = (target.Cell (kind.Text 3)) }) ∷ (record { base = (base.Own 0); dimensions = []; target = (target.Shape 0) }) ∷ (record { base = (base.Through 2 1); dimensions = []; target = (target.Cell (kind.Text 3)) }) ∷ []); expressions = []; blocks = ((record { process = 0; first = 0; end = 3; result = (choice.Known result.Nothing) }) ∷ []); names = []; code = ((instr.Begin) ∷ (instr.Close) ∷ (instr.Finish) ∷ []); first = 0 }

abbrev Says61 : Type 0
Says61 = (first_failure row61 ≡ (Some 1))

-- OPEN in an UPDATE block
abbrev row62 : ImageParts
row62 = record { cells = []; events = ((choice.Known begins.Unlatched) ∷ (choice.Known (begins.Latched false)) ∷ []); common = []; processes = ((record { name = codes "P"; block = 0; places = ((record { repeat = 1; row = (place.Data kind.Single (value.Int (pos 1))) }) ∷ (record { repeat = 1; row = (place.Data (kind.Text 3) (value.Text (codes ""))) }) ∷ (record { repeat = 1; row = (place.Reference 0) }) ∷ []) }) ∷ []); shapes = (((record { repeat = 1; row = kind.Single }) ∷ (record { repeat = 1; row = (kind.Text 3) }) ∷ []) ∷ []); views = ((record { base = (base.Own 0); dimensions = []; target = (target.Cell kind.Single) }) ∷ (record { base = (base.Own 1); dimensions = []; target = (target.Cell (kind.Text 3)) }) ∷ (record { base = (base.Own 0); dimensions = []; target = (target.Shape 0) }) ∷ (record { base = (base.Through 2 1); dimensions = []; target = (target.Cell (kind.Text 3)) }) ∷ []); expressions = []; blocks = ((record { process = 0; first = 0; end = 5; result = (choice.Known result.Nothing) }) ∷ []); names = []; code = ((instr.Begin) ∷ (instr.Open 0) ∷ (instr.Open 0) ∷ (instr.Close) ∷ (instr.Finish) ∷ []); first = 0 }

abbrev Says62 : Type 0
Says62 = (first_failure row62 ≡ (Some 2))

-- PRINT in an UPDATE block
abbrev row63 : ImageParts
row63 = record { cells = []; events = ((choice.Known begins.Unlatched) ∷ (choice.Known (begins.Latched false)) ∷ []); common = []; processes = ((record { name = codes "P"; block = 0; places = ((record { repeat = 1; row = (place.Data kind.Single (value.Int (pos 1))) }) ∷ (record { repeat = 1; row = (place.Data (kind.Text 3) (value.Text (codes ""))) }) ∷ (record { repeat = 1; row = (place.Reference 0) }) ∷ []) }) ∷ []); shapes = (((record { repeat = 1; row = kind.Single }) ∷ (record { repeat = 1; row = (kind.Text 3) }) ∷ []) ∷ []); views = ((record { base = (base.Own 0); dimensions = []; target = (target.Cell kind.Single) }) ∷ (record { base = (base.Own 1); dimensions = []; target = (target.Cell (kind.Text 3)) }) ∷ (record { base = (base.Own 0); dimensions = []; target = (target.Shape 0) }) ∷ (record { base = (base.Through 2 1); dimensions = []; target = (target.Cell (kind.Text 3)) }) ∷ []); expressions = []; blocks = ((record { process = 0; first = 0; end = 5; result = (choice.Known result.Nothing) }) ∷ []); names = []; code = ((instr.Begin) ∷ (instr.Open 0) ∷ (instr.Print 6) ∷ (instr.Close) ∷ (instr.Finish) ∷ []); first = 0 }

abbrev Says63 : Type 0
Says63 = (first_failure row63 ≡ (Some 2))

-- ITEM in an UPDATE block
abbrev row64 : ImageParts
row64 = record { cells = []; events = ((choice.Known begins.Unlatched) ∷ (choice.Known (begins.Latched false)) ∷ []); common = []; processes = ((record { name = codes "P"; block = 0; places = ((record { repeat = 1; row = (place.Data kind.Single (value.Int (pos 1))) }) ∷ (record { repeat = 1; row = (place.Data (kind.Text 3) (value.Text (codes ""))) }) ∷ (record { repeat = 1; row = (place.Reference 0) }) ∷ []) }) ∷ []); shapes = (((record { repeat = 1; row = kind.Single }) ∷ (record { repeat = 1; row = (kind.Text 3) }) ∷ []) ∷ []); views = ((record { base = (base.Own 0); dimensions = []; target = (target.Cell kind.Single) }) ∷ (record { base = (base.Own 1); dimensions = []; target = (target.Cell (kind.Text 3)) }) ∷ (record { base = (base.Own 0); dimensions = []; target = (target.Shape 0) }) ∷ (record { base = (base.Through 2 1); dimensions = []; target = (target.Cell (kind.Text 3)) }) ∷ []); expressions = []; blocks = ((record { process = 0; first = 0; end = 6; result = (choice.Known result.Nothing) }) ∷ []); names = []; code = ((instr.Begin) ∷ (instr.Open 0) ∷ (instr.Int (pos 1)) ∷ (instr.Item) ∷ (instr.Close) ∷ (instr.Finish) ∷ []); first = 0 }

abbrev Says64 : Type 0
Says64 = (first_failure row64 ≡ None)

-- an UPDATE block that stays open
abbrev row65 : ImageParts
row65 = record { cells = []; events = ((choice.Known begins.Unlatched) ∷ (choice.Known (begins.Latched false)) ∷ []); common = []; processes = ((record { name = codes "P"; block = 0; places = ((record { repeat = 1; row = (place.Data kind.Single (value.Int (pos 1))) }) ∷ (record { repeat = 1; row = (place.Data (kind.Text 3) (value.Text (codes ""))) }) ∷ (record { repeat = 1; row = (place.Reference 0) }) ∷ []) }) ∷ []); shapes = (((record { repeat = 1; row = kind.Single }) ∷ (record { repeat = 1; row = (kind.Text 3) }) ∷ []) ∷ []); views = ((record { base = (base.Own 0); dimensions = []; target = (target.Cell kind.Single) }) ∷ (record { base = (base.Own 1); dimensions = []; target = (target.Cell (kind.Text 3)) }) ∷ (record { base = (base.Own 0); dimensions = []; target = (target.Shape 0) }) ∷ (record { base = (base.Through 2 1); dimensions = []; target = (target.Cell (kind.Text 3)) }) ∷ []); expressions = []; blocks = ((record { process = 0; first = 0; end = 3; result = (choice.Known result.Nothing) }) ∷ []); names = []; code = ((instr.Begin) ∷ (instr.Open 0) ∷ (instr.Finish) ∷ []); first = 0 }

abbrev Says65 : Type 0
Says65 = (first_failure row65 ≡ (Some 2))

-- a jump out of an UPDATE block
abbrev row66 : ImageParts
row66 = record { cells = []; events = ((choice.Known begins.Unlatched) ∷ (choice.Known (begins.Latched false)) ∷ []); common = []; processes = ((record { name = codes "P"; block = 0; places = ((record { repeat = 1; row = (place.Data kind.Single (value.Int (pos 1))) }) ∷ (record { repeat = 1; row = (place.Data (kind.Text 3) (value.Text (codes ""))) }) ∷ (record { repeat = 1; row = (place.Reference 0) }) ∷ []) }) ∷ []); shapes = (((record { repeat = 1; row = kind.Single }) ∷ (record { repeat = 1; row = (kind.Text 3) }) ∷ []) ∷ []); views = ((record { base = (base.Own 0); dimensions = []; target = (target.Cell kind.Single) }) ∷ (record { base = (base.Own 1); dimensions = []; target = (target.Cell (kind.Text 3)) }) ∷ (record { base = (base.Own 0); dimensions = []; target = (target.Shape 0) }) ∷ (record { base = (base.Through 2 1); dimensions = []; target = (target.Cell (kind.Text 3)) }) ∷ []); expressions = []; blocks = ((record { process = 0; first = 0; end = 5; result = (choice.Known result.Nothing) }) ∷ []); names = []; code = ((instr.Begin) ∷ (instr.Open 0) ∷ (instr.Jump 4) ∷ (instr.Close) ∷ (instr.Finish) ∷ []); first = 0 }

abbrev Says66 : Type 0
Says66 = (first_failure row66 ≡ (Some 2))

-- a jump within an UPDATE block
abbrev row67 : ImageParts
row67 = record { cells = []; events = ((choice.Known begins.Unlatched) ∷ (choice.Known (begins.Latched false)) ∷ []); common = []; processes = ((record { name = codes "P"; block = 0; places = ((record { repeat = 1; row = (place.Data kind.Single (value.Int (pos 1))) }) ∷ (record { repeat = 1; row = (place.Data (kind.Text 3) (value.Text (codes ""))) }) ∷ (record { repeat = 1; row = (place.Reference 0) }) ∷ []) }) ∷ []); shapes = (((record { repeat = 1; row = kind.Single }) ∷ (record { repeat = 1; row = (kind.Text 3) }) ∷ []) ∷ []); views = ((record { base = (base.Own 0); dimensions = []; target = (target.Cell kind.Single) }) ∷ (record { base = (base.Own 1); dimensions = []; target = (target.Cell (kind.Text 3)) }) ∷ (record { base = (base.Own 0); dimensions = []; target = (target.Shape 0) }) ∷ (record { base = (base.Through 2 1); dimensions = []; target = (target.Cell (kind.Text 3)) }) ∷ []); expressions = []; blocks = ((record { process = 0; first = 0; end = 5; result = (choice.Known result.Nothing) }) ∷ []); names = []; code = ((instr.Begin) ∷ (instr.Open 0) ∷ (instr.Jump 3) ∷ (instr.Close) ∷ (instr.Finish) ∷ []); first = 0 }

abbrev Says67 : Type 0
Says67 = (first_failure row67 ≡ None)

-- a statement of ON across OPEN
abbrev row68 : ImageParts
row68 = record { cells = []; events = ((choice.Known begins.Unlatched) ∷ (choice.Known (begins.Latched false)) ∷ []); common = []; processes = ((record { name = codes "P"; block = 0; places = ((record { repeat = 1; row = (place.Data kind.Single (value.Int (pos 1))) }) ∷ (record { repeat = 1; row = (place.Data (kind.Text 3) (value.Text (codes ""))) }) ∷ (record { repeat = 1; row = (place.Reference 0) }) ∷ []) }) ∷ []); shapes = (((record { repeat = 1; row = kind.Single }) ∷ (record { repeat = 1; row = (kind.Text 3) }) ∷ []) ∷ []); views = ((record { base = (base.Own 0); dimensions = []; target = (target.Cell kind.Single) }) ∷ (record { base = (base.Own 1); dimensions = []; target = (target.Cell (kind.Text 3)) }) ∷ (record { base = (base.Own 0); dimensions = []; target = (target.Shape 0) }) ∷ (record { base = (base.Through 2 1); dimensions = []; target = (target.Cell (kind.Text 3)) }) ∷ []); expressions = []; blocks = ((record { process = 0; first = 0; end = 5; result = (choice.Known result.Nothing) }) ∷ []); names = []; code = ((instr.Begin) ∷ (instr.On 7 0 (choice.Known response.Statement) (choice.Known change.Nothing) 0 3) ∷ (instr.Open 0) ∷ (instr.Close) ∷ (instr.Finish) ∷ []); first = 0 }

abbrev Says68 : Type 0
Says68 = (first_failure row68 ≡ (Some 1))

-- BEGIN again
abbrev row69 : ImageParts
row69 = record { cells = []; events = ((choice.Known begins.Unlatched) ∷ (choice.Known (begins.Latched false)) ∷ []); common = []; processes = ((record { name = codes "P"; block = 0; places = ((record { repeat = 1; row = (place.Data kind.Single (value.Int (pos 1))) }) ∷ (record { repeat = 1; row = (place.Data (kind.Text 3) (value.Text (codes ""))) }) ∷ (record { repeat = 1; row = (place.Reference 0) }) ∷ []) }) ∷ []); shapes = (((record { repeat = 1; row = kind.Single }) ∷ (record { repeat = 1; row = (kind.Text 3) }) ∷ []) ∷ []); views = ((record { base = (base.Own 0); dimensions = []; target = (target.Cell kind.Single) }) ∷ (record { base = (base.Own 1); dimensions = []; target = (target.Cell (kind.Text 3)) }) ∷ (record { base = (base.Own 0); dimensions = []; target = (target.Shape 0) }) ∷ (record { base = (base.Through 2 1); dimensions = []; target = (target.Cell (kind.Text 3)) }) ∷ []); expressions = []; blocks = ((record { process = 0; first = 0; end = 3; result = (choice.Known result.Nothing) }) ∷ []); names = []; code = ((instr.Begin) ∷ (instr.Begin) ∷ (instr.Finish) ∷ []); first = 0 }

abbrev Says69 : Type 0
Says69 = (first_failure row69 ≡ (Some 1))

-- FINISH twice
abbrev row70 : ImageParts
row70 = record { cells = []; events = ((choice.Known begins.Unlatched) ∷ (choice.Known (begins.Latched false)) ∷ []); common = []; processes = ((record { name = codes "P"; block = 0; places = ((record { repeat = 1; row = (place.Data kind.Single (value.Int (pos 1))) }) ∷ (record { repeat = 1; row = (place.Data (kind.Text 3) (value.Text (codes ""))) }) ∷ (record { repeat = 1; row = (place.Reference 0) }) ∷ []) }) ∷ []); shapes = (((record { repeat = 1; row = kind.Single }) ∷ (record { repeat = 1; row = (kind.Text 3) }) ∷ []) ∷ []); views = ((record { base = (base.Own 0); dimensions = []; target = (target.Cell kind.Single) }) ∷ (record { base = (base.Own 1); dimensions = []; target = (target.Cell (kind.Text 3)) }) ∷ (record { base = (base.Own 0); dimensions = []; target = (target.Shape 0) }) ∷ (record { base = (base.Through 2 1); dimensions = []; target = (target.Cell (kind.Text 3)) }) ∷ []); expressions = []; blocks = ((record { process = 0; first = 0; end = 3; result = (choice.Known result.Nothing) }) ∷ []); names = []; code = ((instr.Begin) ∷ (instr.Finish) ∷ (instr.Finish) ∷ []); first = 0 }

abbrev Says70 : Type 0
Says70 = (first_failure row70 ≡ None)

-- RETURN in a block of a process
abbrev row71 : ImageParts
row71 = record { cells = []; events = ((choice.Known begins.Unlatched) ∷ (choice.Known (begins.Latched false)) ∷ []); common = []; processes = ((record { name = codes "P"; block = 0; places = ((record { repeat = 1; row = (place.Data kind.Single (value.Int (pos 1))) }) ∷ (record { repeat = 1; row = (place.Data (kind.Text 3) (value.Text (codes ""))) }) ∷ (record { repeat = 1; row = (place.Reference 0) }) ∷ []) }) ∷ []); shapes = (((record { repeat = 1; row = kind.Single }) ∷ (record { repeat = 1; row = (kind.Text 3) }) ∷ []) ∷ []); views = ((record { base = (base.Own 0); dimensions = []; target = (target.Cell kind.Single) }) ∷ (record { base = (base.Own 1); dimensions = []; target = (target.Cell (kind.Text 3)) }) ∷ (record { base = (base.Own 0); dimensions = []; target = (target.Shape 0) }) ∷ (record { base = (base.Through 2 1); dimensions = []; target = (target.Cell (kind.Text 3)) }) ∷ []); expressions = []; blocks = ((record { process = 0; first = 0; end = 3; result = (choice.Known result.Nothing) }) ∷ []); names = []; code = ((instr.Begin) ∷ (instr.Return) ∷ (instr.Finish) ∷ []); first = 0 }

abbrev Says71 : Type 0
Says71 = (first_failure row71 ≡ (Some 1))

-- no BEGIN
abbrev row72 : ImageParts
row72 = record { cells = []; events = []; common = []; processes = ((record { name = codes "P"; block = 0; places = [] }) ∷ []); shapes = []; views = []; expressions = []; blocks = ((record { process = 0; first = 0; end = 1; result = (choice.Known result.Nothing) }) ∷ []); names = []; code = ((instr.Finish) ∷ []); first = 0 }

abbrev Says72 : Type 0
Says72 = (first_failure row72 ≡ (Some 0))

-- a block that ends in its midst
abbrev row73 : ImageParts
row73 = record { cells = []; events = []; common = []; processes = ((record { name = codes "P"; block = 0; places = [] }) ∷ []); shapes = []; views = []; expressions = []; blocks = ((record { process = 0; first = 0; end = 2; result = (choice.Known result.Nothing) }) ∷ []); names = []; code = ((instr.Begin) ∷ (instr.ErrNum) ∷ []); first = 0 }

abbrev Says73 : Type 0
Says73 = (first_failure row73 ≡ (Some 1))

-- a call of a later block
abbrev row74 : ImageParts
row74 = record { cells = []; events = []; common = []; processes = ((record { name = codes "P"; block = 0; places = [] }) ∷ []); shapes = []; views = []; expressions = []; blocks = ((record { process = 0; first = 0; end = 3; result = (choice.Known result.Nothing) }) ∷ (record { process = 0; first = 3; end = 4; result = (choice.Known result.Nothing) }) ∷ []); names = []; code = ((instr.Begin) ∷ (instr.Call 1) ∷ (instr.Finish) ∷ (instr.Return) ∷ []); first = 0 }

abbrev Says74 : Type 0
Says74 = (first_failure row74 ≡ (Some 1))

-- a call of a block of the process
abbrev row75 : ImageParts
row75 = record { cells = []; events = []; common = []; processes = ((record { name = codes "P"; block = 1; places = [] }) ∷ []); shapes = []; views = []; expressions = []; blocks = ((record { process = 0; first = 0; end = 1; result = (choice.Known result.Nothing) }) ∷ (record { process = 0; first = 1; end = 4; result = (choice.Known result.Nothing) }) ∷ []); names = []; code = ((instr.Return) ∷ (instr.Begin) ∷ (instr.Call 0) ∷ (instr.Finish) ∷ []); first = 0 }

abbrev Says75 : Type 0
Says75 = (first_failure row75 ≡ None)

-- a call of a common block
abbrev row76 : ImageParts
row76 = record { cells = []; events = []; common = []; processes = ((record { name = codes "P"; block = 1; places = [] }) ∷ []); shapes = []; views = []; expressions = []; blocks = ((record { process = 255; first = 0; end = 1; result = (choice.Known result.Nothing) }) ∷ (record { process = 0; first = 1; end = 4; result = (choice.Known result.Nothing) }) ∷ []); names = []; code = ((instr.Return) ∷ (instr.Begin) ∷ (instr.Call 0) ∷ (instr.Finish) ∷ []); first = 0 }

abbrev Says76 : Type 0
Says76 = (first_failure row76 ≡ None)

-- a call of a block of another process
abbrev row77 : ImageParts
row77 = record { cells = []; events = []; common = []; processes = ((record { name = codes "P"; block = 0; places = [] }) ∷ (record { name = codes "Q"; block = 1; places = [] }) ∷ []); shapes = []; views = []; expressions = []; blocks = ((record { process = 0; first = 0; end = 2; result = (choice.Known result.Nothing) }) ∷ (record { process = 1; first = 2; end = 5; result = (choice.Known result.Nothing) }) ∷ []); names = []; code = ((instr.Begin) ∷ (instr.Finish) ∷ (instr.Begin) ∷ (instr.Call 0) ∷ (instr.Finish) ∷ []); first = 0 }

abbrev Says77 : Type 0
Says77 = (first_failure row77 ≡ (Some 3))

-- a call in an UPDATE block of a block that prints
abbrev row78 : ImageParts
row78 = record { cells = []; events = []; common = []; processes = ((record { name = codes "P"; block = 1; places = [] }) ∷ []); shapes = []; views = []; expressions = []; blocks = ((record { process = 0; first = 0; end = 3; result = (choice.Known result.Nothing) }) ∷ (record { process = 0; first = 3; end = 8; result = (choice.Known result.Nothing) }) ∷ []); names = []; code = ((instr.Print 6) ∷ (instr.Return) ∷ (instr.Return) ∷ (instr.Begin) ∷ (instr.Open 0) ∷ (instr.Call 0) ∷ (instr.Close) ∷ (instr.Finish) ∷ []); first = 0 }

abbrev Says78 : Type 0
Says78 = (first_failure row78 ≡ (Some 5))

-- a call in an UPDATE block of a block that calls one that prints
abbrev row79 : ImageParts
row79 = record { cells = []; events = []; common = []; processes = ((record { name = codes "P"; block = 2; places = [] }) ∷ []); shapes = []; views = []; expressions = []; blocks = ((record { process = 0; first = 0; end = 2; result = (choice.Known result.Nothing) }) ∷ (record { process = 0; first = 2; end = 4; result = (choice.Known result.Nothing) }) ∷ (record { process = 0; first = 4; end = 9; result = (choice.Known result.Nothing) }) ∷ []); names = []; code = ((instr.Print 6) ∷ (instr.Return) ∷ (instr.Call 0) ∷ (instr.Return) ∷ (instr.Begin) ∷ (instr.Open 0) ∷ (instr.Call 1) ∷ (instr.Close) ∷ (instr.Finish) ∷ []); first = 0 }

abbrev Says79 : Type 0
Says79 = (first_failure row79 ≡ (Some 6))

-- a result that is not there
abbrev row80 : ImageParts
row80 = record { cells = []; events = []; common = []; processes = ((record { name = codes "P"; block = 1; places = [] }) ∷ []); shapes = []; views = []; expressions = []; blocks = ((record { process = 0; first = 0; end = 1; result = (choice.Known result.Integer) }) ∷ (record { process = 0; first = 1; end = 3; result = (choice.Known result.Nothing) }) ∷ []); names = []; code = ((instr.Return) ∷ (instr.Begin) ∷ (instr.Finish) ∷ []); first = 0 }

abbrev Says80 : Type 0
Says80 = (first_failure row80 ≡ (Some 0))

-- a result of another kind
abbrev row81 : ImageParts
row81 = record { cells = []; events = []; common = []; processes = ((record { name = codes "P"; block = 1; places = [] }) ∷ []); shapes = []; views = []; expressions = []; blocks = ((record { process = 0; first = 0; end = 2; result = (choice.Known result.Integer) }) ∷ (record { process = 0; first = 2; end = 4; result = (choice.Known result.Nothing) }) ∷ []); names = []; code = ((instr.Text (codes "A")) ∷ (instr.Return) ∷ (instr.Begin) ∷ (instr.Finish) ∷ []); first = 0 }

abbrev Says81 : Type 0
Says81 = (first_failure row81 ≡ (Some 1))

-- a common block that names the own place of a process
abbrev row82 : ImageParts
row82 = record { cells = []; events = []; common = []; processes = ((record { name = codes "P"; block = 1; places = ((record { repeat = 1; row = (place.Data kind.Single (value.Int (pos 1))) }) ∷ []) }) ∷ []); shapes = []; views = ((record { base = (base.Own 0); dimensions = []; target = (target.Cell kind.Single) }) ∷ []); expressions = []; blocks = ((record { process = 255; first = 0; end = 4; result = (choice.Known result.Nothing) }) ∷ (record { process = 0; first = 4; end = 6; result = (choice.Known result.Nothing) }) ∷ []); names = []; code = ((instr.Cell 0) ∷ (instr.Fetch) ∷ (instr.Drop) ∷ (instr.Return) ∷ (instr.Begin) ∷ (instr.Finish) ∷ []); first = 0 }

abbrev Says82 : Type 0
Says82 = (first_failure row82 ≡ (Some 0))

-- a common block that names a common place
abbrev row83 : ImageParts
row83 = record { cells = []; events = []; common = ((record { repeat = 1; row = (place.Data kind.Single (value.Int (pos 1))) }) ∷ []); processes = ((record { name = codes "P"; block = 1; places = ((record { repeat = 1; row = (place.Data kind.Single (value.Int (pos 1))) }) ∷ []) }) ∷ []); shapes = []; views = ((record { base = (base.Own 0); dimensions = []; target = (target.Cell kind.Single) }) ∷ []); expressions = []; blocks = ((record { process = 255; first = 0; end = 4; result = (choice.Known result.Nothing) }) ∷ (record { process = 0; first = 4; end = 6; result = (choice.Known result.Nothing) }) ∷ []); names = []; code = ((instr.Cell 0) ∷ (instr.Fetch) ∷ (instr.Drop) ∷ (instr.Return) ∷ (instr.Begin) ∷ (instr.Finish) ∷ []); first = 0 }

abbrev Says83 : Type 0
Says83 = (first_failure row83 ≡ None)

pub all_say : Says1 × Says2 × Says3 × Says4 × Says5 × Says6 × Says7 × Says8 × Says9 × Says10 × Says11 × Says12 × Says13 × Says14 × Says15 × Says16 × Says17 × Says18 × Says19 × Says20 × Says21 × Says22 × Says23 × Says24 × Says25 × Says26 × Says27 × Says28 × Says29 × Says30 × Says31 × Says32 × Says33 × Says34 × Says35 × Says36 × Says37 × Says38 × Says39 × Says40 × Says41 × Says42 × Says43 × Says44 × Says45 × Says46 × Says47 × Says48 × Says49 × Says50 × Says51 × Says52 × Says53 × Says54 × Says55 × Says56 × Says57 × Says58 × Says59 × Says60 × Says61 × Says62 × Says63 × Says64 × Says65 × Says66 × Says67 × Says68 × Says69 × Says70 × Says71 × Says72 × Says73 × Says74 × Says75 × Says76 × Says77 × Says78 × Says79 × Says80 × Says81 × Says82 × Says83
unfolding digits states_ofkinds.is_of
all_say = (refl, refl, refl, refl, refl, refl, refl, refl, refl, refl, refl, refl, refl, refl, refl, refl, refl, refl, refl, refl, refl, refl, refl, refl, refl, refl, refl, refl, refl, refl, refl, refl, refl, refl, refl, refl, refl, refl, refl, refl, refl, refl, refl, refl, refl, refl, refl, refl, refl, refl, refl, refl, refl, refl, refl, refl, refl, refl, refl, refl, refl, refl, refl, refl, refl, refl, refl, refl, refl, refl, refl, refl, refl, refl, refl, refl, refl, refl, refl, refl, refl, refl, refl)
