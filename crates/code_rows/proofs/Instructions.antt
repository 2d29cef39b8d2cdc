-- Rows of instructions.txt, written by tools/code_rows.
use Rattle.std.specs.Prelude.{◌≡◌, ℕ, List, [], ◌∷◌, Some, None, pos, negsuc, true, false, codes}
use Rattle.std.specs.Fmt.{digits}
use Rattle.std.proofs.Common.{refl}
use Rattle.hal_values.specs.declared.value.Kind.TheVariants as kind
use Rattle.hal_values.specs.declared.value.Value.TheVariants as value
use Rattle.hal_values.specs.declared.tables.EventStart.TheVariants as begins
use Rattle.hal_values.specs.declared.tables.Item.TheVariants as item
use Rattle.hal_values.specs.declared.tables.ReportBase.TheVariants as named
use Rattle.hal_operations.specs.declared.operation.Op1.TheVariants as op1
use Rattle.hal_operations.specs.declared.operation.Op2.TheVariants as op2
use Rattle.exec_model.specs.declared.script.ScriptLine.TheVariants as line
use Rattle.hal_code.specs.declared.choice.Choice.TheVariants as choice
use Rattle.hal_code.specs.declared.image.ImageParts.{ImageParts}
use Rattle.hal_code.specs.declared.instr.Instr.TheVariants as instr
use Rattle.hal_code.specs.declared.operand.Time.TheVariants as time
use Rattle.hal_code.specs.declared.operand.Start.TheVariants as start
use Rattle.hal_code.specs.declared.operand.Round.TheVariants as round
use Rattle.hal_code.specs.declared.operand.Limit.TheVariants as limit
use Rattle.hal_code.specs.declared.operand.Delay.TheVariants as delay
use Rattle.hal_code.specs.declared.operand.Places.TheVariants as places
use Rattle.hal_code.specs.declared.operand.Response.TheVariants as response
use Rattle.hal_code.specs.declared.operand.EventChange.TheVariants as change
use Rattle.hal_code.specs.declared.row.Base.TheVariants as base
use Rattle.hal_code.specs.declared.row.OwnPlace.TheVariants as place
use Rattle.hal_code.specs.declared.row.ResultKind.TheVariants as result
use Rattle.hal_code.specs.declared.row.Target.TheVariants as target
use Rattle.hal_code.specs.Right.{first_failure}
use Rattle.code_rows.specs.Playing.{reported}
use Rattle.hal_states.specs.OfKinds as states_ofkinds

-- the smallest image
abbrev row1 : ImageParts
row1 = record { cells = []; events = []; common = []; processes = ((record { name = codes "P"; block = 0; places = [] }) ∷ []); shapes = []; views = []; expressions = []; blocks = ((record { process = 0; first = 0; end = 2; result = (choice.Known result.Nothing) }) ∷ []); names = []; code = ((instr.Begin) ∷ (instr.Finish) ∷ []); first = 0 }

abbrev Says1 : Type 0
Says1 = (reported 400 row1 ((line.Run 5) ∷ []) ≡ codes "end P 0 closed 1\n") × (first_failure row1 ≡ None)

-- INT, BITS, TEXT, ITEM, PRINT: a line of each kind of value
abbrev row2 : ImageParts
row2 = record { cells = []; events = []; common = []; processes = ((record { name = codes "P"; block = 0; places = [] }) ∷ []); shapes = []; views = []; expressions = []; blocks = ((record { process = 0; first = 0; end = 9; result = (choice.Known result.Nothing) }) ∷ []); names = []; code = ((instr.Begin) ∷ (instr.Int (negsuc 4)) ∷ (instr.Item) ∷ (instr.Bits 3 5) ∷ (instr.Item) ∷ (instr.Text (codes "AB")) ∷ (instr.Item) ∷ (instr.Print 6) ∷ (instr.Finish) ∷ []); first = 0 }

abbrev Says2 : Type 0
Says2 = (reported 400 row2 ((line.Run 5) ∷ []) ≡ codes "6: -5 101 AB\nend P 0 closed 1\n") × (first_failure row2 ≡ None)

-- OP1, OP2, DUP, DROP, LEN: values are computed
abbrev row3 : ImageParts
row3 = record { cells = []; events = []; common = []; processes = ((record { name = codes "P"; block = 0; places = [] }) ∷ []); shapes = []; views = []; expressions = []; blocks = ((record { process = 0; first = 0; end = 19; result = (choice.Known result.Nothing) }) ∷ []); names = []; code = ((instr.Begin) ∷ (instr.Int (pos 7)) ∷ (instr.Int (pos 3)) ∷ (instr.Op2 (choice.Known op2.Minus)) ∷ (instr.Dup) ∷ (instr.Op1 (choice.Known op1.Minus)) ∷ (instr.Item) ∷ (instr.Dup) ∷ (instr.Op2 (choice.Known op2.Product)) ∷ (instr.Item) ∷ (instr.Text (codes "ABC")) ∷ (instr.Len 0) ∷ (instr.Item) ∷ (instr.Drop) ∷ (instr.Bits 2 1) ∷ (instr.Op1 (choice.Known op1.Not)) ∷ (instr.Item) ∷ (instr.Print 6) ∷ (instr.Finish) ∷ []); first = 0 }

abbrev Says3 : Type 0
Says3 = (reported 400 row3 ((line.Run 5) ∷ []) ≡ codes "6: -4 16 3 10\nend P 0 closed 1\n") × (first_failure row3 ≡ None)

-- CELL, KEEP, FETCH, PEEK: own cells, of an array too
abbrev row4 : ImageParts
row4 = record { cells = []; events = []; common = []; processes = ((record { name = codes "P"; block = 0; places = ((record { repeat = 3; row = (place.Data kind.Single (value.Int (pos 4))) }) ∷ (record { repeat = 1; row = (place.Data (kind.Text 3) (value.Text (codes "ABC"))) }) ∷ []) }) ∷ []); shapes = []; views = ((record { base = (base.Own 0); dimensions = ((record { size = 3; stride = 1 }) ∷ []); target = (target.Cell kind.Single) }) ∷ (record { base = (base.Own 3); dimensions = []; target = (target.Cell (kind.Text 3)) }) ∷ []); expressions = []; blocks = ((record { process = 0; first = 0; end = 20; result = (choice.Known result.Nothing) }) ∷ []); names = ((record { name = codes "P.A"; base = named.Own 0; first = 0; copies = 0; stride = 0; dimensions = (3 ∷ []) }) ∷ (record { name = codes "P.T"; base = named.Own 0; first = 3; copies = 0; stride = 0; dimensions = [] }) ∷ []); code = ((instr.Begin) ∷ (instr.Int (pos 9)) ∷ (instr.Int (pos 2)) ∷ (instr.Cell 0) ∷ (instr.Keep) ∷ (instr.Int (pos 2)) ∷ (instr.Cell 0) ∷ (instr.Peek) ∷ (instr.Item) ∷ (instr.Fetch) ∷ (instr.Int (pos 1)) ∷ (instr.Op2 (choice.Known op2.Plus)) ∷ (instr.Int (pos 3)) ∷ (instr.Cell 0) ∷ (instr.Keep) ∷ (instr.Int (pos 12345)) ∷ (instr.Cell 1) ∷ (instr.Keep) ∷ (instr.Print 6) ∷ (instr.Finish) ∷ []); first = 0 }

abbrev Says4 : Type 0
Says4 = (reported 400 row4 ((line.Run 5) ∷ []) ≡ codes "6: 9\nend P 0 closed 1\nP.A$(1) = 4\nP.A$(2) = 9\nP.A$(3) = 10\nP.T = '123'\n") × (first_failure row4 ≡ None)

-- CELL: a subscript out of range raises 1:3, and after IGNORE is the nearest
abbrev row5 : ImageParts
row5 = record { cells = []; events = []; common = []; processes = ((record { name = codes "P"; block = 0; places = ((record { repeat = 3; row = (place.Data kind.Single (value.Int (pos 4))) }) ∷ []) }) ∷ []); shapes = []; views = ((record { base = (base.Own 0); dimensions = ((record { size = 3; stride = 1 }) ∷ []); target = (target.Cell kind.Single) }) ∷ []); expressions = []; blocks = ((record { process = 0; first = 0; end = 17; result = (choice.Known result.Nothing) }) ∷ []); names = ((record { name = codes "P.A"; base = named.Own 0; first = 0; copies = 0; stride = 0; dimensions = (3 ∷ []) }) ∷ []); code = ((instr.Begin) ∷ (instr.On 1 3 (choice.Known response.Ignore) (choice.Known change.Nothing) 0 0) ∷ (instr.Int (pos 9)) ∷ (instr.Int (pos 7)) ∷ (instr.Cell 0) ∷ (instr.Keep) ∷ (instr.ErrGrp) ∷ (instr.Item) ∷ (instr.ErrNum) ∷ (instr.Item) ∷ (instr.Print 6) ∷ (instr.Off 1 3) ∷ (instr.Int (pos 0)) ∷ (instr.Cell 0) ∷ (instr.Fetch) ∷ (instr.Drop) ∷ (instr.Finish) ∷ []); first = 0 }

abbrev Says5 : Type 0
Says5 = (reported 400 row5 ((line.Run 9) ∷ []) ≡ codes "6: 1 3\nend P 0 error 1:3 0\nP.A$(1) = 4\nP.A$(2) = 4\nP.A$(3) = 9\n") × (first_failure row5 ≡ None)

-- KEEP: a SINGLE out of range raises 1:1, and after IGNORE is the nearest
abbrev row6 : ImageParts
row6 = record { cells = []; events = []; common = []; processes = ((record { name = codes "P"; block = 0; places = ((record { repeat = 1; row = (place.Data kind.Single (value.Int (pos 0))) }) ∷ []) }) ∷ []); shapes = []; views = ((record { base = (base.Own 0); dimensions = []; target = (target.Cell kind.Single) }) ∷ []); expressions = []; blocks = ((record { process = 0; first = 0; end = 7; result = (choice.Known result.Nothing) }) ∷ []); names = ((record { name = codes "P.N"; base = named.Own 0; first = 0; copies = 0; stride = 0; dimensions = [] }) ∷ []); code = ((instr.Begin) ∷ (instr.On 0 0 (choice.Known response.Ignore) (choice.Known change.Nothing) 0 0) ∷ (instr.Int (pos 40000)) ∷ (instr.Cell 0) ∷ (instr.Keep) ∷ (instr.Finish) ∷ (instr.Finish) ∷ []); first = 0 }

abbrev Says6 : Type 0
Says6 = (reported 400 row6 ((line.Run 9) ∷ []) ≡ codes "end P 0 closed 1\nP.N = 32767\n") × (first_failure row6 ≡ None)

-- shared cells are read and written by requests
abbrev row7 : ImageParts
row7 = record { cells = ((record { repeat = 1; row = (record { kind = kind.Single; group = 0; initial = (value.Int (pos 5)) }) }) ∷ []); events = []; common = []; processes = ((record { name = codes "P"; block = 0; places = [] }) ∷ []); shapes = []; views = ((record { base = (base.Shared 0); dimensions = []; target = (target.Cell kind.Single) }) ∷ []); expressions = []; blocks = ((record { process = 0; first = 0; end = 8; result = (choice.Known result.Nothing) }) ∷ []); names = ((record { name = codes "P.N"; base = named.Shared; first = 0; copies = 0; stride = 0; dimensions = [] }) ∷ []); code = ((instr.Begin) ∷ (instr.Cell 0) ∷ (instr.Fetch) ∷ (instr.Int (pos 1)) ∷ (instr.Op2 (choice.Known op2.Plus)) ∷ (instr.Cell 0) ∷ (instr.Keep) ∷ (instr.Finish) ∷ []); first = 0 }

abbrev Says7 : Type 0
Says7 = (reported 400 row7 ((line.Run 3) ∷ []) ≡ codes "live P\nP.N = 6\n") × (first_failure row7 ≡ None)

-- PICK and PATCH: parts of a text and of bits
abbrev row8 : ImageParts
row8 = record { cells = []; events = []; common = []; processes = ((record { name = codes "P"; block = 0; places = ((record { repeat = 1; row = (place.Data (kind.Text 5) (value.Text (codes "ABCDE"))) }) ∷ (record { repeat = 1; row = (place.Data (kind.Bits 4) (value.Bits 4 0)) }) ∷ []) }) ∷ []); shapes = []; views = ((record { base = (base.Own 0); dimensions = []; target = (target.Cell (kind.Text 5)) }) ∷ (record { base = (base.Own 1); dimensions = []; target = (target.Cell (kind.Bits 4)) }) ∷ []); expressions = []; blocks = ((record { process = 0; first = 0; end = 25; result = (choice.Known result.Nothing) }) ∷ []); names = ((record { name = codes "P.T"; base = named.Own 0; first = 0; copies = 0; stride = 0; dimensions = [] }) ∷ (record { name = codes "P.B"; base = named.Own 0; first = 1; copies = 0; stride = 0; dimensions = [] }) ∷ []); code = ((instr.Begin) ∷ (instr.Text (codes "XY")) ∷ (instr.Cell 0) ∷ (instr.Peek) ∷ (instr.Int (pos 2)) ∷ (instr.Int (pos 3)) ∷ (instr.Patch (choice.Known places.To)) ∷ (instr.Keep) ∷ (instr.Cell 0) ∷ (instr.Fetch) ∷ (instr.Int (pos 2)) ∷ (instr.Int (pos 4)) ∷ (instr.Pick (choice.Known places.At)) ∷ (instr.Item) ∷ (instr.Bits 1 1) ∷ (instr.Cell 1) ∷ (instr.Peek) ∷ (instr.Int (pos 4)) ∷ (instr.Patch (choice.Known places.One)) ∷ (instr.Keep) ∷ (instr.Bits 4 2) ∷ (instr.Int (pos 9)) ∷ (instr.Pick (choice.Known places.One)) ∷ (instr.Drop) ∷ (instr.Finish) ∷ []); first = 0 }

abbrev Says8 : Type 0
Says8 = (reported 400 row8 ((line.Run 9) ∷ []) ≡ codes "end P 0 error 1:4 0\nP.T = 'AXYDE'\nP.B = 0001\n") × (first_failure row8 ≡ None)

-- JUMP, JUMPNOT, TURN, NEXT: a loop from 1 to 5 by 2
abbrev row9 : ImageParts
row9 = record { cells = []; events = []; common = []; processes = ((record { name = codes "P"; block = 0; places = ((record { repeat = 1; row = (place.Data kind.Single (value.Int (pos 1))) }) ∷ (record { repeat = 1; row = (place.Data kind.Double (value.Int (pos 0))) }) ∷ (record { repeat = 1; row = (place.Data (kind.Bits 1) (value.Bits 1 0)) }) ∷ []) }) ∷ []); shapes = []; views = ((record { base = (base.Own 0); dimensions = []; target = (target.Cell kind.Single) }) ∷ (record { base = (base.Own 1); dimensions = []; target = (target.Cell kind.Double) }) ∷ (record { base = (base.Own 2); dimensions = []; target = (target.Cell (kind.Bits 1)) }) ∷ []); expressions = []; blocks = ((record { process = 0; first = 0; end = 27; result = (choice.Known result.Nothing) }) ∷ []); names = ((record { name = codes "P.I"; base = named.Own 0; first = 0; copies = 0; stride = 0; dimensions = [] }) ∷ []); code = ((instr.Begin) ∷ (instr.Jump 4) ∷ (instr.Int (pos 99)) ∷ (instr.Item) ∷ (instr.Turn 26) ∷ (instr.Cell 0) ∷ (instr.Fetch) ∷ (instr.Item) ∷ (instr.Print 6) ∷ (instr.Cell 0) ∷ (instr.Fetch) ∷ (instr.Int (pos 2)) ∷ (instr.Int (pos 5)) ∷ (instr.Next) ∷ (instr.Cell 2) ∷ (instr.Keep) ∷ (instr.Cell 1) ∷ (instr.Keep) ∷ (instr.Cell 2) ∷ (instr.Fetch) ∷ (instr.JumpNot 26) ∷ (instr.Cell 1) ∷ (instr.Fetch) ∷ (instr.Cell 0) ∷ (instr.Keep) ∷ (instr.Jump 4) ∷ (instr.Finish) ∷ []); first = 0 }

abbrev Says9 : Type 0
Says9 = (reported 400 row9 ((line.Run 20) ∷ []) ≡ codes "6: 1\n6: 3\n6: 5\nend P 0 closed 1\nP.I = 5\n") × (first_failure row9 ≡ None)

-- CALL, RETURN, CLEAR: a block with a result, own places with their first values again
abbrev row10 : ImageParts
row10 = record { cells = []; events = []; common = []; processes = ((record { name = codes "P"; block = 1; places = ((record { repeat = 1; row = (place.Data kind.Single (value.Int (pos 3))) }) ∷ []) }) ∷ []); shapes = []; views = ((record { base = (base.Own 0); dimensions = []; target = (target.Cell kind.Single) }) ∷ []); expressions = []; blocks = ((record { process = 0; first = 0; end = 6; result = (choice.Known result.Integer) }) ∷ (record { process = 0; first = 6; end = 14; result = (choice.Known result.Nothing) }) ∷ []); names = ((record { name = codes "P.X"; base = named.Own 0; first = 0; copies = 0; stride = 0; dimensions = [] }) ∷ []); code = ((instr.Clear 0 1) ∷ (instr.Cell 0) ∷ (instr.Fetch) ∷ (instr.Int (pos 10)) ∷ (instr.Op2 (choice.Known op2.Plus)) ∷ (instr.Return) ∷ (instr.Begin) ∷ (instr.Int (pos 8)) ∷ (instr.Cell 0) ∷ (instr.Keep) ∷ (instr.Call 0) ∷ (instr.Item) ∷ (instr.Print 6) ∷ (instr.Finish) ∷ []); first = 0 }

abbrev Says10 : Type 0
Says10 = (reported 400 row10 ((line.Run 9) ∷ []) ≡ codes "6: 13\nend P 0 closed 1\nP.X = 3\n") × (first_failure row10 ≡ None)

-- BIND, WHOLE, COPY: a reference to a structure, its second component, and a copy of the whole
abbrev row11 : ImageParts
row11 = record { cells = []; events = []; common = []; processes = ((record { name = codes "P"; block = 0; places = ((record { repeat = 1; row = (place.Data kind.Single (value.Int (pos 7))) }) ∷ (record { repeat = 1; row = (place.Data (kind.Text 2) (value.Text (codes "AB"))) }) ∷ (record { repeat = 1; row = (place.Reference 0) }) ∷ (record { repeat = 1; row = (place.Data kind.Single (value.Int (pos 0))) }) ∷ (record { repeat = 1; row = (place.Data (kind.Text 2) (value.Text (codes ""))) }) ∷ []) }) ∷ []); shapes = (((record { repeat = 1; row = kind.Single }) ∷ (record { repeat = 1; row = (kind.Text 2) }) ∷ []) ∷ []); views = ((record { base = (base.Own 0); dimensions = []; target = (target.Shape 0) }) ∷ (record { base = (base.Through 2 1); dimensions = []; target = (target.Cell (kind.Text 2)) }) ∷ []); expressions = []; blocks = ((record { process = 0; first = 0; end = 9; result = (choice.Known result.Nothing) }) ∷ []); names = ((record { name = codes "P.S"; base = named.Own 0; first = 3; copies = 0; stride = 0; dimensions = [] }) ∷ (record { name = codes "P.T"; base = named.Own 0; first = 4; copies = 0; stride = 0; dimensions = [] }) ∷ []); code = ((instr.Begin) ∷ (instr.Whole 0) ∷ (instr.Bind 2) ∷ (instr.Text (codes "XYZ")) ∷ (instr.Cell 1) ∷ (instr.Keep) ∷ (instr.Whole 0) ∷ (instr.Copy 3) ∷ (instr.Finish) ∷ []); first = 0 }

abbrev Says11 : Type 0
Says11 = (reported 400 row11 ((line.Run 9) ∷ []) ≡ codes "end P 0 closed 1\nP.S = 7\nP.T = 'XY'\n") × (first_failure row11 ≡ None)

-- COPY of shared cells asks for each
abbrev row12 : ImageParts
row12 = record { cells = ((record { repeat = 2; row = (record { kind = kind.Single; group = 0; initial = (value.Int (pos 5)) }) }) ∷ []); events = []; common = []; processes = ((record { name = codes "P"; block = 0; places = ((record { repeat = 2; row = (place.Data kind.Single (value.Int (pos 0))) }) ∷ []) }) ∷ []); shapes = (((record { repeat = 2; row = kind.Single }) ∷ []) ∷ []); views = ((record { base = (base.Shared 0); dimensions = []; target = (target.Shape 0) }) ∷ []); expressions = []; blocks = ((record { process = 0; first = 0; end = 4; result = (choice.Known result.Nothing) }) ∷ []); names = ((record { name = codes "P.A"; base = named.Own 0; first = 0; copies = 0; stride = 0; dimensions = (2 ∷ []) }) ∷ []); code = ((instr.Begin) ∷ (instr.Whole 0) ∷ (instr.Copy 0) ∷ (instr.Finish) ∷ []); first = 0 }

abbrev Says12 : Type 0
Says12 = (reported 400 row12 ((line.Run 2) ∷ []) ≡ codes "live P\nP.A$(1) = 5\nP.A$(2) = 0\n") × (first_failure row12 ≡ None)

-- ON with a statement, RAISE: the statement is entered by a turn, across a call
abbrev row13 : ImageParts
row13 = record { cells = []; events = []; common = []; processes = ((record { name = codes "P"; block = 1; places = [] }) ∷ []); shapes = []; views = []; expressions = []; blocks = ((record { process = 0; first = 0; end = 3; result = (choice.Known result.Nothing) }) ∷ (record { process = 0; first = 3; end = 11; result = (choice.Known result.Nothing) }) ∷ []); names = []; code = ((instr.On 9 0 (choice.Known response.Ignore) (choice.Known change.Nothing) 0 0) ∷ (instr.Raise 7 1) ∷ (instr.Return) ∷ (instr.Begin) ∷ (instr.On 7 0 (choice.Known response.Statement) (choice.Known change.Nothing) 0 7) ∷ (instr.Call 0) ∷ (instr.Finish) ∷ (instr.ErrNum) ∷ (instr.Item) ∷ (instr.Print 6) ∷ (instr.Finish) ∷ []); first = 0 }

abbrev Says13 : Type 0
Says13 = (reported 400 row13 ((line.Run 9) ∷ []) ≡ codes "6: 1\nend P 0 closed 1\n") × (first_failure row13 ≡ None)

-- RAISE without an entry ends the process; ERRNUM stays
abbrev row14 : ImageParts
row14 = record { cells = []; events = []; common = []; processes = ((record { name = codes "P"; block = 0; places = [] }) ∷ []); shapes = []; views = []; expressions = []; blocks = ((record { process = 0; first = 0; end = 3; result = (choice.Known result.Nothing) }) ∷ []); names = []; code = ((instr.Begin) ∷ (instr.Raise 7 2) ∷ (instr.Finish) ∷ []); first = 0 }

abbrev Says14 : Type 0
Says14 = (reported 400 row14 ((line.Run 9) ∷ []) ≡ codes "end P 0 error 7:2 0\n") × (first_failure row14 ≡ None)

-- events: EVENT, SET, RESET, and ON ERROR with SET
abbrev row15 : ImageParts
row15 = record { cells = []; events = ((choice.Known (begins.Latched false)) ∷ (choice.Known (begins.Latched false)) ∷ []); common = []; processes = ((record { name = codes "P"; block = 0; places = [] }) ∷ []); shapes = []; views = []; expressions = (((item.Event 1) ∷ []) ∷ []); blocks = ((record { process = 0; first = 0; end = 12; result = (choice.Known result.Nothing) }) ∷ []); names = ((record { name = codes "P.E"; base = named.Event; first = 1; copies = 0; stride = 0; dimensions = [] }) ∷ (record { name = codes "P.F"; base = named.Event; first = 2; copies = 0; stride = 0; dimensions = [] }) ∷ []); code = ((instr.Begin) ∷ (instr.Event 1) ∷ (instr.Item) ∷ (instr.Set 1) ∷ (instr.Event 1) ∷ (instr.Item) ∷ (instr.Reset 1) ∷ (instr.Print 6) ∷ (instr.On 3 0 (choice.Known response.Ignore) (choice.Known change.Set) 2 0) ∷ (instr.Raise 3 4) ∷ (instr.Wait (delay.Event 0)) ∷ (instr.Finish) ∷ []); first = 0 }

abbrev Says15 : Type 0
Says15 = (reported 400 row15 ((line.Run 20) ∷ []) ≡ codes "6: 0 1\nlive P\nP.E = 0\nP.F = 1\n") × (first_failure row15 ≡ None)

-- SCHEDULE, PRIORITY, WAIT, NOW, CANCEL, TERMINATE over two processes
abbrev row16 : ImageParts
row16 = record { cells = []; events = []; common = []; processes = ((record { name = codes "P"; block = 0; places = [] }) ∷ (record { name = codes "Q"; block = 1; places = [] }) ∷ []); shapes = []; views = []; expressions = []; blocks = ((record { process = 0; first = 0; end = 11; result = (choice.Known result.Nothing) }) ∷ (record { process = 1; first = 11; end = 16; result = (choice.Known result.Nothing) }) ∷ []); names = []; code = ((instr.Begin) ∷ (instr.Int (pos 60)) ∷ (instr.Schedule 1 (start.In (time.Milliseconds 2000)) (choice.Known true) (choice.Known false) round.Once limit.Free) ∷ (instr.Int (pos 70)) ∷ (instr.Priority 255) ∷ (instr.Int (pos 3)) ∷ (instr.Wait (delay.For time.Seconds)) ∷ (instr.Now) ∷ (instr.Item) ∷ (instr.Print 6) ∷ (instr.Finish) ∷ (instr.Begin) ∷ (instr.Text (codes "Q")) ∷ (instr.Item) ∷ (instr.Print 6) ∷ (instr.Finish) ∷ []); first = 0 }

abbrev Says16 : Type 0
Says16 = (reported 400 row16 ((line.Run 20) ∷ (line.Tick 2000) ∷ (line.Run 9) ∷ (line.Tick 1000) ∷ (line.Run 9) ∷ []) ≡ codes "6: Q\n6: 3\nend Q 2000 closed 1\nend P 3000 closed 1\n") × (first_failure row16 ≡ None)

-- SCHEDULE with a wrong priority and a wrong cycle raises 2:4, then 2:5
abbrev row17 : ImageParts
row17 = record { cells = []; events = []; common = []; processes = ((record { name = codes "P"; block = 0; places = [] }) ∷ (record { name = codes "Q"; block = 1; places = [] }) ∷ []); shapes = []; views = []; expressions = []; blocks = ((record { process = 0; first = 0; end = 6; result = (choice.Known result.Nothing) }) ∷ (record { process = 1; first = 6; end = 8; result = (choice.Known result.Nothing) }) ∷ []); names = []; code = ((instr.Begin) ∷ (instr.On 2 4 (choice.Known response.Ignore) (choice.Known change.Nothing) 0 0) ∷ (instr.Int (pos 300)) ∷ (instr.Int (pos 0)) ∷ (instr.Schedule 1 start.Now (choice.Known true) (choice.Known false) (round.Every time.Seconds) limit.Free) ∷ (instr.Finish) ∷ (instr.Begin) ∷ (instr.Finish) ∷ []); first = 0 }

abbrev Says17 : Type 0
Says17 = (reported 400 row17 ((line.Run 20) ∷ []) ≡ codes "end P 0 error 2:5 0\n") × (first_failure row17 ≡ None)

-- INPUT: data, an error that is ignored, and one that isn't
abbrev row18 : ImageParts
row18 = record { cells = []; events = []; common = []; processes = ((record { name = codes "P"; block = 0; places = [] }) ∷ []); shapes = []; views = []; expressions = []; blocks = ((record { process = 0; first = 0; end = 8; result = (choice.Known result.Nothing) }) ∷ []); names = []; code = ((instr.Begin) ∷ (instr.On 3 2 (choice.Known response.Ignore) (choice.Known change.Nothing) 0 0) ∷ (instr.Input 5 kind.Single 5) ∷ (instr.Item) ∷ (instr.Print 6) ∷ (instr.Input 5 kind.Single 7) ∷ (instr.Item) ∷ (instr.Finish) ∷ []); first = 0 }

abbrev Says18 : Type 0
Says18 = (reported 400 row18 ((line.Input 5 ((codes "12") ∷ (codes "X") ∷ [])) ∷ (line.Run 20) ∷ []) ≡ codes "6: 12\nend P 0 closed 1\n") × (first_failure row18 ≡ None)

-- OPEN, CLOSE: the block's writes are seen by the block, and are made at its end
abbrev row19 : ImageParts
row19 = record { cells = ((record { repeat = 1; row = (record { kind = kind.Single; group = 1; initial = (value.Int (pos 5)) }) }) ∷ (record { repeat = 1; row = (record { kind = kind.Single; group = 2; initial = (value.Int (pos 5)) }) }) ∷ []); events = []; common = []; processes = ((record { name = codes "P"; block = 0; places = [] }) ∷ []); shapes = []; views = ((record { base = (base.Shared 0); dimensions = []; target = (target.Cell kind.Single) }) ∷ (record { base = (base.Shared 1); dimensions = []; target = (target.Cell kind.Single) }) ∷ []); expressions = []; blocks = ((record { process = 0; first = 0; end = 17; result = (choice.Known result.Nothing) }) ∷ []); names = ((record { name = codes "P.N"; base = named.Shared; first = 0; copies = 0; stride = 0; dimensions = [] }) ∷ (record { name = codes "P.M"; base = named.Shared; first = 1; copies = 0; stride = 0; dimensions = [] }) ∷ []); code = ((instr.Begin) ∷ (instr.Open 2) ∷ (instr.Cell 0) ∷ (instr.Fetch) ∷ (instr.Int (pos 1)) ∷ (instr.Op2 (choice.Known op2.Plus)) ∷ (instr.Cell 0) ∷ (instr.Keep) ∷ (instr.Cell 0) ∷ (instr.Fetch) ∷ (instr.Item) ∷ (instr.Cell 1) ∷ (instr.Fetch) ∷ (instr.Item) ∷ (instr.Close) ∷ (instr.Print 6) ∷ (instr.Finish) ∷ []); first = 0 }

abbrev Says19 : Type 0
Says19 = (reported 400 row19 ((line.Run 20) ∷ []) ≡ codes "6: 6 0\nend P 0 closed 1\nP.N = 6\nP.M = 5\n") × (first_failure row19 ≡ None)

-- turns in an UPDATE block are counted; past the last one 1:8, and IGNORE goes to the target
abbrev row20 : ImageParts
row20 = record { cells = ((record { repeat = 1; row = (record { kind = kind.Single; group = 1; initial = (value.Int (pos 0)) }) }) ∷ []); events = []; common = []; processes = ((record { name = codes "P"; block = 0; places = [] }) ∷ []); shapes = []; views = ((record { base = (base.Shared 0); dimensions = []; target = (target.Cell kind.Single) }) ∷ []); expressions = []; blocks = ((record { process = 0; first = 0; end = 14; result = (choice.Known result.Nothing) }) ∷ []); names = ((record { name = codes "P.N"; base = named.Shared; first = 0; copies = 0; stride = 0; dimensions = [] }) ∷ []); code = ((instr.Begin) ∷ (instr.On 1 8 (choice.Known response.Ignore) (choice.Known change.Nothing) 0 0) ∷ (instr.Open 2) ∷ (instr.Turn 11) ∷ (instr.Cell 0) ∷ (instr.Fetch) ∷ (instr.Int (pos 1)) ∷ (instr.Op2 (choice.Known op2.Plus)) ∷ (instr.Cell 0) ∷ (instr.Keep) ∷ (instr.Jump 3) ∷ (instr.Close) ∷ (instr.Print 6) ∷ (instr.Finish) ∷ []); first = 0 }

abbrev Says20 : Type 0
Says20 = (reported 3 row20 ((line.Run 20) ∷ []) ≡ codes "6:\nend P 0 closed 1\nP.N = 3\n") × (first_failure row20 ≡ None)

-- an error in an UPDATE block meets a statement outside: the block ends with its writes so far
abbrev row21 : ImageParts
row21 = record { cells = ((record { repeat = 1; row = (record { kind = kind.Single; group = 1; initial = (value.Int (pos 0)) }) }) ∷ []); events = []; common = []; processes = ((record { name = codes "P"; block = 0; places = [] }) ∷ []); shapes = []; views = ((record { base = (base.Shared 0); dimensions = []; target = (target.Cell kind.Single) }) ∷ []); expressions = []; blocks = ((record { process = 0; first = 0; end = 13; result = (choice.Known result.Nothing) }) ∷ []); names = ((record { name = codes "P.N"; base = named.Shared; first = 0; copies = 0; stride = 0; dimensions = [] }) ∷ []); code = ((instr.Begin) ∷ (instr.On 7 0 (choice.Known response.Statement) (choice.Known change.Nothing) 0 9) ∷ (instr.Open 2) ∷ (instr.Int (pos 4)) ∷ (instr.Cell 0) ∷ (instr.Keep) ∷ (instr.Raise 7 3) ∷ (instr.Close) ∷ (instr.Finish) ∷ (instr.ErrGrp) ∷ (instr.Item) ∷ (instr.Print 6) ∷ (instr.Finish) ∷ []); first = 0 }

abbrev Says21 : Type 0
Says21 = (reported 400 row21 ((line.Run 5) ∷ []) ≡ codes "6: 7\nlive P\nP.N = 4\n") × (first_failure row21 ≡ None)

-- a byte that chooses nothing ends the process with 0:0, and is no right operand
abbrev row22 : ImageParts
row22 = record { cells = []; events = []; common = []; processes = ((record { name = codes "P"; block = 0; places = [] }) ∷ (record { name = codes "Q"; block = 1; places = [] }) ∷ []); shapes = []; views = []; expressions = []; blocks = ((record { process = 0; first = 0; end = 3; result = (choice.Known result.Nothing) }) ∷ (record { process = 1; first = 3; end = 5; result = (choice.Known result.Nothing) }) ∷ []); names = []; code = ((instr.Begin) ∷ (instr.Schedule 1 start.Now (choice.Other 2) (choice.Known false) round.Once limit.Free) ∷ (instr.Finish) ∷ (instr.Begin) ∷ (instr.Finish) ∷ []); first = 0 }

abbrev Says22 : Type 0
Says22 = (reported 400 row22 ((line.Run 20) ∷ []) ≡ codes "end P 0 error 0:0 0\n") × (first_failure row22 ≡ (Some 1))

-- TERMINATE of oneself, and a process that is scheduled once more
abbrev row23 : ImageParts
row23 = record { cells = []; events = []; common = []; processes = ((record { name = codes "P"; block = 0; places = [] }) ∷ (record { name = codes "Q"; block = 1; places = ((record { repeat = 1; row = (place.Data kind.Single (value.Int (pos 0))) }) ∷ []) }) ∷ []); shapes = []; views = ((record { base = (base.Own 0); dimensions = []; target = (target.Cell kind.Single) }) ∷ []); expressions = []; blocks = ((record { process = 0; first = 0; end = 6; result = (choice.Known result.Nothing) }) ∷ (record { process = 1; first = 6; end = 16; result = (choice.Known result.Nothing) }) ∷ []); names = ((record { name = codes "Q.N"; base = named.Own 1; first = 0; copies = 0; stride = 0; dimensions = [] }) ∷ []); code = ((instr.Begin) ∷ (instr.Schedule 1 start.Now (choice.Known false) (choice.Known false) round.Once limit.Free) ∷ (instr.Wait (delay.For (time.Milliseconds 5))) ∷ (instr.Schedule 1 start.Now (choice.Known false) (choice.Known false) round.Once limit.Free) ∷ (instr.Finish) ∷ (instr.Finish) ∷ (instr.Begin) ∷ (instr.Cell 0) ∷ (instr.Fetch) ∷ (instr.Int (pos 1)) ∷ (instr.Op2 (choice.Known op2.Plus)) ∷ (instr.Cell 0) ∷ (instr.Keep) ∷ (instr.Terminate 255) ∷ (instr.Finish) ∷ (instr.Finish) ∷ []); first = 0 }

abbrev Says23 : Type 0
Says23 = (reported 400 row23 ((line.Run 20) ∷ (line.Tick 5) ∷ (line.Run 20) ∷ []) ≡ codes "end Q 0 terminated 0\nend P 5 closed 1\nend Q 5 terminated 0\nQ.N = 2\n") × (first_failure row23 ≡ None)

-- a unit of one loop: WHILE is tested before each turn
abbrev row24 : ImageParts
row24 = record { cells = []; events = []; common = []; processes = ((record { name = codes "P"; block = 0; places = ((record { repeat = 1; row = (place.Data kind.Single (value.Int (pos 1))) }) ∷ []) }) ∷ []); shapes = []; views = ((record { base = (base.Own 0); dimensions = []; target = (target.Cell kind.Single) }) ∷ []); expressions = []; blocks = ((record { process = 0; first = 0; end = 24; result = (choice.Known result.Nothing) }) ∷ []); names = ((record { name = codes "P.I"; base = named.Own 0; first = 0; copies = 0; stride = 1; dimensions = [] }) ∷ []); code = ((instr.Begin) ∷ (instr.Cell 0) ∷ (instr.Fetch) ∷ (instr.Int (pos 6)) ∷ (instr.Op2 (choice.Known op2.Less)) ∷ (instr.JumpNot 23) ∷ (instr.Turn 23) ∷ (instr.Cell 0) ∷ (instr.Fetch) ∷ (instr.Item) ∷ (instr.Print 6) ∷ (instr.Cell 0) ∷ (instr.Fetch) ∷ (instr.Int (pos 2)) ∷ (instr.Op2 (choice.Known op2.Plus)) ∷ (instr.Cell 0) ∷ (instr.Keep) ∷ (instr.Cell 0) ∷ (instr.Fetch) ∷ (instr.Int (pos 6)) ∷ (instr.Op2 (choice.Known op2.Less)) ∷ (instr.JumpNot 23) ∷ (instr.Jump 6) ∷ (instr.Finish) ∷ []); first = 0 }

abbrev Says24 : Type 0
Says24 = (reported 400 row24 ((line.Run 20) ∷ []) ≡ codes "6: 1\n6: 3\n6: 5\nend P 0 closed 1\nP.I = 7\n") × (first_failure row24 ≡ None)

pub all_say : Says1 × Says2 × Says3 × Says4 × Says5 × Says6 × Says7 × Says8 × Says9 × Says10 × Says11 × Says12 × Says13 × Says14 × Says15 × Says16 × Says17 × Says18 × Says19 × Says20 × Says21 × Says22 × Says23 × Says24
unfolding digits states_ofkinds.is_of
all_say = ((refl, refl), (refl, refl), (refl, refl), (refl, refl), (refl, refl), (refl, refl), (refl, refl), (refl, refl), (refl, refl), (refl, refl), (refl, refl), (refl, refl), (refl, refl), (refl, refl), (refl, refl), (refl, refl), (refl, refl), (refl, refl), (refl, refl), (refl, refl), (refl, refl), (refl, refl), (refl, refl), (refl, refl))
