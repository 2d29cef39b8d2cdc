-- The smallest image, and one whose tables have rows, with their bytes.
use Rattle.std.specs.Prelude.{ℕ, List, [], ◌∷◌, pos, negsuc, true, false, codes}
use Rattle.hal_values.specs.declared.tables.EventStart.TheVariants as start
use Rattle.hal_values.specs.declared.tables.Item.TheVariants as item
use Rattle.hal_values.specs.declared.tables.ReportBase.TheVariants as named
use Rattle.hal_values.specs.declared.value.Kind.TheVariants as kind
use Rattle.hal_values.specs.declared.value.Value.TheVariants as value
use Rattle.hal_code.specs.declared.choice.Choice.TheVariants as choice
use Rattle.hal_code.specs.declared.image.ImageParts.{ImageParts}
use Rattle.hal_code.specs.declared.instr.Instr.TheVariants as instr
use Rattle.hal_code.specs.declared.row.Base.TheVariants as base
use Rattle.hal_code.specs.declared.row.OwnPlace.TheVariants as place
use Rattle.hal_code.specs.declared.row.ResultKind.TheVariants as result
use Rattle.hal_code.specs.declared.row.Target.TheVariants as target

-- `P: PROGRAM; CLOSE P;`
abbrev pub smallest : ImageParts
smallest = record {
  cells = [];
  events = [];
  common = [];
  processes = record { name = codes "P"; block = 0; places = [] } ∷ [];
  first = 0;
  shapes = [];
  views = [];
  expressions = [];
  blocks = record { process = 0; first = 0; end = 2; result = choice.Known result.Nothing } ∷ [];
  names = [];
  code = instr.Begin ∷ instr.Finish ∷ [];
}

abbrev pub smallest_bytes : List ℕ
smallest_bytes =
    72 ∷ 65 ∷ 76 ∷ 73 ∷ 1 ∷ 0 ∷ 0 ∷ 0 ∷ 0 ∷ 0 ∷ 0 ∷ 0 ∷ 0 ∷ 0 ∷ 0 ∷ 0 ∷ 0 ∷ 1 ∷ 0 ∷ 0 ∷
    0 ∷ 1 ∷ 80 ∷ 0 ∷ 0 ∷ 0 ∷ 0 ∷ 0 ∷ 0 ∷ 0 ∷ 0 ∷ 0 ∷ 0 ∷ 0 ∷ 0 ∷ 0 ∷ 0 ∷ 0 ∷ 0 ∷ 0 ∷
    0 ∷ 0 ∷ 0 ∷ 0 ∷ 1 ∷ 0 ∷ 0 ∷ 0 ∷ 0 ∷ 0 ∷ 0 ∷ 0 ∷ 0 ∷ 0 ∷ 0 ∷ 0 ∷ 0 ∷ 2 ∷ 0 ∷ 0 ∷
    0 ∷ 0 ∷ 0 ∷ 0 ∷ 0 ∷ 0 ∷ 0 ∷ 0 ∷ 0 ∷ 0 ∷ 2 ∷ 0 ∷ 0 ∷ 0 ∷ 0 ∷ 0 ∷ 0 ∷ 0 ∷ 32 ∷ 33 ∷ []

-- rows of each table
abbrev pub with_rows : ImageParts
with_rows = record {
  cells =
      record { repeat = 2; row = record { kind = kind.Single; group = 0; initial = value.Int (negsuc 0) } }
      ∷ record { repeat = 1; row = record { kind = kind.Bits 4; group = 5; initial = value.Bits 4 9 } }
      ∷ record { repeat = 1; row = record { kind = kind.Text 3; group = 0; initial = value.Text (codes "OK") } }
      ∷ [];
  events = choice.Known start.Unlatched ∷ choice.Known (start.Latched false) ∷ choice.Known (start.Latched true) ∷ [];
  common = record { repeat = 1; row = place.Data kind.Double (value.Int (pos 7)) } ∷ record { repeat = 3; row = place.Reference 1 } ∷ [];
  processes = record { name = codes "P"; block = 0; places = record { repeat = 1; row = place.Data kind.Double (value.Int (pos 0)) } ∷ [] } ∷ [];
  first = 0;
  shapes = (record { repeat = 4; row = kind.Double } ∷ []) ∷ [] ∷ [];
  views =
      record { base = base.Shared 1; dimensions = record { size = 2; stride = 1 } ∷ []; target = target.Cell kind.Single }
      ∷ record { base = base.Own 0; dimensions = []; target = target.Shape 0 }
      ∷ record { base = base.Through 1 3; dimensions = []; target = target.Cell kind.Double }
      ∷ record { base = base.Other 9 1; dimensions = []; target = target.Shape 1 }
      ∷ [];
  expressions = (item.Event 1 ∷ item.Not ∷ item.Event 0 ∷ item.And ∷ []) ∷ [];
  blocks = record { process = 0; first = 0; end = 1; result = choice.Known result.Integer } ∷ [];
  names =
      record { name = codes "A"; base = named.Shared; first = 0; copies = 0; stride = 0; dimensions = 2 ∷ [] }
      ∷ record { name = codes "P.B"; base = named.Own 0; first = 4; copies = 0; stride = 0; dimensions = [] }
      ∷ [];
  code = instr.Begin ∷ [];
}

abbrev pub rows_bytes : List ℕ
rows_bytes =
    72 ∷ 65 ∷ 76 ∷ 73 ∷ 1 ∷ 3 ∷ 0 ∷ 0 ∷ 0 ∷ 2 ∷ 0 ∷ 0 ∷ 0 ∷ 1 ∷ 0 ∷ 0 ∷ 255 ∷ 255 ∷ 255 ∷ 255 ∷ 1 ∷ 0 ∷ 0 ∷ 0 ∷
    3 ∷ 4 ∷ 5 ∷ 9 ∷ 0 ∷ 0 ∷ 0 ∷ 1 ∷ 0 ∷ 0 ∷ 0 ∷ 4 ∷ 3 ∷ 0 ∷ 2 ∷ 79 ∷ 75 ∷ 3 ∷ 0 ∷ 0 ∷ 0 ∷ 0 ∷ 1 ∷ 2 ∷
    2 ∷ 0 ∷ 0 ∷ 0 ∷ 1 ∷ 0 ∷ 0 ∷ 0 ∷ 2 ∷ 0 ∷ 7 ∷ 0 ∷ 0 ∷ 0 ∷ 3 ∷ 0 ∷ 0 ∷ 0 ∷ 5 ∷ 0 ∷ 1 ∷ 0 ∷ 0 ∷ 0 ∷
    1 ∷ 0 ∷ 0 ∷ 0 ∷ 1 ∷ 80 ∷ 0 ∷ 0 ∷ 0 ∷ 0 ∷ 1 ∷ 0 ∷ 0 ∷ 0 ∷ 1 ∷ 0 ∷ 0 ∷ 0 ∷ 2 ∷ 0 ∷ 0 ∷ 0 ∷ 0 ∷ 0 ∷
    0 ∷ 2 ∷ 0 ∷ 0 ∷ 0 ∷ 1 ∷ 0 ∷ 0 ∷ 0 ∷ 4 ∷ 0 ∷ 0 ∷ 0 ∷ 2 ∷ 0 ∷ 0 ∷ 0 ∷ 0 ∷ 0 ∷ 4 ∷ 0 ∷ 0 ∷ 0 ∷ 0 ∷
    1 ∷ 0 ∷ 0 ∷ 0 ∷ 1 ∷ 2 ∷ 0 ∷ 0 ∷ 0 ∷ 1 ∷ 0 ∷ 0 ∷ 0 ∷ 0 ∷ 1 ∷ 0 ∷ 1 ∷ 0 ∷ 0 ∷ 0 ∷ 0 ∷ 0 ∷ 1 ∷ 0 ∷
    0 ∷ 0 ∷ 0 ∷ 2 ∷ 1 ∷ 0 ∷ 0 ∷ 0 ∷ 3 ∷ 0 ∷ 0 ∷ 0 ∷ 0 ∷ 0 ∷ 2 ∷ 0 ∷ 9 ∷ 1 ∷ 0 ∷ 0 ∷ 0 ∷ 0 ∷ 1 ∷ 1 ∷
    0 ∷ 0 ∷ 0 ∷ 1 ∷ 0 ∷ 0 ∷ 0 ∷ 4 ∷ 0 ∷ 0 ∷ 0 ∷ 0 ∷ 1 ∷ 0 ∷ 1 ∷ 0 ∷ 0 ∷ 0 ∷ 2 ∷ 1 ∷ 0 ∷ 0 ∷ 0 ∷ 0 ∷
    0 ∷ 0 ∷ 0 ∷ 0 ∷ 0 ∷ 0 ∷ 0 ∷ 0 ∷ 1 ∷ 0 ∷ 0 ∷ 0 ∷ 0 ∷ 0 ∷ 0 ∷ 0 ∷ 1 ∷ 2 ∷ 0 ∷ 0 ∷ 0 ∷ 1 ∷ 0 ∷ 65 ∷
    0 ∷ 0 ∷ 0 ∷ 0 ∷ 0 ∷ 0 ∷ 0 ∷ 0 ∷ 0 ∷ 0 ∷ 0 ∷ 0 ∷ 0 ∷ 1 ∷ 2 ∷ 0 ∷ 0 ∷ 0 ∷ 3 ∷ 0 ∷ 80 ∷ 46 ∷ 66 ∷ 1 ∷
    0 ∷ 4 ∷ 0 ∷ 0 ∷ 0 ∷ 0 ∷ 0 ∷ 0 ∷ 0 ∷ 0 ∷ 0 ∷ 0 ∷ 0 ∷ 0 ∷ 1 ∷ 0 ∷ 0 ∷ 0 ∷ 0 ∷ 0 ∷ 0 ∷ 0 ∷ 32 ∷ []
