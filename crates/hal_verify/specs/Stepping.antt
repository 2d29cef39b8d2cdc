-- Rows of tables one by one.
use Rattle.std.specs.Prelude.{ℕ, ◌+◌, ◌-◌, ◌==◌, nat_le, nat_lt, Bool, false, Option, Some, None, if◌then◌else◌}
use Rattle.hal_values.specs.declared.tables.Item.{Item}
use Rattle.hal_values.specs.declared.tables.Item.TheVariants as item
use Rattle.hal_code.specs.declared.row.Block.{Block}

-- a block that may be there is that of a process
abbrev pub block_of : ℕ → Option Block → Bool
block_of p found = elim found [ None ↦ false | Some block ↦ block.process == p ]

-- how many operands stand behind an item of an event expression
abbrev pub postfix_next : ℕ → ℕ → Item → Option ℕ
postfix_next events operands (item.Event e) = if nat_lt e events then Some (operands + 1) else None
postfix_next events operands item.Not = if nat_le 1 operands then Some operands else None
postfix_next events operands item.And = if nat_le 2 operands then Some (operands - 1) else None
postfix_next events operands item.Or = if nat_le 2 operands then Some (operands - 1) else None
