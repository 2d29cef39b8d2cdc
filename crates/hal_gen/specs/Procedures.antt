-- What CALL calls.
use Rattle.std.specs.Prelude.{ℕ, Option, Some, None}
use Rattle.hal_storage.specs.referents.Referents.{Referent, BlockOf}

-- the block that a name refers to
abbrev pub block_of : Referent → Option ℕ
block_of (BlockOf unit) = Some unit
block_of other = None
