-- The readers of what stands in a unit leave fewer words each time.
use Rattle.std.proofs.Common.{ℕ}
use Rattle.hal_parse_expr.proofs.Shortening.{Shortens}
use Rattle.hal_parse.specs.ReadingFiles.{element_of, block_at}
use Rattle.hal_parse.proofs.BlocksRead.{blocks, element_shortens}

-- what stands in a unit
pub element_below_shortens : (n : ℕ) → Shortens (element_of n (block_at n))
element_below_shortens n = element_shortens (blocks n)
