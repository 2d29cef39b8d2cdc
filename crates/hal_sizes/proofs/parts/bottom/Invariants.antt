use Rattle.std.proofs.Common.{◌≡◌, ◌≤◌, map, length}
use Rattle.hal_tree.specs.SeenDeclarations.{seen_part}
use Rattle.hal_sizes.specs.Parts.{bottoms}
use Rattle.hal_sizes.proofs.parts.bottom.Given as goal

abbrev pub invariant-loop-part : goal.invariant-loop-part
invariant-loop-part l = (bottoms l.level (map seen_part l.rest) ≡ bottoms l.level (map seen_part l.list)) × (length l.rest ≤ length l.list)

abbrev pub decreases-loop-part : goal.decreases-loop-part
decreases-loop-part l = length l.rest
