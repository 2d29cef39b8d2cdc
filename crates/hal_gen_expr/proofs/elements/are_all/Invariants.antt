use Rattle.std.proofs.Common.{◌≡◌, map, length}
use Rattle.hal_tree.specs.SeenLeaves.{seen_name}
use Rattle.hal_meaning.specs.Elements as elements
use Rattle.hal_gen_expr.proofs.elements.are_all.Given as goal

abbrev pub invariant-loop-wanted : goal.invariant-loop-wanted
invariant-loop-wanted l = elements.are_all (map seen_name l.left) l.rest ≡ elements.are_all (map seen_name l.path) l.names

abbrev pub decreases-loop-wanted : goal.decreases-loop-wanted
decreases-loop-wanted l = length l.left
