use Rattle.std.proofs.Common.{◌≡◌, map, take}
use Rattle.hal_tree.specs.SeenExpressions.{seen_expression, seen_signed, seen_sub}
use Rattle.hal_copies.proofs.expressions.+copying.Given as goal

abbrev pub invariant-copy_expressions-loop-tree : goal.invariant-copy_expressions-loop-tree
invariant-copy_expressions-loop-tree l = map seen_expression l.copied.items ≡ map seen_expression (take l.tree-index l.trees)

abbrev pub invariant-copy_subs-loop-tree : goal.invariant-copy_subs-loop-tree
invariant-copy_subs-loop-tree l = map seen_sub l.copied.items ≡ map seen_sub (take l.tree-index l.trees)

abbrev pub invariant-copy_terms-loop-tree : goal.invariant-copy_terms-loop-tree
invariant-copy_terms-loop-tree l = map seen_signed l.copied.items ≡ map seen_signed (take l.tree-index l.trees)
