use Rattle.std.proofs.Common.{◌≡◌, map, take}
use Rattle.hal_tree.specs.SeenStatements.{seen_statement}
use Rattle.hal_copies.proofs.statements.+copying_statements.Given as goal

abbrev pub invariant-copy_statements-loop-tree : goal.invariant-copy_statements-loop-tree
invariant-copy_statements-loop-tree l = map seen_statement l.copied.items ≡ map seen_statement (take l.tree-index l.trees)
