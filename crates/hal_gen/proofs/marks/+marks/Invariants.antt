use Rattle.std.proofs.Common.{◌≡◌, map, drop}
use Rattle.hal_tree.specs.Rows.{statements}
use Rattle.hal_tree.specs.SeenStatements.{seen_statement}
use Rattle.hal_meaning.specs.Marks as marks
use Rattle.hal_gen.proofs.marks.+marks.Given as goal

abbrev pub invariant-after_statements-loop-tree : goal.invariant-after_statements-loop-tree
invariant-after_statements-loop-tree l = marks.after_statements l.following (statements (map seen_statement (drop l.tree-index l.trees))) ≡ marks.after_statements l.mark (statements (map seen_statement l.trees))
