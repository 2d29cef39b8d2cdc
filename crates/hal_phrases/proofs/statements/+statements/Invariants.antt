use Rattle.std.proofs.Common.{◌≡◌, map, drop}
use Rattle.hal_tree.specs.Rows.{statements}
use Rattle.hal_tree.specs.SeenStatements.{seen_statement}
use Rattle.hal_phrases.specs.SeenPhrases.{seen_phrase}
use Rattle.hal_phrases.specs.GatheredStatements.{gathered_statements}
use Rattle.hal_phrases.proofs.statements.+statements.Given as goal

abbrev pub invariant-gather_statements-loop-tree : goal.invariant-gather_statements-loop-tree
invariant-gather_statements-loop-tree l =
    gathered_statements (map seen_phrase l.into.items) l.around (statements (map seen_statement (drop l.tree-index l.trees))) ≡ gathered_statements (map seen_phrase l.fn.into.items) l.around (statements (map seen_statement l.trees))
