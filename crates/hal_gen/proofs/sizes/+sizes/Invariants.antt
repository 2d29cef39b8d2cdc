use Rattle.std.proofs.Common.{◌≡◌, map, drop}
use Rattle.hal_tree.specs.SeenStatements.{seen_statement}
use Rattle.hal_gen_expr.specs.SeenSites.{seen_site, seen_numbering}
use Rattle.hal_gen.specs.Sums as sums
use Rattle.hal_gen.proofs.sizes.+sizes.Given as goal

abbrev pub invariant-statements_size-loop-tree : goal.invariant-statements_size-loop-tree
invariant-statements_size-loop-tree l =
    sums.with_statements (seen_numbering l.site) (seen_site l.site) l.following l.size (map seen_statement (drop l.tree-index l.trees)) ≡ sums.with_statements (seen_numbering l.site) (seen_site l.site) l.mark 0 (map seen_statement l.trees)

abbrev pub invariant-selected_size-loop-tree : goal.invariant-selected_size-loop-tree
invariant-selected_size-loop-tree l =
    sums.with_cases (seen_numbering l.site) (seen_site l.site) l.following l.size (map seen_statement (drop l.tree-index l.trees)) ≡ sums.with_cases (seen_numbering l.site) (seen_site l.site) l.mark 0 (map seen_statement l.trees)
