use Rattle.std.proofs.Common.{◌≡◌, map, drop}
use Rattle.hal_tree.specs.Rows.{statements}
use Rattle.hal_tree.specs.SeenStatements.{seen_statement}
use Rattle.hal_gen_expr.specs.SeenSites.{seen_site, seen_numbering}
use Rattle.hal_gen.specs.SeenExits.{seen_exits}
use Rattle.hal_gen.specs.StatementCode as codes
use Rattle.hal_gen.proofs.statements.+statements.Given as goal

abbrev pub invariant-emit_statements-loop-tree : goal.invariant-emit_statements-loop-tree
invariant-emit_statements-loop-tree l =
    codes.statements_code (seen_numbering l.site) (seen_site l.site) l.code.items (seen_exits l.exits) l.following (statements (map seen_statement (drop l.tree-index l.list))) ≡ codes.statements_code (seen_numbering l.site) (seen_site l.site) l.fn.code.items (seen_exits l.exits) l.mark (statements (map seen_statement l.list))

abbrev pub invariant-emit_selected-loop-tree : goal.invariant-emit_selected-loop-tree
invariant-emit_selected-loop-tree l =
    codes.selected_code (seen_numbering l.site) (seen_site l.site) l.code.items (seen_exits l.exits) l.selection.place l.selection.cell l.selection.end l.following l.number (statements (map seen_statement (drop l.tree-index l.list))) ≡ codes.selected_code (seen_numbering l.site) (seen_site l.site) l.fn.code.items (seen_exits l.exits) l.selection.place l.selection.cell l.selection.end l.mark 1 (statements (map seen_statement l.list))

abbrev pub invariant-emit_block-loop-tree : goal.invariant-emit_block-loop-tree
invariant-emit_block-loop-tree l =
    codes.block_code (seen_numbering l.site) (seen_site l.site) l.code.items (seen_exits l.exits) l.following (statements (map seen_statement (drop l.tree-index l.list))) ≡ codes.block_code (seen_numbering l.site) (seen_site l.site) l.fn.code.items (seen_exits l.exits) l.mark (statements (map seen_statement l.list))
