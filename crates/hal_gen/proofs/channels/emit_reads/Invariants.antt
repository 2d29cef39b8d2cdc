use Rattle.std.proofs.Common.{◌≡◌, map, drop}
use Rattle.hal_tree.specs.SeenExpressions.{seen_reference}
use Rattle.hal_gen_expr.specs.SeenSites.{seen_site, seen_numbering}
use Rattle.hal_gen.specs.StatementCode as codes
use Rattle.hal_gen.proofs.channels.emit_reads.Given as goal

abbrev pub invariant-loop-receiver : goal.invariant-loop-receiver
invariant-loop-receiver l =
    codes.reads_code (seen_numbering l.site) (seen_site l.site) l.code.items l.channel (map seen_reference (drop l.receiver-index l.receivers)) ≡ codes.reads_code (seen_numbering l.site) (seen_site l.site) l.fn.code.items l.channel (map seen_reference l.receivers)
