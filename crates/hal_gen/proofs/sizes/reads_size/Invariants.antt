use Rattle.std.proofs.Common.{◌≡◌, map, drop}
use Rattle.hal_tree.specs.SeenExpressions.{seen_reference}
use Rattle.hal_gen_expr.specs.SeenSites.{seen_site, seen_numbering}
use Rattle.hal_gen.specs.Sums as sums
use Rattle.hal_gen.proofs.sizes.reads_size.Given as goal

abbrev pub invariant-loop-receiver : goal.invariant-loop-receiver
invariant-loop-receiver l =
    sums.with_receivers (seen_numbering l.site) (seen_site l.site) l.size (map seen_reference (drop l.receiver-index l.receivers)) ≡ sums.with_receivers (seen_numbering l.site) (seen_site l.site) 0 (map seen_reference l.receivers)
