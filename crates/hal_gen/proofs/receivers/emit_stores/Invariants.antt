use Rattle.std.proofs.Common.{◌≡◌, map, length}
use Rattle.hal_tree.specs.SeenExpressions.{seen_reference}
use Rattle.hal_gen_expr.specs.SeenSites.{seen_site, seen_numbering}
use Rattle.hal_gen.specs.Storing as storing
use Rattle.hal_gen.proofs.receivers.emit_stores.Given as goal

abbrev pub invariant-loop-receiver : goal.invariant-loop-receiver
invariant-loop-receiver l =
    storing.stores_code (seen_numbering l.site) (seen_site l.site) l.code.items (map seen_reference l.rest) ≡ storing.stores_code (seen_numbering l.site) (seen_site l.site) l.fn.code.items (map seen_reference l.receivers)

abbrev pub decreases-loop-receiver : goal.decreases-loop-receiver
decreases-loop-receiver l = length l.rest
