use Rattle.std.proofs.Common.{rules, ◌≤◌, length}
use Rattle.hal_tree.specs.SeenExpressions.{seen_reference}
use Rattle.hal_gen_expr.specs.SeenSites.{seen_site, seen_numbering}
use Rattle.hal_gen.proofs.Counted.{reads_done}
use Rattle.hal_gen.proofs.sizes.reads_size.Goals as goal

pub returns : goal.returns
returns c =
    let past : length c.args.receivers.now ≤ c.loop-receiver.receiver-index = search rules in
    reads_done seen_reference (seen_numbering c.args.site.now) (seen_site c.args.site.now) c.loop-receiver.size c.loop-receiver.receiver-index c.args.receivers.now past c.loop-receiver.invariant
