use Rattle.std.proofs.Common.{◌<◌, length, rules}
use Rattle.hal_phrases.proofs.Bottoms.{bottom_got}
use Rattle.hal_phrases.proofs.parts.is_bottom.Goals as goal

pub returns-in-len1-up : goal.returns-in-len1-up
returns-in-len1-up c =
    let some : 0 < length c.args.rest.now = search rules in
    bottom_got c.args.level c.args.rest.now c.next-item.result some c.next-item.is
