use Rattle.std.proofs.Common.{◌<◌, ◌+◌, length, ap, ◌∙◌, arith}
use Rattle.std.proofs.lemmas.List.{length-set}
use Rattle.hal_machine.specs.Seen.{held_seen}
use Rattle.hal_runner.proofs.Cleared.{clears_there}
use Rattle.hal_runner.proofs.clearing.clear_from.Goals as goal

pub loop-number-preserved : goal.loop-number-preserved
loop-number-preserved c =
    let test = c.loop-number-test.true in
    let firsts = c.requires.firsts in
    let places = c.requires.places in
    let same = c.loop-number.invariant.1 in
    let in_firsts : c.loop-number.number < length c.args.firsts.now = omega (arith, test, firsts) in
    let in_places : c.loop-number.number < length c.loop-number.places.items = omega (arith, test, places, same) in (
      clears_there c.args.firsts.now c.loop-number.places.items c.loop-number.number (c.args.place + c.args.count) c.put_copy.new.self _ (c.in_ok-put_copy.ensures ∙ ap held_seen c.index-firsts-number.is) in_firsts in_places test ∙ c.loop-number.invariant.0,
      length-set _ _ _ ∙ same,
      omega (arith, test),
    )
