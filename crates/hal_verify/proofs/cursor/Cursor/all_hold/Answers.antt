use Rattle.std.proofs.Common.{rules, ◌≡◌, length, sym, ◌∙◌}
use Rattle.hal_code.specs.Images.{expanded}
use Rattle.hal_verify.proofs.Cursors.{hold_short, no_rooms}
use Rattle.hal_verify.proofs.cursor.Cursor.all_hold.Goals as goal

pub returns-in_default : goal.returns-in_default
returns-in_default c =
    let none : length c.loop-at.at.rest.now ≡ 0 = search rules in
    sym (hold_short c.args.wanted c.loop-at.left c.loop-at.at.count c.loop-at.at.room (expanded c.loop-at.at.rest.now) (no_rooms c.loop-at.at.rest.now none) c.loop-at-test.true)
    ∙ c.loop-at.invariant
