use Rattle.hal_top.proofs.Headline.{task-none_absent, task-none_long, task-none_faulty, task-none_broken, task-none_bad, refused-absent, refused-long, refused-faulty, refused-broken, refused-bad, usage_told}
use Rattle.hal_top.proofs.Completing.{runs_complete, builds_complete, execs_complete, refused_any, printed_any, memory_any, reported-whole, reported-front}
use Rattle.hal_top.proofs.top.hal.Goals as goal

pub returns-in-Err-clause-absent_exactly : goal.returns-in-Err-clause-absent_exactly
returns-in-Err-clause-absent_exactly g c = refused-absent (g.S.Shelf.files c.args.shelf.now) _ _ _ c.refuse.ensures.outcome c.in-Err.ensures.told

pub returns-in-Err-clause-too_long_exactly : goal.returns-in-Err-clause-too_long_exactly
returns-in-Err-clause-too_long_exactly g c = refused-long (g.S.Shelf.files c.args.shelf.now) _ _ _ c.refuse.ensures.outcome c.in-Err.ensures.told

pub returns-in-Err-clause-faulty_exactly : goal.returns-in-Err-clause-faulty_exactly
returns-in-Err-clause-faulty_exactly g c = refused-faulty (g.S.Shelf.files c.args.shelf.now) _ _ _ c.refuse.ensures.outcome c.in-Err.ensures.told

pub returns-in-Err-clause-broken_exactly : goal.returns-in-Err-clause-broken_exactly
returns-in-Err-clause-broken_exactly g c = refused-broken (g.S.Shelf.files c.args.shelf.now) _ _ _ c.refuse.ensures.outcome c.in-Err.ensures.told

pub returns-in-Err-clause-bad_image_exactly : goal.returns-in-Err-clause-bad_image_exactly
returns-in-Err-clause-bad_image_exactly g c = refused-bad (g.S.Shelf.files c.args.shelf.now) _ _ _ c.refuse.ensures.outcome c.in-Err.ensures.told

pub returns-in-Err-clause-runs : goal.returns-in-Err-clause-runs
returns-in-Err-clause-runs g c = runs_complete (g.S.Shelf.files c.args.shelf.now) _ _ (refused_any (g.S.Shelf.files c.args.shelf.now) _ _ _ c.refuse.ensures.outcome c.in-Err.ensures.told)

pub returns-in-Err-clause-builds : goal.returns-in-Err-clause-builds
returns-in-Err-clause-builds g c = builds_complete (g.S.Shelf.files c.args.shelf.now) _ _ (refused_any (g.S.Shelf.files c.args.shelf.now) _ _ _ c.refuse.ensures.outcome c.in-Err.ensures.told)

pub returns-in-Err-clause-executes : goal.returns-in-Err-clause-executes
returns-in-Err-clause-executes g c = execs_complete (g.S.Shelf.files c.args.shelf.now) _ _ (refused_any (g.S.Shelf.files c.args.shelf.now) _ _ _ c.refuse.ensures.outcome c.in-Err.ensures.told)

pub returns-in-Ok-perform-clause-absent_exactly : goal.returns-in-Ok-perform-clause-absent_exactly
returns-in-Ok-perform-clause-absent_exactly g c = task-none_absent (g.S.Shelf.files c.args.shelf.now) _ _ _ c.in-Ok.ensures.told

pub returns-in-Ok-perform-clause-too_long_exactly : goal.returns-in-Ok-perform-clause-too_long_exactly
returns-in-Ok-perform-clause-too_long_exactly g c = task-none_long (g.S.Shelf.files c.args.shelf.now) _ _ _ c.in-Ok.ensures.told

pub returns-in-Ok-perform-clause-faulty_exactly : goal.returns-in-Ok-perform-clause-faulty_exactly
returns-in-Ok-perform-clause-faulty_exactly g c = task-none_faulty (g.S.Shelf.files c.args.shelf.now) _ _ _ c.in-Ok.ensures.told

pub returns-in-Ok-perform-clause-broken_exactly : goal.returns-in-Ok-perform-clause-broken_exactly
returns-in-Ok-perform-clause-broken_exactly g c = task-none_broken (g.S.Shelf.files c.args.shelf.now) _ _ _ c.in-Ok.ensures.told

pub returns-in-Ok-perform-clause-bad_image_exactly : goal.returns-in-Ok-perform-clause-bad_image_exactly
returns-in-Ok-perform-clause-bad_image_exactly g c = task-none_bad (g.S.Shelf.files c.args.shelf.now) _ _ _ c.in-Ok.ensures.told

pub returns-in-Err-perform-clause-absent_exactly : goal.returns-in-Err-perform-clause-absent_exactly
returns-in-Err-perform-clause-absent_exactly g c = task-none_absent (g.S.Shelf.files c.args.shelf.now) _ _ _ c.in-Ok.ensures.told

pub returns-in-Err-perform-clause-too_long_exactly : goal.returns-in-Err-perform-clause-too_long_exactly
returns-in-Err-perform-clause-too_long_exactly g c = task-none_long (g.S.Shelf.files c.args.shelf.now) _ _ _ c.in-Ok.ensures.told

pub returns-in-Err-perform-clause-faulty_exactly : goal.returns-in-Err-perform-clause-faulty_exactly
returns-in-Err-perform-clause-faulty_exactly g c = task-none_faulty (g.S.Shelf.files c.args.shelf.now) _ _ _ c.in-Ok.ensures.told

pub returns-in-Err-perform-clause-broken_exactly : goal.returns-in-Err-perform-clause-broken_exactly
returns-in-Err-perform-clause-broken_exactly g c = task-none_broken (g.S.Shelf.files c.args.shelf.now) _ _ _ c.in-Ok.ensures.told

pub returns-in-Err-perform-clause-bad_image_exactly : goal.returns-in-Err-perform-clause-bad_image_exactly
returns-in-Err-perform-clause-bad_image_exactly g c = task-none_bad (g.S.Shelf.files c.args.shelf.now) _ _ _ c.in-Ok.ensures.told

pub returns-in-Ok-perform-clause-done : goal.returns-in-Ok-perform-clause-done
returns-in-Ok-perform-clause-done g c = reported-whole (g.S.Shelf.files c.args.shelf.now) _ _ _ _ _ _ _ _ _ _ c.in-Ok.ensures.told c.in-Ok.ensures.fit c.in-Ok-perform.ensures c.print.ensures.journal c.print.ensures.printed

pub returns-in-Ok-perform-clause-cut_short : goal.returns-in-Ok-perform-clause-cut_short
returns-in-Ok-perform-clause-cut_short g c = reported-front (g.S.Shelf.files c.args.shelf.now) _ _ _ _ _ _ _ _ _ _ c.in-Ok.ensures.told c.in-Ok.ensures.fit c.in-Ok-perform.ensures c.print.ensures.journal c.print.ensures.printed

pub returns-in-Ok-perform-clause-runs : goal.returns-in-Ok-perform-clause-runs
returns-in-Ok-perform-clause-runs g c = runs_complete (g.S.Shelf.files c.args.shelf.now) _ _ (printed_any (g.S.Shelf.files c.args.shelf.now) _ _ _ _ _ _ _ c.print.ensures.printed)

pub returns-in-Ok-perform-clause-builds : goal.returns-in-Ok-perform-clause-builds
returns-in-Ok-perform-clause-builds g c = builds_complete (g.S.Shelf.files c.args.shelf.now) _ _ (printed_any (g.S.Shelf.files c.args.shelf.now) _ _ _ _ _ _ _ c.print.ensures.printed)

pub returns-in-Ok-perform-clause-executes : goal.returns-in-Ok-perform-clause-executes
returns-in-Ok-perform-clause-executes g c = execs_complete (g.S.Shelf.files c.args.shelf.now) _ _ (printed_any (g.S.Shelf.files c.args.shelf.now) _ _ _ _ _ _ _ c.print.ensures.printed)

pub returns-in-Err-perform-clause-runs : goal.returns-in-Err-perform-clause-runs
returns-in-Err-perform-clause-runs g c = runs_complete (g.S.Shelf.files c.args.shelf.now) _ _ (memory_any (g.S.Shelf.files c.args.shelf.now) _ _ c.refuse-in-Err-perform.ensures.outcome)

pub returns-in-Err-perform-clause-builds : goal.returns-in-Err-perform-clause-builds
returns-in-Err-perform-clause-builds g c = builds_complete (g.S.Shelf.files c.args.shelf.now) _ _ (memory_any (g.S.Shelf.files c.args.shelf.now) _ _ c.refuse-in-Err-perform.ensures.outcome)

pub returns-in-Err-perform-clause-executes : goal.returns-in-Err-perform-clause-executes
returns-in-Err-perform-clause-executes g c = execs_complete (g.S.Shelf.files c.args.shelf.now) _ _ (memory_any (g.S.Shelf.files c.args.shelf.now) _ _ c.refuse-in-Err-perform.ensures.outcome)

pub returns-in-Err-clause-usage : goal.returns-in-Err-clause-usage
returns-in-Err-clause-usage g c = usage_told _ _ _ c.refuse.ensures.outcome c.refuse.ensures.usage c.in-Err.ensures.usage
