use Rattle.hal_top.specs.CommandLine.{texts}
use Rattle.hal_top.proofs.Prepared.{run_told}
use Rattle.hal_top.proofs.prepare.prepare_run.Goals as goal

pub returns-clause-told : goal.returns-clause-told
returns-clause-told g c =
    run_told (g.S.Shelf.files c.args.shelf.now) (g.S.Shelf.files c.fetched_file.new.shelf) c.args.script.now (texts c.args.units.now) c.in_ok-text.text.items c.as_slice.result.now c.in_ok-units.units.items c.as_slice-2.result.now c.run.result
    c.fetched_file.ensures.same c.in_ok-text.ensures.answer c.in_ok-units.ensures.answer c.as_slice.ensures.value c.as_slice-2.ensures.value c.run.ensures.task
