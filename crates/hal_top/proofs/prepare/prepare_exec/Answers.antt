use Rattle.hal_top.proofs.Prepared.{exec_told}
use Rattle.hal_top.proofs.prepare.prepare_exec.Goals as goal

pub returns-clause-told : goal.returns-clause-told
returns-clause-told g c =
    exec_told (g.S.Shelf.files c.args.shelf.now) (g.S.Shelf.files c.fetched_file.new.shelf) c.args.script.now c.args.image.now c.in_ok-text.text.items c.as_slice.result.now c.in_ok-bytes.bytes.items c.as_slice-2.result.now c.executed.result
    c.fetched_file.ensures.same c.in_ok-text.ensures.answer c.in_ok-bytes.ensures.answer c.as_slice.ensures.value c.as_slice-2.ensures.value c.executed.ensures.task
