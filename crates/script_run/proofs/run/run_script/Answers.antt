use Rattle.std.proofs.Common.{subst, sym}
use Rattle.exec_model.specs.Meanings.{meaning}
use Rattle.exec_model.specs.Running.{running_moment}
use Rattle.exec_model.specs.Sound.{IsSound}
use Rattle.script_run.specs.Running.{RunsBlocks, RunsLines}
use Rattle.script_run.proofs.Running.{IsRunTo-completed, lines-sound, script_fits}
use Rattle.script_run.proofs.run.run_script.Goals as goal

pub run_lines-requires : goal.run_lines-requires
run_lines-requires g c = script_fits (g.P.Of.Load.tables (g.P.Procs.load c.args.plain.now.procs)) c.args.script.now c.as_slice.result.now _ c.requires.opening c.as_slice.ensures.limits c.as_slice.ensures.lines

pub complete_blocks-requires-clause-sound : goal.complete_blocks-requires-clause-sound
complete_blocks-requires-clause-sound g c =
    subst (λ l. IsSound (meaning g.P.Of.Load l) (running_moment g.P.Procs.answers c.run_lines.new.plain)) (sym c.run_lines.ensures.load)
    (lines-sound (meaning g.P.Of.Load (g.P.Procs.load c.args.plain.now.procs)) c.args.plain.now.lanes c.args.script.now c.as_slice.result.now
    (running_moment g.P.Procs.answers c.args.plain.now) (running_moment g.P.Procs.answers c.run_lines.new.plain) c.args.plain.now.journal c.run_lines.new.plain.journal (g.P.Of.Load.is_load (g.P.Procs.load c.args.plain.now.procs))
    c.as_slice.ensures.limits c.requires.opening c.as_slice.ensures.lines c.in_ok-run_lines.ensures.made)

pub returns-clause-run : goal.returns-clause-run
returns-clause-run g c =
    let q = meaning g.P.Of.Load (g.P.Procs.load c.args.plain.now.procs) in
    let start = running_moment g.P.Procs.answers c.args.plain.now in
    let middle = running_moment g.P.Procs.answers c.run_lines.new.plain in
    let end_ = running_moment g.P.Procs.answers c.complete_blocks.new.plain in
    IsRunTo-completed q c.args.script.now c.as_slice.result.now start middle end_ c.args.plain.now.journal c.run_lines.new.plain.journal c.complete_blocks.new.plain.journal c.requires.fresh c.requires.opening c.as_slice.ensures.lines
    (subst (λ n. RunsLines q n start c.as_slice.result.now c.args.plain.now.journal c.run_lines.new.plain.journal middle) c.requires.one_lane c.in_ok-run_lines.ensures.made)
    (subst (λ l. RunsBlocks (meaning g.P.Of.Load l) middle c.run_lines.new.plain.journal c.complete_blocks.new.plain.journal end_) c.run_lines.ensures.load c.in_ok-complete_blocks.ensures.made)
