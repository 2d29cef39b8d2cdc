use Rattle.hal_tree.specs.SeenUnits.{seen_preface}
use Rattle.hal_parse_expr.specs.Seen.{seen_as, seen_list}
use Rattle.hal_parse_expr.proofs.Loops.{loop_smaller, loop_step, loop_end}
use Rattle.hal_parse.specs.ReadingFiles.{preface_at, prefaces_at}
use Rattle.hal_parse.proofs.FilesRead.{preface_shortens}
use Rattle.hal_parse.proofs.files.prefaces.Goals as goal

pub prefaces-smaller : goal.prefaces-smaller
unfolding seen_as
prefaces-smaller c = loop_smaller (preface_at c.args.depth) (preface_shortens c.args.depth) (rw c.in-Some.is at c.in_ok-next.ensures)

pub prefaces-preserved : goal.prefaces-preserved
unfolding seen_as
prefaces-preserved c =
    rw c.in_ok-push.ensures.items (loop_step seen_preface (preface_at c.args.depth) (preface_shortens c.args.depth) c.prefaces.prefaces.items c.in-Some.next (rw c.in-Some.is at c.in_ok-next.ensures) c.prefaces.invariant)

pub returns : goal.returns
unfolding seen_as seen_list prefaces_at
returns c = loop_end seen_preface (preface_at c.args.depth) c.prefaces.prefaces.items (rw c.in_default.is at c.in_ok-next.ensures) c.prefaces.invariant
