use Rattle.std.proofs.Common.{◌≡◌, refl, ap, sym, ◌∙◌, []}
use Rattle.std.specs.Str.Lines.{lines}
use Rattle.hal_script.specs.declared.reading.Reading.TheVariants.{Good}
use Rattle.hal_script.specs.Readings.{reading}
use Rattle.hal_script.proofs.Limits.{reading-Good}
use Rattle.hal_script.proofs.Progress.{IsRead-step, IsRead-end, IsScript-within}
use Rattle.hal_script.proofs.read.read_script.Goals as goal

pub lines-preserved : goal.lines-preserved
lines-preserved c =
    let good : reading c.lines.so_far c.in-Some.line.now ≡ Good c.in-Good.asked = sym c.in_ok-asked.ensures ∙ c.in-Good.is in
    let kept = reading-Good c.lines.so_far c.in-Some.line.now c.in-Good.asked c.lines.invariant.within.events_few c.lines.invariant.within.time_short good in
    rw (c.in_ok-so_far.ensures.0, c.in_ok-so_far.ensures.1)
    (IsRead-step _ c.lines.rest.now c.in-Some.after.now c.in-Some.line.now c.lines.so_far c.lines.script.items c.in-Good.asked c.lines.invariant c.in-Some.ensures.first
    good kept.0 kept.1)

pub new-requires : goal.new-requires
new-requires c = IsScript-within c.lines.so_far c.lines.script.items c.lines.invariant.within

pub returns-clause-found : goal.returns-clause-found
returns-clause-found c =
    let none : c.lines.rest.now ≡ [] = c.in_default.ensures.none.0 refl in
    rw c.new.ensures (IsRead-end _ c.lines.rest.now c.lines.so_far c.lines.script.items c.lines.invariant (ap lines none))

pub returns-clause-limits : goal.returns-clause-limits
returns-clause-limits c = rw c.new.ensures (IsScript-within c.lines.so_far c.lines.script.items c.lines.invariant.within)
