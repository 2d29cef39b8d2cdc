use Rattle.std.proofs.Common.{List, filter_map, ap, ◌∙◌, arith}
use Rattle.hal_values.specs.ReportElements.{Element}
use Rattle.image_procs.specs.Owning.{own_shown, places_seen}
use Rattle.image_procs.proofs.Filtered.{owns_whole}
use Rattle.image_procs.proofs.owning.own_values.Goals as goal

pub returns : goal.returns
returns c =
    owns_whole c.args.process (places_seen c.args.runner.now) c.loop-element.values.items c.as_slice-elements.result.now c.loop-element.element-index (omega (arith, c.loop-element-test.false)) c.loop-element.invariant
    ∙ ap (λ (es : List Element). filter_map (own_shown c.args.process (places_seen c.args.runner.now)) es) (c.as_slice-elements.ensures.value ∙ c.in_ok-shown.ensures)
