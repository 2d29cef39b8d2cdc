use Rattle.std.proofs.Common.{◌∷◌, [], ◌++◌, ap, ◌∙◌, arith}
use Rattle.hal_values.specs.ReportElements.{Element, element, size_of}
use Rattle.hal_report.proofs.Ranges.{map-next}
use Rattle.hal_report.proofs.elements.add_copy.Goals as goal

pub numbers-preserved : goal.numbers-preserved
numbers-preserved c =
    map-next (element c.args.named.now c.args.copy) (size_of c.args.named.now.dimensions) c.numbers.number c.numbers.shown.items _ _
    (omega (arith, c.numbers-test.true, c.size_of-size.ensures ∙ ap size_of c.as_slice.ensures)) c.numbers.invariant
    (c.in_ok-push.ensures.items ∙ ap (λ (e : Element). c.numbers.shown.items ++ e ∷ []) c.in_ok-element.ensures)
