use Rattle.std.proofs.Common.{◌==◌, cond, Option, Some, ap, ◌∙◌}
use Rattle.hal_names.specs.declared.spans.Span.{Span}
use Rattle.hal_names.specs.Spans.{span_of, up_to}
use Rattle.hal_names.proofs.spans.note.Goals as goal

pub returns : goal.returns
returns c = record {
  finds = λ q.
      c.in_ok-insert.ensures.updates.0 q
      ∙ ap (λ (s : Span). cond (c.args.home == q) (Some s) (span_of c.args.spans.now.entries q)) (c.up_to-span.ensures ∙ ap (up_to c.args.end) c.span_of.ensures);
}
