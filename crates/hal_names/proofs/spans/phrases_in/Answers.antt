use Rattle.std.proofs.Common.{map, sym, ap, subst, ◌∙◌}
use Rattle.hal_phrases.specs.SeenPhrases.{seen_phrase}
use Rattle.hal_names.specs.Spans.{IsSpan, or_nothing}
use Rattle.hal_names.proofs.Spanned.{shown}
use Rattle.hal_names.proofs.spans.phrases_in.Goals as goal

pub returns : goal.returns
returns c =
    shown c.args.home c.args.phrases.now c.or_nothing-span.result
    (subst (IsSpan c.args.home (map seen_phrase c.args.phrases.now)) (sym (c.or_nothing-span.ensures ∙ ap or_nothing c.span_of.ensures)) (c.requires.spans.finds c.args.home))
