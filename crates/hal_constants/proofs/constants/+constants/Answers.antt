use Rattle.std.proofs.Common.{◌≡◌, ◌∙◌, sym, ap, map}
use Rattle.std.specs.Option.{option_map}
use Rattle.hal_tree.specs.Rows.{terms}
use Rattle.hal_tree.specs.SeenExpressions.{seen_expression, seen_signed}
use Rattle.hal_tree.specs.SeenLeaves.{seen_sign}
use Rattle.hal_tree.proofs.MadeExpressions.{made_sum}
use Rattle.hal_phrases.specs.SeenPhrases.{seen_phrase}
use Rattle.hal_names.specs.SeenNames.{seen_names}
use Rattle.hal_constants.specs.Constants.{constant_of, signed, summed}
use Rattle.hal_constants.specs.SeenKnown.{seen_known}
use Rattle.hal_constants.proofs.constants.+constants.Goals as goal

pub constant_of-returns-in-Sum : goal.constant_of-returns-in-Sum
unfolding constant_of
constant_of-returns-in-Sum t c =
    c.summed.ensures
    ∙ ap (λ others. summed (seen_names c.args.names.now) (seen_known c.args.known.now) (seen_phrase c.args.phrase.now) c.signed-first.result (terms (map seen_signed others))) c.deref-in-Sum-2.ensures.value
    ∙ ap (λ first. summed (seen_names c.args.names.now) (seen_known c.args.known.now) (seen_phrase c.args.phrase.now) first (terms (map seen_signed c.in-Sum.others.items)))
    (c.signed-first.ensures
    ∙ ap (signed (option_map seen_sign c.in-Sum.opening))
    (c.constant_of.ensures ∙ ap (λ tree. constant_of (seen_names c.args.names.now) (seen_known c.args.known.now) (seen_phrase c.args.phrase.now) (seen_expression tree)) c.deref-in-Sum.ensures))
    ∙ sym (ap (λ tree. constant_of (seen_names c.args.names.now) (seen_known c.args.known.now) (seen_phrase c.args.phrase.now) (seen_expression tree)) c.in-Sum.is
    ∙ ap (constant_of (seen_names c.args.names.now) (seen_known c.args.known.now) (seen_phrase c.args.phrase.now)) (made_sum c.in-Sum.place c.in-Sum.opening c.in-Sum.first c.in-Sum.others))
