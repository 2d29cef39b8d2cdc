use Rattle.std.proofs.Common.{◌≡◌, map, drop}
use Rattle.hal_tree.specs.Rows.{subscripts}
use Rattle.hal_tree.specs.SeenExpressions.{seen_sub}
use Rattle.hal_phrases.specs.SeenPhrases.{seen_phrase}
use Rattle.hal_names.specs.SeenNames.{seen_names}
use Rattle.hal_constants.specs.SeenKnown.{seen_known}
use Rattle.hal_limits.specs.Choices.{with_choices}
use Rattle.hal_limits.specs.SeenViews.{seen_choice}
use Rattle.hal_limits.proofs.choices.push_choices.Given as goal

abbrev pub invariant-loop-size : goal.invariant-loop-size
invariant-loop-size l =
    with_choices (seen_names l.names) (seen_known l.known) (seen_phrase l.phrase) (map seen_choice l.into.items) (drop l.size-index l.sizes) (subscripts (map seen_sub l.rest))
    ≡ with_choices (seen_names l.names) (seen_known l.known) (seen_phrase l.phrase) (map seen_choice l.fn.into.items) l.sizes (subscripts (map seen_sub l.subs))
