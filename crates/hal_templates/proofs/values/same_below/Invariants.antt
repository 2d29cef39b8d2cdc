use Rattle.std.proofs.Common.{◌≡◌}
use Rattle.hal_phrases.specs.SeenPhrases.{seen_phrase}
use Rattle.hal_names.specs.SeenNames.{seen_names}
use Rattle.hal_constants.specs.SeenKnown.{seen_known}
use Rattle.hal_templates.specs.Leaves.{seen_leaves}
use Rattle.hal_templates.specs.Values.{same_below}
use Rattle.hal_templates.proofs.values.same_below.Given as goal

abbrev pub invariant-loop-number : goal.invariant-loop-number
invariant-loop-number l =
    same_below (seen_names l.names) (seen_known l.known) l.kinds (seen_phrase l.one) (seen_leaves l.left) (seen_phrase l.two) (seen_leaves l.right) l.more
    ≡ same_below (seen_names l.names) (seen_known l.known) l.kinds (seen_phrase l.one) (seen_leaves l.left) (seen_phrase l.two) (seen_leaves l.right) l.count

abbrev pub decreases-loop-number : goal.decreases-loop-number
decreases-loop-number l = l.more
