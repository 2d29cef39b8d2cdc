use Rattle.std.proofs.Common.{rules}
use Rattle.hal_tree.specs.SeenExpressions.{seen_expression}
use Rattle.hal_phrases.specs.SeenPhrases.{seen_phrase}
use Rattle.hal_names.specs.SeenNames.{seen_names}
use Rattle.hal_constants.specs.SeenKnown.{seen_known}
use Rattle.hal_templates.proofs.Ends.{ended}
use Rattle.hal_templates.proofs.sizes.same_sizes.Goals as goal

pub returns : goal.returns
returns c =
    ended seen_expression (seen_names c.args.names.now) (seen_known c.args.known.now) (seen_phrase c.args.one.now) (seen_phrase c.args.two.now) c.loop-tree.left.now c.loop-tree.right.now c.args.list.now c.args.others.now
    c.is_empty.result (search rules) (search rules) c.loop-tree.invariant
