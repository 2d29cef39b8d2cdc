use Rattle.std.proofs.Common.{map}
use Rattle.hal_tree.specs.SeenDeclarations.{seen_declaration}
use Rattle.hal_phrases.specs.SeenPhrases.{seen_node}
use Rattle.hal_templates.proofs.Gathered.{all_gathered}
use Rattle.hal_templates.proofs.entries.entries.Goals as goal

pub returns : goal.returns
returns c = all_gathered seen_declaration (map seen_node c.loop-declaration.list.items) c.args.declarations.now c.loop-declaration.declaration-index c.loop-declaration-test.false c.loop-declaration.invariant
