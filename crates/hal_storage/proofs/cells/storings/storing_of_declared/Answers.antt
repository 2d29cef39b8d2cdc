use Rattle.std.proofs.Common.{◌∙◌, sym, map}
use Rattle.hal_tree.specs.SeenDeclarations.{seen_attribute, seen_declared}
use Rattle.hal_phrases.specs.SeenPhrases.{seen_phrase}
use Rattle.hal_names.specs.SeenNames.{seen_names}
use Rattle.hal_constants.specs.SeenKnown.{seen_known}
use Rattle.hal_storage.proofs.cells.Grouped.{storing_behind}
use Rattle.hal_storage.proofs.cells.storings.storing_of_declared.Goals as goal

pub returns : goal.returns
returns c =
    c.storing_of_item.ensures
    ∙ sym (storing_behind (seen_names c.args.names.now) (seen_known c.args.known.now) (seen_phrase c.args.phrase.now) (map seen_attribute c.args.common.now) (seen_declared c.args.item.now))
