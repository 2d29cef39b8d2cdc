use Rattle.std.proofs.Common.{◌∙◌, ap, map}
use Rattle.hal_phrases.specs.SeenPhrases.{seen_phrase}
use Rattle.hal_names.specs.SeenNames.{seen_names}
use Rattle.hal_constants.specs.SeenKnown.{seen_known}
use Rattle.hal_storage.proofs.elements.Found.{begun, cells_declared}
use Rattle.hal_storage.proofs.cells.cells.cells_of.Goals as goal

pub loop-phrase-init : goal.loop-phrase-init
loop-phrase-init c =
    begun _ _ _ c.new-list.ensures.items
    (cells_declared (seen_names c.args.names.now) (seen_known c.args.known.now) (map seen_phrase c.deref-phrase-items.result.now)
    (ap (map seen_phrase) c.deref-phrase-items.ensures.value ∙ c.in_ok-phrases.ensures))
