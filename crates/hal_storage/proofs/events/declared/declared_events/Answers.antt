use Rattle.std.proofs.Common.{◌∙◌, ap, map}
use Rattle.hal_phrases.specs.SeenPhrases.{seen_phrase}
use Rattle.hal_names.specs.SeenNames.{seen_names}
use Rattle.hal_storage.proofs.elements.Found.{begun, events_declared}
use Rattle.hal_storage.proofs.events.declared.declared_events.Goals as goal

pub loop-phrase-init : goal.loop-phrase-init
loop-phrase-init c =
    begun _ _ _ c.new-list.ensures.items
    (events_declared (seen_names c.args.names.now) (map seen_phrase c.deref-phrase-items.result.now) (ap (map seen_phrase) c.deref-phrase-items.ensures.value ∙ c.in_ok-phrases.ensures))
