use Rattle.std.proofs.Common.{◌≡◌, ◌++◌, Option, map, option_map, drop}
use Rattle.hal_phrases.specs.SeenPhrases.{seen_phrase}
use Rattle.hal_names.specs.SeenNames.{seen_names}
use Rattle.hal_constants.specs.SeenKnown.{seen_known}
use Rattle.hal_storage.specs.declared.elements.component.Shape as rust-shape
use Rattle.hal_storage.specs.elements.SeenComponents.{seen_shape}
use Rattle.hal_limits.specs.Kept.{kept_shape}
use Rattle.hal_limits.proofs.shapes.Shapes.of.Given as goal

abbrev pub invariant-loop-phrase : goal.invariant-loop-phrase
invariant-loop-phrase l =
    map (λ (o : Option rust-shape.Shape). option_map seen_shape o) l.list.items ++ map (kept_shape (seen_names l.names) (seen_known l.known)) (map seen_phrase (drop l.phrase-index l.phrase-items))
    ≡ map (kept_shape (seen_names l.names) (seen_known l.known)) (seen_names l.names)
