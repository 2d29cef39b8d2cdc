use Rattle.std.proofs.Common.{◌≡◌, [], drop, map}
use Rattle.hal_phrases.specs.SeenPhrases.{seen_phrase}
use Rattle.hal_names.specs.SeenNames.{seen_names}
use Rattle.hal_names.specs.Declarations.{with_all_chosen}
use Rattle.hal_names.proofs.declarations.chosen_at.Given as goal

abbrev pub invariant-loop-place : goal.invariant-loop-place
invariant-loop-place l =
    with_all_chosen (seen_names l.names) (map seen_phrase l.chosen.items) (drop l.place-index l.places) ≡ with_all_chosen (seen_names l.names) [] l.places
