use Rattle.std.proofs.Common.{◌≡◌, ◌++◌, map, drop}
use Rattle.hal_tree.specs.Rows.{initials}
use Rattle.hal_tree.specs.SeenDeclarations.{seen_initial}
use Rattle.hal_phrases.specs.SeenPhrases.{seen_phrase}
use Rattle.hal_names.specs.SeenNames.{seen_names}
use Rattle.hal_constants.specs.SeenKnown.{seen_known}
use Rattle.hal_meaning.specs.Elements.{times}
use Rattle.hal_meaning.specs.InitialValues.{all_values}
use Rattle.hal_storage.proofs.first_values.given.+values.Given as goal

abbrev pub invariant-push_lists-loop-fewer : goal.invariant-push_lists-loop-fewer
invariant-push_lists-loop-fewer l =
    l.into.items ++ times l.left (all_values (seen_names l.names) (seen_known l.known) (seen_phrase l.phrase) (initials (map seen_initial l.values))) ≡ l.fn.into.items ++ times l.count (all_values (seen_names l.names) (seen_known l.known) (seen_phrase l.phrase) (initials (map seen_initial l.values)))

abbrev pub decreases-push_lists-loop-fewer : goal.decreases-push_lists-loop-fewer
decreases-push_lists-loop-fewer l = l.left

abbrev pub invariant-push_all-loop-initial : goal.invariant-push_all-loop-initial
invariant-push_all-loop-initial l =
    l.into.items ++ all_values (seen_names l.names) (seen_known l.known) (seen_phrase l.phrase) (initials (map seen_initial (drop l.initial-index l.values))) ≡ l.fn.into.items ++ all_values (seen_names l.names) (seen_known l.known) (seen_phrase l.phrase) (initials (map seen_initial l.values))
