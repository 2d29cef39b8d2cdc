use Rattle.std.proofs.Common.{◌≡◌, map, drop}
use Rattle.hal_tree.specs.Rows.{initials}
use Rattle.hal_tree.specs.SeenDeclarations.{seen_initial}
use Rattle.hal_phrases.specs.SeenPhrases.{seen_phrase}
use Rattle.hal_names.specs.SeenNames.{seen_names}
use Rattle.hal_constants.specs.SeenKnown.{seen_known}
use Rattle.hal_initials.specs.Repetition.{count_of_all}
use Rattle.hal_initials.specs.SeenCells.{seen_cells}
use Rattle.hal_initials.specs.Falling.{again, fallen_all}
use Rattle.hal_initials.proofs.falling.+falling.Given as goal

abbrev pub invariant-again-loop-fewer : goal.invariant-again-loop-fewer
invariant-again-loop-fewer l =
    again (fallen_all (seen_names l.names) (seen_known l.known) (seen_phrase l.phrase) (seen_phrase l.structure) (seen_cells l.cells) (initials (map seen_initial l.values))) l.step l.left l.here
    ≡ again (fallen_all (seen_names l.names) (seen_known l.known) (seen_phrase l.phrase) (seen_phrase l.structure) (seen_cells l.cells) (initials (map seen_initial l.values))) l.step l.times l.k

abbrev pub decreases-again-loop-fewer : goal.decreases-again-loop-fewer
decreases-again-loop-fewer l = l.left

abbrev pub invariant-fallen_all-loop-initial : goal.invariant-fallen_all-loop-initial
invariant-fallen_all-loop-initial l =
    fallen_all (seen_names l.names) (seen_known l.known) (seen_phrase l.phrase) (seen_phrase l.structure) (seen_cells l.cells) (initials (map seen_initial (drop l.initial-index l.values))) l.here
    ≡ fallen_all (seen_names l.names) (seen_known l.known) (seen_phrase l.phrase) (seen_phrase l.structure) (seen_cells l.cells) (initials (map seen_initial l.values)) l.k
