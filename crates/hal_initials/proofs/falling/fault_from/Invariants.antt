use Rattle.std.proofs.Common.{◌≡◌, map}
use Rattle.hal_tree.specs.SeenDeclarations.{seen_initial}
use Rattle.hal_phrases.specs.SeenPhrases.{seen_phrase}
use Rattle.hal_names.specs.SeenNames.{seen_names}
use Rattle.hal_constants.specs.SeenKnown.{seen_known}
use Rattle.hal_initials.specs.SeenCells.{seen_cells}
use Rattle.hal_initials.specs.Falling.{fault_from}
use Rattle.hal_initials.proofs.falling.fault_from.Given as goal

abbrev pub invariant-loop-fewer : goal.invariant-loop-fewer
invariant-loop-fewer l =
    fault_from (seen_names l.names) (seen_known l.known) (seen_phrase l.phrase) (seen_phrase l.structure) (seen_cells l.cells) (seen_initial l.value) l.left l.here
    ≡ fault_from (seen_names l.names) (seen_known l.known) (seen_phrase l.phrase) (seen_phrase l.structure) (seen_cells l.cells) (seen_initial l.value) l.times l.k

abbrev pub decreases-loop-fewer : goal.decreases-loop-fewer
decreases-loop-fewer l = l.left
