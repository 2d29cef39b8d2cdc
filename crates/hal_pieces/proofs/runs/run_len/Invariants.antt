use Rattle.std.proofs.Common.{◌≡◌, ◌+◌, ◌≤◌, length}
use Rattle.std.specs.List.{prefix_len}
use Rattle.hal_pieces.specs.Classes.{is_of}
use Rattle.hal_pieces.proofs.runs.run_len.Given as goal

abbrev pub invariant-run : goal.invariant-run
invariant-run l =
    (length l.rest ≤ length l.initial.rest) × (prefix_len (is_of l.class) l.rest + length l.initial.rest ≡ prefix_len (is_of l.class) l.initial.rest + length l.rest)

abbrev pub decreases-run : goal.decreases-run
decreases-run l = length l.rest
