use Rattle.std.proofs.Common.{◌≡◌, ◌≤◌, [], length}
use Rattle.hal_script.specs.DataTexts.{quoted}
use Rattle.hal_script.proofs.piece.quoted.Given as goal

abbrev pub invariant-byte : goal.invariant-byte
invariant-byte l = record { same : quoted l.datum.items l.rest ≡ quoted [] l.text; shorter : length l.rest ≤ length l.text }

abbrev pub decreases-byte : goal.decreases-byte
decreases-byte l = length l.rest
