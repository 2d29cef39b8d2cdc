-- Texts that are kept in a room.
use Rattle.std.proofs.Common.{◌≡◌, ℕ, ◌≤◌, List, ◌++◌, length, take, drop, replicate, ap, ◌∙◌, sym}
use Rattle.std.proofs.lemmas.List.{drop-replicate}
use Rattle.std.proofs.Math.Seq.{take-append_seam}
use Rattle.hal_words.specs.Rooms.{filled, IsKept}

-- a text written at the front of zeros is kept
pub IsKept-written : (room : ℕ) (text : List ℕ) → length text ≤ room → IsKept room (length text) (text ++ drop (length text) (replicate room 0))
IsKept-written room text within =
    let front : take (length text) (text ++ drop (length text) (replicate room 0)) ≡ text = take-append_seam text _ in
    record {
      within = within;
      exact = ap length front;
      zeros = ap (λ z. text ++ z) (drop-replicate (length text) room 0) ∙ sym (ap (filled room) front);
    }
