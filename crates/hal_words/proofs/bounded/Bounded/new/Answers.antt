use Rattle.hal_words.proofs.Kept.{IsKept-written}
use Rattle.hal_words.proofs.bounded.Bounded.new.Goals as goal

pub invariant_of-result : goal.invariant_of-result
invariant_of-result g c = rw c.copy_from_slice.ensures.after (IsKept-written g.row.ROOM _ c.requires.fits)
