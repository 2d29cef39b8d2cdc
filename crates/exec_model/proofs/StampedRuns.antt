-- Stamps over whole runs.
use Rattle.std.proofs.Common.{ℕ, List, [], ◌∷◌, sym, subst}
use Rattle.hal_values.specs.Loads.{Meaning}
use Rattle.exec_model.specs.declared.event.Event.{Event}
use Rattle.exec_model.specs.Moments.{Moment}
use Rattle.exec_model.specs.Sound.{IsStamped}
use Rattle.exec_model.specs.Steps.{Steps}
use Rattle.exec_model.proofs.Stamps.{stepped-stamped}

-- steps keep the stamps apart
pub Steps-stamped : (q : Meaning) (lanes : ℕ) (old new : Moment) (events : List Event) → IsStamped old → Steps q lanes old events new → IsStamped new
Steps-stamped q lanes old new [] stamped same = subst IsStamped (sym same) stamped
Steps-stamped q lanes old new (happens ∷ events) stamped (middle, step, later) =
    Steps-stamped q lanes middle new events (subst IsStamped (sym step.done) (stepped-stamped q old happens stamped)) later
