use Rattle.std.proofs.Common.{◌≡◌}
use Rattle.exec_model.specs.Drafts.{on}
use Rattle.exec_model.specs.Ranks.{rank}
use Rattle.exec_model.specs.Settling.{settle}
use Rattle.exec_model.proofs.settling.settle_rows.Given as goal

abbrev pub invariant-changes : goal.invariant-changes
invariant-changes g l = on (settle l.tables) l.draft ≡ on (settle l.tables) l.initial.draft

abbrev pub decreases-changes : goal.decreases-changes
decreases-changes g l = rank l.draft.now.rows
