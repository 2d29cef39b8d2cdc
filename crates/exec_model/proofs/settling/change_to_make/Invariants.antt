use Rattle.std.proofs.Common.{◌≡◌, drop}
use Rattle.exec_model.specs.Settling.{lowest_change, next_change}
use Rattle.exec_model.proofs.settling.change_to_make.Given as goal

abbrev pub invariant-loop-place : goal.invariant-loop-place
invariant-loop-place g l = lowest_change l.tables l.draft.now l.place (drop l.place l.row-items) ≡ next_change l.tables l.draft.now
