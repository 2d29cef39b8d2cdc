-- One turn of the loop that makes changes.
use Rattle.std.proofs.Common.{◌≡◌, ℕ, ◌<◌, Some, sym, subst, ap, ◌∙◌}
use Rattle.hal_values.specs.declared.tables.Tables.{Tables}
use Rattle.exec_model.specs.declared.change.Change.{Change}
use Rattle.exec_model.specs.declared.row.Row.{Row}
use Rattle.exec_model.specs.Drafts.{Drafted, on}
use Rattle.exec_model.specs.Moments.{Moment, row_of}
use Rattle.exec_model.specs.Ranks.{rank}
use Rattle.exec_model.specs.Settling.{next_change, change_made, settle}
use Rattle.exec_model.proofs.Settled.{rank-change_made, settle-some}

-- a change leaves fewer changes to be made
pub rank-step : (tables : Tables) (old new : Drafted) (p : ℕ) (row : Row) (change : Change) → row ≡ row_of old.now p → next_change tables old.now ≡ Some (p, change) → new ≡ on (change_made p row change) old
    → rank new.now.rows < rank old.now.rows
rank-step tables old new p row change is next made =
    let e : new.now.rows ≡ (change_made p (row_of old.now p) change old.now).rows = ap (λ (d : Drafted). d.now.rows) made ∙ ap (λ (r : Row). (change_made p r change old.now).rows) is in
    subst (λ rows. rank rows < rank old.now.rows) (sym e) (rank-change_made tables old.now (p, change) next)

-- the rows settle in the same way after a change
pub settle-step : (tables : Tables) (old new first : Drafted) (p : ℕ) (row : Row) (change : Change) → row ≡ row_of old.now p → next_change tables old.now ≡ Some (p, change) → new ≡ on (change_made p row change) old
    → on (settle tables) old ≡ on (settle tables) first → on (settle tables) new ≡ on (settle tables) first
settle-step tables old new first p row change is next made before =
    ap (on (settle tables)) made
    ∙ ap (λ (r : Row). on (settle tables) (on (change_made p r change) old)) is
    ∙ ap (λ (m : Moment). let d : Drafted = record { base = old.base; now = m; closes = old.closes } in d) (sym (settle-some tables old.now (p, change) next))
    ∙ before
