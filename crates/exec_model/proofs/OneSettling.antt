-- Settling by the letter comes to what `settle` computes, and to nothing else.
use Rattle.std.proofs.Common.{◌≡◌, ℕ, zero, suc, ◌<◌, Option, Some, None, sym, refl, subst, ◌∙◌, arith}
use Rattle.hal_values.specs.declared.tables.Tables.{Tables}
use Rattle.exec_model.specs.declared.change.Change.{Change}
use Rattle.exec_model.specs.Moments.{Moment, row_of}
use Rattle.exec_model.specs.Ranks.{rank}
use Rattle.exec_model.specs.Settles.{Settles, rests, goes}
use Rattle.exec_model.specs.Settling.{next_change, change_made, settle}
use Rattle.exec_model.proofs.Settled.{rank-change_made, settle-none, settle-some}

-- a moment of which so many changes may come settles to what `settle` gives
Settles-within : (count : ℕ) (tables : Tables) (m : Moment) → rank m.rows < count → Settles tables m (settle tables m)
Settles-within zero tables m few = absurd (omega (arith, few))
Settles-within (suc count) tables m few =
    go (next_change tables m) refl (λ next e. Settles-within count tables (change_made next.0 (row_of m next.0) next.1 m) (omega (arith, rank-change_made tables m next e, few))) where
      go : (o : Option (ℕ × Change)) → next_change tables m ≡ o
          → ((next : ℕ × Change) → next_change tables m ≡ Some next → Settles tables (change_made next.0 (row_of m next.0) next.1 m) (settle tables (change_made next.0 (row_of m next.0) next.1 m)))
          → Settles tables m (settle tables m)
      go None e later = subst (Settles tables m) (sym (settle-none tables m e)) (rests m e)
      go (Some next) e later = subst (Settles tables m) (sym (settle-some tables m next e)) (goes m (settle tables (change_made next.0 (row_of m next.0) next.1 m)) next e (later next e))

-- each moment settles to what `settle` gives
pub settle-Settles : (tables : Tables) (m : Moment) → Settles tables m (settle tables m)
settle-Settles tables m = Settles-within (suc (rank m.rows)) tables m (omega arith)

-- a moment settles to nothing else
pub Settles-one : (tables : Tables) (m new : Moment) → Settles tables m new → new ≡ settle tables m
Settles-one tables m new (rests _ e) = sym (settle-none tables m e)
Settles-one tables m new (goes _ _ next e later) = Settles-one tables (change_made next.0 (row_of m next.0) next.1 m) new later ∙ sym (settle-some tables m next e)
