use Rattle.std.proofs.Common.{◌≡◌, ◌-◌, ◌++◌, ℕ, map}
use Rattle.std.specs.List.{range_with_len}
use Rattle.hal_values.specs.Tables.{process_count}
use Rattle.exec_model.specs.Moments.{answers_in}
use Rattle.script_run.proofs.performed.owns_of.Given as goal

abbrev pub invariant-places : goal.invariant-places
invariant-places g l =
    l.owns.items
    ++ map (λ (p : ℕ). g.P.Of.Load.own (g.P.Procs.load l.procs) p (answers_in (g.P.Procs.answers l.procs) p)) (range_with_len l.place (process_count (g.P.Of.Load.tables (g.P.Procs.load l.procs)) - l.place))
    ≡ map (λ (p : ℕ). g.P.Of.Load.own (g.P.Procs.load l.procs) p (answers_in (g.P.Procs.answers l.procs) p)) (range_with_len 0 (process_count (g.P.Of.Load.tables (g.P.Procs.load l.procs))))
