use Rattle.std.proofs.Common.{◌++◌, ◌∷◌, [], ℕ, List, length, ap, ◌∙◌, arith}
use Rattle.hal_values.specs.declared.value.Value.{Value}
use Rattle.hal_values.specs.Tables.{process_count}
use Rattle.exec_model.specs.Moments.{answers_in}
use Rattle.hal_report.proofs.Ranges.{map-next}
use Rattle.script_run.proofs.performed.owns_of.Goals as goal

pub places-preserved : goal.places-preserved
places-preserved g c =
    let own = λ (p : ℕ). g.P.Of.Load.own (g.P.Procs.load c.args.procs.now) p (answers_in (g.P.Procs.answers c.args.procs.now) p) in
    map-next own (process_count (g.P.Of.Load.tables (g.P.Procs.load c.args.procs.now))) c.places.place c.places.owns.items _ _
    (omega (arith, c.places-test.true, ap length c.as_slice-place-end.ensures, ap process_count c.tables.ensures)) c.places.invariant
    (c.in_ok-push.ensures.items ∙ ap (λ (vs : List Value). c.places.owns.items ++ vs ∷ []) c.in_ok-own.ensures)
