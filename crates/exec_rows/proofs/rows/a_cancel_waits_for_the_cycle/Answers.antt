use Rattle.std.specs.Fmt.{digits}
use Rattle.std.proofs.Common.{◌∷◌, ◌++◌, [], codes, refl}
use Rattle.exec_model.specs.declared.event.Event.TheVariants.{Tick}
use Rattle.exec_rows.specs.Rows.{acts, cancelled, cancelled_script, cancelled_journal}
use Rattle.exec_rows.proofs.Deciding.{scripted-run}
use Rattle.exec_rows.proofs.rows.a_cancel_waits_for_the_cycle.Goals as goal

pub returns : goal.returns
unfolding digits
returns c =
    let found = scripted-run cancelled cancelled_script 1 ((acts 0 2 ++ acts 1 2 ++ acts 0 2 ++ acts 3 2 ++ acts 0 4) ∷ (Tick 500 ∷ []) ∷ acts 3 2 ∷ []) [] cancelled_journal (codes "6: C\nend P.A 0 cancelled 1\nend P.B 0 cancelled 0\nend P 0 closed 1\nend P.C 500 cancelled 1\n") refl refl refl in
    record { checked = refl; run = found.0; told = found.1 }
