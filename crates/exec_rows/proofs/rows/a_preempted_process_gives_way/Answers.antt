use Rattle.std.specs.Fmt.{digits}
use Rattle.std.proofs.Common.{◌∷◌, ◌++◌, [], codes, refl}
use Rattle.exec_model.specs.declared.event.Event.TheVariants.{Preempt}
use Rattle.exec_rows.specs.Rows.{acts, preempted, preempted_script, preempted_journal}
use Rattle.exec_rows.proofs.Deciding.{scripted-run}
use Rattle.exec_rows.proofs.rows.a_preempted_process_gives_way.Goals as goal

pub returns : goal.returns
unfolding digits
returns c =
    let found = scripted-run preempted preempted_script 1 ((acts 0 4 ++ acts 1 2) ∷ (Preempt 1 ∷ []) ∷ (acts 2 3 ++ acts 1 2) ∷ []) [] preempted_journal (codes "6: A1\n6: B1\n6: A2\nend P 0 closed 1\nend P.B 0 closed 1\nend P.A 0 closed 1\n") refl refl refl in
    record { checked = refl; run = found.0; told = found.1 }
