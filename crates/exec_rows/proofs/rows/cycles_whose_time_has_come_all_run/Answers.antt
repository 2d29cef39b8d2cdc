use Rattle.std.specs.Fmt.{digits}
use Rattle.std.proofs.Common.{◌∷◌, ◌++◌, [], codes, refl}
use Rattle.exec_model.specs.declared.event.Event.TheVariants.{Tick}
use Rattle.exec_rows.specs.Rows.{acts, counting, counting_script, counting_journal}
use Rattle.exec_rows.proofs.Deciding.{scripted-run}
use Rattle.exec_rows.proofs.rows.cycles_whose_time_has_come_all_run.Goals as goal

pub returns : goal.returns
unfolding digits
returns c =
    let found = scripted-run counting (counting_script 80) 1 ((acts 0 3 ++ acts 1 7) ∷ (Tick 80 ∷ []) ∷ acts 1 14 ∷ []) [] (counting_journal 80 2) (codes "6: 1 0\n6: 2 0\n6: 3 0\nend P 0 closed 1\nlive P.T\nP.N = 3\n") refl refl refl in
    record { checked = refl; run = found.0; told = found.1 }
