use Rattle.std.specs.Fmt.{digits}
use Rattle.std.proofs.Common.{◌∷◌, [], codes, refl}
use Rattle.exec_rows.specs.Rows.{twice_script, stopped, stopped_journal}
use Rattle.exec_rows.proofs.Deciding.{scripted-run}
use Rattle.exec_rows.proofs.rows.a_failed_schedule_stops_its_process.Goals as goal

pub returns : goal.returns
unfolding digits
returns c =
    let found = scripted-run stopped twice_script 1 (stopped_journal ∷ []) [] stopped_journal (codes "6: T\nend P 0 error 2:1 0\nend P.T 0 closed 1\n") refl refl refl in
    record { checked = refl; run = found.0; told = found.1 }
