use Rattle.std.specs.Fmt.{digits}
use Rattle.std.proofs.Common.{◌∷◌, [], codes, refl}
use Rattle.exec_rows.specs.Rows.{twice, twice_script, twice_journal}
use Rattle.exec_rows.proofs.Deciding.{scripted-run}
use Rattle.exec_rows.proofs.rows.a_failed_schedule_can_be_ignored.Goals as goal

pub returns : goal.returns
unfolding digits
returns c =
    let found = scripted-run twice twice_script 1 (twice_journal ∷ []) [] twice_journal (codes "6: T\n6: AGAIN\n6: T\nend P.T 0 closed 1\nend P 0 closed 1\nend P.T 0 closed 1\n") refl refl refl in
    record { checked = refl; run = found.0; told = found.1 }
