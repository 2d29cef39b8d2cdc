use Rattle.std.specs.Fmt.{digits}
use Rattle.std.proofs.Common.{◌∷◌, [], codes, refl}
use Rattle.exec_rows.specs.Rows.{acts, terminated, terminated_script}
use Rattle.exec_rows.proofs.Deciding.{scripted-run}
use Rattle.exec_rows.proofs.rows.a_process_ends_with_its_dependents.Goals as goal

pub returns : goal.returns
unfolding digits
returns c =
    let found = scripted-run terminated (terminated_script 10) 1 (acts 0 3 ∷ []) [] (acts 0 3) (codes "end P.D 0 terminated 0\nend P 0 terminated 0\nP.K = 0\n") refl refl refl in
    record { checked = refl; run = found.0; told = found.1 }
