use Rattle.std.specs.Fmt.{digits}
use Rattle.std.proofs.Common.{◌∷◌, [], codes, refl}
use Rattle.exec_rows.specs.Rows.{terminated, terminated_script, terminated_journal}
use Rattle.exec_rows.proofs.Deciding.{scripted-run}
use Rattle.exec_rows.proofs.rows.a_block_is_done_before_the_end.Goals as goal

pub returns : goal.returns
unfolding digits
returns c =
    let found = scripted-run terminated (terminated_script 6) 2 (terminated_journal ∷ []) [] terminated_journal (codes "end P.D 0 terminated 0\nend P 0 terminated 0\nP.K = 2\n") refl refl refl in
    record { checked = refl; run = found.0; told = found.1 }
