use Rattle.std.specs.Fmt.{digits}
use Rattle.std.proofs.Common.{◌∷◌, [], codes, refl}
use Rattle.exec_rows.specs.Rows.{signalled, signalled_script, signalled_journal}
use Rattle.exec_rows.proofs.Deciding.{scripted-run}
use Rattle.exec_rows.proofs.rows.a_signal_lasts_for_a_moment.Goals as goal

pub returns : goal.returns
unfolding digits
returns c =
    let found = scripted-run signalled signalled_script 1 (signalled_journal ∷ []) [] signalled_journal (codes "6: A\n6: 0 1\nend P.A 0 closed 1\nend P 0 closed 1\nlive P.B\nP.F = 1\n") refl refl refl in
    record { checked = refl; run = found.0; told = found.1 }
