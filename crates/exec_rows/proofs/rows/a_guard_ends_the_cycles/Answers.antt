use Rattle.std.specs.Fmt.{digits}
use Rattle.std.proofs.Common.{◌∷◌, ◌++◌, [], codes, refl}
use Rattle.exec_model.specs.declared.event.Event.TheVariants.{Tick}
use Rattle.exec_rows.specs.Rows.{acts, guarded, guarded_script, guarded_journal}
use Rattle.exec_rows.proofs.Deciding.{scripted-run}
use Rattle.exec_rows.proofs.rows.a_guard_ends_the_cycles.Goals as goal

pub returns : goal.returns
unfolding digits
returns c =
    let found = scripted-run guarded guarded_script 1 ((acts 0 2 ++ acts 1 4 ++ acts 0 1) ∷ (Tick 1000 ∷ []) ∷ acts 1 4 ∷ (Tick 1000 ∷ []) ∷ [] ∷ []) [] guarded_journal (codes "6: 0\n6: 1\nend P 0 closed 1\nend P.T 2000 cancelled 2\n") refl refl refl in
    record { checked = refl; run = found.0; told = found.1 }
