use Rattle.exec_rows.proofs.Desks.{IsReserved}
use Rattle.exec_rows.proofs.scripted_procs.ScriptedProcsProcs.reserve.Given as goal

abbrev pub invariant-loop-place : goal.invariant-loop-place
invariant-loop-place l = IsReserved l.fn.self l.self-inside.load l.self-inside.desks.items l.place l.place-end
