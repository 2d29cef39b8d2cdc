use Rattle.std.proofs.Common.{◌≡◌, drop, length}
use Rattle.hal_values.specs.Tables.{process_count}
use Rattle.exec_model.specs.Drafts.{told_all}
use Rattle.exec_model.specs.Meanings.{meaning}
use Rattle.exec_model.specs.Telling.{FitTold, HasRoomFor}
use Rattle.exec_model.proofs.telling.tell_all.Given as goal

abbrev pub invariant-loop-given : goal.invariant-loop-given
invariant-loop-given g l = record {
  load : g.P.Procs.load l.procs ≡ g.P.Procs.load l.initial.procs;
  lists : length (g.P.Procs.answers l.procs) ≡ process_count (g.P.Of.Load.tables (g.P.Procs.load l.initial.procs));
  answers : told_all (g.P.Procs.answers l.procs) (drop l.given-index l.told) ≡ told_all (g.P.Procs.answers l.initial.procs) l.told;
  fit : FitTold (meaning g.P.Of.Load (g.P.Procs.load l.initial.procs)) (g.P.Procs.answers l.procs) (drop l.given-index l.told);
  room : HasRoomFor (g.P.Of.Load.tables (g.P.Procs.load l.initial.procs)) (g.P.Procs.rooms l.procs) (drop l.given-index l.told);
}
