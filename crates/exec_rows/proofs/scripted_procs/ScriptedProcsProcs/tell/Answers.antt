use Rattle.std.proofs.Common.{◌<◌, length, sym, subst}
use Rattle.hal_values.specs.Requests.{HasProcess}
use Rattle.exec_rows.specs.Checks.{scripted}
use Rattle.exec_rows.specs.Procs.{Playing}
use Rattle.exec_rows.proofs.Desks.{has_desk, told_at, room_told, rooms_other, looks_other}
use Rattle.exec_rows.proofs.scripted_procs.ScriptedProcsProcs.tell.Goals as goal

-- something is kept of the process
below : (c : goal.After-self-1) → c.from.result < length c.self.inside.desks.items
below c = rw c.from.ensures (has_desk c.self.inside.load c.self.inside.desks.items c.args.process c.self.invariant (subst (λ (v : Playing). HasProcess (scripted v.load).tables c.args.process) (sym c.self.view_is) c.requires.exists))

pub returns-clause-told : goal.returns-clause-told
returns-clause-told c = rw (← c.self.view_is, ← c.from.ensures) (told_at c.self.inside.desks.items c.from.result c.args.answer c.index_mut.result.now c.tell.new.self (below c) c.index_mut.ensures.value c.tell.ensures.told)

pub returns-clause-room : goal.returns-clause-room
returns-clause-room c = rw (← c.self.view_is, ← c.from.ensures) (room_told c.self.inside.desks.items c.from.result c.index_mut.result.now c.tell.new.self (below c) c.index_mut.ensures.value c.tell.ensures.room)

pub returns-clause-other_rooms : goal.returns-clause-other_rooms
returns-clause-other_rooms c = rw (← c.self.view_is, ← c.from.ensures) (rooms_other c.self.inside.desks.items c.from.result c.tell.new.self)

pub returns-clause-others : goal.returns-clause-others
returns-clause-others c = rw (← c.self.view_is, ← c.from.ensures) (looks_other c.self.inside.desks.items c.from.result c.tell.new.self)
