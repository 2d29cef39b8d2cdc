use Rattle.std.proofs.Common.{◌≡◌, ◌<◌, length, get_or, sym, ap, subst, ◌∙◌, refl, le_of_eq}
use Rattle.hal_values.specs.Requests.{HasProcess}
use Rattle.exec_rows.specs.Checks.{scripted}
use Rattle.exec_rows.specs.Playing.{Held, nothing_held}
use Rattle.exec_rows.specs.Procs.{Playing}
use Rattle.exec_rows.proofs.Desks.{has_desk, desk_at, look_set, answers_same, rooms_set, looks_other}
use Rattle.exec_rows.proofs.scripted_procs.ScriptedProcsProcs.block.Goals as goal

-- something is kept of the process
below : (c : goal.After-self-1) → c.from-2.result < length c.self.inside.desks.items
below c = rw c.from-2.ensures (has_desk c.self.inside.load c.self.inside.desks.items c.args.process c.self.invariant (subst (λ (v : Playing). HasProcess (scripted v.load).tables c.args.process) (sym c.self.view_is) c.requires.exists))

-- what is kept of the process
held : (c : goal.After-self-1) → get_or c.self.inside.desks.items c.from-2.result nothing_held ≡ c.index_mut.result.now
held c = desk_at c.self.inside.desks.items c.from-2.result c.index_mut.result.now (below c) c.index_mut.ensures.value

pub returns-clause-look : goal.returns-clause-look
returns-clause-look c = rw (← c.from-2.ensures) (look_set c.self.inside.desks.items c.from-2.result c.look.new.self (below c) ∙ (ap (λ (h : Held). h.look) c.look.ensures ∙ rw (c.new-seen.ensures, c.in_ok-copy_values.ensures) refl))

pub returns-clause-same : goal.returns-clause-same
returns-clause-same c = rw (← c.self.view_is) (refl, answers_same c.self.inside.desks.items c.from-2.result c.look.new.self (below c) (ap (λ (h : Held). h.answers) c.look.ensures ∙ ap (λ (h : Held). h.answers) (sym (held c))))

pub returns-clause-room : goal.returns-clause-room
returns-clause-room c = rw (← c.self.view_is) (rooms_set c.self.inside.desks.items c.from-2.result c.look.new.self (le_of_eq (ap (λ (h : Held). h.room) (held c) ∙ sym (ap (λ (h : Held). h.room) c.look.ensures))))

pub returns-clause-others : goal.returns-clause-others
returns-clause-others c = rw (← c.self.view_is, ← c.from-2.ensures) (looks_other c.self.inside.desks.items c.from-2.result c.look.new.self)
