use Rattle.std.proofs.Common.{◌≡◌, ℕ, ◌<◌, List, Option, Some, map, slice_set, IfOk, sym, ap, subst, ◌∙◌}
use Rattle.hal_values.specs.Answers.{Answered}
use Rattle.hal_values.specs.Loads.{IsUpdate}
use Rattle.hal_code.specs.Cores.{Setting}
use Rattle.hal_code.specs.Courses.{setting_of, next, block}
use Rattle.exec_model.specs.Moments.{answers_in}
use Rattle.exec_model.specs.Processes as processes
use Rattle.exec_model.specs.Processes.{look_at, NotLower}
use Rattle.image_procs.specs.Courses.{CanRun, IsCourse, parts, room}
use Rattle.image_procs.specs.Running.{Running, answers_of}
use Rattle.image_procs.specs.Tellings.{answers_told}
use Rattle.image_procs.proofs.Standing.{can_run}
use Rattle.image_procs.proofs.Placing.{is_there, there, loaded_at, course_at, told_at, same_answers, rooms_rise, other_looks, new_look, same_looks, runs_on, on_error}
use Rattle.image_procs.proofs.procs.ImageProcsProcs.block.Goals as goal

pub setting_of-setting-requires-clause-loaded : goal.setting_of-setting-requires-clause-loaded
setting_of-setting-requires-clause-loaded c =
    let load = c.self.inside.load in
    let exists = is_there load c.self.inside.courses.items c.args.self.now c.args.process c.self.view_is c.requires.exists in
    loaded_at load.image c.self.inside.loaded.items c.args.process c.index.result.now c.self.invariant.loads (subst (λ (n : ℕ). c.args.process < n) (sym c.self.invariant.many_loads) exists) c.index.ensures

pub block-requires-clause-run : goal.block-requires-clause-run
block-requires-clause-run c =
    let load = c.self.inside.load in
    let exists = is_there load c.self.inside.courses.items c.args.self.now c.args.process c.self.view_is c.requires.exists in
    subst CanRun (sym c.setting_of-setting.ensures.seen) (can_run load c.args.process c.self.invariant.cells c.self.invariant.ranged c.self.invariant.short exists)

pub block-requires-clause-course : goal.block-requires-clause-course
block-requires-clause-course c =
    let load = c.self.inside.load in
    let courses = c.self.inside.courses.items in
    let p = c.args.process in
    let exists = is_there load courses c.args.self.now p c.self.view_is c.requires.exists in
    let e = there courses p c.index_mut.result.now (subst (λ (n : ℕ). p < n) (sym c.self.invariant.many) exists) c.index_mut.ensures.value in
    subst (λ (s : Setting). IsCourse s (parts c.index_mut.result.now)) (sym c.setting_of-setting.ensures.seen) (course_at load courses p c.index_mut.result.now e c.self.invariant.stand)

pub block-requires-clause-asks : goal.block-requires-clause-asks
block-requires-clause-asks c =
    let load = c.self.inside.load in
    let courses = c.self.inside.courses.items in
    let p = c.args.process in
    let exists = is_there load courses c.args.self.now p c.self.view_is c.requires.exists in
    let e = there courses p c.index_mut.result.now (subst (λ (n : ℕ). p < n) (sym c.self.invariant.many) exists) c.index_mut.ensures.value in
    subst (λ (s : Setting). IsUpdate (next s (answers_told c.index_mut.result.now.told.items))) (sym c.setting_of-setting.ensures.seen)
    (subst (λ (answers : List Answered). IsUpdate (next (setting_of load.turns load.image p) answers)) (told_at load courses p c.index_mut.result.now e)
    (subst (λ (r : Running). IsUpdate (next (setting_of r.load.turns r.load.image p) (answers_in (answers_of r) p))) (sym c.self.view_is) c.requires.asks))

pub invariant_of-self : goal.invariant_of-self
invariant_of-self c =
    let load = c.self.inside.load in
    let courses = c.self.inside.courses.items in
    let p = c.args.process in
    let exists = is_there load courses c.args.self.now p c.self.view_is c.requires.exists in
    let e = there courses p c.index_mut.result.now (subst (λ (n : ℕ). p < n) (sym c.self.invariant.many) exists) c.index_mut.ensures.value in
    runs_on load courses p c.index_mut.result.now e c.block.new.self c.self.inside.tables c.self.inside.loaded.items c.self.invariant (subst (λ (s : Setting). IsCourse s (parts c.block.new.self)) c.setting_of-setting.ensures.seen c.block.ensures.course)

pub returns-clause-found : goal.returns-clause-found
returns-clause-found c =
    let load = c.self.inside.load in
    let courses = c.self.inside.courses.items in
    let p = c.args.process in
    let exists = is_there load courses c.args.self.now p c.self.view_is c.requires.exists in
    let e = there courses p c.index_mut.result.now (subst (λ (n : ℕ). p < n) (sym c.self.invariant.many) exists) c.index_mut.ensures.value in
    subst (λ (r : Running). IfOk c.block.result (λ turns. block (setting_of r.load.turns r.load.image p) (answers_in (answers_of r) p) c.args.store.now turns ≡ Some c.block.new.writes.items)) c.self.view_is
    (subst (λ (answers : List Answered). IfOk c.block.result (λ turns. block (setting_of load.turns load.image p) answers c.args.store.now turns ≡ Some c.block.new.writes.items)) (sym (told_at load courses p c.index_mut.result.now e))
    (subst (λ (s : Setting). IfOk c.block.result (λ turns. block s (answers_told c.index_mut.result.now.told.items) c.args.store.now turns ≡ Some c.block.new.writes.items)) c.setting_of-setting.ensures.seen c.block.ensures.found))

pub returns-clause-look : goal.returns-clause-look
returns-clause-look c =
    let load = c.self.inside.load in
    let courses = c.self.inside.courses.items in
    let p = c.args.process in
    let exists = is_there load courses c.args.self.now p c.self.view_is c.requires.exists in
    let e = there courses p c.index_mut.result.now (subst (λ (n : ℕ). p < n) (sym c.self.invariant.many) exists) c.index_mut.ensures.value in
    subst (λ (look : Option processes.Look). IfOk c.block.result (λ turns. look ≡ Some (record { store = c.args.store.now; turns = turns }))) (sym (new_look courses p c.index_mut.result.now e c.block.new.self)) c.block.ensures.look

pub returns-clause-refused : goal.returns-clause-refused
returns-clause-refused c =
    let load = c.self.inside.load in
    let courses = c.self.inside.courses.items in
    let p = c.args.process in
    let exists = is_there load courses c.args.self.now p c.self.view_is c.requires.exists in
    let e = there courses p c.index_mut.result.now (subst (λ (n : ℕ). p < n) (sym c.self.invariant.many) exists) c.index_mut.ensures.value in
    on_error c.block.result _ _ (λ both. (same_looks courses p c.index_mut.result.now e c.block.new.self both.0 ∙ ap (λ (r : Running). r.looks) c.self.view_is, both.1)) c.block.ensures.refused

pub returns-clause-same : goal.returns-clause-same
returns-clause-same c =
    let load = c.self.inside.load in
    let courses = c.self.inside.courses.items in
    let p = c.args.process in
    let exists = is_there load courses c.args.self.now p c.self.view_is c.requires.exists in
    let e = there courses p c.index_mut.result.now (subst (λ (n : ℕ). p < n) (sym c.self.invariant.many) exists) c.index_mut.ensures.value in
    (ap (λ (r : Running). r.load) c.self.view_is, same_answers load courses p c.index_mut.result.now e c.block.new.self c.block.ensures.told ∙ ap answers_of c.self.view_is)

pub returns-clause-room : goal.returns-clause-room
returns-clause-room c =
    let load = c.self.inside.load in
    let courses = c.self.inside.courses.items in
    let p = c.args.process in
    let exists = is_there load courses c.args.self.now p c.self.view_is c.requires.exists in
    let e = there courses p c.index_mut.result.now (subst (λ (n : ℕ). p < n) (sym c.self.invariant.many) exists) c.index_mut.ensures.value in
    subst (λ (r : Running). NotLower r.rooms (map room (slice_set courses p c.block.new.self))) c.self.view_is (rooms_rise courses p c.index_mut.result.now e c.block.new.self c.block.ensures.room)

pub returns-clause-others : goal.returns-clause-others
returns-clause-others c = λ o apart.
    let load = c.self.inside.load in
    let courses = c.self.inside.courses.items in
    let p = c.args.process in
    let exists = is_there load courses c.args.self.now p c.self.view_is c.requires.exists in
    let e = there courses p c.index_mut.result.now (subst (λ (n : ℕ). p < n) (sym c.self.invariant.many) exists) c.index_mut.ensures.value in
    other_looks courses p c.index_mut.result.now e c.block.new.self o apart ∙ ap (λ (r : Running). look_at r.looks o) c.self.view_is
