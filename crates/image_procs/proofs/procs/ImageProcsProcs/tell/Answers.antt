use Rattle.std.proofs.Common.{◌≡◌, ℕ, ◌<◌, slice_set, slice_index, IfSome, IsSomeAnd, sym, ap, subst, ◌∙◌}
use Rattle.hal_values.specs.Loads.{FitsNext}
use Rattle.hal_code.specs.Courses.{setting_of, load_of}
use Rattle.exec_model.specs.Moments.{answers_in, pushed_answer}
use Rattle.exec_model.specs.Processes.{look_at, told_answer}
use Rattle.image_procs.specs.Running.{Running, running, answers_of}
use Rattle.image_procs.proofs.Placing.{is_there, there, course_at, fits_there, told_there, one_less, other_rooms, other_looks, runs_on}
use Rattle.image_procs.proofs.procs.ImageProcsProcs.tell.Goals as goal

pub invariant_of-self : goal.invariant_of-self
invariant_of-self c =
    let load = c.self.inside.load in
    let courses = c.self.inside.courses.items in
    let p = c.args.process in
    let exists = is_there load courses c.args.self.now p c.self.view_is c.requires.exists in
    let e = there courses p c.index_mut.result.now (subst (λ (n : ℕ). p < n) (sym c.self.invariant.many) exists) c.index_mut.ensures.value in
    runs_on load courses p c.index_mut.result.now e c.tell.new.self c.self.inside.tables c.self.inside.loaded.items c.self.invariant
    (c.tell.ensures.course (setting_of load.turns load.image p) (course_at load courses p c.index_mut.result.now e c.self.invariant.stand)
    (fits_there load courses p c.index_mut.result.now e c.args.answer
    (subst (λ (r : Running). IsSomeAnd (told_answer (look_at r.looks p) c.args.answer) (λ given. FitsNext (load_of r.load.turns r.load.image) p (answers_in (answers_of r) p) given)) (sym c.self.view_is) c.requires.fits)))

pub returns-clause-told : goal.returns-clause-told
returns-clause-told c =
    let load = c.self.inside.load in
    let courses = c.self.inside.courses.items in
    let p = c.args.process in
    let exists = is_there load courses c.args.self.now p c.self.view_is c.requires.exists in
    let e = there courses p c.index_mut.result.now (subst (λ (n : ℕ). p < n) (sym c.self.invariant.many) exists) c.index_mut.ensures.value in
    subst (λ (r : Running). IfSome (told_answer (look_at r.looks p) c.args.answer) (λ given. answers_of (running load (slice_set courses p c.tell.new.self)) ≡ pushed_answer (answers_of r) p given)) c.self.view_is
    (told_there load courses p c.index_mut.result.now e c.tell.new.self c.args.answer c.tell.ensures.told)

pub returns-clause-room : goal.returns-clause-room
returns-clause-room c =
    let load = c.self.inside.load in
    let courses = c.self.inside.courses.items in
    let p = c.args.process in
    let exists = is_there load courses c.args.self.now p c.self.view_is c.requires.exists in
    let e = there courses p c.index_mut.result.now (subst (λ (n : ℕ). p < n) (sym c.self.invariant.many) exists) c.index_mut.ensures.value in
    one_less courses p c.index_mut.result.now e c.tell.new.self c.tell.ensures.room ∙ ap (λ (r : Running). slice_index r.rooms p) c.self.view_is

pub returns-clause-other_rooms : goal.returns-clause-other_rooms
returns-clause-other_rooms c = λ o apart.
    let load = c.self.inside.load in
    let courses = c.self.inside.courses.items in
    let p = c.args.process in
    let exists = is_there load courses c.args.self.now p c.self.view_is c.requires.exists in
    let e = there courses p c.index_mut.result.now (subst (λ (n : ℕ). p < n) (sym c.self.invariant.many) exists) c.index_mut.ensures.value in
    other_rooms courses p c.index_mut.result.now e c.tell.new.self o apart ∙ ap (λ (r : Running). slice_index r.rooms o) c.self.view_is

pub returns-clause-others : goal.returns-clause-others
returns-clause-others c = λ o apart.
    let load = c.self.inside.load in
    let courses = c.self.inside.courses.items in
    let p = c.args.process in
    let exists = is_there load courses c.args.self.now p c.self.view_is c.requires.exists in
    let e = there courses p c.index_mut.result.now (subst (λ (n : ℕ). p < n) (sym c.self.invariant.many) exists) c.index_mut.ensures.value in
    other_looks courses p c.index_mut.result.now e c.tell.new.self o apart ∙ ap (λ (r : Running). look_at r.looks o) c.self.view_is
