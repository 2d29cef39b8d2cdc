use Rattle.std.proofs.Common.{ℕ, ◌<◌, List, sym, ap, subst, ◌∙◌}
use Rattle.hal_values.specs.Answers.{Answered}
use Rattle.hal_code.specs.Cores.{Setting}
use Rattle.hal_code.specs.Courses.{setting_of, own}
use Rattle.exec_model.specs.Moments.{answers_in}
use Rattle.image_procs.specs.Courses.{CanRun, IsCourse, parts}
use Rattle.image_procs.specs.Running.{Running, answers_of}
use Rattle.image_procs.specs.Tellings.{answers_told}
use Rattle.image_procs.proofs.Standing.{can_run}
use Rattle.image_procs.proofs.Placing.{is_there, there, loaded_at, course_at, told_at}
use Rattle.image_procs.proofs.procs.ImageProcsOwners.own.Goals as goal

pub setting_of-setting-requires-clause-loaded : goal.setting_of-setting-requires-clause-loaded
setting_of-setting-requires-clause-loaded c =
    let load = c.self.inside.load in
    let courses = c.self.inside.courses.items in
    let p = c.args.process in
    let exists = is_there load courses c.args.self.now p c.self.view_is c.requires in
    loaded_at load.image c.self.inside.loaded.items p c.index.result.now c.self.invariant.loads (subst (λ (n : ℕ). p < n) (sym c.self.invariant.many_loads) exists) c.index.ensures

pub own-requires-clause-run : goal.own-requires-clause-run
own-requires-clause-run c =
    let load = c.self.inside.load in
    let courses = c.self.inside.courses.items in
    let p = c.args.process in
    let exists = is_there load courses c.args.self.now p c.self.view_is c.requires in
    subst CanRun (sym c.setting_of-setting.ensures.seen) (can_run load p c.self.invariant.cells c.self.invariant.ranged c.self.invariant.short exists)

pub own-requires-clause-course : goal.own-requires-clause-course
own-requires-clause-course c =
    let load = c.self.inside.load in
    let courses = c.self.inside.courses.items in
    let p = c.args.process in
    let exists = is_there load courses c.args.self.now p c.self.view_is c.requires in
    let e = there courses p c.index-2.result.now (subst (λ (n : ℕ). p < n) (sym c.self.invariant.many) exists) c.index-2.ensures in
    subst (λ (s : Setting). IsCourse s (parts c.index-2.result.now)) (sym c.setting_of-setting.ensures.seen) (course_at load courses p c.index-2.result.now e c.self.invariant.stand)

pub returns : goal.returns
returns c =
    let load = c.self.inside.load in
    let courses = c.self.inside.courses.items in
    let p = c.args.process in
    let exists = is_there load courses c.args.self.now p c.self.view_is c.requires in
    let e = there courses p c.index-2.result.now (subst (λ (n : ℕ). p < n) (sym c.self.invariant.many) exists) c.index-2.ensures in
    c.new.ensures ∙ c.in_ok-values.ensures
    ∙ ap (λ (s : Setting). own s (answers_told c.index-2.result.now.told.items)) c.setting_of-setting.ensures.seen
    ∙ ap (λ (answers : List Answered). own (setting_of load.turns load.image p) answers) (sym (told_at load courses p c.index-2.result.now e))
    ∙ ap (λ (r : Running). own (setting_of r.load.turns r.load.image p) (answers_in (answers_of r) p)) c.self.view_is
