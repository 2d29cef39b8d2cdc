use Rattle.std.proofs.Common.{◌+◌, ◌∷◌, [], List, length, map, ap, sym, subst, ◌∙◌, arith}
use Rattle.std.proofs.lemmas.List.{length-append, length-map, map-append}
use Rattle.hal_code.specs.Cores.{Setting}
use Rattle.image_procs.specs.declared.course.Course.{Course}
use Rattle.image_procs.specs.Courses.{CanRun, IsCourse, parts}
use Rattle.image_procs.specs.Running.{AreCourses, told_in}
use Rattle.image_procs.proofs.Standing.{can_run}
use Rattle.image_procs.proofs.Placing.{loaded_at, one_standing, one_untold}
use Rattle.image_procs.proofs.starting.courses_of.Goals as goal

pub setting_of-setting-requires-clause-loaded : goal.setting_of-setting-requires-clause-loaded
setting_of-setting-requires-clause-loaded c = loaded_at c.args.load.now.image c.args.loaded.now c.places.place c.index-loaded-place.result c.requires.loads c.places-test.true c.index-loaded-place.is

pub start-requires : goal.start-requires
start-requires c =
    subst CanRun (sym c.setting_of-setting.ensures.seen) (can_run c.args.load.now c.places.place c.requires.cells c.requires.ranged c.requires.short (omega (arith, c.places-test.true, c.requires.many)))

pub places-preserved : goal.places-preserved
places-preserved c =
    let load = c.args.load.now in
    let all = c.places.all.items in
    let one = c.in_ok-start.field-0 in
    let added = c.in_ok-push.ensures.items in (
      ap (λ (l : List Course). length l) added ∙ length-append all (one ∷ []) ∙ ap (λ n. n + 1) c.places.invariant.0,
      subst (AreCourses load) (sym (ap (map parts) added ∙ map-append parts all (one ∷ [])))
          (one_standing load (map parts all) c.places.place (parts one) (length-map all parts ∙ c.places.invariant.0) c.places.invariant.1
          (subst (λ (s : Setting). IsCourse s (parts one)) c.setting_of-setting.ensures.seen c.in_ok-start.ensures.course)),
      ap (map told_in) added ∙ one_untold all c.places.place one c.places.invariant.2 c.in_ok-start.ensures.told,
    )
