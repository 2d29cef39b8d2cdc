use Rattle.std.proofs.Common.{◌+◌, ◌∷◌, [], List, length, ap, sym, subst, ◌∙◌}
use Rattle.std.proofs.lemmas.List.{length-append}
use Rattle.hal_runner.specs.declared.loading.Loaded.{Loaded}
use Rattle.image_procs.specs.Running.{AreLoaded}
use Rattle.image_procs.proofs.Placing.{one_loaded}
use Rattle.image_procs.proofs.starting.loaded_of.Goals as goal

pub places-preserved : goal.places-preserved
places-preserved c =
    let all = c.places.all.items in
    let one = c.in_ok-new.field-0 in
    let added = c.in_ok-push.ensures.items in (
      ap (λ (l : List Loaded). length l) added ∙ length-append all (one ∷ []) ∙ ap (λ n. n + 1) c.places.invariant.0,
      subst (AreLoaded c.args.image.now) (sym {A = List Loaded} added) (one_loaded c.args.image.now all c.places.place one c.places.invariant.0 c.places.invariant.1 c.in_ok-new.ensures),
    )
