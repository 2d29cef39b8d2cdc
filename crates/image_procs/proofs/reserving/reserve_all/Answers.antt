use Rattle.std.proofs.Common.{ℕ, ◌<◌, ◌≤◌, List, length, map, slice_index, slice_set, sym, subst, ◌∙◌, arith}
use Rattle.std.proofs.lemmas.List.{length-set, length-map, map-set}
use Rattle.exec_model.specs.Processes.{reserved_room}
use Rattle.image_procs.specs.Courses.{parts, room}
use Rattle.image_procs.proofs.Placing.{there, seen_alike, rooms_rise, rooms_made}
use Rattle.image_procs.proofs.reserving.reserve_all.Goals as goal

chain : (a b c : ℕ) → a ≤ b → b ≤ c → a ≤ c
chain a b c one two = omega (arith, one, two)

pub returns-in_err-reserve-clause-same : goal.returns-in_err-reserve-clause-same
returns-in_err-reserve-clause-same c =
    let courses = c.places.courses.items in
    let e = there courses c.places.place c.index_mut.result.now (omega (arith, c.places-test.true, c.places.invariant.0)) c.index_mut.ensures.value in
    seen_alike parts courses c.places.place c.index_mut.result.now c.reserve.new.self e c.reserve.ensures.same ∙ c.places.invariant.1

pub returns-in_err-reserve-clause-no_lower : goal.returns-in_err-reserve-clause-no_lower
returns-in_err-reserve-clause-no_lower c = λ p.
    let courses = c.places.courses.items in
    let e = there courses c.places.place c.index_mut.result.now (omega (arith, c.places-test.true, c.places.invariant.0)) c.index_mut.ensures.value in
    chain (slice_index (map room c.args.courses.now.items) p) (slice_index (map room courses) p) (slice_index (map room (slice_set courses c.places.place c.reserve.new.self)) p) (c.places.invariant.2 p)
    (rooms_rise courses c.places.place c.index_mut.result.now e c.reserve.new.self c.reserve.ensures.no_lower p)

pub places-preserved : goal.places-preserved
places-preserved c =
    let courses = c.places.courses.items in
    let place = c.places.place in
    let new = c.reserve.new.self in
    let within : place < length courses = omega (arith, c.places-test.true, c.places.invariant.0) in
    let e = there courses place c.index_mut.result.now within c.index_mut.ensures.value in (
      length-set courses place new ∙ c.places.invariant.0,
      seen_alike parts courses place c.index_mut.result.now new e c.reserve.ensures.same ∙ c.places.invariant.1,
      λ p. chain (slice_index (map room c.args.courses.now.items) p) (slice_index (map room courses) p) (slice_index (map room (slice_set courses place new)) p) (c.places.invariant.2 p)
          (rooms_rise courses place c.index_mut.result.now e new c.reserve.ensures.no_lower p),
      λ p low. subst (λ (rooms : List ℕ). reserved_room ≤ slice_index rooms p) (sym (map-set room courses place new))
          (rooms_made (map room courses) place reserved_room (room new) c.places.invariant.3 c.in_ok-reserve.ensures.room (subst (λ (n : ℕ). place < n) (sym (length-map courses room)) within) p low),
    )
