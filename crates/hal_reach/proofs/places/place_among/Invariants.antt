use Rattle.std.proofs.Common.{◌≡◌, ◌+◌, drop}
use Rattle.std.specs.Option.{option_map}
use Rattle.hal_reach.specs.Places.{place_among}
use Rattle.hal_reach.proofs.places.place_among.Given as goal

abbrev pub invariant-loop-one : goal.invariant-loop-one
invariant-loop-one l =
    (l.place ≡ l.one-index) × (option_map (λ i. l.place + i) (place_among (drop l.one-index l.numbers) l.number) ≡ place_among l.numbers l.number)
