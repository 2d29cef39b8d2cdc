use Rattle.std.proofs.Common.{◌≡◌, [], map, drop}
use Rattle.hal_storage.specs.sets.SeenSets.{seen_set}
use Rattle.hal_gen_expr.specs.SeenSites.{lent_place}
use Rattle.hal_runs.specs.Joined.{with_rows}
use Rattle.hal_runs.specs.Same.{same_place}
use Rattle.hal_link.specs.Linking.{own_row}
use Rattle.hal_link.proofs.rows.place_rows.Given as goal

abbrev pub invariant-loop-place : goal.invariant-loop-place
invariant-loop-place l =
    with_rows same_place l.rows.items (map (own_row (seen_set l.set) l.shapes) (map lent_place (drop l.place-index l.places))) ≡ with_rows same_place [] (map (own_row (seen_set l.set) l.shapes) (map lent_place l.places))
