use Rattle.std.proofs.Common.{◌≡◌, ◌∙◌, ◌<◌, Bool, true, false, List, Option, Some, ap, length, map, slice_get, subst, sym}
use Rattle.std.specs.List.{list_any}
use Rattle.std.specs.Option.{option_map}
use Rattle.std.proofs.lemmas.Option.{slice_get-get_or, slice_get-map}
use Rattle.hal_reach.specs.Marks as marks
use Rattle.hal_reach.specs.SeenUnits.{seen_unit}
use Rattle.hal_reach.specs.declared.unit.Unit.{Unit}
use Rattle.hal_reach.proofs.Swept.{one_found, one_more}
use Rattle.hal_reach.proofs.marks.mark.Goals as goal

pub returns-clause-found : goal.returns-clause-found
returns-clause-found c blocks found =
    let units : List Unit = c.args.units.now in
    let marked : List Bool = c.args.marked.now.items in
    let unit : Unit = c.in-Some-Some.unit.now in
    let there : slice_get (map seen_unit units) c.args.place ≡ Some (seen_unit unit) =
    slice_get-map seen_unit units c.args.place
    ∙ ap (λ (o : Option Unit). option_map seen_unit o) (slice_get-get_or units c.args.place unit c.in-Some-Some.ensures.lookup.3.0 ∙ ap Some (sym c.in-Some-Some.ensures.lookup.1)) in
    let unmarked : slice_get marked c.args.place ≡ Some false =
    subst (λ (marks : List Bool). slice_get marks c.args.place ≡ Some false) c.deref.ensures.value
    (slice_get-get_or c.deref.result.now c.args.place c.in-Some-Some.mark.now c.in-Some-Some.ensures'.lookup.3.0 ∙ ap Some (sym c.in-Some-Some.ensures'.lookup.1 ∙ c.if-mark.false)) in
    let calls : list_any (marks.is_marked marked) unit.callees.items ≡ true = cc in
    one_found (map seen_unit units) blocks marked c.args.place (seen_unit unit) there unmarked calls found

pub returns-clause-more : goal.returns-clause-more
returns-clause-more c is =
    let marked : List Bool = c.args.marked.now.items in
    let unmarked : slice_get marked c.args.place ≡ Some false =
    subst (λ (marks : List Bool). slice_get marks c.args.place ≡ Some false) c.deref.ensures.value
    (slice_get-get_or c.deref.result.now c.args.place c.in-Some-Some.mark.now c.in-Some-Some.ensures'.lookup.3.0 ∙ ap Some (sym c.in-Some-Some.ensures'.lookup.1 ∙ c.if-mark.false)) in
    one_more marked c.args.place unmarked
