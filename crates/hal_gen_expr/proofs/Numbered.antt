-- Views and blocks by their numbers.
use Rattle.std.specs.Prelude.{◌≡◌, ℕ, zero, suc, ◌+◌, ◌==◌, ◌<◌, min, map, nat_lt, length, Bool, true, false, ◌&&◌, ◌||◌, List, [], ◌∷◌, not, Option, Some, None, slice_get, if◌then◌else◌}
use Rattle.std.specs.Option.{option_map, option_and_then, is_some}
use Rattle.std.specs.List.{position, position_or_len}
use Rattle.std.proofs.lemmas.Bool.{eqb-true, ltb-true, and_parts}
use Rattle.std.proofs.lemmas.List.Sums.{passes_at_first}
use Rattle.std.proofs.lemmas.Option.{get_or_from_slice_get}
use Rattle.std.proofs.Common.{refl, sym, ap, subst, ◌∙◌, cond, get_or, arith}
use Rattle.hal_values.specs.declared.value.Kind.{Kind}
use Rattle.hal_values.specs.declared.value.Kind.TheVariants as kind
use Rattle.hal_states.specs.Spots.{Spot, Own, Held, further}
use Rattle.hal_code.specs.declared.instr.Instr.{Instr}
use Rattle.hal_code.specs.declared.instr.Instr.TheVariants as instr
use Rattle.hal_code.specs.declared.row.Base.{Base}
use Rattle.hal_code.specs.declared.row.Base.TheVariants as base
use Rattle.hal_code.specs.declared.row.Dimension.{Dimension}
use Rattle.hal_code.specs.declared.row.Target.{Target}
use Rattle.hal_code.specs.declared.row.Target.TheVariants as target
use Rattle.hal_code.specs.declared.row.View.{View}
use Rattle.hal_code.specs.Addressing as machine
use Rattle.hal_code.specs.Images.{expanded, kinds_of as machine_kinds}
use Rattle.hal_code.specs.Sorts.{same_kind}
use Rattle.hal_meaning.specs.Places.{Storing, InCells, InPlaces, ByReference, Unstored}
use Rattle.hal_meaning.specs.ReportNames.{first_cell, first_place}
use Rattle.hal_meaning.specs.Elements.{Shape, chosen, offset, kinds_of}
use Rattle.hal_meaning.specs.Variables as tree
use Rattle.hal_meaning.specs.Variables.{kind_of_first}
use Rattle.hal_agreement.specs.Codes.{Code}
use Rattle.hal_agreement.specs.PlacedExpressions.{Has, dimension_of, IsViewed, AddressAt, ElementAt}
use Rattle.hal_agreement.specs.Sites.{Site, here_at}
use Rattle.hal_runs.proofs.Same.{kind_same}
use Rattle.hal_gen_expr.specs.Standing.{IsNumbered}
use Rattle.hal_gen_expr.specs.Numbering.{Numbering, below, most, base_of, same_base, row_of, same_row, same_rows, gives_cell, is_cell_view, view_number, same_runs, shape_number, gives_area, is_area_view, area_number}
use Rattle.hal_gen_expr.specs.declared.aims.Aim.{Aim}
use Rattle.hal_gen_expr.specs.declared.aims.Aim.TheVariants as aims
use Rattle.hal_gen_expr.specs.Leaves.{is_one, place_view, address_of, area_of}
use Rattle.hal_gen_expr.specs.Led.{Led, addressed, plainly_aimed}
use Rattle.hal_gen_expr.specs.Shapes.{runs_of}
use Rattle.hal_gen_expr.proofs.Shaped.{kinds_found}

pub below_is : (limit n m : ℕ) → below limit n ≡ Some m → n ≡ m
below_is limit n m = by (nat_lt n limit) where
  by : (b : Bool) → (if b then Some n else None) ≡ Some m → n ≡ m
  by true is = cc
  by false is = absurd (cc)

-- a number that was found
pub mapped_is : {X Y : Type 0} (f : X → Y) (o : Option X) (y : Y) → option_map f o ≡ Some y → (x : X) × (o ≡ Some x) × (f x ≡ y)
mapped_is f None y is = absurd (cc)
mapped_is f (Some x) y is = (x, refl, cc)

pub then_is : {X Y : Type 0} (f : X → Option Y) (o : Option X) (y : Y) → option_and_then f o ≡ Some y → (x : X) × (o ≡ Some x) × (f x ≡ Some y)
then_is f None y is = absurd (cc)
then_is f (Some x) y is = (x, refl, is)

-- the first member that is so
member_there : {X : Type 0} (xs : List X) (k : ℕ) → k < length xs → (x : X) × (slice_get xs k ≡ Some x)
member_there [] k low = absurd (omega (arith, low))
member_there (x ∷ xs) zero low = (x, refl)
member_there (x ∷ xs) (suc k) low = member_there xs k (omega (arith, low))

found_by : {X : Type 0} (is : X → Bool) (xs : List X) (place k : ℕ) (b : Bool) → position_or_len is xs ≡ place → nat_lt place (length xs) ≡ b → cond b (Some place) None ≡ Some k
    → (x : X) × (slice_get xs k ≡ Some x) × (is x ≡ true)
found_by is xs place k false first low found = absurd (cc)
found_by {X} is xs place k true first low found =
    let less = ltb-true place (length xs) low in
    let there = member_there xs place less in
    let passes = subst (λ m. is (get_or xs m there.0) ≡ true) first (passes_at_first is xs there.0 (omega (arith, first, less))) in
    subst (λ m. (x : X) × (slice_get xs m ≡ Some x) × (is x ≡ true)) (let same : place ≡ k = cc in same)
    (there.0, there.1, sym (ap is (get_or_from_slice_get xs place there.0 there.0 there.1)) ∙ passes)

pub first_is : {X : Type 0} (is : X → Bool) (xs : List X) (k : ℕ) → position is xs ≡ Some k → (x : X) × (slice_get xs k ≡ Some x) × (is x ≡ true)
first_is is xs k found = found_by is xs (position_or_len is xs) k (nat_lt (position_or_len is xs) (length xs)) refl refl found

base_same : (a b : Base) → same_base a b ≡ true → a ≡ b
base_same (base.Shared n) (base.Shared m) is = ap base.Shared (eqb-true n m is)
base_same (base.Own n) (base.Own m) is = ap base.Own (eqb-true n m is)
base_same (base.Through at n) (base.Through other m) is =
    ap (λ p. base.Through p n) (eqb-true at other ((and_parts (at == other) (n == m) is).0)) ∙ ap (base.Through other) (eqb-true n m ((and_parts (at == other) (n == m) is).1))
base_same one other is = absurd (cc)

below_limit : (d : ℕ) → min d most < most → min d most ≡ d
below_limit d less = omega (arith, less)

row_is : (row : Dimension) (d : tree.Dimension) → same_row row (row_of d) ≡ true → row ≡ dimension_of d
row_is row d is =
    let late = (and_parts (row.size == d.size) (row.stride == min d.stride most && nat_lt (min d.stride most) most) is).1 in
    let size = eqb-true row.size d.size (and_parts (row.size == d.size) (row.stride == min d.stride most && nat_lt (min d.stride most) most) is).0 in
    let stride = eqb-true row.stride (min d.stride most) (and_parts (row.stride == min d.stride most) (nat_lt (min d.stride most) most) late).0 in
    let less = ltb-true (min d.stride most) most (and_parts (row.stride == min d.stride most) (nat_lt (min d.stride most) most) late).1 in
    ap (λ m. let one : Dimension = record { size = m; stride = row.stride } in one) size ∙ ap (λ m. let one : Dimension = record { size = d.size; stride = m } in one) (stride ∙ below_limit d.stride less)

rows_are : (rows : List Dimension) (ds : List tree.Dimension) → same_rows rows (map row_of ds) ≡ true → rows ≡ map dimension_of ds
rows_are [] [] is = refl
rows_are (row ∷ rows) (d ∷ ds) is =
    let both = and_parts (same_row row (row_of d)) (same_rows rows (map row_of ds)) is in
    ap (λ one. one ∷ rows) (row_is row d both.0) ∙ ap (λ others. dimension_of d ∷ others) (rows_are rows ds both.1)
rows_are [] (d ∷ ds) is = absurd (cc)
rows_are (row ∷ rows) [] is = absurd (cc)

target_is : (k : Kind) (t : Target) → gives_cell k t ≡ true → t ≡ target.Cell k
target_is k (target.Cell other) is = ap target.Cell (kind_same other k is)
target_is k (target.Shape shape) is = absurd (cc)

area_is : (shape : ℕ) (t : Target) → gives_area shape t ≡ true → t ≡ target.Shape shape
area_is shape (target.Shape other) is = ap target.Shape (eqb-true other shape is)
area_is shape (target.Cell k) is = absurd (cc)

viewed : (from : Base) (ds : List tree.Dimension) (row : View) (held : List Held) (given : Target) (gives : Bool) (at : Spot) → same_base row.base from && (same_rows row.dimensions (map row_of ds) && gives) ≡ true
    → (gives ≡ true → row.target ≡ given) → machine.spot_of from held ≡ at → IsViewed row ds held given at
viewed from ds row held given gives at is aimed_at there =
    let parts = and_parts (same_base row.base from) (same_rows row.dimensions (map row_of ds) && gives) is in
    let late = and_parts (same_rows row.dimensions (map row_of ds)) gives parts.1 in
    record { dimensions = rows_are row.dimensions ds late.0; target = aimed_at late.1; base = ap (λ b. machine.spot_of b held) (base_same row.base from parts.0) ∙ there }

cell_viewed : (from : Base) (ds : List tree.Dimension) (k : Kind) (row : View) (held : List Held) (at : Spot) → is_cell_view from (map row_of ds) k row ≡ true → machine.spot_of from held ≡ at
    → IsViewed row ds held (target.Cell k) at
cell_viewed from ds k row held at is there = viewed from ds row held (target.Cell k) (gives_cell k row.target) at is (target_is k row.target) there

area_viewed : (from : Base) (ds : List tree.Dimension) (shape : ℕ) (row : View) (held : List Held) (at : Spot) → is_area_view from (map row_of ds) shape row ≡ true → machine.spot_of from held ≡ at
    → IsViewed row ds held (target.Shape shape) at
area_viewed from ds shape row held at is there = viewed from ds row held (target.Shape shape) (gives_area shape row.target) at is (area_is shape row.target) there

-- what an address leads to
abbrev pub given_by : Aim → Kind → Target
given_by aims.Cell kind = target.Cell kind
given_by (aims.Shape shape) kind = target.Shape shape

-- what holds where something is given under a condition
pub given_is : {X : Type 0} (b : Bool) (o : Option X) (x : X) → (if b then o else None) ≡ Some x → (b ≡ true) × (o ≡ Some x)
given_is true o x is = (refl, is)
given_is false o x is = absurd (cc)

module _ (code : Code) (n : Numbering) (site : Site) (numbered : IsNumbered code n) where
  -- a base leads where the data lie
  base_leads : (k at : ℕ) (stored : Storing) (from : Base) (held : List Held) → base_of site k at stored ≡ Some from
      → machine.spot_of from held ≡ further at (tree.spot_of (here_at site) held k stored)
  base_leads k at (InCells group) from held is =
      let low = mapped_is base.Shared (below most (first_cell site.set.phrases site.set.constants k + at)) from is in
      ap (λ b. machine.spot_of b held) (sym low.2 ∙ ap base.Shared (sym (below_is most (first_cell site.set.phrases site.set.constants k + at) low.0 low.1)))
  base_leads k at InPlaces from held is =
      let low = mapped_is base.Own (below most (first_place site.places k + at)) from is in
      ap (λ b. machine.spot_of b held) (sym low.2 ∙ ap base.Own (sym (below_is most (first_place site.places k + at) low.0 low.1)))
  base_leads k at ByReference from held is =
      let place = then_is (λ p. option_map (base.Through p) (below most at)) (below most (first_place site.places k)) from is in
      let low = mapped_is (base.Through place.0) (below most at) from place.2
      in ap (λ b. machine.spot_of b held)
      (sym low.2 ∙ (ap (base.Through place.0) (sym (below_is most at low.0 low.1)) ∙ ap (λ p. base.Through p at) (sym (below_is most (first_place site.places k) place.0 place.1))))
  base_leads k at Unstored from held is = absurd (cc)

  -- CELL with the number of a view that begins at a base
  numbered_view : (rows : List Dimension) (kind : Kind) (from : Base) (i : Instr) → option_map instr.Cell (view_number n rows kind from) ≡ Some i
      → (number : ℕ) × (view : View) × (instr.Cell number ≡ i) × (slice_get code.image.views number ≡ Some view) × (is_cell_view from rows kind view ≡ true)
  numbered_view rows kind from i is =
      let named = mapped_is instr.Cell (view_number n rows kind from) i is in
      let low = then_is (below most) (position (is_cell_view from rows kind) n.views) named.0 named.1 in
      let row = first_is (is_cell_view from rows kind) n.views low.0 low.1
      in (
        named.0,
        row.0,
        named.2,
        ap (λ views. slice_get views named.0) numbered.views ∙ (ap (λ m. slice_get n.views m) (sym (below_is most low.0 named.0 low.2)) ∙ row.1),
        row.2,
      )

  -- one cell
  pub address_at : (k : ℕ) (stored : Storing) (at : ℕ) (kind : Kind) (i : Instr) (from : ℕ) (held : List Held) → address_of n site [] k stored at kind ≡ Some i → Has code from i
      → AddressAt code held kind (further at (tree.spot_of (here_at site) held k stored)) from
  address_at k stored at kind i from held is has =
      let there = then_is (λ b. option_map instr.Cell (view_number n [] kind b)) (base_of site k at stored) i is in
      let row = numbered_view [] kind there.0 i there.2 in
      record {
        number = row.0;
        view = row.1;
        cell = subst (λ one. Has code from one) (sym row.2) has;
        row = row.3;
        plain = cell_viewed there.0 [] kind row.1 held (further at (tree.spot_of (here_at site) held k stored)) row.4 (base_leads k at stored there.0 held there.1);
      }

  -- an own place
  pub place_at : (k before number from : ℕ) (held : List Held) → place_view n site k before ≡ Some number → Has code from (instr.Cell number) → AddressAt code held kind.Double (Own (first_place site.places k + before)) from
  place_at k before number from held is has =
      let there = then_is (view_number n [] kind.Double) (base_of site k before InPlaces) number is in
      let row = numbered_view [] kind.Double there.0 (instr.Cell number) (ap (option_map instr.Cell) there.2) in
      record {
        number = row.0;
        view = row.1;
        cell = subst (λ one. Has code from one) (sym row.2) has;
        row = row.3;
        plain = cell_viewed there.0 [] kind.Double row.1 held (Own (first_place site.places k + before)) row.4 (base_leads k before InPlaces there.0 held there.1);
      }

  -- WHOLE with the number of one
  numbered_area : (rows : List Dimension) (shape : ℕ) (from : Base) (i : Instr) → option_map instr.Whole (area_number n rows shape from) ≡ Some i
      → (number : ℕ) × (view : View) × (instr.Whole number ≡ i) × (slice_get code.image.views number ≡ Some view) × (is_area_view from rows shape view ≡ true)
  numbered_area rows shape from i is =
      let named = mapped_is instr.Whole (area_number n rows shape from) i is in
      let low = then_is (below most) (position (is_area_view from rows shape) n.views) named.0 named.1 in
      let row = first_is (is_area_view from rows shape) n.views low.0 low.1
      in (
        named.0,
        row.0,
        named.2,
        ap (λ views. slice_get views named.0) numbered.views ∙ (ap (λ m. slice_get n.views m) (sym (below_is most low.0 named.0 low.2)) ∙ row.1),
        row.2,
      )

  -- where data begin, so many elements behind the first one, while the own places hold something
  abbrev pub begins_at : ℕ → Storing → ℕ → List Held → Spot
  begins_at k stored at now = further at (tree.spot_of (here_at site) now k stored)

  -- a cell in dimensions
  pub behind_at : (ds : List tree.Dimension) (k : ℕ) (stored : Storing) (at : ℕ) (kind : Kind) (i : Instr) (from : ℕ) → address_of n site (map row_of ds) k stored at kind ≡ Some i → Has code from i
      → ElementAt code ds (target.Cell kind) (begins_at k stored at) from
  behind_at ds k stored at kind i from is has =
      let there = then_is (λ b. option_map instr.Cell (view_number n (map row_of ds) kind b)) (base_of site k at stored) i is in
      let row = numbered_view (map row_of ds) kind there.0 i there.2 in
      record {
        number = row.0;
        view = row.1;
        address = subst (λ one. Has code from one) (sym row.2) has;
        row = row.3;
        viewed = λ now. cell_viewed there.0 ds kind row.1 now (begins_at k stored at now) row.4 (base_leads k at stored there.0 now there.1);
      }

  -- the cells of a shape in dimensions
  area_at : (ds : List tree.Dimension) (k : ℕ) (stored : Storing) (at shape : ℕ) (i : Instr) (from : ℕ) → area_of n site (map row_of ds) shape k stored at ≡ Some i → Has code from i
      → ElementAt code ds (target.Shape shape) (begins_at k stored at) from
  area_at ds k stored at shape i from is has =
      let there = then_is (λ b. option_map instr.Whole (area_number n (map row_of ds) shape b)) (base_of site k at stored) i is in
      let row = numbered_area (map row_of ds) shape there.0 i there.2 in
      record {
        number = row.0;
        view = row.1;
        address = subst (λ one. Has code from one) (sym row.2) has;
        row = row.3;
        viewed = λ now. area_viewed there.0 ds shape row.1 now (begins_at k stored at now) row.4 (base_leads k at stored there.0 now there.1);
      }

  -- the one or the other, of the element so many elements behind the first one of the data
  abbrev pub LedAt : List tree.Dimension → ℕ → Aim → Led → ℕ → Type 0
  LedAt ds at aim l from = ElementAt code ds (given_by aim (kind_of_first (chosen l.path l.shape.components))) (begins_at l.declared l.stored at) from

  pub addressed_at : (ds : List tree.Dimension) (skipped : ℕ) (aim : Aim) (l : Led) (i : Instr) (from : ℕ) → addressed n site aim (map row_of ds) skipped l ≡ Some i → Has code from i → LedAt ds (skipped + offset l.path l.shape.components) aim l from
  addressed_at ds skipped aims.Cell l i from is has = behind_at ds l.declared l.stored (skipped + offset l.path l.shape.components) (kind_of_first (chosen l.path l.shape.components)) i from is has
  addressed_at ds skipped (aims.Shape shape) l i from is has = area_at ds l.declared l.stored (skipped + offset l.path l.shape.components) shape i from is has

  -- without subscripts
  pub plainly_at : (aim : Aim) (l : Led) (i : Instr) (from : ℕ) → plainly_aimed n site aim l ≡ Some i → Has code from i → LedAt [] (offset l.path l.shape.components) aim l from
  plainly_at aims.Cell l i from is has =
      behind_at [] l.declared l.stored (offset l.path l.shape.components) (kind_of_first (chosen l.path l.shape.components)) i from
      (given_is (not (is_some l.shape.copies) && is_one (chosen l.path l.shape.components))
      (address_of n site [] l.declared l.stored (offset l.path l.shape.components) (kind_of_first (chosen l.path l.shape.components))) i is).1 has
  plainly_at (aims.Shape shape) l i from is has = area_at [] l.declared l.stored (offset l.path l.shape.components) shape i from is has

  -- the kinds of the cells of a shape that is found
  pub shape_there : (form : Shape) (shape : ℕ) → shape_number n (runs_of form) ≡ Some shape → machine_kinds code.image shape ≡ kinds_of form
  shape_there form shape is =
      let low = then_is (below most) (position (λ found. same_runs found (runs_of form)) n.shapes) shape is in
      let row = first_is (λ found. same_runs found (runs_of form)) n.shapes low.0 low.1 in
      let there : slice_get code.image.shapes shape ≡ Some row.0 = ap (λ shapes. slice_get shapes shape) numbered.shapes ∙ (ap (λ m. slice_get n.shapes m) (sym (below_is most low.0 shape low.2)) ∙ row.1) in
      ap (λ o. elim o [ None ↦ [] | Some runs ↦ expanded runs ]) there ∙ kinds_found row.0 form row.2
