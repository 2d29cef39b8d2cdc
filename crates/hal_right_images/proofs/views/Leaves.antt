-- The instructions of names, groups and parameters name views that are for them.
use Rattle.std.specs.Prelude.{◌≡◌, ◌<◌, ◌+◌, ◌==◌, ◌&&◌, ℕ, min, map, not, nat_lt, Bool, true, List, [], ◌∷◌, Option, Some, None, slice_get, if◌then◌else◌}
use Rattle.std.specs.List.{position}
use Rattle.std.specs.Option.{is_some, option_map}
use Rattle.std.proofs.Common.{refl, sym, ap, subst, ◌∙◌, inl, inr, arith}
use Rattle.std.proofs.lemmas.Bool.{eqb-true, and_parts}
use Rattle.hal_base.specs.declared.refusal.Place.{Place}
use Rattle.hal_grammar.specs.Leaves.{Naming}
use Rattle.hal_grammar.specs.Expressions.{Refers, Subscript}
use Rattle.hal_phrases.specs.declared.role.Role.{Role}
use Rattle.hal_phrases.specs.Phrases.{OfReference}
use Rattle.hal_values.specs.declared.value.Kind.{Kind}
use Rattle.hal_values.specs.declared.value.Kind.TheVariants as kind
use Rattle.hal_code.specs.declared.instr.Instr.{Instr}
use Rattle.hal_code.specs.declared.instr.Instr.TheVariants as instr
use Rattle.hal_code.specs.declared.row.Base.{Base}
use Rattle.hal_code.specs.declared.row.Base.TheVariants as base
use Rattle.hal_code.specs.declared.row.Dimension.{Dimension}
use Rattle.hal_code.specs.declared.row.Target.{Target}
use Rattle.hal_code.specs.declared.row.Target.TheVariants as target
use Rattle.hal_code.specs.declared.row.View.{View}
use Rattle.hal_meaning.specs.Calls.{parameter_named}
use Rattle.hal_meaning.specs.Elements.{Shape, chosen, offset}
use Rattle.hal_meaning.specs.Places.{Storing, InPlaces}
use Rattle.hal_meaning.specs.Sets.{Set}
use Rattle.hal_meaning.specs.Variables.{kind_of_first}
use Rattle.hal_agreement.specs.Sites.{Site}
use Rattle.hal_runs.proofs.Same.{kind_same}
use Rattle.hal_storage.specs.referents.Referents.{Referent, DataOf, ConstantOf, EventOf, BlockOf, BuiltinOf, Unmeant}
use Rattle.hal_gen_expr.specs.declared.aims.Aim.TheVariants as aims
use Rattle.hal_gen_expr.specs.Elements.{an_element, counted}
use Rattle.hal_gen_expr.specs.Leaves.{is_one, address_of, area_of, element_of, place_view}
use Rattle.hal_gen_expr.specs.Led.{Led, led_by, led_to, rows_left, skips_led, aimed, plainly_aimed}
use Rattle.hal_gen_expr.specs.Numbering.{Numbering, below, most, base_of, same_base, same_row, same_rows, row_of, gives_cell, gives_area, cell_view, is_cell_view, area_view, is_area_view, view_number, area_number, shape_in}
use Rattle.hal_gen_expr.specs.Referents.{referent}
use Rattle.hal_gen_expr.specs.Shapes.{runs_of}
use Rattle.hal_gen_expr.proofs.Numbered.{below_is, mapped_is, then_is, first_is, given_is}
use Rattle.hal_link.specs.Outlines.{Outline, numbering_of}
use Rattle.hal_link.specs.Shapes.{shapes_of}
use Rattle.hal_right_images.specs.rows.Purposes.{IsSite, Says, HasPlace, IsPassed, IsCellFor, IsAreaFor}
use Rattle.hal_right_images.specs.views.Naming.{NamesCell, Names}
use Rattle.hal_right_images.proofs.views.Bases.{base_low}

-- rows of views that are the same
base_same : (a b : Base) → same_base a b ≡ true → a ≡ b
base_same (base.Shared n) (base.Shared m) is = ap base.Shared (eqb-true n m is)
base_same (base.Own n) (base.Own m) is = ap base.Own (eqb-true n m is)
base_same (base.Through at n) (base.Through other m) is =
    ap (λ p. base.Through p n) (eqb-true at other ((and_parts (at == other) (n == m) is).0)) ∙ ap (base.Through other) (eqb-true n m ((and_parts (at == other) (n == m) is).1))
base_same one other is = absurd (cc)

row_same : (one other : Dimension) → same_row one other ≡ true → one ≡ other
row_same one other is =
    let both = and_parts (one.size == other.size) (one.stride == other.stride && nat_lt other.stride most) is in
    let size = eqb-true one.size other.size both.0 in
    let stride = eqb-true one.stride other.stride (and_parts (one.stride == other.stride) (nat_lt other.stride most) both.1).0 in
    ap (λ m. let d : Dimension = record { size = m; stride = one.stride } in d) size ∙ ap (λ m. let d : Dimension = record { size = other.size; stride = m } in d) stride

rows_same : (ones others : List Dimension) → same_rows ones others ≡ true → ones ≡ others
rows_same [] [] is = refl
rows_same (one ∷ ones) (other ∷ others) is =
    let both = and_parts (same_row one other) (same_rows ones others) is in
    ap (λ d. d ∷ ones) (row_same one other both.0) ∙ ap (λ ds. other ∷ ds) (rows_same ones others both.1)
rows_same [] (other ∷ others) is = absurd (cc)
rows_same (one ∷ ones) [] is = absurd (cc)

target_is : (k : Kind) (t : Target) → gives_cell k t ≡ true → t ≡ target.Cell k
target_is k (target.Cell other) is = ap target.Cell (kind_same other k is)
target_is k (target.Shape shape) is = absurd (cc)

area_is : (shape : ℕ) (t : Target) → gives_area shape t ≡ true → t ≡ target.Shape shape
area_is shape (target.Shape other) is = ap target.Shape (eqb-true other shape is)
area_is shape (target.Cell k) is = absurd (cc)

abbrev view_of : Base → List Dimension → Target → View
view_of from rows given = record { base = from; dimensions = rows; target = given }

view_same : (from : Base) (rows : List Dimension) (given : Target) (row : View) (gives : Bool) → same_base row.base from && (same_rows row.dimensions rows && gives) ≡ true → (gives ≡ true → row.target ≡ given)
    → row ≡ view_of from rows given
view_same from rows given row gives is aimed_at =
    let parts = and_parts (same_base row.base from) (same_rows row.dimensions rows && gives) is in
    let late = and_parts (same_rows row.dimensions rows) gives parts.1 in
    ap (λ b. view_of b row.dimensions row.target) (base_same row.base from parts.0)
    ∙ (ap (λ ds. view_of from ds row.target) (rows_same row.dimensions rows late.0) ∙ ap (view_of from rows) (aimed_at late.1))

-- a number that is counted up to a limit, and is below it
least : (n limit : ℕ) → n < limit → min n limit ≡ n
least n limit low = omega (arith, low)

module _ (s : Set) (views : List View) (o : Outline) (site : Site) where
  abbrev n : Numbering
  n = numbering_of (shapes_of s) views o

  -- CELL and WHOLE, by the view with their number
  record IsCell (rows : List Dimension) (k : Kind) (from : Base) (number : ℕ) : Type 0 where
    view : View
    there : slice_get views number ≡ Some view
    is : view ≡ cell_view from rows k

  cell_there : (rows : List Dimension) (k : Kind) (from : Base) (number : ℕ) → view_number n rows k from ≡ Some number → IsCell rows k from number
  cell_there rows k from number is =
      let low = then_is (below most) (position (is_cell_view from rows k) views) number is in
      let row = first_is (is_cell_view from rows k) views low.0 low.1 in
      record {
        view = row.0;
        there = ap (λ m. slice_get views m) (sym (below_is most low.0 number low.2)) ∙ row.1;
        is = view_same from rows (target.Cell k) row.0 (gives_cell k row.0.target) row.2 (target_is k row.0.target);
      }

  record IsArea (rows : List Dimension) (shape : ℕ) (from : Base) (number : ℕ) : Type 0 where
    view : View
    there : slice_get views number ≡ Some view
    is : view ≡ area_view from rows shape

  area_there : (rows : List Dimension) (shape : ℕ) (from : Base) (number : ℕ) → area_number n rows shape from ≡ Some number → IsArea rows shape from number
  area_there rows shape from number is =
      let low = then_is (below most) (position (is_area_view from rows shape) views) number is in
      let row = first_is (is_area_view from rows shape) views low.0 low.1 in
      record {
        view = row.0;
        there = ap (λ m. slice_get views m) (sym (below_is most low.0 number low.2)) ∙ row.1;
        is = view_same from rows (target.Shape shape) row.0 (gives_area shape row.0.target) row.2 (area_is shape row.0.target);
      }

  module _ (at : IsSite s o.process site) where
    abbrev P : Instr → Type 0
    P i = Names s views o.process i

    -- a number of a view with a purpose
    pub cell_named : (rows : List Dimension) (k : Kind) (from : Base) (number : ℕ) → view_number n rows k from ≡ Some number → IsCellFor site rows k from → NamesCell s views o.process number
    cell_named rows k from number is purpose =
        let row = cell_there rows k from number is in
        record { site = site; is_site = at; rows = rows; k = k; from = from; view = row.view; there = row.there; is = row.is; purpose = purpose }

    pub address_named : (rows : List Dimension) (declared : ℕ) (way : Storing) (before : ℕ) (k : Kind) (i : Instr) → address_of n site rows declared way before k ≡ Some i
        → ((from : Base) → base_of site declared before way ≡ Some from → IsCellFor site rows k from) → P i
    address_named rows declared way before k i is purpose =
        let from = then_is (λ b. option_map instr.Cell (view_number n rows k b)) (base_of site declared before way) i is in
        let number = mapped_is instr.Cell (view_number n rows k from.0) i from.2 in
        subst P number.2 (cell_named rows k from.0 number.0 number.1 (purpose from.0 from.1))

    area_named : (rows : List Dimension) (shape declared : ℕ) (way : Storing) (before : ℕ) (i : Instr) → area_of n site rows shape declared way before ≡ Some i
        → ((from : Base) → base_of site declared before way ≡ Some from → IsAreaFor (shapes_of s) site rows shape from) → P i
    area_named rows shape declared way before i is purpose =
        let from = then_is (λ b. option_map instr.Whole (area_number n rows shape b)) (base_of site declared before way) i is in
        let number = mapped_is instr.Whole (area_number n rows shape from.0) i from.2 in
        let row = area_there rows shape from.0 number.0 number.1 in
        subst P number.2 (record { site = site; is_site = at; rows = rows; shape = shape; from = from.0; view = row.view; there = row.there; is = row.is; purpose = purpose from.0 from.1 })

    -- the one element to which a name leads
    single : (o : Option ℕ) (b : Bool) → (not (is_some o) && b) ≡ true → (o ≡ None) × (b ≡ true)
    single None b is = (refl, is)
    single (Some m) b is = absurd (cc)

    pub element_named : (name : List ℕ) (path : List Naming) (declared : ℕ) (way : Storing) (shape : Shape) (i : Instr) → referent site name ≡ DataOf declared way shape → element_of n site path declared way shape ≡ Some i → P i
    element_named name path declared way shape i refers is =
        let before = offset path shape.components in
        let k = kind_of_first (chosen path shape.components) in
        let given = given_is (not (is_some shape.copies) && is_one (chosen path shape.components)) (address_of n site [] declared way before k) i is in
        let one = single shape.copies (is_one (chosen path shape.components)) given.0 in
        address_named [] declared way before k i given.1
        (λ from begins.
        let same = least before counted (base_low site declared before way from begins) in
        inl (inl (record {
          name = name;
          path = path;
          declared = declared;
          way = way;
          shape = shape;
          refers = refers;
          one = an_element (min before counted) k;
          single = one.0;
          leads = ap (λ b. if b then Some (an_element (min before counted) k) else None) one.1;
          plain = refl;
          kind = refl;
          begins = ap (λ m. base_of site declared m way) same ∙ begins;
        })))

    -- so many elements behind the first one, as they are counted
    moved_to : (skipped before : ℕ) → skipped + before < counted → min (min skipped counted + min before counted) counted ≡ skipped + before
    moved_to skipped before low = omega (arith, low)

    -- the elements among which a subscript chooses
    pub chosen_named : (role : Role) (place : Place) (name : List ℕ) (path : List Naming) (subscript : Subscript) (l : Led) (i : Instr) → Says site (OfReference role (Refers place name path subscript))
        → led_by path (referent site name) ≡ Some l → aimed n site aims.Cell subscript l ≡ Some i → P i
    chosen_named role place name path subscript l i says leads is =
        let rows = map row_of (rows_left subscript l) in
        let skipped = skips_led site subscript l in
        let before = offset l.path l.shape.components in
        address_named rows l.declared l.stored (skipped + before) (kind_of_first (chosen l.path l.shape.components)) i is
        (λ from begins.
        let same = moved_to skipped before (base_low site l.declared (skipped + before) l.stored from begins) in
        inl (inr (record {
          role = role;
          place = place;
          name = name;
          path = path;
          subscript = subscript;
          says = says;
          led = l;
          leads = leads;
          dimensions = refl;
          kind = refl;
          begins = ap (λ m. base_of site l.declared m l.stored) same ∙ begins;
        })))

    -- what is led to is data
    led_data : (path : List Naming) (r : Referent) (l : Led) → led_by path r ≡ Some l → (l.path ≡ path) × (r ≡ DataOf l.declared l.stored l.shape)
    led_data path (DataOf k way shape) l is = let same : led_to path k way shape ≡ l = cc in (ap (λ (x : Led). x.path) (sym same), ap (λ (x : Led). DataOf x.declared x.stored x.shape) same)
    led_data path (ConstantOf v) l is = absurd (cc)
    led_data path (EventOf e) l is = absurd (cc)
    led_data path (BlockOf unit) l is = absurd (cc)
    led_data path (BuiltinOf b) l is = absurd (cc)
    led_data path Unmeant l is = absurd (cc)

    pub plainly_named : (name : List ℕ) (path : List Naming) (l : Led) (i : Instr) → led_by path (referent site name) ≡ Some l → plainly_aimed n site aims.Cell l ≡ Some i → P i
    plainly_named name path l i leads is = element_named name l.path l.declared l.stored l.shape i (led_data path (referent site name) l leads).1 is

    -- an argument
    module _ (unit : ℕ) (parameter : Naming) (place : Place) (name : List ℕ) (path : List Naming) (subscript : Subscript) (passed : IsPassed site unit parameter (Refers place name path subscript))
        (l : Led) (leads : led_by path (referent site name) ≡ Some l) (shape : ℕ) (numbered : shape_in (shapes_of s) (runs_of (parameter_named site.set unit parameter).shape) ≡ Some shape) where
      area_for : (rows : List Dimension) (skipped : ℕ) (i : Instr) → rows ≡ map row_of (rows_left subscript l) → skips_led site subscript l ≡ skipped
          → area_of n site rows shape l.declared l.stored (skipped + offset l.path l.shape.components) ≡ Some i → P i
      area_for rows skipped i dimensions skips is =
          let before = offset l.path l.shape.components in
          area_named rows shape l.declared l.stored (skipped + before) i is
          (λ from begins.
          let same = ap (λ m. min (min m counted + min before counted) counted) skips ∙ moved_to skipped before (base_low site l.declared (skipped + before) l.stored from begins) in
          record {
            place = place;
            name = name;
            path = path;
            subscript = subscript;
            unit = unit;
            parameter = parameter;
            passed = passed;
            led = l;
            leads = leads;
            dimensions = dimensions;
            runs = runs_of (parameter_named site.set unit parameter).shape;
            own = refl;
            numbered = numbered;
            begins = ap (λ m. base_of site l.declared m l.stored) same ∙ begins;
          })

      pub argument_named : (i : Instr) → aimed n site (aims.Shape shape) subscript l ≡ Some i → P i
      argument_named i is = area_for (map row_of (rows_left subscript l)) (skips_led site subscript l) i refl refl is

      pub plain_argument : (i : Instr) → [] ≡ map row_of (rows_left subscript l) → skips_led site subscript l ≡ 0 → plainly_aimed n site (aims.Shape shape) l ≡ Some i → P i
      plain_argument i none skips is =
          let before = offset l.path l.shape.components in
          let same : 0 + before ≡ before = omega arith in
          area_for [] 0 i none skips (subst (λ m. area_of n site [] shape l.declared l.stored m ≡ Some i) (sym same) is)

    -- an own place of a group
    pub place_named : (group before number : ℕ) → HasPlace site group before → place_view n site group before ≡ Some number → NamesCell s views o.process number
    place_named group before number has is =
        let from = then_is (view_number n [] kind.Double) (base_of site group before InPlaces) number is in
        cell_named [] kind.Double from.0 number from.2 (inr (inl (record { group = group; before = before; has = has; plain = refl; kind = refl; begins = from.1 })))
