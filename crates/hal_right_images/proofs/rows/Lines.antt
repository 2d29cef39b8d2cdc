-- The lines that the names of the report give are no more than the cells and events of a set.
use Rattle.std.specs.Prelude.{◌≡◌, ◌<◌, ◌≤◌, ℕ, zero, suc, ◌+◌, ◌*◌, ◌==◌, Bool, true, false, ◌&&◌, ◌||◌, List, [], ◌∷◌, ◌++◌, length, filter_map, flat_map, Option, Some, None, slice_get, unwrap_or, if◌then◌else◌}
use Rattle.std.specs.List.{cons_option, list_any, sum_by}
use Rattle.std.proofs.Common.{refl, sym, ap, subst, ◌∙◌, arith, length-append}
use Rattle.std.proofs.lemmas.Bool.{eqb-true, eq-eqb, ne_eqb, or_right}
use Rattle.std.proofs.lemmas.List.{length-replicate}
use Rattle.std.proofs.lemmas.List.Sums.{sum_by-append, sum_by-cons}
use Rattle.std.proofs.Math.Nat.{mul-add, suc-mul}
use Rattle.hal_grammar.specs.Declarations.{Automatic, Latched, Attribute, Declared}
use Rattle.hal_phrases.specs.Phrases.{Node, Phrase, OfItem}
use Rattle.hal_names.specs.Laws.{IsCounted}
use Rattle.hal_scope.specs.Sorts.{type_among, type_of}
use Rattle.hal_kinds.specs.Attributes.{has_mark}
use Rattle.hal_kinds.specs.Data.{is_event_type}
use Rattle.hal_constants.specs.Known.{Known}
use Rattle.hal_values.specs.declared.tables.ReportBase.{ReportBase}
use Rattle.hal_values.specs.declared.tables.ReportBase.TheVariants as base
use Rattle.hal_values.specs.declared.tables.ReportName.{ReportName}
use Rattle.hal_values.specs.declared.value.Kind.{Kind}
use Rattle.hal_values.specs.declared.value.Value.{Value}
use Rattle.hal_values.specs.ReportElements.{size_of}
use Rattle.hal_code.specs.Right.{line_count}
use Rattle.hal_meaning.specs.Bodies.{is_unit, processes_of}
use Rattle.hal_meaning.specs.Elements.{Component, Shape, product, count, copy_size, times, kinds_of_component, kinds_of, shape_of}
use Rattle.hal_meaning.specs.Events.{is_event, declared_events}
use Rattle.hal_meaning.specs.InitialValues.{first_values}
use Rattle.hal_meaning.specs.Places.{Place, Storing, InCells, InPlaces, ByReference, Unstored, cells_from, cells_of_item, cells_at, places_from, places_of_item, places_at, places_in, is_in_unit, unit_numbers, is_reentrant_at, cell_count, places_of, storing}
use Rattle.hal_meaning.specs.ReportNames.{first_cell, first_place, joined, path_of, showing, with_path, rows_from, rows_of_shape, rows_stored, rows_of_event, is_shown, rows_of_item, rows_at, rows_of}
use Rattle.hal_reach.specs.Places.{is_among}
use Rattle.hal_fit_layout.proofs.Parameters.{first_long}
use Rattle.hal_right_images.proofs.rows.Formed.{AreCopies, type_copies}

-- one where something is so
abbrev counted_if : Bool → ℕ
counted_if true = 1
counted_if false = 0

-- so many elements a component has, as its dimensions say
pub size_product : (ns : List ℕ) → size_of ns ≡ product ns
size_product [] = refl
size_product (n ∷ ns) = ap (λ m. n * m) (size_product ns)

-- how many times a row is shown
abbrev pub shown_times : ℕ → ℕ
shown_times copies = if copies == 0 then 1 else copies

abbrev pub lines_of : List ReportName → ℕ
lines_of names = sum_by line_count names

pub counted_first : (c : Component) (cs : List Component) → copy_size (c ∷ cs) ≡ count c + copy_size cs
counted_first c cs = sum_by-cons count c cs

-- the row of a component
abbrev row_for : List ℕ → ReportBase → ℕ → ℕ → ℕ → Component → ReportName
row_for name from first copies stride c = record { name = with_path name c.path; base = from; first = first; copies = copies; stride = stride; dimensions = c.sizes }

rows_lines : (name : List ℕ) (from : ReportBase) (first copies stride : ℕ) (cs : List Component) → lines_of (rows_from name from first copies stride cs) ≡ shown_times copies * copy_size cs
rows_lines name from first copies stride [] = sym (nothing (shown_times copies)) where
  nothing : (n : ℕ) → n * 0 ≡ 0
  nothing n = omega arith
rows_lines name from first copies stride (c ∷ cs) =
    let head = sum_by-cons line_count (row_for name from first copies stride c) (rows_from name from (copy_size (c ∷ []) + first) copies stride cs) in
    let rest = rows_lines name from (copy_size (c ∷ []) + first) copies stride cs in
    let size = ap (λ n. shown_times copies * n) (size_product c.sizes) in
    let all = ap (λ n. shown_times copies * n) (counted_first c cs) in
    let both = mul-add (shown_times copies) (count c) (copy_size cs) in
    omega (arith, head, rest, size, all, both)

and_true : (b : Bool) → (b && true) ≡ b
and_true true = refl
and_true false = refl

-- as many elements has data
component_long : (cs : List Component) → length (flat_map kinds_of_component cs) ≡ copy_size cs
component_long [] = refl
component_long (c ∷ cs) =
    let first = length-replicate (count c) c.kind in
    let rest = component_long cs in
    let both = length-append (kinds_of_component c) (flat_map kinds_of_component cs) in
    let all = counted_first c cs in
    omega (arith, first, rest, both, all)

times_long : (n : ℕ) (ks : List Kind) → length (times n ks) ≡ n * length ks
times_long zero ks = let none : zero * length ks ≡ 0 = omega arith in sym none
times_long (suc n) ks =
    let both = length-append ks (times n ks) in
    let rest = times_long n ks in
    let more = suc-mul n (length ks) in
    omega (arith, both, rest, more)

pub kinds_long : (shape : Shape) → length (kinds_of shape) ≡ unwrap_or shape.copies 1 * copy_size shape.components
kinds_long shape = times_long (unwrap_or shape.copies 1) (flat_map kinds_of_component shape.components) ∙ ap (λ n. unwrap_or shape.copies 1 * n) (component_long shape.components)

pub shown_copies : (copies : Option ℕ) → AreCopies copies → shown_times (unwrap_or copies 0) ≡ unwrap_or copies 1
shown_copies None are = refl
shown_copies (Some n) are = ap (λ b. if b then 1 else n) (ne_eqb n 0 (λ same. omega (arith, are, same)))

pub shape_lines : (name : List ℕ) (from : ReportBase) (first : ℕ) (shape : Shape) → AreCopies shape.copies → lines_of (rows_of_shape name from first shape) ≡ length (kinds_of shape)
shape_lines name from first shape are =
    rows_lines name from first (unwrap_or shape.copies 0) (copy_size shape.components) shape.components
    ∙ (ap (λ n. n * copy_size shape.components) (shown_copies shape.copies are) ∙ sym (kinds_long shape))

pub cells_long : (group : ℕ) (ks : List Kind) (vs : List Value) → length vs ≡ length ks → length (cells_from group ks vs) ≡ length ks
cells_long group [] vs long = refl
cells_long group (k ∷ ks) [] long = absurd (omega (arith, long))
cells_long group (k ∷ ks) (v ∷ vs) long = ap suc (cells_long group ks vs (omega (arith, long)))

pub places_long : (owner : ℕ) (automatic : Bool) (ks : List Kind) (vs : List Value) → length vs ≡ length ks → length (places_from owner automatic ks vs) ≡ length ks
places_long owner automatic [] vs long = refl
places_long owner automatic (k ∷ ks) [] long = absurd (omega (arith, long))
places_long owner automatic (k ∷ ks) (v ∷ vs) long = ap suc (places_long owner automatic ks vs (omega (arith, long)))

-- sums of list members, compared one by one
sum_same : {X : Type 0} (f g : X → ℕ) (xs : List X) → ((x : X) → f x ≡ g x) → sum_by f xs ≡ sum_by g xs
sum_same f g [] same = refl
sum_same f g (x ∷ xs) same =
    let first = sum_by-cons f x xs in
    let second = sum_by-cons g x xs in
    let here = same x in
    let rest = sum_same f g xs same in
    omega (arith, first, second, here, rest)

sum_less : {X : Type 0} (f g : X → ℕ) (xs : List X) → ((x : X) → f x ≤ g x) → sum_by f xs ≤ sum_by g xs
sum_less f g [] less = omega arith
sum_less f g (x ∷ xs) less =
    let first = sum_by-cons f x xs in
    let second = sum_by-cons g x xs in
    let here = less x in
    let rest = sum_less f g xs less in
    omega (arith, first, second, here, rest)

sum_two : {X : Type 0} (f g : X → ℕ) (xs : List X) → sum_by (λ x. f x + g x) xs ≡ sum_by f xs + sum_by g xs
sum_two f g [] = refl
sum_two f g (x ∷ xs) =
    let all = sum_by-cons (λ y. f y + g y) x xs in
    let first = sum_by-cons f x xs in
    let second = sum_by-cons g x xs in
    let rest = sum_two f g xs in
    omega (arith, all, first, second, rest)

-- where a number is among others, what it adds is counted
abbrev added_at : ℕ → ℕ → ℕ → ℕ
added_at home many q = if home == q then many else 0

counted_among : (home many : ℕ) (ns : List ℕ) → is_among ns home ≡ true → many ≤ sum_by (added_at home many) ns
counted_among home many [] is = absurd (cc)
counted_among home many (n ∷ ns) is = by (n == home) refl is (counted_among home many ns) where
  by : (b : Bool) → (n == home) ≡ b → (b || list_any (λ k. k == home) ns) ≡ true → (list_any (λ k. k == home) ns ≡ true → many ≤ sum_by (added_at home many) ns) → many ≤ sum_by (added_at home many) (n ∷ ns)
  by true same any later =
      let first = sum_by-cons (added_at home many) n ns in
      let here = ap (λ b. if b then many else 0) (eq-eqb home n (sym (eqb-true n home same))) in
      omega (arith, first, here)
  by false other any later =
      let first = sum_by-cons (added_at home many) n ns in
      let rest = later any in
      omega (arith, first, rest)

unit_among : (qs : List Phrase) (k : ℕ) (p : Phrase) → slice_get qs k ≡ Some p → is_unit p.node ≡ true → is_among (unit_numbers qs) p.number ≡ true
unit_among [] k p there is = absurd (cc)
unit_among (q ∷ qs) zero p there is =
    let same : q ≡ p = cc in
    let so : is_unit q.node ≡ true = subst (λ (x : Phrase). is_unit x.node ≡ true) (sym same) is in
    ap (λ b. is_among (cons_option (if b then Some q.number else None) (unit_numbers qs)) p.number) so ∙ ap (λ b. b || is_among (unit_numbers qs) p.number) (eq-eqb q.number p.number (ap (λ (x : Phrase). x.number) same))
unit_among (q ∷ qs) (suc k) p there is = by (is_unit q.node) (unit_among qs k p there is) where
  by : (b : Bool) → is_among (unit_numbers qs) p.number ≡ true → is_among (cons_option (if b then Some q.number else None) (unit_numbers qs)) p.number ≡ true
  by true rest = or_right (q.number == p.number) (is_among (unit_numbers qs) p.number) rest
  by false rest = rest

pub home_among : (ps : List Phrase) → IsCounted ps → (home : ℕ) → is_in_unit ps home ≡ true → is_among (unit_numbers ps) home ≡ true
home_among ps counted home is = by (slice_get ps home) refl is where
  by : (o : Option Phrase) → slice_get ps home ≡ o → elim o [ None ↦ false | Some p ↦ is_unit p.node ] ≡ true → is_among (unit_numbers ps) home ≡ true
  by None there so = absurd (cc)
  by (Some p) there so = subst (λ n. is_among (unit_numbers ps) n ≡ true) (counted home p there) (unit_among ps home p there so)

module _ (ps : List Phrase) (vs : Known) where
  abbrev cells_count : Phrase → ℕ
  cells_count p = length (cells_at ps vs p p.node)

  abbrev places_count : Phrase → ℕ
  places_count p = if is_in_unit ps p.around.home then length (places_at ps vs p p.node) else 0

  abbrev event_count : Phrase → ℕ
  event_count p = counted_if (is_event ps p.around.home p.node)

  -- the lines of one declaration
  event_lines : (p : Phrase) (name : List ℕ) (latched : Bool) → lines_of (rows_of_event ps p name latched) ≤ 1
  event_lines p name true = let one : lines_of (rows_of_event ps p name true) ≡ 1 = refl in omega (arith, one)
  event_lines p name false = let none : lines_of (rows_of_event ps p name false) ≡ 0 = refl in omega (arith, none)

  stored_lines : (p : Phrase) (common : List Attribute) (item : Declared) (name : List ℕ) (stored : Storing)
      → lines_of (rows_stored ps vs p name (shape_of ps vs p common item) stored) ≤ length (cells_of_item ps vs p common item stored) + length (places_of_item ps vs p common item stored)
  stored_lines p common item name (InCells group) =
      let attributes = item.attributes ++ common in
      let shape = shape_of ps vs p common item in
      let ks = kinds_of shape in
      let lines = shape_lines name base.Shared (first_cell ps vs p.number) shape (type_copies ps vs p attributes (type_among attributes)) in
      let long = cells_long group ks (first_values ps vs p attributes ks) (first_long ps vs p attributes ks) in
      omega (arith, lines, long)
  stored_lines p common item name InPlaces = by (showing ps p.around.home) where
    attributes : List Attribute
    attributes = item.attributes ++ common

    long : length (places_of_item ps vs p common item InPlaces) ≡ length (kinds_of (shape_of ps vs p common item))
    long =
        let ks = kinds_of (shape_of ps vs p common item) in
        places_long p.number (has_mark Automatic attributes) ks (first_values ps vs p attributes ks) (first_long ps vs p attributes ks)

    by : (o : Option ℕ) → lines_of (elim o [
      | None ↦ []
      | Some process ↦ rows_of_shape name (base.Own process) (first_place (places_of ps vs (unwrap_or (slice_get (processes_of ps) process) 0)) p.number) (shape_of ps vs p common item)
    ]) ≤ length (cells_of_item ps vs p common item InPlaces) + length (places_of_item ps vs p common item InPlaces)
    by None = omega arith
    by (Some process) =
        let lines = shape_lines name (base.Own process) (first_place (places_of ps vs (unwrap_or (slice_get (processes_of ps) process) 0)) p.number) (shape_of ps vs p common item) (type_copies ps vs p attributes (type_among attributes)) in
        let places = long in
        omega (arith, lines, places)
  stored_lines p common item name ByReference = omega arith
  stored_lines p common item name Unstored = omega arith

  item_lines : (p : Phrase) (common : List Attribute) (item : Declared) (event : Bool) → is_event_type (type_of common item) ≡ event
      → lines_of (if event then rows_of_event ps p (joined (path_of ps p.around.home) item.name.name) (has_mark Latched (item.attributes ++ common))
      else if is_shown ps p common item then rows_stored ps vs p (joined (path_of ps p.around.home) item.name.name) (shape_of ps vs p common item) (storing ps vs p (OfItem common item)) else [])
      ≤ (length (cells_at ps vs p (OfItem common item)) + length (places_at ps vs p (OfItem common item))) + counted_if event
  item_lines p common item true is = let one = event_lines p (joined (path_of ps p.around.home) item.name.name) (has_mark Latched (item.attributes ++ common)) in omega (arith, one)
  item_lines p common item false is = by (is_shown ps p common item) where
    by : (b : Bool) → lines_of (if b then rows_stored ps vs p (joined (path_of ps p.around.home) item.name.name) (shape_of ps vs p common item) (storing ps vs p (OfItem common item)) else [])
        ≤ (length (cells_at ps vs p (OfItem common item)) + length (places_at ps vs p (OfItem common item))) + 0
    by true = let lines = stored_lines p common item (joined (path_of ps p.around.home) item.name.name) (storing ps vs p (OfItem common item)) in omega (arith, lines)
    by false = omega arith

  node_lines : (p : Phrase) (node : Node) (home : Bool) → is_in_unit ps p.around.home ≡ home
      → lines_of (rows_at ps vs p node) ≤ length (cells_at ps vs p node) + (if home then length (places_at ps vs p node) else 0) + counted_if (is_event ps p.around.home node)
  node_lines p (OfItem common item) true is =
      let rows = ap (λ b. lines_of (if b then rows_of_item ps vs p common item else [])) is in
      let event : counted_if (is_event ps p.around.home (OfItem common item)) ≡ counted_if (is_event_type (type_of common item)) =
      ap (λ b. counted_if (is_event_type (type_of common item) && b)) is ∙ ap counted_if (and_true (is_event_type (type_of common item))) in
      let lines = item_lines p common item (is_event_type (type_of common item)) refl in
      omega (arith, rows, event, lines)
  node_lines p (OfItem common item) false is = let rows = ap (λ b. lines_of (if b then rows_of_item ps vs p common item else [])) is in omega (arith, rows)
  node_lines p other home is = omega arith

  -- those of all
  all_lines : (qs : List Phrase) → lines_of (flat_map (λ (p : Phrase). rows_at ps vs p p.node) qs) ≤ (sum_by cells_count qs + sum_by places_count qs) + sum_by event_count qs
  all_lines [] = omega arith
  all_lines (q ∷ qs) =
      let lines = sum_by-append line_count (rows_at ps vs q q.node) (flat_map (λ (p : Phrase). rows_at ps vs p p.node) qs) in
      let here = node_lines q q.node (is_in_unit ps q.around.home) refl in
      let rest = all_lines qs in
      let cells = sum_by-cons cells_count q qs in
      let places = sum_by-cons places_count q qs in
      let events = sum_by-cons event_count q qs in
      omega (arith, lines, here, rest, cells, places, events)

  events_counted : (qs : List Phrase) → sum_by event_count qs ≡ length (filter_map (λ (p : Phrase). if is_event ps p.around.home p.node then Some p.number else None) qs)
  events_counted [] = refl
  events_counted (q ∷ qs) = by (is_event ps q.around.home q.node) (sum_by-cons event_count q qs) (events_counted qs) where
    by : (b : Bool) → sum_by event_count (q ∷ qs) ≡ counted_if b + sum_by event_count qs → sum_by event_count qs ≡ length (filter_map (λ (p : Phrase). if is_event ps p.around.home p.node then Some p.number else None) qs)
        → sum_by event_count (q ∷ qs) ≡ length (cons_option (if b then Some q.number else None) (filter_map (λ (p : Phrase). if is_event ps p.around.home p.node then Some p.number else None) qs))
    by true sum rest = omega (arith, sum, rest)
    by false sum rest = omega (arith, sum, rest)

  -- own places are counted in their units
  abbrev in_list : List Phrase → ℕ → List Place
  in_list qs q = flat_map (λ (p : Phrase). if p.around.home == q then places_at ps vs p p.node else []) qs

  one_long : (q : Phrase) (qs : List Phrase) (unit : ℕ) → length (in_list (q ∷ qs) unit) ≡ added_at q.around.home (length (places_at ps vs q q.node)) unit + length (in_list qs unit)
  one_long q qs unit = length-append (if q.around.home == unit then places_at ps vs q q.node else []) (in_list qs unit) ∙ ap (λ n. n + length (in_list qs unit)) (by (q.around.home == unit)) where
    by : (b : Bool) → length (if b then places_at ps vs q q.node else []) ≡ (if b then length (places_at ps vs q q.node) else 0)
    by true = refl
    by false = refl

  places_counted : IsCounted ps → (qs : List Phrase) → sum_by places_count qs ≤ sum_by (λ q. length (in_list qs q)) (unit_numbers ps)
  places_counted counted [] = omega arith
  places_counted counted (q ∷ qs) =
      let sum = sum_by-cons places_count q qs in
      let rest = places_counted counted qs in
      let each = sum_same (λ unit. length (in_list (q ∷ qs) unit)) (λ unit. added_at q.around.home (length (places_at ps vs q q.node)) unit + length (in_list qs unit)) (unit_numbers ps) (one_long q qs) in
      let both = sum_two (added_at q.around.home (length (places_at ps vs q q.node))) (λ unit. length (in_list qs unit)) (unit_numbers ps) in
      let here = by (is_in_unit ps q.around.home) refl in
      omega (arith, sum, rest, each, both, here)
    where
      by : (b : Bool) → is_in_unit ps q.around.home ≡ b → (if b then length (places_at ps vs q q.node) else 0) ≤ sum_by (added_at q.around.home (length (places_at ps vs q q.node))) (unit_numbers ps)
      by true is = counted_among q.around.home (length (places_at ps vs q q.node)) (unit_numbers ps) (home_among ps counted q.around.home is)
      by false is = omega arith

  in_units : 0 < length (processes_of ps) → sum_by (λ q. length (places_in ps vs q)) (unit_numbers ps)
      ≤ sum_by (λ q. if is_reentrant_at ps q then length (processes_of ps) * length (places_in ps vs q) else length (places_in ps vs q)) (unit_numbers ps)
  in_units some =
      sum_less (λ q. length (places_in ps vs q)) (λ q. if is_reentrant_at ps q then length (processes_of ps) * length (places_in ps vs q) else length (places_in ps vs q)) (unit_numbers ps)
      (λ q. by (is_reentrant_at ps q) (length (processes_of ps)) (length (places_in ps vs q)) some)
    where
      by : (b : Bool) (n m : ℕ) → 0 < n → m ≤ (if b then n * m else m)
      by false n m low = omega arith
      by true zero m low = absurd (omega (arith, low))
      by true (suc n) m low = let more = suc-mul n m in omega (arith, more)

  pub few_lines : IsCounted ps → 0 < length (processes_of ps) → lines_of (rows_of ps vs) ≤ cell_count ps vs + length (declared_events ps)
  few_lines counted some =
      let lines = all_lines ps in
      let events = events_counted ps in
      let places = places_counted counted ps in
      let more = in_units some in
      omega (arith, lines, events, places, more)
