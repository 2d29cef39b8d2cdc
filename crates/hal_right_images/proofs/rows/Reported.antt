-- The names of the report are right in a linked image.
use Rattle.std.specs.Prelude.{◌≡◌, ◌<◌, ◌≤◌, ℕ, zero, suc, ◌+◌, ◌*◌, ◌==◌, nat_le, Bool, true, false, ◌&&◌, List, [], ◌∷◌, ◌++◌, length, map, flat_map, Option, Some, None, slice_get, unwrap_or, if◌then◌else◌}
use Rattle.std.specs.List.{list_all, position}
use Rattle.std.specs.Option.{option_or}
use Rattle.std.proofs.Common.{refl, sym, ap, subst, ◌∙◌, arith, length-append}
use Rattle.std.proofs.lemmas.Bool.{and_from, and_parts, le-leb}
use Rattle.std.proofs.lemmas.List.{length-map}
use Rattle.std.proofs.lemmas.List.Folds.{length-flat_map-take}
use Rattle.std.proofs.lemmas.List.Quantifiers.{position-Some}
use Rattle.std.proofs.lemmas.Option.{get_or_from_slice_get}
use Rattle.hal_grammar.specs.Declarations.{Automatic, Latched, Attribute, Declared}
use Rattle.hal_phrases.specs.Phrases.{Node, Phrase, OfItem}
use Rattle.hal_names.specs.Laws.{IsCounted}
use Rattle.hal_scope.specs.Sorts.{type_among, type_of}
use Rattle.hal_kinds.specs.Attributes.{has_mark}
use Rattle.hal_kinds.specs.Data.{is_event_type}
use Rattle.hal_constants.specs.Known.{Known}
use Rattle.hal_values.specs.declared.tables.ReportBase.{ReportBase}
use Rattle.hal_values.specs.declared.tables.ReportBase.TheVariants as base
use Rattle.hal_values.specs.declared.tables.ReportName.{ReportName}
use Rattle.hal_values.specs.declared.value.Kind.{Kind}
use Rattle.hal_values.specs.declared.value.Value.{Value}
use Rattle.hal_code.specs.declared.image.ImageParts.{ImageParts}
use Rattle.hal_code.specs.declared.row.OwnPlace.{OwnPlace}
use Rattle.hal_code.specs.Images.{row_count, places_of as image_places}
use Rattle.hal_code.specs.Memory.{are_data, kind_of_place}
use Rattle.hal_code.specs.Operands.{events_of}
use Rattle.hal_code.specs.Right.{elements_there, name_right}
use Rattle.hal_meaning.specs.Bodies.{processes_of, processes_reaching}
use Rattle.hal_meaning.specs.Elements.{kinds_of, shape_of}
use Rattle.hal_meaning.specs.Events.{declared_events, event_of, place_in}
use Rattle.hal_meaning.specs.InitialValues.{first_values}
use Rattle.hal_meaning.specs.Places.{Place, Storing, InCells, InPlaces, ByReference, Unstored, cells_at, cells_of_item, places_from, places_of_item, places_at, places_of, is_in_unit, is_sole, storing, unit_numbers}
use Rattle.hal_meaning.specs.ReportNames.{first_cell, first_place, joined, path_of, showing, rows_of_shape, rows_stored, rows_of_event, is_shown, rows_of_item, rows_at, rows_of}
use Rattle.hal_meaning.specs.Sets.{Set, cells_of}
use Rattle.hal_link.specs.Linking.{own_row}
use Rattle.hal_link.specs.Shapes.{Shapes}
use Rattle.hal_fit_calls.specs.Each.{Each}
use Rattle.hal_fit_layout.specs.Owned.{LiesIn}
use Rattle.hal_fit_layout.proofs.Laid.{kind_of_row}
use Rattle.hal_fit_layout.proofs.Memory.{first_behind}
use Rattle.hal_fit_layout.proofs.Owned.{lies_where_sole}
use Rattle.hal_fit_layout.proofs.Parameters.{first_long}
use Rattle.hal_right_images.proofs.rows.Calling.{placed}
use Rattle.hal_right_images.proofs.rows.Formed.{type_copies, type_sizes}
use Rattle.hal_right_images.proofs.rows.Lines.{cells_long, home_among, places_long}
use Rattle.hal_right_images.proofs.rows.Shown.{LiesAmong, row_right, shape_among}

-- a place that holds values
record HasData (places : List Place) (number : ℕ) : Type 0 where
  one : Place
  kind : Kind
  there : slice_get places number ≡ Some one
  is : one.kind ≡ Some kind

abbrev IsData : Place → Type 0
IsData one = (k : Kind) × (one.kind ≡ Some k)

member_data : (before owned behind : List Place) → Each IsData owned → (i : ℕ) → length before ≤ i → i < length before + length owned → HasData (before ++ (owned ++ behind)) i
member_data [] [] behind each i low high = absurd (omega (arith, high))
member_data [] (one ∷ owned) behind each zero low high = record { one = one; kind = each.0.0; there = refl; is = each.0.1 }
member_data [] (one ∷ owned) behind each (suc i) low high =
    let rest = member_data [] owned behind each.1 i (omega arith) (omega (arith, high)) in
    record { one = rest.one; kind = rest.kind; there = rest.there; is = rest.is }
member_data (x ∷ before) owned behind each zero low high = absurd (omega (arith, low))
member_data (x ∷ before) owned behind each (suc i) low high =
    let rest = member_data before owned behind each i (omega (arith, low)) (omega (arith, high)) in
    record { one = rest.one; kind = rest.kind; there = rest.there; is = rest.is }

mapped_get : (f : Place → OwnPlace) (places : List Place) (i : ℕ) (one : Place) → slice_get places i ≡ Some one → slice_get (map f places) i ≡ Some (f one)
mapped_get f [] i one is = absurd (cc)
mapped_get f (x ∷ places) zero one is = ap (λ (y : Place). Some (f y)) (let same : x ≡ one = cc in same)
mapped_get f (x ∷ places) (suc i) one is = mapped_get f places i one is

all_data : (s : Set) (shapes : Shapes) (places : List Place) (at size : ℕ) → ((i : ℕ) → at ≤ i → i < at + size → HasData places i) → at + size ≤ length places → are_data (map (own_row s shapes) places) at size ≡ true
all_data s shapes places at zero has low =
    let long = length-map places (own_row s shapes) in
    le-leb at (length (map (own_row s shapes) places)) (omega (arith, long, low))
all_data s shapes places at (suc size) has low =
    let one = has at (omega arith) (omega arith) in
    ap (λ (o : Option OwnPlace). elim o [ None ↦ false | Some x ↦ elim (kind_of_place x) [ None ↦ false | Some k ↦ are_data (map (own_row s shapes) places) (suc at) size ] ])
    (mapped_get (own_row s shapes) places at one.one one.there)
    ∙ (ap (λ (o : Option Kind). elim o [ None ↦ false | Some k ↦ are_data (map (own_row s shapes) places) (suc at) size ]) (kind_of_row s shapes one.one ∙ one.is)
    ∙ all_data s shapes places (suc at) size (λ i low high. has i (omega (arith, low)) (omega (arith, high))) (omega (arith, low)))

from_data : (owner : ℕ) (automatic : Bool) (ks : List Kind) (vs : List Value) → Each IsData (places_from owner automatic ks vs)
from_data owner automatic [] vs = tt
from_data owner automatic (k ∷ ks) [] = tt
from_data owner automatic (k ∷ ks) (v ∷ vs) = ((k, refl), from_data owner automatic ks vs)

-- the first place of data that lie there
lies_first : (places : List Place) (number : ℕ) (automatic : Bool) (ks : List Kind) (vs : List Value) → (lies : LiesIn places number (places_from number automatic ks vs)) → 0 < length (places_from number automatic ks vs)
    → first_place places number ≡ length lies.before
lies_first places number automatic [] vs lies some = absurd (omega (arith, some))
lies_first places number automatic (k ∷ ks) [] lies some = absurd (omega (arith, some))
lies_first places number automatic (k ∷ ks) (v ∷ vs) lies some =
    ap (λ l. first_place l number) lies.is
    ∙ first_behind lies.before (record { owner = number; kind = Some k; initial = v; automatic = automatic }) (places_from number automatic ks vs ++ lies.behind) lies.apart

within : {X : Type 0} (xs : List X) (k : ℕ) (x : X) → slice_get xs k ≡ Some x → k < length xs
within [] k x is = absurd (cc)
within (y ∷ xs) zero x is = omega arith
within (y ∷ xs) (suc k) x is = let rest = within xs k x is in omega (arith, rest)

member : {X : Type 0} (xs : List X) (k : ℕ) → k < length xs → (x : X) × (slice_get xs k ≡ Some x)
member [] k low = absurd (omega (arith, low))
member (x ∷ xs) zero low = (x, refl)
member (x ∷ xs) (suc k) low = member xs k (omega (arith, low))

-- the first number that passes a test
first_is : (test : ℕ → Bool) (ns : List ℕ) (k : ℕ) → position test ns ≡ Some k → (n : ℕ) × (slice_get ns k ≡ Some n) × (test n ≡ true)
first_is test ns k is =
    let found = position-Some test ns k 0 is in
    let one = member ns k found.0 in
    let passes = position-Some test ns k one.0 is in
    (one.0, one.1, ap test (sym (get_or_from_slice_get ns k one.0 one.0 one.1)) ∙ passes.1)

-- events have their numbers
place_low : (ks : List ℕ) (k n : ℕ) → place_in ks k ≡ Some n → n < length ks
place_low ks k n is = (position-Some (λ one. one == k) ks n 0 is).0

event_low : (ps : List Phrase) (k : ℕ) → 0 < length (processes_of ps) → unwrap_or (event_of ps k) 0 < length (processes_of ps) + length (declared_events ps)
event_low ps k some = by (place_in (processes_of ps) k) refl (place_in (declared_events ps) k) refl where
  by : (o : Option ℕ) → place_in (processes_of ps) k ≡ o → (e : Option ℕ) → place_in (declared_events ps) k ≡ e
      → unwrap_or (option_or o (elim e [ None ↦ None | Some n ↦ Some (length (processes_of ps) + n) ])) 0 < length (processes_of ps) + length (declared_events ps)
  by None none None nothing = omega (arith, some)
  by None none (Some n) is = let low = place_low (declared_events ps) k n is in omega (arith, low)
  by (Some p) is e other = let low = place_low (processes_of ps) k p is in omega (arith, low)

each_true : (test : ReportName → Bool) (names : List ReportName) → Each (λ (n : ReportName). test n ≡ true) names → list_all test names ≡ true
each_true test [] each = refl
each_true test (n ∷ names) each = and_from (test n) (list_all test names) each.0 (each_true test names each.1)

both_true : (test : ReportName → Bool) (xs ys : List ReportName) → list_all test xs ≡ true → list_all test ys ≡ true → list_all test (xs ++ ys) ≡ true
both_true test [] ys first second = second
both_true test (x ∷ xs) ys first second =
    and_from (test x) (list_all test (xs ++ ys)) (and_parts (test x) (list_all test xs) first).0 (both_true test xs ys (and_parts (test x) (list_all test xs) first).1 second)

-- where the places of processes are those of their set
module _ (s : Set) (counted : IsCounted s.phrases) (image : ImageParts) (shapes : Shapes) (cells : row_count image.cells ≡ length (cells_of s.phrases s.constants))
    (laid : (p k : ℕ) → slice_get (processes_of s.phrases) p ≡ Some k → image_places image p ≡ map (own_row s shapes) (places_of s.phrases s.constants k))
    (events : events_of image ≡ length (processes_of s.phrases) + length (declared_events s.phrases)) (some : 0 < length (processes_of s.phrases)) where
  abbrev ps : List Phrase
  ps = s.phrases

  abbrev vs : Known
  vs = s.constants

  among_right : (from : ReportBase) (first many : ℕ) (names : List ReportName) → Each (LiesAmong from first many) names
      → ((name : ReportName) → name.base ≡ from → (at size : ℕ) → first ≤ at → at + size ≤ first + many → 0 < size → elements_there image name at size ≡ true) → list_all (name_right image) names ≡ true
  among_right from first many [] each there = refl
  among_right from first many (name ∷ names) each there =
      and_from (name_right image name) (list_all (name_right image) names) (row_right image from first many name each.0 (there name each.0.its)) (among_right from first many names each.1 there)

  -- shared cells
  cells_within : (k : ℕ) (p : Phrase) → slice_get ps k ≡ Some p → first_cell ps vs p.number + length (cells_at ps vs p p.node) ≤ row_count image.cells
  cells_within k p there =
      let less = within ps k p there in
      let fits = length-flat_map-take (λ (q : Phrase). cells_at ps vs q q.node) ps k p less in
      let one = ap (λ (q : Phrase). length (cells_at ps vs q q.node)) (get_or_from_slice_get ps k p p there) in
      let number = ap (first_cell ps vs) (counted k p there) in
      omega (arith, fits, one, number, cells)

  shared_right : (k : ℕ) (p : Phrase) → slice_get ps k ≡ Some p → (common : List Attribute) (item : Declared) → p.node ≡ OfItem common item → (group : ℕ) → storing ps vs p (OfItem common item) ≡ InCells group → (name : List ℕ)
      → list_all (name_right image) (rows_of_shape name base.Shared (first_cell ps vs p.number) (shape_of ps vs p common item)) ≡ true
  shared_right k p there common item node group stored name =
      let attributes = item.attributes ++ common in
      let ks = kinds_of (shape_of ps vs p common item) in
      let whole = cells_within k p there in
      let at = ap (λ (n : Node). length (cells_at ps vs p n)) node in
      let of = ap (λ (way : Storing). length (cells_of_item ps vs p common item way)) stored in
      let long = cells_long group ks (first_values ps vs p attributes ks) (first_long ps vs p attributes ks) in
      among_right base.Shared (first_cell ps vs p.number) (length ks) (rows_of_shape name base.Shared (first_cell ps vs p.number) (shape_of ps vs p common item))
      (shape_among name base.Shared (first_cell ps vs p.number) (shape_of ps vs p common item) (type_copies ps vs p attributes (type_among attributes)) (type_sizes ps vs p attributes (type_among attributes)))
      (λ one its from size low high one_more.
      ap (λ (b : ReportBase). elim b [ base.Shared ↦ nat_le (from + size) (row_count image.cells) | base.Own q ↦ are_data (image_places image q) from size | base.Event ↦ nat_le (from + size) (events_of image) ]) its
      ∙ le-leb (from + size) (row_count image.cells) (omega (arith, whole, at, of, long, high)))

  -- own places of the process that shows them
  own_right : (k : ℕ) (p : Phrase) → slice_get ps k ≡ Some p → (common : List Attribute) (item : Declared) → p.node ≡ OfItem common item → storing ps vs p (OfItem common item) ≡ InPlaces → is_in_unit ps p.around.home ≡ true
      → (process : ℕ) → showing ps p.around.home ≡ Some process → (name : List ℕ)
      → list_all (name_right image) (rows_of_shape name (base.Own process) (first_place (places_of ps vs (unwrap_or (slice_get (processes_of ps) process) 0)) p.number) (shape_of ps vs p common item)) ≡ true
  own_right k p there common item node stored in_unit process shows name =
      let attributes = item.attributes ++ common in
      let ks = kinds_of (shape_of ps vs p common item) in
      let values = first_values ps vs p attributes ks in
      let automatic = has_mark Automatic attributes in
      let found = shown_at p.around.home process shows in
      let unit = placed (unit_numbers ps) p.around.home (home_among ps counted p.around.home in_unit) in
      let all : LiesIn (places_of ps vs found.0) k (places_at ps vs p p.node) = lies_where_sole ps vs counted p.around.home k p there refl found.0 unit.0 unit.1 found.2 in
      let lies : LiesIn (places_of ps vs found.0) p.number (places_from p.number automatic ks values) =
      subst (λ n. LiesIn (places_of ps vs found.0) n (places_from p.number automatic ks values)) (sym (counted k p there))
      (subst (λ (way : Storing). LiesIn (places_of ps vs found.0) k (places_of_item ps vs p common item way)) stored (subst (λ (n : Node). LiesIn (places_of ps vs found.0) k (places_at ps vs p n)) node all)) in
      let process_is = ap (λ (o : Option ℕ). places_of ps vs (unwrap_or o 0)) found.1 in
      let long = places_long p.number automatic ks values (first_long ps vs p attributes ks) in
      let size = length-append lies.before (places_from p.number automatic ks values ++ lies.behind) in
      let more = length-append (places_from p.number automatic ks values) lies.behind in
      let whole = ap (λ (l : List Place). length l) lies.is in
      let first = first_place (places_of ps vs (unwrap_or (slice_get (processes_of ps) process) 0)) p.number in
      among_right (base.Own process) first (length ks) (rows_of_shape name (base.Own process) first (shape_of ps vs p common item))
      (shape_among name (base.Own process) first (shape_of ps vs p common item) (type_copies ps vs p attributes (type_among attributes)) (type_sizes ps vs p attributes (type_among attributes)))
      (λ one its from count low high one_more.
      ap (λ (b : ReportBase). elim b [ base.Shared ↦ nat_le (from + count) (row_count image.cells) | base.Own q ↦ are_data (image_places image q) from count | base.Event ↦ nat_le (from + count) (events_of image) ]) its
      ∙ (ap (λ (l : List OwnPlace). are_data l from count) (laid process found.0 found.1)
      ∙ own_data found.0 first p.number automatic ks values lies (ap (λ (l : List Place). first_place l p.number) process_is) long from count low high one_more))
    where
      shown_at : (home process : ℕ) → showing ps home ≡ Some process → (one : ℕ) × (slice_get (processes_of ps) process ≡ Some one) × (is_sole (processes_of ps) one (processes_reaching ps home) ≡ true)
      shown_at home process shows = first_is (λ one. is_sole (processes_of ps) one (processes_reaching ps home)) (processes_of ps) process shows

      own_data : (process first number : ℕ) (automatic : Bool) (ks : List Kind) (values : List Value) (lies : LiesIn (places_of ps vs process) number (places_from number automatic ks values))
          → first ≡ first_place (places_of ps vs process) number → length (places_from number automatic ks values) ≡ length ks → (from count : ℕ) → first ≤ from → from + count ≤ first + length ks → 0 < count
          → are_data (map (own_row s shapes) (places_of ps vs process)) from count ≡ true
      own_data process first number automatic ks values lies first_is long from zero low high one_more = absurd (omega (arith, one_more))
      own_data process first number automatic ks values lies first_is long from (suc count) low high one_more =
          let at = lies_first (places_of ps vs process) number automatic ks values lies (omega (arith, long, low, high)) in
          let whole = ap (λ (l : List Place). length l) lies.is in
          let both = length-append lies.before (places_from number automatic ks values ++ lies.behind) in
          let more = length-append (places_from number automatic ks values) lies.behind in
          all_data s shapes (places_of ps vs process) from (suc count)
          (λ i above below.
          subst (λ (l : List Place). HasData l i) (sym lies.is)
          (member_data lies.before (places_from number automatic ks values) lies.behind (from_data number automatic ks values) i (omega (arith, above, low, first_is, at)) (omega (arith, below, high, first_is, at, long))))
          (omega (arith, high, first_is, at, whole, both, more, long))

  -- those of one declaration
  stored_right : (k : ℕ) (p : Phrase) → slice_get ps k ≡ Some p → (common : List Attribute) (item : Declared) → p.node ≡ OfItem common item → is_in_unit ps p.around.home ≡ true → (stored : Storing)
      → storing ps vs p (OfItem common item) ≡ stored → (name : List ℕ) → list_all (name_right image) (rows_stored ps vs p name (shape_of ps vs p common item) stored) ≡ true
  stored_right k p there common item node in_unit (InCells group) stored name = shared_right k p there common item node group stored name
  stored_right k p there common item node in_unit InPlaces stored name = by (showing ps p.around.home) refl where
    by : (o : Option ℕ) → showing ps p.around.home ≡ o → list_all (name_right image) (elim o [
      | None ↦ []
      | Some process ↦ rows_of_shape name (base.Own process) (first_place (places_of ps vs (unwrap_or (slice_get (processes_of ps) process) 0)) p.number) (shape_of ps vs p common item)
    ]) ≡ true
    by None shows = refl
    by (Some process) shows = own_right k p there common item node stored in_unit process shows name
  stored_right k p there common item node in_unit ByReference stored name = refl
  stored_right k p there common item node in_unit Unstored stored name = refl

  event_right : (p : Phrase) (name : List ℕ) (latched : Bool) → list_all (name_right image) (rows_of_event ps p name latched) ≡ true
  event_right p name false = refl
  event_right p name true =
      let low = event_low ps p.number some in
      let there : nat_le (unwrap_or (event_of ps p.number) 0 + 0 * 0 + 1) (events_of image) ≡ true = le-leb (unwrap_or (event_of ps p.number) 0 + 0 * 0 + 1) (events_of image) (omega (arith, low, events)) in
      and_from (nat_le (unwrap_or (event_of ps p.number) 0 + 0 * 0 + 1) (events_of image) && true) true (and_from (nat_le (unwrap_or (event_of ps p.number) 0 + 0 * 0 + 1) (events_of image)) true there refl) refl

  item_right : (k : ℕ) (p : Phrase) → slice_get ps k ≡ Some p → (common : List Attribute) (item : Declared) → p.node ≡ OfItem common item → is_in_unit ps p.around.home ≡ true
      → list_all (name_right image) (rows_of_item ps vs p common item) ≡ true
  item_right k p there common item node in_unit = by (is_event_type (type_of common item)) (is_shown ps p common item) where
    by : (event shown : Bool) → list_all (name_right image) (if event then rows_of_event ps p (joined (path_of ps p.around.home) item.name.name) (has_mark Latched (item.attributes ++ common))
        else if shown then rows_stored ps vs p (joined (path_of ps p.around.home) item.name.name) (shape_of ps vs p common item) (storing ps vs p (OfItem common item)) else []) ≡ true
    by true shown = event_right p (joined (path_of ps p.around.home) item.name.name) (has_mark Latched (item.attributes ++ common))
    by false true = stored_right k p there common item node in_unit (storing ps vs p (OfItem common item)) refl (joined (path_of ps p.around.home) item.name.name)
    by false false = refl

  node_right : (k : ℕ) (p : Phrase) → slice_get ps k ≡ Some p → (node : Node) → p.node ≡ node → list_all (name_right image) (rows_at ps vs p node) ≡ true
  node_right k p there (OfItem common item) node = by (is_in_unit ps p.around.home) refl where
    by : (b : Bool) → is_in_unit ps p.around.home ≡ b → list_all (name_right image) (if b then rows_of_item ps vs p common item else []) ≡ true
    by true is = item_right k p there common item node is
    by false is = refl
  node_right k p there other node = refl

  phrases_right : (qs : List Phrase) (first : ℕ) → ((n : ℕ) (q : Phrase) → slice_get qs n ≡ Some q → slice_get ps (first + n) ≡ Some q) → list_all (name_right image) (flat_map (λ (p : Phrase). rows_at ps vs p p.node) qs) ≡ true
  phrases_right [] first there = refl
  phrases_right (q ∷ qs) first there =
      both_true (name_right image) (rows_at ps vs q q.node) (flat_map (λ (p : Phrase). rows_at ps vs p p.node) qs) (node_right (first + 0) q (there zero q refl) q.node refl)
      (phrases_right qs (first + 1) (λ n one is. let same : first + suc n ≡ (first + 1) + n = omega arith in subst (λ m. slice_get ps m ≡ Some one) same (there (suc n) one is)))

  -- those of a set
  pub rows_right : list_all (name_right image) (rows_of ps vs) ≡ true
  rows_right = phrases_right ps 0 (λ n q is. let same : n ≡ 0 + n = omega arith in subst (λ m. slice_get ps m ≡ Some q) same is)
