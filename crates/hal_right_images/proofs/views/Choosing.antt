-- The elements among which a subscript chooses are elements of the data.
use Rattle.std.specs.Prelude.{◌≡◌, ◌≤◌, ◌<◌, ◌⊎◌, ◌+◌, ◌*◌, ◌&&◌, ℕ, zero, suc, min, map, flat_map, replicate, length, ℤ, Bool, true, false, List, [], ◌∷◌, ◌++◌, Option, Some, None, slice_get, unwrap_or, if◌then◌else◌}
use Rattle.std.specs.List.{range_with_len}
use Rattle.std.specs.Option.{option_and_then}
use Rattle.std.proofs.Common.{refl, sym, ap, subst, ◌∙◌, inl, inr, arith, cond}
use Rattle.std.proofs.lemmas.Int.{ints}
use Rattle.std.proofs.lemmas.List.{length-append, length-replicate, map-append}
use Rattle.std.proofs.lemmas.Nat.{mul-add-lt, mul-le}
use Rattle.std.proofs.Math.Nat.{mul_comm}
use Rattle.hal_code.specs.declared.row.Dimension.{Dimension as Row}
use Rattle.hal_grammar.specs.Leaves.{Naming}
use Rattle.hal_grammar.specs.Expressions.{Subscript, Unsubscripted, ByName, ByInteger, ByParts, Subscripts, NoSubscripts, MoreSubscripts, Sub, Every, Range, Portion, One as OnePlace}
use Rattle.hal_scope.specs.Rules.{IsAmong}
use Rattle.hal_values.specs.declared.value.Kind.{Kind}
use Rattle.hal_code.specs.Memory.{offsets}
use Rattle.hal_states.specs.Numbers.{before_nearest, is_inside}
use Rattle.hal_meaning.specs.Elements.{Component, product, count, copy_size, times, kinds_of_component, kinds_of, before, chosen, offset, leads}
use Rattle.hal_meaning.specs.Expressions.{copies_of}
use Rattle.hal_meaning.specs.Variables.{Dimension, dimension, dimensions_of, kind_of_first, sizes_of_first}
use Rattle.hal_agreement.specs.PlacedExpressions.{single_dimensions}
use Rattle.hal_agreement.specs.Sites.{Site}
use Rattle.hal_gen_expr.specs.declared.spans.Span.{Span}
use Rattle.hal_gen_expr.specs.Led.{Led, array_list, rows_left, skips_led, sizes_led}
use Rattle.hal_gen_expr.specs.Numbering.{most, row_of}
use Rattle.hal_gen_expr.specs.Spans.{span_of, places_before_span, places_skipped, elements_behind, skips}
use Rattle.hal_fit_calls.specs.Each.{Each}
use Rattle.hal_right_images.proofs.rows.Filled.{IsSome, product_some}
use Rattle.hal_right_images.proofs.rows.Formed.{HasSizes, AreCopies, IsFormed, each_kept, first_sizes}
use Rattle.hal_right_images.proofs.rows.Lines.{counted_first}
use Rattle.hal_right_images.proofs.rows.Lying.{get_behind, get_first}
use Rattle.hal_right_images.specs.views.Left.{LeadSomewhere}

same_at : (n k : ℕ) (x : Kind) → k < n → slice_get (replicate n x) k ≡ Some x
same_at zero k x low = absurd (omega (arith, low))
same_at (suc n) zero x low = refl
same_at (suc n) (suc k) x low = same_at n k x (omega (arith, low))

-- an element of the first component to which names lead, in one copy
record IsWithin (path : List Naming) (cs : List Component) (i : ℕ) : Type 0 where
  there : slice_get (flat_map kinds_of_component cs) (copy_size (before path cs) + i) ≡ Some (kind_of_first (chosen path cs))
  low : copy_size (before path cs) + i < copy_size cs

within_copy : (path : List Naming) (cs : List Component) (i : ℕ) → LeadSomewhere (chosen path cs) → i < product (sizes_of_first (chosen path cs)) → IsWithin path cs i
within_copy path [] i some low = absurd some
within_copy path (c ∷ cs) i some low = by (leads path c.path) refl some low (within_copy path cs i) where
  size : copy_size (c ∷ cs) ≡ count c + copy_size cs
  size = counted_first c cs

  by : (b : Bool) → leads path c.path ≡ b → LeadSomewhere (cond b (c ∷ chosen path cs) (chosen path cs)) → i < product (sizes_of_first (cond b (c ∷ chosen path cs) (chosen path cs)))
      → (LeadSomewhere (chosen path cs) → i < product (sizes_of_first (chosen path cs)) → IsWithin path cs i) → IsWithin path (c ∷ cs) i
  by true led some_so less later =
      let none : before path (c ∷ cs) ≡ [] = ap (λ b. if b then [] else c ∷ before path cs) led in
      let is_c : chosen path (c ∷ cs) ≡ c ∷ chosen path cs = ap (λ b. cond b (c ∷ chosen path cs) (chosen path cs)) led in
      let nothing : copy_size (before path (c ∷ cs)) ≡ 0 = ap copy_size none in
      let here : copy_size (before path (c ∷ cs)) + i ≡ i = omega (arith, nothing) in
      record {
        there = ap (slice_get (flat_map kinds_of_component (c ∷ cs))) here
            ∙ (get_first (kinds_of_component c) (flat_map kinds_of_component cs) i c.kind (same_at (count c) i c.kind less) ∙ ap Some (sym (ap kind_of_first is_c)));
        low = (let all = size in omega (arith, nothing, all, less));
      }
  by false not_led some_so less later =
      let rest = later some_so less in
      let one_more : before path (c ∷ cs) ≡ c ∷ before path cs = ap (λ b. if b then [] else c ∷ before path cs) not_led in
      let is_rest : chosen path (c ∷ cs) ≡ chosen path cs = ap (λ b. cond b (c ∷ chosen path cs) (chosen path cs)) not_led in
      let sum : copy_size (before path (c ∷ cs)) ≡ count c + copy_size (before path cs) = ap copy_size one_more ∙ counted_first c (before path cs) in
      let long : length (kinds_of_component c) ≡ count c = length-replicate (count c) c.kind in
      let place : copy_size (before path (c ∷ cs)) + i ≡ length (kinds_of_component c) + (copy_size (before path cs) + i) = omega (arith, sum, long) in
      record {
        there = ap (slice_get (flat_map kinds_of_component (c ∷ cs))) place
            ∙ (get_behind (kinds_of_component c) (flat_map kinds_of_component cs) (copy_size (before path cs) + i) ∙ (rest.there ∙ ap (λ l. Some (kind_of_first l)) (sym is_rest)));
        low = (let all = size in let less_so = rest.low in omega (arith, sum, all, less_so));
      }

pub copy_long : (cs : List Component) → length (flat_map kinds_of_component cs) ≡ copy_size cs
copy_long [] = refl
copy_long (c ∷ cs) =
    let first = length-replicate (count c) c.kind in
    let rest = copy_long cs in
    let all = counted_first c cs in
    let both = length-append (kinds_of_component c) (flat_map kinds_of_component cs) in
    omega (arith, first, rest, all, both)

-- and in any copy
pub in_copy : {X : Type 0} (n j m : ℕ) (xs : List X) (x : X) → j < n → slice_get xs m ≡ Some x → slice_get (times n xs) (j * length xs + m) ≡ Some x
in_copy zero j m xs x low there = absurd (omega (arith, low))
in_copy (suc n) zero m xs x low there = let same : zero * length xs + m ≡ m = omega arith in ap (slice_get (xs ++ times n xs)) same ∙ get_first xs (times n xs) m x there
in_copy (suc n) (suc j) m xs x low there =
    let same : suc j * length xs + m ≡ length xs + (j * length xs + m) = omega arith in
    ap (slice_get (xs ++ times n xs)) same ∙ (get_behind xs (times n xs) (j * length xs + m) ∙ in_copy n j m xs x (omega (arith, low)) there)

-- one of the places of dimensions
among_either : {X : Type 0} (x : X) (xs ys : List X) → IsAmong x (xs ++ ys) → IsAmong x xs ⊎ IsAmong x ys
among_either x [] ys is = inr is
among_either x (y ∷ xs) ys (inl same) = inl (inl same)
among_either x (y ∷ xs) ys (inr later) = by (among_either x xs ys later) where
  by : IsAmong x xs ⊎ IsAmong x ys → IsAmong x (y ∷ xs) ⊎ IsAmong x ys
  by (inl first) = inl (inr first)
  by (inr second) = inr second

record IsMapped (f : ℕ → ℕ) (ns : List ℕ) (o : ℕ) : Type 0 where
  member : ℕ
  among : IsAmong member ns
  is : o ≡ f member

mapped_among : (f : ℕ → ℕ) (ns : List ℕ) (o : ℕ) → IsAmong o (map f ns) → IsMapped f ns o
mapped_among f [] o is = absurd is
mapped_among f (n ∷ ns) o (inl same) = record { member = n; among = inl refl; is = same }
mapped_among f (n ∷ ns) o (inr later) = let rest = mapped_among f ns o later in record { member = rest.member; among = inr rest.among; is = rest.is }

-- the places of a dimension and of those behind it
pub record IsChosen (d : Row) (ds : List Row) (o : ℕ) : Type 0 where
  pub place : ℕ
  pub low : place < d.size
  pub rest : ℕ
  pub among : IsAmong rest (offsets ds)
  pub is : o ≡ place * d.stride + rest

chosen_from : (d : Row) (ds : List Row) (from n o : ℕ) → IsAmong o (flat_map (λ i. map (λ r. i * d.stride + r) (offsets ds)) (range_with_len from n)) → from + n ≤ d.size → IsChosen d ds o
chosen_from d ds from zero o is low = absurd is
chosen_from d ds from (suc n) o is low =
    by (among_either o (map (λ r. from * d.stride + r) (offsets ds)) (flat_map (λ i. map (λ r. i * d.stride + r) (offsets ds)) (range_with_len (from + 1) n)) is)
    (λ later. chosen_from d ds (from + 1) n o later (omega (arith, low)))
  where
    by : IsAmong o (map (λ r. from * d.stride + r) (offsets ds)) ⊎ IsAmong o (flat_map (λ i. map (λ r. i * d.stride + r) (offsets ds)) (range_with_len (from + 1) n))
        → (IsAmong o (flat_map (λ i. map (λ r. i * d.stride + r) (offsets ds)) (range_with_len (from + 1) n)) → IsChosen d ds o) → IsChosen d ds o
    by (inl first) rest = let one = mapped_among (λ r. from * d.stride + r) (offsets ds) o first in record { place = from; low = omega (arith, low); rest = one.member; among = one.among; is = one.is }
    by (inr later) rest = rest later

pub chosen_place : (d : Row) (ds : List Row) (o : ℕ) → IsAmong o (offsets (d ∷ ds)) → IsChosen d ds o
chosen_place d ds o is = chosen_from d ds 0 d.size o is (omega arith)

pub only_first : (o : ℕ) → IsAmong o (offsets []) → o ≡ 0
only_first o (inl is) = is
only_first o (inr none) = absurd none

-- several places of a dimension begin at one of its places
pub record IsPlace (n stride skipped : ℕ) : Type 0 where
  pub place : ℕ
  pub low : place < n
  pub is : skipped ≡ place * stride

nearest_low : (size : ℕ) (place : ℤ) → 1 ≤ size → before_nearest size place < size
nearest_low size place some = grind (arith, ints)

first_place_is : (n stride : ℕ) → 0 < n → IsPlace n stride 0
first_place_is n stride some = record { place = 0; low = some; is = omega arith }

pub skipped_is : (site : Site) (n stride : ℕ) (sub : Sub) → 0 < n → IsPlace n stride (elements_behind stride (places_skipped site n sub))
skipped_is site n stride sub some = by (span_of site n sub) where
  with_span : (span : Span) (b : Bool) → IsPlace n stride (elements_behind stride (if b then Some (before_nearest n span.first) else None))
  with_span span true = record { place = before_nearest n span.first; low = nearest_low n span.first some; is = refl }
  with_span span false = first_place_is n stride some

  by : (o : Option Span) → IsPlace n stride (elements_behind stride (option_and_then (places_before_span n) o))
  by None = first_place_is n stride some
  by (Some span) = with_span span (is_inside n span.first && is_inside n span.last)

-- a place of a dimension, and fewer elements than it has in steps
pub step_low : (place stride rest n : ℕ) → place < n → rest < stride → place * stride + rest < n * stride
step_low place stride rest n low less = let all = mul-add-lt place stride rest n low less in let turned : stride * n ≡ n * stride = mul_comm stride n in omega (arith, all, turned)

pub no_single : (list : Subscripts) → single_dimensions [] list ≡ []
no_single NoSubscripts = refl
no_single (MoreSubscripts first others) = refl

pub no_skips : (site : Site) (list : Subscripts) → skips site list [] ≡ 0
no_skips site NoSubscripts = refl
no_skips site (MoreSubscripts first others) = refl

-- several places of an array's dimension, and what lies behind them
several_low : (site : Site) (n : ℕ) (ns : List ℕ) (sub : Sub) (others : Subscripts) (o : ℕ) → 0 < product ns → 0 < n → skips site others (dimensions_of ns) + o < product ns
    → (elements_behind (product ns) (places_skipped site n sub) + skips site others (dimensions_of ns)) + o < n * product ns
several_low site n ns sub others o some_rest some low =
    let at = skipped_is site n (product ns) sub some in
    let place = at.is in
    let all = step_low at.place (product ns) (skips site others (dimensions_of ns) + o) n at.low low in
    omega (arith, place, all)

-- what subscripts of an array choose lies in it
array_low : (site : Site) (sizes : List ℕ) → Each IsSome sizes → (xs : Subscripts) (o : ℕ) → IsAmong o (offsets (map row_of (single_dimensions (dimensions_of sizes) xs))) → skips site xs (dimensions_of sizes) + o < product sizes
array_low site [] some xs o is =
    let none = only_first o (subst (λ ds. IsAmong o (offsets (map row_of ds))) (no_single xs) is) in
    let nothing = no_skips site xs in
    omega (arith, none, nothing)
array_low site (n ∷ ns) some NoSubscripts o is = let none = only_first o is in let all = product_some (n ∷ ns) some in omega (arith, none, all)
array_low site (n ∷ ns) some (MoreSubscripts (OnePlace one) others) o is =
    let at = chosen_place (row_of (dimension n (product ns))) (map row_of (single_dimensions (dimensions_of ns) others)) o is in
    let rest = array_low site ns some.1 others at.rest at.among in
    let less = mul-le at.place (min (product ns) most) at.place (product ns) (omega arith) (omega arith) in
    let all = step_low at.place (product ns) (skips site others (dimensions_of ns) + at.rest) n at.low rest in
    let place = at.is in
    omega (arith, less, all, place)
array_low site (n ∷ ns) some (MoreSubscripts (Every there) others) o is = several_low site n ns (Every there) others o (product_some ns some.1) some.0 (array_low site ns some.1 others o is)
array_low site (n ∷ ns) some (MoreSubscripts (Range first last) others) o is = several_low site n ns (Range first last) others o (product_some ns some.1) some.0 (array_low site ns some.1 others o is)
array_low site (n ∷ ns) some (MoreSubscripts (Portion number first) others) o is = several_low site n ns (Portion number first) others o (product_some ns some.1) some.0 (array_low site ns some.1 others o is)

full_low : (sizes : List ℕ) → Each IsSome sizes → (o : ℕ) → IsAmong o (offsets (map row_of (dimensions_of sizes))) → o < product sizes
full_low [] some o is = let none = only_first o is in omega (arith, none)
full_low (n ∷ ns) some o is =
    let at = chosen_place (row_of (dimension n (product ns))) (map row_of (dimensions_of ns)) o is in
    let rest = full_low ns some.1 at.rest at.among in
    let less = mul-le at.place (min (product ns) most) at.place (product ns) (omega arith) (omega arith) in
    let all = step_low at.place (product ns) at.rest n at.low rest in
    let place = at.is in
    omega (arith, less, all, place)

-- the copy that a subscript chooses, and the element in it
abbrev pub copies_in : ℕ → Option ℕ → List Dimension
copies_in size copies = elim copies [ None ↦ [] | Some n ↦ dimension n size ∷ [] ]

pub record InCopy (copies : Option ℕ) (size bound place : ℕ) : Type 0 where
  pub copy : ℕ
  pub element : ℕ
  pub copy_low : copy < unwrap_or copies 1
  pub element_low : element < bound
  pub is : place ≡ copy * size + element

module _ (site : Site) (size bound skipped : ℕ) (rows : List Row) (few : size ≤ most) (low : (r : ℕ) → IsAmong r (offsets rows) → skipped + r < bound) where
  first_copy : (copies : Option ℕ) (before o : ℕ) → AreCopies copies → before ≡ 0 → IsAmong o (offsets rows) → InCopy copies size bound ((before + skipped) + o)
  first_copy copies before o some none is =
      record { copy = 0; element = skipped + o; copy_low = some_copy copies some; element_low = low o is; is = (let nothing : 0 * size ≡ 0 = omega arith in omega (arith, none, nothing)) } where
        some_copy : (c : Option ℕ) → AreCopies c → 0 < unwrap_or c 1
        some_copy None is_some = omega arith
        some_copy (Some n) is_some = is_some

  several_copies : (n : ℕ) (sub : Sub) (others : Subscripts) (o : ℕ) → 0 < n → IsAmong o (offsets rows) → InCopy (Some n) size bound (((elements_behind size (places_skipped site n sub) + skips site others []) + skipped) + o)
  several_copies n sub others o some is =
      let at = skipped_is site n size sub some in
      let place = at.is in
      let none = no_skips site others in
      record { copy = at.place; element = skipped + o; copy_low = at.low; element_low = low o is; is = omega (arith, place, none) }

  pub in_copies : (copies : Option ℕ) → AreCopies copies → (xs : Subscripts) (o : ℕ) → IsAmong o (offsets (map row_of (single_dimensions (copies_in size copies) xs) ++ rows))
      → InCopy copies size bound ((skips site xs (copies_in size copies) + skipped) + o)
  in_copies None some xs o is = first_copy None (skips site xs []) o some (no_skips site xs) (subst (λ ds. IsAmong o (offsets (map row_of ds ++ rows))) (no_single xs) is)
  in_copies (Some n) some NoSubscripts o is = first_copy (Some n) 0 o some refl is
  in_copies (Some n) some (MoreSubscripts (OnePlace one) others) o is =
      let here = subst (λ ds. IsAmong o (offsets (row_of (dimension n size) ∷ (map row_of ds ++ rows)))) (no_single others) is in
      let at = chosen_place (row_of (dimension n size)) rows o here in
      let place = at.is in
      let none = no_skips site others in
      let exact : min size most ≡ size = omega (arith, few) in
      let same : at.place * min size most ≡ at.place * size = ap (λ m. at.place * m) exact in
      record { copy = at.place; element = skipped + at.rest; copy_low = at.low; element_low = low at.rest at.among; is = omega (arith, place, none, same) }
  in_copies (Some n) some (MoreSubscripts (Every there) others) o is = several_copies n (Every there) others o some (subst (λ ds. IsAmong o (offsets (map row_of ds ++ rows))) (no_single others) is)
  in_copies (Some n) some (MoreSubscripts (Range first last) others) o is = several_copies n (Range first last) others o some (subst (λ ds. IsAmong o (offsets (map row_of ds ++ rows))) (no_single others) is)
  in_copies (Some n) some (MoreSubscripts (Portion number first) others) o is =
      several_copies n (Portion number first) others o some (subst (λ ds. IsAmong o (offsets (map row_of ds ++ rows))) (no_single others) is)

-- the elements among which a subscript chooses
module _ (site : Site) (l : Led) (formed : IsFormed l.shape) (some : LeadSomewhere (chosen l.path l.shape.components)) (few : copy_size l.shape.components ≤ most) where
  abbrev pub cs : List Component
  cs = l.shape.components

  abbrev pub first : ℕ
  first = offset l.path cs

  pub sizes_some : Each IsSome (sizes_led l)
  sizes_some = first_sizes (chosen l.path cs) (each_kept HasSizes (λ (c : Component). leads l.path c.path) cs formed.sizes)

  pub at_copy : (place : ℕ) → InCopy l.shape.copies (copy_size cs) (product (sizes_led l)) place → slice_get (kinds_of l.shape) (place + first) ≡ Some (kind_of_first (chosen l.path cs))
  at_copy place one =
      let within = within_copy l.path cs one.element some one.element_low in
      let long = copy_long cs in
      let there = in_copy (unwrap_or l.shape.copies 1) one.copy (first + one.element) (flat_map kinds_of_component cs) (kind_of_first (chosen l.path cs)) one.copy_low within.there in
      let is = one.is in
      let size = ap (λ m. one.copy * m) long in
      let same : one.copy * length (flat_map kinds_of_component cs) + (first + one.element) ≡ place + first = omega (arith, is, size) in
      subst (λ m. slice_get (kinds_of l.shape) m ≡ Some (kind_of_first (chosen l.path cs))) same there

  pub one_copy : (element : ℕ) → element < product (sizes_led l) → InCopy l.shape.copies (copy_size cs) (product (sizes_led l)) element
  one_copy element low = record { copy = 0; element = element; copy_low = copies_some l.shape.copies formed.copies; element_low = low; is = (let nothing : 0 * copy_size cs ≡ 0 = omega arith in omega (arith, nothing)) } where
    copies_some : (c : Option ℕ) → AreCopies c → 0 < unwrap_or c 1
    copies_some None is = omega arith
    copies_some (Some n) is = is

  placed : (x : Subscript) (o : ℕ) → IsAmong o (offsets (map row_of (rows_left x l))) → InCopy l.shape.copies (copy_size cs) (product (sizes_led l)) (skips_led site x l + o)
  placed Unsubscripted o is = let none = only_first o is in one_copy (0 + o) (let all = product_some (sizes_led l) sizes_some in omega (arith, none, all))
  placed (ByName there name) o is = one_copy (0 + o) (let low = full_low (sizes_led l) sizes_some o is in omega (arith, low))
  placed (ByInteger there mark m) o is = one_copy (0 + o) (let low = full_low (sizes_led l) sizes_some o is in omega (arith, low))
  placed (ByParts there copies arrays components) o is =
      let list = array_list arrays components in
      let rows = map row_of (single_dimensions (dimensions_of (sizes_led l)) list) in
      in_copies site (copy_size cs) (product (sizes_led l)) (skips site list (dimensions_of (sizes_led l))) rows few (λ r among. array_low site (sizes_led l) sizes_some list r among) l.shape.copies formed.copies copies o
      (subst (λ ds. IsAmong o (offsets ds)) (map-append row_of (single_dimensions (copies_of l.shape) copies) (single_dimensions (dimensions_of (sizes_led l)) list)) is)

  pub chosen_there : (x : Subscript) (o : ℕ) → IsAmong o (offsets (map row_of (rows_left x l))) → slice_get (kinds_of l.shape) ((skips_led site x l + first) + o) ≡ Some (kind_of_first (chosen l.path cs))
  chosen_there x o is =
      let same : (skips_led site x l + o) + first ≡ (skips_led site x l + first) + o = omega arith in
      subst (λ m. slice_get (kinds_of l.shape) m ≡ Some (kind_of_first (chosen l.path cs))) same (at_copy (skips_led site x l + o) (placed x o is))
