-- Elements that a subscript chooses of an array, and those behind them, are elements of the same array.
use Rattle.std.specs.Prelude.{◌≡◌, ◌≤◌, ◌<◌, ◌⊎◌, ◌+◌, ◌*◌, ℕ, zero, suc, min, map, List, [], ◌∷◌, Option, Some, None, slice_get, unwrap_or}
use Rattle.std.proofs.Common.{refl, sym, ap, subst, ◌∙◌, inl, inr, arith}
use Rattle.std.proofs.lemmas.Nat.{mul-le}
use Rattle.std.proofs.lemmas.List.{map-append}
use Rattle.hal_base.specs.declared.refusal.Place.{Place}
use Rattle.hal_grammar.specs.Expressions.{ByParts, Subscripts, NoSubscripts, MoreSubscripts, Sub, Every, Range, Portion, One as OnePlace}
use Rattle.hal_scope.specs.Rules.{IsAmong}
use Rattle.hal_code.specs.Memory.{offsets}
use Rattle.hal_meaning.specs.Elements.{product, copy_size, kinds_of, chosen, offset}
use Rattle.hal_meaning.specs.Expressions.{copies_of}
use Rattle.hal_meaning.specs.Variables.{dimension, dimensions_of, kind_of_first}
use Rattle.hal_agreement.specs.PlacedExpressions.{single_dimensions}
use Rattle.hal_agreement.specs.Sites.{Site}
use Rattle.hal_gen_expr.specs.Led.{Led, array_list, rows_left, skips_led, sizes_led}
use Rattle.hal_gen_expr.specs.Numbering.{most, row_of}
use Rattle.hal_gen_expr.specs.Spans.{places_skipped, elements_behind, skips}
use Rattle.hal_fit_calls.specs.Each.{Each}
use Rattle.hal_right_images.proofs.rows.Filled.{IsSome}
use Rattle.hal_right_images.proofs.rows.Formed.{IsFormed}
use Rattle.hal_right_images.specs.views.Left.{LeadSomewhere}
use Rattle.hal_right_images.proofs.views.Choosing.{InCopy, at_copy, chosen_place, in_copies, no_single, no_skips, one_copy, only_first, sizes_some, step_low}
use Rattle.hal_right_images.specs.areas.Blocks.{Leave, Follow}

-- places of a dimension, in steps
behind_is : (stride : ℕ) (o : Option ℕ) → elements_behind stride o ≡ unwrap_or o 0 * stride
behind_is stride None = let nothing : 0 * stride ≡ 0 = omega arith in sym nothing
behind_is stride (Some places) = refl

sum_times : (a b c : ℕ) → (a + b) * c ≡ a * c + b * c
sum_times zero b c =
    let same : 0 + b ≡ b = omega arith in
    let all = ap (λ m. m * c) same in
    let nothing : 0 * c ≡ 0 = omega arith in
    omega (arith, all, nothing)
sum_times (suc a) b c =
    let rest = sum_times a b c in
    let same : suc a + b ≡ suc (a + b) = omega arith in
    let all = ap (λ m. m * c) same in
    let one : suc (a + b) * c ≡ c + (a + b) * c = omega arith in
    let other : suc a * c ≡ c + a * c = omega arith in
    omega (arith, rest, all, one, other)

-- a whole array follows itself
pub full_follows : (ns : List ℕ) → Follow ns ns
full_follows [] = tt
full_follows (n ∷ ns) = inl refl

-- where there are no subscripts an array is whole
pub whole_left : (site : Site) (ns lens : List ℕ) → Leave site ns NoSubscripts lens → lens ≡ ns
whole_left site [] [] leave = refl
whole_left site [] (len ∷ lens) leave = absurd leave
whole_left site (n ∷ ns) [] leave = absurd leave
whole_left site (n ∷ ns) (len ∷ lens) leave =
    let first = leave.0 in
    let rest = whole_left site ns lens leave.1 in
    ap (λ m. m ∷ lens) first ∙ ap (λ ms. n ∷ ms) rest

-- several places that are all of a dimension have none before them
none_before : (n stride : ℕ) (o : Option ℕ) → unwrap_or o 0 + n ≤ n → elements_behind stride o ≡ 0
none_before n stride o low =
    let none : unwrap_or o 0 ≡ 0 = omega (arith, low) in
    let nothing = ap (λ m. m * stride) none in
    let is = behind_is stride o in
    let zero_times : 0 * stride ≡ 0 = omega arith in
    omega (arith, is, nothing, zero_times)

-- nothing is skipped where all of an array is chosen
none_skipped : (site : Site) (ns : List ℕ) → Each IsSome ns → (xs : Subscripts) (o : ℕ) → Leave site ns xs ns → IsAmong o (offsets (map row_of (single_dimensions (dimensions_of ns) xs))) → skips site xs (dimensions_of ns) + o ≡ 0
none_skipped site [] some xs o leave is =
    let none = only_first o (subst (λ ds. IsAmong o (offsets (map row_of ds))) (no_single xs) is) in
    let nothing = no_skips site xs in
    omega (arith, none, nothing)
none_skipped site (n ∷ ns) some NoSubscripts o leave is = let none = only_first o is in omega (arith, none)
none_skipped site (n ∷ ns) some (MoreSubscripts (OnePlace one) others) o leave is =
    let at = chosen_place (row_of (dimension n (product ns))) (map row_of (single_dimensions (dimensions_of ns) others)) o is in
    let rest = none_skipped site ns some.1 others at.rest leave.1 at.among in
    let single = leave.0 in
    let low = at.low in
    let first : at.place ≡ 0 = omega (arith, low, single) in
    let stride = min (product ns) most in
    let nothing = ap (λ m. m * stride) first in
    let zero_times : 0 * stride ≡ 0 = omega arith in
    let place = at.is in
    omega (arith, rest, nothing, zero_times, place)
none_skipped site (n ∷ ns) some (MoreSubscripts (Every there) others) o leave is =
    let first = none_before n (product ns) (places_skipped site n (Every there)) leave.0 in
    let rest = none_skipped site ns some.1 others o leave.1 is in
    omega (arith, first, rest)
none_skipped site (n ∷ ns) some (MoreSubscripts (Range from to) others) o leave is =
    let first = none_before n (product ns) (places_skipped site n (Range from to)) leave.0 in
    let rest = none_skipped site ns some.1 others o leave.1 is in
    omega (arith, first, rest)
none_skipped site (n ∷ ns) some (MoreSubscripts (Portion number from) others) o leave is =
    let first = none_before n (product ns) (places_skipped site n (Portion number from)) leave.0 in
    let rest = none_skipped site ns some.1 others o leave.1 is in
    omega (arith, first, rest)

-- one place of a dimension leaves what is left of those behind it
one_left : (len : ℕ) (lens : List ℕ) (j : ℕ) → len ≡ 1 → j < product (len ∷ lens) → j < product lens
one_left len lens j single low =
    let same = ap (λ m. m * product lens) single in
    let itself : 1 * product lens ≡ product lens = omega arith in
    omega (arith, low, same, itself)

single_follows : (ns lens : List ℕ) (len : ℕ) → (lens ≡ ns) ⊎ ((len ≡ 1) × Follow ns lens) → Follow ns lens
single_follows ns lens len (inl same) = subst (λ ms. Follow ns ms) (sym same) (full_follows ns)
single_follows ns lens len (inr one) = one.1

-- several places of a dimension, and some behind the first of them
several_left : (n stride len skipped rest j : ℕ) (o : Option ℕ) → unwrap_or o 0 + len ≤ n → skipped + rest ≡ 0 → j < len * stride → ((elements_behind stride o + skipped) + rest) + j < n * stride
several_left n stride len skipped rest j o low none less =
    let is = behind_is stride o in
    let all = sum_times (unwrap_or o 0) len stride in
    let room = mul-le (unwrap_or o 0 + len) stride n stride low (omega arith) in
    omega (arith, none, less, is, all, room)

place_left : (n stride len skipped rest j : ℕ) (o : Option ℕ) → unwrap_or o 0 + len ≤ n → len ≡ 1 → (skipped + rest) + j < stride → ((elements_behind stride o + skipped) + rest) + j < n * stride
place_left n stride len skipped rest j o low single less =
    let is = behind_is stride o in
    let all = step_low (unwrap_or o 0) stride ((skipped + rest) + j) n (omega (arith, low, single)) less in
    omega (arith, is, all)

many_left : (site : Site) (n : ℕ) (ns : List ℕ) (sub : Sub) (others : Subscripts) (len : ℕ) (lens : List ℕ) (o j : ℕ) → unwrap_or (places_skipped site n sub) 0 + len ≤ n
    → (lens ≡ ns) ⊎ ((len ≡ 1) × Follow ns lens) → (lens ≡ ns → skips site others (dimensions_of ns) + o ≡ 0) → ((k : ℕ) → k < product lens → Follow ns lens → (skips site others (dimensions_of ns) + o) + k < product ns)
    → j < product (len ∷ lens) → ((elements_behind (product ns) (places_skipped site n sub) + skips site others (dimensions_of ns)) + o) + j < n * product ns
many_left site n ns sub others len lens o j low (inl same) none rest less =
    let size = ap (λ ms. len * product ms) same in
    several_left n (product ns) len (skips site others (dimensions_of ns)) o j (places_skipped site n sub) low (none same) (omega (arith, less, size))
many_left site n ns sub others len lens o j low (inr one) none rest less =
    place_left n (product ns) len (skips site others (dimensions_of ns)) o j (places_skipped site n sub) low one.0 (rest j (one_left len lens j one.0 less) one.1)

-- the elements that subscripts choose, and those behind them that they leave, lie in the array
pub block_low : (site : Site) (ns : List ℕ) → Each IsSome ns → (xs : Subscripts) (lens : List ℕ) (o j : ℕ) → Leave site ns xs lens → Follow ns lens
    → IsAmong o (offsets (map row_of (single_dimensions (dimensions_of ns) xs))) → j < product lens → (skips site xs (dimensions_of ns) + o) + j < product ns
block_low site [] some xs [] o j leave follow is low =
    let none = only_first o (subst (λ ds. IsAmong o (offsets (map row_of ds))) (no_single xs) is) in
    let nothing = no_skips site xs in
    omega (arith, none, nothing, low)
block_low site [] some xs (len ∷ lens) o j leave follow is low = absurd leave
block_low site (n ∷ ns) some xs [] o j leave follow is low = absurd follow
block_low site (n ∷ ns) some NoSubscripts (len ∷ lens) o j leave follow is low =
    let none = only_first o is in
    let size = ap product (whole_left site (n ∷ ns) (len ∷ lens) leave) in
    omega (arith, none, size, low)
block_low site (n ∷ ns) some (MoreSubscripts (OnePlace one) others) (len ∷ lens) o j leave follow is low =
    let at = chosen_place (row_of (dimension n (product ns))) (map row_of (single_dimensions (dimensions_of ns) others)) o is in
    let rest = block_low site ns some.1 others lens at.rest j leave.1 (single_follows ns lens len follow) at.among (one_left len lens j leave.0 low) in
    let less = mul-le at.place (min (product ns) most) at.place (product ns) (omega arith) (omega arith) in
    let all = step_low at.place (product ns) ((skips site others (dimensions_of ns) + at.rest) + j) n at.low rest in
    let place = at.is in
    omega (arith, less, all, place)
block_low site (n ∷ ns) some (MoreSubscripts (Every there) others) (len ∷ lens) o j leave follow is low =
    many_left site n ns (Every there) others len lens o j leave.0 follow (λ same. none_skipped site ns some.1 others o (subst (λ ms. Leave site ns others ms) same leave.1) is)
    (λ k less follows. block_low site ns some.1 others lens o k leave.1 follows is less) low
block_low site (n ∷ ns) some (MoreSubscripts (Range from to) others) (len ∷ lens) o j leave follow is low =
    many_left site n ns (Range from to) others len lens o j leave.0 follow (λ same. none_skipped site ns some.1 others o (subst (λ ms. Leave site ns others ms) same leave.1) is)
    (λ k less follows. block_low site ns some.1 others lens o k leave.1 follows is less) low
block_low site (n ∷ ns) some (MoreSubscripts (Portion number from) others) (len ∷ lens) o j leave follow is low =
    many_left site n ns (Portion number from) others len lens o j leave.0 follow (λ same. none_skipped site ns some.1 others o (subst (λ ms. Leave site ns others ms) same leave.1) is)
    (λ k less follows. block_low site ns some.1 others lens o k leave.1 follows is less) low

module _ (site : Site) (l : Led) (formed : IsFormed l.shape) (some : LeadSomewhere (chosen l.path l.shape.components)) (few : copy_size l.shape.components ≤ most) where
  -- they have the kind of the array's elements
  pub block_there : (there : Place) (copies arrays components : Subscripts) (lens : List ℕ) (o j : ℕ) → Leave site (sizes_led l) (array_list arrays components) lens → Follow (sizes_led l) lens
      → IsAmong o (offsets (map row_of (rows_left (ByParts there copies arrays components) l))) → j < product lens
      → slice_get (kinds_of l.shape) (((skips_led site (ByParts there copies arrays components) l + offset l.path l.shape.components) + o) + j) ≡ Some (kind_of_first (chosen l.path l.shape.components))
  block_there there copies arrays components lens o j leave follow is low =
      let list = array_list arrays components in
      let rows = map row_of (single_dimensions (dimensions_of (sizes_led l)) list) in
      let size = copy_size l.shape.components in
      let skipped = skips site list (dimensions_of (sizes_led l)) in
      let before = skips site copies (copies_of l.shape) in
      let first = offset l.path l.shape.components in
      let one : InCopy l.shape.copies size (product (sizes_led l)) ((before + (skipped + j)) + o) =
      in_copies site size (product (sizes_led l)) (skipped + j) rows few
      (λ r among. let inside = block_low site (sizes_led l) (sizes_some site l formed some few) list lens r j leave follow among low in omega (arith, inside)) l.shape.copies formed.copies copies o
      (subst (λ ds. IsAmong o (offsets ds)) (map-append row_of (single_dimensions (copies_of l.shape) copies) (single_dimensions (dimensions_of (sizes_led l)) list)) is) in
      let same : ((before + (skipped + j)) + o) + first ≡ (((before + skipped) + first) + o) + j = omega arith in
      subst (λ m. slice_get (kinds_of l.shape) m ≡ Some (kind_of_first (chosen l.path l.shape.components))) same (at_copy site l formed some few ((before + (skipped + j)) + o) one)

  -- and so have those of the whole array
  pub whole_there : (j : ℕ) → j < product (sizes_led l) → slice_get (kinds_of l.shape) (offset l.path l.shape.components + j) ≡ Some (kind_of_first (chosen l.path l.shape.components))
  whole_there j low =
      let same : j + offset l.path l.shape.components ≡ offset l.path l.shape.components + j = omega arith in
      subst (λ m. slice_get (kinds_of l.shape) m ≡ Some (kind_of_first (chosen l.path l.shape.components))) same (at_copy site l formed some few j (one_copy site l formed some few j low))
