-- Where the parts below a part hold all cells of a copy, as the rules of shapes count them, nothing lies before or behind them.
use Rattle.std.specs.Prelude.{◌≡◌, ◌≤◌, ◌<◌, ◌+◌, ◌-◌, ◌*◌, ◌^◌, ℕ, suc, max, min, Bool, true, false, List, [], ◌∷◌, flat_map, length, Option, Some, None, slice_get, if◌then◌else◌}
use Rattle.std.specs.Option.{option_and_then}
use Rattle.std.proofs.Common.{refl, sym, ap, ◌∙◌, arith, length-append}
use Rattle.std.proofs.lemmas.Bool.{eqb-true, leb-true}
use Rattle.std.proofs.lemmas.List.{length-replicate}
use Rattle.std.proofs.lemmas.Nat.{mul-le}
use Rattle.std.proofs.lemmas.Option.{slice_get-get_or, slice_get_within}
use Rattle.hal_grammar.specs.Leaves.{Naming}
use Rattle.hal_grammar.specs.Declarations.{Part}
use Rattle.hal_phrases.specs.Phrases.{Phrase, OfStructure}
use Rattle.hal_names.specs.declared.key.Key.{Key}
use Rattle.hal_names.specs.Keys.{own}
use Rattle.hal_names.specs.Laws.{IsCounted, IsFirst, IsUndeclared}
use Rattle.hal_scope.specs.Rules.{IsSound, rows}
use Rattle.hal_attributes.specs.Levels.{misleveled}
use Rattle.hal_kinds.specs.Attributes.{sizes_among}
use Rattle.hal_values.specs.declared.value.Kind.{Kind}
use Rattle.hal_constants.specs.Known.{known}
use Rattle.hal_sizes.specs.declared.extent.Extent.{Extent}
use Rattle.hal_sizes.specs.Cells.{cells_with}
use Rattle.hal_sizes.specs.Counts.{add, times}
use Rattle.hal_sizes.specs.Parts.{bottoms}
use Rattle.hal_sizes.specs.Sizes.{places_in}
use Rattle.hal_shapes.specs.Shapes.{Under, all_parts, cells_under, fills, may_count, parts_reached, same_structures}
use Rattle.hal_types.specs.Rules.{type_rows}
use Rattle.hal_meaning.specs.Elements.{Component, before, component, components_at, copy_size, kinds_of_component, leads, offset, product, sizes_given}
use Rattle.hal_gen_expr.specs.Numbering.{most}
use Rattle.hal_fit_names.specs.Suited.{HasFitLiterals, AreDeclared}
use Rattle.hal_fit_parts.proofs.Standing.{AreStanding}
use Rattle.hal_right_images.proofs.rows.Filled.{sizes_some}
use Rattle.hal_right_images.proofs.rows.Lines.{counted_first}
use Rattle.hal_right_images.proofs.views.Choosing.{copy_long}
use Rattle.hal_right_images.specs.areas.Sized.{extent_with}
use Rattle.hal_right_images.proofs.areas.Ending.{IsEnd}
use Rattle.hal_right_images.proofs.areas.EndCells.{IsThere, all_cells, all_known, all_under, end_cells, part_there, same_cells}
use Rattle.hal_right_images.proofs.areas.SameParts.{AllKnown, cells_of, part_extent}
use Rattle.hal_right_images.proofs.areas.Spans.{places, places_are}

-- counts that stand at their greatest are greater than any that a copy has
most_low : most ≤ 2 ^ 128 - 1
most_low = leb-true most (2 ^ 128 - 1) refl

kept : (n m : ℕ) → n ≤ m → min n m ≡ n
kept n m low = omega (arith, low)

-- places of three dimensions, where they aren't too many
three_exact : (a b c : ℕ) → 1 ≤ a → a * (b * (c * 1)) ≤ 2 ^ 128 - 1 → times a (times b c) ≡ a * (b * (c * 1))
three_exact a b c some low =
    let one : c * 1 ≡ c = omega arith in
    let inner : b * (c * 1) ≡ b * c = ap (λ m. b * m) one in
    let all : a * (b * (c * 1)) ≡ a * (b * c) = ap (λ m. a * m) inner in
    let grown = mul-le 1 (b * c) a (b * c) some (omega arith) in
    let itself : 1 * (b * c) ≡ b * c = omega arith in
    let first : min (b * c) (2 ^ 128 - 1) ≡ b * c = kept (b * c) (2 ^ 128 - 1) (omega (arith, low, all, grown, itself)) in
    ap (λ m. times a m) first ∙ (kept (a * (b * c)) (2 ^ 128 - 1) (omega (arith, low, all)) ∙ sym all)

places_exact : (e : Extent) → places e ≤ 2 ^ 128 - 1 → places_in e ≡ places e
places_exact e low = three_exact (max 1 e.first) (max 1 e.second) (max 1 e.third) (omega arith) low

module _ (ps : List Phrase) (q : Phrase) where
  -- the cells of a list of parts are counted
  counted_cells : (xs : List Part) (total : ℕ) → AllKnown ps q xs → total + length (flat_map (cells_of ps q) xs) ≤ 2 ^ 128 - 1 → cells_with ps (known ps) q total xs ≡ Some (total + length (flat_map (cells_of ps q) xs))
  unfolding cells_with
  counted_cells [] total sized low = ap Some (omega arith)
  counted_cells (x ∷ xs) total sized low =
      let ns : List ℕ = sizes_given ps (known ps) q (sizes_among x.attributes) in
      let extent = part_extent ps q x sized.1.0 in
      let own : length (cells_of ps q x) ≡ product ns = length-replicate (product ns) (component ps (known ps) q [] x.attributes).kind in
      let all : length (flat_map (cells_of ps q) (x ∷ xs)) ≡ length (cells_of ps q x) + length (flat_map (cells_of ps q) xs) = length-append (cells_of ps q x) (flat_map (cells_of ps q) xs) in
      let size : places (extent_with ns) ≡ product ns = places_are ns (sizes_some ps (known ps) q (sizes_among x.attributes)) extent.1 in
      let exact : places_in (extent_with ns) ≡ product ns = places_exact (extent_with ns) (omega (arith, low, own, all, size)) ∙ size in
      let sum : add total (places_in (extent_with ns)) ≡ total + product ns = ap (add total) exact ∙ kept (total + product ns) (2 ^ 128 - 1) (omega (arith, low, own, all)) in
      ap (option_and_then (λ (e : Extent). cells_with ps (known ps) q (add total (places_in e)) xs)) extent.0
      ∙ (ap (λ m. cells_with ps (known ps) q m xs) sum ∙ (counted_cells xs (total + product ns) sized.1.1 (omega (arith, low, own, all)) ∙ ap Some (omega (arith, own, all))))

  under_counted : (level : ℕ) (xs : List Part) (o : Option Under) → o ≡ Some (level, xs) → AllKnown ps q (bottoms level xs) → length (flat_map (cells_of ps q) (bottoms level xs)) ≤ 2 ^ 128 - 1
      → cells_under ps (known ps) q o ≡ Some (length (flat_map (cells_of ps q) (bottoms level xs)))
  under_counted level xs o is sized low = ap (cells_under ps (known ps) q) is ∙ (counted_cells (bottoms level xs) 0 sized (omega (arith, low)) ∙ ap Some (omega arith))

-- elements stand behind so many others, in order
abbrev StandBehind : List Kind → ℕ → List Kind → Type 0
StandBehind xs o ys = (j : ℕ) (k : Kind) → slice_get xs j ≡ Some k → slice_get ys (o + j) ≡ Some k

-- the last one is inside
last_low : (x : Kind) (xs : List Kind) (o : ℕ) (ys : List Kind) → StandBehind (x ∷ xs) o ys → o + length xs < length ys
last_low x xs o ys there = slice_get_within ys (o + length xs) _ (there (length xs) _ (slice_get-get_or (x ∷ xs) (length xs) x (omega arith)))

-- so there are no more of them
no_more : (xs : List Kind) (o : ℕ) (ys : List Kind) → StandBehind xs o ys → length xs ≤ length ys
no_more [] o ys there = omega arith
no_more (x ∷ xs) o ys there = omega (arith, last_low x xs o ys there)

-- as many that stand at the beginning are all
same_all : (xs ys : List Kind) → length xs ≡ length ys → ((j : ℕ) (k : Kind) → slice_get xs j ≡ Some k → slice_get ys j ≡ Some k) → ys ≡ xs
same_all [] [] long there = refl
same_all [] (y ∷ ys) long there = absurd (omega (arith, long))
same_all (x ∷ xs) [] long there = absurd (omega (arith, long))
same_all (x ∷ xs) (y ∷ ys) long there =
    let here = there 0 x refl in
    let first : y ≡ x = cc in
    ap (λ z. z ∷ ys) first ∙ ap (λ zs. x ∷ zs) (same_all xs ys (omega (arith, long)) (λ j k at. there (suc j) k at))

-- and as many have none before them
none_behind : (xs : List Kind) (o : ℕ) (ys : List Kind) → StandBehind xs o ys → length xs ≡ length ys → o ≤ length ys → (o ≡ 0) × (ys ≡ xs)
none_behind xs o ys there long low =
    let none = first xs o ys there long low in
    (none, same_all xs ys long (λ j k at. let same : o + j ≡ j = omega (arith, none) in ap (slice_get ys) (sym same) ∙ there j k at))
  where
    first : (zs : List Kind) (m : ℕ) (ws : List Kind) → StandBehind zs m ws → length zs ≡ length ws → m ≤ length ws → m ≡ 0
    first [] m ws so equal less = omega (arith, equal, less)
    first (z ∷ zs) m ws so equal less = omega (arith, equal, last_low z zs m ws so)

-- no more cells lie before those of a part than a copy has
before_low : (path : List Naming) (cs : List Component) → copy_size (before path cs) ≤ copy_size cs
before_low path [] = omega arith
before_low path (c ∷ cs) = by (leads path c.path) (before_low path cs) where
  by : (b : Bool) → copy_size (before path cs) ≤ copy_size cs → copy_size (if b then [] else c ∷ before path cs) ≤ copy_size (c ∷ cs)
  by true low = omega arith
  by false low = let one = counted_first c (before path cs) in let all = counted_first c cs in omega (arith, low, one, all)

module _ (ps : List Phrase) (named : IsSound rows ps) (sound : IsSound type_rows ps) (counted : IsCounted ps) (declared : AreDeclared ps) (literals : HasFitLiterals ps)
    (first : (q : Key) (n : ℕ) → own ps q ≡ Some n → IsFirst ps q n) (lacking : (q : Key) → own ps q ≡ None → IsUndeclared ps q) (standing : AreStanding ps) where
  -- parts below a part that hold all cells of a copy have its cells, from the first one on
  pub filled : (m k : ℕ) (q r : Phrase) (name other : Naming) (parts ys : List Part) (part : Part) (n : Naming) (ns : List Naming) → slice_get ps m ≡ Some q → slice_get ps k ≡ Some r → q.node ≡ OfStructure name parts → r.node ≡ OfStructure other ys
      → misleveled q.node ≡ None → IsEnd ps m (n ∷ ns) part → same_structures ps (known ps) q (parts_reached q (n ∷ ns)) r (all_parts r) ≡ true → fills ps (known ps) q (n ∷ ns) ≡ true → copy_size (components_at ps (known ps) q q.node) ≤ most
      → (offset (n ∷ ns) (components_at ps (known ps) q q.node) ≡ 0) × (flat_map kinds_of_component (components_at ps (known ps) q q.node) ≡ flat_map kinds_of_component (components_at ps (known ps) r r.node))
  unfolding may_count
  filled m k q r name other parts ys part n ns there at is so levels ended same fills_it few =
      none_behind its (offset (n ∷ ns) cs) own_cells cells (sym long) (omega (arith, before_low (n ∷ ns) cs, copy_long cs))
    where
      cs : List Component
      cs = components_at ps (known ps) q q.node

      own_cells : List Kind
      own_cells = flat_map kinds_of_component cs

      its : List Kind
      its = flat_map kinds_of_component (components_at ps (known ps) r r.node)

      cells : StandBehind its (offset (n ∷ ns) cs) own_cells
      cells j cell here = end_cells ps named sound counted declared literals first lacking standing m k q r name other parts ys part n ns there at is so levels ended same j cell here

      it : IsThere ps q parts n ns part
      it = part_there ps named sound counted declared literals first lacking standing m q name parts part n ns there is levels ended

      below : flat_map (cells_of ps q) (bottoms part.level it.behind) ≡ its
      below = same_cells ps named sound counted declared literals first lacking standing k q r other parts ys part n ns at so it same

      all : flat_map (cells_of ps q) (bottoms 0 parts) ≡ own_cells
      all = all_cells ps named sound counted declared literals first lacking standing m q name parts there is

      low : length own_cells ≤ 2 ^ 128 - 1
      low = omega (arith, copy_long cs, few, most_low)

      part_count : cells_under ps (known ps) q (parts_reached q (n ∷ ns)) ≡ Some (length its)
      part_count = under_counted ps q part.level it.behind (parts_reached q (n ∷ ns)) it.under it.sized (omega (arith, ap length below, no_more its (offset (n ∷ ns) cs) own_cells cells, low)) ∙ ap (λ (ks : List Kind). Some (length ks)) below

      all_count : cells_under ps (known ps) q (all_parts q) ≡ Some (length own_cells)
      all_count =
          under_counted ps q 0 parts (all_parts q) (all_under ps named sound counted declared literals first lacking standing q name parts is) (all_known ps named sound counted declared literals first lacking standing m q name parts there is)
          (omega (arith, ap length all, low)) ∙ ap (λ (ks : List Kind). Some (length ks)) all

      long : length own_cells ≡ length its
      long =
          sym (eqb-true (length its) (length own_cells)
          (sym (ap (λ o. may_count o (cells_under ps (known ps) q (all_parts q))) part_count ∙ ap (may_count (Some (length its))) all_count) ∙ fills_it))
