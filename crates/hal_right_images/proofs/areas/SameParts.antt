-- Structures whose parts at the bottom are the same for the checks have the same cells in each copy.
use Rattle.std.specs.Prelude.{◌≡◌, ◌≤◌, ℕ, nat_le, Bool, true, false, List, [], ◌∷◌, ◌++◌, flat_map, replicate, Option, Some, None, slice_get, unwrap_or, if◌then◌else◌}
use Rattle.std.proofs.Common.{refl, sym, ap, ◌∙◌, arith}
use Rattle.std.proofs.lemmas.Bool.{and_parts, leb-true}
use Rattle.hal_grammar.specs.Leaves.{Naming}
use Rattle.hal_grammar.specs.Expressions.{Expressions}
use Rattle.hal_grammar.specs.Declarations.{Double, Part}
use Rattle.hal_phrases.specs.Phrases.{Node, Phrase, phrase, OfStructure}
use Rattle.hal_phrases.specs.GatheredDeclarations.{is_bottom}
use Rattle.hal_names.specs.declared.key.Key.{Key}
use Rattle.hal_names.specs.Keys.{own}
use Rattle.hal_names.specs.Laws.{IsCounted, IsFirst, IsUndeclared}
use Rattle.hal_scope.specs.Rules.{IsSound, rows}
use Rattle.hal_scope.specs.Uses.{is_nil}
use Rattle.hal_kinds.specs.Attributes.{count_of, has_mark, sizes_among}
use Rattle.hal_values.specs.declared.value.Kind.{Kind}
use Rattle.hal_values.specs.declared.value.Kind.TheVariants as kind
use Rattle.hal_constants.specs.Known.{known, kind_of_type}
use Rattle.hal_sizes.specs.Parts.{bottoms, extent_of_part, kind_of_part, parts_of}
use Rattle.hal_sizes.specs.Sizes.{extent_of}
use Rattle.hal_shapes.specs.Shapes.{all_parts, may_equal, may_match, parts_reached, same_part, same_parts, same_structures}
use Rattle.hal_types.specs.Rules.{type_rows}
use Rattle.hal_meaning.specs.Elements.{Above, all_sizes, component, components_at, components_from, kinds_of_component, lower, path_to, product, sizes_given}
use Rattle.hal_fit_names.specs.Suited.{HasFitLiterals, AreDeclared}
use Rattle.hal_fit_parts.proofs.Standing.{AreStanding}
use Rattle.hal_right_images.proofs.rows.Filled.{sizes_some}
use Rattle.hal_right_images.proofs.rows.Rules.{among_at}
use Rattle.hal_right_images.specs.paths.Known.{IsKnownPart}
use Rattle.hal_right_images.proofs.paths.Kinded.{AreKnownParts, parts_known}
use Rattle.hal_right_images.specs.areas.Sized.{AreKnown, extent_with}
use Rattle.hal_right_images.proofs.areas.Parameters.{short_is}
use Rattle.hal_right_images.proofs.areas.Plainly.{sizes_long}
use Rattle.hal_right_images.proofs.areas.SizedParts.{AreLeveled, AreSizedParts, IsSizedPart, parts_sized, structure_leveled}
use Rattle.hal_right_images.proofs.areas.Sizes.{extent_is}
use Rattle.hal_right_images.proofs.areas.Spans.{IsShort, places_are, same_places}
use Rattle.hal_right_images.proofs.areas.Standing.{same_kind_is}

-- a number of at least one
high_by : (n : ℕ) → 1 ≤ n → (b : Bool) → nat_le n 0 ≡ b → b ≡ false
high_by n high false is = refl
high_by n high true is = absurd (let low = leb-true n 0 is in omega (arith, high, low))

-- no more than three sizes
short_so : (ps : List Phrase) (p : Phrase) (sizes : Expressions) → nat_le (count_of sizes) 3 ≡ true → IsShort (all_sizes ps (known ps) p sizes)
short_so ps p sizes few = let low = leb-true (count_of sizes) 3 few in let long = sizes_long ps (known ps) p sizes in short_is (all_sizes ps (known ps) p sizes) (omega (arith, low, long))

module _ (ps : List Phrase) (p : Phrase) where
  -- the kinds of a part's cells
  abbrev pub cells_of : Part → List Kind
  cells_of x = kinds_of_component (component ps (known ps) p [] x.attributes)

  -- the cells of a copy are those of the parts at the bottom
  pub bottom_cells : (above : List Above) (xs : List Part) → AreLeveled xs → flat_map kinds_of_component (components_from ps (known ps) p above xs) ≡ flat_map cells_of (bottoms 0 xs)
  unfolding bottoms
  bottom_cells above [] leveled = refl
  bottom_cells above (x ∷ xs) leveled =
      by (is_bottom x.level xs) (bottom_cells (lower x.level above) xs leveled.1) (bottom_cells (lower x.level above ++ ((x.level, x.name.name) ∷ [])) xs leveled.1)
      ∙ ap (λ b. flat_map cells_of (if b then [] else if is_bottom x.level xs then x ∷ bottoms 0 xs else bottoms 0 xs)) (sym (high_by x.level leveled.0 (nat_le x.level 0) refl))
    where
      by : (b : Bool) → flat_map kinds_of_component (components_from ps (known ps) p (lower x.level above) xs) ≡ flat_map cells_of (bottoms 0 xs)
          → flat_map kinds_of_component (components_from ps (known ps) p (lower x.level above ++ ((x.level, x.name.name) ∷ [])) xs) ≡ flat_map cells_of (bottoms 0 xs)
          → flat_map kinds_of_component (if b then component ps (known ps) p (path_to (lower x.level above) x) x.attributes ∷ components_from ps (known ps) p (lower x.level above) xs
          else components_from ps (known ps) p (lower x.level above ++ ((x.level, x.name.name) ∷ [])) xs)
          ≡ flat_map cells_of (if b then x ∷ bottoms 0 xs else bottoms 0 xs)
      by true own deeper = ap (λ ks. cells_of x ++ ks) own
      by false own deeper = deeper

  -- parts of which all is known
  abbrev pub AllKnown : List Part → Type 0
  AllKnown [] = Unit {0}
  AllKnown (x ∷ xs) = IsKnownPart ps p x × (IsSizedPart ps p x × AllKnown xs)

  pub bottoms_known : (xs : List Part) → AreKnownParts ps p xs → AreSizedParts ps p xs → AllKnown (bottoms 0 xs)
  unfolding bottoms
  bottoms_known [] kinds sizes = tt
  bottoms_known (x ∷ xs) kinds sizes = by (nat_le x.level 0) (is_bottom x.level xs) refl (bottoms_known xs kinds.1 sizes.1) where
    by : (a b : Bool) → is_bottom x.level xs ≡ b → AllKnown (bottoms 0 xs) → AllKnown (if a then [] else if b then x ∷ bottoms 0 xs else bottoms 0 xs)
    by true b is rest = tt
    by false true is rest = (kinds.0 is, (sizes.0, rest))
    by false false is rest = rest

  -- the dimensions of a part
  extent_by_sizes : (o : Option Expressions) → ((sizes : Expressions) → o ≡ Some sizes → AreKnown ps (known ps) p sizes × (nat_le (count_of sizes) 3 ≡ true)) → (extent_of ps (known ps) p o ≡ Some (extent_with (sizes_given ps (known ps) p o))) × IsShort (sizes_given ps (known ps) p o)
  unfolding extent_of
  extent_by_sizes None sized = (refl, tt)
  extent_by_sizes (Some sizes) sized = let both = sized sizes refl in (extent_is ps (known ps) p sizes both.0 both.1, short_so ps p sizes both.1)

  pub part_extent : (x : Part) → IsSizedPart ps p x → (extent_of_part ps (known ps) p x ≡ Some (extent_with (sizes_given ps (known ps) p (sizes_among x.attributes)))) × IsShort (sizes_given ps (known ps) p (sizes_among x.attributes))
  part_extent x sized = extent_by_sizes (sizes_among x.attributes) sized

  -- its kind
  pub part_kind : (x : Part) (is : IsKnownPart ps p x) → kind_of_part ps (known ps) p x ≡ Some is.cells
  part_kind x is = ap (kind_of_type ps (known ps) p (has_mark Double x.attributes)) is.typed ∙ is.sized

module _ (ps : List Phrase) (q r : Phrase) where
  -- parts that are the same
  part_cells : (x y : Part) → same_part ps (known ps) q x r y ≡ true → IsKnownPart ps q x → IsSizedPart ps q x → IsKnownPart ps r y → IsSizedPart ps r y → cells_of ps q x ≡ cells_of ps r y
  unfolding may_equal may_match
  part_cells x y same mine sized theirs sized_there =
      let both = and_parts (may_equal (kind_of_part ps (known ps) q x) (kind_of_part ps (known ps) r y)) (may_match (extent_of_part ps (known ps) q x) (extent_of_part ps (known ps) r y)) same in
      let one = part_kind ps q x mine in
      let other = part_kind ps r y theirs in
      let kinds : mine.cells ≡ theirs.cells = same_kind_is mine.cells theirs.cells (sym (ap (λ o. may_equal o (kind_of_part ps (known ps) r y)) one ∙ ap (may_equal (Some mine.cells)) other) ∙ both.0) in
      let ns : List ℕ = sizes_given ps (known ps) q (sizes_among x.attributes) in
      let ms : List ℕ = sizes_given ps (known ps) r (sizes_among y.attributes) in
      let first = part_extent ps q x sized in
      let second = part_extent ps r y sized_there in
      let places = same_places (extent_with ns) (extent_with ms) (sym (ap (λ o. may_match o (extent_of_part ps (known ps) r y)) first.0 ∙ ap (may_match (Some (extent_with ns))) second.0) ∙ both.1) in
      let products : product ns ≡ product ms = sym (places_are ns (sizes_some ps (known ps) q (sizes_among x.attributes)) first.1) ∙ (places ∙ places_are ms (sizes_some ps (known ps) r (sizes_among y.attributes)) second.1) in
      ap (λ o. replicate (product ns) (unwrap_or o kind.Single)) one
      ∙ (ap (replicate (product ns)) kinds ∙ (ap (λ n. replicate n theirs.cells) products ∙ sym (ap (λ o. replicate (product ms) (unwrap_or o kind.Single)) other)))

  -- lists of them
  pub parts_cells : (xs ys : List Part) → same_parts ps (known ps) q xs r ys ≡ true → AllKnown ps q xs → AllKnown ps r ys → flat_map (cells_of ps q) xs ≡ flat_map (cells_of ps r) ys
  unfolding same_parts
  parts_cells [] [] same mine theirs = refl
  parts_cells [] (y ∷ ys) same mine theirs = absurd (cc)
  parts_cells (x ∷ xs) [] same mine theirs = absurd (cc)
  parts_cells (x ∷ xs) (y ∷ ys) same mine theirs =
      let both = and_parts (same_part ps (known ps) q x r y) (same_parts ps (known ps) q xs r ys) same in
      ap (λ ks. ks ++ flat_map (cells_of ps q) xs) (part_cells x y both.0 mine.0 mine.1.0 theirs.0 theirs.1.0) ∙ ap (λ ks. cells_of ps r y ++ ks) (parts_cells xs ys both.1 mine.1.1 theirs.1.1)

module _ (ps : List Phrase) (named : IsSound rows ps) (sound : IsSound type_rows ps) (counted : IsCounted ps) (declared : AreDeclared ps) (literals : HasFitLiterals ps)
    (found : (q : Key) (n : ℕ) → own ps q ≡ Some n → IsFirst ps q n) (lacking : (q : Key) → own ps q ≡ None → IsUndeclared ps q) (standing : AreStanding ps) where
  -- two structures with the same parts
  pub structures_cells : (m n : ℕ) (q r : Phrase) (name other : Naming) (xs ys : List Part) → slice_get ps m ≡ Some q → slice_get ps n ≡ Some r → q.node ≡ OfStructure name xs → r.node ≡ OfStructure other ys
      → same_structures ps (known ps) q (parts_reached q []) r (all_parts r) ≡ true → flat_map kinds_of_component (components_at ps (known ps) q q.node) ≡ flat_map kinds_of_component (components_at ps (known ps) r r.node)
  unfolding same_structures parts_of is_nil
  structures_cells m n q r name other xs ys there at is so same =
      let within = among_at ps m q there in
      let among = among_at ps n r at in
      let mine : AllKnown ps q (bottoms 0 xs) = bottoms_known ps q xs (parts_known ps named sound counted declared literals found lacking standing m q name xs there is) (parts_sized ps named sound counted declared literals standing q name xs within is) in
      let theirs : AllKnown ps r (bottoms 0 ys) = bottoms_known ps r ys (parts_known ps named sound counted declared literals found lacking standing n r other ys at so) (parts_sized ps named sound counted declared literals standing r other ys among so) in
      let mine_so : all_parts q ≡ Some (0, xs) = ap (λ (k : Node). all_parts (phrase q.number q.around k)) is in
      let theirs_so : all_parts r ≡ Some (0, ys) = ap (λ (k : Node). all_parts (phrase r.number r.around k)) so in
      let parts : same_parts ps (known ps) q (bottoms 0 xs) r (bottoms 0 ys) ≡ true =
      sym (ap (λ o. same_structures ps (known ps) q o r (all_parts r)) mine_so ∙ ap (same_structures ps (known ps) q (Some (0, xs)) r) theirs_so) ∙ same in
      ap (λ k. flat_map kinds_of_component (components_at ps (known ps) q k)) is
      ∙ (bottom_cells ps q [] xs (structure_leveled ps named sound counted declared literals q name xs within is)
      ∙ (parts_cells ps q r (bottoms 0 xs) (bottoms 0 ys) parts mine theirs
      ∙ (sym (bottom_cells ps r [] ys (structure_leveled ps named sound counted declared literals r other ys among so)) ∙ sym (ap (λ k. flat_map kinds_of_component (components_at ps (known ps) r k)) so))))
