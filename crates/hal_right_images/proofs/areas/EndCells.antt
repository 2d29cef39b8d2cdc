-- A part with parts that is the same for the checks as a structure has its cells, where its names lead.
use Rattle.std.specs.Prelude.{◌≡◌, ◌+◌, ℕ, suc, nat_le, nat_lt, Bool, true, false, List, [], ◌∷◌, ◌++◌, flat_map, Some, None, slice_get, if◌then◌else◌}
use Rattle.std.specs.Option.{option_and_then}
use Rattle.std.proofs.Common.{refl, sym, ap, subst, ◌∙◌, append_assoc}
use Rattle.hal_grammar.specs.Leaves.{Naming}
use Rattle.hal_grammar.specs.Declarations.{Part}
use Rattle.hal_phrases.specs.Phrases.{Node, Phrase, phrase, OfStructure}
use Rattle.hal_phrases.specs.GatheredDeclarations.{is_bottom}
use Rattle.hal_names.specs.declared.key.Key.{Key}
use Rattle.hal_names.specs.Keys.{own}
use Rattle.hal_names.specs.Laws.{IsCounted, IsFirst, IsUndeclared}
use Rattle.hal_scope.specs.Rules.{IsSound, rows}
use Rattle.hal_scope.specs.Uses.{is_nil}
use Rattle.hal_attributes.specs.Levels.{misleveled}
use Rattle.hal_values.specs.declared.value.Kind.{Kind}
use Rattle.hal_constants.specs.Known.{known}
use Rattle.hal_sizes.specs.Parts.{bottoms, parts_of}
use Rattle.hal_shapes.specs.Paths.{found, is_named, reached}
use Rattle.hal_shapes.specs.Selections.{part_reached}
use Rattle.hal_shapes.specs.Shapes.{all_parts, parts_reached, same_parts, same_structures}
use Rattle.hal_types.specs.Rules.{type_rows}
use Rattle.hal_meaning.specs.Elements.{components_at, components_from, kinds_of_component, offset}
use Rattle.hal_fit_names.specs.Suited.{HasFitLiterals, AreDeclared}
use Rattle.hal_fit_parts.proofs.Leading.{then_some}
use Rattle.hal_fit_parts.proofs.Standing.{AreStanding}
use Rattle.hal_right_images.proofs.rows.Rules.{among_at}
use Rattle.hal_right_images.proofs.paths.Kinded.{AreKnownParts, parts_known}
use Rattle.hal_right_images.proofs.areas.Behind.{cells_behind}
use Rattle.hal_right_images.proofs.areas.Ending.{IsEnd, part_found}
use Rattle.hal_right_images.proofs.areas.Inside.{inside, some_same}
use Rattle.hal_right_images.proofs.areas.SameParts.{AllKnown, bottom_cells, bottoms_known, cells_of, parts_cells}
use Rattle.hal_right_images.proofs.areas.SizedParts.{AreLeveled, AreSizedParts, parts_sized, structure_leveled}

-- a part, and those behind it, are the last ones of parts
abbrev IsTail : List Part → Part × List Part → Type 0
IsTail parts f = (earlier : List Part) × (parts ≡ earlier ++ (f.0 ∷ f.1))

found_tail : (level : ℕ) (x : List ℕ) (parts : List Part) (f : Part × List Part) → found level x parts ≡ Some f → IsTail parts f
unfolding found
found_tail level x [] f is = absurd (cc)
found_tail level x (y ∷ ys) f is = by (nat_lt y.level level) (is_named level x y) (found_tail level x ys f) is where
  by : (a b : Bool) → (found level x ys ≡ Some f → IsTail ys f) → (if a then None else if b then Some (y, ys) else found level x ys) ≡ Some f → IsTail (y ∷ ys) f
  by true b rest so = absurd (cc)
  by false true rest so =
      let same : f ≡ (y, ys) = sym (some_same (y, ys) f so) in
      ([], sym (ap (λ (g : Part × List Part). g.0 ∷ g.1) same))
  by false false rest so = let later = rest so in (y ∷ later.0, ap (λ zs. y ∷ zs) later.1)

reached_tail : (ns : List Naming) (level : ℕ) (parts : List Part) (n : Naming) (f : Part × List Part) → reached level parts (n ∷ ns) ≡ Some f → IsTail parts f
unfolding reached is_nil
reached_tail [] level parts n f is =
    let step = then_some (λ (g : Part × List Part). if is_nil {X = Naming} [] then Some g else reached (suc g.0.level) g.1 []) (found level n.name parts) f is in
    found_tail level n.name parts f (step.1.0 ∙ step.1.1)
reached_tail (m ∷ ms) level parts n f is =
    let step = then_some (λ (g : Part × List Part). if is_nil (m ∷ ms) then Some g else reached (suc g.0.level) g.1 (m ∷ ms)) (found level n.name parts) f is in
    let first = found_tail level n.name parts step.0 step.1.0 in
    let second = reached_tail ms (suc step.0.0.level) step.0.1 m f step.1.1 in
    (first.0 ++ (step.0.0 ∷ second.0), first.1 ∙ (ap (λ zs. first.0 ++ (step.0.0 ∷ zs)) second.1 ∙ sym (append_assoc first.0 (step.0.0 ∷ second.0) (f.0 ∷ f.1))))

-- what holds of all parts does of the last ones
leveled_last : (earlier : List Part) (x : Part) (xs : List Part) → AreLeveled (earlier ++ (x ∷ xs)) → AreLeveled xs
leveled_last [] x xs all = all.1
leveled_last (y ∷ ys) x xs all = leveled_last ys x xs all.1

known_last : (ps : List Phrase) (p : Phrase) (earlier : List Part) (x : Part) (xs : List Part) → AreKnownParts ps p (earlier ++ (x ∷ xs)) → AreKnownParts ps p xs
known_last ps p [] x xs all = all.1
known_last ps p (y ∷ ys) x xs all = known_last ps p ys x xs all.1

sized_last : (ps : List Phrase) (p : Phrase) (earlier : List Part) (x : Part) (xs : List Part) → AreSizedParts ps p (earlier ++ (x ∷ xs)) → AreSizedParts ps p xs
sized_last ps p [] x xs all = all.1
sized_last ps p (y ∷ ys) x xs all = sized_last ps p ys x xs all.1

-- those at the bottom below a part
under_known : (ps : List Phrase) (p : Phrase) (level : ℕ) (xs : List Part) → AreKnownParts ps p xs → AreSizedParts ps p xs → AllKnown ps p (bottoms level xs)
unfolding bottoms
under_known ps p level [] kinds sizes = tt
under_known ps p level (x ∷ xs) kinds sizes = by (nat_le x.level level) (is_bottom x.level xs) refl (under_known ps p level xs kinds.1 sizes.1) where
  by : (a b : Bool) → is_bottom x.level xs ≡ b → AllKnown ps p (bottoms level xs) → AllKnown ps p (if a then [] else if b then x ∷ bottoms level xs else bottoms level xs)
  by true b is rest = tt
  by false true is rest = (kinds.0 is, (sizes.0, rest))
  by false false is rest = rest

-- a part without parts has none at the bottom below it
none_under : (level : ℕ) (xs : List Part) → is_bottom level xs ≡ true → bottoms level xs ≡ []
unfolding bottoms is_bottom
none_under level [] bottom = refl
none_under level (x ∷ xs) bottom = ap (λ b. if b then [] else if is_bottom x.level xs then x ∷ bottoms level xs else bottoms level xs) bottom

-- a part at the end of names of parts of a structure, and the parts behind it
pub record IsThere (ps : List Phrase) (q : Phrase) (parts : List Part) (n : Naming) (ns : List Naming) (part : Part) : Type 0 where
  pub behind : List Part
  pub is : reached 1 parts (n ∷ ns) ≡ Some (part, behind)
  pub under : parts_reached q (n ∷ ns) ≡ Some (part.level, behind)
  pub leveled : AreLeveled behind
  pub sized : AllKnown ps q (bottoms part.level behind)

module _ (ps : List Phrase) (named : IsSound rows ps) (sound : IsSound type_rows ps) (counted : IsCounted ps) (declared : AreDeclared ps) (literals : HasFitLiterals ps)
    (first : (q : Key) (n : ℕ) → own ps q ≡ Some n → IsFirst ps q n) (lacking : (q : Key) → own ps q ≡ None → IsUndeclared ps q) (standing : AreStanding ps) where
  -- all is known of those at the bottom of a structure
  pub all_known : (m : ℕ) (q : Phrase) (name : Naming) (parts : List Part) → slice_get ps m ≡ Some q → q.node ≡ OfStructure name parts → AllKnown ps q (bottoms 0 parts)
  all_known m q name parts there is =
      bottoms_known ps q parts (parts_known ps named sound counted declared literals first lacking standing m q name parts there is) (parts_sized ps named sound counted declared literals standing q name parts (among_at ps m q there) is)

  -- they hold the cells of a copy
  pub all_cells : (m : ℕ) (q : Phrase) (name : Naming) (parts : List Part) → slice_get ps m ≡ Some q → q.node ≡ OfStructure name parts → flat_map (cells_of ps q) (bottoms 0 parts) ≡ flat_map kinds_of_component (components_at ps (known ps) q q.node)
  all_cells m q name parts there is =
      sym (bottom_cells ps q [] parts (structure_leveled ps named sound counted declared literals q name parts (among_at ps m q there) is)) ∙ sym (ap (λ node. flat_map kinds_of_component (components_at ps (known ps) q node)) is)

  pub all_under : (q : Phrase) (name : Naming) (parts : List Part) → q.node ≡ OfStructure name parts → all_parts q ≡ Some (0, parts)
  unfolding parts_of
  all_under q name parts is = ap (λ (node : Node). all_parts (phrase q.number q.around node)) is

  -- and of those below a part to which names lead
  pub part_there : (m : ℕ) (q : Phrase) (name : Naming) (parts : List Part) (part : Part) (n : Naming) (ns : List Naming) → slice_get ps m ≡ Some q → q.node ≡ OfStructure name parts → misleveled q.node ≡ None → IsEnd ps m (n ∷ ns) part
      → IsThere ps q parts n ns part
  unfolding parts_of is_nil misleveled
  part_there m q name parts part n ns there is levels ended =
      record { behind = found_it.0; is = reached_it; under = ap (option_and_then (λ (f : Part × List Part). Some (f.0.level, f.1))) found_it.1; leveled = leveled; sized = sized }
    where
      found_it : (zs : List Part) × (part_reached q (n ∷ ns) ≡ Some (part, zs))
      found_it = part_found ps counted first lacking named standing m q name parts part n ns there is levels ended

      reached_it : reached 1 parts (n ∷ ns) ≡ Some (part, found_it.0)
      reached_it = sym (ap (λ (node : Node). option_and_then (λ (zs : List Part). reached 1 zs (n ∷ ns)) (parts_of node)) is) ∙ found_it.1

      tail : IsTail parts (part, found_it.0)
      tail = reached_tail ns 1 parts n (part, found_it.0) reached_it

      leveled : AreLeveled found_it.0
      leveled = leveled_last tail.0 part found_it.0 (subst AreLeveled tail.1 (structure_leveled ps named sound counted declared literals q name parts (among_at ps m q there) is))

      sized : AllKnown ps q (bottoms part.level found_it.0)
      sized =
          under_known ps q part.level found_it.0 (known_last ps q tail.0 part found_it.0 (subst (AreKnownParts ps q) tail.1 (parts_known ps named sound counted declared literals first lacking standing m q name parts there is)))
          (sized_last ps q tail.0 part found_it.0 (subst (AreSizedParts ps q) tail.1 (parts_sized ps named sound counted declared literals standing q name parts (among_at ps m q there) is)))

  -- where a structure has the same parts as those below a part, they have its cells
  pub same_cells : (k : ℕ) (q r : Phrase) (other : Naming) (parts ys : List Part) (part : Part) (n : Naming) (ns : List Naming) → slice_get ps k ≡ Some r → r.node ≡ OfStructure other ys → (it : IsThere ps q parts n ns part)
      → same_structures ps (known ps) q (parts_reached q (n ∷ ns)) r (all_parts r) ≡ true → flat_map (cells_of ps q) (bottoms part.level it.behind) ≡ flat_map kinds_of_component (components_at ps (known ps) r r.node)
  unfolding same_structures
  same_cells k q r other parts ys part n ns at so it same =
      let alike : same_parts ps (known ps) q (bottoms part.level it.behind) r (bottoms 0 ys) ≡ true =
      sym (ap (λ o. same_structures ps (known ps) q o r (all_parts r)) it.under ∙ ap (same_structures ps (known ps) q (Some (part.level, it.behind)) r) (all_under r other ys so)) ∙ same in
      parts_cells ps q r (bottoms part.level it.behind) (bottoms 0 ys) alike it.sized (all_known k r other ys at so) ∙ all_cells k r other ys at so

  -- each cell of a structure with the same parts is one of the part's, in order
  pub end_cells : (m k : ℕ) (q r : Phrase) (name other : Naming) (parts ys : List Part) (part : Part) (n : Naming) (ns : List Naming) → slice_get ps m ≡ Some q → slice_get ps k ≡ Some r → q.node ≡ OfStructure name parts → r.node ≡ OfStructure other ys
      → misleveled q.node ≡ None → IsEnd ps m (n ∷ ns) part → same_structures ps (known ps) q (parts_reached q (n ∷ ns)) r (all_parts r) ≡ true → (j : ℕ) (cell : Kind)
      → slice_get (flat_map kinds_of_component (components_at ps (known ps) r r.node)) j ≡ Some cell
      → slice_get (flat_map kinds_of_component (components_at ps (known ps) q q.node)) (offset (n ∷ ns) (components_at ps (known ps) q q.node) + j) ≡ Some cell
  unfolding misleveled
  end_cells m k q r name other parts ys part n ns there at is so levels ended same j cell here =
      ap (λ node. slice_get (flat_map kinds_of_component (components_at ps (known ps) q node)) (offset (n ∷ ns) (components_at ps (known ps) q node) + j)) is ∙ by (is_bottom part.level it.behind) refl
    where
      it : IsThere ps q parts n ns part
      it = part_there m q name parts part n ns there is levels ended

      cell_there : slice_get (flat_map (cells_of ps q) (bottoms part.level it.behind)) j ≡ Some cell
      cell_there = ap (λ ks. slice_get ks j) (same_cells k q r other parts ys part n ns at so it same) ∙ here

      by : (b : Bool) → is_bottom part.level it.behind ≡ b → slice_get (flat_map kinds_of_component (components_from ps (known ps) q [] parts)) (offset (n ∷ ns) (components_from ps (known ps) q [] parts) + j) ≡ Some cell
      by true bottom = absurd (let none = sym (ap (λ zs. slice_get (flat_map (cells_of ps q) zs) j) (none_under part.level it.behind bottom)) ∙ cell_there in cc)
      by false open_ = cells_behind ps q (n ∷ ns) parts part it.behind (inside ps q parts n ns part it.behind (sym (ap misleveled is) ∙ levels) it.is open_) open_ it.leveled j cell cell_there
