-- Components of two structures with the same parts: those to which a path leads are of the same sorts, arrays for both or for neither.
use Rattle.std.proofs.Common.{◌≡◌, ℕ, Bool, true, false, ◌||◌, List, [], ◌∷◌, ◌++◌, map, Option, Some, None, if◌then◌else◌, refl, sym, ap, ◌∙◌}
use Rattle.std.specs.Prelude.{cond, nat_le, nat_lt, unwrap_or}
use Rattle.std.specs.Option.{option_or}
use Rattle.hal_grammar.specs.Leaves.{Naming}
use Rattle.hal_grammar.specs.Declarations.{Double, Part}
use Rattle.hal_phrases.specs.Phrases.{Phrase}
use Rattle.hal_phrases.specs.GatheredDeclarations.{is_bottom}
use Rattle.hal_scope.specs.Sorts.{type_among}
use Rattle.hal_kinds.specs.Attributes.{has_mark, sizes_among}
use Rattle.hal_kinds.specs.Data.{dimensions_of}
use Rattle.hal_values.specs.declared.value.Kind.TheVariants as kind
use Rattle.hal_constants.specs.Known.{kind_of_type, known}
use Rattle.hal_templates.specs.Agreeing.{HaveSameParts, IsSamePart}
use Rattle.hal_templates.specs.Traits as given
use Rattle.hal_meaning.specs.Elements.{Above, Component, chosen, component, components_from, leads, lower, path_to, sizes_given}
use Rattle.hal_meaning.specs.Variables.{is_arrayed, kind_of_first, sizes_of_first}
use Rattle.hal_fit_names.proofs.Pooled.{agree_some, sizes_same}
use Rattle.hal_fit_parts.proofs.Alike.{arrayed_by}
use Rattle.hal_right_images.specs.paths.Known.{IsKnownPart}
use Rattle.hal_right_images.proofs.paths.Kinded.{AreKnownParts}

-- components of one name and one kind
pub record IsTwin (c d : Component) : Type 0 where
  pub path : c.path ≡ d.path
  pub kind : c.kind ≡ d.kind
  pub arrayed : is_arrayed c.sizes ≡ is_arrayed d.sizes

abbrev pub AreTwins : List Component → List Component → Type 0
AreTwins [] [] = Unit {0}
AreTwins (c ∷ cs) (d ∷ ds) = IsTwin c d × AreTwins cs ds
AreTwins cs ds = ⊥

-- components are twins of themselves
pub themselves : (cs : List Component) → AreTwins cs cs
themselves [] = tt
themselves (c ∷ cs) = (record { path = refl; kind = refl; arrayed = refl }, themselves cs)

-- so are those to which a path leads
pub chosen_twins : (path : List Naming) (cs ds : List Component) → AreTwins cs ds → AreTwins (chosen path cs) (chosen path ds)
chosen_twins path [] [] twins = tt
chosen_twins path [] (d ∷ ds) twins = absurd twins
chosen_twins path (c ∷ cs) [] twins = absurd twins
chosen_twins path (c ∷ cs) (d ∷ ds) twins = by (leads path c.path) (leads path d.path) (ap (leads path) twins.0.path) (chosen_twins path cs ds twins.1) where
  by : (a b : Bool) → a ≡ b → AreTwins (chosen path cs) (chosen path ds) → AreTwins (cond a (c ∷ chosen path cs) (chosen path cs)) (cond b (d ∷ chosen path ds) (chosen path ds))
  by true true same rest = (twins.0, rest)
  by false false same rest = rest
  by true false same rest = absurd (cc)
  by false true same rest = absurd (cc)

-- the first of them has one kind
pub first_kind : (cs ds : List Component) → AreTwins cs ds → kind_of_first cs ≡ kind_of_first ds
first_kind [] [] twins = refl
first_kind [] (d ∷ ds) twins = absurd twins
first_kind (c ∷ cs) [] twins = absurd twins
first_kind (c ∷ cs) (d ∷ ds) twins = twins.0.kind

-- and is an array for both or for neither
pub first_arrayed : (cs ds : List Component) → AreTwins cs ds → is_arrayed (sizes_of_first cs) ≡ is_arrayed (sizes_of_first ds)
first_arrayed [] [] twins = refl
first_arrayed [] (d ∷ ds) twins = absurd twins
first_arrayed (c ∷ cs) [] twins = absurd twins
first_arrayed (c ∷ cs) (d ∷ ds) twins = twins.0.arrayed

-- or nothing
pub or_nothing : {X : Type 0} (o : Option X) → option_or o None ≡ o
or_nothing None = refl
or_nothing (Some x) = refl

-- or false
or_false : (b : Bool) → (b || false) ≡ b
or_false true = refl
or_false false = refl

module _ (ps : List Phrase) (r s : Phrase) where
  -- parts behind parts of one level are the same
  pub bottoms : (m n : ℕ) (xs ys : List Part) → m ≡ n → HaveSameParts ps (known ps) r xs s ys → is_bottom m xs ≡ is_bottom n ys
  unfolding is_bottom
  bottoms m n [] [] level same = refl
  bottoms m n [] (y ∷ ys) level same = absurd same
  bottoms m n (x ∷ xs) [] level same = absurd same
  bottoms m n (x ∷ xs) (y ∷ ys) level same = ap (λ a. nat_le a m) same.0.level ∙ ap (nat_le y.level) level

  -- the kind that the rules of templates compare
  kind_given_so : (p : Phrase) (part : Part) (is : IsKnownPart ps p part) → given.kind_given ps (known ps) p [] part.attributes ≡ Some is.cells
  unfolding type_among
  kind_given_so p part is =
      ap (λ b. kind_of_type ps (known ps) p b (option_or (type_among part.attributes) None)) (or_false (has_mark Double part.attributes))
      ∙ (ap (kind_of_type ps (known ps) p (has_mark Double part.attributes)) (or_nothing (type_among part.attributes)) ∙ (ap (kind_of_type ps (known ps) p (has_mark Double part.attributes)) is.typed ∙ is.sized))

  -- the kind of the component that a part is
  kind_so : (p : Phrase) (part : Part) (path : List (List ℕ)) (is : IsKnownPart ps p part) → (component ps (known ps) p path part.attributes).kind ≡ is.cells
  kind_so p part path is = ap (λ t. unwrap_or (kind_of_type ps (known ps) p (has_mark Double part.attributes) t) kind.Single) is.typed ∙ ap (λ o. unwrap_or o kind.Single) is.sized

  -- two parts at the bottom are twins
  pub part_twins : (x y : Part) (xs ys : List (List ℕ)) → xs ≡ ys → IsSamePart ps (known ps) r x s y → IsKnownPart ps r x → IsKnownPart ps s y → IsTwin (component ps (known ps) r xs x.attributes) (component ps (known ps) s ys y.attributes)
  unfolding sizes_among
  part_twins x y xs ys paths same mine theirs = record {
    path = paths;
    kind =
        kind_so r x xs mine
        ∙ (agree_some (given.kind_given ps (known ps) r [] x.attributes) (given.kind_given ps (known ps) s [] y.attributes) mine.cells theirs.cells same.attributes.words.kind (kind_given_so r x mine) (kind_given_so s y theirs)
        ∙ sym (kind_so s y ys theirs));
    arrayed =
        sym (arrayed_by ps (known ps) r (sizes_among x.attributes))
        ∙ (ap (λ o. nat_lt 0 (dimensions_of o)) (sym (or_nothing (sizes_among x.attributes)))
        ∙ (ap (nat_lt 0) (sizes_same ps (known ps) r s (given.sizes_given [] x.attributes) (given.sizes_given [] y.attributes) same.attributes.dimensions).1
        ∙ (ap (λ o. nat_lt 0 (dimensions_of o)) (or_nothing (sizes_among y.attributes)) ∙ arrayed_by ps (known ps) s (sizes_among y.attributes))));
  }

  -- the components of structures with the same parts are twins
  pub parts_twins : (above over : List Above) (xs ys : List Part) → above ≡ over → HaveSameParts ps (known ps) r xs s ys → AreKnownParts ps r xs → AreKnownParts ps s ys
      → AreTwins (components_from ps (known ps) r above xs) (components_from ps (known ps) s over ys)
  parts_twins above over [] [] same_above same mine theirs = tt
  parts_twins above over [] (y ∷ ys) same_above same mine theirs = absurd same
  parts_twins above over (x ∷ xs) [] same_above same mine theirs = absurd same
  parts_twins above over (x ∷ xs) (y ∷ ys) same_above same mine theirs =
      by (is_bottom x.level xs) (is_bottom y.level ys) refl refl
      (parts_twins (lower x.level above) (lower y.level over) xs ys lowered same.1 mine.1 theirs.1)
      (parts_twins (lower x.level above ++ ((x.level, x.name.name) ∷ [])) (lower y.level over ++ ((y.level, y.name.name) ∷ [])) xs ys opened same.1 mine.1 theirs.1) where
        lowered : lower x.level above ≡ lower y.level over
        lowered = ap (λ n. lower n above) same.0.level ∙ ap (lower y.level) same_above

        opened : lower x.level above ++ ((x.level, x.name.name) ∷ []) ≡ lower y.level over ++ ((y.level, y.name.name) ∷ [])
        opened =
            ap (λ (zs : List Above). zs ++ ((x.level, x.name.name) ∷ [])) lowered
            ∙ (ap (λ n. lower y.level over ++ ((n, x.name.name) ∷ [])) same.0.level ∙ ap (λ (n : List ℕ). lower y.level over ++ ((y.level, n) ∷ [])) same.0.name)

        named : path_to (lower x.level above) x ≡ path_to (lower y.level over) y
        named = ap (λ (zs : List Above). map (λ (one : Above). one.1) zs ++ (x.name.name ∷ [])) lowered ∙ ap (λ (n : List ℕ). map (λ (one : Above). one.1) (lower y.level over) ++ (n ∷ [])) same.0.name

        by : (a b : Bool) → is_bottom x.level xs ≡ a → is_bottom y.level ys ≡ b
            → AreTwins (components_from ps (known ps) r (lower x.level above) xs) (components_from ps (known ps) s (lower y.level over) ys)
            → AreTwins (components_from ps (known ps) r (lower x.level above ++ ((x.level, x.name.name) ∷ [])) xs) (components_from ps (known ps) s (lower y.level over ++ ((y.level, y.name.name) ∷ [])) ys)
            → AreTwins (if a then component ps (known ps) r (path_to (lower x.level above) x) x.attributes ∷ components_from ps (known ps) r (lower x.level above) xs
            else components_from ps (known ps) r (lower x.level above ++ ((x.level, x.name.name) ∷ [])) xs)
            (if b then component ps (known ps) s (path_to (lower y.level over) y) y.attributes ∷ components_from ps (known ps) s (lower y.level over) ys
            else components_from ps (known ps) s (lower y.level over ++ ((y.level, y.name.name) ∷ [])) ys)
        by true true first second rest deeper =
            (part_twins x y (path_to (lower x.level above) x) (path_to (lower y.level over) y) named same.0 (mine.0 first) (theirs.0 second), rest)
        by false false first second rest deeper = deeper
        by true false first second rest deeper = absurd (let other = sym first ∙ (bottoms x.level y.level xs ys same.0.level same.1 ∙ second) in cc)
        by false true first second rest deeper = absurd (let other = sym first ∙ (bottoms x.level y.level xs ys same.0.level same.1 ∙ second) in cc)
