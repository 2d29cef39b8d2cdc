-- A path to a part of a structure chooses the component that the part is, and no other.
use Rattle.std.proofs.Common.{◌≡◌, ◌≤◌, ◌<◌, ◌⊎◌, ℕ, zero, suc, Bool, true, false, not, ◌||◌, ◌&&◌, List, [], ◌∷◌, ◌++◌, length, map, Option, Some, None, slice_get, refl, sym, ap, ◌∙◌, subst, inl, inr, arith, append_assoc, append-nil}
use Rattle.std.specs.Option.{option_and_then, option_or}
use Rattle.std.specs.Prelude.{cond, nat_lt, if◌then◌else◌}
use Rattle.std.proofs.lemmas.Bool.{eqb-true, ltb-true, ltb-false}
use Rattle.std.proofs.lemmas.List.{map-append}
use Rattle.hal_base.specs.declared.refusal.Place.{Place}
use Rattle.hal_grammar.specs.Leaves.{Naming}
use Rattle.hal_grammar.specs.Declarations.{Part}
use Rattle.hal_phrases.specs.declared.around.Around.{Around}
use Rattle.hal_phrases.specs.Surroundings.{under}
use Rattle.hal_phrases.specs.Phrases.{Node, Phrase, phrase, add, OfStructure, OfPart}
use Rattle.hal_phrases.specs.GatheredExpressions.{below}
use Rattle.hal_phrases.specs.GatheredDeclarations.{OpenPart, still_open, innermost, is_bottom, gathered_part, gathered_parts}
use Rattle.hal_names.specs.declared.key.Key.{Key}
use Rattle.hal_names.specs.declared.key.Space.TheVariants as space
use Rattle.hal_names.specs.Keys.{key, declared_at, declared_by, own}
use Rattle.hal_names.specs.Laws.{IsCounted, IsFirst, IsUndeclared}
use Rattle.hal_scope.specs.Repeated.{given, is_number, is_first, is_given_before, is_of_block, is_included_before, twice, included_twice, repeated}
use Rattle.hal_scope.specs.Rules.{IsAmong, IsSound, rows, ruled}
use Rattle.hal_scope.specs.Uses.{unless}
use Rattle.hal_kinds.specs.Data.{part_under}
use Rattle.hal_constants.specs.Known.{Known}
use Rattle.hal_meaning.specs.Elements.{Above, Component, chosen, component, components_at, components_from, leads, lower, path_to}
use Rattle.hal_fit_rules.specs.Begun.{AreFirst}
use Rattle.hal_fit_rules.proofs.Beginning as begun
use Rattle.hal_fit_rules.proofs.BegunDeclarations.{attributes_first, parts_first}
use Rattle.hal_fit_rules.proofs.Constants.{among_found}
use Rattle.hal_fit_rules.proofs.Unbroken.{ruled_none, unbroken}
use Rattle.hal_fit_parts.proofs.Plain.{IsPlain}
use Rattle.hal_fit_parts.proofs.PlainDeclarations.{attributes_step}
use Rattle.hal_fit_parts.proofs.Opening.{still_below}
use Rattle.hal_fit_parts.proofs.Belonging.{is_part, has_parts, bears, IsBehind, Belongs, Region, region_of, plain_no_part, longer, one_longer}
use Rattle.hal_fit_parts.proofs.Standing.{AreStanding, each_among}
use Rattle.hal_fit_parts.proofs.Leading.{down, names_of, IsChild, child_at, parts_same, one_way, leads_front, leads_own, down_append, then_some, under_down}
use Rattle.hal_fit_parts.proofs.Above.{leads_more, Follows, follows_open, follows_bottom, names_lead, StartsDeeper, starts_deeper}

unless_true : (b : Bool) (place : Place) → unless b place ≡ None → b ≡ true
unless_true true place is = refl
unless_true false place is = absurd (cc)

pub first_so : (first other : Bool) → not (not first || other) ≡ true → first ≡ true
first_so true other is = refl
first_so false other is = absurd (cc)

no_first : {X : Type 0} (o p : Option X) → option_or o p ≡ None → o ≡ None
no_first None p is = refl
no_first (Some x) p is = absurd (cc)

among_at : (p : Phrase) (xs : List Phrase) (k : ℕ) → slice_get xs k ≡ Some p → IsAmong p xs
among_at p [] k is = absurd (cc)
among_at p (x ∷ xs) zero is = inl (let same : x ≡ p = cc in sym same)
among_at p (x ∷ xs) (suc k) is = inr (among_at p xs k is)

at_low : (d later : List Phrase) (k : ℕ) (x : Phrase) → slice_get d k ≡ Some x → (slice_get (d ++ later) k ≡ Some x) × (k < length d)
at_low [] later k x there = absurd (cc)
at_low (y ∷ d) later zero x there = (there, omega arith)
at_low (y ∷ d) later (suc k) x there = let more = at_low d later k x there in (more.0, omega (arith, more.1))

-- a phrase between others is one of those
at_middle : (d later rest : List Phrase) (k : ℕ) (x : Phrase) → slice_get ((d ++ later) ++ rest) k ≡ Some x → length d ≤ k → k < length (d ++ later) → IsAmong x later
at_middle [] [] rest k x there low less = absurd (omega (arith, less))
at_middle [] (y ∷ later) rest zero x there low less = inl (let same : y ≡ x = cc in sym same)
at_middle [] (y ∷ later) rest (suc k) x there low less = inr (at_middle [] later rest k x there (omega arith) (omega (arith, less)))
at_middle (y ∷ d) later rest zero x there low less = absurd (omega (arith, low))
at_middle (y ∷ d) later rest (suc k) x there low less = at_middle d later rest k x there (omega (arith, low)) (omega (arith, less))

cond_false : {X : Type 0} (b : Bool) (x y : X) → b ≡ false → cond b x y ≡ y
cond_false false x y is = refl
cond_false true x y is = absurd (cc)

cond_true : {X : Type 0} (b : Bool) (x y : X) → b ≡ true → cond b x y ≡ x
cond_true true x y is = refl
cond_true false x y is = absurd (cc)

module _ (ps : List Phrase) (counted : IsCounted ps) (found : (q : Key) (n : ℕ) → own ps q ≡ Some n → IsFirst ps q n) (lacking : (q : Key) → own ps q ≡ None → IsUndeclared ps q) (sound : IsSound rows ps) (standing : AreStanding ps) where
  -- rule 602: a part is the first one of its name
  first_there : (q : Phrase) → IsAmong q ps → (bottom : Bool) (part : Part) → q.node ≡ OfPart bottom part → is_first ps q ≡ true
  unfolding twice given
  first_there q within bottom part is =
      let none = no_first (twice ps q) (included_twice ps q q.node) (ruled_none 602 (repeated ps q) (unbroken rows ps sound q within (λ qs p. ruled 602 (repeated qs p)) (inr (inl refl)))) in
      first_so (is_first ps q) (is_of_block q.node && is_included_before ps q part.name.name)
      (unless_true (not (is_given_before ps q part.name.name)) part.name.place (ap (λ (node : Node). option_and_then (λ (n : Naming). unless (not (is_given_before ps q n.name)) n.place) (given node)) (sym is) ∙ none))

  -- so it is found by its name
  own_of_part : (n : ℕ) (q : Phrase) (bottom : Bool) (part : Part) → slice_get ps n ≡ Some q → q.node ≡ OfPart bottom part → own ps (key space.Part q.around.parent part.name.name) ≡ Some n
  unfolding declared_at
  own_of_part n q bottom part there is = by (own ps (key space.Part q.around.parent part.name.name)) refl where
    declares : declared_by q ≡ Some (key space.Part q.around.parent part.name.name)
    declares = ap (declared_at q.number q.around) is

    first : is_number q.number (own ps (key space.Part q.around.parent part.name.name)) ≡ true
    first = ap (λ (o : Option Key). elim o [ None ↦ true | Some k ↦ is_number q.number (own ps k) ]) (sym declares) ∙ first_there q (among_at q ps n there) bottom part is

    by : (o : Option ℕ) → own ps (key space.Part q.around.parent part.name.name) ≡ o → o ≡ Some n
    by None none = absurd (lacking (key space.Part q.around.parent part.name.name) none n q there declares)
    by (Some m) is_ = ap Some (eqb-true m q.number (ap (is_number q.number) (sym is_) ∙ first) ∙ counted n q there)

  behind_ : {m j : ℕ} {x : List ℕ} (so : IsChild ps m x j) → IsBehind ps 0 so.child
  behind_ {j = j} so = standing.parts so.child (among_at so.child ps j so.there) (ap is_part so.is)

  -- a part at the bottom has no parts
  childless : (j : ℕ) (q : Phrase) (part : Part) → slice_get ps j ≡ Some q → q.node ≡ OfPart true part → (x : List ℕ) (n : ℕ) → own ps (key space.Part j x) ≡ Some n → ⊥
  childless j q part there is x n has =
      let so = child_at ps found j x n has in
      let borne : bears ps j ≡ true = ap (bears ps) (sym so.parent) ∙ (behind_ so).borne in
      let bare : bears ps j ≡ false = ap (λ (o : Option Phrase). elim o [ None ↦ false | Some r ↦ has_parts r.node ]) there ∙ ap has_parts is in
      let other : true ≡ false = sym borne ∙ bare in cc

  -- a phrase among the first ones has a number below their length
  number_low : (d : List Phrase) (r : Phrase) → AreFirst d ps → IsAmong r d → r.number < length d
  number_low d r first within =
      let at = among_found r d within in
      let place = at_low d first.later at.0 r at.1 in
      omega (arith, counted at.0 r (ap (λ xs. slice_get xs at.0) first.whole ∙ place.0), place.1)

  module _ (p : Phrase) (name : Naming) (own_parts : List Part) (region : Region ps ps p name own_parts) where
    -- parts of a structure stand up to its end
    pub child_inside : (m : ℕ) (x : List ℕ) (j : ℕ) → length region.before ≤ m → m < length (region_of region.before region.around name own_parts) → own ps (key space.Part m x) ≡ Some j
        → (length region.before < j) × (j < length (region_of region.before region.around name own_parts))
    child_inside m x j low high is =
        (omega (arith, low, so.parent, behind.before, number), by (region.later so.child (among_at so.child ps j so.there))) where
          so : IsChild ps m x j
          so = child_at ps found m x j is

          behind : IsBehind ps 0 so.child
          behind = behind_ so

          number : so.child.number ≡ j
          number = counted j so.child so.there

          by : IsAmong so.child (region_of region.before region.around name own_parts) ⊎ Belongs ps (length (region_of region.before region.around name own_parts)) so.child
              → j < length (region_of region.before region.around name own_parts)
          by (inl within) = omega (arith, number_low (region_of region.before region.around name own_parts) so.child region.begun within, number)
          by (inr belongs) = absurd (omega (arith, (belongs (ap is_part so.is)).from, so.parent, high))

    down_inside : (m : ℕ) (xs : List (List ℕ)) (j : ℕ) → length region.before ≤ m → m < length (region_of region.before region.around name own_parts) → down ps m xs ≡ Some j
        → (length region.before ≤ j) × (j < length (region_of region.before region.around name own_parts))
    down_inside m [] j low high is = let same : m ≡ j = cc in (omega (arith, low, same), omega (arith, high, same))
    down_inside m (x ∷ xs) j low high is =
        let step = then_some (λ c. down ps c xs) (own ps (key space.Part m x)) j is in
        let inside = child_inside m x step.0 low high step.1.0 in
        down_inside step.0 xs j (omega (arith, inside.0)) inside.1 step.1.1

    structure_there : slice_get ps (length region.before) ≡ Some (phrase (length region.before) region.around (OfStructure name own_parts))
    structure_there = begun.there ps region.before region.around (OfStructure name own_parts) (begun.then_ (parts_first (below region.before region.around) [] (add region.before region.around (OfStructure name own_parts)) own_parts) region.begun)

    -- a structure is no part
    rootless : (m : ℕ) (x : List ℕ) → own ps (key space.Part m x) ≡ Some (length region.before) → ⊥
    rootless m x is =
        let so = child_at ps found m x (length region.before) is in
        let same : Some so.child ≡ Some (phrase (length region.before) region.around (OfStructure name own_parts)) = sym so.there ∙ structure_there in
        let one : so.child ≡ phrase (length region.before) region.around (OfStructure name own_parts) = cc in
        let nodes : OfPart so.bottom so.part ≡ OfStructure name own_parts = sym so.is ∙ ap (λ (r : Phrase). r.node) one in
        let other : true ≡ false = ap is_part nodes in
        cc

    -- what surrounds the structure's parts
    abbrev pub beside : Around
    beside = below region.before region.around

    abbrev pub around_part : List OpenPart → Part → Around
    around_part unclosed x = under (innermost (below region.before region.around).parent (still_open x.level unclosed)) (below region.before region.around)

    -- the phrases up to the end of a part
    abbrev pub to_end : List OpenPart → List Phrase → Part → List Part → List Phrase
    to_end unclosed d x xs = gathered_part (around_part unclosed x) (is_bottom x.level xs) d x

    pub rest_first : (unclosed : List OpenPart) (d : List Phrase) (x : Part) (xs : List Part) → AreFirst (gathered_parts beside unclosed d (x ∷ xs)) ps
        → AreFirst (gathered_parts beside (still_open x.level unclosed ++ ((x.level, length d) ∷ [])) (to_end unclosed d x xs) xs) ps
    unfolding gathered_parts
    rest_first unclosed d x xs whole = whole

    end_first : (unclosed : List OpenPart) (d : List Phrase) (x : Part) (xs : List Part) → AreFirst (gathered_parts beside unclosed d (x ∷ xs)) ps → AreFirst (to_end unclosed d x xs) ps
    end_first unclosed d x xs whole = begun.then_ (parts_first beside (still_open x.level unclosed ++ ((x.level, length d) ∷ [])) (to_end unclosed d x xs) xs) (rest_first unclosed d x xs whole)

    part_first : (unclosed : List OpenPart) (d : List Phrase) (x : Part) (xs : List Part) → AreFirst (add d (around_part unclosed x) (OfPart (is_bottom x.level xs) x)) (to_end unclosed d x xs)
    unfolding gathered_part
    part_first unclosed d x xs = attributes_first (below d (around_part unclosed x)) (add d (around_part unclosed x) (OfPart (is_bottom x.level xs) x)) x.attributes

    pub part_there : (unclosed : List OpenPart) (d : List Phrase) (x : Part) (xs : List Part) → AreFirst (gathered_parts beside unclosed d (x ∷ xs)) ps
        → slice_get ps (length d) ≡ Some (phrase (length d) (around_part unclosed x) (OfPart (is_bottom x.level xs) x))
    part_there unclosed d x xs whole = begun.there ps d (around_part unclosed x) (OfPart (is_bottom x.level xs) x) (begun.then_ (part_first unclosed d x xs) (end_first unclosed d x xs whole))

    pub part_grows : (unclosed : List OpenPart) (d : List Phrase) (x : Part) (xs : List Part) → length d < length (to_end unclosed d x xs)
    part_grows unclosed d x xs = omega (arith, longer (part_first unclosed d x xs), one_longer d (around_part unclosed x) (OfPart (is_bottom x.level xs) x))

    -- no other part stands before its end
    pub none_between : (unclosed : List OpenPart) (d : List Phrase) (x : Part) (xs : List Part) (j : ℕ) (q : Phrase) (c : Bool) (part : Part) → AreFirst (gathered_parts beside unclosed d (x ∷ xs)) ps
        → slice_get ps j ≡ Some q → q.node ≡ OfPart c part → length d < j → length (to_end unclosed d x xs) ≤ j
    unfolding gathered_part
    none_between unclosed d x xs j q c part whole there is more = by (nat_lt j (length (to_end unclosed d x xs))) refl where
      e : List Phrase
      e = add d (around_part unclosed x) (OfPart (is_bottom x.level xs) x)

      by : (b : Bool) → nat_lt j (length (to_end unclosed d x xs)) ≡ b → length (to_end unclosed d x xs) ≤ j
      by false far = ltb-false j (length (to_end unclosed d x xs)) far
      by true near =
          let adds = attributes_step (below d (around_part unclosed x)) (add d (around_part unclosed x) (OfPart (is_bottom x.level xs) x)) x.attributes in
          let first = end_first unclosed d x xs whole in
          let grown : length (to_end unclosed d x xs) ≡ length ((add d (around_part unclosed x) (OfPart (is_bottom x.level xs) x)) ++ adds.later) = ap (λ (zs : List Phrase). length zs) adds.whole in
          let within = at_middle (add d (around_part unclosed x) (OfPart (is_bottom x.level xs) x)) adds.later first.later j q
          (ap (λ zs. slice_get zs j) (sym (first.whole ∙ ap (λ zs. zs ++ first.later) adds.whole)) ∙ there)
          (omega (arith, more, one_longer d (around_part unclosed x) (OfPart (is_bottom x.level xs) x))) (omega (arith, ltb-true j (length (to_end unclosed d x xs)) near, grown)) in
          plain_no_part q.node (each_among IsPlain adds.later adds.plain q within) (ap is_part is)

    pub own_there : (unclosed : List OpenPart) (d : List Phrase) (x : Part) (xs : List Part) → AreFirst (gathered_parts beside unclosed d (x ∷ xs)) ps
        → own ps (key space.Part (innermost (length region.before) (still_open x.level unclosed)) x.name.name) ≡ Some (length d)
    own_there unclosed d x xs whole = own_of_part (length d) (phrase (length d) (around_part unclosed x) (OfPart (is_bottom x.level xs) x)) (is_bottom x.level xs) x (part_there unclosed d x xs whole) refl

    lead_there : (unclosed : List OpenPart) (above : List Above) (d : List Phrase) (x : Part) (xs : List Part) → Follows ps (length region.before) unclosed above (x ∷ xs)
        → AreFirst (gathered_parts beside unclosed d (x ∷ xs)) ps → down ps (length region.before) (path_to (lower x.level above) x) ≡ Some (length d)
    lead_there unclosed above d x xs follows whole = names_lead ps (length region.before) (length d) x (still_open x.level unclosed) (lower x.level above) follows (own_there unclosed d x xs whole)

    follow_open : (unclosed : List OpenPart) (above : List Above) (d : List Phrase) (x : Part) (xs : List Part) → Follows ps (length region.before) unclosed above (x ∷ xs)
        → AreFirst (gathered_parts beside unclosed d (x ∷ xs)) ps
        → Follows ps (length region.before) (still_open x.level unclosed ++ ((x.level, length d) ∷ [])) (lower x.level above ++ ((x.level, x.name.name) ∷ [])) xs
    follow_open unclosed above d x xs follows whole =
        follows_open ps (length region.before) (still_open x.level unclosed ++ ((x.level, length d) ∷ [])) (lower x.level above ++ ((x.level, x.name.name) ∷ [])) xs
        (leads_more ps x.level (length d) (length region.before) 0 x.name.name (still_open x.level unclosed) (lower x.level above) follows (still_below x.level unclosed) (omega arith) (own_there unclosed d x xs whole))

    follow_bottom : (unclosed : List OpenPart) (above : List Above) (d : List Phrase) (x : Part) (xs : List Part) → Follows ps (length region.before) unclosed above (x ∷ xs) → is_bottom x.level xs ≡ true
        → Follows ps (length region.before) (still_open x.level unclosed ++ ((x.level, length d) ∷ [])) (lower x.level above) xs
    follow_bottom unclosed above d x xs follows bottom = follows_bottom ps (length region.before) (length d) x (still_open x.level unclosed) (lower x.level above) xs follows bottom

    module _ (vs : Known) (path : List Naming) (j : ℕ) (q : Phrase) (leading : down ps (length region.before) (names_of path) ≡ Some j) (there : slice_get ps j ≡ Some q) where
      at_bottom : (above : List Above) (x : Part) (xs : List Part) → is_bottom x.level xs ≡ true → chosen path (components_from ps vs p above (x ∷ xs))
          ≡ cond (leads path (path_to (lower x.level above) x)) (component ps vs p (path_to (lower x.level above) x) x.attributes ∷ chosen path (components_from ps vs p (lower x.level above) xs)) (chosen path (components_from ps vs p (lower x.level above) xs))
      at_bottom above x xs is =
          ap (λ b. chosen path (if b then component ps vs p (path_to (lower x.level above) x) x.attributes ∷ components_from ps vs p (lower x.level above) xs
          else components_from ps vs p (lower x.level above ++ ((x.level, x.name.name) ∷ [])) xs)) is

      at_open : (above : List Above) (x : Part) (xs : List Part) → is_bottom x.level xs ≡ false
          → chosen path (components_from ps vs p above (x ∷ xs)) ≡ chosen path (components_from ps vs p (lower x.level above ++ ((x.level, x.name.name) ∷ [])) xs)
      at_open above x xs is =
          ap (λ b. chosen path (if b then component ps vs p (path_to (lower x.level above) x) x.attributes ∷ components_from ps vs p (lower x.level above) xs
          else components_from ps vs p (lower x.level above ++ ((x.level, x.name.name) ∷ [])) xs)) is

      -- the names of the part are the path
      named_so : (unclosed : List OpenPart) (above : List Above) (d : List Phrase) (x : Part) (xs : List Part) → Follows ps (length region.before) unclosed above (x ∷ xs)
          → AreFirst (gathered_parts beside unclosed d (x ∷ xs)) ps → length d ≡ j → path_to (lower x.level above) x ≡ names_of path
      named_so unclosed above d x xs follows whole same =
          one_way ps found (length region.before) rootless (path_to (lower x.level above) x) (names_of path) j (lead_there unclosed above d x xs follows whole ∙ ap Some same) leading

      part_is : (unclosed : List OpenPart) (d : List Phrase) (x : Part) (xs : List Part) (c : Bool) (part : Part) → AreFirst (gathered_parts beside unclosed d (x ∷ xs)) ps → q.node ≡ OfPart c part → length d ≡ j
          → (is_bottom x.level xs ≡ c) × (x ≡ part)
      part_is unclosed d x xs c part whole is same =
          parts_same (phrase (length d) (around_part unclosed x) (OfPart (is_bottom x.level xs) x)) q (is_bottom x.level xs) c x part (sym (part_there unclosed d x xs whole) ∙ (ap (slice_get ps) same ∙ there)) refl is

      module _ (part : Part) (is : q.node ≡ OfPart true part) where
        below_none : (rest : List (List ℕ)) (n : ℕ) → (n ≡ j → ⊥) → down ps j rest ≡ Some n → ⊥
        below_none [] n other so = other (cc)
        below_none (x ∷ xs) n other so = let step = then_some (λ c. down ps c xs) (own ps (key space.Part j x)) n so in childless j q part there is x step.0 step.1.0

        -- the path doesn't lead to another part
        apart : (names : List (List ℕ)) (n : ℕ) → down ps (length region.before) names ≡ Some n → (n ≡ j → ⊥) → leads path names ≡ false
        apart names n lead other = by (leads path names) refl where
          by : (c : Bool) → leads path names ≡ c → c ≡ false
          by false so = refl
          by true so =
              let front = leads_front path names so in
              absurd (below_none front.0 n other
              (sym (down_append ps (length region.before) (names_of path) front.0 ∙ ap (option_and_then (λ c. down ps c front.0)) leading) ∙ (ap (down ps (length region.before)) (sym front.1) ∙ lead)))

        -- another part that is passed
        passed : (above : List Above) (d : List Phrase) (x : Part) (xs : List Part) (cs : List Component) → down ps (length region.before) (path_to (lower x.level above) x) ≡ Some (length d) → (length d ≡ j → ⊥)
            → (b : Bool) → is_bottom x.level xs ≡ b → (is_bottom x.level xs ≡ true → chosen path (components_from ps vs p (lower x.level above) xs) ≡ cs)
            → (is_bottom x.level xs ≡ false → chosen path (components_from ps vs p (lower x.level above ++ ((x.level, x.name.name) ∷ [])) xs) ≡ cs) → chosen path (components_from ps vs p above (x ∷ xs)) ≡ cs
        passed above d x xs cs lead other true bottom first second =
            at_bottom above x xs bottom
            ∙ (cond_false (leads path (path_to (lower x.level above) x)) (component ps vs p (path_to (lower x.level above) x) x.attributes ∷ chosen path (components_from ps vs p (lower x.level above) xs))
            (chosen path (components_from ps vs p (lower x.level above) xs)) (apart (path_to (lower x.level above) x) (length d) lead other) ∙ first bottom)
        passed above d x xs cs lead other false open_ first second = at_open above x xs open_ ∙ second open_

        none_chosen : (unclosed : List OpenPart) (above : List Above) (d : List Phrase) (parts : List Part) → Follows ps (length region.before) unclosed above parts → AreFirst (gathered_parts beside unclosed d parts) ps
            → j < length d → chosen path (components_from ps vs p above parts) ≡ []
        none_chosen unclosed above d [] follows whole less = refl
        none_chosen unclosed above d (x ∷ xs) follows whole less =
            let grows = part_grows unclosed d x xs in
            passed above d x xs [] (lead_there unclosed above d x xs follows whole) (λ same. absurd (omega (arith, same, less))) (is_bottom x.level xs) refl
            (λ bottom. none_chosen (still_open x.level unclosed ++ ((x.level, length d) ∷ [])) (lower x.level above) (to_end unclosed d x xs) xs (follow_bottom unclosed above d x xs follows bottom) (rest_first unclosed d x xs whole) (omega (arith, grows, less)))
            (λ open_. none_chosen (still_open x.level unclosed ++ ((x.level, length d) ∷ [])) (lower x.level above ++ ((x.level, x.name.name) ∷ [])) (to_end unclosed d x xs) xs (follow_open unclosed above d x xs follows whole)
            (rest_first unclosed d x xs whole) (omega (arith, grows, less)))

        -- the part itself
        here_chosen : (unclosed : List OpenPart) (above : List Above) (d : List Phrase) (x : Part) (xs : List Part) → Follows ps (length region.before) unclosed above (x ∷ xs)
            → AreFirst (gathered_parts beside unclosed d (x ∷ xs)) ps → length d ≡ j → chosen path (components_from ps vs p above (x ∷ xs)) ≡ component ps vs p (names_of path) part.attributes ∷ []
        here_chosen unclosed above d x xs follows whole same =
            let so = part_is unclosed d x xs true part whole is same in
            let names = named_so unclosed above d x xs follows whole same in
            let leads_ : leads path (path_to (lower x.level above) x) ≡ true = ap (leads path) (names ∙ sym (append-nil (names_of path))) ∙ leads_own path [] in
            let none = none_chosen (still_open x.level unclosed ++ ((x.level, length d) ∷ [])) (lower x.level above) (to_end unclosed d x xs) xs (follow_bottom unclosed above d x xs follows so.0) (rest_first unclosed d x xs whole)
            (omega (arith, part_grows unclosed d x xs, same)) in
            at_bottom above x xs so.0
            ∙ (cond_true (leads path (path_to (lower x.level above) x)) (component ps vs p (path_to (lower x.level above) x) x.attributes ∷ chosen path (components_from ps vs p (lower x.level above) xs))
            (chosen path (components_from ps vs p (lower x.level above) xs)) leads_
            ∙ (ap (λ (zs : List Component). component ps vs p (path_to (lower x.level above) x) x.attributes ∷ zs) none
            ∙ (ap (λ ns. component ps vs p ns x.attributes ∷ []) names ∙ ap (λ (y : Part). component ps vs p (names_of path) y.attributes ∷ []) so.1)))

        one_chosen : (unclosed : List OpenPart) (above : List Above) (d : List Phrase) (parts : List Part) → Follows ps (length region.before) unclosed above parts → AreFirst (gathered_parts beside unclosed d parts) ps
            → length d ≤ j → j < length (gathered_parts beside unclosed d parts) → chosen path (components_from ps vs p above parts) ≡ component ps vs p (names_of path) part.attributes ∷ []
        unfolding gathered_parts
        one_chosen unclosed above d [] follows whole low high = absurd (omega (arith, low, high))
        one_chosen unclosed above d (x ∷ xs) follows whole low high =
            by (nat_lt (length d) j) refl
            (λ far bottom. one_chosen (still_open x.level unclosed ++ ((x.level, length d) ∷ [])) (lower x.level above) (to_end unclosed d x xs) xs (follow_bottom unclosed above d x xs follows bottom) (rest_first unclosed d x xs whole) far high)
            (λ far open_. one_chosen (still_open x.level unclosed ++ ((x.level, length d) ∷ [])) (lower x.level above ++ ((x.level, x.name.name) ∷ [])) (to_end unclosed d x xs) xs (follow_open unclosed above d x xs follows whole)
            (rest_first unclosed d x xs whole) far high) where
              by : (b : Bool) → nat_lt (length d) j ≡ b
                  → (length (to_end unclosed d x xs) ≤ j → is_bottom x.level xs ≡ true → chosen path (components_from ps vs p (lower x.level above) xs) ≡ component ps vs p (names_of path) part.attributes ∷ [])
                  → (length (to_end unclosed d x xs) ≤ j → is_bottom x.level xs ≡ false
                  → chosen path (components_from ps vs p (lower x.level above ++ ((x.level, x.name.name) ∷ [])) xs) ≡ component ps vs p (names_of path) part.attributes ∷ [])
                  → chosen path (components_from ps vs p above (x ∷ xs)) ≡ component ps vs p (names_of path) part.attributes ∷ []
              by false near first second = here_chosen unclosed above d x xs follows whole (omega (arith, low, ltb-false (length d) j near))
              by true more first second =
                  let far = none_between unclosed d x xs j q true part whole there is (ltb-true (length d) j more) in
                  passed above d x xs (component ps vs p (names_of path) part.attributes ∷ []) (lead_there unclosed above d x xs follows whole) (λ same. absurd (omega (arith, same, ltb-true (length d) j more))) (is_bottom x.level xs) refl (first far) (second far)

      some_so : (b : Bool) (c : Component) (cs : List Component) → 0 < length cs → 0 < length (cond b (c ∷ cs) cs)
      some_so true c cs some = omega arith
      some_so false c cs some = some

      -- below a part to which the path leads there is a component
      inner_chosen : (above : List Above) (parts : List Part) (rest : List (List ℕ)) → map (λ (one : Above). one.1) above ≡ names_of path ++ rest → StartsDeeper above parts
          → 0 < length (chosen path (components_from ps vs p above parts))
      inner_chosen above [] rest so deeper = absurd deeper
      inner_chosen above (y ∷ ys) rest so deeper =
          by (is_bottom y.level ys) refl
          (λ open_. inner_chosen (lower y.level above ++ ((y.level, y.name.name) ∷ [])) ys (rest ++ (y.name.name ∷ []))
          (map-append (λ (one : Above). one.1) (lower y.level above) ((y.level, y.name.name) ∷ []) ∙ names) (starts_deeper y above ys open_)) where
            names : path_to (lower y.level above) y ≡ names_of path ++ (rest ++ (y.name.name ∷ []))
            names = ap (λ (zs : List Above). map (λ (one : Above). one.1) zs ++ (y.name.name ∷ [])) deeper ∙ (ap (λ ns. ns ++ (y.name.name ∷ [])) so ∙ append_assoc (names_of path) rest (y.name.name ∷ []))

            by : (b : Bool) → is_bottom y.level ys ≡ b → (is_bottom y.level ys ≡ false → 0 < length (chosen path (components_from ps vs p (lower y.level above ++ ((y.level, y.name.name) ∷ [])) ys)))
                → 0 < length (chosen path (components_from ps vs p above (y ∷ ys)))
            by true bottom later =
                subst (λ (zs : List Component). 0 < length zs)
                (sym (at_bottom above y ys bottom
                ∙ cond_true (leads path (path_to (lower y.level above) y)) (component ps vs p (path_to (lower y.level above) y) y.attributes ∷ chosen path (components_from ps vs p (lower y.level above) ys))
                (chosen path (components_from ps vs p (lower y.level above) ys)) (ap (leads path) names ∙ leads_own path (rest ++ (y.name.name ∷ [])))))
                (omega arith)
            by false open_ later = subst (λ (zs : List Component). 0 < length zs) (sym (at_open above y ys open_)) (later open_)

      module _ (part : Part) (is : q.node ≡ OfPart false part) where
        here_some : (unclosed : List OpenPart) (above : List Above) (d : List Phrase) (x : Part) (xs : List Part) → Follows ps (length region.before) unclosed above (x ∷ xs)
            → AreFirst (gathered_parts beside unclosed d (x ∷ xs)) ps → length d ≡ j → 0 < length (chosen path (components_from ps vs p above (x ∷ xs)))
        here_some unclosed above d x xs follows whole same =
            let so = part_is unclosed d x xs false part whole is same in
            let names = named_so unclosed above d x xs follows whole same in
            subst (λ (zs : List Component). 0 < length zs) (sym (at_open above x xs so.0))
            (inner_chosen (lower x.level above ++ ((x.level, x.name.name) ∷ [])) xs []
            (map-append (λ (one : Above). one.1) (lower x.level above) ((x.level, x.name.name) ∷ []) ∙ (names ∙ sym (append-nil (names_of path)))) (starts_deeper x above xs so.0))

        passed_some : (above : List Above) (x : Part) (xs : List Part) → (b : Bool) → is_bottom x.level xs ≡ b → (is_bottom x.level xs ≡ true → 0 < length (chosen path (components_from ps vs p (lower x.level above) xs)))
            → (is_bottom x.level xs ≡ false → 0 < length (chosen path (components_from ps vs p (lower x.level above ++ ((x.level, x.name.name) ∷ [])) xs)))
            → 0 < length (chosen path (components_from ps vs p above (x ∷ xs)))
        passed_some above x xs true bottom first second =
            subst (λ (zs : List Component). 0 < length zs) (sym (at_bottom above x xs bottom))
            (some_so (leads path (path_to (lower x.level above) x)) (component ps vs p (path_to (lower x.level above) x) x.attributes) (chosen path (components_from ps vs p (lower x.level above) xs)) (first bottom))
        passed_some above x xs false open_ first second = subst (λ (zs : List Component). 0 < length zs) (sym (at_open above x xs open_)) (second open_)

        some_chosen : (unclosed : List OpenPart) (above : List Above) (d : List Phrase) (parts : List Part) → Follows ps (length region.before) unclosed above parts → AreFirst (gathered_parts beside unclosed d parts) ps
            → length d ≤ j → j < length (gathered_parts beside unclosed d parts) → 0 < length (chosen path (components_from ps vs p above parts))
        unfolding gathered_parts
        some_chosen unclosed above d [] follows whole low high = absurd (omega (arith, low, high))
        some_chosen unclosed above d (x ∷ xs) follows whole low high =
            by (nat_lt (length d) j) refl
            (λ far bottom. some_chosen (still_open x.level unclosed ++ ((x.level, length d) ∷ [])) (lower x.level above) (to_end unclosed d x xs) xs (follow_bottom unclosed above d x xs follows bottom) (rest_first unclosed d x xs whole) far high)
            (λ far open_. some_chosen (still_open x.level unclosed ++ ((x.level, length d) ∷ [])) (lower x.level above ++ ((x.level, x.name.name) ∷ [])) (to_end unclosed d x xs) xs (follow_open unclosed above d x xs follows whole)
            (rest_first unclosed d x xs whole) far high) where
              by : (b : Bool) → nat_lt (length d) j ≡ b → (length (to_end unclosed d x xs) ≤ j → is_bottom x.level xs ≡ true → 0 < length (chosen path (components_from ps vs p (lower x.level above) xs)))
                  → (length (to_end unclosed d x xs) ≤ j → is_bottom x.level xs ≡ false → 0 < length (chosen path (components_from ps vs p (lower x.level above ++ ((x.level, x.name.name) ∷ [])) xs)))
                  → 0 < length (chosen path (components_from ps vs p above (x ∷ xs)))
              by false near first second = here_some unclosed above d x xs follows whole (omega (arith, low, ltb-false (length d) j near))
              by true more first second =
                  let far = none_between unclosed d x xs j q false part whole there is (ltb-true (length d) j more) in
                  passed_some above x xs (is_bottom x.level xs) refl (first far) (second far)

      follows_start : (parts : List Part) → Follows ps (length region.before) [] [] parts
      unfolding still_open
      follows_start [] = tt
      follows_start (y ∷ ys) = tt

      -- the part stands behind its structure
      behind_structure : (c : Bool) (part : Part) → q.node ≡ OfPart c part → (length (add region.before region.around (OfStructure name own_parts)) ≤ j) × (j < length (region_of region.before region.around name own_parts))
      behind_structure c part is =
          let one_more = one_longer region.before region.around (OfStructure name own_parts) in
          let grows = longer (parts_first (below region.before region.around) [] (add region.before region.around (OfStructure name own_parts)) own_parts) in
          let inside = down_inside (length region.before) (names_of path) j (omega arith) (omega (arith, one_more, grows)) leading in
          (by (nat_lt (length region.before) j) refl inside.0, inside.1) where
            by : (b : Bool) → nat_lt (length region.before) j ≡ b → length region.before ≤ j → length (add region.before region.around (OfStructure name own_parts)) ≤ j
            by true more low = omega (arith, ltb-true (length region.before) j more, one_longer region.before region.around (OfStructure name own_parts))
            by false near low =
                let same : length region.before ≡ j = omega (arith, ltb-false (length region.before) j near, low) in
                let phrases : Some (phrase (length region.before) region.around (OfStructure name own_parts)) ≡ Some q = sym structure_there ∙ (ap (slice_get ps) same ∙ there) in
                let one : phrase (length region.before) region.around (OfStructure name own_parts) ≡ q = cc in
                let nodes : OfStructure name own_parts ≡ OfPart c part = ap (λ (r : Phrase). r.node) one ∙ is in
                let other : false ≡ true = ap is_part nodes in
                absurd (cc)

      bottom_chosen : (part : Part) → q.node ≡ OfPart true part → chosen path (components_from ps vs p [] own_parts) ≡ component ps vs p (names_of path) part.attributes ∷ []
      bottom_chosen part is =
          let place = behind_structure true part is in
          one_chosen part is [] [] (add region.before region.around (OfStructure name own_parts)) own_parts (follows_start own_parts) region.begun place.0 place.1

      others_chosen : (part : Part) → q.node ≡ OfPart false part → 0 < length (chosen path (components_from ps vs p [] own_parts))
      others_chosen part is =
          let place = behind_structure false part is in
          some_chosen part is [] [] (add region.before region.around (OfStructure name own_parts)) own_parts (follows_start own_parts) region.begun place.0 place.1

  -- a structure stands behind as many phrases as its number says
  structure_number : (k : ℕ) (p : Phrase) (name : Naming) (parts : List Part) (region : Region ps ps p name parts) → slice_get ps k ≡ Some p → k ≡ length region.before
  structure_number k p name parts region there = sym (counted k p there) ∙ ap (λ (r : Phrase). r.number) region.is

  leading_from : (k j : ℕ) (p : Phrase) (name : Naming) (parts : List Part) (region : Region ps ps p name parts) (path : List Naming) → slice_get ps k ≡ Some p → part_under ps k path ≡ Some j
      → down ps (length region.before) (names_of path) ≡ Some j
  leading_from k j p name parts region path there is = ap (λ n. down ps n (names_of path)) (sym (structure_number k p name parts region there)) ∙ (sym (under_down ps k path) ∙ is)

  pub choose_bottom : (vs : Known) (k j : ℕ) (p q : Phrase) (name : Naming) (parts : List Part) (path : List Naming) (part : Part) → slice_get ps k ≡ Some p → p.node ≡ OfStructure name parts → part_under ps k path ≡ Some j
      → slice_get ps j ≡ Some q → q.node ≡ OfPart true part → chosen path (components_at ps vs p p.node) ≡ component ps vs p (names_of path) part.attributes ∷ []
  choose_bottom vs k j p q name parts path part there is leading at so =
      let region = standing.regions p name parts (among_at p ps k there) is in
      ap (λ (n : Node). chosen path (components_at ps vs p n)) is ∙ bottom_chosen p name parts region vs path j q (leading_from k j p name parts region path there leading) at part so

  pub choose_some : (vs : Known) (k j : ℕ) (p q : Phrase) (name : Naming) (parts : List Part) (path : List Naming) (part : Part) → slice_get ps k ≡ Some p → p.node ≡ OfStructure name parts → part_under ps k path ≡ Some j
      → slice_get ps j ≡ Some q → q.node ≡ OfPart false part → 0 < length (chosen path (components_at ps vs p p.node))
  choose_some vs k j p q name parts path part there is leading at so =
      let region = standing.regions p name parts (among_at p ps k there) is in
      subst (λ (n : Node). 0 < length (chosen path (components_at ps vs p n))) (sym is)
      (others_chosen p name parts region vs path j q (leading_from k j p name parts region path there leading) at part so)

  -- a part to which a path leads from a structure stands behind it, among its parts
  pub inside_structure : (k j : ℕ) (p q : Phrase) (name : Naming) (parts : List Part) (path : List Naming) (bottom : Bool) (part : Part) (region : Region ps ps p name parts) → slice_get ps k ≡ Some p → part_under ps k path ≡ Some j
      → slice_get ps j ≡ Some q → q.node ≡ OfPart bottom part → (length region.before < j) × (j < length (region_of region.before region.around name parts))
  inside_structure k j p q name parts path bottom part region there leading at so =
      let place = behind_structure p name parts region [] path j q (leading_from k j p name parts region path there leading) at bottom part so in
      (omega (arith, place.0, one_longer region.before region.around (OfStructure name parts)), place.1)
