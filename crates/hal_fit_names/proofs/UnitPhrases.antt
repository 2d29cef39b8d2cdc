-- The phrase of a unit that has a body.
use Rattle.std.proofs.Common.{◌≡◌, ℕ, ◌==◌, Bool, true, false, List, [], ◌∷◌, Option, Some, None, slice_get, refl, sym, ap, ◌∙◌, inl, inr}
use Rattle.std.specs.Prelude.{flat_map, find, if◌then◌else◌, cond}
use Rattle.std.specs.List.{cons_option}
use Rattle.std.proofs.lemmas.Bool.{eqb-true}
use Rattle.hal_grammar.specs.Leaves.{Naming}
use Rattle.hal_grammar.specs.Declarations.{Declaration}
use Rattle.hal_grammar.specs.Units.{Head, Block, BlockOf, File}
use Rattle.hal_phrases.specs.Phrases.{Node, Phrase, OfUnit}
use Rattle.hal_phrases.specs.GatheredUnits.{phrases_of}
use Rattle.hal_names.specs.Laws.{IsCounted}
use Rattle.hal_scope.specs.Rules.{IsAmong}
use Rattle.hal_meaning.specs.Bodies.{Body, body_of, is_unit, units_from, bodies_from, bodies_of}
use Rattle.hal_meaning.specs.Places.{unit_numbers}
use Rattle.hal_meaning.specs.Sets.{Set}
use Rattle.hal_fit_rules.proofs.Constants.{among_found}
use Rattle.hal_fit_names.specs.Bodied.{IsUnitOf}
use Rattle.hal_fit_names.proofs.Bodied.{unit_has_body}

-- a body that is found has a number among those that bodies were made of
number_of_found : (ps : List Phrase) (k : ℕ) (ks : List ℕ) (bs : List Block) (b : Body) → find (λ (x : Body). x.number == k) (bodies_from ps ks bs) ≡ Some b → IsAmong k ks
number_of_found ps k [] [] b is = absurd (cc)
number_of_found ps k [] (x ∷ bs) b is = absurd (cc)
number_of_found ps k (j ∷ ks) [] b is = absurd (cc)
number_of_found ps k (j ∷ ks) (BlockOf name head declarations elements close ∷ bs) b is =
    by (body_of ps j (BlockOf name head declarations elements close)) (find (λ (x : Body). x.number == k) (bodies_from ps ks bs)) (j == k) refl is (λ later. number_of_found ps k ks bs b later) where
      by : (x : Body) (o : Option Body) (same : Bool) → (j == k) ≡ same → cond same (Some x) o ≡ Some b → (o ≡ Some b → IsAmong k ks) → IsAmong k (j ∷ ks)
      by x o true so found rest = inl (sym (eqb-true j k so))
      by x o false so found rest = inr (rest found)

-- a phrase of a unit, with this number
record IsUnitPhrase (xs : List Phrase) (k : ℕ) : Type 0 where
  phrase : Phrase
  within : IsAmong phrase xs
  number : phrase.number ≡ k
  is : is_unit phrase.node ≡ true

later_phrase : (x : Phrase) (xs : List Phrase) (k : ℕ) → IsUnitPhrase xs k → IsUnitPhrase (x ∷ xs) k
later_phrase x xs k one = record { phrase = one.phrase; within = inr one.within; number = one.number; is = one.is }

-- each number of a unit is that of a phrase
phrase_of_number : (xs : List Phrase) (k : ℕ) → IsAmong k (unit_numbers xs) → IsUnitPhrase xs k
phrase_of_number [] k within = absurd within
phrase_of_number (x ∷ xs) k within = by (is_unit x.node) refl within (λ later. phrase_of_number xs k later) where
  by : (b : Bool) → is_unit x.node ≡ b → IsAmong k (cons_option (if b then Some x.number else None) (unit_numbers xs)) → (IsAmong k (unit_numbers xs) → IsUnitPhrase xs k) → IsUnitPhrase (x ∷ xs) k
  by true is (inl same) rest = record { phrase = x; within = inl refl; number = sym same; is = is }
  by true is (inr later) rest = later_phrase x xs k (rest later)
  by false is later rest = later_phrase x xs k (rest later)

unit_node : (n : Node) → is_unit n ≡ true → (name : Naming) × (head : Head) × (declarations : List Declaration) × (n ≡ OfUnit name head declarations)
unit_node (OfUnit name head declarations) is = (name, head, declarations, refl)
unit_node other is = absurd (cc)

-- so a unit that has a body has a phrase, with the head of the body
pub body_has_phrase : (files : List File) (s : Set) (k : ℕ) (b : Body) → IsCounted s.phrases → s.phrases ≡ phrases_of files → s.bodies ≡ bodies_of files s.phrases → find (λ (x : Body). x.number == k) s.bodies ≡ Some b
    → IsUnitOf s.phrases k b
body_has_phrase files s k b counted whole bodies found =
    let ps : List Phrase = s.phrases in
    let one = phrase_of_number ps k (number_of_found ps k (unit_numbers ps) (flat_map (λ (f : File). units_from f.block) files) b (ap (find (λ (x : Body). x.number == k)) (sym bodies) ∙ found)) in
    let place = among_found one.phrase ps one.within in
    let there : slice_get ps k ≡ Some one.phrase = ap (slice_get ps) (sym one.number ∙ counted place.0 one.phrase place.1) ∙ place.1 in
    let is = unit_node one.phrase.node one.is in
    let has = unit_has_body files s k one.phrase is.0 is.1 is.2 counted whole bodies there is.3 in
    let first : has.body ≡ b = let other = sym has.found ∙ found in cc in
    record { phrase = one.phrase; there = there; name = is.0; declarations = is.2; declares = is.3 ∙ ap (λ h. OfUnit is.0 h is.2) (sym has.same ∙ ap (λ (x : Body). x.head) first); number = ap (λ (x : Body). x.number) (sym first) ∙ has.number }
