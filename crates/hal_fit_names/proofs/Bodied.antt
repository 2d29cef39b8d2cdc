-- Each unit of a set of files has its body.
use Rattle.std.proofs.Common.{◌≡◌, ℕ, ◌==◌, Bool, true, false, List, [], ◌∷◌, ◌++◌, length, Option, Some, None, slice_get, refl, sym, ap, ◌∙◌, subst, inl, inr, append-nil, append_assoc}
use Rattle.std.specs.Prelude.{flat_map, find, if◌then◌else◌}
use Rattle.std.specs.List.{cons_option}
use Rattle.std.proofs.lemmas.Bool.{eqb-true, eq-eqb}
use Rattle.hal_grammar.specs.Leaves.{Naming}
use Rattle.hal_grammar.specs.Declarations.{Declaration}
use Rattle.hal_grammar.specs.Units.{Head, Program, Compool, Task, Procedure, Function, Block, BlockOf, Elements, NoElements, StatementFirst, BlockFirst, File}
use Rattle.hal_phrases.specs.declared.around.Around.{Around}
use Rattle.hal_phrases.specs.Surroundings.{in_file, behind, opened}
use Rattle.hal_phrases.specs.Phrases.{Node, Phrase, phrase, add, OfUnit, OfParameter, gathered_each}
use Rattle.hal_phrases.specs.GatheredStatements.{gathered_statement}
use Rattle.hal_phrases.specs.GatheredUnits.{gathered_parameter, gathered_head, gathered_block, gathered_elements, gathered_file, phrases_of}
use Rattle.hal_names.specs.Laws.{IsCounted}
use Rattle.hal_scope.specs.Rules.{IsAmong}
use Rattle.hal_meaning.specs.Bodies.{Body, body_of, is_unit, units_from, units_within, bodies_from, bodies_of}
use Rattle.hal_meaning.specs.Calls.{inputs_of}
use Rattle.hal_meaning.specs.Places.{unit_numbers}
use Rattle.hal_meaning.specs.Sets.{Set}
use Rattle.hal_sound_names.proofs.LookingStatements.{statement_goes, close_goes}
use Rattle.hal_sound_names.proofs.LookingUnits.{declared_numbers, before_others}
use Rattle.hal_fit_rules.specs.Begun.{AreFirst}
use Rattle.hal_fit_rules.proofs.Beginning.{then_, one, each, there, among}
use Rattle.hal_fit_rules.proofs.BegunStatements.{close_first}
use Rattle.hal_fit_rules.proofs.BegunDeclarations.{head_first, declarations_first}
use Rattle.hal_fit_rules.proofs.BegunUnits.{with_own, with_head, with_declared, elements_first, before_unit, files_first}
use Rattle.hal_fit_names.specs.Bodied.{HasBody}
use Rattle.hal_fit_names.proofs.Placing.{at_among}

-- the head of a unit's phrase
abbrev head_in : Node → Option Head
head_in (OfUnit name head declarations) = Some head
head_in other = None

abbrev head_at : Option Phrase → Option Head
head_at None = None
head_at (Some p) = head_in p.node

same_head : (h head : Head) → Some h ≡ Some head → h ≡ head
same_head h head is = cc

later_of : (k j : ℕ) (ks : List ℕ) → (j == k) ≡ false → IsAmong k (j ∷ ks) → IsAmong k ks
later_of k j ks other (inl same) = let one : true ≡ false = sym (eq-eqb j k (sym same)) ∙ other in absurd (cc)
later_of k j ks other (inr later) = later

-- the first body with a number
body_first : (k : ℕ) (head : Head) (b : Body) (bodies : List Body) (same : Bool) → (b.number == k) ≡ same → (b.number ≡ k → b.head ≡ head) → ((b.number == k) ≡ false → HasBody bodies k head) → HasBody (b ∷ bodies) k head
body_first k head b bodies true is here more = record {
  body = b;
  found = ap (λ t. if t then Some b else find (λ (x : Body). x.number == k) bodies) is;
  same = here (eqb-true b.number k is);
  number = eqb-true b.number k is;
}
body_first k head b bodies false is here more =
    let rest = more is in
    record { body = rest.body; found = ap (λ t. if t then Some b else find (λ (x : Body). x.number == k) bodies) is ∙ rest.found; same = rest.same; number = rest.number }

number_first : (b : Bool) (n m : ℕ) (ys : List ℕ) → b ≡ true → n ≡ m → IsAmong n (cons_option (if b then Some m else None) ys)
number_first true n m ys is same = inl same
number_first false n m ys is same = absurd (cc)

number_later : (o : Option ℕ) (n : ℕ) (ys : List ℕ) → IsAmong n ys → IsAmong n (cons_option o ys)
number_later None n ys within = within
number_later (Some m) n ys within = inr within

-- a phrase of the unit with this number has the name of an input parameter
pub record IsInput (ps : List Phrase) (k : ℕ) (name : Naming) : Type 0 where
  pub phrase : Phrase
  pub within : IsAmong phrase ps
  pub is : phrase.node ≡ OfParameter name false
  pub home : phrase.around.home ≡ k

-- each of these names
abbrev pub AreInputs : List Phrase → ℕ → List Naming → Type 0
AreInputs ps k [] = Unit {0}
AreInputs ps k (name ∷ names) = IsInput ps k name × AreInputs ps k names

module _ (ps : List Phrase) where
  each_input : (a : Around) (d : List Phrase) (names : List Naming) → AreFirst (gathered_each (gathered_parameter a false) d names) ps → AreInputs ps a.home names
  each_input a d [] begun = tt
  each_input a d (name ∷ names) begun =
      let e : List Phrase = add d a (OfParameter name false) in (
        record {
          phrase = phrase (length d) a (OfParameter name false);
          within = among ps d a (OfParameter name false) (then_ (each (gathered_parameter a false) (λ f x. one f a (OfParameter x false)) e names) begun);
          is = refl;
          home = refl;
        },
        each_input a e names begun,
      )

  -- the input parameters of a head
  head_inputs : (a : Around) (d : List Phrase) (head : Head) → AreFirst (gathered_head d a head) ps → AreInputs ps a.home (inputs_of head)
  unfolding gathered_head
  head_inputs a d (Program place) begun = tt
  head_inputs a d (Compool place) begun = tt
  head_inputs a d (Task place) begun = tt
  head_inputs a d (Procedure place inputs outputs mode) begun =
      let e : List Phrase = gathered_each (gathered_parameter a false) d inputs in each_input a d inputs (then_ (each (gathered_parameter a true) (λ f x. one f a (OfParameter x true)) e outputs) begun)
  head_inputs a d (Function place inputs returns mode) begun =
      let e : List Phrase = gathered_each (gathered_parameter a false) d inputs in each_input a d inputs (then_ (head_first e a (Function place [] returns mode)) begun)

  -- the phrase with this number is that of the unit
  abbrev IsUnitAt : ℕ → Block → Type 0
  IsUnitAt k (BlockOf name head declarations body close) = (a : Around) × (slice_get ps k ≡ Some (phrase k a (OfUnit name head declarations))) × AreInputs ps k (inputs_of head)

  abbrev ArePaired : List ℕ → List Block → Type 0
  ArePaired [] [] = Unit {0}
  ArePaired (k ∷ ks) (b ∷ bs) = IsUnitAt k b × ArePaired ks bs
  ArePaired [] (b ∷ bs) = ⊥
  ArePaired (k ∷ ks) [] = ⊥

  paired_append : (ks js : List ℕ) (bs cs : List Block) → ArePaired ks bs → ArePaired js cs → ArePaired (ks ++ js) (bs ++ cs)
  paired_append [] js [] cs first second = second
  paired_append (k ∷ ks) js (b ∷ bs) cs first second = (first.0, paired_append ks js bs cs first.1 second)
  paired_append [] js (b ∷ bs) cs first second = absurd first
  paired_append (k ∷ ks) js [] cs first second = absurd first

  -- the units among the phrases that are added
  record Pairs (d e : List Phrase) (bs : List Block) : Type 0 where
    ks : List ℕ
    numbers : unit_numbers e ≡ unit_numbers d ++ ks
    pairs : AreFirst e ps → ArePaired ks bs

  no_units : (d : List Phrase) → Pairs d d []
  no_units d = record { ks = []; numbers = sym (append-nil (unit_numbers d)); pairs = λ begun. tt }

  after_others : (d e h : List Phrase) (bs : List Block) → unit_numbers e ≡ unit_numbers d → Pairs e h bs → Pairs d h bs
  after_others d e h bs same units = record { ks = units.ks; numbers = units.numbers ∙ ap (λ x. x ++ units.ks) same; pairs = units.pairs }

  then_units : (d e h : List Phrase) (bs cs : List Block) → AreFirst e h → Pairs d e bs → Pairs e h cs → Pairs d h (bs ++ cs)
  then_units d e h bs cs more first second = record {
    ks = first.ks ++ second.ks;
    numbers = second.numbers ∙ (ap (λ x. x ++ second.ks) first.numbers ∙ append_assoc (unit_numbers d) first.ks second.ks);
    pairs = λ begun. paired_append first.ks second.ks bs cs (first.pairs (then_ more begun)) (second.pairs begun);
  }

  mutual
    unfolding gathered_block gathered_elements

    block_pairs : (d : List Phrase) (a : Around) (b : Block) → Pairs d (gathered_block d a b) (units_from b)
    block_pairs d a (BlockOf name head declarations body close) =
        let k : ℕ = length d in
        let d1 : List Phrase = with_own d a name head declarations in
        let d2 : List Phrase = with_head d a name head declarations in
        let d3 : List Phrase = with_declared d a name head declarations in
        let d4 : List Phrase = gathered_elements d3 (opened k a) body in
        let inner = elements_pairs d3 (opened k a) body in
        record {
          ks = k ∷ inner.ks;
          numbers = (close_goes 0 0 (opened k a) d4 close).units ∙ (inner.numbers ∙ (ap (λ x. x ++ inner.ks) (declared_numbers d a name head declarations) ∙ append_assoc (unit_numbers d) (k ∷ []) inner.ks));
          pairs = λ begun.
              let body_begun = then_ (close_first (opened k a) d4 close) begun in
              let head_begun = then_ (declarations_first (opened k a) d2 declarations) (then_ (elements_first d3 (opened k a) body) body_begun) in (
                (a, there ps d a (OfUnit name head declarations) (then_ (head_first d1 (opened k a) head) head_begun), head_inputs (opened k a) d1 head head_begun),
                inner.pairs body_begun,
              );
        }

    elements_pairs : (d : List Phrase) (a : Around) (x : Elements) → Pairs d (gathered_elements d a x) (units_within x)
    elements_pairs d a NoElements = no_units d
    elements_pairs d a (StatementFirst x others) =
        let e : List Phrase = gathered_statement d a x in after_others d e (gathered_elements e a others) (units_within others) (statement_goes 0 0 d a x).units (elements_pairs e a others)
    elements_pairs d a (BlockFirst b others) =
        let e : List Phrase = gathered_block d a b in then_units d e (gathered_elements e a others) (units_from b) (units_within others) (elements_first e a others) (block_pairs d a b) (elements_pairs e a others)

  file_pairs : (d : List Phrase) (f : File) → Pairs d (gathered_file d f) (units_from f.block)
  unfolding gathered_file
  file_pairs d f =
      let e : List Phrase = before_unit d f in
      after_others d e (gathered_block e (behind (length f.prefaces) (in_file (length d))) f.block) (units_from f.block) (before_others d f).units (block_pairs e (behind (length f.prefaces) (in_file (length d))) f.block)

  files_pairs : (d : List Phrase) (fs : List File) → Pairs d (gathered_each gathered_file d fs) (flat_map (λ (f : File). units_from f.block) fs)
  files_pairs d [] = no_units d
  files_pairs d (f ∷ fs) =
      let e : List Phrase = gathered_file d f in
      then_units d e (gathered_each gathered_file e fs) (units_from f.block) (flat_map (λ (x : File). units_from x.block) fs) (files_first e fs) (file_pairs d f) (files_pairs e fs)

  -- a unit with this number has its body, where the phrase with that number has this head
  unit_found : (qs : List Phrase) (k : ℕ) (head : Head) (ks : List ℕ) (bs : List Block) → ArePaired ks bs → IsAmong k ks → head_at (slice_get ps k) ≡ Some head → HasBody (bodies_from qs ks bs) k head
  unit_found qs k head [] bs paired within is = absurd within
  unit_found qs k head (j ∷ ks) [] paired within is = absurd paired
  unit_found qs k head (j ∷ ks) (BlockOf name h declarations body close ∷ bs) paired within is =
      body_first k head (body_of qs j (BlockOf name h declarations body close)) (bodies_from qs ks bs) (j == k) refl
      (λ here. same_head h head (sym (ap (λ (o : Option Phrase). head_at o) paired.0.1) ∙ (ap (λ i. head_at (slice_get ps i)) here ∙ is))) (λ other. unit_found qs k head ks bs paired.1 (later_of k j ks other within) is)

  -- and its input parameters
  unit_inputs : (k : ℕ) (head : Head) (ks : List ℕ) (bs : List Block) → ArePaired ks bs → IsAmong k ks → head_at (slice_get ps k) ≡ Some head → AreInputs ps k (inputs_of head)
  unit_inputs k head [] bs paired within is = absurd within
  unit_inputs k head (j ∷ ks) [] paired within is = absurd paired
  unit_inputs k head (j ∷ ks) (BlockOf name h declarations body close ∷ bs) paired (inl same) is =
      let heads : h ≡ head = same_head h head (sym (ap (λ (o : Option Phrase). head_at o) paired.0.1) ∙ (ap (λ i. head_at (slice_get ps i)) (sym same) ∙ is)) in
      subst (λ i. AreInputs ps i (inputs_of head)) (sym same) (subst (λ x. AreInputs ps j (inputs_of x)) heads paired.0.2)
  unit_inputs k head (j ∷ ks) (BlockOf name h declarations body close ∷ bs) paired (inr later) is = unit_inputs k head ks bs paired.1 later is

-- a unit's number is among those of the units
unit_among : (xs : List Phrase) (p : Phrase) → IsAmong p xs → is_unit p.node ≡ true → IsAmong p.number (unit_numbers xs)
unit_among [] p within is = absurd within
unit_among (x ∷ xs) p (inl same) is = number_first (is_unit x.node) p.number x.number (unit_numbers xs) (ap (λ (y : Phrase). is_unit y.node) (sym same) ∙ is) (ap (λ (y : Phrase). y.number) same)
unit_among (x ∷ xs) p (inr later) is = number_later (if is_unit x.node then Some x.number else None) p.number (unit_numbers xs) (unit_among xs p later is)

pub unit_has_body : (files : List File) (s : Set) (k : ℕ) (p : Phrase) (name : Naming) (head : Head) (declarations : List Declaration) → IsCounted s.phrases → s.phrases ≡ phrases_of files → s.bodies ≡ bodies_of files s.phrases
    → slice_get s.phrases k ≡ Some p → p.node ≡ OfUnit name head declarations → HasBody s.bodies k head
unfolding phrases_of
unit_has_body files s k p name head declarations counted whole bodies found is =
    let units = files_pairs s.phrases [] files in
    let numbers : unit_numbers s.phrases ≡ units.ks = ap (λ (ps : List Phrase). unit_numbers ps) whole ∙ units.numbers in
    let among_ : IsAmong k units.ks = subst (λ ks. IsAmong k ks) numbers (subst (λ n. IsAmong n (unit_numbers s.phrases)) (counted k p found) (unit_among s.phrases p (at_among s.phrases k p found) (ap is_unit is))) in
    let trees : List Block = flat_map (λ (f : File). units_from f.block) files in
    subst (λ bs. HasBody bs k head) (sym bodies)
    (subst (λ ks. HasBody (bodies_from s.phrases ks trees) k head) (sym numbers)
    (unit_found s.phrases s.phrases k head units.ks trees (units.pairs (record { later = []; whole = whole ∙ sym (append-nil (gathered_each gathered_file [] files)) })) among_
    (ap (λ (o : Option Phrase). head_at o) found ∙ ap head_in is)))

pub unit_has_inputs : (files : List File) (k : ℕ) (p : Phrase) (name : Naming) (head : Head) (declarations : List Declaration) → IsCounted (phrases_of files) → slice_get (phrases_of files) k ≡ Some p
    → p.node ≡ OfUnit name head declarations → AreInputs (phrases_of files) k (inputs_of head)
unfolding phrases_of
unit_has_inputs files k p name head declarations counted found is =
    let ps = phrases_of files in
    let units = files_pairs ps [] files in
    let among_ : IsAmong k units.ks = subst (λ ks. IsAmong k ks) units.numbers (subst (λ n. IsAmong n (unit_numbers ps)) (counted k p found) (unit_among ps p (at_among ps k p found) (ap is_unit is))) in
    unit_inputs ps k head units.ks (flat_map (λ (f : File). units_from f.block) files) (units.pairs (record { later = []; whole = sym (append-nil (gathered_each gathered_file [] files)) })) among_
    (ap (λ (o : Option Phrase). head_at o) found ∙ ap head_in is)
