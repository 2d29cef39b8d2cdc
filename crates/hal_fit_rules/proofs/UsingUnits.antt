-- The statements of each unit of files fit where what the phrases of the unit name is known, also as inside of an UPDATE block where the unit may be called there.
use Rattle.std.proofs.Common.{◌≡◌, ◌<◌, ◌≤◌, ℕ, ◌==◌, true, false, Bool, List, [], ◌∷◌, ◌++◌, length, Option, Some, inl, inr, refl, sym, ap, ◌∙◌, subst, arith, le_refl, append-nil, append_assoc}
use Rattle.std.specs.Prelude.{flat_map, find, unwrap_or, if◌then◌else◌}
use Rattle.hal_grammar.specs.Leaves.{Naming}
use Rattle.hal_grammar.specs.Declarations.{Declaration}
use Rattle.hal_grammar.specs.Statements.{Statement, Statements, NoStatements, MoreStatements}
use Rattle.hal_grammar.specs.Units.{Head, Block, BlockOf, Elements, NoElements, StatementFirst, BlockFirst, File}
use Rattle.hal_phrases.specs.declared.around.Around.{Around}
use Rattle.hal_phrases.specs.Surroundings.{in_file, behind, opened}
use Rattle.hal_phrases.specs.Phrases.{Phrase, OfUnit, gathered_each}
use Rattle.hal_phrases.specs.GatheredStatements.{gathered_statement, gathered_statements}
use Rattle.hal_phrases.specs.GatheredUnits.{gathered_block, gathered_elements, gathered_file, phrases_of}
use Rattle.hal_scope.specs.Rules.{IsSound}
use Rattle.hal_types.specs.Rules.{type_rows}
use Rattle.hal_locks.specs.Rules.{lock_rows}
use Rattle.hal_code.specs.declared.image.ImageParts.{ImageParts}
use Rattle.hal_meaning.specs.Bodies.{Body, marks_of, statements_of, units_from, units_within, bodies_from, bodies_of}
use Rattle.hal_meaning.specs.Marks.{after_statement}
use Rattle.hal_meaning.specs.Places.{Place, unit_numbers}
use Rattle.hal_meaning.specs.Sets.{Set, body_at}
use Rattle.hal_agreement.specs.PlacedBlocks.{unit_site}
use Rattle.hal_agreement.specs.Sites.{Site}
use Rattle.hal_fitting.specs.Fitting.{Ground}
use Rattle.hal_fit_expr.specs.Uses.{Uses}
use Rattle.hal_fit.specs.Stating.{StatementsFit}
use Rattle.hal_sound_names.proofs.LookingUp.{Leaves, adds, leaves, same_unit}
use Rattle.hal_sound_names.proofs.LookingDeclarations.{both, head_names, declarations_names}
use Rattle.hal_sound_names.proofs.LookingStatements.{statement_goes, close_goes}
use Rattle.hal_sound_names.proofs.LookingUnits.{apart, block_grows, block_leaves, declared_leaves, declared_grows, declared_numbers, before_others, before_longer, file_grows, file_leaves}
use Rattle.hal_fit_calls.specs.Harmless.{IsHarmless}
use Rattle.hal_fit_rules.specs.Begun.{AreFirst}
use Rattle.hal_fit_rules.specs.Used.{UnitKnown}
use Rattle.hal_fit_rules.proofs.Beginning.{then_}
use Rattle.hal_fit_rules.proofs.BegunStatements.{close_first}
use Rattle.hal_fit_rules.proofs.BegunUnits.{with_own, with_head, with_declared, elements_first, before_unit, files_first}
use Rattle.hal_fit_rules.proofs.Marking.{Counts, no_mark, statement_counts}
use Rattle.hal_fit_rules.proofs.LookedAt.{statements_any}
use Rattle.hal_fit_rules.proofs.Stating.{statements_fit}
use Rattle.hal_fit_rules.proofs.UsingStatements.{statements_agree}

-- where the statements of the unit with this number stand
abbrev pub site_at : Set → List Place → ℕ → Site
site_at s places k = record { set = s; places = places; unit = k; block = k; marks = marks_of s.phrases k }

-- what holds of the statements of a unit, one by one, where something is known of their unit
module _ (s : Set) (Fits : Site → ℕ → Statements → Type 0) (none : (site : Site) (m : ℕ) → Fits site m NoStatements)
    (more : (site : Site) (m : ℕ) (x : Statement) (others : Statements) → Fits site m (MoreStatements x NoStatements) → Fits site (after_statement m x) others → Fits site m (MoreStatements x others)) (Known : Site → ℕ → Type 0)
    (one : (places : List Place) (k m : ℕ) (d : List Phrase) (a : Around) (x : Statement) → Known (site_at s places k) k → Counts k m d → AreFirst (gathered_statement d (opened k a) x) s.phrases
    → Fits (site_at s places k) m (MoreStatements x NoStatements)) where
  -- the statements of a unit with this number fit where that is known
  abbrev pub UnitFits : ℕ → Statements → Type 0
  UnitFits k x = (places : List Place) → Known (site_at s places k) k → Fits (site_at s places k) 0 x

  -- those among its elements, where the unit's own phrase stands before them
  elements_fit : (places : List Place) (k m : ℕ) (d : List Phrase) (a : Around) (x : Elements) → Known (site_at s places k) k → k < length d → Counts k m d
      → AreFirst (gathered_elements d (opened k a) x) s.phrases → Fits (site_at s places k) m (statements_of x)
  unfolding gathered_elements
  elements_fit places k m d a NoElements known low counts begun = none (site_at s places k) m
  elements_fit places k m d a (StatementFirst x others) known low counts begun =
      let e : List Phrase = gathered_statement d (opened k a) x in
      more (site_at s places k) m x (statements_of others) (one places k m d a x known counts (then_ (elements_first e (opened k a) others) begun))
      (elements_fit places k (after_statement m x) e a others known (omega (arith, low, (statement_goes 0 0 d (opened k a) x).grows)) (statement_counts m d (opened k a) x counts) begun)
  elements_fit places k m d a (BlockFirst b others) known low counts begun =
      let e : List Phrase = gathered_block d (opened k a) b in
      elements_fit places k m e a others known (omega (arith, low, block_grows d (opened k a) b))
      (ap (λ (xs : List ℕ). length xs) (block_leaves k d (opened k a) b (λ j from to. apart j k (omega (arith, from, low)))).marks ∙ counts) begun

  -- the declarations of a unit have no marks
  declared_count : (d : List Phrase) (a : Around) (name : Naming) (head : Head) (declarations : List Declaration) → marks_of d (length d) ≡ [] → Counts (length d) 0 (with_declared d a name head declarations)
  declared_count d a name head declarations fresh =
      let k : ℕ = length d in
      (adds (same_unit k) ((both (head_names k (with_own d a name head declarations) (opened k a) head) (declarations_names k (opened k a) (with_head d a name head declarations) declarations)).goes 0)).counts
      (no_mark k 0 d a (OfUnit name head declarations) refl (ap (λ (xs : List ℕ). length xs) fresh))

  -- a unit, whose phrase is the next one
  abbrev IsFitBlock : ℕ → Block → Type 0
  IsFitBlock k (BlockOf name head declarations body close) = UnitFits k (statements_of body)

  block_fit : (d : List Phrase) (a : Around) (b : Block) → marks_of d (length d) ≡ [] → AreFirst (gathered_block d a b) s.phrases → IsFitBlock (length d) b
  unfolding gathered_block
  block_fit d a (BlockOf name head declarations body close) fresh begun =
      λ places known.
      elements_fit places (length d) 0 (with_declared d a name head declarations) a body known (declared_grows d a name head declarations) (declared_count d a name head declarations fresh)
      (then_ (close_first (opened (length d) a) (gathered_elements (with_declared d a name head declarations) (opened (length d) a) body) close) begun)

  -- units with these numbers, and their trees
  abbrev ArePaired : List ℕ → List Block → Type 0
  ArePaired [] [] = Unit {0}
  ArePaired (k ∷ ks) (b ∷ bs) = IsFitBlock k b × ArePaired ks bs
  ArePaired [] (b ∷ bs) = ⊥
  ArePaired (k ∷ ks) [] = ⊥

  paired_append : (ks js : List ℕ) (bs cs : List Block) → ArePaired ks bs → ArePaired js cs → ArePaired (ks ++ js) (bs ++ cs)
  paired_append [] js [] cs first second = second
  paired_append (k ∷ ks) js (b ∷ bs) cs first second = (first.0, paired_append ks js bs cs first.1 second)
  paired_append [] js (b ∷ bs) cs first second = absurd first
  paired_append (k ∷ ks) js [] cs first second = absurd first

  -- no unit from here on has a mark yet
  abbrev AreFresh : List Phrase → Type 0
  AreFresh d = (k : ℕ) → length d ≤ k → marks_of d k ≡ []

  -- the units among the phrases that are added
  record FitUnits (d e : List Phrase) (bs : List Block) : Type 0 where
    ks : List ℕ
    numbers : unit_numbers e ≡ unit_numbers d ++ ks
    fits : AreFresh d → AreFirst e s.phrases → ArePaired ks bs

  no_units : (d : List Phrase) → FitUnits d d []
  no_units d = record { ks = []; numbers = sym (append-nil (unit_numbers d)); fits = λ fresh begun. tt }

  still_fresh : (d e : List Phrase) → length d ≤ length e → ((k : ℕ) → length e ≤ k → Leaves k d e) → AreFresh d → AreFresh e
  still_fresh d e grown out fresh = λ k low. (out k low).marks ∙ fresh k (omega (arith, low, grown))

  -- phrases that are no units, and then units
  after_others : (d e h : List Phrase) (bs : List Block) → unit_numbers e ≡ unit_numbers d → length d ≤ length e → ((k : ℕ) → length e ≤ k → Leaves k d e) → FitUnits e h bs → FitUnits d h bs
  after_others d e h bs same grown out units = record {
    ks = units.ks;
    numbers = units.numbers ∙ ap (λ x. x ++ units.ks) same;
    fits = λ fresh begun. units.fits (still_fresh d e grown out fresh) begun;
  }

  -- units, and then others
  then_units : (d e h : List Phrase) (bs cs : List Block) → length d ≤ length e → AreFirst e h → ((k : ℕ) → length e ≤ k → Leaves k d e) → FitUnits d e bs → FitUnits e h cs → FitUnits d h (bs ++ cs)
  then_units d e h bs cs grown more out first second = record {
    ks = first.ks ++ second.ks;
    numbers = second.numbers ∙ (ap (λ x. x ++ second.ks) first.numbers ∙ append_assoc (unit_numbers d) first.ks second.ks);
    fits = λ fresh begun. paired_append first.ks second.ks bs cs (first.fits fresh (then_ more begun)) (second.fits (still_fresh d e grown out fresh) begun);
  }

  mutual
    unfolding gathered_block gathered_elements

    block_units : (d : List Phrase) (a : Around) (b : Block) → FitUnits d (gathered_block d a b) (units_from b)
    block_units d a (BlockOf name head declarations body close) =
        let k : ℕ = length d in
        let d3 : List Phrase = with_declared d a name head declarations in
        let d4 : List Phrase = gathered_elements d3 (opened k a) body in
        let named = declared_grows d a name head declarations in
        let inner = elements_units d3 (opened k a) body named in
        record {
          ks = k ∷ inner.ks;
          numbers = (close_goes 0 0 (opened k a) d4 close).units ∙ (inner.numbers ∙ (ap (λ x. x ++ inner.ks) (declared_numbers d a name head declarations) ∙ append_assoc (unit_numbers d) (k ∷ []) inner.ks));
          fits = λ fresh begun. (
            block_fit d a (BlockOf name head declarations body close) (fresh k (le_refl k)) begun,
            inner.fits (still_fresh d d3 (omega (arith, named)) (λ j low. declared_leaves j d a name head declarations (apart k j (omega (arith, low, named)))) fresh)
                (then_ (close_first (opened k a) d4 close) begun),
          );
        }

    elements_units : (d : List Phrase) (a : Around) (x : Elements) → a.home < length d → FitUnits d (gathered_elements d a x) (units_within x)
    elements_units d a NoElements low = no_units d
    elements_units d a (StatementFirst x others) low =
        let e : List Phrase = gathered_statement d a x in
        let grown = (statement_goes 0 0 d a x).grows in
        after_others d e (gathered_elements e a others) (units_within others) (statement_goes 0 0 d a x).units grown
        (λ k from. leaves (apart a.home k (omega (arith, low, grown, from))) (statement_goes k 0 d a x)) (elements_units e a others (omega (arith, low, grown)))
    elements_units d a (BlockFirst b others) low =
        let e : List Phrase = gathered_block d a b in
        let grown = block_grows d a b in
        then_units d e (gathered_elements e a others) (units_from b) (units_within others) (omega (arith, grown)) (elements_first e a others)
        (λ k from. block_leaves k d a b (λ j at to. apart j k (omega (arith, to, from)))) (block_units d a b) (elements_units e a others (omega (arith, low, grown)))

  file_units : (d : List Phrase) (f : File) → FitUnits d (gathered_file d f) (units_from f.block)
  unfolding gathered_file
  file_units d f =
      let before = before_others d f in
      let e : List Phrase = before_unit d f in
      after_others d e (gathered_block e (behind (length f.prefaces) (in_file (length d))) f.block) (units_from f.block) before.units before.grows
      (λ k low. before.out k (apart (length d) k (omega (arith, low, before_longer d f))) (λ j from to. apart j k (omega (arith, to, low))))
      (block_units e (behind (length f.prefaces) (in_file (length d))) f.block)

  files_units : (d : List Phrase) (fs : List File) → FitUnits d (gathered_each gathered_file d fs) (flat_map (λ (f : File). units_from f.block) fs)
  files_units d [] = no_units d
  files_units d (f ∷ fs) =
      let e : List Phrase = gathered_file d f in
      then_units d e (gathered_each gathered_file e fs) (units_from f.block) (flat_map (λ (x : File). units_from x.block) fs) (omega (arith, file_grows d f)) (files_first e fs)
      (λ k low. file_leaves k d f (λ j from to. apart j k (omega (arith, to, low)))) (file_units d f) (files_units e fs)

  -- bodies
  abbrev pub BodyFits : Body → Type 0
  BodyFits b = (places : List Place) → Known (unit_site s places b) b.number → Fits (unit_site s places b) 0 b.statements

  abbrev BodiesFit : List Body → Type 0
  BodiesFit [] = Unit {0}
  BodiesFit (b ∷ bs) = BodyFits b × BodiesFit bs

  bodies_fit : (ks : List ℕ) (bs : List Block) → ArePaired ks bs → BodiesFit (bodies_from s.phrases ks bs)
  bodies_fit [] [] paired = tt
  bodies_fit [] (b ∷ bs) paired = absurd paired
  bodies_fit (k ∷ ks) [] paired = absurd paired
  bodies_fit (k ∷ ks) (BlockOf name head declarations body close ∷ bs) paired = (paired.0, bodies_fit ks bs paired.1)

  all_fit : (files : List File) → s.phrases ≡ phrases_of files → BodiesFit (bodies_of files s.phrases)
  unfolding phrases_of
  all_fit files whole =
      let units = files_units [] files in
      subst (λ ks. BodiesFit (bodies_from s.phrases ks (flat_map (λ (f : File). units_from f.block) files))) (sym (ap (λ (ps : List Phrase). unit_numbers ps) whole ∙ units.numbers))
      (bodies_fit units.ks (flat_map (λ (f : File). units_from f.block) files) (units.fits (λ k low. refl) (record { later = []; whole = whole ∙ sym (append-nil (gathered_each gathered_file [] files)) })))

  found_by : (k : ℕ) (b c : Body) (bs : List Body) (is : Bool) → (b.number == k) ≡ is → BodyFits b → (find (λ (x : Body). x.number == k) bs ≡ Some c → BodyFits c)
      → find (λ (x : Body). x.number == k) (b ∷ bs) ≡ Some c → BodyFits c
  found_by k b c bs true is fits others found =
      subst BodyFits (ap (λ (o : Option Body). unwrap_or o b) (sym (ap (λ t. if t then Some b else find (λ (x : Body). x.number == k) bs) is) ∙ found)) fits
  found_by k b c bs false is fits others found = others (sym (ap (λ t. if t then Some b else find (λ (x : Body). x.number == k) bs) is) ∙ found)

  found_fit : (k : ℕ) (bs : List Body) (c : Body) → BodiesFit bs → find (λ (x : Body). x.number == k) bs ≡ Some c → BodyFits c
  found_fit k [] c fits found = absurd (cc)
  found_fit k (b ∷ bs) c fits found = found_by k b c bs (b.number == k) refl fits.0 (found_fit k bs c fits.1) found

  -- a unit of the set of these files
  pub body_fits : (files : List File) (k : ℕ) (b : Body) → s.phrases ≡ phrases_of files → s.bodies ≡ bodies_of files s.phrases → body_at s k ≡ Some b → BodyFits b
  body_fits files k b whole bodies found =
      found_fit k (bodies_of files s.phrases) b (all_fit files whole) (ap (λ bs. find (λ (x : Body). x.number == k) bs) (sym bodies) ∙ found)

module _ (image : ImageParts) (g : Ground) (s : Set) (sound : IsSound type_rows s.phrases) (locks : IsSound lock_rows s.phrases) where
  -- a statement of a unit where what its phrases name is known
  statement_fit : (u : Bool → Uses) (places : List Place) (k m : ℕ) (d : List Phrase) (a : Around) (x : Statement) → UnitKnown image g u (site_at s places k) k → Counts k m d
      → AreFirst (gathered_statement d (opened k a) x) s.phrases → StatementsFit image g u false (site_at s places k) m (MoreStatements x NoStatements)
  unfolding gathered_statements
  statement_fit u places k m d a x known counts begun =
      statements_fit image g u s.phrases sound locks false (site_at s places k) m d (opened k a) (MoreStatements x NoStatements) (inl refl) begun
      (statements_agree image g u (site_at s places k) k known refl m d (opened k a) (MoreStatements x NoStatements) refl counts begun)

  -- the same of a unit that does nothing an UPDATE block may not do, looked at as inside of one
  abbrev KnownInside : Uses → Site → ℕ → Type 0
  KnownInside v site k = UnitKnown image g (λ inside. v) site k × IsHarmless s.phrases k

  statement_inside : (v : Uses) (places : List Place) (k m : ℕ) (d : List Phrase) (a : Around) (x : Statement) → KnownInside v (site_at s places k) k → Counts k m d
      → AreFirst (gathered_statement d (opened k a) x) s.phrases → StatementsFit image g (λ inside. v) true (site_at s places k) m (MoreStatements x NoStatements)
  unfolding gathered_statements
  statement_inside v places k m d a x known counts begun =
      statements_fit image g (λ inside. v) s.phrases sound locks true (site_at s places k) m d (opened k a) (MoreStatements x NoStatements) (inr (refl, known.1)) begun
      (statements_any image g v s.phrases false true (site_at s places k) m d (opened k a) (MoreStatements x NoStatements)
      (statements_agree image g (λ inside. v) (site_at s places k) k known.0 refl m d (opened k a) (MoreStatements x NoStatements) refl counts begun))

  -- a unit of the set of these files
  pub unit_fits : (u : Bool → Uses) (files : List File) (k : ℕ) (b : Body) → s.phrases ≡ phrases_of files → s.bodies ≡ bodies_of files s.phrases → body_at s k ≡ Some b
      → (places : List Place) → UnitKnown image g u (unit_site s places b) b.number → StatementsFit image g u false (unit_site s places b) 0 b.statements
  unit_fits u files k b whole bodies found places known =
      body_fits s (λ site m x. StatementsFit image g u false site m x) (λ site m. tt) (λ site m x others first rest. (first.0, rest)) (UnitKnown image g u) (statement_fit u) files k b whole bodies found places known

  pub unit_inside : (v : Uses) (files : List File) (k : ℕ) (b : Body) → s.phrases ≡ phrases_of files → s.bodies ≡ bodies_of files s.phrases → body_at s k ≡ Some b
      → (places : List Place) → UnitKnown image g (λ inside. v) (unit_site s places b) b.number → IsHarmless s.phrases b.number
      → StatementsFit image g (λ inside. v) true (unit_site s places b) 0 b.statements
  unit_inside v files k b whole bodies found places known harmless =
      body_fits s (λ site m x. StatementsFit image g (λ inside. v) true site m x) (λ site m. tt) (λ site m x others first rest. (first.0, rest)) (KnownInside v) (statement_inside v) files k b whole bodies found places (known, harmless)
