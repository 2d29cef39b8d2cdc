-- The code of each unit of a process names views that are for what phrases of the unit name.
use Rattle.std.specs.Prelude.{◌≡◌, ℕ, Bool, true, false, List, [], ◌∷◌, ◌++◌, map, Some, Ok, slice_get}
use Rattle.std.proofs.Common.{refl}
use Rattle.hal_grammar.specs.Statements.{Statement, Statements, NoStatements, MoreStatements}
use Rattle.hal_grammar.specs.Units.{Head, File}
use Rattle.hal_phrases.specs.declared.around.Around.{Around}
use Rattle.hal_phrases.specs.Surroundings.{opened}
use Rattle.hal_phrases.specs.Phrases.{Phrase}
use Rattle.hal_phrases.specs.GatheredStatements.{gathered_statement, gathered_statements}
use Rattle.hal_phrases.specs.GatheredUnits.{phrases_of}
use Rattle.hal_values.specs.declared.value.Value.{Value}
use Rattle.hal_values.specs.declared.value.Value.TheVariants as value
use Rattle.hal_code.specs.declared.instr.Instr.{Instr}
use Rattle.hal_code.specs.declared.instr.Instr.TheVariants as instr
use Rattle.hal_code.specs.declared.row.View.{View}
use Rattle.hal_meaning.specs.Bodies.{Body, bodies_of}
use Rattle.hal_meaning.specs.Calls.{is_function, zero_of}
use Rattle.hal_meaning.specs.Marks.{after_statement}
use Rattle.hal_meaning.specs.Places.{Place}
use Rattle.hal_meaning.specs.Runs.{places_of_process}
use Rattle.hal_meaning.specs.Sets.{Set, body_at}
use Rattle.hal_agreement.specs.PlacedExpressions.{pushes}
use Rattle.hal_agreement.specs.PlacedStatements.{Exits}
use Rattle.hal_agreement.specs.Sites.{Site, within_block}
use Rattle.hal_gen_expr.specs.Numbering.{Numbering}
use Rattle.hal_gen.specs.StatementCode.{block_code, direct_code}
use Rattle.hal_link.specs.Linking.{process_site}
use Rattle.hal_link.specs.Outlines.{Outline, outlines_of, numbering_of}
use Rattle.hal_link.specs.ProcessCode.{process_code}
use Rattle.hal_link.specs.Shapes.{shapes_of}
use Rattle.hal_link.specs.UnitCode.{clears_of, clear_of, end_code, body_code, cleared_code, unit_code}
use Rattle.hal_fit_calls.specs.Each.{Each}
use Rattle.hal_fit_rules.specs.Begun.{AreFirst}
use Rattle.hal_fit_rules.proofs.Marking.{Counts}
use Rattle.hal_fit_rules.proofs.UsingUnits.{site_at, body_fits}
use Rattle.hal_right_images.specs.rows.Homes.{LeadsHome, AtHome}
use Rattle.hal_right_images.specs.rows.Purposes.{StandsIn, IsSite}
use Rattle.hal_right_images.specs.views.Naming.{Names}
use Rattle.hal_right_images.proofs.views.Adding.{Gives, none_more, some_more, then_gives, behind_gives, alone_gives}
use Rattle.hal_right_images.proofs.views.Statements.{block_gives}

module _ (s : Set) (views : List View) (o : Outline) (number : ℕ) (outlined : slice_get (outlines_of s) number ≡ Some o) where
  abbrev n : Numbering
  n = numbering_of (shapes_of s) views o

  abbrev P : Instr → Type 0
  P i = Names s views o.process i

  -- a site of a unit that stands in the process
  abbrev IsHere : Site → ℕ → Type 0
  IsHere site unit = (site.places ≡ places_of_process s o.process) × ((block : ℕ) → LeadsHome s.phrases unit block → IsSite s o.process (within_block block site))

  -- statements directly in a unit
  abbrev AreNamed : Site → ℕ → Statements → Type 0
  AreNamed site m x = (exits : Exits) (before : List Instr) → Gives P before (block_code n site before exits m x)

  none_named : (site : Site) (m : ℕ) → AreNamed site m NoStatements
  none_named site m exits before = none_more P before

  more_named : (site : Site) (m : ℕ) (x : Statement) (others : Statements) → AreNamed site m (MoreStatements x NoStatements) → AreNamed site (after_statement m x) others → AreNamed site m (MoreStatements x others)
  more_named site m x others first rest exits before =
      then_gives P before (direct_code n site before exits m x) (λ middle. block_code n site middle exits (after_statement m x) others) (alone_gives P before (direct_code n site before exits m x) (first exits before))
      (λ middle. rest exits middle)

  one_named : (places : List Place) (k m : ℕ) (d : List Phrase) (a : Around) (x : Statement) → IsHere (site_at s places k) k → Counts k m d → AreFirst (gathered_statement d (opened k a) x) s.phrases
      → AreNamed (site_at s places k) m (MoreStatements x NoStatements)
  unfolding gathered_statements
  one_named places k m d a x here counts begun exits before =
      block_gives s views o number outlined places here.0 k here.1 m d (opened k a) (MoreStatements x NoStatements) (refl, AtHome) counts begun exits before

  module _ (files : List File) (whole : s.phrases ≡ phrases_of files) (bodies : s.bodies ≡ bodies_of files s.phrases) (unit : ℕ) (b : Body) (found : body_at s unit ≡ Some b) (stands : StandsIn s o.process unit) where
    abbrev here : Site
    here = process_site s o.process b

    statements_named : (exits : Exits) (before : List Instr) → Gives P before (block_code n here before exits 0 b.statements)
    statements_named =
        body_fits s AreNamed none_named more_named IsHere one_named files unit b whole bodies found (places_of_process s o.process)
        (refl, (λ block leads. record { unit = unit; body = b; found = found; stands = stands; block = block; leads = leads; is = refl }))

    pub process_named : (before : List Instr) → Gives P before (process_code n here before b.statements)
    process_named before =
        then_gives P before (block_code n here (before ++ (instr.Begin ∷ [])) _ 0 b.statements) (λ middle. Ok (middle ++ (instr.Finish ∷ [])))
        (behind_gives P before (instr.Begin ∷ []) (block_code n here (before ++ (instr.Begin ∷ [])) _ 0 b.statements) (tt, tt) (statements_named _ (before ++ (instr.Begin ∷ []))))
        (λ middle. some_more P middle (instr.Finish ∷ []) (tt, tt))

    -- the end of a unit that is called, and CLEAR
    zero_plain : (v : Value) → P (pushes v)
    zero_plain (value.Int a) = tt
    zero_plain (value.Bits len word) = tt
    zero_plain (value.Text text) = tt

    end_each : (function : Bool) (head : Head) → Each P (end_code function head)
    end_each false head = (tt, tt)
    end_each true head = (tt, (zero_plain (zero_of head), (tt, tt)))

    clears_each : (list : List (ℕ × ℕ)) → Each P (map clear_of list)
    clears_each [] = tt
    clears_each (one ∷ list) = (tt, clears_each list)

    pub unit_named : (before : List Instr) → Gives P before (unit_code n here before b.head b.statements)
    unit_named before =
        behind_gives P before (map clear_of (clears_of here)) (body_code n here (cleared_code here before) b.head b.statements) (clears_each (clears_of here))
        (then_gives P (cleared_code here before) (block_code n here (cleared_code here before) _ 0 b.statements) (λ middle. Ok (middle ++ end_code (is_function b.head) b.head)) (statements_named _ (cleared_code here before))
        (λ middle. some_more P middle (end_code (is_function b.head) b.head) (end_each (is_function b.head) b.head)))
