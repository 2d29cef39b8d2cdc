-- Which words spell statements. Where a part may be left out, it is left out only where its first word doesn't follow. With ELSE this is a choice, by
-- which it goes to the nearest IF; else no other word that the grammar allows there is that one, as the laws of what is left out say.
use Rattle.std.specs.Prelude.{ℕ, List, [], ◌∷◌, Option, Some, None, Bool, true, false}
use Rattle.hal_base.specs.declared.refusal.Place.{Place}
use Rattle.hal_words.specs.declared.reserved.Reserved.TheVariants as reserved
use Rattle.hal_words.specs.declared.word.Symbol.TheVariants as symbol
use Rattle.hal_grammar.specs.Leaves.{Naming, naming}
use Rattle.hal_grammar.specs.Expressions.{Expression, Expressions, NoExpressions, Reference}
use Rattle.hal_grammar.specs.Statements.{Guard, While, Until, Span, Stepped, Listed, Selector, EveryError, GroupErrors, OneError, Signal, Set, Reset, Eventful, eventful, Response, System, Ignore, Start, StartAt, StartIn, StartOn, Cycle, Cyclic, CyclicEvery, CyclicAfter, Schedule, scheduling, Statement, Labelled, Basic, Null, Assignment, If, Do, DoCase, DoLoop, DoFor, Exit, Repeat, Return, Call, Read, Write, Update, Scheduled, Cancel, Terminate, Wait, WaitUntil, WaitForDependent, WaitFor, Event, UpdatePriority, OnErrorStatement, OnErrorResponse, OffError, SendError, Alternative, NoAlternative, Otherwise, Group, Groups, Statements, NoStatements, MoreStatements}
use Rattle.hal_grammar.specs.Words.{Words, reserved_then, symbol_then, name_then, integer_then, BeginsReserved, BeginsSymbol}
use Rattle.hal_grammar.specs.SpellsExpressions.{SpellsExpression, SpellsExpressions, SpellsReference}
use Rattle.hal_grammar.specs.SpellsDeclarations.{Parted, SpellsNames, SpellsNameEnd}

-- nothing, or arguments in parentheses
pub data SpellsArguments : Expressions → Words → Words → Type 0 where
  no_arguments : {after : Words} → ¬ BeginsSymbol symbol.LeftParenthesis after → SpellsArguments NoExpressions after after
  arguments : {p q : Place} {ts : Expressions} {before after : Words} → SpellsExpressions ts before (symbol_then symbol.RightParenthesis q after) →
      SpellsArguments ts (symbol_then symbol.LeftParenthesis p before) after

-- nothing, or ASSIGN and references in parentheses
pub data SpellsReceivers : List Reference → Words → Words → Type 0 where
  no_receivers : {after : Words} → ¬ BeginsReserved reserved.Assign after → SpellsReceivers [] after after
  receivers : {p q r : Place} {xs : List Reference} {before after : Words} → Parted SpellsReference xs before (symbol_then symbol.RightParenthesis r after) →
      SpellsReceivers xs (reserved_then reserved.Assign p (symbol_then symbol.LeftParenthesis q before)) after

-- nothing, or WHILE or UNTIL and a condition
pub data SpellsGuard : Option Guard → Words → Words → Type 0 where
  no_guard : {after : Words} → ¬ BeginsReserved reserved.While after → ¬ BeginsReserved reserved.Until after → SpellsGuard None after after
  as_long : {p : Place} {t : Expression} {before after : Words} → SpellsExpression t before after → SpellsGuard (Some (While p t)) (reserved_then reserved.While p before) after
  unless : {p : Place} {t : Expression} {before after : Words} → SpellsExpression t before after → SpellsGuard (Some (Until p t)) (reserved_then reserved.Until p before) after

-- nothing, or BY and an expression
pub data SpellsStep : Option Expression → Words → Words → Type 0 where
  no_step : {after : Words} → ¬ BeginsReserved reserved.By after → SpellsStep None after after
  step : {p : Place} {t : Expression} {before after : Words} → SpellsExpression t before after → SpellsStep (Some t) (reserved_then reserved.By p before) after

-- an expression TO another, with a step or without, or expressions parted by commas
pub data SpellsSpan : Span → Words → Words → Type 0 where
  stepped : {p : Place} {t u : Expression} {s : Option Expression} {before left middle after : Words} → SpellsExpression t before (reserved_then reserved.To p left) →
      SpellsExpression u left middle → SpellsStep s middle after → SpellsSpan (Stepped t u s) before after
  listed : {ts : Expressions} {before after : Words} → SpellsExpressions ts before after → SpellsSpan (Listed ts) before after

-- nothing, or `$` and a group, or `$` and a group and a number in parentheses; a group without a number is the whole group
pub data SpellsSelector : Selector → Words → Words → Type 0 where
  every_error : {after : Words} → ¬ BeginsSymbol symbol.Dollar after → SpellsSelector EveryError after after
  group_alone : {p q : Place} {n : ℕ} {after : Words} → SpellsSelector (GroupErrors p q n) (symbol_then symbol.Dollar p (integer_then n q after)) after
  group_enclosed : {p q r s : Place} {n : ℕ} {after : Words} →
      SpellsSelector (GroupErrors p r n) (symbol_then symbol.Dollar p (symbol_then symbol.LeftParenthesis q (integer_then n r (symbol_then symbol.RightParenthesis s after)))) after
  group_colon : {p q r s c : Place} {n : ℕ} {after : Words} →
      SpellsSelector (GroupErrors p r n) (symbol_then symbol.Dollar p (symbol_then symbol.LeftParenthesis q (integer_then n r
      (symbol_then symbol.Colon c (symbol_then symbol.RightParenthesis s after))))) after
  group_star : {p q r s c d : Place} {n : ℕ} {after : Words} →
      SpellsSelector (GroupErrors p r n) (symbol_then symbol.Dollar p (symbol_then symbol.LeftParenthesis q (integer_then n r
      (symbol_then symbol.Colon c (symbol_then symbol.Star d (symbol_then symbol.RightParenthesis s after)))))) after
  one_error : {p q r s c d : Place} {n m : ℕ} {after : Words} →
      SpellsSelector (OneError p r n d m) (symbol_then symbol.Dollar p (symbol_then symbol.LeftParenthesis q (integer_then n r
      (symbol_then symbol.Colon c (integer_then m d (symbol_then symbol.RightParenthesis s after)))))) after

-- SIGNAL, SET or RESET and a name
pub data SpellsEvent : Eventful → Words → Words → Type 0 where
  pulses : {p q : Place} {n : List ℕ} {after : Words} → SpellsEvent (eventful p Signal (naming q n)) (reserved_then reserved.Signal p (name_then n q after)) after
  raises : {p q : Place} {n : List ℕ} {after : Words} → SpellsEvent (eventful p Set (naming q n)) (reserved_then reserved.Set p (name_then n q after)) after
  lowers : {p q : Place} {n : List ℕ} {after : Words} → SpellsEvent (eventful p Reset (naming q n)) (reserved_then reserved.Reset p (name_then n q after)) after

-- SYSTEM or IGNORE
pub data SpellsResponse : Response → Words → Words → Type 0 where
  by_system : {p : Place} {after : Words} → SpellsResponse System (reserved_then reserved.System p after) after
  ignored : {p : Place} {after : Words} → SpellsResponse Ignore (reserved_then reserved.Ignore p after) after

-- a semicolon, or AND, an event and a semicolon
pub data SpellsEventEnd : Option Eventful → Words → Words → Type 0 where
  no_event_end : {p : Place} {after : Words} → SpellsEventEnd None (symbol_then symbol.Semicolon p after) after
  event_end : {p q : Place} {e : Eventful} {before after : Words} → SpellsEvent e before (symbol_then symbol.Semicolon q after) →
      SpellsEventEnd (Some e) (reserved_then reserved.And p before) after

-- nothing, or AT, IN or ON and an expression
pub data SpellsStart : Option Start → Words → Words → Type 0 where
  no_start : {after : Words} → ¬ BeginsReserved reserved.At after → ¬ BeginsReserved reserved.In after → ¬ BeginsReserved reserved.On after → SpellsStart None after after
  start_at : {p : Place} {t : Expression} {before after : Words} → SpellsExpression t before after → SpellsStart (Some (StartAt p t)) (reserved_then reserved.At p before) after
  start_in : {p : Place} {t : Expression} {before after : Words} → SpellsExpression t before after → SpellsStart (Some (StartIn p t)) (reserved_then reserved.In p before) after
  start_on : {p : Place} {t : Expression} {before after : Words} → SpellsExpression t before after → SpellsStart (Some (StartOn p t)) (reserved_then reserved.On p before) after

-- nothing, or PRIORITY and an expression in parentheses
pub data SpellsPriority : Option Expression → Words → Words → Type 0 where
  no_priority : {after : Words} → ¬ BeginsReserved reserved.Priority after → SpellsPriority None after after
  priority : {p q r : Place} {t : Expression} {before after : Words} → SpellsExpression t before (symbol_then symbol.RightParenthesis r after) →
      SpellsPriority (Some t) (reserved_then reserved.Priority p (symbol_then symbol.LeftParenthesis q before)) after

-- nothing, or DEPENDENT
pub data SpellsDependent : Bool → Words → Words → Type 0 where
  not_dependent : {after : Words} → ¬ BeginsReserved reserved.Dependent after → SpellsDependent false after after
  dependent : {p : Place} {after : Words} → SpellsDependent true (reserved_then reserved.Dependent p after) after

-- nothing, or a comma
pub data SpellsComma : Words → Words → Type 0 where
  no_comma : {after : Words} → ¬ BeginsSymbol symbol.Comma after → SpellsComma after after
  comma : {p : Place} {after : Words} → SpellsComma (symbol_then symbol.Comma p after) after

-- nothing, or REPEAT, and EVERY or AFTER and an expression behind it or not, and a comma before it or not
pub data SpellsCycle : Option Cycle → Words → Words → Type 0 where
  no_cycle : {after : Words} → ¬ BeginsSymbol symbol.Comma after → ¬ BeginsReserved reserved.Repeat after → SpellsCycle None after after
  cyclic : {p : Place} {before after : Words} → SpellsComma before (reserved_then reserved.Repeat p after) → ¬ BeginsReserved reserved.Every after →
      ¬ BeginsReserved reserved.After after → SpellsCycle (Some (Cyclic p)) before after
  cyclic_every : {p q : Place} {t : Expression} {before middle after : Words} → SpellsComma before (reserved_then reserved.Repeat p (reserved_then reserved.Every q middle)) →
      SpellsExpression t middle after → SpellsCycle (Some (CyclicEvery p t)) before after
  cyclic_after : {p q : Place} {t : Expression} {before middle after : Words} → SpellsComma before (reserved_then reserved.Repeat p (reserved_then reserved.After q middle)) →
      SpellsExpression t middle after → SpellsCycle (Some (CyclicAfter p t)) before after

-- what stands behind SCHEDULE
pub data SpellsSchedule : Schedule → Words → Words → Type 0 where
  scheduled_so : {p q : Place} {n : List ℕ} {s : Option Start} {t : Option Expression} {d : Bool} {c : Option Cycle} {g : Option Guard}
      {start rank depends cycle guard after : Words} → SpellsStart s start rank → SpellsPriority t rank depends → SpellsDependent d depends cycle →
      SpellsCycle c cycle guard → SpellsGuard g guard (symbol_then symbol.Semicolon q after) →
      SpellsSchedule (scheduling (naming p n) s t d c g) (name_then n p start) after

-- nothing, or TEMPORARY
pub data SpellsTemporary : Bool → Words → Words → Type 0 where
  not_temporary : {after : Words} → ¬ BeginsReserved reserved.Temporary after → SpellsTemporary false after after
  temporary : {p : Place} {after : Words} → SpellsTemporary true (reserved_then reserved.Temporary p after) after

-- nothing, or a name
pub data SpellsNameOption : Option Naming → Words → Words → Type 0 where
  no_name : {p : Place} {after : Words} → SpellsNameOption None (reserved_then reserved.To p after) (reserved_then reserved.To p after)
  one_name : {p : Place} {n : List ℕ} {after : Words} → SpellsNameOption (Some (naming p n)) (name_then n p after) after

-- a name and a colon
pub data BeginsLabel : Words → Type 0 where
  begins_label : {p q : Place} {n : List ℕ} {words : Words} → BeginsLabel (name_then n p (symbol_then symbol.Colon q words))

-- any number of names with a colon each
pub data SpellsLabels : List Naming → Words → Words → Type 0 where
  no_labels : {after : Words} → ¬ BeginsLabel after → SpellsLabels [] after after
  more_labels : {p q : Place} {n : List ℕ} {ns : List Naming} {before after : Words} → SpellsLabels ns before after →
      SpellsLabels (naming p n ∷ ns) (name_then n p (symbol_then symbol.Colon q before)) after

mutual
  -- labels, and what they stand before
  pub data SpellsStatement : Statement → Words → Words → Type 0 where
    labelled : {ns : List Naming} {x : Basic} {before middle after : Words} → SpellsLabels ns before middle → SpellsBasic x middle after →
        SpellsStatement (Labelled ns x) before after

  -- a statement without labels
  pub data SpellsBasic : Basic → Words → Words → Type 0 where
    empty : {p : Place} {after : Words} → SpellsBasic (Null p) (symbol_then symbol.Semicolon p after) after
    assigned : {p q r : Place} {n : List ℕ} {xs : List Reference} {t : Expression} {before middle after : Words} →
        Parted SpellsReference xs (name_then n p before) (symbol_then symbol.Equals q middle) → SpellsExpression t middle (symbol_then symbol.Semicolon r after) →
        SpellsBasic (Assignment p xs t) (name_then n p before) after
    chosen : {p q : Place} {t : Expression} {s : Statement} {e : Alternative} {before middle rest after : Words} → SpellsExpression t before (reserved_then reserved.Then q middle) →
        SpellsStatement s middle rest → SpellsAlternative e rest after → SpellsBasic (If p t s e) (reserved_then reserved.If p before) after
    grouped : {p q : Place} {g : Group} {before after : Words} → SpellsGroup g before after →
        SpellsBasic (Do p g) (reserved_then reserved.Do p (symbol_then symbol.Semicolon q before)) after
    selected : {p q r : Place} {t : Expression} {e : Alternative} {g : Group} {before middle rest after : Words} → SpellsExpression t before (symbol_then symbol.Semicolon r middle) →
        SpellsAlternative e middle rest → SpellsGroup g rest after →
        SpellsBasic (DoCase p t e g) (reserved_then reserved.Do p (reserved_then reserved.Case q before)) after
    looped_while : {p q r : Place} {t : Expression} {g : Group} {before middle after : Words} → SpellsExpression t before (symbol_then symbol.Semicolon r middle) →
        SpellsGroup g middle after → SpellsBasic (DoLoop p (While q t) g) (reserved_then reserved.Do p (reserved_then reserved.While q before)) after
    looped_until : {p q r : Place} {t : Expression} {g : Group} {before middle after : Words} → SpellsExpression t before (symbol_then symbol.Semicolon r middle) →
        SpellsGroup g middle after → SpellsBasic (DoLoop p (Until q t) g) (reserved_then reserved.Do p (reserved_then reserved.Until q before)) after
    ranged : {p q r e s : Place} {b : Bool} {n : List ℕ} {x : Span} {c : Option Guard} {g : Group} {before span guard middle after : Words} →
        SpellsTemporary b before (name_then n r (symbol_then symbol.Equals e span)) → SpellsSpan x span guard → SpellsGuard c guard (symbol_then symbol.Semicolon s middle) →
        SpellsGroup g middle after → SpellsBasic (DoFor p b (naming r n) x c g) (reserved_then reserved.Do p (reserved_then reserved.For q before)) after
    left : {p : Place} {n : Option Naming} {before after : Words} → SpellsNameEnd n before after → SpellsBasic (Exit p n) (reserved_then reserved.Exit p before) after
    repeated : {p : Place} {n : Option Naming} {before after : Words} → SpellsNameEnd n before after → SpellsBasic (Repeat p n) (reserved_then reserved.Repeat p before) after
    returned : {p q : Place} {after : Words} → SpellsBasic (Return p None) (reserved_then reserved.Return p (symbol_then symbol.Semicolon q after)) after
    returned_value : {p q : Place} {t : Expression} {before after : Words} → SpellsExpression t before (symbol_then symbol.Semicolon q after) →
        SpellsBasic (Return p (Some t)) (reserved_then reserved.Return p before) after
    calls : {p q r : Place} {n : List ℕ} {ts : Expressions} {xs : List Reference} {before middle after : Words} → SpellsArguments ts before middle →
        SpellsReceivers xs middle (symbol_then symbol.Semicolon r after) → SpellsBasic (Call p (naming q n) ts xs) (reserved_then reserved.Call p (name_then n q before)) after
    inputs : {p q r s : Place} {t : Expression} {xs : List Reference} {before middle after : Words} → SpellsExpression t before (symbol_then symbol.RightParenthesis r middle) →
        Parted SpellsReference xs middle (symbol_then symbol.Semicolon s after) →
        SpellsBasic (Read p t xs) (reserved_then reserved.Read p (symbol_then symbol.LeftParenthesis q before)) after
    outputs_nothing : {p q r s : Place} {t : Expression} {before after : Words} →
        SpellsExpression t before (symbol_then symbol.RightParenthesis r (symbol_then symbol.Semicolon s after)) →
        SpellsBasic (Write p t NoExpressions) (reserved_then reserved.Write p (symbol_then symbol.LeftParenthesis q before)) after
    outputs : {p q r s : Place} {t : Expression} {ts : Expressions} {before middle after : Words} → SpellsExpression t before (symbol_then symbol.RightParenthesis r middle) →
        SpellsExpressions ts middle (symbol_then symbol.Semicolon s after) →
        SpellsBasic (Write p t ts) (reserved_then reserved.Write p (symbol_then symbol.LeftParenthesis q before)) after
    updates : {p q r : Place} {b : Statements} {n : Option Naming} {before middle after : Words} → SpellsStatements b before (reserved_then reserved.Close r middle) →
        SpellsNameEnd n middle after → SpellsBasic (Update p b n) (reserved_then reserved.Update p (symbol_then symbol.Semicolon q before)) after
    scheduled : {p : Place} {s : Schedule} {before after : Words} → SpellsSchedule s before after → SpellsBasic (Scheduled p s) (reserved_then reserved.Schedule p before) after
    cancelled_itself : {p q : Place} {after : Words} → SpellsBasic (Cancel p []) (reserved_then reserved.Cancel p (symbol_then symbol.Semicolon q after)) after
    cancelled : {p q : Place} {ns : List Naming} {before after : Words} → SpellsNames ns before (symbol_then symbol.Semicolon q after) →
        SpellsBasic (Cancel p ns) (reserved_then reserved.Cancel p before) after
    terminated_itself : {p q : Place} {after : Words} → SpellsBasic (Terminate p []) (reserved_then reserved.Terminate p (symbol_then symbol.Semicolon q after)) after
    terminated : {p q : Place} {ns : List Naming} {before after : Words} → SpellsNames ns before (symbol_then symbol.Semicolon q after) →
        SpellsBasic (Terminate p ns) (reserved_then reserved.Terminate p before) after
    waits : {p q : Place} {t : Expression} {before after : Words} → SpellsExpression t before (symbol_then symbol.Semicolon q after) →
        SpellsBasic (Wait p t) (reserved_then reserved.Wait p before) after
    waits_until : {p q r : Place} {t : Expression} {before after : Words} → SpellsExpression t before (symbol_then symbol.Semicolon r after) →
        SpellsBasic (WaitUntil p t) (reserved_then reserved.Wait p (reserved_then reserved.Until q before)) after
    waits_for_dependents : {p q r s : Place} {after : Words} →
        SpellsBasic (WaitForDependent p) (reserved_then reserved.Wait p (reserved_then reserved.For q (reserved_then reserved.Dependent r (symbol_then symbol.Semicolon s after)))) after
    waits_for : {p q r : Place} {t : Expression} {before after : Words} → SpellsExpression t before (symbol_then symbol.Semicolon r after) →
        SpellsBasic (WaitFor p t) (reserved_then reserved.Wait p (reserved_then reserved.For q before)) after
    acts : {q : Place} {e : Eventful} {before after : Words} → SpellsEvent e before (symbol_then symbol.Semicolon q after) → SpellsBasic (Event e) before after
    prioritizes : {p q r s : Place} {n : Option Naming} {t : Expression} {before middle after : Words} → SpellsNameOption n before (reserved_then reserved.To r middle) →
        SpellsExpression t middle (symbol_then symbol.Semicolon s after) →
        SpellsBasic (UpdatePriority p n t) (reserved_then reserved.Update p (reserved_then reserved.Priority q before)) after
    handles : {p q : Place} {x : Selector} {s : Statement} {before middle after : Words} → SpellsSelector x before middle → SpellsStatement s middle after →
        SpellsBasic (OnErrorStatement p x s) (reserved_then reserved.On p (reserved_then reserved.Error q before)) after
    answers : {p q : Place} {x : Selector} {r : Response} {e : Option Eventful} {before middle rest after : Words} → SpellsSelector x before middle →
        SpellsResponse r middle rest → SpellsEventEnd e rest after → SpellsBasic (OnErrorResponse p x r e) (reserved_then reserved.On p (reserved_then reserved.Error q before)) after
    forgets : {p q r : Place} {x : Selector} {before after : Words} → SpellsSelector x before (symbol_then symbol.Semicolon r after) →
        SpellsBasic (OffError p x) (reserved_then reserved.Off p (reserved_then reserved.Error q before)) after
    sends : {p q d l g c m r s : Place} {group number : ℕ} {after : Words} →
        SpellsBasic (SendError p g group m number) (reserved_then reserved.Send p (reserved_then reserved.Error q (symbol_then symbol.Dollar d (symbol_then symbol.LeftParenthesis l
        (integer_then group g (symbol_then symbol.Colon c (integer_then number m (symbol_then symbol.RightParenthesis r (symbol_then symbol.Semicolon s after))))))))) after

  -- nothing, or ELSE and a statement
  pub data SpellsAlternative : Alternative → Words → Words → Type 0 where
    no_alternative : {after : Words} → ¬ BeginsReserved reserved.Else after → SpellsAlternative NoAlternative after after
    otherwise : {p : Place} {s : Statement} {before after : Words} → SpellsStatement s before after → SpellsAlternative (Otherwise s) (reserved_then reserved.Else p before) after

  -- statements, END, a name or none, and a semicolon
  pub data SpellsGroup : Group → Words → Words → Type 0 where
    groups : {p : Place} {ss : Statements} {n : Option Naming} {before middle after : Words} → SpellsStatements ss before (reserved_then reserved.End p middle) →
        SpellsNameEnd n middle after → SpellsGroup (Groups ss n) before after

  -- any number of statements, up to END or CLOSE
  pub data SpellsStatements : Statements → Words → Words → Type 0 where
    statements_end : {p : Place} {after : Words} → SpellsStatements NoStatements (reserved_then reserved.End p after) (reserved_then reserved.End p after)
    statements_close : {p : Place} {after : Words} → SpellsStatements NoStatements (reserved_then reserved.Close p after) (reserved_then reserved.Close p after)
    statements_more : {s : Statement} {ss : Statements} {before middle after : Words} → SpellsStatement s before middle → SpellsStatements ss middle after →
        SpellsStatements (MoreStatements s ss) before after
