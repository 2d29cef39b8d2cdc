-- Which words spell units, templates and files. Where a part may be left out, it is left out only where its first word doesn't follow; no other word that
-- the grammar allows there is that one, as the laws of what is left out say.
use Rattle.std.specs.Prelude.{◌≡◌, ◌≢◌, ℕ, List, [], ◌∷◌, Option, Some, None, true}
use Rattle.hal_base.specs.declared.refusal.Place.{Place}
use Rattle.hal_words.specs.declared.reserved.Reserved.TheVariants as reserved
use Rattle.hal_words.specs.declared.word.Symbol.TheVariants as symbol
use Rattle.hal_grammar.specs.Leaves.{Naming, naming}
use Rattle.hal_grammar.specs.Declarations.{Kind, Declaration}
use Rattle.hal_grammar.specs.Statements.{Statement}
use Rattle.hal_grammar.specs.Units.{Mode, Reentrant, Exclusive, Precision, SinglePrecision, DoublePrecision, Returns, NoKind, HasKind, Head, Program, Compool, Task, Procedure, Function, Block, BlockOf, Elements, NoElements, StatementFirst, BlockFirst, Template, template_of, Preface, Include, Templates, File, file_of, stands_inside, holds_elements}
use Rattle.hal_grammar.specs.Words.{Words, reserved_then, symbol_then, name_then, BeginsReserved, BeginsSymbol}
use Rattle.hal_grammar.specs.SpellsDeclarations.{SpellsNames, SpellsNameEnd, SpellsKind, SpellsDeclarations}
use Rattle.hal_grammar.specs.SpellsStatements.{SpellsStatement}

-- nothing, or names in parentheses
pub data SpellsInputs : List Naming → Words → Words → Type 0 where
  no_inputs : {after : Words} → ¬ BeginsSymbol symbol.LeftParenthesis after → SpellsInputs [] after after
  input_names : {p q : Place} {ns : List Naming} {before after : Words} → SpellsNames ns before (symbol_then symbol.RightParenthesis q after) →
      SpellsInputs ns (symbol_then symbol.LeftParenthesis p before) after

-- nothing, or ASSIGN and names in parentheses
pub data SpellsOutputs : List Naming → Words → Words → Type 0 where
  no_outputs : {after : Words} → ¬ BeginsReserved reserved.Assign after → SpellsOutputs [] after after
  output_names : {p q r : Place} {ns : List Naming} {before after : Words} → SpellsNames ns before (symbol_then symbol.RightParenthesis r after) →
      SpellsOutputs ns (reserved_then reserved.Assign p (symbol_then symbol.LeftParenthesis q before)) after

-- a semicolon, or REENTRANT or EXCLUSIVE and a semicolon
pub data SpellsModeEnd : Option Mode → Words → Words → Type 0 where
  no_mode_end : {q : Place} {after : Words} → SpellsModeEnd None (symbol_then symbol.Semicolon q after) after
  reenters_end : {p q : Place} {after : Words} → SpellsModeEnd (Some (Reentrant p)) (reserved_then reserved.Reentrant p (symbol_then symbol.Semicolon q after)) after
  excludes_end : {p q : Place} {after : Words} → SpellsModeEnd (Some (Exclusive p)) (reserved_then reserved.Exclusive p (symbol_then symbol.Semicolon q after)) after

-- nothing, or SINGLE or DOUBLE, before the mode and the semicolon
pub data SpellsPrecisionEnd : Option Precision → Option Mode → Words → Words → Type 0 where
  no_precision : {m : Option Mode} {before after : Words} → SpellsModeEnd m before after → SpellsPrecisionEnd None m before after
  single_precision : {p : Place} {m : Option Mode} {before after : Words} → SpellsModeEnd m before after →
      SpellsPrecisionEnd (Some (SinglePrecision p)) m (reserved_then reserved.Single p before) after
  double_precision : {p : Place} {m : Option Mode} {before after : Words} → SpellsModeEnd m before after →
      SpellsPrecisionEnd (Some (DoublePrecision p)) m (reserved_then reserved.Double p before) after

-- nothing, or a type and its precision, before the mode and the semicolon
pub data SpellsReturnsEnd : Returns → Option Mode → Words → Words → Type 0 where
  no_kind : {m : Option Mode} {before after : Words} → SpellsModeEnd m before after → SpellsReturnsEnd NoKind m before after
  has_kind : {k : Kind} {x : Option Precision} {m : Option Mode} {before middle after : Words} → SpellsKind k before middle → SpellsPrecisionEnd x m middle after →
      SpellsReturnsEnd (HasKind k x) m before after

-- the head of a unit
pub data SpellsHead : Head → Words → Words → Type 0 where
  program_head : {p q : Place} {after : Words} → SpellsHead (Program p) (reserved_then reserved.Program p (symbol_then symbol.Semicolon q after)) after
  compool_head : {p q : Place} {after : Words} → SpellsHead (Compool p) (reserved_then reserved.Compool p (symbol_then symbol.Semicolon q after)) after
  task_head : {p q : Place} {after : Words} → SpellsHead (Task p) (reserved_then reserved.Task p (symbol_then symbol.Semicolon q after)) after
  procedure_head : {p : Place} {ins outs : List Naming} {m : Option Mode} {before middle rest after : Words} → SpellsInputs ins before middle → SpellsOutputs outs middle rest →
      SpellsModeEnd m rest after → SpellsHead (Procedure p ins outs m) (reserved_then reserved.Procedure p before) after
  function_head : {p : Place} {ins : List Naming} {r : Returns} {m : Option Mode} {before middle after : Words} → SpellsInputs ins before middle →
      SpellsReturnsEnd r m middle after → SpellsHead (Function p ins r m) (reserved_then reserved.Function p before) after

mutual
  -- a unit; a COMPOOL holds no elements
  pub data SpellsBlock : Block → Words → Words → Type 0 where
    block : {p q : Place} {n : List ℕ} {h : Head} {ds : List Declaration} {es : Elements} {c : Option Naming} {before declarations elements after : Words} →
        SpellsHead h before declarations → SpellsDeclarations ds declarations elements → SpellsElements es c elements after → (es ≢ NoElements → holds_elements h ≡ true) →
        SpellsBlock (BlockOf (naming p n) h ds es c) (name_then n p (symbol_then symbol.Colon q before)) after

  -- statements and units, but no PROGRAM and no COMPOOL, then CLOSE, a name or none, and a semicolon
  pub data SpellsElements : Elements → Option Naming → Words → Words → Type 0 where
    closed : {p : Place} {c : Option Naming} {before after : Words} → SpellsNameEnd c before after → SpellsElements NoElements c (reserved_then reserved.Close p before) after
    statement_first : {s : Statement} {es : Elements} {c : Option Naming} {before middle after : Words} → SpellsStatement s before middle → SpellsElements es c middle after →
        SpellsElements (StatementFirst s es) c before after
    block_first : {x : Naming} {h : Head} {ds : List Declaration} {fs es : Elements} {b c : Option Naming} {before middle after : Words} →
        SpellsBlock (BlockOf x h ds fs b) before middle → stands_inside h ≡ true → SpellsElements es c middle after →
        SpellsElements (BlockFirst (BlockOf x h ds fs b) es) c before after

-- a template holds declarations alone
pub data SpellsTemplate : Template → Words → Words → Type 0 where
  template : {p q r s : Place} {n : List ℕ} {h : Head} {ds : List Declaration} {c : Option Naming} {before declarations close after : Words} → SpellsHead h before declarations →
      SpellsDeclarations ds declarations (reserved_then reserved.Close s close) → SpellsNameEnd c close after →
      SpellsTemplate (template_of (naming p n) h ds c) (name_then n p (symbol_then symbol.Colon q (reserved_then reserved.External r before))) after

-- INCLUDE and a name, or a template
pub data SpellsPreface : Preface → Words → Words → Type 0 where
  includes : {p q : Place} {n : List ℕ} {after : Words} → SpellsPreface (Include p (naming q n)) (reserved_then reserved.Include p (name_then n q after)) after
  templates : {t : Template} {before after : Words} → SpellsTemplate t before after → SpellsPreface (Templates t) before after

-- any number of includes and templates, and a unit
pub data SpellsFile : File → Words → Words → Type 0 where
  block_alone : {u : Block} {before after : Words} → SpellsBlock u before after → SpellsFile (file_of [] u) before after
  preface_first : {x : Preface} {xs : List Preface} {u : Block} {before middle after : Words} → SpellsPreface x before middle → SpellsFile (file_of xs u) middle after →
      SpellsFile (file_of (x ∷ xs) u) before after
