-- The reading of units and files: each function gives the phrase of its kind that the words begin with, nested at most so deep. What a unit holds is one
-- level deeper than the unit.
use Rattle.std.specs.Prelude.{ℕ, zero, suc, List, [], ◌∷◌, Option, Some, None, Bool, true, false}
use Rattle.hal_base.specs.declared.refusal.Place.{Place}
use Rattle.hal_words.specs.declared.reserved.Reserved.TheVariants as reserved
use Rattle.hal_words.specs.declared.word.Symbol.TheVariants as symbol
use Rattle.hal_words.specs.declared.word.Word.{Word}
use Rattle.hal_words.specs.declared.word.Word.TheVariants as word
use Rattle.hal_grammar.specs.Leaves.{Naming}
use Rattle.hal_grammar.specs.Declarations.{Declaration}
use Rattle.hal_grammar.specs.Units.{Mode, Reentrant, Exclusive, Precision, SinglePrecision, DoublePrecision, Returns, NoKind, HasKind, Head, Program, Compool, Task, Procedure, Function, Block, BlockOf, Template, template_of, Preface, Include, Templates, File, file_of, stands_inside, holds_elements}
use Rattle.hal_grammar.specs.Words.{Words}
pub use Rattle.hal_tree.specs.Rows.{Member as Element, OfStatement as StatementElement, OfBlock as BlockElement}
unfoldable pub use Rattle.hal_tree.specs.Rows.{elements}
use Rattle.hal_parse_expr.specs.Reading.{Reader, followed, made_of, decided, or_else, where_true, past, past_symbol, name_at, before_symbol, before, all}
use Rattle.hal_parse_declarations.specs.ReadingDeclarations.{in_parentheses, names_at, name_end_at, kind_at, label_at, declarations_at}
use Rattle.hal_parse_statements.specs.ReadingStatements.{statement_at}

-- names in parentheses, or none
unfoldable pub inputs_at : Reader (List Naming)
inputs_at words = decided (past_symbol symbol.LeftParenthesis words) (λ p rest. before_symbol symbol.RightParenthesis (names_at rest)) (Some ([], words))

-- ASSIGN and names in parentheses, or none
unfoldable pub outputs_at : Reader (List Naming)
outputs_at words = decided (past reserved.Assign words) (λ p rest. in_parentheses names_at rest) (Some ([], words))

-- REENTRANT or EXCLUSIVE
unfoldable pub mode_at : Reader Mode
mode_at words = decided (past reserved.Reentrant words) (λ p rest. Some (Reentrant p, rest)) (made_of (λ p. Exclusive p) (past reserved.Exclusive words))

-- REENTRANT or EXCLUSIVE or none, and a semicolon
unfoldable pub mode_end_at : Reader (Option Mode)
mode_end_at words =
    decided (mode_at words) (λ m rest. made_of (λ p. Some m) (past_symbol symbol.Semicolon rest)) (made_of (λ p. None) (past_symbol symbol.Semicolon words))

-- SINGLE or DOUBLE
unfoldable pub precision_at : Reader Precision
precision_at words = decided (past reserved.Single words) (λ p rest. Some (SinglePrecision p, rest)) (made_of (λ p. DoublePrecision p) (past reserved.Double words))

-- SINGLE or DOUBLE or none
unfoldable pub precision_option : Reader (Option Precision)
precision_option words = decided (precision_at words) (λ x rest. Some (Some x, rest)) (Some (None, words))

-- a type and its precision, or none, before the mode and the semicolon
unfoldable pub returns_at : ℕ → Reader Returns
returns_at n words = decided (kind_at n words) (λ k rest. made_of (λ x. HasKind k x) (precision_option rest)) (Some (NoKind, words))

-- behind PROCEDURE
unfoldable pub procedure_behind : Place → Reader Head
procedure_behind p words =
    followed (inputs_at words) (λ ins rest. followed (outputs_at rest) (λ outs after. made_of (λ m. Procedure p ins outs m) (mode_end_at after)))

-- the type of a FUNCTION, its mode and the semicolon
unfoldable pub returns_end_at : ℕ → Reader (Returns × Option Mode)
returns_end_at n words = followed (returns_at n words) (λ r rest. made_of (λ m. (r, m)) (mode_end_at rest))

-- behind FUNCTION
unfoldable pub function_behind : ℕ → Place → Reader Head
function_behind n p words =
    followed (inputs_at words) (λ ins rest. made_of (λ f. Function p ins f.0 f.1) (returns_end_at n rest))

-- the head that the first word begins
unfoldable pub head_behind : ℕ → Place → Word → Reader Head
head_behind n p (word.Reserved reserved.Program) rest = made_of (λ q. Program p) (past_symbol symbol.Semicolon rest)
head_behind n p (word.Reserved reserved.Compool) rest = made_of (λ q. Compool p) (past_symbol symbol.Semicolon rest)
head_behind n p (word.Reserved reserved.Task) rest = made_of (λ q. Task p) (past_symbol symbol.Semicolon rest)
head_behind n p (word.Reserved reserved.Procedure) rest = procedure_behind p rest
head_behind n p (word.Reserved reserved.Function) rest = function_behind n p rest
head_behind n p other rest = None

-- the head of a unit
unfoldable pub head_at : ℕ → Reader Head
head_at n [] = None
head_at n (first ∷ rest) = head_behind n first.place first.word rest

-- the head of a unit
abbrev pub head_of : Block → Head
head_of (BlockOf x h ds es c) = h

-- a unit, where it may stand inside another one
unfoldable pub inner_block : Reader Block → Reader Block
inner_block read words = followed (read words) (λ u rest. where_true (stands_inside (head_of u)) (Some (u, rest)))

-- a unit inside, or a statement
unfoldable pub element_of : ℕ → Reader Block → Reader Element
element_of n read words = or_else (made_of (λ u. BlockElement u) (inner_block read words)) (made_of (λ s. StatementElement s) (statement_at n words))

-- as many statements and units as can be read, where the unit holds any
unfoldable pub elements_of : ℕ → Reader Block → Bool → Words → List Element × Words
elements_of n read true words = all (element_of n read) words
elements_of n read false words = ([], words)

-- behind the declarations of a unit: what it holds, CLOSE, a name or none, and a semicolon
unfoldable pub block_close : ℕ → Reader Block → Naming → Head → List Declaration → Reader Block
block_close n read x h ds words =
    followed (past reserved.Close (elements_of n read (holds_elements h) words).1)
    (λ p rest. made_of (λ c. BlockOf x h ds (elements (elements_of n read (holds_elements h) words).0) c) (name_end_at rest))

-- behind the head of a unit
unfoldable pub block_behind : ℕ → Reader Block → Naming → Head → Reader Block
block_behind n read x h words = block_close n read x h (declarations_at n words).0 (declarations_at n words).1

-- a unit whose inside is nested at most so deep
unfoldable pub block_of : ℕ → Reader Block → Reader Block
block_of n read words = followed (label_at words) (λ x rest. followed (head_at n rest) (λ h after. block_behind n read x h after))

-- a unit that is nested at most so deep
unfoldable pub block_at : ℕ → Reader Block
block_at zero words = None
block_at (suc n) words = block_of n (block_at n) words

-- behind the declarations of a template
unfoldable pub template_close : Naming → Head → List Declaration → Reader Template
template_close x h ds words = followed (past reserved.Close words) (λ p rest. made_of (λ c. template_of x h ds c) (name_end_at rest))

-- behind EXTERNAL
unfoldable pub external_behind : ℕ → Naming → Reader Template
external_behind n x words = followed (head_at n words) (λ h rest. template_close x h (declarations_at n rest).0 (declarations_at n rest).1)

-- a template
unfoldable pub template_at : ℕ → Reader Template
template_at n words = followed (before reserved.External (label_at words)) (λ x rest. external_behind n x rest)

-- INCLUDE and a name, or a template
unfoldable pub preface_at : ℕ → Reader Preface
preface_at n words =
    decided (past reserved.Include words) (λ p rest. made_of (λ x. Include p x) (name_at rest)) (made_of (λ t. Templates t) (template_at n words))

-- as many includes and templates as can be read
unfoldable pub prefaces_at : ℕ → Words → List Preface × Words
prefaces_at n words = all (preface_at n) words

-- a file
unfoldable pub file_at : ℕ → Reader File
file_at n words = made_of (λ u. file_of (prefaces_at n words).0 u) (block_at n (prefaces_at n words).1)
