-- The trees of units and files, and how deep they are nested.
use Rattle.std.specs.Prelude.{ℕ, ◌+◌, List, max, Option, Bool, true, false}
use Rattle.hal_base.specs.declared.refusal.Place.{Place}
use Rattle.hal_grammar.specs.Leaves.{Naming, most}
use Rattle.hal_grammar.specs.Declarations.{Kind, Declaration, nesting_of_kind, nesting_of_declaration}
use Rattle.hal_grammar.specs.Statements.{Statement, nesting_of_statement}

-- REENTRANT or EXCLUSIVE
pub data Mode : Type 0 where
  Reentrant Exclusive : (place : Place) → Mode

-- SINGLE or DOUBLE
pub data Precision : Type 0 where
  SinglePrecision DoublePrecision : (place : Place) → Precision

-- the type of a FUNCTION's result
pub data Returns : Type 0 where
  NoKind : Returns
  HasKind : (kind : Kind) (precision : Option Precision) → Returns

-- the head of a unit; the place is that of its first word
pub data Head : Type 0 where
  Program Compool Task : (place : Place) → Head
  Procedure : (place : Place) (inputs outputs : List Naming) (mode : Option Mode) → Head
  Function : (place : Place) (inputs : List Naming) (returns : Returns) (mode : Option Mode) → Head

mutual
  -- a unit, with the name after CLOSE; the place is that of its name
  pub data Block : Type 0 where
    BlockOf : (name : Naming) (head : Head) (declarations : List Declaration) (elements : Elements) (close : Option Naming) → Block

  -- statements and units one after another
  pub data Elements : Type 0 where
    NoElements : Elements
    StatementFirst : (statement : Statement) (others : Elements) → Elements
    BlockFirst : (block : Block) (others : Elements) → Elements

-- the template of a unit that another file holds
pub record Template : Type 0 where
  pub name : Naming
  pub head : Head
  pub declarations : List Declaration
  pub close : Option Naming

-- the template with these parts
abbrev pub template_of : Naming → Head → List Declaration → Option Naming → Template
template_of name head declarations close = record { name = name; head = head; declarations = declarations; close = close }

-- what stands before a file's unit
pub data Preface : Type 0 where
  Include : (place : Place) (name : Naming) → Preface
  Templates : (template : Template) → Preface

-- a file
pub record File : Type 0 where
  pub prefaces : List Preface
  pub block : Block

-- the file with these parts
abbrev pub file_of : List Preface → Block → File
file_of prefaces block = record { prefaces = prefaces; block = block }

-- PROGRAM and COMPOOL stand in no unit
abbrev pub stands_inside : Head → Bool
stands_inside (Program place) = false
stands_inside (Compool place) = false
stands_inside (Task place) = true
stands_inside (Procedure place inputs outputs mode) = true
stands_inside (Function place inputs returns mode) = true

-- a COMPOOL holds declarations alone
abbrev pub holds_elements : Head → Bool
holds_elements (Program place) = true
holds_elements (Compool place) = false
holds_elements (Task place) = true
holds_elements (Procedure place inputs outputs mode) = true
holds_elements (Function place inputs returns mode) = true

-- a FUNCTION's result is as deep as its type
abbrev pub nesting_of_returns : Returns → ℕ
nesting_of_returns NoKind = 0
nesting_of_returns (HasKind kind precision) = nesting_of_kind kind

-- a head's parameter lists don't count
abbrev pub nesting_of_head : Head → ℕ
nesting_of_head (Program place) = 0
nesting_of_head (Compool place) = 0
nesting_of_head (Task place) = 0
nesting_of_head (Procedure place inputs outputs mode) = 0
nesting_of_head (Function place inputs returns mode) = nesting_of_returns returns

-- a unit is one deeper than what it stands in
abbrev mutual
  -- a unit holds its head, its declarations and its elements
  pub nesting_of_block : Block → ℕ
  nesting_of_block (BlockOf name head declarations elements close) =
      max (nesting_of_head head) (max (most nesting_of_declaration declarations) (nesting_of_elements elements)) + 1

  -- the deepest of elements
  pub nesting_of_elements : Elements → ℕ
  nesting_of_elements NoElements = 0
  nesting_of_elements (StatementFirst statement others) = max (nesting_of_statement statement) (nesting_of_elements others)
  nesting_of_elements (BlockFirst block others) = max (nesting_of_block block) (nesting_of_elements others)

-- a template adds nothing to what is in it
abbrev pub nesting_of_template : Template → ℕ
nesting_of_template template = max (nesting_of_head template.head) (most nesting_of_declaration template.declarations)

-- an INCLUDE has no depth
abbrev pub nesting_of_preface : Preface → ℕ
nesting_of_preface (Include place name) = 0
nesting_of_preface (Templates template) = nesting_of_template template

-- a file is as deep as the deepest of its parts
abbrev pub nesting_of_file : File → ℕ
nesting_of_file file = max (most nesting_of_preface file.prefaces) (nesting_of_block file.block)
