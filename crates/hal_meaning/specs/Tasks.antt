-- What is begun once an answer was taken or a turn was made.
use Rattle.std.specs.Prelude.{ℕ, List, Option}
use Rattle.hal_grammar.specs.Leaves.{Naming}
use Rattle.hal_grammar.specs.Expressions.{Expressions}
use Rattle.hal_grammar.specs.Statements.{Guard, Group}
use Rattle.hal_meaning.specs.Access.{Here}
use Rattle.hal_meaning.specs.States.{State, Evaluated, Flow}

-- a loop: its labels, its mark, and its statements
pub record Looping : Type 0 where
  pub labels : List Naming
  pub mark : ℕ
  pub group : Group

pub data Task : Type 0 where
  -- a group with WHILE or UNTIL, from its test on
  Tested : (here : Here) (loop : Looping) (guard : Guard) → Task
  -- a DO FOR group with TO, after a turn; its end, its step and its next value are kept from this place on
  Stepping : (here : Here) (first : ℕ) (loop : Looping) (variable : List ℕ) (guard : Option Guard) → Task
  -- a DO FOR group with a list, after a turn: these are its values behind the first one, and this place keeps how many were stored
  Listing : (here : Here) (first : ℕ) (loop : Looping) (variable : List ℕ) (guard : Option Guard) (values : Expressions) → Task
  -- a block that is called, from its beginning on
  Entering : (here : Here) → Task
  -- a block in which a statement of ON ERROR is entered, of this mark
  Resuming : (here : Here) (place : ℕ) → Task
  -- a process, from Begin on
  Cycling : (here : Here) → Task

-- what tasks come to
abbrev pub Meaning : Type 0
Meaning = Task → State → Evaluated Flow
