-- The lists of the grammar, from lists.
use Rattle.std.specs.Prelude.{List, [], ◌∷◌, Option, Some, None}
use Rattle.hal_base.specs.declared.refusal.Place.{Place}
use Rattle.hal_grammar.specs.Leaves.{Sign}
use Rattle.hal_grammar.specs.Expressions.{Expression, Expressions, NoExpressions, MoreExpressions, Terms, NoTerms, MoreTerms, Sub, Subscripts, NoSubscripts, MoreSubscripts}
use Rattle.hal_grammar.specs.Declarations.{Initial, Initials, NoInitials, MoreInitials}
use Rattle.hal_grammar.specs.Statements.{Statement, Statements, NoStatements, MoreStatements, Alternative, NoAlternative, Otherwise}
use Rattle.hal_grammar.specs.Units.{Block, Elements, NoElements, StatementFirst, BlockFirst}

-- expressions one after another
unfoldable pub expressions : List Expression → Expressions
expressions [] = NoExpressions
expressions (t ∷ ts) = MoreExpressions t (expressions ts)

-- a term, its sign and the sign's place
abbrev pub SignedTerm : Type 0
SignedTerm = Place × Sign × Expression

-- signed terms one after another
unfoldable pub terms : List SignedTerm → Terms
terms [] = NoTerms
terms (t ∷ ts) = MoreTerms t.0 t.1 t.2 (terms ts)

-- subscripts one after another
unfoldable pub subscripts : List Sub → Subscripts
subscripts [] = NoSubscripts
subscripts (x ∷ xs) = MoreSubscripts x (subscripts xs)

-- initial values one after another
unfoldable pub initials : List Initial → Initials
initials [] = NoInitials
initials (x ∷ xs) = MoreInitials x (initials xs)

-- statements one after another
unfoldable pub statements : List Statement → Statements
statements [] = NoStatements
statements (x ∷ xs) = MoreStatements x (statements xs)

-- what stands after ELSE, if there is one
abbrev pub alternative : Option Statement → Alternative
alternative None = NoAlternative
alternative (Some x) = Otherwise x

-- a statement or a unit, as they stand in a unit
pub data Member : Type 0 where
  OfStatement : (statement : Statement) → Member
  OfBlock : (block : Block) → Member

-- statements and units one after another
unfoldable pub elements : List Member → Elements
elements [] = NoElements
elements (OfStatement statement ∷ xs) = StatementFirst statement (elements xs)
elements (OfBlock block ∷ xs) = BlockFirst block (elements xs)
