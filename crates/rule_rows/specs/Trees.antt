-- Short names for the parts of trees with their places.
use Rattle.std.specs.Prelude.{ℕ, List, [], ◌∷◌, ◌⊎◌}
use Rattle.std.proofs.Common.{inl, inr}
use Rattle.hal_base.specs.declared.refusal.Place.{Place}
use Rattle.hal_grammar.specs.Leaves.{Naming, naming, Sign}
use Rattle.hal_grammar.specs.Expressions.{Expression, Expressions, NoExpressions, MoreExpressions, Terms, NoTerms, MoreTerms, Sub, Subscripts, NoSubscripts, MoreSubscripts}
use Rattle.hal_grammar.specs.Declarations.{Initial, Initials, NoInitials, MoreInitials}
use Rattle.hal_grammar.specs.Statements.{Statement, Statements, NoStatements, MoreStatements}
use Rattle.hal_grammar.specs.Units.{Block, Elements, NoElements, StatementFirst, BlockFirst}

-- a unit, a line and a column
abbrev pub at : ℕ → ℕ → ℕ → Place
at u l c = record { unit = u; line = l; column = c }

abbrev pub nm : Place → List ℕ → Naming
nm place name = naming place name

abbrev pub es : List Expression → Expressions
es [] = NoExpressions
es (x ∷ xs) = MoreExpressions x (es xs)

abbrev pub ts : List (Place × Sign × Expression) → Terms
ts [] = NoTerms
ts (x ∷ xs) = MoreTerms x.0 x.1 x.2 (ts xs)

abbrev pub ss : List Sub → Subscripts
ss [] = NoSubscripts
ss (x ∷ xs) = MoreSubscripts x (ss xs)

abbrev pub is : List Initial → Initials
is [] = NoInitials
is (x ∷ xs) = MoreInitials x (is xs)

abbrev pub st : List Statement → Statements
st [] = NoStatements
st (x ∷ xs) = MoreStatements x (st xs)

abbrev pub el : List (Block ⊎ Statement) → Elements
el [] = NoElements
el (inl b ∷ xs) = BlockFirst b (el xs)
el (inr s ∷ xs) = StatementFirst s (el xs)
