-- Short names for the parts of trees. Places are left out: all are the same one.
use Rattle.std.specs.Prelude.{ℕ, List, [], ◌∷◌, ◌⊎◌}
use Rattle.std.proofs.Common.{inl, inr}
use Rattle.hal_base.specs.declared.refusal.Place.{Place}
use Rattle.hal_grammar.specs.Leaves.{Naming, naming, Sign}
use Rattle.hal_grammar.specs.Expressions.{Expression, Expressions, NoExpressions, MoreExpressions, Terms, NoTerms, MoreTerms, Sub, Subscripts, NoSubscripts, MoreSubscripts}
use Rattle.hal_grammar.specs.Declarations.{Initial, Initials, NoInitials, MoreInitials}
use Rattle.hal_grammar.specs.Statements.{Statement, Statements, NoStatements, MoreStatements}
use Rattle.hal_grammar.specs.Units.{Block, Elements, NoElements, StatementFirst, BlockFirst}

abbrev pub o : Place
o = record { unit = 0; line = 1; column = 1 }

abbrev pub nm : List ℕ → Naming
nm name = naming o name

abbrev pub es : List Expression → Expressions
es [] = NoExpressions
es (x ∷ xs) = MoreExpressions x (es xs)

abbrev pub ts : List (Sign × Expression) → Terms
ts [] = NoTerms
ts (x ∷ xs) = MoreTerms o x.0 x.1 (ts xs)

abbrev pub ss : List Sub → Subscripts
ss [] = NoSubscripts
ss (x ∷ xs) = MoreSubscripts x (ss xs)

abbrev pub is : List Initial → Initials
is [] = NoInitials
is (x ∷ xs) = MoreInitials x (is xs)

abbrev pub st : List Statement → Statements
st [] = NoStatements
st (x ∷ xs) = MoreStatements x (st xs)

abbrev pub el : List (Block ⊎ Statement) → Elements
el [] = NoElements
el (inl b ∷ xs) = BlockFirst b (el xs)
el (inr s ∷ xs) = StatementFirst s (el xs)
