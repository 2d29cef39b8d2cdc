use Rattle.std.proofs.Common.{List, length}
use Rattle.hal_lexer.specs.declared.comes.Given.{Given}
use Rattle.hal_lexer.specs.Summary.{Gathers}
use Rattle.hal_lexer.proofs.summary.past_nothing.Given as goal

abbrev pub invariant-word : goal.invariant-word
invariant-word l = (all : List Given) → Gathers l.comes l.left all → Gathers l.comes l.numbers all

abbrev pub decreases-word : goal.decreases-word
decreases-word l = length l.left
