-- Sizes of lists, summed from the first phrase to the last.
use Rattle.std.specs.Prelude.{ℕ, ◌+◌, List, [], ◌∷◌}
use Rattle.hal_grammar.specs.Expressions.{Expression, Reference}
use Rattle.hal_grammar.specs.Statements.{Statement}
use Rattle.hal_meaning.specs.Marks.{after_statement}
use Rattle.hal_agreement.specs.Sites.{Site}
use Rattle.hal_gen_expr.specs.Numbering.{Numbering}
use Rattle.hal_gen.specs.Receiving.{receiver_size}
use Rattle.hal_gen.specs.Sizes.{expression_size, value_size, statement_size}

-- a size with those of the items of WRITE
unfoldable pub with_items : Numbering → Site → ℕ → List Expression → ℕ
with_items n site size [] = size
with_items n site size (item ∷ items) = with_items n site (size + (expression_size n site item + 1)) items

-- a size with those of statements, before which the next mark has this number
unfoldable pub with_statements : Numbering → Site → ℕ → ℕ → List Statement → ℕ
with_statements n site m size [] = size
with_statements n site m size (one ∷ others) = with_statements n site (after_statement m one) (size + statement_size n site m one) others

-- a size with those of receivers, before each of which one instruction stands
unfoldable pub with_receivers : Numbering → Site → ℕ → List Reference → ℕ
with_receivers n site size [] = size
with_receivers n site size (one ∷ others) = with_receivers n site (size + (1 + receiver_size n site one)) others

-- a size with those of the statements of DO CASE
unfoldable pub with_cases : Numbering → Site → ℕ → ℕ → List Statement → ℕ
with_cases n site m size [] = size
with_cases n site m size (one ∷ others) = with_cases n site (after_statement m one) (size + (5 + (statement_size n site m one + 1))) others

-- a size with those of the values of a DO FOR behind the first one
unfoldable pub with_values : Numbering → Site → ℕ → List Expression → ℕ
with_values n site size [] = size
with_values n site size (tree ∷ others) = with_values n site (size + (5 + (value_size n site tree + 1))) others
