-- The readers of statements leave fewer words each time, and those of a level are made of those below it.
use Rattle.std.proofs.Common.{◌≡◌, ℕ, zero, suc, refl}
use Rattle.hal_grammar.specs.Words.{Words}
use Rattle.hal_parse_expr.proofs.Shortening.{Shortens}
use Rattle.hal_parse_declarations.specs.ReadingDeclarations.{where_left}
use Rattle.hal_parse_statements.specs.ReadingStatements.{statement_of, statement_at, statement_below}
use Rattle.hal_parse_statements.proofs.GroupsRead.{inside_shortens}
use Rattle.hal_parse_statements.proofs.StatementsRead.{below_inside}

-- statements inside
pub statement_below_shortens : (n : ℕ) → Shortens (where_left (statement_below n))
statement_below_shortens n = inside_shortens (below_inside n)

-- a statement by the reader below
pub statement_level : (n : ℕ) (words : Words) → statement_at n words ≡ statement_of n (statement_below n) words
unfolding statement_at statement_below
statement_level zero words = refl
statement_level (suc n) words = refl
