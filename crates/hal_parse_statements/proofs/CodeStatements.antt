-- Statements inside others, by the number of levels that are left.
use Rattle.std.proofs.Common.{◌≡◌, ◌≢◌, ℕ, zero, suc, ◌-◌, None, refl, ap, arith}
use Rattle.hal_base.specs.declared.refusal.Place.{Place}
use Rattle.hal_words.specs.declared.reserved.Reserved.TheVariants as reserved
use Rattle.hal_grammar.specs.Statements.{Update}
use Rattle.hal_grammar.specs.Words.{Words}
use Rattle.hal_parse_expr.specs.Reading.{followed, made_of, past}
use Rattle.hal_parse_declarations.specs.ReadingDeclarations.{name_end_at, where_left}
use Rattle.hal_parse_statements.specs.ReadingStatements.{body_of, statement_at, statement_below, statements, statements_of, updates_of}

pub inside_none : (n : ℕ) (words : Words) → n ≡ 0 → where_left (statement_below n) words ≡ None
unfolding where_left statement_below
inside_none zero words e = refl
inside_none (suc n) words e = absurd (omega (arith, e))

pub inside_some : (n : ℕ) (words : Words) → n ≢ 0 → where_left (statement_below n) words ≡ statement_at (n - 1) words
unfolding where_left statement_below
inside_some zero words h = absurd (h refl)
inside_some (suc n) words h = let e : n ≡ suc n - 1 = omega arith in ap (λ k. statement_at k words) e

pub updates_none : (n : ℕ) (p : Place) (words : Words) → n ≡ 0 → updates_of (statement_below n) p words ≡ None
unfolding updates_of statement_below
updates_none zero p words e = refl
updates_none (suc n) p words e = absurd (omega (arith, e))

-- the statements of an update block are those inside it
pub updates_some : (n : ℕ) (p : Place) (words : Words) → n ≢ 0 →
    updates_of (statement_below n) p words
    ≡ followed (past reserved.Close (statements_of (statement_below n) words).1) (λ q rest. made_of (λ x. Update p (statements (statements_of (statement_below n) words).0) x) (name_end_at rest))
unfolding updates_of statement_below body_of statements_of where_left
updates_some zero p words h = absurd (h refl)
updates_some (suc n) p words h = refl
