-- The readers of initial values leave fewer words each time, and those of a level are made of those below it.
use Rattle.std.proofs.Common.{◌≡◌, ℕ, zero, suc, refl, arith}
use Rattle.hal_grammar.specs.Words.{Words}
use Rattle.hal_parse_expr.proofs.Shortening.{Shortens}
use Rattle.hal_parse_declarations.specs.ReadingDeclarations.{where_left, initial_of, initials_of, initials_at, initials_below}
use Rattle.hal_parse_expr.proofs.Readings.{Holds, holds_none, weaker_holds}
use Rattle.hal_parse_declarations.proofs.InitialsRead.{InitialsIn, initials_at_gives, initial_shortens}

initials_below_give : (n : ℕ) (words : Words) → Holds (λ ts rest. InitialsIn n ts words rest) (where_left (initials_below n) words)
unfolding where_left initials_below
initials_below_give zero words = holds_none
initials_below_give (suc n) words = weaker_holds (initials_at_gives n words) (λ ts rest d. (d.0, omega (arith, d.1)))

-- initial values
pub initial_below_shortens : (n : ℕ) → Shortens (initial_of n (initials_below n))
initial_below_shortens n = initial_shortens n (initials_below n) (initials_below_give n)

-- initial values by the reader below
pub initials_level : (n : ℕ) (words : Words) → initials_at n words ≡ initials_of n (initials_below n) words
unfolding initials_at initials_below
initials_level zero words = refl
initials_level (suc n) words = refl
