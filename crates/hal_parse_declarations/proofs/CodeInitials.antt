-- Initial values, as the code gathers them, by the number of levels that are left.
use Rattle.std.proofs.Common.{◌≡◌, ◌≢◌, ℕ, zero, suc, ◌-◌, List, [], ◌∷◌, Some, None, refl, ap, sym, ◌∙◌, arith}
use Rattle.hal_grammar.specs.Declarations.{Initial, Initials, MoreInitials}
use Rattle.hal_grammar.specs.Words.{Words}
use Rattle.hal_parse_expr.specs.Reading.{Read, Reader, followed, made_of, all, after_comma, parted}
use Rattle.hal_parse_expr.proofs.Loops.{with_front}
use Rattle.hal_parse_declarations.specs.ReadingDeclarations.{initial_of, initials, initials_at, initials_below, initials_of, where_left}
use Rattle.hal_parse_declarations.proofs.ReadersShorten.{initials_level}

pub values_none : (n : ℕ) (words : Words) → n ≡ 0 → where_left (initials_below n) words ≡ None
unfolding where_left initials_below
values_none zero words e = refl
values_none (suc n) words e = absurd (omega (arith, e))

pub values_some : (n : ℕ) (words : Words) → n ≢ 0 → where_left (initials_below n) words ≡ initials_at (n - 1) words
unfolding where_left initials_below
values_some zero words h = absurd (h refl)
values_some (suc n) words h = let e : n ≡ suc n - 1 = omega arith in ap (λ k. initials_at k words) e

-- the values that begin with what is read
gathered : (read : Reader Initial) → Read Initial → Read Initials
gathered read o = made_of {X = Initial × List Initial} (λ f. MoreInitials f.0 (initials f.1)) (followed o (λ x rest. Some ((x, (all (after_comma read) rest).0), (all (after_comma read) rest).1)))

pub no_initials : (n : ℕ) (words : Words) → None ≡ initial_of n (initials_below n) words → None ≡ initials_at n words
unfolding gathered initials_of parted followed made_of
no_initials n words e = ap (λ o. gathered (initial_of n (initials_below n)) o) e ∙ sym (initials_level n words)

pub initials_read : (n : ℕ) (words : Words) {rest after : Words} {x : Initial} {xs : List Initial} → Some (x, rest) ≡ initial_of n (initials_below n) words →
    (xs, after) ≡ with_front (x ∷ []) (all (after_comma (initial_of n (initials_below n))) rest) → Some (initials xs, after) ≡ initials_at n words
unfolding gathered initials_of initials parted followed made_of
initials_read n words e h = ap (λ l. Some (initials l.0, l.1)) h ∙ ap (λ o. gathered (initial_of n (initials_below n)) o) e ∙ sym (initials_level n words)
