-- The rules of locks, as rows over one phrase.
use Rattle.std.specs.Prelude.{ℕ, List, [], ◌∷◌, Option, None}
use Rattle.std.specs.Option.{option_or}
use Rattle.hal_base.specs.declared.refusal.Place.{Place}
use Rattle.hal_phrases.specs.Phrases.{Phrase}
use Rattle.hal_scope.specs.Rules.{Row, ruled}
use Rattle.hal_constants.specs.Known.{Known, known}
use Rattle.hal_locks.specs.Updates.{nested, returned, unheld}
use Rattle.hal_locks.specs.Barred.{barred_within}
use Rattle.hal_locks.specs.Callees.{misled, misled_by}
use Rattle.hal_locks.specs.Placed.{misplaced}
use Rattle.hal_locks.specs.Passed.{mispassed}

unfoldable pub lock_rows : List Row
lock_rows =
    (λ ps p. ruled 801 (unheld ps p)) ∷ (λ ps p. ruled 802 (nested p)) ∷ (λ ps p. ruled 803 (barred_within ps p)) ∷ (λ ps p. ruled 804 (misled ps p))
    ∷ (λ ps p. ruled 805 (misplaced ps (known ps) p p.node)) ∷ (λ ps p. ruled 806 (mispassed ps p.around.block p.node)) ∷ (λ ps p. ruled 807 (returned p)) ∷ []

-- the first rule of locks that a phrase breaks, and where, where these are the values of constants, and these units do what an UPDATE block may not do or call one that does
abbrev pub fault_with : List Phrase → Known → List ℕ → Phrase → Option (ℕ × Place)
fault_with ps vs units p =
    option_or (ruled 801 (unheld ps p)) (option_or (ruled 802 (nested p)) (option_or (ruled 803 (barred_within ps p)) (option_or (ruled 804 (misled_by ps units p))
    (option_or (ruled 805 (misplaced ps vs p p.node)) (option_or (ruled 806 (mispassed ps p.around.block p.node)) (ruled 807 (returned p)))))))

-- the first one that one of the phrases breaks
unfoldable pub first_with : List Phrase → Known → List ℕ → List Phrase → Option (ℕ × Place)
first_with ps vs units [] = None
first_with ps vs units (p ∷ rest) = option_or (fault_with ps vs units p) (first_with ps vs units rest)
