-- The units of a set, with the processes that reach them.
use Rattle.std.specs.Prelude.{ℕ, List, [], ◌∷◌, map}
use Rattle.std.proofs.Common.{◌≡◌, refl, ap}
use Rattle.hal_phrases.specs.Phrases.{Phrase}
use Rattle.hal_reach.specs.Calls.{caller_count, callers_of, reached, reached_of}
use Rattle.hal_meaning.specs.Places.{unit_numbers}
use Rattle.hal_link.specs.Outlines.{ranked, ranks_of}
use Rattle.hal_link.specs.SeenOutlines.{ranks_with}

all_ranked : (ps : List Phrase) (units : List ℕ) → ranks_with (map (reached ps) units) (map (caller_count ps) units) ≡ map (ranked ps) units
unfolding ranks_with
all_ranked ps [] = refl
all_ranked ps (q ∷ units) = ap (λ list. ranked ps q ∷ list) (all_ranked ps units)

pub ranks_given : (ps : List Phrase) → ranks_with (reached_of ps) (callers_of ps) ≡ ranks_of ps
unfolding reached_of callers_of
ranks_given ps = all_ranked ps (unit_numbers ps)
