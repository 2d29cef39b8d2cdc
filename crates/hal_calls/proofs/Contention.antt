-- The units that more than one process reaches.
use Rattle.std.proofs.Common.{◌≡◌, ℕ, List, [], ◌∷◌, map, filter, if◌then◌else◌, refl, ap}
use Rattle.hal_phrases.specs.Phrases.{Phrase}
use Rattle.hal_meaning.specs.Places.{unit_numbers}
use Rattle.hal_reach.specs.Calls.{reached, reached_of}
use Rattle.hal_calls.specs.Blocks.{contended, contended_among, is_contended}

some_contended : (ps : List Phrase) (ns : List ℕ) → contended_among (map (reached ps) ns) ≡ filter (is_contended ps) ns
unfolding contended_among
some_contended ps [] = refl
some_contended ps (n ∷ ns) = ap (λ (ks : List ℕ). if is_contended ps n then n ∷ ks else ks) (some_contended ps ns)

pub all_contended : (ps : List Phrase) → contended_among (reached_of ps) ≡ contended ps
unfolding reached_of contended
all_contended ps = some_contended ps (unit_numbers ps)
