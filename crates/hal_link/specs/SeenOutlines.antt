-- What each rank and outline of the program is.
use Rattle.std.specs.Prelude.{ℕ, List, [], ◌∷◌}
use Rattle.hal_reach.specs.Marks.{Reached}
use Rattle.hal_link.specs.declared.ranks.Rank as rust-rank
use Rattle.hal_link.specs.declared.outlines.Outline as rust-outline
use Rattle.hal_link.specs.Outlines.{Rank, Outline}

abbrev pub seen_rank : rust-rank.Rank → Rank
seen_rank r = record { unit = r.unit; processes = r.processes.now; callers = r.callers }

-- a unit that these processes reach, and so many units
abbrev pub rank_with : Reached → ℕ → Rank
rank_with r callers = record { unit = r.unit; processes = r.processes; callers = callers }

-- units, each with how many reach it
unfoldable pub ranks_with : List Reached → List ℕ → List Rank
ranks_with [] callers = []
ranks_with (r ∷ rs) [] = []
ranks_with (r ∷ rs) (n ∷ ns) = rank_with r n ∷ ranks_with rs ns

abbrev pub seen_outline : rust-outline.Outline → Outline
seen_outline o = record { process = o.process; unit = o.unit; first = o.first; called = o.called.items }
