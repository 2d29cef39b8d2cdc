-- Which blocks an image has: for each process one for each unit that it calls, by itself or through others, and behind them one of its own.
use Rattle.std.specs.Prelude.{ℕ, zero, suc, ◌+◌, ◌==◌, Bool, not, ◌&&◌, List, [], ◌∷◌, ◌++◌, length, map, filter_map, Option, Some, None, slice_get, if◌then◌else◌}
use Rattle.hal_phrases.specs.Phrases.{Phrase}
use Rattle.hal_reach.specs.Calls.{reaching}
use Rattle.hal_reach.specs.Places.{is_among}
use Rattle.hal_meaning.specs.Bodies.{processes_of, processes_reaching}
use Rattle.hal_meaning.specs.Places.{unit_numbers}
use Rattle.hal_meaning.specs.Sets.{Set}
use Rattle.hal_code.specs.declared.row.View.{View}
use Rattle.hal_gen_expr.specs.Numbering.{Numbering, numbering_with}
use Rattle.hal_link.specs.Shapes.{Shapes}

-- a unit, the processes that reach it, and how many units do
pub record Rank : Type 0 where
  pub unit : ℕ
  pub processes : List ℕ
  pub callers : ℕ

abbrev pub ranked : List Phrase → ℕ → Rank
ranked ps q = record { unit = q; processes = processes_reaching ps q; callers = length (reaching ps (q ∷ [])) }

abbrev pub ranks_of : List Phrase → List Rank
ranks_of ps = map (ranked ps) (unit_numbers ps)

-- whether the process whose unit has this number calls a unit
abbrev pub calls : ℕ → Rank → Bool
calls process r = not (r.unit == process) && is_among r.processes process

-- the same of a unit that so many units reach
abbrev pub called_if : ℕ → ℕ → Rank → Option ℕ
called_if process n r = if (r.callers == n) && calls process r then Some r.unit else None

abbrev pub called_at : ℕ → ℕ → List Rank → List ℕ
called_at process n ranks = filter_map (called_if process n) ranks

-- the units that it calls and that so many units reach at most, first those that more do: a unit stands before those that call it, since all that reach these reach it
unfoldable pub called_from : ℕ → ℕ → List Rank → List ℕ
called_from process zero ranks = []
called_from process (suc n) ranks = called_at process (suc n) ranks ++ called_from process n ranks

-- a process: its number, its unit, the units that it calls, and the number of the block of the first one
pub record Outline : Type 0 where
  pub process : ℕ
  pub unit : ℕ
  pub first : ℕ
  pub called : List ℕ

-- the number of its own block
abbrev pub own_block : Outline → ℕ
own_block o = o.first + length o.called

abbrev pub outlined : List Rank → ℕ → ℕ → ℕ → Outline
outlined ranks p first k = record { process = p; unit = k; first = first; called = called_from k (length ranks) ranks }

-- the processes from this one on, whose units have these numbers, and the first of whose blocks has that one
unfoldable pub outlines_from : List Rank → ℕ → ℕ → List ℕ → List Outline
outlines_from ranks p first [] = []
outlines_from ranks p first (k ∷ ks) = outlined ranks p first k ∷ outlines_from ranks (p + 1) (own_block (outlined ranks p first k) + 1) ks

abbrev pub outlines_of : Set → List Outline
outlines_of s = outlines_from (ranks_of s.phrases) 0 0 (processes_of s.phrases)

-- the number of the block of the process with this number
abbrev pub block_of : List Outline → ℕ → ℕ
block_of outlines p = elim (slice_get outlines p) [ None ↦ 0 | Some o ↦ own_block o ]

-- how a process's code numbers shapes, views and blocks
abbrev pub numbering_of : Shapes → List View → Outline → Numbering
numbering_of shapes views o = numbering_with shapes views o.first o.called
