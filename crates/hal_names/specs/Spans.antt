-- Where the phrases of each home stand.
use Rattle.std.specs.Prelude.{◌≡◌, ◌≤◌, ℕ, ◌+◌, ◌-◌, ◌==◌, Bool, false, List, length, take, drop, Option, Some, None, if◌then◌else◌}
use Rattle.std.specs.List.{list_any}
use Rattle.std.specs.Map.{lookup}
use Rattle.hal_phrases.specs.Phrases.{Phrase}
use Rattle.hal_names.specs.declared.spans.Span.{Span}

-- whether a phrase has the home with this number
abbrev pub is_of : ℕ → Phrase → Bool
is_of home p = p.around.home == home

-- no phrase of the home stands before the span, and none behind it
pub record IsSpan (home : ℕ) (ps : List Phrase) (s : Span) : Type 0 where
  pub before : list_any (is_of home) (take s.first ps) ≡ false
  pub behind : list_any (is_of home) (drop s.end ps) ≡ false
  pub ordered : s.first ≤ s.end
  pub within : s.end ≤ length ps

-- the span of a home that no phrase has: it is empty, and stands before all of them
abbrev pub or_nothing : Option Span → Span
or_nothing None = record { first = 0; end = 0 }
or_nothing (Some s) = s

-- what the entries of a map have for a home
abbrev pub span_of : List (ℕ × Span) → ℕ → Option Span
span_of entries home = lookup (λ k. home == k) entries

-- the entries are the spans of the homes of the phrases
pub record AreSpans (entries : List (ℕ × Span)) (ps : List Phrase) : Type 0 where
  pub finds : (home : ℕ) → IsSpan home ps (or_nothing (span_of entries home))

-- a span that was known, or none, up to this place
abbrev pub up_to : ℕ → Option Span → Span
up_to end None = record { first = end - 1; end = end }
up_to end (Some s) = record { first = s.first; end = end }

-- one more phrase of this home is noted, before this place
pub record IsNoted (old new : List (ℕ × Span)) (end home : ℕ) : Type 0 where
  pub finds : (q : ℕ) → span_of new q ≡ (if home == q then Some (up_to end (span_of old home)) else span_of old q)
