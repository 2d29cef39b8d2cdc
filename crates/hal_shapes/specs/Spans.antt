-- What subscripts choose of an array, and whether its cells follow each other in storage.
use Rattle.std.specs.Prelude.{ℕ, ◌==◌, Bool, true, false, ◌&&◌, ◌||◌, List, Option, Some, None, if◌then◌else◌}
use Rattle.hal_grammar.specs.Expressions.{Subscript, Unsubscripted, ByName, ByInteger, ByParts, Subscripts, NoSubscripts, MoreSubscripts, Sub}
use Rattle.hal_phrases.specs.Phrases.{Phrase}
use Rattle.hal_kinds.specs.Subscripts.{is_none}
use Rattle.hal_constants.specs.Known.{Known}
use Rattle.hal_sizes.specs.declared.extent.Extent.{Extent}
use Rattle.hal_sizes.specs.Sizes.{extent}
use Rattle.hal_shapes.specs.declared.reach.Reach.{Reach}
use Rattle.hal_shapes.specs.declared.reach.Reach.TheVariants as reach
use Rattle.hal_shapes.specs.declared.span.Span.{Span}
use Rattle.hal_shapes.specs.Reaches.{reach_of}

abbrev pub span : ℕ → ℕ → Bool → Span
span size length kept = record { size = size; length = length; kept = kept }

-- a whole dimension; where there is none it is one place that leaves none
abbrev pub whole_span : ℕ → Span
whole_span size = if size == 0 then span 1 1 false else span size size true

-- what is reached of a dimension, where that is inside
unfoldable pub span_by : ℕ → Reach → Option Span
span_by size reach.One = Some (span size 1 false)
span_by size (reach.Many n) = Some (span size n true)
span_by size other = None

-- what the first of these subscripts chooses of a dimension; without one it is whole
unfoldable pub first_span : List Phrase → Known → Phrase → ℕ → Subscripts → Option Span
first_span ps vs p size NoSubscripts = Some (whole_span size)
first_span ps vs p size (MoreSubscripts first others) = span_by size (reach_of ps vs p size first)

-- the subscripts behind the first one
unfoldable pub later_subs : Subscripts → Subscripts
later_subs NoSubscripts = NoSubscripts
later_subs (MoreSubscripts first others) = others

-- whether two arrays have the same dimensions
abbrev pub same_extent : Extent → Extent → Bool
same_extent e f = (e.first == f.first) && ((e.second == f.second) && (e.third == f.third))

-- what is left where so much is chosen of a dimension, before what is left of the others
abbrev pub left_before : Span → Extent → Extent
left_before s e = if s.kept then extent s.length e.first e.second else e

-- the dimensions that are left
abbrev pub left_of : Span → Span → Span → Extent
left_of s t u = left_before s (left_before t (left_before u (extent 0 0 0)))

-- whether one place of a dimension is chosen, or all are
abbrev pub is_single : Span → Bool
is_single s = s.length == 1

abbrev pub is_full : Span → Bool
is_full s = s.length == s.size

-- whether the chosen cells follow each other: one place before some dimension, all places behind it
abbrev pub follows : Span → Span → Span → Bool
follows s t u = (is_full t && is_full u) || ((is_single s && is_full u) || (is_single s && is_single t))

-- whether three choices leave these dimensions, of cells that follow each other; true where a choice isn't inside, which breaks another rule
unfoldable pub leave : Extent → Option Span → Option Span → Option Span → Bool
leave wanted (Some s) (Some t) (Some u) = same_extent wanted (left_of s t u) && follows s t u
leave wanted s t u = true

-- the subscripts of array places, of data that have an array: those with the mark, else those without one
unfoldable pub array_subs : Subscript → Subscripts
array_subs (ByParts place copies arrays components) = if is_none arrays then components else arrays
array_subs other = NoSubscripts

-- whether what these subscripts choose of an array has the dimensions that are wanted, and cells that follow each other
abbrev pub selects : List Phrase → Known → Phrase → Extent → Extent → Subscripts → Bool
selects ps vs p wanted e subs =
    leave wanted (first_span ps vs p e.first subs) (first_span ps vs p e.second (later_subs subs)) (first_span ps vs p e.third (later_subs (later_subs subs)))
