-- Several places of a dimension that a subscript chooses: they are constant and lie inside it.
use Rattle.std.specs.Prelude.{ℕ, ◌+◌, ◌*◌, ℤ, pos, ◌+ℤ◌, ◌-ℤ◌, ◌&&◌, List, [], ◌∷◌, Option, Some, None, if◌then◌else◌}
use Rattle.std.specs.Option.{option_and_then}
use Rattle.hal_grammar.specs.Expressions.{Subscripts, NoSubscripts, MoreSubscripts, Sub, Every, Range, Portion, One as OnePlace}
use Rattle.hal_states.specs.Numbers.{is_inside, before_nearest}
use Rattle.hal_meaning.specs.Variables.{Dimension}
use Rattle.hal_agreement.specs.Sites.{Site}
use Rattle.hal_gen_expr.specs.declared.spans.Span.{Span}
use Rattle.hal_gen_expr.specs.Constants.{integer_of, place_of}

abbrev pub a_span : ℤ → ℤ → Span
a_span first last = record { first = first; last = last }

-- the places from one to another
abbrev pub from_to : Option ℤ → Option ℤ → Option Span
from_to (Some first) (Some last) = Some (a_span first last)
from_to (Some first) None = None
from_to None last = None

-- so many places at one
abbrev pub so_many_at : Option ℤ → Option ℤ → Option Span
so_many_at (Some count) (Some first) = Some (a_span first ((first +ℤ count) -ℤ pos 1))
so_many_at (Some count) None = None
so_many_at None first = None

-- the places of so many that a subscript chooses, where it chooses several, which are constant
abbrev pub span_of : Site → ℕ → Sub → Option Span
span_of site size (Every there) = Some (a_span (pos 1) (pos size))
span_of site size (OnePlace one) = None
span_of site size (Range first last) = from_to (place_of site size first) (place_of site size last)
span_of site size (Portion count first) = so_many_at (integer_of site count) (place_of site size first)

-- how many places lie before them, where they lie inside
abbrev pub places_before_span : ℕ → Span → Option ℕ
places_before_span size span = if is_inside size span.first && is_inside size span.last then Some (before_nearest size span.first) else None

abbrev pub places_skipped : Site → ℕ → Sub → Option ℕ
places_skipped site size sub = option_and_then (places_before_span size) (span_of site size sub)

-- how many elements lie before the one with so many places before it, in steps of this stride
abbrev pub elements_behind : ℕ → Option ℕ → ℕ
elements_behind stride None = 0
elements_behind stride (Some places) = places * stride

-- the elements before those that a subscript of a dimension chooses as several
abbrev pub elements_skipped : Site → Dimension → Sub → ℕ
elements_skipped site d sub = elements_behind d.stride (places_skipped site d.size sub)

-- the same of subscripts of dimensions
abbrev pub skips : Site → Subscripts → List Dimension → ℕ
skips site NoSubscripts ds = 0
skips site (MoreSubscripts first others) [] = 0
skips site (MoreSubscripts first others) (d ∷ ds) = elements_skipped site d first + skips site others ds
