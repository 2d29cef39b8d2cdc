-- Rule 704 of ranges of copies and of array places.
use Rattle.std.specs.Prelude.{ℕ, ◌==◌, Bool, true, false, List, Option, Some, None, slice_get, if◌then◌else◌}
use Rattle.std.specs.Option.{option_and_then, option_or}
use Rattle.hal_base.specs.declared.refusal.Place.{Place}
use Rattle.hal_grammar.specs.Leaves.{Naming}
use Rattle.hal_grammar.specs.Expressions.{Reference, Refers, Subscript, Subscripts, NoSubscripts, MoreSubscripts, Sub}
use Rattle.hal_phrases.specs.Phrases.{Node, Phrase, OfReference}
use Rattle.hal_constants.specs.Known.{Known}
use Rattle.hal_sizes.specs.declared.extent.Extent.{Extent}
use Rattle.hal_shapes.specs.declared.reach.Reach.{Reach}
use Rattle.hal_shapes.specs.declared.reach.Reach.TheVariants as reach
use Rattle.hal_shapes.specs.Reaches.{place_of_sub, reach_of}
use Rattle.hal_shapes.specs.Spans.{array_subs, later_subs}
use Rattle.hal_shapes.specs.Selections.{copies_at, copy_subs, declared_for, extent_at}

unfoldable pub is_outside : Reach → Bool
is_outside reach.Outside = true
is_outside other = false

-- a subscript among so many places; where there are none another rule is broken
abbrev pub range_fault : List Phrase → Known → Phrase → ℕ → Sub → Option (ℕ × Place)
range_fault ps vs p size sub = if size == 0 then None else if is_outside (reach_of ps vs p size sub) then Some (704, place_of_sub sub) else None

-- the first of these subscripts
unfoldable pub first_range : List Phrase → Known → Phrase → ℕ → Subscripts → Option (ℕ × Place)
first_range ps vs p size NoSubscripts = None
first_range ps vs p size (MoreSubscripts first others) = range_fault ps vs p size first

-- subscripts of an array, dimension by dimension
abbrev pub array_ranges : List Phrase → Known → Phrase → Extent → Subscripts → Option (ℕ × Place)
array_ranges ps vs p e subs =
    option_or (first_range ps vs p e.first subs) (option_or (first_range ps vs p e.second (later_subs subs)) (first_range ps vs p e.third (later_subs (later_subs subs))))

-- a subscript of data with so many copies and these dimensions, where they are known
abbrev pub copy_fault : List Phrase → Known → Phrase → Subscript → Option ℕ → Option (ℕ × Place)
copy_fault ps vs p subscript copies = option_and_then (λ size. first_range ps vs p size (copy_subs subscript)) copies

abbrev pub array_fault : List Phrase → Known → Phrase → Subscript → Option Extent → Option (ℕ × Place)
array_fault ps vs p subscript e = option_and_then (λ (e : Extent). array_ranges ps vs p e (array_subs subscript)) e

-- the same of data that this phrase declares, and a path
abbrev pub selection_fault : List Phrase → Known → Phrase → List Naming → Subscript → Phrase → Option (ℕ × Place)
selection_fault ps vs p path subscript s = option_or (copy_fault ps vs p subscript (copies_at ps vs s s.node)) (array_fault ps vs p subscript (extent_at ps vs s path s.node))

unfoldable pub reference_ranges : List Phrase → Known → Phrase → Reference → Option (ℕ × Place)
reference_ranges ps vs p (Refers place name path subscript) = option_and_then (λ (s : Phrase). selection_fault ps vs p path subscript s) (declared_for ps p name)

-- rule 704 of ranges
unfoldable pub misranged : List Phrase → Known → Phrase → Node → Option (ℕ × Place)
misranged ps vs p (OfReference r reference) = reference_ranges ps vs p reference
misranged ps vs p other = None
