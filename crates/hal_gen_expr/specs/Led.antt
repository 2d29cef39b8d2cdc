-- Data, and names that lead to some of their elements, among which subscripts choose.
use Rattle.std.specs.Prelude.{ℕ, ◌+◌, Bool, true, false, List, [], ◌++◌, map, min, Option, Some, None, if◌then◌else◌}
use Rattle.hal_grammar.specs.Leaves.{Naming}
use Rattle.hal_grammar.specs.Expressions.{Subscript, Unsubscripted, ByParts, Subscripts, Sub, One as OnePlace}
use Rattle.hal_constants.specs.Constants.{is_none}
use Rattle.hal_code.specs.declared.instr.Instr.{Instr}
use Rattle.hal_code.specs.declared.row.Dimension.{Dimension as Row}
use Rattle.hal_meaning.specs.Elements.{Shape, chosen, offset}
use Rattle.hal_meaning.specs.Expressions.{sizes_named, copies_of}
use Rattle.hal_meaning.specs.Places.{Storing}
use Rattle.hal_meaning.specs.Variables.{Dimension, dimensions_of, kind_of_first}
use Rattle.hal_agreement.specs.PlacedExpressions.{single_dimensions}
use Rattle.hal_agreement.specs.Sites.{Site}
use Rattle.hal_storage.specs.referents.Referents.{Referent, DataOf}
use Rattle.hal_gen_expr.specs.declared.elements.Element.{Element}
use Rattle.hal_gen_expr.specs.Elements.{counted, an_element, first_in}
use Rattle.hal_gen_expr.specs.declared.aims.Aim.{Aim}
use Rattle.hal_gen_expr.specs.declared.aims.Aim.TheVariants as aims
use Rattle.hal_gen_expr.specs.Leaves.{address_of, area_of, element_of}
use Rattle.hal_gen_expr.specs.Numbering.{Numbering, row_of}
use Rattle.hal_gen_expr.specs.Spans.{skips}

pub record Led : Type 0 where
  pub path : List Naming
  pub declared : ℕ
  pub stored : Storing
  pub shape : Shape

abbrev pub led_to : List Naming → ℕ → Storing → Shape → Led
led_to path k kept all = record { path = path; declared = k; stored = kept; shape = all }

-- those to whose elements names lead behind a name, where it refers to data
abbrev pub led_by : List Naming → Referent → Option Led
led_by path (DataOf k kept all) = Some (led_to path k kept all)
led_by path other = None

-- the sizes of the array of the first component to which they lead
abbrev pub sizes_led : Led → List ℕ
sizes_led l = sizes_named l.path l.shape

-- whether a subscript chooses one place
abbrev pub is_single : Sub → Bool
is_single (OnePlace one) = true
is_single other = false

-- the subscripts of an array: those without a mark are its where no others are
abbrev pub array_list : Subscripts → Subscripts → Subscripts
array_list arrays components = if is_none arrays then components else arrays

-- the dimensions in which a subscript chooses one place, whose number its code leaves
abbrev pub rows_left : Subscript → Led → List Dimension
rows_left Unsubscripted l = []
rows_left (ByParts there copies arrays components) l = single_dimensions (copies_of l.shape) copies ++ single_dimensions (dimensions_of (sizes_led l)) (array_list arrays components)
rows_left other l = dimensions_of (sizes_led l)

-- the elements before those that it chooses as several
abbrev pub skips_led : Site → Subscript → Led → ℕ
skips_led site (ByParts there copies arrays components) l = skips site copies (copies_of l.shape) + skips site (array_list arrays components) (dimensions_of (sizes_led l))
skips_led site other l = 0

-- the first one of the elements to which they lead
abbrev pub first_led : Led → Element
first_led l = first_in l.path l.shape.components

-- the element so many elements further on, as far as elements are counted
abbrev pub moved : ℕ → Element → Element
moved skipped one = an_element (min (skipped + one.before) counted) one.kind

-- the first one of the elements that a subscript chooses
abbrev pub first_chosen : Site → Subscript → Led → Element
first_chosen site subscript l = moved (min (skips_led site subscript l) counted) (first_led l)

-- the address of an element of these data in these dimensions, by its aim
abbrev pub addressed_from : Numbering → Site → Aim → List Row → Element → Led → Option Instr
addressed_from n site aims.Cell rows one l = address_of n site rows l.declared l.stored one.before one.kind
addressed_from n site (aims.Shape shape) rows one l = area_of n site rows shape l.declared l.stored one.before

-- the address of what they lead to in these dimensions, so many elements further on, by its aim
abbrev pub addressed : Numbering → Site → Aim → List Row → ℕ → Led → Option Instr
addressed n site aims.Cell rows skipped l = address_of n site rows l.declared l.stored (skipped + offset l.path l.shape.components) (kind_of_first (chosen l.path l.shape.components))
addressed n site (aims.Shape shape) rows skipped l = area_of n site rows shape l.declared l.stored (skipped + offset l.path l.shape.components)

-- of what a subscript chooses
abbrev pub aimed : Numbering → Site → Aim → Subscript → Led → Option Instr
aimed n site aim subscript l = addressed n site aim (map row_of (rows_left subscript l)) (skips_led site subscript l) l

-- the same without subscripts: a cell is the one element
abbrev pub plainly_aimed : Numbering → Site → Aim → Led → Option Instr
plainly_aimed n site aims.Cell l = element_of n site l.path l.declared l.stored l.shape
plainly_aimed n site (aims.Shape shape) l = area_of n site [] shape l.declared l.stored (offset l.path l.shape.components)
