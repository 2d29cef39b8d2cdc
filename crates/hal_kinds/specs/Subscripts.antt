-- What a subscript chooses of data.
use Rattle.std.specs.Prelude.{ℕ, zero, suc, ◌==◌, nat_lt, Bool, true, false, ◌||◌, ◌&&◌, not, Option, Some, None, if◌then◌else◌}
use Rattle.hal_grammar.specs.Expressions.{Subscript, Unsubscripted, ByName, ByInteger, ByParts, Subscripts, NoSubscripts, MoreSubscripts, Sub, Every, One, Range, Portion}
use Rattle.hal_kinds.specs.declared.class.Class.{Class}
use Rattle.hal_kinds.specs.declared.class.Class.TheVariants as class
use Rattle.hal_kinds.specs.declared.choice.Choice.{Choice}
use Rattle.hal_kinds.specs.declared.data.Data.{Data}

-- how many subscripts there are
unfoldable pub subscript_count : Subscripts → ℕ
subscript_count NoSubscripts = zero
subscript_count (MoreSubscripts first others) = suc (subscript_count others)

-- whether a subscript chooses several places
unfoldable pub is_many : Sub → Bool
is_many (Every place) = true
is_many (One position) = false
is_many (Range first last) = true
is_many (Portion count first) = true

-- whether one of them does
unfoldable pub are_many : Subscripts → Bool
are_many NoSubscripts = false
are_many (MoreSubscripts first others) = is_many first || are_many others

-- so many subscripts of copies, of array places and of components; whether some of them choose several
abbrev pub choice : ℕ → ℕ → ℕ → Bool → Bool → Choice
choice copies places components many_copies many_places =
    record { copies = copies; places = places; components = components; many_copies = many_copies; many_places = many_places }

-- one subscript without a mark, of data with an array or without one
abbrev pub single : Bool → Choice
single arrayed = if arrayed then choice 0 1 0 false false else choice 0 0 1 false false

-- whether there is no subscript
abbrev pub is_none : Subscripts → Bool
is_none list = subscript_count list == 0

-- three parts; those without a mark are of the array where there is one and no other part is
unfoldable pub parts_chosen : Bool → Subscripts → Subscripts → Subscripts → Choice
parts_chosen arrayed copies arrays components =
    if arrayed && is_none arrays
    then choice (subscript_count copies) (subscript_count components) 0 (are_many copies) (are_many components)
    else choice (subscript_count copies) (subscript_count arrays) (subscript_count components) (are_many copies) (are_many arrays)

-- what a subscript chooses, of data with an array or without one
unfoldable pub choice_of : Bool → Subscript → Choice
choice_of arrayed Unsubscripted = choice 0 0 0 false false
choice_of arrayed (ByName place name) = single arrayed
choice_of arrayed (ByInteger place at number) = single arrayed
choice_of arrayed (ByParts place copies arrays components) = parts_chosen arrayed copies arrays components

-- whether data have an array
abbrev pub is_arrayed : Data → Bool
is_arrayed d = nat_lt 0 d.dimensions

-- what a subscript chooses of these data
abbrev pub chosen : Data → Subscript → Choice
chosen d subscript = choice_of (is_arrayed d) subscript

-- whether several are left where so many subscripts choose
abbrev pub are_left : ℕ → Bool → Bool
are_left count many = (count == 0) || many

-- whether several copies are left
abbrev pub has_copies_left : Data → Choice → Bool
has_copies_left d c = d.copies && are_left c.copies c.many_copies

-- whether several places of the array are left
abbrev pub has_places_left : Data → Choice → Bool
has_places_left d c = is_arrayed d && are_left c.places c.many_places

-- whether copies are chosen where there are none, or by several subscripts
abbrev pub miscopied : Data → Choice → Bool
miscopied d c = nat_lt 0 c.copies && (not d.copies || nat_lt 1 c.copies)

-- whether array places are chosen by another number of subscripts than there are dimensions
abbrev pub misplaced : Data → Choice → Bool
misplaced d c = nat_lt 0 c.places && not (c.places == d.dimensions)

-- whether copies or array places are chosen by a wrong number of subscripts
abbrev pub is_miscounted : Data → Choice → Bool
is_miscounted d c = miscopied d c || misplaced d c

-- whether a class is that of structures
unfoldable pub is_structure_class : Class → Bool
is_structure_class class.Structure = true
is_structure_class other = false

-- the class of what is chosen
abbrev pub class_in : Data → Choice → Class
class_in d c = if is_structure_class d.class then class.Structure else if has_copies_left d c || has_places_left d c then class.Array else d.class

-- the class of what a reference chooses; a wrong number of subscripts chooses nothing that has a class
abbrev pub class_left : Data → Choice → Option Class
class_left d c = if is_miscounted d c then None else Some (class_in d c)
