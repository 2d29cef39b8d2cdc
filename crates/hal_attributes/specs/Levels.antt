-- The rules of the levels of a structure's parts: 710, and 701 of attributes on parts that have parts of their own.
use Rattle.std.specs.Prelude.{ℕ, suc, ◌==◌, nat_le, Bool, true, false, ◌&&◌, List, [], ◌∷◌, Option, Some, None, if◌then◌else◌}
use Rattle.std.specs.Option.{option_or}
use Rattle.hal_base.specs.declared.refusal.Place.{Place}
use Rattle.hal_grammar.specs.Declarations.{Attribute, Dimensions, Typed, Part}
use Rattle.hal_phrases.specs.Phrases.{Node, OfStructure}
use Rattle.hal_attributes.specs.Features.{place_of_attribute}

-- whether a part of this level may stand behind one of that level; the first part of all has level 1
unfoldable pub may_follow : ℕ → ℕ → Bool
may_follow before level = nat_le 1 level && nat_le level (suc before)

-- the first part whose level is none, behind a part of this level
unfoldable pub level_fault : ℕ → List Part → Option Place
level_fault before [] = None
level_fault before (x ∷ xs) = if may_follow before x.level then level_fault x.level xs else Some x.place

-- rule 710 of levels
unfoldable pub misleveled : Node → Option Place
misleveled (OfStructure name parts) = level_fault 0 parts
misleveled other = None

-- whether an attribute says what the parts of a part say
unfoldable pub is_of_bottom : Attribute → Bool
is_of_bottom (Dimensions place sizes) = true
is_of_bottom (Typed kind) = true
is_of_bottom other = false

-- a type or an array of a part that has parts of its own
unfoldable pub first_of_bottom : List Attribute → Option Place
first_of_bottom [] = None
first_of_bottom (x ∷ xs) = if is_of_bottom x then Some (place_of_attribute x) else first_of_bottom xs

-- whether the next part belongs to a part of this level
unfoldable pub is_parent : ℕ → List Part → Bool
is_parent level [] = false
is_parent level (y ∷ ys) = nat_le 1 level && (y.level == suc level)

-- a type or an array of a part that has parts of its own, before these parts
abbrev pub part_fault : Part → List Part → Option Place
part_fault x xs = if is_parent x.level xs then first_of_bottom x.attributes else None

-- the same of one of the parts
unfoldable pub parent_fault : List Part → Option Place
parent_fault [] = None
parent_fault (x ∷ xs) = option_or (part_fault x xs) (parent_fault xs)

-- rule 701 of parts that have parts
unfoldable pub overtyped : Node → Option Place
overtyped (OfStructure name parts) = parent_fault parts
overtyped other = None
