-- Where cells lie, what own places hold, and the sorts of operands.
use Rattle.std.specs.Prelude.{◌≡◌, true, List, [], ◌∷◌, map}
use Rattle.hal_values.specs.declared.value.Kind.{Kind}
use Rattle.hal_values.specs.declared.value.Value.{Value}
use Rattle.hal_values.specs.declared.value.Value.TheVariants as value
use Rattle.hal_states.specs.Spots.{Spot, Shared, Own, Nowhere, Held, Holds, Refers}
use Rattle.hal_code.specs.declared.row.OwnPlace.{OwnPlace}
use Rattle.hal_code.specs.declared.row.OwnPlace.TheVariants as place
use Rattle.hal_code.specs.Images.{places_of, kinds_of}
use Rattle.hal_code.specs.Cores.{Operand, Val, At, Area, Setting}
use Rattle.hal_code.specs.Sorts.{Sort, I, B, T, A, R, sort_of}
use Rattle.hal_code.specs.Effects.{Sorts}
use Rattle.hal_code.specs.Memory.{lies_from, shared_memory, own_memory}

-- cells of these kinds lie at a spot, one behind the other; nowhere any do
abbrev pub LieAt : Setting → Spot → List Kind → Type 0
LieAt s (Shared number) kinds = lies_from (shared_memory s.image) number kinds ≡ true
LieAt s (Own number) kinds = lies_from (own_memory (places_of s.image s.process)) number kinds ≡ true
LieAt s Nowhere kinds = Unit {0}

abbrev pub sort_of_value : Value → Sort
sort_of_value (value.Int a) = I
sort_of_value (value.Bits len word) = B
sort_of_value (value.Text text) = T

abbrev pub sort_of_operand : Operand → Sort
sort_of_operand (Val v) = sort_of_value v
sort_of_operand (At at kind) = A kind
sort_of_operand (Area at shape) = R shape

-- the sorts of the operands on a stack
abbrev pub sorts_of : List Operand → Sorts
sorts_of stack = map sort_of_operand stack

-- an address leads to what it is the address of
abbrev pub Leads : Setting → Operand → Type 0
Leads s (Val v) = Unit {0}
Leads s (At at kind) = LieAt s at (kind ∷ [])
Leads s (Area at shape) = LieAt s at (kinds_of s.image shape)

abbrev pub AllLead : Setting → List Operand → Type 0
AllLead s [] = Unit {0}
AllLead s (one ∷ stack) = Leads s one × AllLead s stack

-- what an own place holds fits it: a value of the sort of its kind, or a spot at which the cells of its shape lie
abbrev pub IsHeld : Setting → OwnPlace → Held → Type 0
IsHeld s (place.Data kind initial) (Holds v) = sort_of_value v ≡ sort_of kind
IsHeld s (place.Reference shape) (Refers at) = LieAt s at (kinds_of s.image shape)
IsHeld s one other = ⊥

-- so does what each of them holds
abbrev pub AreHeld : Setting → List OwnPlace → List Held → Type 0
AreHeld s [] [] = Unit {0}
AreHeld s (one ∷ places) (held ∷ more) = IsHeld s one held × AreHeld s places more
AreHeld s places held = ⊥
