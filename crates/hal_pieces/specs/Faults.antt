-- The items of the code as those of the definition, and which of a file's items are faults.
use Rattle.std.specs.Prelude.{◌≡◌, ℕ, List, All, Contains, ⊤}
use Rattle.hal_base.specs.declared.refusal.Fault.{Fault}
use Rattle.hal_base.specs.declared.refusal.Place.{Place}
use Rattle.hal_base.specs.declared.refusal.Fault.TheVariants as fault
use Rattle.hal_base.specs.declared.refusal.Refusal.{Refusal}
use Rattle.hal_words.specs.Pieces.{Piece, Is, Replacement, Open, Wrong}
use Rattle.hal_words.specs.Lines as shape
use Rattle.hal_words.specs.Lines.{item}
use Rattle.hal_pieces.specs.declared.item.Item.{Item}
use Rattle.hal_pieces.specs.Seen.{seen_right}

abbrev pub seen_item : Item → shape.Item
seen_item one = item (seen_right one.piece) one.place

-- no broken rule
abbrev pub IsRight : Piece → Type 0
IsRight (Is word) = Unit {0}
IsRight (Replacement bytes) = Unit {0}
IsRight Open = Unit {0}
IsRight (Wrong rule) = ⊥

-- none of the items is a broken rule
abbrev pub HasNoFault : List shape.Item → Type 0
HasNoFault items = All (λ one. IsRight one.piece) items

-- one of the items is this rule, broken at this place
abbrev pub HasFault : List shape.Item → Refusal → Type 0
HasFault items refusal = Contains items (item (Wrong refusal.rule.0) refusal.place)

-- the rule that an item breaks, or memory ended
abbrev pub IsFaultItem : shape.Item → Fault → Type 0
IsFaultItem one (fault.Broken refusal) = one ≡ item (Wrong refusal.rule.0) refusal.place
IsFaultItem one (fault.Memory error) = ⊤

-- what an error tells of the items
abbrev pub Tells : List shape.Item → Fault → Type 0
Tells items (fault.Broken refusal) = HasFault items refusal
Tells items (fault.Memory error) = Unit {0}

-- the fault of this rule, broken at this place
abbrev pub IsBrokenAt : ℕ → Place → Fault → Type 0
IsBrokenAt rule place (fault.Broken refusal) = (refusal.rule.0 ≡ rule) × (refusal.place ≡ place)
IsBrokenAt rule place (fault.Memory error) = ⊥

abbrev pub IsMemory : Fault → Type 0
IsMemory (fault.Broken refusal) = ⊥
IsMemory (fault.Memory error) = Unit {0}
