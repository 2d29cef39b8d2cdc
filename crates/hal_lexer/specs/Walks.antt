-- What is left of a walk over children.
use Rattle.std.specs.Prelude.{ℕ, ◌+◌, ◌*◌, List, [], ◌∷◌, length, flat_map, Option}
use Rattle.std.specs.Borrow.{Bor}
use Rattle.hal_base.specs.declared.refusal.Place.{Place}
use Rattle.hal_words.specs.declared.word.Word.{Word}
use Rattle.hal_words.specs.Lines.{Item}
use Rattle.hal_lexer.specs.declared.child.Child.{Child}
use Rattle.hal_lexer.specs.Compiled.{Table, steps, step_items}

-- a list of the code
abbrev pub list_of : {A : Type 0} → Bor (List A) → List A
list_of list = list.now

-- an empty list isn't kept
abbrev pub kept : {A : Type 0} → List A → List (List A) → List (List A)
kept [] left = left
kept (one ∷ rest) left = (one ∷ rest) ∷ left

-- the steps that are left
abbrev pub left_steps : Table → List (List Child) → List (Option Word)
left_steps table left = flat_map (steps table) left

-- the words that are left
abbrev pub left_words : Table → Place → List (List Child) → List Item
left_words table place left = flat_map (step_items place) (left_steps table left)

-- a step of the walk takes one of the steps, and may leave a list more, or it ends a list
abbrev pub length_left : Table → List (List Child) → ℕ
length_left table left = 2 * length (left_steps table left) + length left
