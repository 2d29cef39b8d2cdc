-- Event expressions, which are written with the operands first.
use Rattle.std.specs.Prelude.{ℕ, Bool, false, not, ◌&&◌, ◌||◌, List, [], ◌∷◌, slice_index_or}
use Rattle.hal_values.specs.declared.tables.Item.{Item}
use Rattle.hal_values.specs.declared.tables.Item.TheVariants as item
use Rattle.hal_values.specs.declared.tables.Tables.{Tables}
use Rattle.exec_model.specs.Moments.{Moment, event_of}

-- what an item makes of the operands before it, the latest first; an item that lacks operands leaves them
abbrev pub item_applied : (ℕ → Bool) → Item → List Bool → List Bool
item_applied value (item.Event e) operands = value e ∷ operands
item_applied value item.Not [] = []
item_applied value item.Not (a ∷ operands) = not a ∷ operands
item_applied value item.And [] = []
item_applied value item.And (b ∷ []) = b ∷ []
item_applied value item.And (b ∷ a ∷ operands) = (a && b) ∷ operands
item_applied value item.Or [] = []
item_applied value item.Or (b ∷ []) = b ∷ []
item_applied value item.Or (b ∷ a ∷ operands) = (a || b) ∷ operands

-- what items make of the operands before them
abbrev pub items_applied : (ℕ → Bool) → List Item → List Bool → List Bool
items_applied value [] operands = operands
items_applied value (first ∷ items) operands = items_applied value items (item_applied value first operands)

-- the value of items where events have these values
abbrev pub items_truth : (ℕ → Bool) → List Item → Bool
items_truth value items = slice_index_or (items_applied value items []) 0 false

-- the event expression of this number is TRUE
abbrev pub truth : Tables → Moment → ℕ → Bool
truth tables m x = items_truth (event_of tables m) (slice_index_or tables.expressions x [])
