-- The entries for errors that a block can have.
use Rattle.std.specs.Prelude.{ℕ, ◌+◌, length, Bool, true, false, ◌||◌, List, [], ◌∷◌, Some, None, slice_get}
use Rattle.hal_values.specs.declared.environment.Selector.{Selector}
use Rattle.hal_values.specs.Searching.{same_selector}
use Rattle.hal_code.specs.declared.image.ImageParts.{ImageParts}
use Rattle.hal_code.specs.declared.instr.Instr.{Instr}
use Rattle.hal_code.specs.declared.instr.Instr.TheVariants as instr
use Rattle.hal_code.specs.Blocks.{code_of}
use Rattle.hal_code.specs.Controlling.{selector_of}
use Rattle.hal_code.specs.Cores.{Core, Frame}

-- the selectors of the entries that the ON instructions of some code make
abbrev pub with_on : Instr → List Selector → List Selector
with_on (instr.On group number response change event target) selectors = selector_of group number ∷ selectors
with_on other selectors = selectors

abbrev pub selectors_in : List Instr → List Selector
selectors_in [] = []
selectors_in (i ∷ code) = with_on i (selectors_in code)

-- those of the block with this number
abbrev pub selectors_of : ImageParts → ℕ → List Selector
selectors_of image number = elim (slice_get image.blocks number) [ None ↦ [] | Some block ↦ selectors_in (code_of image block) ]

-- whether a selector is one of some
abbrev pub is_among : Selector → List Selector → Bool
is_among one [] = false
is_among one (other ∷ others) = same_selector one other || is_among one others

-- whether an instruction is ON, and how many there are
abbrev pub is_on : Instr → Bool
is_on (instr.On group number response change event target) = true
is_on other = false

abbrev pub on_count : List Instr → ℕ
on_count code = length (selectors_in code)

-- how many entries the blocks have that lie below
abbrev pub saved_entries : List Frame → ℕ
saved_entries [] = 0
saved_entries (f ∷ fs) = length f.entries + saved_entries fs

-- all entries of a core
abbrev pub entry_count : Core → ℕ
entry_count c = length c.entries + saved_entries c.frames
