-- Which views the blocks of a process name, and which of them fit its own places: lists of bits, one for each view.
use Rattle.std.specs.Prelude.{ℕ, zero, suc, ◌==◌, Bool, true, false, not, ◌&&◌, ◌||◌, List, [], ◌∷◌, drop, map, slice_set, if◌then◌else◌}
use Rattle.hal_code.specs.declared.image.ImageParts.{ImageParts}
use Rattle.hal_code.specs.declared.instr.Instr.{Instr}
use Rattle.hal_code.specs.declared.instr.Instr.TheVariants as instr
use Rattle.hal_code.specs.declared.row.Base.TheVariants as base
use Rattle.hal_code.specs.declared.row.Block.{Block}
use Rattle.hal_code.specs.declared.row.View.{View}
use Rattle.hal_code.specs.Blocks.{code_of}
use Rattle.hal_code.specs.Images.{places_of}
use Rattle.hal_code.specs.Memory.{is_own, fits_places}
use Rattle.hal_verify.specs.declared.room.Room.{Room}
use Rattle.hal_verify.specs.Viewing.{view_lies, fits_rooms}

-- the view that an instruction names is marked
abbrev pub mark : List Bool → Instr → List Bool
mark marks (instr.Cell view) = slice_set marks view true
mark marks (instr.Whole view) = slice_set marks view true
mark marks other = marks

abbrev pub mark_code : List Bool → List Instr → List Bool
mark_code marks [] = marks
mark_code marks (i ∷ is) = mark_code (mark marks i) is

abbrev pub mark_block : ImageParts → ℕ → List Bool → Block → List Bool
mark_block image p marks block = if block.process == p then mark_code marks (code_of image block) else marks

abbrev pub mark_blocks : ImageParts → ℕ → List Bool → List Block → List Bool
mark_blocks image p marks [] = marks
mark_blocks image p marks (block ∷ blocks) = mark_blocks image p (mark_block image p marks block) blocks

-- of no view
abbrev pub no_marks : List View → List Bool
no_marks views = map (λ (view : View). false) views

-- the views that a process names
abbrev pub named_of : ImageParts → ℕ → List Bool
named_of image p = mark_blocks image p (no_marks image.views) image.blocks

-- the views that fit its own places
abbrev pub fits_of : ImageParts → ℕ → List Bool
fits_of image p = map (λ (view : View). fits_places image view (places_of image p)) image.views

-- the same by what stands there
abbrev pub rooms_fit : ImageParts → List Room → List View → List Bool
rooms_fit image rooms [] = []
rooms_fit image rooms (view ∷ views) = fits_rooms image view rooms ∷ rooms_fit image rooms views

-- those that are named fit
abbrev pub all_named : List Bool → List Bool → Bool
all_named [] fits = true
all_named (named ∷ marks) [] = true
all_named (named ∷ marks) (fit ∷ fits) = (not named || fit) && all_named marks fits

-- of each view whether it was found to fit before, or does here
abbrev pub either_of : List Bool → List Bool → List Bool
either_of [] fits = []
either_of (found ∷ others) [] = []
either_of (found ∷ others) (fit ∷ fits) = (found || fit) ∷ either_of others fits

-- each view of own places was found to fit
abbrev pub own_found : List View → List Bool → Bool
own_found [] found = true
own_found (view ∷ views) [] = true
own_found (view ∷ views) (one ∷ found) = (not (is_own view) || one) && own_found views found

-- the processes from one on, of so many, where of each view it is known whether it fits one before
abbrev pub processes_fit : ImageParts → ℕ → List Bool → ℕ → Bool
processes_fit image p found zero = own_found image.views found
processes_fit image p found (suc n) = all_named (named_of image p) (fits_of image p) && processes_fit image (suc p) (either_of found (fits_of image p)) n

-- a view of shared cells lies there, and each view begins somewhere
abbrev pub shared_lies : ImageParts → List Room → View → Bool
shared_lies image rooms view = elim view.base [
  | base.Shared number ↦ view_lies image view (drop number rooms)
  | base.Own number ↦ true
  | base.Through place offset ↦ true
  | base.Other byte number ↦ false
]
