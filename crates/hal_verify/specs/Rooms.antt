-- What stands at places of memory.
use Rattle.std.specs.Prelude.{ℕ, zero, suc, ◌==◌, min, if◌then◌else◌, Bool, true, false, ◌&&◌, List, [], ◌∷◌, drop, Option, Some, None}
use Rattle.hal_values.specs.declared.tables.Cell.{Cell}
use Rattle.hal_values.specs.declared.value.Kind.{Kind}
use Rattle.hal_code.specs.declared.row.Dimension.{Dimension}
use Rattle.hal_code.specs.declared.row.OwnPlace.{OwnPlace}
use Rattle.hal_code.specs.declared.row.OwnPlace.TheVariants as place
use Rattle.hal_code.specs.declared.row.Run.{Run}
use Rattle.hal_code.specs.Sorts.{same_kind}
use Rattle.hal_verify.specs.declared.room.Room.{Room}
use Rattle.hal_verify.specs.declared.room.Room.TheVariants as room

abbrev pub room_of_place : OwnPlace → Room
room_of_place (place.Data kind initial) = room.Of kind
room_of_place (place.Reference shape) = room.To shape

abbrev pub room_of_cell : Cell → Room
room_of_cell cell = room.Of cell.kind

abbrev pub room_of_kind : Kind → Room
room_of_kind kind = room.Of kind

-- the same of runs
abbrev pub place_run : Run OwnPlace → Run Room
place_run run = record { repeat = run.repeat; row = room_of_place run.row }

abbrev pub cell_run : Run Cell → Run Room
cell_run run = record { repeat = run.repeat; row = room_of_cell run.row }

abbrev pub kind_run : Run Kind → Run Room
kind_run run = record { repeat = run.repeat; row = room_of_kind run.row }

-- the kind of the values there, and the shape to which what stands there refers
abbrev pub kind_in : Room → Option Kind
kind_in (room.Of kind) = Some kind
kind_in (room.To shape) = None

abbrev pub shape_in : Room → Option ℕ
shape_in (room.Of kind) = None
shape_in (room.To shape) = Some shape

-- whether values of a kind stand there, or of any kind where none is wanted
abbrev pub holds : Option Kind → Room → Bool
holds None (room.Of kind) = true
holds (Some wanted) (room.Of kind) = same_kind kind wanted
holds wanted (room.To shape) = false

-- the same of so many places, which are there
abbrev pub all_hold : Option Kind → ℕ → List Room → Bool
all_hold wanted zero rooms = true
all_hold wanted (suc n) [] = false
all_hold wanted (suc n) (one ∷ rooms) = holds wanted one && all_hold wanted n rooms

-- these kinds stand there, in order
abbrev pub lie : List Room → List (Run Kind) → Bool
lie rooms [] = true
lie rooms (run ∷ runs) = all_hold (Some run.row) run.repeat rooms && lie (drop run.repeat rooms) runs

-- they do from each place on at which a view has an address
abbrev pub each_lies : (List Room → Bool) → ℕ → ℕ → List Room → Bool
each_lies test stride zero rooms = true
each_lies test stride (suc n) rooms = test rooms && each_lies test stride n (drop stride rooms)

-- how many of these places there are to look at: where the next one is the same, one
abbrev pub turns_of : ℕ → ℕ → ℕ
turns_of size stride = if stride == 0 then min size 1 else size

abbrev pub spread_lies : List (Run Kind) → List Dimension → List Room → Bool
spread_lies runs [] rooms = lie rooms runs
spread_lies runs (d ∷ ds) rooms = each_lies (spread_lies runs ds) d.stride d.size rooms
