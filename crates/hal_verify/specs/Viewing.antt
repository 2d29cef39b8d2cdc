-- When a view fits memory, by what stands there.
use Rattle.std.specs.Prelude.{ℕ, Bool, true, false, List, [], ◌∷◌, drop, map, Option, Some, None, slice_get}
use Rattle.hal_values.specs.declared.value.Kind.{Kind}
use Rattle.hal_code.specs.declared.image.ImageParts.{ImageParts}
use Rattle.hal_code.specs.declared.row.Base.TheVariants as base
use Rattle.hal_code.specs.declared.row.Run.{Run}
use Rattle.hal_code.specs.declared.row.Target.{Target}
use Rattle.hal_code.specs.declared.row.Target.TheVariants as target
use Rattle.hal_code.specs.declared.row.View.{View}
use Rattle.hal_code.specs.Images.{kinds_of}
use Rattle.hal_verify.specs.declared.room.Room.{Room}
use Rattle.hal_verify.specs.declared.room.Room.TheVariants as room
use Rattle.hal_verify.specs.Rooms.{room_of_kind, spread_lies}

-- the runs of the kinds of what a view gives at one of its addresses
abbrev pub kind_runs : ImageParts → Target → List (Run Kind)
kind_runs image (target.Cell kind) = record { repeat = 1; row = kind } ∷ []
kind_runs image (target.Shape shape) = elim (slice_get image.shapes shape) [ None ↦ [] | Some runs ↦ runs ]

-- all that a view gives stands there
abbrev pub view_lies : ImageParts → View → List Room → Bool
view_lies image view rooms = spread_lies (kind_runs image view.target) view.dimensions rooms

-- behind a reference that may stand there
abbrev pub lies_behind : ImageParts → View → ℕ → Option Room → Bool
lies_behind image view offset None = false
lies_behind image view offset (Some (room.Of kind)) = false
lies_behind image view offset (Some (room.To shape)) = view_lies image view (drop offset (map room_of_kind (kinds_of image shape)))

-- a view fits own places
abbrev pub fits_rooms : ImageParts → View → List Room → Bool
fits_rooms image view rooms = elim view.base [
  | base.Shared number ↦ true
  | base.Own number ↦ view_lies image view (drop number rooms)
  | base.Through place offset ↦ lies_behind image view offset (slice_get (drop place rooms) 0)
  | base.Other byte number ↦ false
]
