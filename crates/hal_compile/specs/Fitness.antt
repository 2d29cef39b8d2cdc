-- Whether layouts and images have room for what stands in them, as tests.
use Rattle.std.specs.Prelude.{ℕ, nat_le, nat_lt, Bool, true, false, ◌&&◌, List, Some, None, length, slice_get}
use Rattle.std.specs.List.{list_all, list_any}
use Rattle.hal_values.specs.declared.value.Kind.{Kind}
use Rattle.hal_code.specs.declared.image.ImageParts.{ImageParts}
use Rattle.hal_code.specs.declared.row.Run.{Run}
use Rattle.hal_code.specs.declared.row.Target.{Target}
use Rattle.hal_code.specs.declared.row.Target.TheVariants as target
use Rattle.hal_code.specs.declared.row.View.{View}
use Rattle.hal_storage.specs.layout.Layouts.{Layout}

abbrev pub is_short : List ℕ → Bool
is_short name = nat_le (length name) 255

abbrev pub is_narrow : Layout → Bool
is_narrow l = list_all is_short l.processes && nat_le l.first 255

-- whether runs have a row
abbrev pub has_rows : Run Kind → Bool
has_rows run = nat_lt 0 run.repeat

abbrev pub shape_has_cell : ImageParts → ℕ → Bool
shape_has_cell image shape = elim (slice_get image.shapes shape) [ None ↦ false | Some runs ↦ list_any has_rows runs ]

-- whether there is a cell to which a view leads
abbrev pub has_cell : ImageParts → Target → Bool
has_cell image (target.Cell kind) = true
has_cell image (target.Shape shape) = shape_has_cell image shape

abbrev pub view_has_cell : ImageParts → View → Bool
view_has_cell image view = has_cell image view.target

abbrev pub have_cells : ImageParts → Bool
have_cells image = list_all (view_has_cell image) image.views
