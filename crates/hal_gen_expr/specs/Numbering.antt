-- How the code of a set numbers its shapes, views and blocks.
use Rattle.std.specs.Prelude.{ℕ, ◌+◌, ◌==◌, min, nat_lt, Bool, true, false, ◌&&◌, List, [], ◌∷◌, Option, Some, None, if◌then◌else◌}
use Rattle.std.specs.List.{position}
use Rattle.std.specs.Option.{option_map, option_and_then}
use Rattle.hal_values.specs.declared.value.Kind.{Kind}
use Rattle.hal_code.specs.declared.row.Base.{Base}
use Rattle.hal_code.specs.declared.row.Base.TheVariants as base
use Rattle.hal_code.specs.declared.row.Dimension.{Dimension}
use Rattle.hal_code.specs.declared.row.Run.{Run}
use Rattle.hal_code.specs.declared.row.Target.{Target}
use Rattle.hal_code.specs.declared.row.Target.TheVariants as target
use Rattle.hal_code.specs.declared.row.View.{View}
use Rattle.hal_code.specs.Sorts.{same_kind}
use Rattle.hal_meaning.specs.Places.{Storing, InCells, InPlaces, ByReference, Unstored}
use Rattle.hal_meaning.specs.ReportNames.{first_cell, first_place}
use Rattle.hal_meaning.specs.Variables as tree
use Rattle.hal_agreement.specs.Sites.{Site}

-- the rows of the shapes and of the views, and the units that are called, in the order of their blocks, of which the first has this number
pub record Numbering : Type 0 where
  pub shapes : List (List (Run Kind))
  pub views : List View
  pub first : ℕ
  pub units : List ℕ

abbrev pub numbering_with : List (List (Run Kind)) → List View → ℕ → List ℕ → Numbering
numbering_with shapes views first units = record { shapes = shapes; views = views; first = first; units = units }

-- a number below a limit
abbrev pub below : ℕ → ℕ → Option ℕ
below limit n = if nat_lt n limit then Some n else None

-- numbers below this one are given to views, blocks, cells and places: it fits 32 bits itself
abbrev pub most : ℕ
most = 4294967295

-- where the element so many elements behind the first one of a declaration's data lies
abbrev pub base_of : Site → ℕ → ℕ → Storing → Option Base
base_of site k n (InCells group) = option_map base.Shared (below most (first_cell site.set.phrases site.set.constants k + n))
base_of site k n InPlaces = option_map base.Own (below most (first_place site.places k + n))
base_of site k n ByReference = option_and_then (λ at. option_map (base.Through at) (below most n)) (below most (first_place site.places k))
base_of site k n Unstored = None

abbrev pub same_base : Base → Base → Bool
same_base (base.Shared n) (base.Shared m) = n == m
same_base (base.Own n) (base.Own m) = n == m
same_base (base.Through at n) (base.Through other m) = (at == other) && (n == m)
same_base one other = false

-- a dimension as views have it; its stride is counted up to a limit, at which no view is found
abbrev pub row_of : tree.Dimension → Dimension
row_of d = record { size = d.size; stride = min d.stride most }

-- whether a dimension of a view is this one
abbrev pub same_row : Dimension → Dimension → Bool
same_row one other = one.size == other.size && (one.stride == other.stride && nat_lt other.stride most)

abbrev pub same_rows : List Dimension → List Dimension → Bool
same_rows [] [] = true
same_rows (one ∷ ones) (other ∷ others) = same_row one other && same_rows ones others
same_rows ones others = false

-- the view of cells of this kind in these dimensions, which begins there
abbrev pub cell_view : Base → List Dimension → Kind → View
cell_view from rows kind = record { base = from; dimensions = rows; target = target.Cell kind }

abbrev pub gives_cell : Kind → Target → Bool
gives_cell kind (target.Cell other) = same_kind other kind
gives_cell kind (target.Shape shape) = false

-- whether a row is this view
abbrev pub is_cell_view : Base → List Dimension → Kind → View → Bool
is_cell_view from rows kind row = same_base row.base from && (same_rows row.dimensions rows && gives_cell kind row.target)

-- the number of this view
abbrev pub view_number : Numbering → List Dimension → Kind → Base → Option ℕ
view_number n rows kind from = option_and_then (below most) (position (is_cell_view from rows kind) n.views)

-- whether a run of a shape is this one
abbrev pub same_run : Run Kind → Run Kind → Bool
same_run one other = one.repeat == other.repeat && (nat_lt other.repeat most && same_kind one.row other.row)

abbrev pub same_runs : List (Run Kind) → List (Run Kind) → Bool
same_runs [] [] = true
same_runs (one ∷ ones) (other ∷ others) = same_run one other && same_runs ones others
same_runs ones others = false

-- the number of the shape with these runs
abbrev pub shape_in : List (List (Run Kind)) → List (Run Kind) → Option ℕ
shape_in shapes runs = option_and_then (below most) (position (λ found. same_runs found runs) shapes)

abbrev pub shape_number : Numbering → List (Run Kind) → Option ℕ
shape_number n runs = shape_in n.shapes runs

-- the view of the cells of the shape with this number in these dimensions, which begins there
abbrev pub area_view : Base → List Dimension → ℕ → View
area_view from rows shape = record { base = from; dimensions = rows; target = target.Shape shape }

abbrev pub gives_area : ℕ → Target → Bool
gives_area shape (target.Shape other) = other == shape
gives_area shape (target.Cell kind) = false

-- whether a row is this view
abbrev pub is_area_view : Base → List Dimension → ℕ → View → Bool
is_area_view from rows shape row = same_base row.base from && (same_rows row.dimensions rows && gives_area shape row.target)

-- the number of this view
abbrev pub area_number : Numbering → List Dimension → ℕ → Base → Option ℕ
area_number n rows shape from = option_and_then (below most) (position (is_area_view from rows shape) n.views)

-- the number of the block of a unit
abbrev pub block_number : Numbering → ℕ → Option ℕ
block_number n unit = option_and_then (λ k. below most (n.first + k)) (position (λ one. one == unit) n.units)
