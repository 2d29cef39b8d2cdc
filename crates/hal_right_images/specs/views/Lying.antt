-- Where the views lie that are for something at a site of a process.
use Rattle.std.specs.Prelude.{◌≡◌, ℕ, Bool, true, false, List}
use Rattle.hal_values.specs.declared.value.Kind.{Kind}
use Rattle.hal_code.specs.declared.image.ImageParts.{ImageParts}
use Rattle.hal_code.specs.declared.row.Base.{Base}
use Rattle.hal_code.specs.declared.row.Base.TheVariants as base
use Rattle.hal_code.specs.declared.row.Dimension.{Dimension}
use Rattle.hal_code.specs.declared.row.View.{View}
use Rattle.hal_code.specs.Images.{places_of}
use Rattle.hal_code.specs.Memory.{shared_memory, all_lie, fits_places}
use Rattle.hal_meaning.specs.Sets.{Set}
use Rattle.hal_agreement.specs.Sites.{Site}
use Rattle.hal_gen_expr.specs.Numbering.{cell_view, area_view}
use Rattle.hal_link.specs.Shapes.{shapes_of}
use Rattle.hal_right_images.specs.rows.Purposes.{IsSite, ForElement, ForChosen, ForPlace, ForParameter, IsAreaFor}

-- a view lies in shared cells, or it fits the own places of the process with this number
abbrev pub lies_at : ImageParts → ℕ → View → Base → Bool
lies_at image process view (base.Shared number) = all_lie image view (shared_memory image) number
lies_at image process view (base.Own number) = fits_places image view (places_of image process)
lies_at image process view (base.Through place offset) = fits_places image view (places_of image process)
lies_at image process view (base.Other byte number) = false

abbrev pub lies_in : ImageParts → ℕ → View → Bool
lies_in image process view = lies_at image process view view.base

-- views of cells that are for this at a site of a process lie there
abbrev pub CellsLie : Set → ImageParts → (Site → List Dimension → Kind → Base → Type 0) → Type 0
CellsLie s image For =
    (process : ℕ) (site : Site) (rows : List Dimension) (k : Kind) (from : Base) → IsSite s process site → For site rows k from → lies_in image process (cell_view from rows k) ≡ true

abbrev pub AreasLie : Set → ImageParts → Type 0
AreasLie s image =
    (process : ℕ) (site : Site) (rows : List Dimension) (shape : ℕ) (from : Base) → IsSite s process site → IsAreaFor (shapes_of s) site rows shape from → lies_in image process (area_view from rows shape) ≡ true

-- all of them: for one element, for elements that a subscript chooses, for own places of groups, for input parameters, and for arguments
pub record PurposesLie (s : Set) (image : ImageParts) : Type 0 where
  pub elements : CellsLie s image ForElement
  pub chosen : CellsLie s image ForChosen
  pub places : CellsLie s image ForPlace
  pub parameters : CellsLie s image ForParameter
  pub areas : AreasLie s image
