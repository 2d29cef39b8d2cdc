-- Which views the code of a process names: those that are for what phrases of its units name.
use Rattle.std.specs.Prelude.{◌≡◌, ◌⊎◌, ℕ, List, Some, slice_get}
use Rattle.hal_values.specs.declared.value.Kind.{Kind}
use Rattle.hal_code.specs.declared.instr.Instr.{Instr}
use Rattle.hal_code.specs.declared.instr.Instr.TheVariants as instr
use Rattle.hal_code.specs.declared.row.Base.{Base}
use Rattle.hal_code.specs.declared.row.Dimension.{Dimension}
use Rattle.hal_code.specs.declared.row.View.{View}
use Rattle.hal_meaning.specs.Sets.{Set}
use Rattle.hal_agreement.specs.Sites.{Site}
use Rattle.hal_gen_expr.specs.Numbering.{cell_view, area_view}
use Rattle.hal_link.specs.Shapes.{shapes_of}
use Rattle.hal_right_images.specs.rows.Purposes.{IsSite, IsCellFor, IsAreaFor}

-- the view with this number gives cells of a kind that a phrase names where it stands in the process
pub record NamesCell (s : Set) (views : List View) (process number : ℕ) : Type 0 where
  pub site : Site
  pub is_site : IsSite s process site
  pub rows : List Dimension
  pub k : Kind
  pub from : Base
  pub view : View
  pub there : slice_get views number ≡ Some view
  pub is : view ≡ cell_view from rows k
  pub purpose : IsCellFor site rows k from

-- the same of the cells of a shape
pub record NamesArea (s : Set) (views : List View) (process number : ℕ) : Type 0 where
  pub site : Site
  pub is_site : IsSite s process site
  pub rows : List Dimension
  pub shape : ℕ
  pub from : Base
  pub view : View
  pub there : slice_get views number ≡ Some view
  pub is : view ≡ area_view from rows shape
  pub purpose : IsAreaFor (shapes_of s) site rows shape from

abbrev pub NamesView : Set → List View → ℕ → ℕ → Type 0
NamesView s views process number = NamesCell s views process number ⊎ NamesArea s views process number

-- an instruction names no others
abbrev pub Names : Set → List View → ℕ → Instr → Type 0
Names s views process (instr.Cell number) = NamesCell s views process number
Names s views process (instr.Whole number) = NamesArea s views process number
Names s views process other = Unit {0}
