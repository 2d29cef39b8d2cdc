-- When the blocks of a linked image fit: their statements do, by what the image has for them.
use Rattle.std.specs.Prelude.{◌≡◌, ◌≤◌, ℕ, nat_lt, Bool, true, false, not, ◌&&◌, Option, Some, None, length, slice_get, unwrap_or, if◌then◌else◌}
use Rattle.std.proofs.Common.{inl, inr}
use Rattle.hal_base.specs.declared.limits.TheConstants.{PROCESS_LIMIT}
use Rattle.hal_meaning.specs.Bodies.{processes_of, reaches}
use Rattle.hal_meaning.specs.Expressions.{inputs_at, outputs_at}
use Rattle.hal_meaning.specs.Places.{unit_numbers}
use Rattle.hal_meaning.specs.Runs.{places_of_process}
use Rattle.hal_meaning.specs.Sets.{Set}
use Rattle.hal_reach.specs.Places.{is_among}
use Rattle.hal_code.specs.declared.image.ImageParts.{ImageParts}
use Rattle.hal_code.specs.declared.row.Block.{Block}
use Rattle.hal_code.specs.Blocks.{outward}
use Rattle.hal_code.specs.Operands.{events_of}
use Rattle.hal_agreement.specs.PlacedBlocks.{unit_site}
use Rattle.hal_fitting.specs.Fitting.{Ground}
use Rattle.hal_fit_expr.specs.Uses.{Uses}
use Rattle.hal_fit_expr.specs.Serving.{HavePlaces}
use Rattle.hal_fit.specs.Ending.{ClearsFit}
use Rattle.hal_fit.specs.Stating.{StatementsFit}
use Rattle.hal_fit.specs.Supporting.{ReferTo, at_inside}
use Rattle.hal_link.specs.LinkedBlocks.{IsOfProcess, IsOfUnit, IsLinkedBlock}
use Rattle.hal_link.specs.Linking.{process_site}

-- where the code of the block with this number and row stands, outside of UPDATE blocks
abbrev pub ground_of : ImageParts → ℕ → Block → Ground
ground_of image number row = record { out = outward image; block = row; number = number; inside = false }

-- whether the process with this number reaches a unit of the set: its own one, or one that is called from there, by itself or through others
abbrev pub reached : Set → ℕ → ℕ → Bool
reached s process unit = elim (slice_get (processes_of s.phrases) process) [ None ↦ false | Some k ↦ is_among (unit_numbers s.phrases) unit && reaches s.phrases k unit ]

-- whether a block may call another one, where a unit has one: it stands before the block, and in UPDATE blocks it asks nothing; no code calls a unit that has none
abbrev pub may_use : ImageParts → ℕ → Bool → Option ℕ → Bool
may_use image number inside None = true
may_use image number inside (Some callee) = nat_lt callee number && (if inside then not (unwrap_or (slice_get (outward image) callee) false) else true)

-- what the statements of a block of a process may use, in UPDATE blocks and outside
abbrev pub uses_of : Set → ImageParts → ℕ → (ℕ → Option ℕ) → ℕ → Bool → Uses
uses_of s image process block number inside =
    record { calls = λ unit. reached s process unit && may_use image number inside (block unit); asks = not inside; events = events_of image }

-- the own places of the parameters of units that its process reaches are there: those of whole input parameters, and the references of ASSIGN parameters
pub record ParametersFit (s : Set) (image : ImageParts) (number : ℕ) (row : Block) : Type 0 where
  pub wholes : (inside : Bool) (unit : ℕ) → reached s row.process unit ≡ true
      → HavePlaces image (at_inside inside (ground_of image number row)) s (places_of_process s row.process) unit (inputs_at s unit)
  pub references : (unit : ℕ) → reached s row.process unit ≡ true → ReferTo image row s (places_of_process s row.process) unit (outputs_at s unit)

-- the statements of a process fit
pub record ProcessFits (s : Set) (image : ImageParts) (number : ℕ) (row : Block) (p : IsOfProcess s image number row) : Type 0 where
  pub parameters : ParametersFit s image number row
  pub statements : StatementsFit image (ground_of image number row) (uses_of s image row.process p.block number) false (process_site s row.process p.body) 0 p.body.statements

-- those of a unit that is called do, and its AUTOMATIC data are there
pub record UnitFits (s : Set) (image : ImageParts) (number : ℕ) (row : Block) (u : IsOfUnit s image number row) : Type 0 where
  pub parameters : ParametersFit s image number row
  pub clears : ClearsFit image row u.code.clears
  pub statements : StatementsFit image (ground_of image number row) (uses_of s image row.process u.block number) false (unit_site s (places_of_process s row.process) u.body) 0 u.body.statements

abbrev pub BlockFits : (s : Set) (image : ImageParts) (number : ℕ) (row : Block) → IsLinkedBlock s image number row → Type 0
BlockFits s image number row (inl p) = ProcessFits s image number row p
BlockFits s image number row (inr u) = UnitFits s image number row u

-- a block of an image is linked in a way in which it fits
pub record IsFit (s : Set) (image : ImageParts) (number : ℕ) (row : Block) : Type 0 where
  pub linked : IsLinkedBlock s image number row
  pub fits : BlockFits s image number row linked

-- each block of an image is, and there are few processes
pub record AllFit (s : Set) (image : ImageParts) : Type 0 where
  pub few : length s.tables.processes ≤ PROCESS_LIMIT
  pub blocks : (number : ℕ) (row : Block) → slice_get image.blocks number ≡ Some row → IsFit s image number row
