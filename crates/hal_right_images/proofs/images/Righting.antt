-- A linked image is right where its blocks fit and its rows are right.
use Rattle.std.specs.Prelude.{◌≡◌, ℕ, ◌+◌, Bool, true, false, List, Option, length, Some, Ok, slice_get}
use Rattle.std.proofs.Common.{inl, inr, ◌∙◌, arith}
use Rattle.hal_grammar.specs.Units.{File, Head}
use Rattle.hal_meaning.specs.Calls.{is_function}
use Rattle.hal_meaning.specs.Runs.{places_of_process}
use Rattle.hal_meaning.specs.Sets.{Set, set_of}
use Rattle.hal_code.specs.declared.image.ImageParts.{ImageParts}
use Rattle.hal_code.specs.declared.row.Block.{Block}
use Rattle.hal_code.specs.declared.row.View.{View}
use Rattle.hal_code.specs.Blocks.{code_of, outward}
use Rattle.hal_code.specs.Flow.{flow_of}
use Rattle.hal_code.specs.Images as images
use Rattle.hal_code.specs.Right.{IsRight, blocks_right, rows_right}
use Rattle.hal_agreement.specs.Codes.{Code}
use Rattle.hal_fitting.specs.Fitting.{IsRightAt}
use Rattle.hal_fitting.proofs.Whole.{right_whole}
use Rattle.hal_fit.specs.Ending.{end_behind}
use Rattle.hal_fit.proofs.Processes.{process_right}
use Rattle.hal_fit.proofs.Units.{unit_right}
use Rattle.hal_link.specs.LinkedBlocks.{IsOfProcess, IsOfUnit, IsLinkedBlock}
use Rattle.hal_link.specs.Linking.{image_of, process_site}
use Rattle.hal_link.specs.UnitCode.{end_code}
use Rattle.hal_link.proofs.Linked.{image_placed}
use Rattle.hal_right_images.specs.images.Blocks.{AllFit, BlockFits, ProcessFits, UnitFits, ground_of, uses_of}
use Rattle.hal_right_images.proofs.images.Supporting.{own_block, supports}

-- where a unit ends, as its code says
pub ends_there : (function : Bool) (head : Head) (finish : ℕ) → finish + length (end_code function head) ≡ end_behind function finish
ends_there true head finish = omega arith
ends_there false head finish = omega arith

abbrev code_with : ImageParts → (ℕ → Option ℕ) → Code
code_with image block = record { image = image; block = block }

module _ (s : Set) (image : ImageParts) (all : AllFit s image) (right : blocks_right image ≡ true) (tables : images.tables_of image ≡ s.tables) where
  process_of : (number : ℕ) (row : Block) (p : IsOfProcess s image number row) → ProcessFits s image number row p → (n : ℕ) → IsRightAt image (outward image) (flow_of image row number (code_of image row)) n
  process_of number row p fits =
      process_right (code_with image p.block) (ground_of image number row) (uses_of s image row.process p.block number) (process_site s row.process p.body) 0 p.body.statements p.spot p.code p.ends p.begins p.owned
      (supports s image number row p.block p.calls (own_block row (length s.tables.processes) p.there all.few) fits.parameters right tables) fits.statements

  unit_of : (number : ℕ) (row : Block) (u : IsOfUnit s image number row) → slice_get image.blocks number ≡ Some row → UnitFits s image number row u
      → (n : ℕ) → IsRightAt image (outward image) (flow_of image row number (code_of image row)) n
  unit_of number row u there fits =
      unit_right (code_with image u.block) (ground_of image number row) (uses_of s image row.process u.block number) s (places_of_process s row.process) u.body u.code
      (supports s image number row u.block u.calls (own_block row (length s.tables.processes) u.there all.few) fits.parameters right tables) u.owned there fits.clears fits.statements
      (u.ends ∙ ends_there (is_function u.body.head) u.body.head u.code.finish)

  block_of : (number : ℕ) (row : Block) → slice_get image.blocks number ≡ Some row → (b : IsLinkedBlock s image number row) → BlockFits s image number row b
      → (n : ℕ) → IsRightAt image (outward image) (flow_of image row number (code_of image row)) n
  block_of number row there (inl p) fits = process_of number row p fits
  block_of number row there (inr u) fits = unit_of number row u there fits

pub right_linked : (turns : ℕ) (files : List File) (views : List View) (image : ImageParts) → image_of (set_of turns files) views ≡ Ok image → blocks_right image ≡ true → AllFit (set_of turns files) image
    → rows_right image ≡ true → IsRight image
right_linked turns files views image is right all rows =
    let tables = (image_placed turns files views image is).tables in
    right_whole image right
    (λ b n row there.
    let one = all.blocks b row there in
    block_of (set_of turns files) image all right tables b row there one.linked one.fits n) rows
