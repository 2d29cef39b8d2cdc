-- Blocks that are known fit where their statements do.
use Rattle.std.specs.Prelude.{◌≡◌, ◌<◌, ◌≤◌, ◌⊎◌, ℕ, nat_le, Bool, true, List, length, map, Option, Some, slice_get, Ok}
use Rattle.std.specs.List.{sum_by}
use Rattle.std.proofs.lemmas.Bool.{and_parts, leb-true}
use Rattle.std.proofs.Common.{sym, ap, subst, ◌∙◌, inl, inr, arith}
use Rattle.hal_base.specs.declared.limits.TheConstants.{CELL_LIMIT, PROCESS_LIMIT}
use Rattle.hal_names.specs.Laws.{IsCounted}
use Rattle.hal_values.specs.declared.value.Kind.{Kind}
use Rattle.hal_values.specs.Tables.{IsTables}
use Rattle.hal_code.specs.declared.image.ImageParts.{ImageParts}
use Rattle.hal_code.specs.declared.row.Block.{Block}
use Rattle.hal_code.specs.declared.row.Run.{Run}
use Rattle.hal_code.specs.declared.row.View.{View}
use Rattle.hal_code.specs.Blocks.{block_places}
use Rattle.hal_code.specs.Images.{row_count}
use Rattle.hal_code.specs.Memory.{spread_limit, spread_of}
use Rattle.hal_code.specs.Right as right
use Rattle.hal_code.specs.Right.{rows_right}
use Rattle.hal_meaning.specs.Bodies.{processes_of}
use Rattle.hal_meaning.specs.Calls.{is_function}
use Rattle.hal_meaning.specs.Expressions.{inputs_at, outputs_at}
use Rattle.hal_meaning.specs.Places.{ByReference, InPlaces, cell_count, places_of}
use Rattle.hal_meaning.specs.Runs.{places_of_process}
use Rattle.hal_meaning.specs.Sets.{Set, cells_of}
use Rattle.hal_verify.specs.Limits.{spread_kept}
use Rattle.hal_fit.specs.Ending.{ClearsFit}
use Rattle.hal_fit_expr.specs.Serving.{HavePlaces}
use Rattle.hal_fit.specs.Supporting.{ReferTo, at_inside}
use Rattle.hal_link.specs.KnownBlocks.{HasOwnBlock, IsKnown, KnownProcess, KnownUnit, numbers}
use Rattle.hal_link.specs.Linking.{own_row, image_of}
use Rattle.hal_link.specs.Outlines.{Outline, outlines_of}
use Rattle.hal_link.specs.Shapes.{Shapes, shapes_of}
use Rattle.hal_fit_calls.specs.Each.{Each}
use Rattle.hal_fit_layout.specs.Owned.{AreStored}
use Rattle.hal_fit_layout.specs.Ranked.{AreReentrant}
use Rattle.hal_fit_layout.specs.Rows.{RowsLeft}
use Rattle.hal_fit_layout.proofs.Clears.{clears_fit}
use Rattle.hal_fit_layout.proofs.Counting.{few_cells}
use Rattle.hal_fit_layout.proofs.Laid.{block_rows}
use Rattle.hal_fit_layout.proofs.Called.{Reaches}
use Rattle.hal_fit_layout.proofs.Outlining.{unit_is}
use Rattle.hal_fit_layout.proofs.Parameters.{have_places, places_are, stored_lies}
use Rattle.hal_fit_layout.proofs.Rows.{rows_by}
use Rattle.hal_right_images.proofs.rows.Alone.{AreKept, shapes_kept}
use Rattle.hal_right_images.proofs.rows.Made.{image_is}
use Rattle.hal_right_images.proofs.rows.Referred.{HasShape, have_outputs, refer_all}
use Rattle.hal_right_images.specs.images.Blocks.{AllFit, IsFit, ParametersFit, ProcessFits, UnitFits, ground_of, reached, uses_of}
use Rattle.hal_fit_names.specs.Serving.{ServesUnit}
use Rattle.hal_right_images.proofs.images.Reaching.{reached_reaches}
use Rattle.hal_right_images.proofs.images.Serving.{AreGiven, serves_process, serves_unit}
use Rattle.hal_right_images.proofs.images.Supporting.{gives}
use Rattle.hal_right_images.proofs.images.Units.{UnitsAreKnown}

module _ (s : Set) (counted : IsCounted s.phrases) (views : List View) (image : ImageParts) (is : image_of s views ≡ Ok image) (few : length s.tables.processes ≤ PROCESS_LIMIT)
    (inputs : (unit : ℕ) → AreStored s unit (inputs_at s unit) InPlaces) (outputs : (unit : ℕ) → AreStored s unit (outputs_at s unit) ByReference) (kept : spread_kept image ≡ true) where
  -- its shapes are those of its set
  shapes : shapes_of s ≡ image.shapes
  shapes = ap (λ (x : ImageParts). x.shapes) (image_is s views image is).1

  few_rows : sum_by (λ (runs : List (Run Kind)). row_count runs) image.shapes ≤ spread_limit
  few_rows = leb-true (sum_by (λ (runs : List (Run Kind)). row_count runs) image.shapes) spread_limit
      (and_parts (nat_le (sum_by (λ (runs : List (Run Kind)). row_count runs) image.shapes) spread_limit) (nat_le (sum_by (spread_of image) image.views) spread_limit) kept).0

  laid : (row : Block) → row.process < length s.tables.processes → block_places image row ≡ map (own_row s (shapes_of s)) (places_of_process s row.process)
  laid row low =
      let linked = image_is s views image is in
      subst (λ one. block_places one row ≡ map (own_row s (shapes_of s)) (places_of_process s row.process)) linked.1 (block_rows s views linked.0 row low few)

  module _ (number : ℕ) (row : Block) (low : row.process < length s.tables.processes) (o : Outline) (there : slice_get (outlines_of s) row.process ≡ Some o) where
    reaches_it : (unit : ℕ) → reached s row.process unit ≡ true → Reaches s.phrases o.unit unit
    reaches_it unit is = reached_reaches s row.process o.unit (unit_is s row.process o there) unit is

    wholes_there : (inside : Bool) (unit : ℕ) → Reaches s.phrases o.unit unit → HavePlaces image (at_inside inside (ground_of image number row)) s (places_of_process s row.process) unit (inputs_at s unit)
    wholes_there inside unit one =
        let same = places_are s row.process o.unit (unit_is s row.process o there) in
        subst (λ places. HavePlaces image (at_inside inside (ground_of image number row)) s places unit (inputs_at s unit)) (sym same)
        (have_places s counted (shapes_of s) image (at_inside inside (ground_of image number row)) o.unit (laid row low ∙ ap (map (own_row s (shapes_of s))) same) unit one.place one.there one.reaches
        (inputs_at s unit) (inputs unit))

    references_there : (unit : ℕ) → Reaches s.phrases o.unit unit → ReferTo image row s (places_of_process s row.process) unit (outputs_at s unit)
    references_there unit one =
        let same = places_are s row.process o.unit (unit_is s row.process o there) in
        let here = laid row low ∙ ap (map (own_row s (shapes_of s))) same in
        subst (λ places. ReferTo image row s places unit (outputs_at s unit)) (sym same)
        (refer_all s counted image (subst AreKept shapes (shapes_kept s)) few_rows row (places_of s.phrases s.constants o.unit)
        (here ∙ ap (λ (x : Shapes). map (own_row s x) (places_of s.phrases s.constants o.unit)) shapes) unit
        (λ name its. stored_lies s counted (shapes_of s) image (ground_of image number row) o.unit here unit one.place one.there one.reaches name ByReference its) (outputs_at s unit) (outputs unit)
        (subst (λ (x : Shapes). Each (HasShape s x unit) (outputs_at s unit)) shapes (have_outputs s unit (outputs unit))))

    parameters_fit : ParametersFit s image number row
    parameters_fit = record { wholes = λ inside unit is. wholes_there inside unit (reaches_it unit is); references = λ unit is. references_there unit (reaches_it unit is) }

  module _ (given : AreGiven s views image) (left : UnitsAreKnown s image) where
    module _ (number : ℕ) (row : Block) (low : row.process < length s.tables.processes) (o : Outline) (there : slice_get (outlines_of s) row.process ≡ Some o) where
      its_parameters : (n : ℕ) (other : Block) → other.process ≡ row.process → ParametersFit s image n other
      its_parameters n other same =
          parameters_fit n other (subst (λ m. m < length s.tables.processes) (sym same) low) o (subst (λ m. slice_get (outlines_of s) m ≡ Some o) (sym same) there)

      -- what is used by the code of a block
      used_by : (block : ℕ → Option ℕ) → block ≡ numbers s views o → (home : ℕ) → ServesUnit s image (uses_of s image row.process (numbers s views o) number) home
          → ServesUnit s image (uses_of s image row.process block number) home
      used_by block is home serves = subst (λ f. ServesUnit s image (uses_of s image row.process f number) home) (sym is) serves

      process_fits : slice_get image.blocks number ≡ Some row → (p : KnownProcess s views image o number row) → ProcessFits s image number row p.linked
      process_fits found p =
          record {
            parameters = parameters_fit number row low o there;
            statements = given.fit (ground_of image number row) (uses_of s image row.process p.linked.block number) (places_of_process s row.process) o.unit p.linked.body p.found
                (left.processes number row o p.linked.body found there p.numbered p.found (uses_of s image row.process p.linked.block number)
                (used_by p.linked.block p.block p.linked.body.number (serves_process s views image given left row.process low o there its_parameters number row p)));
          }

      unit_fits : slice_get image.blocks number ≡ Some row → (u : KnownUnit s views image o number row) → UnitFits s image number row u.linked
      unit_fits found u =
          record {
            parameters = parameters_fit number row low o there;
            clears = subst (ClearsFit image row) (sym u.clears) (clears_fit s (shapes_of s) image row u.linked.body.number (laid row low));
            statements = given.fit (ground_of image number row) (uses_of s image row.process u.linked.block number) (places_of_process s row.process) u.unit u.linked.body u.found
                (left.units number row o u.linked.body u.place u.unit found there u.named u.numbered u.found
                (λ function. gives (record { image = image; block = u.linked.block }) (is_function u.linked.body.head) u.linked.body.head row u.linked.code.finish function u.linked.code.ends)
                (uses_of s image row.process u.linked.block number)
                (used_by u.linked.block u.block u.linked.body.number (serves_unit s views image given left row.process low o there its_parameters number row u)));
          }

    known_fits : (number : ℕ) (row : Block) → slice_get image.blocks number ≡ Some row → IsKnown s views image number row → IsFit s image number row
    known_fits number row found known = by known.is where
      by : KnownProcess s views image known.outline number row ⊎ KnownUnit s views image known.outline number row → IsFit s image number row
      by (inl p) = record { linked = inl p.linked; fits = process_fits number row p.linked.there known.outline known.there found p }
      by (inr u) = record { linked = inr u.linked; fits = unit_fits number row u.linked.there known.outline known.there found u }

    -- all blocks
    pub all_fit : AllFit s image
    all_fit = record { few = few; blocks = λ number row found. known_fits number row found (given.known number row found) }

-- it has few cells
pub cells_of_image : (s : Set) (views : List View) (image : ImageParts) → image_of s views ≡ Ok image → s.tables.cells ≡ cells_of s.phrases s.constants → length s.tables.processes ≡ length (processes_of s.phrases)
    → IsCounted s.phrases → AreReentrant s.phrases → cell_count s.phrases s.constants ≤ CELL_LIMIT → right.cell_count image ≤ CELL_LIMIT
cells_of_image s views image is cells long counted reentrant few =
    let linked = image_is s views image is in
    let no_more = few_cells s views linked.0 counted reentrant cells long in
    subst (λ one. right.cell_count one ≤ CELL_LIMIT) linked.1 (omega (arith, no_more, few))

-- and rows
pub rows_of_image : (s : Set) (views : List View) (image : ImageParts) → image_of s views ≡ Ok image → IsTables s.tables → s.tables.cells ≡ cells_of s.phrases s.constants
    → length s.tables.processes ≡ length (processes_of s.phrases) → IsCounted s.phrases → AreReentrant s.phrases → cell_count s.phrases s.constants ≤ CELL_LIMIT
    → ((p : ℕ) → p < length s.tables.processes → HasOwnBlock s image p) → RowsLeft s image → rows_right image ≡ true
rows_of_image s views image is tables cells long counted reentrant few own left =
    let linked = image_is s views image is in
    let no_more = few_cells s views linked.0 counted reentrant cells long in
    subst (λ one. rows_right one ≡ true) linked.1 (rows_by s views linked.0 tables cells (omega (arith, no_more, few))
    (λ p low. subst (λ one. HasOwnBlock s one p) (sym linked.1) (own p low)) (subst (RowsLeft s) (sym linked.1) left))
