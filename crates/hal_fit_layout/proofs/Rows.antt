-- Rows of a linked image that are right because the tables of its set are.
use Rattle.std.specs.Prelude.{◌≡◌, ◌≤◌, ◌<◌, ℕ, zero, suc, ◌+◌, ◌-◌, ◌==◌, nat_le, nat_lt, Bool, true, false, ◌&&◌, List, [], ◌∷◌, length, map, All, Option, Some, None, slice_get}
use Rattle.std.specs.List.{list_all}
use Rattle.std.proofs.Common.{refl, ap, subst, ◌∙◌, arith}
use Rattle.std.proofs.lemmas.Bool.{and_from, eq-eqb, le-leb, lt-ltb}
use Rattle.std.proofs.lemmas.List.{length-map}
use Rattle.hal_base.specs.declared.limits.TheConstants.{CELL_LIMIT, EVENT_LIMIT, PROCESS_LIMIT}
use Rattle.hal_values.specs.declared.tables.EventStart.{EventStart}
use Rattle.hal_values.specs.declared.tables.Item.{Item}
use Rattle.hal_values.specs.declared.tables.Item.TheVariants as item
use Rattle.hal_values.specs.Tables.{IsPostfix, IsExpression, IsTables, event_count}
use Rattle.hal_code.specs.declared.choice.Choice.{Choice}
use Rattle.hal_code.specs.declared.image.ImageParts.{ImageParts}
use Rattle.hal_code.specs.declared.row.Block.{Block}
use Rattle.hal_code.specs.declared.row.View.{View}
use Rattle.hal_code.specs.Operands.{is_known, events_of}
use Rattle.hal_code.specs.Right.{cell_count, cell_right, place_right, processes_right, shapes_right, views_right, names_right, limits_right, postfix_right, rows_right}
use Rattle.hal_meaning.specs.Runs.{places_of_process}
use Rattle.hal_meaning.specs.Sets.{Set, cells_of}
use Rattle.hal_runs.specs.Joined.{rows_joined}
use Rattle.hal_runs.specs.Same.{same_place}
use Rattle.hal_link.specs.KnownBlocks.{HasOwnBlock}
use Rattle.hal_link.specs.Linking.{Linked, known_start, own_row, processes_from, image_with}
use Rattle.hal_link.specs.Outlines.{Outline, block_of, outlines_of}
use Rattle.hal_link.specs.Shapes.{shapes_of}
use Rattle.hal_fit_calls.specs.Each.{Each}
use Rattle.hal_fit_layout.specs.Rows.{IsNumbered, RowsLeft}
use Rattle.hal_fit_layout.proofs.Filling.{cell_rows_right, place_rows_right}

-- declared events begin as is known
starts_known : (starts : List EventStart) → list_all (λ (one : Choice EventStart). is_known one) (map known_start starts) ≡ true
starts_known [] = refl
starts_known (one ∷ starts) = starts_known starts

-- event expressions
postfix_told : (events operands : ℕ) (items : List Item) → IsPostfix events operands items → postfix_right events operands items ≡ true
postfix_told events operands [] is = eq-eqb operands 1 is
postfix_told events operands (item.Event e ∷ items) is = and_from (nat_lt e events) (postfix_right events (operands + 1) items) (lt-ltb e events is.0) (postfix_told events (operands + 1) items is.1)
postfix_told events operands (item.Not ∷ items) is = and_from (nat_le 1 operands) (postfix_right events operands items) (le-leb 1 operands is.0) (postfix_told events operands items is.1)
postfix_told events operands (item.And ∷ items) is = and_from (nat_le 2 operands) (postfix_right events (operands - 1) items) (le-leb 2 operands is.0) (postfix_told events (operands - 1) items is.1)
postfix_told events operands (item.Or ∷ items) is = and_from (nat_le 2 operands) (postfix_right events (operands - 1) items) (le-leb 2 operands is.0) (postfix_told events (operands - 1) items is.1)

all_first : {X : Type 0} (P : X → Type 0) (x : X) (xs : List X) → All P (x ∷ xs) → P x
all_first P x xs all = all zero x (omega arith)

all_later : {X : Type 0} (P : X → Type 0) (x : X) (xs : List X) → All P (x ∷ xs) → All P xs
all_later P x xs all k d less = all (suc k) d (omega (arith, less))

all_postfix : (events : ℕ) (lists : List (List Item)) → All (IsExpression events) lists → list_all (postfix_right events 0) lists ≡ true
all_postfix events [] all = refl
all_postfix events (items ∷ lists) all =
    and_from (postfix_right events 0 items) (list_all (postfix_right events 0) lists) (postfix_told events 0 items (all_first (IsExpression events) items lists all))
    (all_postfix events lists (all_later (IsExpression events) items lists all))

-- the block with this number is there, and the process has it
abbrev has_block : ImageParts → ℕ → ℕ → Bool
has_block image number process = elim (slice_get image.blocks number) [ None ↦ false | Some block ↦ block.process == process ]

own_told : (s : Set) (image : ImageParts) (process : ℕ) → HasOwnBlock s image process → has_block image (block_of (outlines_of s) process) process ≡ true
own_told s image process own =
    ap (λ (o : Option Block). elim o [ None ↦ false | Some block ↦ block.process == process ]) own.there ∙ eq-eqb own.row.process process own.its

-- as many processes as the set has
pub rows_long : (s : Set) (os : List Outline) (p : ℕ) (names : List (List ℕ)) → length (processes_from s os p names) ≡ length names
rows_long s os p [] = refl
rows_long s os p (name ∷ names) = ap suc (rows_long s os (suc p) names)

module _ (s : Set) (views : List View) (one : Linked) (tables : IsTables s.tables) (cells : s.tables.cells ≡ cells_of s.phrases s.constants) where
  abbrev image : ImageParts
  image = image_with s views one

  processes_long : length image.processes ≡ length s.tables.processes
  processes_long = rows_long s (outlines_of s) 0 s.tables.processes

  limits_kept : cell_count image ≤ CELL_LIMIT → limits_right image ≡ true
  limits_kept few =
      let long = processes_long in
      let events = length-map s.tables.events known_start in
      let processes = tables.few_processes in
      let few_events = tables.few_events in
      let first = tables.first in
      and_from (nat_le (cell_count image) CELL_LIMIT && nat_le (length image.processes) PROCESS_LIMIT) (nat_le (length image.events) EVENT_LIMIT && nat_lt image.first (length image.processes))
      (and_from (nat_le (cell_count image) CELL_LIMIT) (nat_le (length image.processes) PROCESS_LIMIT) (le-leb (cell_count image) CELL_LIMIT few) (le-leb (length image.processes) PROCESS_LIMIT (omega (arith, long, processes))))
      (and_from (nat_le (length image.events) EVENT_LIMIT) (nat_lt image.first (length image.processes)) (le-leb (length image.events) EVENT_LIMIT (omega (arith, events, few_events)))
      (lt-ltb image.first (length image.processes) (omega (arith, long, first))))

  expressions_told : list_all (postfix_right (events_of image) 0) image.expressions ≡ true
  expressions_told =
      let long = processes_long in
      let events = length-map s.tables.events known_start in
      let same : event_count s.tables ≡ events_of image = omega (arith, long, events) in
      all_postfix (events_of image) s.tables.expressions (subst (λ n. All (IsExpression n) s.tables.expressions) same tables.expressions)

  -- processes have their own blocks, and right places
  processes_by : (p : ℕ) (names : List (List ℕ)) (total : ℕ) → p + length names ≡ total → ((q : ℕ) → q < total → HasOwnBlock s image q)
      → ((q : ℕ) → Each (IsNumbered s (shapes_of s)) (places_of_process s q)) → processes_right image p (processes_from s (outlines_of s) p names) ≡ true
  processes_by p [] total long blocks references = refl
  processes_by p (name ∷ names) total long blocks references =
      let places = rows_joined same_place (map (own_row s (shapes_of s)) (places_of_process s p)) in
      and_from (has_block image (block_of (outlines_of s) p) p && list_all (place_right image) places) (processes_right image (suc p) (processes_from s (outlines_of s) (suc p) names))
      (and_from (has_block image (block_of (outlines_of s) p) p) (list_all (place_right image) places) (own_told s image p (blocks p (omega (arith, long)))) (place_rows_right s (shapes_of s) p (references p)))
      (processes_by (suc p) names total (omega (arith, long)) blocks references)

  -- all rows, by what is left
  pub rows_by : cell_count image ≤ CELL_LIMIT → ((p : ℕ) → p < length s.tables.processes → HasOwnBlock s image p) → RowsLeft s image → rows_right image ≡ true
  rows_by few blocks left =
      and_from
      ((limits_right image && list_all cell_right image.cells) && (list_all (λ (x : Choice EventStart). is_known x) image.events && list_all (place_right image) image.common))
      ((processes_right image 0 image.processes && shapes_right image) && (views_right image && (list_all (postfix_right (events_of image) 0) image.expressions && names_right image)))
      (and_from (limits_right image && list_all cell_right image.cells) (list_all (λ (x : Choice EventStart). is_known x) image.events && list_all (place_right image) image.common)
      (and_from (limits_right image) (list_all cell_right image.cells) (limits_kept few) (cell_rows_right s cells))
      (and_from (list_all (λ (x : Choice EventStart). is_known x) image.events) true (starts_known s.tables.events) refl))
      (and_from (processes_right image 0 image.processes && shapes_right image) (views_right image && (list_all (postfix_right (events_of image) 0) image.expressions && names_right image))
      (and_from (processes_right image 0 image.processes) (shapes_right image) (processes_by 0 s.tables.processes (length s.tables.processes) (omega arith) blocks left.references) left.shapes)
      (and_from (views_right image) (list_all (postfix_right (events_of image) 0) image.expressions && names_right image) left.views
      (and_from (list_all (postfix_right (events_of image) 0) image.expressions) (names_right image) expressions_told left.names)))
