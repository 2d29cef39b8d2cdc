-- The tables of an image that is right are right.
use Rattle.std.specs.Prelude.{ℕ, ◌+◌, ◌≤◌, ◌<◌, ◌≡◌, nat_le, nat_lt, length, replicate, List, [], ◌∷◌, Bool, true, false, not, ◌&&◌, Option, Some, None, All, if◌then◌else◌}
use Rattle.std.specs.List.{list_all}
use Rattle.std.proofs.Common.{refl, sym, subst, ◌∙◌, arith}
use Rattle.std.proofs.lemmas.Bool.{leb-true, ltb-true, eqb-true, and_parts}
use Rattle.std.proofs.lemmas.List.{length-append, length-map, length-replicate}
use Rattle.std.proofs.lemmas.List.Elements.{All-nil, All-cons, All-append, All-replicate}
use Rattle.hal_base.specs.declared.limits.TheConstants.{CELL_LIMIT, EVENT_LIMIT, PROCESS_LIMIT}
use Rattle.hal_values.specs.declared.tables.Cell.{Cell}
use Rattle.hal_values.specs.declared.tables.Item.{Item}
use Rattle.hal_values.specs.declared.tables.Item.TheVariants as item
use Rattle.hal_values.specs.declared.value.Kind.{Kind}
use Rattle.hal_values.specs.declared.value.Kind.TheVariants as kind
use Rattle.hal_values.specs.Kinds.{IsKind}
use Rattle.hal_values.specs.Tables.{IsTables, IsCell, IsPostfix, IsExpression}
use Rattle.hal_states.specs.OfKinds.{is_of}
use Rattle.hal_states.proofs.OfKind.{kind_of_is}
use Rattle.hal_code.specs.declared.choice.Choice.{Choice}
use Rattle.hal_values.specs.declared.tables.EventStart.{EventStart}
use Rattle.hal_code.specs.declared.image.ImageParts.{ImageParts}
use Rattle.hal_code.specs.declared.row.Process.{Process}
use Rattle.hal_code.specs.declared.row.Run.{Run}
use Rattle.hal_code.specs.Images.{expanded, row_count, start_of, tables_of}
use Rattle.hal_code.specs.Sorts.{is_kind, is_initial}
use Rattle.hal_code.specs.Blocks.{outward}
use Rattle.hal_code.specs.Operands.{is_known, events_of}
use Rattle.hal_code.specs.Right.{wrong_instr, blocks_right, cell_right, place_right, processes_right, shapes_right, views_right, names_right, cell_count, limits_right, postfix_right, rows_right, IsRight}

-- none fails, so the rows are right
right_of : (blocks rows : Bool) (wrong : Option ℕ) (n : ℕ) → ◌≡◌ {A = Option ℕ} (if not blocks then Some n else elim wrong [ None ↦ if rows then None else Some n | Some m ↦ Some m ]) None → rows ≡ true
right_of false rows wrong n e = absurd (cc)
right_of true true None n e = refl
right_of true false None n e = absurd (cc)
right_of true rows (Some m) n e = absurd (cc)

rows_are : (image : ImageParts) → IsRight image → rows_right image ≡ true
rows_are image right = right_of (blocks_right image) (rows_right image) (wrong_instr image (outward image) 0 image.blocks) (length image.code) right

-- runs have as many rows as they say
expanded_length : {T : Type 0} (runs : List (Run T)) → length (expanded runs) ≡ row_count runs
expanded_length [] = refl
expanded_length (run ∷ runs) =
    length-append (replicate run.repeat run.row) (expanded runs) ∙ sum (length (replicate run.repeat run.row)) run.repeat (length (expanded runs)) (row_count runs) (length-replicate run.repeat run.row) (expanded_length runs)
  where
    sum : (a b c d : ℕ) → a ≡ b → c ≡ d → a + c ≡ b + d
    sum a b c d e f = omega (arith, e, f)

all_expanded : {T : Type 0} (P : T → Type 0) (test : Run T → Bool) (runs : List (Run T)) → ((run : Run T) → test run ≡ true → P run.row) → list_all test runs ≡ true → All P (expanded runs)
all_expanded P test [] each e = All-nil P
all_expanded P test (run ∷ runs) each e =
    All-append P (replicate run.repeat run.row) (expanded runs) (All-replicate P run.repeat run.row (each run (and_parts (test run) (list_all test runs) e).0)) (all_expanded P test runs each (and_parts (test run) (list_all test runs) e).1)

kind_is : (k : Kind) → is_kind k ≡ true → IsKind k
kind_is kind.Single e = tt
kind_is kind.Double e = tt
kind_is (kind.Bits n) e = (leb-true 1 n (and_parts (nat_le 1 n) (nat_le n 32) e).0, leb-true n 32 (and_parts (nat_le 1 n) (nat_le n 32) e).1)
kind_is (kind.Text n) e = (leb-true 1 n (and_parts (nat_le 1 n) (nat_le n 255) e).0, leb-true n 255 (and_parts (nat_le 1 n) (nat_le n 255) e).1)

cell_is : (run : Run Cell) → cell_right run ≡ true → IsCell run.row
cell_is run e = (
  kind_is run.row.kind (and_parts (is_kind run.row.kind) (is_of run.row.kind run.row.initial) (and_parts (is_initial run.row.kind run.row.initial) (nat_le run.row.group 15) e).0).0,
  kind_of_is run.row.kind run.row.initial (and_parts (is_kind run.row.kind) (is_of run.row.kind run.row.initial) (and_parts (is_initial run.row.kind run.row.initial) (nat_le run.row.group 15) e).0).1,
)

postfix_is : (events operands : ℕ) (items : List Item) → postfix_right events operands items ≡ true → IsPostfix events operands items
postfix_is events operands [] e = eqb-true operands 1 e
postfix_is events operands (item.Event x ∷ items) e =
    (ltb-true x events (and_parts (nat_lt x events) (postfix_right events (operands + 1) items) e).0, postfix_is events (operands + 1) items (and_parts (nat_lt x events) (postfix_right events (operands + 1) items) e).1)
postfix_is events operands (item.Not ∷ items) e = (leb-true 1 operands (and_parts (nat_le 1 operands) _ e).0, postfix_is events operands items (and_parts (nat_le 1 operands) _ e).1)
postfix_is events operands (item.And ∷ items) e = (leb-true 2 operands (and_parts (nat_le 2 operands) _ e).0, postfix_is events _ items (and_parts (nat_le 2 operands) _ e).1)
postfix_is events operands (item.Or ∷ items) e = (leb-true 2 operands (and_parts (nat_le 2 operands) _ e).0, postfix_is events _ items (and_parts (nat_le 2 operands) _ e).1)

all_postfix : (events : ℕ) (lists : List (List Item)) → list_all (postfix_right events 0) lists ≡ true → All (IsExpression events) lists
all_postfix events [] e = All-nil (IsExpression events)
all_postfix events (items ∷ lists) e =
    All-cons (IsExpression events) items lists (postfix_is events 0 items (and_parts (postfix_right events 0 items) (list_all (postfix_right events 0) lists) e).0) (all_postfix events lists (and_parts (postfix_right events 0 items) (list_all (postfix_right events 0) lists) e).1)

fewer : (cells others limit : ℕ) → cells + others ≤ limit → cells ≤ limit
fewer cells others limit few = omega arith

same_sum : (a b c d : ℕ) → a ≡ b → c ≡ d → b + d ≡ a + c
same_sum a b c d e f = omega (arith, e, f)

-- what is known of rows that are right
record Parts (limits cells expressions : Bool) : Type 0 where
  limits_are : limits ≡ true
  cells_are : cells ≡ true
  expressions_are : expressions ≡ true

parts_of : (limits cells events common processes shapes views expressions names : Bool)
    → (((limits && cells) && (events && common)) && ((processes && shapes) && (views && (expressions && names)))) ≡ true → Parts limits cells expressions
parts_of limits cells events common processes shapes views expressions names e = record {
  limits_are = (and_parts limits cells (and_parts (limits && cells) _ (and_parts _ _ e).0).0).0;
  cells_are = (and_parts limits cells (and_parts (limits && cells) _ (and_parts _ _ e).0).0).1;
  expressions_are = (and_parts expressions names (and_parts views _ (and_parts (processes && shapes) _ (and_parts _ _ e).1).1).1).0;
}

-- what the limits say
record Limits (image : ImageParts) : Type 0 where
  few_cells : cell_count image ≤ CELL_LIMIT
  few_processes : length image.processes ≤ PROCESS_LIMIT
  few_events : length image.events ≤ EVENT_LIMIT
  first : image.first < length image.processes

limits_of : (image : ImageParts) → limits_right image ≡ true → Limits image
limits_of image e = record {
  few_cells = leb-true (cell_count image) CELL_LIMIT (and_parts _ _ (and_parts _ _ e).0).0;
  few_processes = leb-true (length image.processes) PROCESS_LIMIT (and_parts _ _ (and_parts _ _ e).0).1;
  few_events = leb-true (length image.events) EVENT_LIMIT (and_parts _ _ (and_parts _ _ e).1).0;
  first = ltb-true image.first (length image.processes) (and_parts _ _ (and_parts _ _ e).1).1;
}

-- the tables of an image whose rows are right
tables_of_rows : (image : ImageParts) → Parts (limits_right image) (list_all cell_right image.cells) (list_all (postfix_right (events_of image) 0) image.expressions) → Limits image → IsTables (tables_of image)
tables_of_rows image rows limits = record {
  few_cells = subst (λ n. n ≤ CELL_LIMIT) (sym (expanded_length image.cells)) (fewer (row_count image.cells) _ CELL_LIMIT limits.few_cells);
  few_processes = subst (λ n. n ≤ PROCESS_LIMIT) (sym (length-map image.processes (λ (p : Process). p.name))) limits.few_processes;
  few_events = subst (λ n. n ≤ EVENT_LIMIT) (sym (length-map image.events start_of)) limits.few_events;
  cells = all_expanded IsCell cell_right image.cells cell_is rows.cells_are;
  expressions = subst (λ n. All (IsExpression n) image.expressions) (same_sum _ _ _ _ (length-map image.processes (λ (p : Process). p.name)) (length-map image.events start_of)) (all_postfix (events_of image) image.expressions rows.expressions_are);
  first = subst (λ n. image.first < n) (sym (length-map image.processes (λ (p : Process). p.name))) limits.first;
}

tables_are : (image : ImageParts) → Parts (limits_right image) (list_all cell_right image.cells) (list_all (postfix_right (events_of image) 0) image.expressions) → IsTables (tables_of image)
tables_are image rows = tables_of_rows image rows (limits_of image rows.limits_are)

pub right_tables : (image : ImageParts) → IsRight image → IsTables (tables_of image)
right_tables image right =
    tables_are image
    (parts_of (limits_right image) (list_all cell_right image.cells) (list_all (λ (one : Choice EventStart). is_known one) image.events) (list_all (place_right image) image.common) (processes_right image 0 image.processes) (shapes_right image) (views_right image)
    (list_all (postfix_right (events_of image) 0) image.expressions) (names_right image) (rows_are image right))
