-- What is known of the tables of a right image, and of the instruction that is next.
use Rattle.std.specs.Prelude.{ℕ, zero, suc, ◌≡◌, nat_le, nat_lt, length, map, replicate, Bool, true, ◌&&◌, List, [], ◌∷◌, ◌++◌, Option, Some, None, All, slice_get}
use Rattle.std.specs.List.{list_all, sum_by}
use Rattle.std.proofs.Common.{refl, subst}
use Rattle.std.proofs.lemmas.Bool.{and_parts}
use Rattle.std.proofs.lemmas.List.Elements.{All-head, All-tail}
use Rattle.hal_values.specs.declared.tables.Cell.{Cell}
use Rattle.hal_values.specs.declared.tables.EventStart.{EventStart}
use Rattle.hal_values.specs.declared.value.Kind.{Kind}
use Rattle.hal_values.specs.Kinds.{IsKind}
use Rattle.hal_values.specs.Tables.{IsCell}
use Rattle.hal_states.specs.OfKinds.{is_of}
use Rattle.hal_states.proofs.OfKind.{kind_of_is}
use Rattle.hal_code.specs.declared.choice.Choice.{Choice}
use Rattle.hal_code.specs.declared.image.ImageParts.{ImageParts}
use Rattle.hal_code.specs.declared.row.Dimension.{Dimension}
use Rattle.hal_code.specs.declared.row.OwnPlace.{OwnPlace}
use Rattle.hal_code.specs.declared.row.OwnPlace.TheVariants as place
use Rattle.hal_code.specs.declared.row.Process.{Process}
use Rattle.hal_code.specs.declared.row.Run.{Run}
use Rattle.hal_code.specs.declared.row.Target.{Target}
use Rattle.hal_code.specs.declared.row.Target.TheVariants as target
use Rattle.hal_code.specs.declared.row.View.{View}
use Rattle.hal_code.specs.Courses.{setting_of}
use Rattle.hal_code.specs.Images.{expanded, row_count, tables_of, places_of, held_first, kinds_of}
use Rattle.hal_code.specs.Memory.{spread_limit}
use Rattle.hal_code.specs.Operands.{is_known, events_of}
use Rattle.hal_code.specs.Right.{IsRight, cell_right, place_right, process_right, processes_right, shape_right, shapes_right, target_right, views_right, limits_right, postfix_right, names_right}
use Rattle.hal_code.specs.Sorts.{is_kind, is_initial}
use Rattle.hal_code.proofs.RightTables.{right_tables}
use Rattle.hal_sound_code.proofs.Rights.{Whole, whole}
use Rattle.hal_sound_code.proofs.Rows.{rows, view_forms}
use Rattle.hal_sound_code.proofs.Views.{all_at}
use Rattle.hal_sound_values.proofs.KindsKept.{right_is}
use Rattle.hal_right_values.specs.Holding.{IsRightHeld, AreRightHeld, AreKinds}
use Rattle.hal_right_values.proofs.Acting.{kind_is}
use Rattle.hal_right_values.proofs.Steps.{IsRightTarget, Known}

-- the cell with this number
cell_at : (cells : List Cell) → All IsCell cells → (n : ℕ) (cell : Cell) → slice_get cells n ≡ Some cell → IsKind cell.kind
cell_at [] are n cell e = absurd (cc)
cell_at (one ∷ cells) are zero cell e = subst (λ (x : Cell). IsKind x.kind) (let same : one ≡ cell = cc in same) (All-head IsCell one cells are).0
cell_at (one ∷ cells) are (suc n) cell e = cell_at cells (All-tail IsCell one cells are) n cell e

-- shapes
many_kinds : (n : ℕ) (k : Kind) (others : List Kind) → IsKind k → AreKinds others → AreKinds (replicate n k ++ others)
many_kinds zero k others is are = are
many_kinds (suc n) k others is are = (is, many_kinds n k others is are)

shape_kinds : (runs : List (Run Kind)) → shape_right runs ≡ true → AreKinds (expanded runs)
shape_kinds [] e = tt
shape_kinds (run ∷ runs) e = many_kinds run.repeat run.row (expanded runs) (kind_is run.row (and_parts (is_kind run.row) (shape_right runs) e).0) (shape_kinds runs (and_parts (is_kind run.row) (shape_right runs) e).1)

shapes_of : (limits cells events common processes shapes views rest : Bool) → (((limits && cells) && (events && common)) && ((processes && shapes) && (views && rest))) ≡ true → shapes ≡ true
shapes_of limits cells events common processes shapes views rest e = (and_parts processes shapes (and_parts (processes && shapes) (views && rest) (and_parts ((limits && cells) && (events && common)) _ e).1).0).1

pub shapes_whole : (image : ImageParts) → Whole image → shapes_right image ≡ true
shapes_whole image all =
    shapes_of (limits_right image) (list_all cell_right image.cells) (list_all (λ (one : Choice EventStart). is_known one) image.events) (list_all (place_right image) image.common) (processes_right image 0 image.processes) (shapes_right image) (views_right image)
    (list_all (postfix_right (events_of image) 0) image.expressions && names_right image) all.rows

shapes_are : (image : ImageParts) → Whole image → list_all shape_right image.shapes ≡ true
shapes_are image all = (and_parts (list_all shape_right image.shapes) (nat_le (sum_by (λ (runs : List (Run Kind)). row_count runs) image.shapes) spread_limit) (shapes_whole image all)).0

kinds_are : (image : ImageParts) → Whole image → (shape : ℕ) → AreKinds (kinds_of image shape)
kinds_are image all shape = of_shape (slice_get image.shapes shape) refl
  where
    of_shape : (o : Option (List (Run Kind))) → slice_get image.shapes shape ≡ o → AreKinds (elim o [ None ↦ [] | Some runs ↦ expanded runs ])
    of_shape None e = tt
    of_shape (Some runs) e = shape_kinds runs (all_at shape_right image.shapes shape runs e (shapes_are image all))

-- views
target_is : (image : ImageParts) (t : Target) → ◌≡◌ {A = Bool} (elim t [ target.Cell kind ↦ is_kind kind | target.Shape shape ↦ nat_lt shape (length image.shapes) ]) true → IsRightTarget t
target_is image (target.Cell k) e = kind_is k e
target_is image (target.Shape shape) e = tt

view_is : (image : ImageParts) → Whole image → (v : ℕ) (view : View) → slice_get image.views v ≡ Some view → IsRightTarget view.target
view_is image all v view e = target_is image view.target (and_parts (target_right image view) (list_all (λ (d : Dimension). nat_le 1 d.size) view.dimensions) (view_forms image all v view e)).0

-- own places
first_right : (image : ImageParts) (one : OwnPlace) → ◌≡◌ {A = Bool} (elim one [ place.Data kind initial ↦ is_initial kind initial | place.Reference shape ↦ nat_lt shape (length image.shapes) ]) true → IsRightHeld (held_first one)
first_right image (place.Data k initial) e = right_is k initial (kind_is k (and_parts (is_kind k) (is_of k initial) e).0) (kind_of_is k initial (and_parts (is_kind k) (is_of k initial) e).1)
first_right image (place.Reference shape) e = tt

many_held : (n : ℕ) (one : OwnPlace) (others : List OwnPlace) → IsRightHeld (held_first one) → AreRightHeld (map held_first others) → AreRightHeld (map held_first (replicate n one ++ others))
many_held zero one others is are = are
many_held (suc n) one others is are = (is, many_held n one others is are)

runs_held : (image : ImageParts) (runs : List (Run OwnPlace)) → list_all (place_right image) runs ≡ true → AreRightHeld (map held_first (expanded runs))
runs_held image [] e = tt
runs_held image (run ∷ runs) e = many_held run.repeat run.row (expanded runs) (first_right image run.row (and_parts (place_right image run) (list_all (place_right image) runs) e).0) (runs_held image runs (and_parts (place_right image run) (list_all (place_right image) runs) e).1)

held_both : (xs ys : List OwnPlace) → AreRightHeld (map held_first xs) → AreRightHeld (map held_first ys) → AreRightHeld (map held_first (xs ++ ys))
held_both [] ys one other = other
held_both (x ∷ xs) ys one other = (one.0, held_both xs ys one.1 other)

process_at : (image : ImageParts) (p : ℕ) (processes : List Process) → processes_right image p processes ≡ true → (n : ℕ) (process : Process) → slice_get processes n ≡ Some process → list_all (place_right image) process.places ≡ true
process_at image p [] right n process e = absurd (cc)
process_at image p (one ∷ processes) right zero process e =
    subst (λ (x : Process). list_all (place_right image) x.places ≡ true) (let same : one ≡ process = cc in same) (and_parts _ (list_all (place_right image) one.places) (and_parts (process_right image p one) (processes_right image (suc p) processes) right).0).1
process_at image p (one ∷ processes) right (suc n) process e = process_at image (suc p) processes (and_parts (process_right image p one) (processes_right image (suc p) processes) right).1 n process e

firsts_are : (image : ImageParts) → Whole image → (p : ℕ) → AreRightHeld (map held_first (places_of image p))
firsts_are image all p = of_process (slice_get image.processes p) refl
  where
    of_process : (o : Option Process) → slice_get image.processes p ≡ o → AreRightHeld (map held_first (elim o [ None ↦ [] | Some process ↦ expanded image.common ++ expanded process.places ]))
    of_process None e = tt
    of_process (Some process) e =
        held_both (expanded image.common) (expanded process.places) (runs_held image image.common (rows image all).common) (runs_held image process.places (process_at image 0 image.processes (rows image all).processes p process e))

pub known_of : (turns : ℕ) (image : ImageParts) (p : ℕ) → IsRight image → Known (setting_of turns image p)
known_of turns image p right = record {
  cells = cell_at (tables_of image).cells (right_tables image right).cells;
  firsts = firsts_are image (whole image right) p;
  shapes = kinds_are image (whole image right);
  views = view_is image (whole image right);
}
