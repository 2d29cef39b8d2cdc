-- What an image that is right keeps.
use Rattle.std.specs.Prelude.{◌≡◌, ◌↔◌, ℕ, nat_le, length, Bool, true, false, not, ◌&&◌, List, Option, Some, None, if◌then◌else◌}
use Rattle.std.specs.List.{list_all, sum_by}
use Rattle.std.proofs.Common.{refl}
use Rattle.hal_values.specs.declared.tables.EventStart.{EventStart}
use Rattle.hal_values.specs.declared.value.Kind.{Kind}
use Rattle.hal_code.specs.declared.choice.Choice.{Choice}
use Rattle.hal_code.specs.declared.image.ImageParts.{ImageParts}
use Rattle.hal_code.specs.declared.row.Run.{Run}
use Rattle.hal_code.specs.Blocks.{outward}
use Rattle.hal_code.specs.Images.{row_count}
use Rattle.hal_code.specs.Memory.{spread_limit, spread_of}
use Rattle.hal_code.specs.Operands.{events_of, is_known}
use Rattle.hal_code.specs.Right as right
use Rattle.hal_verify.specs.Limits.{limits_kept, first_fault, spread_kept}

-- rows of tables are right
rows_by : (blocks rows : Bool) (size : ℕ) (found : Option ℕ)
    → (if not blocks then Some size else elim found [ None ↦ if rows then None else Some size | Some n ↦ Some n ]) ≡ None → rows ≡ true
rows_by false rows size found is = absurd (cc)
rows_by true true size found is = refl
rows_by true false size None is = absurd (cc)
rows_by true false size (Some n) is = absurd (cc)

rows_are : (image : ImageParts) → right.IsRight image → right.rows_right image ≡ true
rows_are image is = rows_by (right.blocks_right image) (right.rows_right image) (length image.code) (right.wrong_instr image (outward image) 0 image.blocks) is

kept_by : (l c o p s f w v e n : Bool) → (((l && c) && o) && ((p && s) && (((f && w) && v) && (e && n)))) ≡ true → (l && (s && w)) ≡ true
kept_by true c o p true f true v e n is = refl
kept_by false c o p s f w v e n is = absurd (cc)
kept_by true false o p s f w v e n is = absurd (cc)
kept_by true true false p s f w v e n is = absurd (cc)
kept_by true true true false s f w v e n is = absurd (cc)
kept_by true true true true false f w v e n is = absurd (cc)
kept_by true true true true true false false v e n is = absurd (cc)
kept_by true true true true true true false v e n is = absurd (cc)

-- so limits are kept
pub right_keeps : (image : ImageParts) → right.IsRight image → limits_kept image ≡ true
right_keeps image is = kept_by
    (right.limits_right image) (list_all right.cell_right image.cells) (list_all (λ (one : Choice EventStart). is_known one) image.events && list_all (right.place_right image) image.common)
    (right.processes_right image 0 image.processes) (right.shapes_right image)
    (list_all (right.form_right image) image.views) (nat_le (sum_by (spread_of image) image.views) spread_limit) (right.views_lie image 0 image.views)
    (list_all (right.postfix_right (events_of image) 0) image.expressions) (right.names_right image)
    (rows_are image is)

something : (n : ℕ) → Some n ≡ None → ⊥
something n same = cc

never : false ≡ true → ⊥
never same = cc

fault_by : (kept : Bool) (found : Option ℕ) (size : ℕ) → (found ≡ None → kept ≡ true) → (if kept then found else Some size) ≡ None ↔ found ≡ None
fault_by true found size keeps = ((λ none. none), (λ none. none))
fault_by false found size keeps = ((λ none. absurd (something size none)), (λ none. absurd (never (keeps none))))

-- and it has no fault where it is right, and only there
pub fault_none : (image : ImageParts) → first_fault image ≡ None ↔ right.IsRight image
fault_none image = fault_by (limits_kept image) (right.first_failure image) (length image.code) (right_keeps image)

spread_by : (limits shapes cells views : Bool) → (limits && ((shapes && cells) && views)) ≡ true → (cells && views) ≡ true
spread_by true true true true is = refl
spread_by false shapes cells views is = absurd (cc)
spread_by true false cells views is = absurd (cc)
spread_by true true false views is = absurd (cc)
spread_by true true true false is = absurd (cc)

-- the cells of its shapes and views are few
pub right_spread : (image : ImageParts) → right.IsRight image → spread_kept image ≡ true
right_spread image is = spread_by
    (right.limits_right image) (list_all right.shape_right image.shapes) (nat_le (sum_by (λ (runs : List (Run Kind)). row_count runs) image.shapes) spread_limit)
    (nat_le (sum_by (spread_of image) image.views) spread_limit) (right_keeps image is)
