-- Rows of tables in another order.
use Rattle.std.specs.Prelude.{◌≡◌, Bool, true, false, ◌&&◌}
use Rattle.std.specs.List.{list_all}
use Rattle.std.proofs.Common.{refl}
use Rattle.hal_values.specs.declared.tables.EventStart.{EventStart}
use Rattle.hal_code.specs.declared.choice.Choice.{Choice}
use Rattle.hal_code.specs.declared.image.ImageParts.{ImageParts}
use Rattle.hal_code.specs.Operands.{events_of, is_known}
use Rattle.hal_code.specs.Right as right

later : (a b v e n : Bool) → (a && (b && (v && (e && n)))) ≡ (((a && b) && e) && (v && n))
later true true true e n = refl
later true true false true n = refl
later true true false false n = refl
later true false v e n = refl
later false b v e n = refl

pub rows_there : (image : ImageParts) → right.rows_right image
    ≡ (((((right.limits_right image && list_all right.cell_right image.cells) && (list_all (λ (one : Choice EventStart). is_known one) image.events && list_all (right.place_right image) image.common))
    && (right.processes_right image 0 image.processes && right.shapes_right image)) && list_all (right.postfix_right (events_of image) 0) image.expressions)
    && (right.views_right image && right.names_right image))
rows_there image =
    later ((right.limits_right image && list_all right.cell_right image.cells) && (list_all (λ (one : Choice EventStart). is_known one) image.events && list_all (right.place_right image) image.common))
    (right.processes_right image 0 image.processes && right.shapes_right image)
    (right.views_right image)
    (list_all (right.postfix_right (events_of image) 0) image.expressions)
    (right.names_right image)
