-- The limits of tables.
use Rattle.std.specs.Prelude.{ℕ, nat_le, length, Bool, ◌&&◌, List, Option, Some, if◌then◌else◌}
use Rattle.std.specs.List.{sum_by}
use Rattle.hal_values.specs.declared.value.Kind.{Kind}
use Rattle.hal_code.specs.declared.image.ImageParts.{ImageParts}
use Rattle.hal_code.specs.declared.row.Run.{Run}
use Rattle.hal_code.specs.Images.{row_count}
use Rattle.hal_code.specs.Memory.{spread_limit, spread_of}
use Rattle.hal_code.specs.Right.{limits_right, shapes_right, first_failure}

-- the cells of all shapes are within their limit, and so are those that all views give, counted with repeats
abbrev pub spread_kept : ImageParts → Bool
spread_kept image = nat_le (sum_by (λ (runs : List (Run Kind)). row_count runs) image.shapes) spread_limit && nat_le (sum_by (spread_of image) image.views) spread_limit

abbrev pub limits_kept : ImageParts → Bool
limits_kept image = limits_right image && (shapes_right image && nat_le (sum_by (spread_of image) image.views) spread_limit)

-- the first instruction that isn't right, or the number of instructions where rows of tables alone aren't. Where the limits aren't kept, no instruction is looked at
abbrev pub first_fault : ImageParts → Option ℕ
first_fault image = if limits_kept image then first_failure image else Some (length image.code)
