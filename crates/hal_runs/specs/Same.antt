-- When two rows of a table are the same.
use Rattle.std.specs.Prelude.{◌==◌, Bool, true, false, ◌&&◌, bytes_eq}
use Rattle.std.specs.Ordering.{int_eq}
use Rattle.hal_values.specs.declared.value.Kind.{Kind}
use Rattle.hal_values.specs.declared.value.Value.{Value}
use Rattle.hal_values.specs.declared.value.Value.TheVariants as value
use Rattle.hal_values.specs.declared.tables.Cell.{Cell}
use Rattle.hal_code.specs.declared.row.OwnPlace.{OwnPlace}
use Rattle.hal_code.specs.declared.row.OwnPlace.TheVariants as place
use Rattle.hal_code.specs.Sorts.{same_kind}

abbrev pub same_value : Value → Value → Bool
same_value (value.Int one) (value.Int other) = int_eq one other
same_value (value.Bits m v) (value.Bits n w) = m == n && v == w
same_value (value.Text one) (value.Text other) = bytes_eq one other
same_value one other = false

abbrev pub same_cell : Cell → Cell → Bool
same_cell one other = same_kind one.kind other.kind && (one.group == other.group && same_value one.initial other.initial)

abbrev pub same_place : OwnPlace → OwnPlace → Bool
same_place (place.Data k v) (place.Data l w) = same_kind k l && same_value v w
same_place (place.Reference m) (place.Reference n) = m == n
same_place one other = false
