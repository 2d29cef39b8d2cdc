use Rattle.std.proofs.Common.{◌≡◌, ◌+◌, ◌-◌, ◌≤◌, length, count_by}
use Rattle.std.specs.List.{range_with_len}
use Rattle.exec_model.specs.Order.{is_ahead, place_of}
use Rattle.exec_model.proofs.order.place_among.Given as goal

abbrev pub invariant-places : goal.invariant-places
invariant-places l = record {
  counted : l.count + count_by (is_ahead l.rows l.process) (range_with_len l.place (length l.rows - l.place)) ≡ place_of l.rows l.process;
  small : l.count ≤ l.place;
}
