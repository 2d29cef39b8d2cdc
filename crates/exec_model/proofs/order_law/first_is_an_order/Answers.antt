use Rattle.exec_model.proofs.Ordering.{goes_before-irreflexive, goes_before-transitive, goes_before-total, first-members, first-once, first-sorted, first-few}
use Rattle.exec_model.proofs.order_law.first_is_an_order.Goals as goal

pub returns : goal.returns
returns c = record {
  irreflexive = goes_before-irreflexive;
  transitive = goes_before-transitive;
  total = goes_before-total;
  members = first-members;
  no_repeats = first-once;
  sorted = first-sorted;
  few = first-few;
}
