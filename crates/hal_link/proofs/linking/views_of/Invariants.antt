use Rattle.std.proofs.Common.{◌≡◌, [], drop}
use Rattle.hal_storage.specs.sets.SeenSets.{seen_set}
use Rattle.hal_link.specs.Views.{with_processes}
use Rattle.hal_link.proofs.linking.views_of.Given as goal

abbrev pub invariant-loop-process : goal.invariant-loop-process
invariant-loop-process l = with_processes l.whole.shapes.now (seen_set l.whole.set.now) l.process l.list.list.items (drop l.process l.units) ≡ with_processes l.whole.shapes.now (seen_set l.whole.set.now) 0 [] l.units
