use Rattle.std.proofs.Common.{◌≡◌, map, drop}
use Rattle.hal_storage.specs.event_expressions.SeenStated.{seen_stated}
use Rattle.hal_gen.specs.Pausing as pausing
use Rattle.hal_gen.proofs.events.first_stated.Given as goal

abbrev pub invariant-loop-number : goal.invariant-loop-number
invariant-loop-number l = pausing.first_stated l.number l.statement (map seen_stated (drop l.number l.expressions)) ≡ pausing.first_stated 0 l.statement (map seen_stated l.expressions)
