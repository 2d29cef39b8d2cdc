use Rattle.std.proofs.Common.{◌≡◌, map, drop, None}
use Rattle.hal_storage.specs.event_expressions.SeenStated.{seen_stated}
use Rattle.hal_gen.specs.Pausing as pausing
use Rattle.hal_gen.proofs.events.last_stated.Given as goal

abbrev pub invariant-loop-number : goal.invariant-loop-number
invariant-loop-number l = pausing.last_stated l.number l.statement l.found (map seen_stated (drop l.number l.expressions)) ≡ pausing.last_stated 0 l.statement None (map seen_stated l.expressions)
