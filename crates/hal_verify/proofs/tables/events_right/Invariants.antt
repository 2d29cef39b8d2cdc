use Rattle.std.proofs.Common.{◌≡◌, drop}
use Rattle.std.specs.List.{list_all}
use Rattle.hal_values.specs.declared.tables.EventStart.{EventStart}
use Rattle.hal_code.specs.declared.choice.Choice.{Choice}
use Rattle.hal_code.specs.Operands.{is_known}
use Rattle.hal_verify.proofs.tables.events_right.Given as goal

abbrev pub invariant-loop-event : goal.invariant-loop-event
invariant-loop-event l = list_all (λ (one : Choice EventStart). is_known one) (drop l.event-index l.events) ≡ list_all (λ (one : Choice EventStart). is_known one) l.events
