use Rattle.std.proofs.Common.{◌≡◌, ◌++◌, drop}
use Rattle.hal_script.specs.Journals.{journal_text}
use Rattle.hal_script.proofs.journal.events_text.Given as goal

abbrev pub invariant-loop-event : goal.invariant-loop-event
invariant-loop-event l = l.text.items ++ journal_text (drop l.event-index l.events) ≡ journal_text l.events
