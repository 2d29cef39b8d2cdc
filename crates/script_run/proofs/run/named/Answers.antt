use Rattle.std.proofs.Common.{◌≡◌, Some, slice_get, length, arith, ap, true≢false, sym, ◌∙◌}
use Rattle.script_run.proofs.Running.{below_next, IsUnknown-from}
use Rattle.script_run.proofs.run.named.Goals as goal

pub places-preserved : goal.places-preserved
places-preserved c = below_next (λ o. slice_get c.args.tables.now.processes o ≡ Some c.args.name.now) c.places.place c.places.invariant (λ here. true≢false (sym (c.is_named.ensures.1 here) ∙ c.if-is_named.false))

pub returns-clause-none : goal.returns-clause-none
returns-clause-none c = IsUnknown-from c.args.tables.now c.args.name.now c.places.place (omega (arith, ap length c.as_slice-place-end.ensures)) c.places.invariant
