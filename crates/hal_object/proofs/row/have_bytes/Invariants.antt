use Rattle.std.proofs.Common.{drop}
use Rattle.std.specs.List.{AllByRecursion}
use Rattle.hal_object.proofs.row.have_bytes.Given as goal

abbrev pub invariant-loop-row : goal.invariant-loop-row
invariant-loop-row g l = (AllByRecursion g.T.Row.fits (drop l.row-index l.rows) → AllByRecursion g.T.Row.fits l.rows) × (AllByRecursion g.T.Row.fits l.rows → AllByRecursion g.T.Row.fits (drop l.row-index l.rows))
