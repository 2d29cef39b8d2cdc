use Rattle.std.proofs.Common.{◌∙◌, sym}
use Rattle.hal_script.specs.DataTexts.{is_gap}
use Rattle.hal_script.proofs.DataPieces.{told_there, told_nowhere}
use Rattle.hal_script.proofs.piece.end_of_plain.Goals as goal

pub returns-in-Some-clause-value : goal.returns-in-Some-clause-value
returns-in-Some-clause-value c = told_there is_gap c.args.text.now c.in-Some.end (sym c.gap_at.ensures ∙ c.in-Some.is)

pub returns-in-None-clause-value : goal.returns-in-None-clause-value
returns-in-None-clause-value c = told_nowhere is_gap c.args.text.now (sym c.gap_at.ensures ∙ c.in-None.is)
