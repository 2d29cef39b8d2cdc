use Rattle.std.proofs.Common.{◌∙◌, arith}
use Rattle.std.proofs.lemmas.List.{take-replicate}
use Rattle.hal_operations.proofs.texts.blanks.Goals as goal

pub returns : goal.returns
returns c = c.front.ensures ∙ take-replicate c.args.n 255 32 (omega arith)
