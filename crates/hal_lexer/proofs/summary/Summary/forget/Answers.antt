use Rattle.std.proofs.Common.{◌∙◌}
use Rattle.hal_lexer.proofs.summary.Summary.forget.Goals as goal

pub name-preserved : goal.name-preserved
name-preserved c = record {
  sound = λ definitions sound. c.undo.ensures.sound definitions (c.name.invariant.sound definitions sound);
  words = c.undo.ensures.words ∙ c.name.invariant.words;
  cuts = c.undo.ensures.cuts ∙ c.name.invariant.cuts;
  numbers = c.undo.ensures.numbers ∙ c.name.invariant.numbers;
}

pub returns-then-not-undo-clause-sound : goal.returns-then-not-undo-clause-sound
returns-then-not-undo-clause-sound c = λ definitions sound. c.undo.ensures.sound definitions (c.name.invariant.sound definitions sound)
