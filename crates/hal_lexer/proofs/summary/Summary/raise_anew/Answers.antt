use Rattle.std.proofs.Common.{◌∙◌}
use Rattle.hal_lexer.proofs.summary.Summary.raise_anew.Goals as goal

pub name-preserved : goal.name-preserved
name-preserved c = record {
  sound = λ definitions sound. c.in_ok-go_on.ensures.sound definitions (c.name.invariant.sound definitions sound);
  words = c.in_ok-go_on.ensures.words ∙ c.name.invariant.words;
}

pub returns-then-not-branch-clause-sound : goal.returns-then-not-branch-clause-sound
returns-then-not-branch-clause-sound c = λ definitions sound. c.in_ok-go_on.ensures.sound definitions (c.name.invariant.sound definitions sound)
