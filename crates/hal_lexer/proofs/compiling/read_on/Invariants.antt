use Rattle.std.proofs.Common.{length}
use Rattle.hal_lexer.specs.Compiled.{GoesOn}
use Rattle.hal_lexer.specs.Texts.{IsText}
use Rattle.hal_lexer.proofs.compiling.read_on.Given as goal

abbrev pub invariant-word : goal.invariant-word
invariant-word l = record {
  on : GoesOn l.compiled l.fn.text l.fn.children.items l.rest l.children.items;
  text : IsText l.rest;
}

abbrev pub decreases-word : goal.decreases-word
decreases-word l = length l.rest
