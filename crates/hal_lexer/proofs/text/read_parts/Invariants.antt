use Rattle.std.proofs.Common.{length}
use Rattle.hal_lexer.specs.Parts.{GoOn}
use Rattle.hal_lexer.specs.Texts.{IsText}
use Rattle.hal_lexer.proofs.text.read_parts.Given as goal

abbrev pub invariant-word : goal.invariant-word
invariant-word l = record {
  on : GoOn l.fn.text l.fn.parts.items l.rest l.parts.items;
  text : IsText l.rest;
}

abbrev pub decreases-word : goal.decreases-word
decreases-word l = length l.rest
