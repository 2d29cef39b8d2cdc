use Rattle.std.proofs.Common.{◌≡◌, false, drop, map}
use Rattle.hal_words.specs.Words.{misplaced, word_item}
use Rattle.hal_lexer.proofs.temporaries.misplaced.Given as goal

abbrev pub invariant-loop-token : goal.invariant-loop-token
invariant-loop-token l = misplaced false false (map word_item l.tokens) ≡ misplaced l.after_do_for l.after_do (map word_item (drop l.token-index l.tokens))
