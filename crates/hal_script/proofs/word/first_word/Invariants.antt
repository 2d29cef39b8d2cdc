use Rattle.std.proofs.Common.{◌≡◌, length}
use Rattle.hal_script.specs.Words.{words, behind_word}
use Rattle.hal_script.proofs.word.first_word.Given as goal

abbrev pub invariant-loop-end : goal.invariant-loop-end
invariant-loop-end l = record { said : words l.initial.rest ≡ words l.rest; behind : behind_word l.initial.rest ≡ behind_word l.rest }

abbrev pub decreases-loop-end : goal.decreases-loop-end
decreases-loop-end l = length l.rest
