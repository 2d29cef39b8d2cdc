use Rattle.std.proofs.Common.{◌≡◌, map, drop}
use Rattle.hal_words.specs.Reserved.{look_up}
use Rattle.hal_words.specs.Tables.{entry}
use Rattle.hal_scope.proofs.builtin.builtin_among.Given as goal

abbrev pub invariant-loop-word : goal.invariant-loop-word
invariant-loop-word l = look_up (map entry (drop l.word-index l.table)) l.text ≡ look_up (map entry l.table) l.text
