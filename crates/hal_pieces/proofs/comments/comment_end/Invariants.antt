use Rattle.std.proofs.Common.{◌≡◌, ◌+◌, drop, option_map, false}
use Rattle.hal_pieces.specs.Reading.{closing}
use Rattle.hal_pieces.proofs.comments.comment_end.Given as goal

abbrev pub invariant-loop-byte : goal.invariant-loop-byte
invariant-loop-byte l = record {
  at : l.size ≡ l.byte-index;
  upto : option_map (λ n. l.size + n) (closing l.after (drop l.byte-index l.text)) ≡ closing false l.text;
}
