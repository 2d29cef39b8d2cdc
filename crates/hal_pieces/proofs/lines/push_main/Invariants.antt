use Rattle.std.proofs.Common.{◌≡◌, ◌≢◌, ◌+◌, length, map, All}
use Rattle.hal_words.specs.Lines.{main_cells}
use Rattle.hal_pieces.specs.Faults.{seen_item}
use Rattle.hal_pieces.specs.Reading.{Reads}
use Rattle.hal_pieces.proofs.lines.push_main.Given as goal

abbrev pub invariant-loop-rest : goal.invariant-loop-rest
invariant-loop-rest l = record {
  reads : Reads (main_cells l.from.unit l.from.line l.from.column l.text) (main_cells l.from.unit l.from.line l.column l.rest) l.fn.comment l.comment (map seen_item l.initial.items.items) (map seen_item l.items.items);
  fits : l.column + length l.rest ≡ l.from.column + length l.text;
  plain : All (λ b. b ≢ 10) l.rest;
}

abbrev pub decreases-loop-rest : goal.decreases-loop-rest
decreases-loop-rest l = length l.rest
