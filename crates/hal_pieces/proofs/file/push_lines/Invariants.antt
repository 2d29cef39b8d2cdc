use Rattle.std.proofs.Common.{◌+◌, ◌≤◌, length, map, None}
use Rattle.std.specs.Str.Lines.{lines}
use Rattle.hal_words.specs.Lines.{file_cells, lines_cells}
use Rattle.hal_pieces.specs.Faults.{seen_item}
use Rattle.hal_pieces.specs.Reading.{Reads}
use Rattle.hal_pieces.proofs.file.push_lines.Given as goal

abbrev pub invariant-loop-line : goal.invariant-loop-line
invariant-loop-line l = record {
  reads : Reads (file_cells l.unit l.text) (lines_cells l.unit l.number (lines l.rest)) None l.comment (map seen_item l.initial.items.items) (map seen_item l.items.items);
  fits : l.number + length l.rest ≤ 1 + length l.text;
}

abbrev pub decreases-loop-line : goal.decreases-loop-line
decreases-loop-line l = length l.rest
