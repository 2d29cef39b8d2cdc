use Rattle.std.proofs.Common.{◌≡◌, ◌*◌, ◌≤◌, map, drop}
use Rattle.hal_tree.specs.SeenUnits.{seen_file}
use Rattle.hal_compile.specs.Reading.{seen_text}
use Rattle.hal_compile.proofs.ReadingOn.{GoesOn}
use Rattle.hal_compile.proofs.reading.readings_of.Given as goal

abbrev pub invariant-loop-text : goal.invariant-loop-text
invariant-loop-text l = record {
  on : GoesOn (map seen_text l.texts) (map seen_text (drop l.text-index l.texts)) l.number (map seen_file l.files.items) l.words;
  number : l.number ≡ l.text-index;
  few : l.words ≤ l.text-index * 65536;
}
