use Rattle.std.proofs.Common.{◌≡◌, length, map}
use Rattle.hal_tree.specs.SeenUnits.{seen_preface}
use Rattle.hal_parse_expr.specs.Reading.{all}
use Rattle.hal_parse_expr.proofs.Loops.{with_front}
use Rattle.hal_parse.specs.ReadingFiles.{preface_at}
use Rattle.hal_parse.proofs.files.prefaces.Given as goal

abbrev pub invariant-prefaces : goal.invariant-prefaces
invariant-prefaces l = with_front (map seen_preface l.prefaces.items) (all (preface_at l.depth) l.rest) ≡ all (preface_at l.depth) l.words

abbrev pub decreases-prefaces : goal.decreases-prefaces
decreases-prefaces l = length l.rest
