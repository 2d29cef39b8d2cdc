use Rattle.std.proofs.Common.{◌≡◌, ◌+◌, List, ◌++◌, map, None, subst, sym, ap, arith}
use Rattle.std.proofs.lemmas.Result.{err_from_is_err_and}
use Rattle.std.specs.Str.Lines.{lines}
use Rattle.hal_words.specs.Lines.{Cell, file_cells, lines_cells, line_cells}
use Rattle.hal_pieces.specs.Faults.{seen_item}
use Rattle.hal_pieces.specs.Reading.{Reads, TellsOf}
use Rattle.hal_pieces.proofs.Follow.{Reads-then, Reads-before, TellsOf-then, TellsOf-before}
use Rattle.hal_pieces.proofs.PlainLines.{lines-plain}
use Rattle.hal_pieces.proofs.file.push_lines.Goals as goal

pub push_line-requires-clause-plain : goal.push_line-requires-clause-plain
push_line-requires-clause-plain c = lines-plain c.loop-line.rest.now c.in-Some.line.now (lines c.in-Some.more.now) c.in-Some.ensures.first

pub returns-in_err-comment-clause-broken : goal.returns-in_err-comment-clause-broken
returns-in_err-comment-clause-broken c =
    let unit = c.args.unit in
    let number = c.loop-line.number in
    let told = c.in_err-comment.field-0.0 in
    let here = line_cells unit number c.in-Some.line.now in
    let later = lines_cells unit (number + 1) (lines c.in-Some.more.now) in
    let same : lines_cells unit number (lines c.loop-line.rest.now) ≡ here ++ later = ap (lines_cells unit number) c.in-Some.ensures.first in
    let p = err_from_is_err_and c.from_residual.result c.from_residual.ensures.1 in
    rw (p.1, p.2)
    (TellsOf-then (file_cells unit c.args.text.now) (lines_cells unit number (lines c.loop-line.rest.now)) None c.loop-line.comment (map seen_item c.args.items.now.items) (map seen_item c.loop-line.items.items) told c.loop-line.invariant.reads
    (subst (λ (cells : List Cell). TellsOf cells c.loop-line.comment (map seen_item c.loop-line.items.items) told) (sym same) (TellsOf-before here later c.loop-line.comment (map seen_item c.loop-line.items.items) told c.in_err-comment.ensures.broken)))

pub loop-line-preserved : goal.loop-line-preserved
loop-line-preserved c =
    let unit = c.args.unit in
    let number = c.loop-line.number in
    let before = c.loop-line.comment in
    let after = c.in_ok-comment.comment in
    let whole = file_cells unit c.args.text.now in
    let here = line_cells unit number c.in-Some.line.now in
    let later = lines_cells unit (number + 1) (lines c.in-Some.more.now) in
    let old = map seen_item c.args.items.now.items in
    let half = map seen_item c.loop-line.items.items in
    let new = map seen_item c.push_line.new.items.items in
    let same : lines_cells unit number (lines c.loop-line.rest.now) ≡ here ++ later = ap (lines_cells unit number) c.in-Some.ensures.first in
    record {
      reads = Reads-then whole (here ++ later) later None before after old half new
          (subst (λ (cells : List Cell). Reads whole cells None before old half) same c.loop-line.invariant.reads)
          (Reads-before here later before after half new c.in_ok-comment.ensures.read);
      fits = let fits = c.loop-line.invariant.fits in let shorter = c.in-Some.ensures.shorter in omega arith;
    }
