use Rattle.std.proofs.Common.{◌≡◌, ◌≢◌, ℕ, ◌+◌, List, [], length, drop, map, subst, rules, arith}
use Rattle.std.proofs.lemmas.List.{length-drop, nil_from_length}
use Rattle.std.proofs.lemmas.List.Elements.{All-drop}
use Rattle.std.proofs.lemmas.Result.{err_from_is_err_and}
use Rattle.hal_words.specs.Lines.{main_cells}
use Rattle.hal_pieces.specs.Faults.{seen_item}
use Rattle.hal_pieces.specs.Reading.{Reads}
use Rattle.hal_pieces.proofs.Follow.{Reads-then, TellsOf-then}
use Rattle.hal_pieces.proofs.Words.{Reads-line_end}
use Rattle.hal_pieces.proofs.lines.push_main.Goals as goal

pub returns-in_err-step-clause-broken : goal.returns-in_err-step-clause-broken
returns-in_err-step-clause-broken c =
    let p = err_from_is_err_and c.from_residual.result c.from_residual.ensures.1 in
    rw (p.1, p.2)
    (TellsOf-then _ _ _ _ _ _ c.in_err-step.field-0.0 c.loop-rest.invariant.reads c.in_err-step.ensures.broken)

pub loop-rest-preserved : goal.loop-rest-preserved
loop-rest-preserved c =
    let step = c.in_ok-step.step in
    let rest = c.loop-rest.rest.now in
    let unit = c.args.from.unit in
    let line = c.args.from.line in
    let whole = main_cells unit line c.args.from.column c.args.text.now in
    let now = main_cells unit line c.loop-rest.column rest in
    let back : c.split_at.result.1.now ≡ drop step.size rest = c.split_at.ensures.back in
    let within = c.in_ok-step.ensures.within in
    let some : length (drop step.size rest) + step.size ≡ length rest = omega (arith, length-drop step.size rest) in
    rw back
    record {
      reads = Reads-then whole now (main_cells unit line (c.loop-rest.column + step.size) (drop step.size rest)) c.args.comment c.loop-rest.comment step.comment (map seen_item c.args.items.now.items) (map seen_item c.loop-rest.items.items) (map seen_item c.push_front.new.items.items) c.loop-rest.invariant.reads c.in_ok-step.ensures.read;
      fits = let before = c.loop-rest.invariant.fits in omega arith;
      plain = All-drop (λ b. b ≢ 10) step.size rest c.loop-rest.invariant.plain;
    }

pub returns-clause-read : goal.returns-clause-read
returns-clause-read c =
    let rest = c.loop-rest.rest.now in
    let unit = c.args.from.unit in
    let line = c.args.from.line in
    let whole = main_cells unit line c.args.from.column c.args.text.now in
    let none : length rest ≡ 0 = search rules in
    let empty : rest ≡ [] = nil_from_length rest none in
    let reads = c.loop-rest.invariant.reads in
    Reads-then whole (main_cells unit line c.loop-rest.column []) [] c.args.comment c.loop-rest.comment c.loop-rest.comment (map seen_item c.args.items.now.items) (map seen_item c.loop-rest.items.items) (map seen_item c.loop-rest.items.items)
    (subst (λ (r : List ℕ). Reads whole (main_cells unit line c.loop-rest.column r) c.args.comment c.loop-rest.comment (map seen_item c.args.items.now.items) (map seen_item c.loop-rest.items.items)) empty reads)
    (Reads-line_end unit line c.loop-rest.column c.loop-rest.comment (map seen_item c.loop-rest.items.items))
