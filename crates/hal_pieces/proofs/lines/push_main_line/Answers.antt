use Rattle.std.proofs.Common.{◌≡◌, ℕ, ◌<◌, ◌∙◌, List, [], length, drop, rules, subst, sym, ap, map, IfOk, IfErr, arith}
use Rattle.std.proofs.lemmas.Bool.Decides.{nat_tests}
use Rattle.hal_words.specs.Lines.{Cell, line_cells, main_cells}
use Rattle.hal_pieces.specs.declared.kinds.Kind.TheVariants as kind
use Rattle.hal_pieces.specs.Kinds.{kind_of}
use Rattle.hal_pieces.specs.Faults.{seen_item}
use Rattle.hal_pieces.specs.Reading.{Reads, TellsOf}
use Rattle.hal_pieces.proofs.LineCells.{line_cells-kind, line_cells-empty}
use Rattle.hal_pieces.proofs.lines.push_main_line.Goals as goal

pub returns-then-is_empty-clause-broken : goal.returns-then-is_empty-clause-broken
returns-then-is_empty-clause-broken c =
    let start = c.args.start in
    let line = c.args.line.now in
    let none : length line ≡ 0 = search rules in
    let same : line_cells start.unit start.line line ≡ main_cells start.unit start.line start.column line = line_cells-empty start.unit start.line start.column line none c.requires.first in
    subst (λ (cells : List Cell). IfErr c.push_main.result (TellsOf cells c.args.comment (map seen_item c.args.items.now.items))) (sym same) c.push_main.ensures.broken

same_cells : (unit line : ℕ) (text back : List ℕ) → kind_of text ≡ kind.Main → 0 < length text → back ≡ drop 1 text → main_cells unit line 2 back ≡ line_cells unit line text
same_cells unit line text back main some split = ap (main_cells unit line 2) split ∙ sym (line_cells-kind unit line text kind.Main main some)

pub returns-else-is_empty-clause-read : goal.returns-else-is_empty-clause-read
returns-else-is_empty-clause-read c =
    let start = c.args.start in
    let line = c.args.line.now in
    let some : 0 < length line = grind (arith, nat_tests, c.if-is_empty.ensures) in
    let call = c.push_main-else-is_empty in
    let same = same_cells start.unit start.line line c.split_at.result.1.now c.requires.main some c.split_at.ensures.back in
    subst (λ (cells : List Cell). IfOk call.result (λ after. Reads cells [] c.args.comment after (map seen_item c.args.items.now.items) (map seen_item call.new.items.items))) same call.ensures.read

pub returns-else-is_empty-clause-broken : goal.returns-else-is_empty-clause-broken
returns-else-is_empty-clause-broken c =
    let start = c.args.start in
    let line = c.args.line.now in
    let some : 0 < length line = grind (arith, nat_tests, c.if-is_empty.ensures) in
    let call = c.push_main-else-is_empty in
    let same = same_cells start.unit start.line line c.split_at.result.1.now c.requires.main some c.split_at.ensures.back in
    subst (λ (cells : List Cell). IfErr call.result (TellsOf cells c.args.comment (map seen_item c.args.items.now.items))) same call.ensures.broken
