use Rattle.std.proofs.Common.{◌≡◌, ℕ, ◌+◌, List, [], length, drop, false, Some, sym, subst, ◌∙◌, arith}
use Rattle.std.proofs.lemmas.List.{drop_all}
use Rattle.hal_words.specs.Lines.{main_cells}
use Rattle.hal_pieces.specs.Reading.{Reads}
use Rattle.hal_pieces.proofs.InComments.{closing-within}
use Rattle.hal_pieces.proofs.Words.{Reads-closed, Reads-open}
use Rattle.hal_pieces.proofs.lines.past_comment.Goals as goal

pub returns-in-Some-clause-within : goal.returns-in-Some-clause-within
returns-in-Some-clause-within c = closing-within false c.args.text.now c.in-Some.size (sym c.comment_end.ensures ∙ c.in-Some.is)

pub returns-in-Some-clause-read : goal.returns-in-Some-clause-read
returns-in-Some-clause-read c = λ unit line column items. Reads-closed unit line column c.args.start c.args.text.now c.in-Some.size items (sym c.comment_end.ensures ∙ c.in-Some.is)

pub returns-in-None-clause-read : goal.returns-in-None-clause-read
returns-in-None-clause-read c = λ unit line column items.
    let text = c.args.text.now in
    let empty : drop (length text) text ≡ [] = drop_all (length text) text (omega arith) in
    subst (λ (t : List ℕ). Reads (main_cells unit line column text) (main_cells unit line (column + length text) t) (Some c.args.start) (Some c.args.start) items items) (sym empty)
    (Reads-open unit line column c.args.start text (column + length text) items (sym c.comment_end.ensures ∙ c.in-None.is))
