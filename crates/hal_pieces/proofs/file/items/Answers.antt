use Rattle.std.proofs.Common.{◌≡◌, List, [], map, None, Some, Option, ap, subst, rules}
use Rattle.std.proofs.lemmas.Result.{err_from_is_err_and}
use Rattle.hal_base.specs.declared.refusal.Place.{Place}
use Rattle.hal_words.specs.Lines.{Item, file_cells}
use Rattle.hal_pieces.specs.Faults.{seen_item}
use Rattle.hal_pieces.specs.Reading.{Reads, TellsOf}
use Rattle.hal_pieces.proofs.Whole.{Reads-whole, Reads-open_end, Tells-whole}
use Rattle.hal_pieces.proofs.file.items.Goals as goal

pub returns-in_err-comment-clause-broken : goal.returns-in_err-comment-clause-broken
returns-in_err-comment-clause-broken c =
    let cells = file_cells c.args.unit c.args.text.now in
    let empty : c.in_ok-items.items.items ≡ [] = search rules in
    let p = err_from_is_err_and c.from_residual-in_err-comment.result c.from_residual-in_err-comment.ensures.1 in
    rw (p.1, p.2) (Tells-whole cells c.in_err-comment.field-0.0 (subst (λ (old : List Item). TellsOf cells None old c.in_err-comment.field-0.0) (ap (map seen_item) empty) c.in_err-comment.ensures.broken))

whole_of : (c : goal.In-None) → Reads (file_cells c.args.unit c.args.text.now) [] None None [] (map seen_item c.push_lines.new.items.items)
whole_of c =
    let cells = file_cells c.args.unit c.args.text.now in
    let empty : c.in_ok-items.items.items ≡ [] = search rules in
    let new = map seen_item c.push_lines.new.items.items in
    subst (λ (state : Option Place). Reads cells [] None state [] new) c.in-None.is
    (subst (λ (old : List Item). Reads cells [] None c.in_ok-comment.comment old new) (ap (map seen_item) empty) c.in_ok-comment.ensures.read)

pub returns-in-None-clause-found : goal.returns-in-None-clause-found
returns-in-None-clause-found c = (Reads-whole (file_cells c.args.unit c.args.text.now) _ (whole_of c)).0

pub returns-in-None-clause-whole : goal.returns-in-None-clause-whole
returns-in-None-clause-whole c = (Reads-whole (file_cells c.args.unit c.args.text.now) (map seen_item c.push_lines.new.items.items) (whole_of c)).1

pub returns-clause-broken : goal.returns-clause-broken
returns-clause-broken c =
    let cells = file_cells c.args.unit c.args.text.now in
    let empty : c.in_ok-items.items.items ≡ [] = search rules in
    let new = map seen_item c.push_lines.new.items.items in
    Reads-open_end cells new c.in-Some.place
    (subst (λ (old : List Item). Reads cells [] None (Some c.in-Some.place) old new) (ap (map seen_item) empty)
    (subst (λ (state : Option Place). Reads cells [] None state (map seen_item c.in_ok-items.items.items) new) c.in-Some.is c.in_ok-comment.ensures.read))
