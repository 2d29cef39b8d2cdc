use Rattle.std.proofs.Common.{◌≡◌, ℕ, ◌∙◌, List, [], ◌∷◌, drop, Option, map, subst, sym, ap}
use Rattle.std.proofs.lemmas.Result.{err_from_is_err_and}
use Rattle.hal_base.specs.declared.refusal.Place.{Place}
use Rattle.hal_base.specs.declared.refusal.Fault.{Fault}
use Rattle.hal_words.specs.Lines.{Cell, Given, Item, item, line_cells, directive_cells, place_at}
use Rattle.hal_words.specs.Pieces.{Wrong}
use Rattle.hal_pieces.specs.declared.kinds.Kind.TheVariants as kind
use Rattle.hal_pieces.specs.Kinds.{kind_of}
use Rattle.hal_pieces.specs.Faults.{IsBrokenAt, seen_item}
use Rattle.hal_pieces.specs.Reading.{Reads, TellsOf}
use Rattle.hal_pieces.proofs.Follow.{Reads-none}
use Rattle.hal_pieces.proofs.LineCells.{line_cells-kind, kind_of-comment, kind_of-directive, kind_of-script, kind_of-other, TellsOf-given}
use Rattle.hal_pieces.proofs.lines.push_line.Goals as goal

directive_same : (unit line : ℕ) (text back : List ℕ) → kind_of text ≡ kind.Directive → back ≡ drop 1 text → directive_cells unit line back ≡ line_cells unit line text
directive_same unit line text back is_directive split = ap (directive_cells unit line) split ∙ sym (line_cells-kind unit line text kind.Directive is_directive (kind_of-directive text is_directive))

fault_told : (start : Place) (rule : ℕ) (comment : Option Place) (old : List Item) (told : Fault) → start.column ≡ 1 → IsBrokenAt rule start told → TellsOf (Given (item (Wrong rule) (place_at start.unit start.line 1)) ∷ []) comment old told
fault_told start rule comment old told first broken =
    let placed : start ≡ place_at start.unit start.line 1 = ap (λ c. place_at start.unit start.line c) first in
    TellsOf-given rule (place_at start.unit start.line 1) [] comment old told (subst (λ (p : Place). IsBrokenAt rule p told) placed broken)

pub returns-in_err-push_directive-in-Directive-clause-broken : goal.returns-in_err-push_directive-in-Directive-clause-broken
returns-in_err-push_directive-in-Directive-clause-broken c =
    let start = c.args.start in
    let told = c.in_err-push_directive-in-Directive in
    let same = directive_same start.unit start.line c.args.line.now c.split_at.result.1.now (sym c.line_kind.ensures ∙ c.in-Directive.is) c.split_at.ensures.back in
    let p = err_from_is_err_and c.from_residual.result c.from_residual.ensures.1 in
    rw (p.1, p.2)
    (subst (λ (cells : List Cell). TellsOf cells c.args.comment (map seen_item c.args.items.now.items) told.field-0.0) same (told.ensures.broken c.args.comment))

pub returns-in-Comment-clause-read : goal.returns-in-Comment-clause-read
returns-in-Comment-clause-read c =
    let start = c.args.start in
    let line = c.args.line.now in
    let sort : kind_of line ≡ kind.Comment = sym c.line_kind.ensures ∙ c.in-Comment.is in
    let same : line_cells start.unit start.line line ≡ [] = line_cells-kind start.unit start.line line kind.Comment sort (kind_of-comment line sort) in
    let items = map seen_item c.args.items.now.items in
    subst (λ (cells : List Cell). Reads cells [] c.args.comment c.args.comment items items) (sym same) (Reads-none [] c.args.comment items)

pub returns-in_ok-push_directive-in-Directive-clause-read : goal.returns-in_ok-push_directive-in-Directive-clause-read
returns-in_ok-push_directive-in-Directive-clause-read c =
    let start = c.args.start in
    let same = directive_same start.unit start.line c.args.line.now c.split_at.result.1.now (sym c.line_kind.ensures ∙ c.in-Directive.is) c.split_at.ensures.back in
    subst (λ (cells : List Cell). Reads cells [] c.args.comment c.args.comment (map seen_item c.args.items.now.items) (map seen_item c.push_directive.new.items.items)) same
    (c.in_ok-push_directive-in-Directive.ensures.read c.args.comment)

pub returns-in-Script-clause-broken : goal.returns-in-Script-clause-broken
returns-in-Script-clause-broken c =
    let start = c.args.start in
    let line = c.args.line.now in
    let sort : kind_of line ≡ kind.Script = sym c.line_kind.ensures ∙ c.in-Script.is in
    let same = line_cells-kind start.unit start.line line kind.Script sort (kind_of-script line sort) in
    subst (λ (cells : List Cell). TellsOf cells c.args.comment (map seen_item c.args.items.now.items) c.broken.result) (sym same) (fault_told start 101 c.args.comment (map seen_item c.args.items.now.items) c.broken.result c.requires.first c.broken.ensures)

pub returns-in-Other-clause-broken : goal.returns-in-Other-clause-broken
returns-in-Other-clause-broken c =
    let start = c.args.start in
    let line = c.args.line.now in
    let told = c.broken-in-Other in
    let sort : kind_of line ≡ kind.Other = sym c.line_kind.ensures ∙ c.in-Other.is in
    let same = line_cells-kind start.unit start.line line kind.Other sort (kind_of-other line sort) in
    subst (λ (cells : List Cell). TellsOf cells c.args.comment (map seen_item c.args.items.now.items) told.result) (sym same) (fault_told start 102 c.args.comment (map seen_item c.args.items.now.items) told.result c.requires.first told.ensures)
