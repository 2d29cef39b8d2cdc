use Rattle.std.proofs.Common.{◌≡◌, ◌∙◌, List, [], ◌∷◌, ◌++◌, map, subst, sym, ap}
use Rattle.hal_words.specs.declared.reserved.Reserved.TheVariants as reserved
use Rattle.hal_words.specs.declared.word.Word.TheVariants as word
use Rattle.hal_words.specs.Lines.{Cell, Given, item, directive_cells}
use Rattle.hal_words.specs.Pieces.{Is, Wrong}
use Rattle.hal_pieces.specs.Directives.{cells_of}
use Rattle.hal_pieces.specs.Faults.{seen_item}
use Rattle.hal_pieces.specs.Reading.{Reads, TellsOf}
use Rattle.hal_pieces.proofs.Follow.{Reads-none, TellsOf-then}
use Rattle.hal_pieces.proofs.LineCells.{Reads-given, TellsOf-given}
use Rattle.hal_pieces.proofs.directives.push_directive.Goals as goal

pub returns-in-Other-clause-read : goal.returns-in-Other-clause-read
returns-in-Other-clause-read c = λ comment.
    let same : directive_cells c.args.start.unit c.args.start.line c.args.text.now ≡ [] = c.directive_at.ensures ∙ ap cells_of c.in-Other.is in
    let items = map seen_item c.args.items.now.items in
    subst (λ (cells : List Cell). Reads cells [] comment comment items items) (sym same) (Reads-none [] comment items)

pub returns-in-LongName-clause-broken : goal.returns-in-LongName-clause-broken
returns-in-LongName-clause-broken c = λ comment.
    let told = c.in-LongName in
    let old = map seen_item c.args.items.now.items in
    let one = item (Is (word.Reserved reserved.Include)) told.begin in
    let later : List Cell = Given (item (Wrong 203) told.at) ∷ [] in
    let same : directive_cells c.args.start.unit c.args.start.line c.args.text.now ≡ Given one ∷ later = c.directive_at.ensures ∙ ap cells_of told.is in
    subst (λ (cells : List Cell). TellsOf cells comment (map seen_item c.args.items.now.items) c.broken.result) (sym same)
    (TellsOf-then (Given one ∷ later) later comment comment old (old ++ one ∷ []) c.broken.result (Reads-given one later comment old tt) (TellsOf-given 203 told.at [] comment (old ++ one ∷ []) c.broken.result c.broken.ensures))

pub returns-in-Wrong-clause-broken : goal.returns-in-Wrong-clause-broken
returns-in-Wrong-clause-broken c = λ comment.
    let told = c.in-Wrong in
    let fault = c.broken-in-Wrong in
    let same : directive_cells c.args.start.unit c.args.start.line c.args.text.now ≡ Given (item (Wrong 103) told.begin) ∷ [] = c.directive_at.ensures ∙ ap cells_of told.is in
    subst (λ (cells : List Cell). TellsOf cells comment (map seen_item c.args.items.now.items) fault.result) (sym same) (TellsOf-given 103 told.begin [] comment (map seen_item c.args.items.now.items) fault.result fault.ensures)
