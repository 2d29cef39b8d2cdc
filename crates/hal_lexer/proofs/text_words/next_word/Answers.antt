use Rattle.std.proofs.Common.{◌≡◌, ◌∷◌, true, ap, ◌∙◌, rules}
use Rattle.std.proofs.lemmas.Result.{err_from_is_err_and}
use Rattle.hal_words.specs.Pieces.{Is}
use Rattle.hal_words.specs.Lines.{Item}
use Rattle.hal_words.specs.Items.{main_item}
use Rattle.hal_words.specs.Replacing.{is_replace, text_items}
use Rattle.hal_pieces.specs.Seen.{seen}
use Rattle.hal_lexer.proofs.Paths.{first_spoils, replace_spoils}
use Rattle.hal_lexer.proofs.text_words.next_word.Goals as goal

pub returns-in_err-word-clause-broken : goal.returns-in_err-word-clause-broken
returns-in_err-word-clause-broken c =
    let p = err_from_is_err_and c.from_residual.result c.from_residual.ensures.1 in
    let front : text_items c.args.place c.args.text.now ≡ main_item (seen c.in-Some.piece) c.args.place ∷ text_items c.args.place c.in-Some.rest.now =
    search (rules, c.in-Some.ensures.found c.args.place) in
    rw (p.1, p.2) (first_spoils c.args.place c.args.text.now c.in-Some.rest.now (main_item (seen c.in-Some.piece) c.args.place) _ front c.in_err-word.ensures.broken)

pub returns-then-is_replace-clause-broken : goal.returns-then-is_replace-clause-broken
returns-then-is_replace-clause-broken c =
    let front : text_items c.args.place c.args.text.now ≡ main_item (seen c.in-Some.piece) c.args.place ∷ text_items c.args.place c.in-Some.rest.now =
    search (rules, c.in-Some.ensures.found c.args.place) in
    let is : is_replace (Is c.in_ok-word.word) ≡ true = search rules in
    replace_spoils c.args.place c.args.text.now c.in-Some.rest.now c.in_ok-word.word c.broken.result
    (front ∙ ap (λ (one : Item). one ∷ text_items c.args.place c.in-Some.rest.now) (c.in_ok-word.ensures.word c.args.place)) is c.broken.ensures
