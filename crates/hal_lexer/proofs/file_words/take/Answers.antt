use Rattle.std.proofs.Common.{◌≡◌, true, false, map, refl, ap, rules}
use Rattle.std.proofs.lemmas.Result.{err_from_is_err_and}
use Rattle.hal_words.specs.Pieces.{Is}
use Rattle.hal_words.specs.Lines.{item}
use Rattle.hal_words.specs.Replacing.{is_replace, as_word}
use Rattle.hal_words.specs.Words.{word_item}
use Rattle.hal_pieces.specs.Seen.{seen_right}
use Rattle.hal_pieces.specs.Faults.{seen_item}
use Rattle.hal_lexer.proofs.Within.{items_are, texts_behind, explains_definition, explains_word, explains_no_word}
use Rattle.hal_lexer.proofs.file_words.take.Goals as goal

pub define-requires-clause-texts : goal.define-requires-clause-texts
define-requires-clause-texts c = texts_behind c.args.items.now _ c.in-len1-up.len_at_least refl c.requires.texts

pub returns-in_err-define-clause-broken : goal.returns-in_err-define-clause-broken
returns-in_err-define-clause-broken c =
    let p = err_from_is_err_and c.from_residual.result c.from_residual.ensures.1 in
    let is : is_replace (seen_right c.one-item.result.piece) ≡ true = search rules in
    let whole = items_are c.args.items.now _ c.one-item.result c.in-len1-up.len_at_least c.one-item.is refl in
    rw (p.1, p.2) (explains_definition (map word_item c.args.tokens.now) c.args.replacements.now.definitions (map seen_item c.args.items.now) (seen_item c.one-item.result) _ _ whole is c.in_err-define.ensures.broken)

pub returns-in_err-word-clause-broken : goal.returns-in_err-word-clause-broken
returns-in_err-word-clause-broken c =
    let p = err_from_is_err_and c.from_residual-in_err-word.result c.from_residual-in_err-word.ensures.1 in
    let is : is_replace (seen_right c.one-item.result.piece) ≡ false = search rules in
    let whole = items_are c.args.items.now _ c.one-item.result c.in-len1-up.len_at_least c.one-item.is refl in
    rw (p.1, p.2) (explains_word (map word_item c.args.tokens.now) c.args.replacements.now.definitions (map seen_item c.args.items.now) (seen_item c.one-item.result) _ _ whole is
    (explains_no_word (map word_item c.args.tokens.now) c.args.replacements.now.definitions (as_word (seen_right c.one-item.result.piece) c.one-item.result.place) _ c.in_err-word.ensures.broken))

pub returns-in_err-put-clause-broken : goal.returns-in_err-put-clause-broken
returns-in_err-put-clause-broken c =
    let p = err_from_is_err_and c.from_residual-in_err-put.result c.from_residual-in_err-put.ensures.1 in
    let is : is_replace (seen_right c.one-item.result.piece) ≡ false = search rules in
    let whole = items_are c.args.items.now _ c.one-item.result c.in-len1-up.len_at_least c.one-item.is refl in
    let named : as_word (seen_right c.one-item.result.piece) c.one-item.result.place ≡ item (Is c.in_ok-word.word) c.one-item.result.place = ap (λ one. as_word one c.one-item.result.place) c.in_ok-word.ensures.word in
    rw (p.1, p.2) (explains_word (map word_item c.args.tokens.now) c.args.replacements.now.definitions (map seen_item c.args.items.now) (seen_item c.one-item.result) _ _ whole is
    (rw named c.in_err-put.ensures.broken))
