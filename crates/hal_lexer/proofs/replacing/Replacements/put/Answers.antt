use Rattle.std.proofs.Common.{◌≡◌, [], false, true, length, map, rules}
use Rattle.hal_words.specs.Pieces.{Is, Wrong}
use Rattle.hal_words.specs.Lines.{item}
use Rattle.hal_words.specs.Replacing.{is_replace}
use Rattle.hal_words.specs.Words.{word_item}
use Rattle.hal_lexer.proofs.Explained.{explains_at}
use Rattle.hal_lexer.proofs.Within.{no_name, within_word, within_replace, explains_one}
use Rattle.hal_lexer.proofs.replacing.Replacements.put.Goals as goal

pub returns-then-is_replace-clause-broken : goal.returns-then-is_replace-clause-broken
returns-then-is_replace-clause-broken c = λ rest.
    let definitions = c.args.self.now.definitions in
    let is : is_replace (Is c.args.word) ≡ true = search rules in
    explains_one (map word_item c.args.tokens.now) (item (Wrong 207) c.args.place) _ rest c.broken.result
    (within_replace (length definitions) definitions [] c.args.word c.args.place is)
    (explains_at (map word_item c.args.tokens.now) 207 c.args.place rest c.broken.result c.broken.ensures)

pub returns-clause-replaced : goal.returns-clause-replaced
returns-clause-replaced c =
    let definitions = c.args.self.now.definitions in
    let other : is_replace (Is c.args.word) ≡ false = search rules in
    rw (within_word (length definitions) definitions [] c.args.word c.args.place (no_name c.args.word c.in_default.not-Name) other) c.push.ensures.added

pub returns-clause-broken : goal.returns-clause-broken
returns-clause-broken c =
    let definitions = c.args.self.now.definitions in
    let other : is_replace (Is c.args.word) ≡ false = search rules in
    rw (within_word (length definitions) definitions [] c.args.word c.args.place (no_name c.args.word c.in_default.not-Name) other) c.push.ensures.broken
