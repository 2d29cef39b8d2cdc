use Rattle.std.proofs.Common.{List, ap, map, length, arith, ◌≡◌}
use Rattle.std.proofs.lemmas.List.{length-map}
use Rattle.hal_base.specs.declared.limits.TheConstants.{TOKEN_LIMIT}
use Rattle.hal_words.specs.declared.word.Token.{Token}
use Rattle.hal_words.specs.Pieces.{Is}
use Rattle.hal_words.specs.Lines.{item}
use Rattle.hal_words.specs.Words.{word_item}
use Rattle.hal_lexer.proofs.Explained.{explains_full}
use Rattle.hal_lexer.proofs.token_list.Tokens.push.Goals as goal

pub returns-then-len-clause-broken : goal.returns-then-len-clause-broken
returns-then-len-clause-broken c =
    let full : length (map word_item c.args.self.now) ≡ TOKEN_LIMIT = omega (arith, length-map c.args.self.now word_item, c.self.invariant, c.len.ensures, ap (λ (tokens : List Token). length tokens) c.self.view_is) in
    λ rest. explains_full (map word_item c.args.self.now) (item (Is c.args.word) c.args.place) rest c.broken.result full c.broken.ensures
