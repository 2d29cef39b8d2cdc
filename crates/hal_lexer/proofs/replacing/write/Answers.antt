use Rattle.std.proofs.Common.{map}
use Rattle.std.proofs.lemmas.Result.{err_from_is_err_and}
use Rattle.hal_words.specs.Words.{word_item}
use Rattle.hal_lexer.specs.Compiled.{children_at, gives}
use Rattle.hal_lexer.specs.Walks.{left_words}
use Rattle.hal_lexer.proofs.Within.{explains_moved}
use Rattle.hal_lexer.proofs.replacing.write.Goals as goal

pub returns-in_err-write_child-clause-broken : goal.returns-in_err-write_child-clause-broken
returns-in_err-write_child-clause-broken c =
    let p = err_from_is_err_and c.from_residual.result c.from_residual.ensures.1 in
    rw (p.1, p.2) (explains_moved (map word_item c.args.tokens.now) (map word_item c.child.tokens) (gives c.args.compiled.now c.args.place (children_at c.args.compiled.now c.args.number))
    (left_words c.args.compiled.now c.args.place c.child.walk) _ c.child.invariant.whole c.in_err-write_child.ensures.broken)
