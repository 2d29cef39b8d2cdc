use Rattle.std.proofs.Common.{◌≡◌, rules}
use Rattle.hal_lexer.proofs.summary.Summary.write.Goals as goal

pub returns-clause-broken : goal.returns-clause-broken
returns-clause-broken c =
    let words : c.as_slice.result.now ≡ c.args.self.now.words.items = search rules in
    let done : c.as_slice-2.result.now ≡ c.args.self.now.done = search rules in
    rw (words, done) at c.write_given.ensures.broken
