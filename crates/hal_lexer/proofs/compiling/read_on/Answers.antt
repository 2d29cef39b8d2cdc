use Rattle.std.proofs.Common.{rules}
use Rattle.std.proofs.lemmas.Result.{err_from_is_err_and}
use Rattle.hal_lexer.proofs.ReadingOn.{goes_on_more, spoilt_before}
use Rattle.hal_lexer.proofs.compiling.read_on.Goals as goal

pub returns-in_err-behind-clause-broken : goal.returns-in_err-behind-clause-broken
returns-in_err-behind-clause-broken c =
    let p = err_from_is_err_and c.from_residual.result c.from_residual.ensures.1 in
    rw (p.1, p.2) (spoilt_before c.args.place c.args.compiled.now c.args.text.now c.word.rest.now c.args.children.now.items c.word.children.items _ c.word.invariant.on c.in_err-behind.ensures.broken)

pub word-preserved : goal.word-preserved
word-preserved c = record {
  on = goes_on_more c.args.compiled.now c.args.text.now c.word.rest.now c.in-Some.behind.now c.args.children.now.items c.word.children.items c.read_known.new.children.items c.word.invariant.on (search rules);
  text = search rules;
}
