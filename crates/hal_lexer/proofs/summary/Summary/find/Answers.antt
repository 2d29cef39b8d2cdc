use Rattle.std.proofs.Common.{◌≡◌, ◌∙◌, Some, None, sym, rules}
use Rattle.std.specs.Map.{lookup}
use Rattle.hal_words.specs.contracts.name.NamePartialEq.TheImpl as derived
use Rattle.hal_lexer.proofs.Index.{lookup-found}
use Rattle.hal_lexer.proofs.summary.Summary.find.Goals as goal

pub returns-in-Some : goal.returns-in-Some
returns-in-Some c =
    let entries = c.args.self.now.numbers.entries in
    let at : lookup ((derived.eq-value).it c.args.name.now) entries ≡ Some c.in-Some.number.now = search rules in
    sym at ∙ lookup-found entries c.args.name.now

pub returns-in-None : goal.returns-in-None
returns-in-None c =
    let entries = c.args.self.now.numbers.entries in
    let at : lookup ((derived.eq-value).it c.args.name.now) entries ≡ None = search rules in
    sym at ∙ lookup-found entries c.args.name.now
