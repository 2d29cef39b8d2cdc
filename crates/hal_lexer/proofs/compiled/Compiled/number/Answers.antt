use Rattle.std.proofs.Common.{◌≡◌, ◌∙◌, Some, None, rules}
use Rattle.std.specs.Map.{lookup}
use Rattle.hal_words.specs.contracts.name.NamePartialEq.TheImpl as derived
use Rattle.hal_lexer.proofs.NumberIndex.{still_number}
use Rattle.hal_lexer.proofs.compiled.Compiled.number.Goals as goal

pub returns-in-Some : goal.returns-in-Some
returns-in-Some c =
    let at : lookup ((derived.eq-value).it c.args.name.now) c.self.inside.numbers.entries ≡ Some c.in-Some.number.now = search rules in
    c.still.ensures ∙ still_number c.self.inside.numbers.entries _ c.args.self.now c.args.name.now (Some c.in-Some.number.now) c.self.invariant c.self.view_is at

pub returns-in-None : goal.returns-in-None
returns-in-None c =
    let at : lookup ((derived.eq-value).it c.args.name.now) c.self.inside.numbers.entries ≡ None = search rules in
    still_number c.self.inside.numbers.entries _ c.args.self.now c.args.name.now None c.self.invariant c.self.view_is at
