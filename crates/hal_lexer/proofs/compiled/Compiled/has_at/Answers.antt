use Rattle.std.proofs.Common.{◌≡◌, ◌<◌, ◌≤◌, ◌∙◌, length, get_or, rules}
use Rattle.hal_lexer.proofs.NumberIndex.{name_found, no_name_at}
use Rattle.hal_lexer.proofs.compiled.Compiled.has_at.Goals as goal

pub returns-in-Some : goal.returns-in-Some
returns-in-Some c =
    let items = c.self.inside.list.items in
    let within : c.args.number < length items = search rules in
    let got : c.in-Some.entry.now ≡ get_or items c.args.number c.in-Some.entry.now = search rules in
    c.eq.ensures ∙ name_found items c.args.self.now c.args.number c.in-Some.entry.now c.args.name.now c.self.view_is within got

pub returns-in-None : goal.returns-in-None
returns-in-None c =
    let items = c.self.inside.list.items in
    let past : length items ≤ c.args.number = search rules in
    no_name_at items c.args.self.now c.args.number c.args.name.now c.self.view_is past
