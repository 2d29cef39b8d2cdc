use Rattle.std.proofs.Common.{◌≡◌, ◌<◌, ◌≤◌, ◌∙◌, length, get_or, rules}
use Rattle.hal_lexer.proofs.NumberIndex.{children_found, no_children}
use Rattle.hal_lexer.proofs.compiled.Compiled.children.Goals as goal

pub returns-in-Some : goal.returns-in-Some
returns-in-Some c =
    let items = c.self.inside.list.items in
    let within : c.args.number < length items = search rules in
    let got : c.in-Some.entry.now ≡ get_or items c.args.number c.in-Some.entry.now = search rules in
    c.as_slice.ensures.value ∙ children_found items c.args.self.now c.args.number c.in-Some.entry.now c.self.view_is within got

pub returns-in-None : goal.returns-in-None
returns-in-None c =
    let items = c.self.inside.list.items in
    let past : length items ≤ c.args.number = search rules in
    no_children items c.args.self.now c.args.number c.self.view_is past
