use Rattle.std.proofs.Common.{◌≡◌, ◌++◌, [], ◌∷◌, length, rules}
use Rattle.hal_lexer.specs.declared.definitions.Definition.{Definition}
use Rattle.hal_lexer.proofs.Index.{IsIndex-added}
use Rattle.hal_lexer.proofs.definitions.Definitions.push.Goals as goal

pub invariant_of-self-in-Ok : goal.invariant_of-self-in-Ok
invariant_of-self-in-Ok c =
    let one : Definition = record { name = c.args.name; text = c.args.text } in
    let added : c.push.new.self.items ≡ c.self.inside.list.items ++ one ∷ [] = search rules in
    let last : c.len-number.result ≡ length c.self.inside.list.items = search rules in
    IsIndex-added _ _ c.self.inside.list.items c.push.new.self.items one c.len-number.result added last c.self.invariant c.requires (search rules)
