use Rattle.std.proofs.Common.{◌≡◌, ◌++◌, [], ◌∷◌, length, rules}
use Rattle.hal_lexer.specs.declared.compiled.Entry.{Entry}
use Rattle.hal_lexer.proofs.NumberIndex.{numbers_added}
use Rattle.hal_lexer.proofs.compiled.Compiled.push.Goals as goal

pub invariant_of-self-else-is_err-2 : goal.invariant_of-self-else-is_err-2
invariant_of-self-else-is_err-2 c =
    let one : Entry = record { name = c.args.name; children = c.args.children } in
    let added : c.push.new.self.items ≡ c.self.inside.list.items ++ one ∷ [] = search rules in
    let last : c.len-number.result ≡ length c.self.inside.list.items = search rules in
    numbers_added _ _ c.self.inside.list.items c.push.new.self.items one c.len-number.result added last c.self.invariant (search rules)
