use Rattle.std.proofs.Common.{◌≡◌, true, is_none, rules}
use Rattle.hal_words.specs.Reserved.{look_up}
use Rattle.hal_lexer.proofs.Replaced.{lacking_stays}
use Rattle.hal_lexer.proofs.replacing.Replacements.put_name.Goals as goal

pub returns-then-lacks-clause-broken : goal.returns-then-lacks-clause-broken
returns-then-lacks-clause-broken c =
    let lacks : is_none (look_up c.args.self.now.definitions c.args.name) ≡ true = search rules in
    rw (lacking_stays c.args.self.now.definitions c.args.name c.args.place lacks) c.push.ensures.broken
