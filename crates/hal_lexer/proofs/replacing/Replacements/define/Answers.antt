use Rattle.std.proofs.Common.{◌≡◌, ◌∷◌, rules}
use Rattle.hal_lexer.specs.Sound.{IsSound}
use Rattle.hal_lexer.proofs.replacing.Replacements.define.Goals as goal

pub returns-clause-sound : goal.returns-clause-sound
returns-clause-sound c =
    let definitions = c.args.self.now.definitions in
    let added : c.push.new.self ≡ (c.args.name, c.args.text.now) ∷ definitions = search rules in
    let sound : IsSound ((c.args.name, c.args.text.now) ∷ definitions) c.summarize.new.summary = search rules in
    rw added sound
