use Rattle.std.proofs.Common.{◌≡◌, Some}
use Rattle.std.proofs.lemmas.Result.{IfOk-weaker}
use Rattle.hal_words.specs.Reserved.{look_up}
use Rattle.hal_lexer.proofs.Redefining.{said_again}
use Rattle.hal_lexer.proofs.replacing.summarize.Goals as goal

pub returns-then-has : goal.returns-then-has
returns-then-has c =
    let s = c.args.summary.now in
    let same : look_up c.args.definitions.now c.args.name ≡ Some c.args.text.now = c.has.ensures c.if-has.true in
    (c.requires.sound.0, said_again c.args.definitions.now s.words.items s.comes.items s.cuts.items s.done c.args.name c.args.text.now c.requires.sound.1 same)

pub returns : goal.returns
returns c = IfOk-weaker c.define.result _ _ (λ _ all. all c.args.definitions.now c.requires.sound) c.define.ensures
