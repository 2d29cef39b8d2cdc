use Rattle.std.proofs.Common.{◌≡◌, ◌∷◌, [], ◌++◌, rules}
use Rattle.hal_base.specs.declared.refusal.Place.{Place}
use Rattle.hal_words.specs.Pieces.{Is}
use Rattle.hal_words.specs.Lines.{item}
use Rattle.hal_words.specs.Replacing.{text_items}
use Rattle.hal_words.specs.declared.word.Word.{Word}
use Rattle.hal_lexer.proofs.Cutting.{go_on_word}
use Rattle.hal_lexer.proofs.text.add_part.Goals as goal

pub returns-clause-on : goal.returns-clause-on
returns-clause-on c =
    let one : Word = c.in-Some.word in
    let front : (at : Place) → text_items at c.args.text.now ≡ item (Is c.in-Some.word) at ∷ text_items at c.in-Some.behind.now = rw c.in-Some.is at c.in_ok-word.ensures.found in
    let added : c.push.new.self.items ≡ c.args.parts.now.items ++ one ∷ [] = search rules in
    go_on_word c.args.text.now c.in-Some.behind.now c.args.parts.now.items c.push.new.self.items one front added
