use Rattle.std.proofs.Common.{◌≡◌, ◌++◌, ◌∷◌, [], slice_get, Some, ap, ◌∙◌, rules, arith}
use Rattle.hal_words.specs.declared.word.Word.{Word}
use Rattle.hal_lexer.specs.Summary.{Keeps}
use Rattle.hal_lexer.proofs.Growing.{keeps_on}
use Rattle.hal_lexer.proofs.Numbering.{numbered_next, numbered_all}
use Rattle.hal_lexer.proofs.cut.numbers_of.Goals as goal

pub word-preserved : goal.word-preserved
word-preserved c =
    let words = c.args.words.now in
    let one = c.word-item.result in
    let more = c.number_of.new.self in
    let keeps : Keeps c.word.summary.words.items more.words.items = search rules in
    let longer : c.push.new.self.items ≡ c.word.numbers.items ++ c.in_ok-number.number ∷ [] = search rules in
    record {
      numbers = λ definitions sound.
          let copied : c.in_ok-copy.field-0 ≡ one = search rules in
          let at : slice_get more.words.items c.in_ok-number.number ≡ Some one = c.in_ok-number.ensures.has definitions (c.word.invariant.sound definitions sound) ∙ ap (λ (w : Word). Some w) copied in
          numbered_next c.word.summary.words.items more.words.items words c.word.word-index c.word.numbers.items c.push.new.self.items one c.in_ok-number.number keeps c.word-test.true c.word-item.is (c.word.invariant.numbers definitions sound) at longer;
      sound = λ definitions sound. c.in_ok-number.ensures.sound definitions (c.word.invariant.sound definitions sound);
      keeps = keeps_on _ _ _ c.word.invariant.keeps keeps;
    }

pub returns-clause-numbers : goal.returns-clause-numbers
returns-clause-numbers c = λ definitions sound.
    numbered_all c.word.summary.words.items c.args.words.now c.word.word-index c.word.numbers.items (omega (arith, c.word-test.false)) (c.word.invariant.numbers definitions sound)
