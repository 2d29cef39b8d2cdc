use Rattle.std.proofs.Common.{◌≡◌, rules}
use Rattle.hal_lexer.specs.Parts.{AreParts}
use Rattle.hal_lexer.specs.Summary.{Numbered}
use Rattle.hal_lexer.specs.Sound.{IsSound}
use Rattle.hal_words.specs.Replacing.{Definitions}
use Rattle.hal_lexer.proofs.cut.cut_of.Goals as goal

pub returns-in-Some-2-clause-cut : goal.returns-in-Some-2-clause-cut
returns-in-Some-2-clause-cut c = λ definitions sound.
    let words = c.in-Some.words.items in
    let numbers = c.in-Some-2.numbers.items in
    let parts : AreParts c.args.text.now words = search rules in
    let same : c.as_slice.result.now ≡ words = search rules in
    let there : (d : Definitions) → IsSound d c.args.summary.now → Numbered c.numbers_of.new.summary.words.items c.as_slice.result.now numbers = rw c.in-Some-2.is at c.in_ok-numbers.ensures.numbers in
    let all : (d : Definitions) → IsSound d c.args.summary.now → Numbered c.numbers_of.new.summary.words.items words numbers = rw same at there in
    c.in_ok-cut-in-Some-2.ensures c.numbers_of.new.summary.words.items c.args.text.now (words, parts, all definitions sound)
