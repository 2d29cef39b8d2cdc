use Rattle.std.proofs.Common.{◌≡◌, ◌∷◌, [], ◌+◌, ℕ, get_or, drop, Some, slice_get, rules, arith, IsTrue}
use Rattle.std.proofs.lemmas.List.{drop_all, drop_more}
use Rattle.hal_lexer.specs.Summary.{given_of}
use Rattle.hal_lexer.proofs.Summing.{behind_word, behind_end}
use Rattle.hal_lexer.proofs.summary.gather_words.Goals as goal

pub word-preserved : goal.word-preserved
word-preserved c =
    let numbers = c.args.numbers.now in
    let i = c.word.number-index in
    let one : ℕ = get_or numbers i 0 in
    let front : drop i numbers ≡ one ∷ drop (i + 1) numbers = drop_more numbers i 0 c.word-test.true in
    let known : IsTrue c.in_ok-take.field-0 = search rules in
    let found = c.in_ok-take.ensures known in
    let there : given_of (slice_get c.args.comes.now one) ≡ Some found.0 = search rules in
    behind_word c.args.comes.now numbers (drop i numbers) (drop (i + 1) numbers) one found.0 c.word.parts.items c.take.new.parts.items front there found.2 c.word.invariant

pub returns : goal.returns
returns c = λ is.
    let ends : drop c.word.number-index c.args.numbers.now ≡ [] = drop_all c.word.number-index c.args.numbers.now (omega (arith, c.word-test.false)) in
    behind_end c.args.comes.now c.args.numbers.now (drop c.word.number-index c.args.numbers.now) c.word.parts.items ends c.word.invariant
