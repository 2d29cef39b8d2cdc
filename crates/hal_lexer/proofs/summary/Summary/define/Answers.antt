use Rattle.std.proofs.Common.{◌≡◌, ◌⊎◌, [], slice_get, slice_set, None, Some, rules}
use Rattle.hal_words.specs.declared.word.Word.TheVariants as word
use Rattle.hal_lexer.specs.Sound.{IsSound}
use Rattle.hal_lexer.specs.Summary.{IsCut, Keeps, given_of}
use Rattle.hal_lexer.proofs.Lexicons.{once_of}
use Rattle.hal_lexer.proofs.Redefining.{redefined}
use Rattle.hal_lexer.proofs.summary.Summary.define.Goals as goal

pub returns : goal.returns
returns c = λ definitions sound.
    let first = c.number.new.self in
    let second = c.cut_of.new.summary in
    let third = c.forget.new.self in
    let name = c.args.name in
    let number = c.in_ok-number.number in
    let numbered : IsSound definitions first = c.in_ok-number.ensures.sound definitions sound in
    let cutting : IsSound definitions second = c.in_ok-cut.ensures.sound definitions numbered in
    let left : IsSound definitions third = c.forget.ensures.sound definitions cutting in
    let named : slice_get first.words.items number ≡ Some (word.Name name) = c.in_ok-number.ensures.named definitions sound in
    let keeps : Keeps first.words.items second.words.items = search rules in
    let words : third.words.items ≡ second.words.items = search rules in
    let its : IsCut second.words.items c.in_ok-cut.cut (Some c.args.text.now) = c.in_ok-cut.ensures.cut definitions numbered in
    let forgotten : (given_of (slice_get third.comes.items number) ≡ None) ⊎ (third.done ≡ []) = search rules in
    let own : slice_get third.words.items number ≡ Some (word.Name name) = rw words (keeps number (word.Name name) named) in
    let set : c.set_cut.new.cuts.items ≡ slice_set third.cuts.items number c.in_ok-cut.cut = search rules in
    (left.0, rw set (redefined definitions third.words.items third.comes.items third.cuts.items third.done number name c.args.text.now c.in_ok-cut.cut (once_of third.numbers.entries third.words.items left.0) left.1 own forgotten (rw words its)))
