use Rattle.std.proofs.Common.{◌≡◌, ◌++◌, ◌∷◌, [], length, slice_get, Some, sym, rules}
use Rattle.hal_lexer.specs.declared.comes.Comes.TheVariants as comes
use Rattle.hal_lexer.specs.declared.comes.Given.TheVariants as given
use Rattle.hal_lexer.specs.declared.summary.Cut.TheVariants as cut
use Rattle.hal_lexer.specs.Compiled.{word_children}
use Rattle.hal_lexer.specs.Summary.{table_of, told}
use Rattle.hal_lexer.proofs.Growing.{grown, keeps_more}
use Rattle.hal_lexer.proofs.Lexicons.{plain_added, plain_apart}
use Rattle.hal_lexer.proofs.Places.{get_end}
use Rattle.hal_lexer.proofs.summary.Summary.add_plain.Goals as goal

pub returns-clause-has : goal.returns-clause-has
returns-clause-has c =
    let old = c.args.self.now.words.items in
    let more : c.add.new.self.words.items ≡ old ++ c.args.word ∷ [] = search rules in
    let last : c.in_ok-number.number ≡ length old = search rules in
    rw (more, last) (get_end old c.args.word)

pub returns-clause-keeps : goal.returns-clause-keeps
returns-clause-keeps c =
    let old = c.args.self.now.words.items in
    let more : c.add.new.self.words.items ≡ old ++ c.args.word ∷ [] = search rules in
    rw more (keeps_more old (c.args.word ∷ []))

pub returns-clause-sound : goal.returns-clause-sound
returns-clause-sound c = λ definitions sound.
    let self = c.args.self.now in
    let old = self.words.items in
    let one = c.args.word in
    let n = c.in_ok-number.number in
    let last : n ≡ length old = search rules in
    let known = comes.One (given.Word n) in
    let words : c.add.new.self.words.items ≡ old ++ one ∷ [] = search rules in
    let comes' : c.add.new.self.comes.items ≡ self.comes.items ++ known ∷ [] = search rules in
    let cuts : c.add.new.self.cuts.items ≡ self.cuts.items ++ cut.Undefined ∷ [] = search rules in
    let done : c.add.new.self.done ≡ self.done = search rules in
    let entries : c.add.new.self.numbers.entries ≡ self.numbers.entries = search rules in
    let at : slice_get (old ++ one ∷ []) n ≡ Some one = rw last (get_end old one) in
    let apart = plain_apart one c.requires.plain in
    let here : told (old ++ one ∷ []) (Some known) ≡ word_children (table_of old self.done) one = rw at (sym (c.requires.plain (table_of old self.done))) in
    let lexicon = plain_added self.numbers.entries old one sound.0 apart in
    let summary = grown definitions old self.comes.items self.cuts.items self.done one known sound.1 c.requires.said (one, at) here (λ name same. absurd (apart name same)) in
    (rw (entries, words) lexicon, rw (words, comes', cuts, done) summary)
