use Rattle.std.proofs.Common.{◌≡◌, ◌++◌, ◌∷◌, [], length, None, Some, refl, rules}
use Rattle.hal_words.specs.declared.word.Word.TheVariants as word
use Rattle.hal_lexer.specs.declared.comes.Comes.TheVariants as comes
use Rattle.hal_lexer.specs.declared.summary.Cut.TheVariants as cut
use Rattle.hal_lexer.specs.Defined.{found}
use Rattle.hal_lexer.specs.Summary.{IsLexicon}
use Rattle.hal_lexer.proofs.Growing.{grown, keeps_more, named_new, new_name}
use Rattle.hal_lexer.proofs.Lexicons.{name_added, none_there}
use Rattle.hal_lexer.proofs.Places.{get_end}
use Rattle.hal_lexer.proofs.summary.Summary.number.Goals as goal

pub returns-in-Some-clause-named : goal.returns-in-Some-clause-named
returns-in-Some-clause-named c = λ definitions sound.
    let at : found c.args.self.now.numbers.entries c.args.name ≡ Some c.in-Some.number = search rules in
    sound.0.finds c.args.name c.in-Some.number at

pub returns-in-Ok-clause-named : goal.returns-in-Ok-clause-named
returns-in-Ok-clause-named c = λ definitions sound.
    let old = c.args.self.now.words.items in
    let more : c.add.new.self.words.items ≡ old ++ word.Name c.args.name ∷ [] = search rules in
    let last : c.in_ok-number.number ≡ length old = search rules in
    rw (more, last) (get_end old (word.Name c.args.name))

pub returns-in-Ok-clause-keeps : goal.returns-in-Ok-clause-keeps
returns-in-Ok-clause-keeps c =
    let old = c.args.self.now.words.items in
    let more : c.add.new.self.words.items ≡ old ++ word.Name c.args.name ∷ [] = search rules in
    rw more (keeps_more old (word.Name c.args.name ∷ []))

pub returns-in-Ok-clause-sound : goal.returns-in-Ok-clause-sound
returns-in-Ok-clause-sound c = λ definitions sound.
    let self = c.args.self.now in
    let old = self.words.items in
    let one = word.Name c.args.name in
    let words : c.add.new.self.words.items ≡ old ++ one ∷ [] = search rules in
    let comes' : c.add.new.self.comes.items ≡ self.comes.items ++ comes.Unknown ∷ [] = search rules in
    let cuts : c.add.new.self.cuts.items ≡ self.cuts.items ++ cut.Undefined ∷ [] = search rules in
    let done : c.add.new.self.done ≡ self.done = search rules in
    let entries : c.add.new.self.numbers.entries ≡ self.numbers.entries = search rules in
    let last : c.in_ok-number.number ≡ length old = search rules in
    let none : found self.numbers.entries c.args.name ≡ None = search rules in
    let apart = none_there self.numbers.entries old c.args.name sound.0 none in
    let before : IsLexicon c.add.new.self.numbers.entries old = rw entries sound.0 in
    let unknown : found c.add.new.self.numbers.entries c.args.name ≡ None = rw entries none in
    let lexicon = name_added c.add.new.self.numbers.entries _ old c.args.name c.in_ok-number.number last before unknown (search rules) in
    let summary = grown definitions old self.comes.items self.cuts.items self.done one comes.Unknown sound.1 refl tt
    (new_name old self.done c.args.name sound.1.rows apart) (λ name same. named_new definitions old c.args.name name sound.1.defined apart same) in
    (rw words lexicon, rw (words, comes', cuts, done) summary)
