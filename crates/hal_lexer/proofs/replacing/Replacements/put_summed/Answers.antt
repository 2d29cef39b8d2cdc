use Rattle.std.proofs.Common.{◌≡◌, ◌∷◌, [], map, slice_get, Some, refl, sym, ◌∙◌, append-nil, rules}
use Rattle.std.proofs.lemmas.Result.{err_from_is_err_and}
use Rattle.hal_words.specs.declared.word.Word.TheVariants as word
use Rattle.hal_words.specs.Pieces.{Is}
use Rattle.hal_words.specs.Lines.{item}
use Rattle.hal_words.specs.Replacing.{replaced_word}
use Rattle.hal_words.specs.Words.{word_item}
use Rattle.hal_lexer.specs.declared.comes.Comes.TheVariants as comes
use Rattle.hal_lexer.specs.Compiled.{gives}
use Rattle.hal_lexer.specs.Sound.{IsSound}
use Rattle.hal_lexer.specs.Summary.{child_of, table_of}
use Rattle.hal_lexer.proofs.Redefining.{known_replaced}
use Rattle.hal_lexer.proofs.replacing.Replacements.put_summed.Goals as goal

pub write-requires : goal.write-requires
write-requires c =
    let sound : IsSound c.args.self.now.definitions c.raise.new.summary = c.in_ok-raise.ensures.sound c.args.self.now.definitions c.requires in
    sound.1.compiled.0

pub returns-in-Unknown-clause-sound : goal.returns-in-Unknown-clause-sound
returns-in-Unknown-clause-sound c = c.in_ok-raise.ensures.sound c.args.self.now.definitions c.requires

pub returns-in-Nothing-clause-sound : goal.returns-in-Nothing-clause-sound
returns-in-Nothing-clause-sound c = c.in_ok-raise.ensures.sound c.args.self.now.definitions c.requires

pub returns-in_ok-write-in-One-clause-sound : goal.returns-in_ok-write-in-One-clause-sound
returns-in_ok-write-in-One-clause-sound c = c.in_ok-raise.ensures.sound c.args.self.now.definitions c.requires

-- each case: what is raised is sound, the number is that of the name, and what is told stands in its place
pub returns-in-Nothing-clause-replaced : goal.returns-in-Nothing-clause-replaced
returns-in-Nothing-clause-replaced c = λ put.
    let definitions = c.args.self.now.definitions in
    let s = c.raise.new.summary in
    let number = c.in-Some.number in
    let sound : IsSound definitions s = c.in_ok-raise.ensures.sound definitions c.requires in
    let named : slice_get c.args.self.now.summary.words.items number ≡ Some (word.Name c.args.name.now) = c.requires.0.finds c.args.name.now number (sym c.find.ensures ∙ c.in-Some.is) in
    let words : s.words.items ≡ c.args.self.now.summary.words.items = search rules in
    let own : slice_get s.words.items number ≡ Some (word.Name c.args.name.now) = rw words named in
    let none : replaced_word definitions (item (Is (word.Name c.args.name.now)) c.args.place) ≡ [] =
    known_replaced definitions s.words.items s.comes.items s.cuts.items s.done number c.args.name.now c.args.place comes.Nothing [] sound.1 own (search rules) refl in
    rw none (sym (append-nil (map word_item c.args.tokens.now)))

pub returns-in_ok-write-in-One-clause-replaced : goal.returns-in_ok-write-in-One-clause-replaced
returns-in_ok-write-in-One-clause-replaced c = λ put.
    let definitions = c.args.self.now.definitions in
    let s = c.raise.new.summary in
    let number = c.in-Some.number in
    let one = c.in-One.one in
    let sound : IsSound definitions s = c.in_ok-raise.ensures.sound definitions c.requires in
    let named : slice_get c.args.self.now.summary.words.items number ≡ Some (word.Name c.args.name.now) = c.requires.0.finds c.args.name.now number (sym c.find.ensures ∙ c.in-Some.is) in
    let words : s.words.items ≡ c.args.self.now.summary.words.items = search rules in
    let own : slice_get s.words.items number ≡ Some (word.Name c.args.name.now) = rw words named in
    let stands : replaced_word definitions (item (Is (word.Name c.args.name.now)) c.args.place) ≡ gives (table_of s.words.items s.done) c.args.place (child_of s.words.items one ∷ []) =
    known_replaced definitions s.words.items s.comes.items s.cuts.items s.done number c.args.name.now c.args.place (comes.One one) (child_of s.words.items one ∷ []) sound.1 own (search rules) refl in
    rw stands c.in_ok-write-in-One.ensures.written

pub returns-in_err-write-in-One-clause-broken : goal.returns-in_err-write-in-One-clause-broken
returns-in_err-write-in-One-clause-broken c =
    let definitions = c.args.self.now.definitions in
    let s = c.raise.new.summary in
    let number = c.in-Some.number in
    let one = c.in-One.one in
    let p = err_from_is_err_and c.from_residual-in_err-write-in-One.result c.from_residual-in_err-write-in-One.ensures.1 in
    let sound : IsSound definitions s = c.in_ok-raise.ensures.sound definitions c.requires in
    let named : slice_get c.args.self.now.summary.words.items number ≡ Some (word.Name c.args.name.now) = c.requires.0.finds c.args.name.now number (sym c.find.ensures ∙ c.in-Some.is) in
    let words : s.words.items ≡ c.args.self.now.summary.words.items = search rules in
    let own : slice_get s.words.items number ≡ Some (word.Name c.args.name.now) = rw words named in
    let stands : replaced_word definitions (item (Is (word.Name c.args.name.now)) c.args.place) ≡ gives (table_of s.words.items s.done) c.args.place (child_of s.words.items one ∷ []) =
    known_replaced definitions s.words.items s.comes.items s.cuts.items s.done number c.args.name.now c.args.place (comes.One one) (child_of s.words.items one ∷ []) sound.1 own (search rules) refl in
    rw (p.1, p.2, stands) c.in_err-write-in-One.ensures.broken
