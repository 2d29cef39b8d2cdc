use Rattle.std.proofs.Common.{◌≡◌, ◌++◌, ◌∷◌, [], slice_set, rules}
use Rattle.hal_lexer.specs.declared.order.Entry.{Entry}
use Rattle.hal_lexer.proofs.Lexicons.{once_of}
use Rattle.hal_lexer.proofs.Summing.{summed_up}
use Rattle.hal_lexer.proofs.summary.Summary.keep.Goals as goal

pub returns-clause-sound : goal.returns-clause-sound
returns-clause-sound c = λ definitions sound unknown amount stands.
    let self = c.args.self.now in
    let words = self.words.items in
    let last : Entry = record { number = c.args.number; parts = c.args.parts } in
    let longer : c.push.new.self ≡ self.done ++ last ∷ [] = search rules in
    let more : c.set_comes.new.comes.items ≡ slice_set self.comes.items c.args.number c.args.known = search rules in (
      sound.0,
      summed_up definitions words self.comes.items c.set_comes.new.comes.items self.cuts.items self.done c.push.new.self last amount.0 c.args.known (once_of self.numbers.entries words sound.0) sound.1
          unknown amount.1 amount.2 (stands.0 words) (stands.1 words) longer more,
    )
