use Rattle.std.proofs.Common.{◌≡◌, ◌∙◌, rules}
use Rattle.hal_lexer.proofs.summary.Summary.take_all.Goals as goal

pub name-preserved : goal.name-preserved
name-preserved c =
    let same : c.next.new.self ≡ c.name.self.done = search rules in
    record {
      sound = λ definitions sound. c.in_ok-take_again.ensures.sound definitions (rw same (c.name.invariant.sound definitions sound));
      words = c.in_ok-take_again.ensures.words ∙ c.name.invariant.words;
    }

pub returns-in_default-clause-sound : goal.returns-in_default-clause-sound
returns-in_default-clause-sound c = λ definitions sound.
    let same : c.next.new.self ≡ c.name.self.done = search rules in
    rw same (c.name.invariant.sound definitions sound)
