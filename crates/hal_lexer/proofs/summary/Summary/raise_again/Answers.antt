use Rattle.std.proofs.Common.{◌≡◌, rules}
use Rattle.hal_lexer.proofs.summary.Summary.raise_again.Goals as goal

pub returns-clause-sound : goal.returns-clause-sound
returns-clause-sound c = λ definitions sound.
    let same : c.take_back.new.self ≡ c.take_all.new.self.done = search rules in
    rw same (c.in_ok-take_all.ensures.sound definitions sound)
