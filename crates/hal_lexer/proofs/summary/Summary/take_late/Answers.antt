use Rattle.std.proofs.Common.{◌≡◌, rules}
use Rattle.hal_lexer.proofs.summary.Summary.take_late.Goals as goal

pub returns-then-not-is_known-clause-sound : goal.returns-then-not-is_known-clause-sound
returns-then-not-is_known-clause-sound c = λ definitions sound.
    let same : c.put_aside.new.self ≡ c.raise_anew.new.self.done = search rules in
    rw same (c.in_ok-raise_anew.ensures.sound definitions sound)
