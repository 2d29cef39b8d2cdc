use Rattle.std.proofs.Common.{◌≡◌, rules}
use Rattle.hal_lexer.proofs.summary.Summary.look_through.Goals as goal

pub returns-clause-sound : goal.returns-clause-sound
returns-clause-sound c = λ definitions sound.
    let same : c.leave_needed.new.self ≡ c.args.self.now.done = search rules in
    rw same sound
