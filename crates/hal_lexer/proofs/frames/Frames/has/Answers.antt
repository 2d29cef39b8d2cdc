use Rattle.std.proofs.Common.{◌∙◌}
use Rattle.hal_lexer.proofs.Among.{among_open}
use Rattle.hal_lexer.proofs.frames.Frames.has.Goals as goal

pub returns : goal.returns
returns c = c.contains_key.ensures ∙ among_open c.self.inside.«open».entries c.args.self.now c.args.name.now c.self.view_is
