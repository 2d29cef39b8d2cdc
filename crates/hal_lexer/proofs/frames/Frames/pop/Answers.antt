use Rattle.std.proofs.lemmas.Option.{IfSome_then}
use Rattle.hal_lexer.proofs.Among.{closed_name, left_texts, taken_text}
use Rattle.hal_lexer.proofs.frames.Frames.pop.Goals as goal

pub invariant_of-self : goal.invariant_of-self
invariant_of-self c = left_texts c.self.inside.«open».entries c.pop.new.self.entries c.pop.result c.pop.ensures.entries c.self.invariant

pub returns-clause-text : goal.returns-clause-text
returns-clause-text c = taken_text c.self.inside.«open».entries c.pop.new.self.entries c.pop.result c.pop.ensures.entries c.self.invariant

pub returns-clause-closed : goal.returns-clause-closed
returns-clause-closed c = IfSome_then c.pop.result c.pop.ensures.updates (λ frame updates. closed_name c.pop.new.self.entries frame.0 updates.1)
