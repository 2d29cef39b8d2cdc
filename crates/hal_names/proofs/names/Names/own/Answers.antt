use Rattle.std.proofs.Common.{◌∙◌}
use Rattle.hal_names.proofs.names.Names.own.Goals as goal

pub returns : goal.returns
returns c = c.number_of.ensures ∙ c.args.self.now.indexed.finds c.args.key.now
