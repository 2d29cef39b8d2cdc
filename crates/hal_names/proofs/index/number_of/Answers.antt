use Rattle.std.proofs.Common.{◌∙◌}
use Rattle.hal_names.proofs.KeyEquality.{lookup-found}
use Rattle.hal_names.proofs.index.number_of.Goals as goal

pub returns : goal.returns
returns c = c.copied.ensures ∙ c.get.ensures.value ∙ lookup-found c.args.index.now.entries c.args.key.now
