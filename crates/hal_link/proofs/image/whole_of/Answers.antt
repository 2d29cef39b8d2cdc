use Rattle.hal_gen_expr.specs.SeenSites.{Sited}
use Rattle.hal_link.proofs.image.whole_of.Goals as goal

pub returns-clause-site : goal.returns-clause-site
returns-clause-site c = Sited c.requires.listed c.requires.processes c.requires.declared c.requires.few c.requires.counted c.requires.placed
