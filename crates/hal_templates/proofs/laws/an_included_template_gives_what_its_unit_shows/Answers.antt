use Rattle.hal_templates.proofs.Given.{include_gives}
use Rattle.hal_templates.proofs.laws.an_included_template_gives_what_its_unit_shows.Goals as goal

pub returns : goal.returns
returns c = λ files sound named. include_gives files named sound
