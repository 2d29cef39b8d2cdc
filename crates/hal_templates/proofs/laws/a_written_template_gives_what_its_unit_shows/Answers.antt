use Rattle.hal_templates.proofs.Given.{written_gives}
use Rattle.hal_templates.proofs.laws.a_written_template_gives_what_its_unit_shows.Goals as goal

pub returns : goal.returns
returns c = λ files sound named. written_gives files named sound
