use Rattle.hal_fit_names.proofs.Standing.{data_stand}
use Rattle.hal_fit_names.proofs.laws.data_of_written_templates_stand_for_those_of_units.Goals as goal

pub returns : goal.returns
returns c files k p common item f prefaces unit given named there is home file =
    data_stand files named (c.a_written_template_gives_what_its_unit_shows.ensures files given named) k p common item there is f prefaces unit home file
