use Rattle.hal_limits.proofs.laws.a_set_within_its_limits_has_room.Goals as goal

pub returns : goal.returns
returns c = λ files within. record { cells = within.cells; views = within.views }
