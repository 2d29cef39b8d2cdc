use Rattle.hal_names.proofs.means.+nearest.Given as goal

abbrev pub decreases-nearest : goal.decreases-nearest
decreases-nearest l = l.steps
