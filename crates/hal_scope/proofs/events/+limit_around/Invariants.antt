use Rattle.hal_scope.proofs.events.+limit_around.Given as goal

abbrev pub decreases-limit_around : goal.decreases-limit_around
decreases-limit_around l = l.steps
