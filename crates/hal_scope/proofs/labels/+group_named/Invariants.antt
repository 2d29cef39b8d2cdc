use Rattle.hal_scope.proofs.labels.+group_named.Given as goal

abbrev pub decreases-group_named : goal.decreases-group_named
decreases-group_named l = l.steps
