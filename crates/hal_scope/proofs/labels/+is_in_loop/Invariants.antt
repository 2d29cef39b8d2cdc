use Rattle.hal_scope.proofs.labels.+is_in_loop.Given as goal

abbrev pub decreases-is_in_loop : goal.decreases-is_in_loop
decreases-is_in_loop l = l.steps
