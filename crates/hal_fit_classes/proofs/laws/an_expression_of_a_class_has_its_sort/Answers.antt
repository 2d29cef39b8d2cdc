use Rattle.hal_fit_classes.proofs.Sorting.{kinded}
use Rattle.hal_fit_classes.proofs.laws.an_expression_of_a_class_has_its_sort.Goals as goal

pub returns : goal.returns
returns c u site ps block tree is = kinded u site ps block tree is
