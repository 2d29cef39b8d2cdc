use Rattle.hal_fit_rules.proofs.Agreeing.{known_leaves, of_role, sorted_of}
use Rattle.hal_fit_rules.proofs.laws.an_expression_whose_names_agree_has_the_sort_of_its_class.Goals as goal

pub returns-clause-leaves : goal.returns-clause-leaves
returns-clause-leaves c u site ps before around role tree sound begun value agree = known_leaves u site ps sound before around role tree begun agree

pub returns-clause-wanted : goal.returns-clause-wanted
returns-clause-wanted c u site ps before around role tree sound begun value agree = of_role u site ps sound before around role tree value begun agree

pub returns-clause-known : goal.returns-clause-known
returns-clause-known c u site ps before around role tree sound begun value agree = sorted_of u site ps sound before around role tree value begun agree
