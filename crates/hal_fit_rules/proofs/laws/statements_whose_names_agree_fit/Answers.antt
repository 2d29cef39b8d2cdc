use Rattle.hal_fit_rules.proofs.Stating.{statements_fit}
use Rattle.hal_fit_rules.proofs.laws.statements_whose_names_agree_fit.Goals as goal

pub returns : goal.returns
returns c image g u within site m ps before around body sound locks stands begun agree = statements_fit image g u ps sound locks within site m before around body stands begun agree
