use Rattle.hal_fit.proofs.Stating.{statements_lead}
use Rattle.hal_fit.proofs.laws.the_code_of_statements_leads_on.Goals as goal

pub returns : goal.returns
returns c code g u part site exits m list from to supports may fits at = statements_lead code g u list part site exits m from to (record { supports = supports; may = may }) fits at
