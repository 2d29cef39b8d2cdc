use Rattle.std.proofs.Common.{true, refl, inl, inr}
use Rattle.std.specs.Option.{is_some}
use Rattle.hal_agreement.specs.Sites.{within_block}
use Rattle.hal_fit_rules.proofs.LookedAt.{statements_any}
use Rattle.hal_fit_rules.proofs.Stating.{statements_fit}
use Rattle.hal_fit_rules.proofs.UsingStatements.{statements_agree}
use Rattle.hal_fit_rules.proofs.laws.statements_of_a_known_unit_fit.Goals as goal

pub returns-clause-agree : goal.returns-clause-agree
returns-clause-agree c image g u site m before around body known marked counts begun = statements_agree image g u site around.home known marked m before around body refl counts begun

pub returns-clause-fit : goal.returns-clause-fit
returns-clause-fit c image g u site m before around body sound locks known marked counts begun =
    statements_fit image g u site.set.phrases sound locks (is_some around.update) (within_block around.block site) m before around body (inl refl) begun
    (statements_agree image g u site around.home known marked m before around body refl counts begun)

pub returns-clause-inside : goal.returns-clause-inside
returns-clause-inside c image g v site m before around body sound locks harmless known marked counts begun =
    statements_fit image g (λ inside. v) site.set.phrases sound locks true (within_block around.block site) m before around body (inr (refl, harmless)) begun
    (statements_any image g v site.set.phrases (is_some around.update) true (within_block around.block site) m before around body
    (statements_agree image g (λ inside. v) site around.home known marked m before around body refl counts begun))
