use Rattle.std.proofs.Common.{refl}
use Rattle.hal_script.proofs.worked.reasons_have_an_order.Goals as goal

pub returns-clause-unknown : goal.returns-clause-unknown
returns-clause-unknown c = refl

pub returns-clause-behind : goal.returns-clause-behind
returns-clause-behind c = refl

pub returns-clause-missing : goal.returns-clause-missing
returns-clause-missing c = refl

pub returns-clause-malformed : goal.returns-clause-malformed
returns-clause-malformed c = refl

pub returns-clause-out_of_range : goal.returns-clause-out_of_range
returns-clause-out_of_range c = refl

pub returns-clause-open : goal.returns-clause-open
returns-clause-open c = refl

pub returns-clause-tab : goal.returns-clause-tab
returns-clause-tab c = refl
