use Rattle.std.proofs.Common.{refl}
use Rattle.hal_script.proofs.worked.quotes_are_read.Goals as goal

pub returns-clause-some : goal.returns-clause-some
returns-clause-some c = refl

pub returns-clause-inner : goal.returns-clause-inner
returns-clause-inner c = refl

pub returns-clause-gaps : goal.returns-clause-gaps
returns-clause-gaps c = refl

pub returns-clause-malformed : goal.returns-clause-malformed
returns-clause-malformed c = refl

pub returns-clause-open : goal.returns-clause-open
returns-clause-open c = refl
