use Rattle.hal_fit_calls.proofs.Harmless.{called_harmless, harmless, harmless_on}
use Rattle.hal_fit_calls.proofs.laws.what_update_blocks_call_is_harmless.Goals as goal

pub returns-clause-called : goal.returns-clause-called
returns-clause-called c = called_harmless

pub returns-clause-itself : goal.returns-clause-itself
returns-clause-itself c = harmless

pub returns-clause-on : goal.returns-clause-on
returns-clause-on c = harmless_on
