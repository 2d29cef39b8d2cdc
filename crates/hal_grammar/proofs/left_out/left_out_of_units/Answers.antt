use Rattle.std.proofs.Common.{arith}
use Rattle.hal_grammar.proofs.Codes.{begins_code}
use Rattle.hal_grammar.proofs.LeftOut.{mode_code, returns_code, outputs_code, elements_code}
use Rattle.hal_grammar.proofs.left_out.left_out_of_units.Goals as goal

pub returns-clause-inputs : goal.returns-clause-inputs
returns-clause-inputs c ns m b middle a d e h = omega (arith, outputs_code d (mode_code e), begins_code h)

pub returns-clause-inputs_of_function : goal.returns-clause-inputs_of_function
returns-clause-inputs_of_function c r m b a d h = omega (arith, returns_code d, begins_code h)

pub returns-clause-outputs : goal.returns-clause-outputs
returns-clause-outputs c m b a d h = omega (arith, mode_code d, begins_code h)

pub returns-clause-declarations : goal.returns-clause-declarations
returns-clause-declarations c es c' b a d = (λ h. (elements_code d).1 (begins_code h), λ h. (elements_code d).2 (begins_code h))

pub returns-clause-declarations_of_template : goal.returns-clause-declarations_of_template
returns-clause-declarations_of_template c p a = (λ h. omega (arith, begins_code h), λ h. omega (arith, begins_code h))
