use Rattle.std.proofs.Common.{refl, arith}
use Rattle.hal_grammar.proofs.Codes.{begins_code}
use Rattle.hal_grammar.proofs.LeftOut.{receivers_code, guard_code, response_code, statement_code, basic_no_label, group_no_else}
use Rattle.hal_grammar.proofs.left_out.left_out_of_statements.Goals as goal

pub returns-clause-arguments : goal.returns-clause-arguments
returns-clause-arguments c xs p b a d h = omega (arith, receivers_code d refl, begins_code h)

pub returns-clause-receivers : goal.returns-clause-receivers
returns-clause-receivers c p a h = omega (arith, begins_code h)

pub returns-clause-guard : goal.returns-clause-guard
returns-clause-guard c p a = (λ h. omega (arith, begins_code h), λ h. omega (arith, begins_code h))

pub returns-clause-step : goal.returns-clause-step
returns-clause-step c g p b a d h = omega (arith, guard_code d refl, begins_code h)

pub returns-clause-selector : goal.returns-clause-selector
returns-clause-selector c s b a d h = (statement_code d).0 (begins_code h)

pub returns-clause-selector_of_response : goal.returns-clause-selector_of_response
returns-clause-selector_of_response c r b a d h = omega (arith, response_code d, begins_code h)

pub returns-clause-selector_of_off : goal.returns-clause-selector_of_off
returns-clause-selector_of_off c p a h = omega (arith, begins_code h)

pub returns-clause-temporary : goal.returns-clause-temporary
returns-clause-temporary c n p a h = omega (arith, begins_code h)

pub returns-clause-labels : goal.returns-clause-labels
returns-clause-labels c x b a d h = basic_no_label d h

pub returns-clause-alternative_of_case : goal.returns-clause-alternative_of_case
returns-clause-alternative_of_case c g b a d h = group_no_else d h
