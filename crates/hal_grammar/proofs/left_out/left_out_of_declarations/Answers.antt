use Rattle.std.proofs.Common.{arith}
use Rattle.hal_grammar.proofs.Codes.{begins_code}
use Rattle.hal_grammar.proofs.LeftOut.{attributes_code, literal_code, precision_code}
use Rattle.hal_grammar.proofs.left_out.left_out_of_declarations.Goals as goal

pub returns-clause-copies : goal.returns-clause-copies
returns-clause-copies c xs b a d h = attributes_code d (begins_code h)

pub returns-clause-copies_of_result : goal.returns-clause-copies_of_result
returns-clause-copies_of_result c x m b a d h = omega (arith, precision_code d, begins_code h)

pub returns-clause-sign : goal.returns-clause-sign
returns-clause-sign c l p b a d = (λ h. (literal_code d).0 (begins_code h), λ h. (literal_code d).1 (begins_code h))

pub returns-clause-sign_of_name : goal.returns-clause-sign_of_name
returns-clause-sign_of_name c n p a = (λ h. omega (arith, begins_code h), λ h. omega (arith, begins_code h))
