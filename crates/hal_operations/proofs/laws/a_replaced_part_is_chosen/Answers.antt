use Rattle.hal_operations.proofs.Replacing.{replaced_bits, replaced_bytes}
use Rattle.hal_operations.proofs.laws.a_replaced_part_is_chosen.Goals as goal

-- src/laws.rt:41:1
pub returns-clause-bits : goal.returns-clause-bits
returns-clause-bits c = λ len word n y v full e. replaced_bits c.args.part len word n y v full e

-- src/laws.rt:41:1
pub returns-clause-bytes : goal.returns-clause-bytes
returns-clause-bytes c = λ text new v e. replaced_bytes c.args.part text new v e
