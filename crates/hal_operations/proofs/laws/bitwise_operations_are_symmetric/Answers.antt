use Rattle.std.proofs.Common.{ap, Ok, ◌&&◌, ◌||◌}
use Rattle.hal_operations.specs.Strings.{bits_of, string, differ}
use Rattle.hal_operations.proofs.Replacing.{bitwise-turned, and-turned, or-turned, differ-turned}
use Rattle.hal_operations.proofs.laws.bitwise_operations_are_symmetric.Goals as goal

-- src/laws.rt:34:1
pub returns-clause-and : goal.returns-clause-and
returns-clause-and c = λ m x n y. ap (λ bits. Ok (string bits)) (bitwise-turned (λ a b. a && b) and-turned (bits_of m x) (bits_of n y))

-- src/laws.rt:34:1
pub returns-clause-or : goal.returns-clause-or
returns-clause-or c = λ m x n y. ap (λ bits. Ok (string bits)) (bitwise-turned (λ a b. a || b) or-turned (bits_of m x) (bits_of n y))

-- src/laws.rt:34:1
pub returns-clause-xor : goal.returns-clause-xor
returns-clause-xor c = λ m x n y. ap (λ bits. Ok (string bits)) (bitwise-turned differ differ-turned (bits_of m x) (bits_of n y))
