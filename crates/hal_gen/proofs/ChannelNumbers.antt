-- The channel that an expression is known to be.
use Rattle.std.specs.Prelude.{◌≡◌, ℕ, ℤ, pos, negsuc, Option, Some, None}
use Rattle.std.specs.Option.{option_and_then}
use Rattle.std.proofs.Common.{ap}
use Rattle.hal_gen_expr.proofs.Numbered.{below_is}
use Rattle.hal_gen.specs.ChannelNumbers.{channel_in}

-- a channel is its integer
pub number_given : (a : Option ℤ) (number : ℕ) → option_and_then channel_in a ≡ Some number → a ≡ Some (pos number)
number_given (Some (pos n)) number is = ap (λ k. Some (pos k)) (below_is 256 n number is)
number_given (Some (negsuc n)) number is = absurd (cc)
number_given None number is = absurd (cc)
