-- The channels of READ and WRITE, which are constant.
use Rattle.std.specs.Prelude.{ℕ, ℤ, pos, negsuc, Option, None}
use Rattle.std.specs.Option.{option_and_then}
use Rattle.hal_grammar.specs.Expressions.{Expression}
use Rattle.hal_agreement.specs.Sites.{Site}
use Rattle.hal_gen_expr.specs.Constants.{integer_of}
use Rattle.hal_gen_expr.specs.Numbering.{below}

-- a channel of 8 bits
abbrev pub channel_in : ℤ → Option ℕ
channel_in (pos number) = below 256 number
channel_in (negsuc n) = None

-- the channel that a constant expression is
abbrev pub channel_of : Site → Expression → Option ℕ
channel_of site tree = option_and_then channel_in (integer_of site tree)
