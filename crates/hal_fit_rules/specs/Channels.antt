-- Channels that are for the meaning what they are for the checks.
use Rattle.std.specs.Prelude.{◌≡◌, List}
use Rattle.hal_grammar.specs.Expressions.{Expression}
use Rattle.hal_phrases.specs.Phrases.{Phrase}
use Rattle.hal_values.specs.declared.value.Value.{Value}
use Rattle.hal_constants.specs.declared.constant.Constant.TheVariants as constant
use Rattle.hal_constants.specs.Constants.{constant_of}
use Rattle.hal_constants.specs.Known.{known}
use Rattle.hal_agreement.specs.Constants.{IsConstant}
use Rattle.hal_agreement.specs.Sites.{Site}

-- a channel in this phrase has operands of the right kinds, and where the checks know a value of it, that is its value
pub record ChannelAgrees (site : Site) (ps : List Phrase) (p : Phrase) (tree : Expression) : Type 0 where
  pub fit : constant_of ps (known ps) p tree ≡ constant.Unfit → ⊥
  pub constant : (v : Value) → constant_of ps (known ps) p tree ≡ constant.Worth v → IsConstant site tree v
