-- Which literal a literal of a tree is.
use Rattle.hal_tree.specs.declared.kept_literal.Kept.{Kept}
use Rattle.hal_tree.specs.declared.kept_literal.Kept.TheVariants as kept
use Rattle.hal_tree.specs.declared.leaf.LiteralValue.{LiteralValue}
use Rattle.hal_tree.specs.declared.leaf.LiteralValue.TheVariants as literal

abbrev pub told : Kept → LiteralValue
told (kept.Integer number) = literal.Integer number
told (kept.Text text) = literal.Text text
told (kept.Bits len word) = literal.Bits len word
told kept.True = literal.True
told kept.False = literal.False
told kept.On = literal.On
told kept.Off = literal.Off
