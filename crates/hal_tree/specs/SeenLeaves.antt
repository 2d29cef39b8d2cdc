-- Which leaf of the grammar each leaf of the program is.
use Rattle.hal_tree.specs.declared.leaf.Identifier.{Identifier}
use Rattle.hal_tree.specs.declared.leaf.Sign.{Sign}
use Rattle.hal_tree.specs.declared.leaf.Sign.TheVariants as sign
use Rattle.hal_tree.specs.declared.leaf.Relation.{Relation}
use Rattle.hal_tree.specs.declared.leaf.Relation.TheVariants as relation
use Rattle.hal_tree.specs.declared.leaf.Conversion.{Conversion}
use Rattle.hal_tree.specs.declared.leaf.Conversion.TheVariants as conversion
use Rattle.hal_tree.specs.declared.leaf.LiteralValue.{LiteralValue}
use Rattle.hal_tree.specs.declared.leaf.LiteralValue.TheVariants as literal
use Rattle.hal_grammar.specs.Leaves as plain

-- a name where it stands
abbrev pub seen_name : Identifier → plain.Naming
seen_name x = plain.naming x.place x.name

-- a sign
abbrev pub seen_sign : Sign → plain.Sign
seen_sign sign.Plus = plain.Plus
seen_sign sign.Minus = plain.Minus

-- a relation
abbrev pub seen_relation : Relation → plain.Relation
seen_relation relation.Equal = plain.Equal
seen_relation relation.Less = plain.Less
seen_relation relation.Greater = plain.Greater
seen_relation relation.AtMost = plain.AtMost
seen_relation relation.AtLeast = plain.AtLeast
seen_relation relation.NotEqual = plain.NotEqual
seen_relation relation.NotLess = plain.NotLess
seen_relation relation.NotGreater = plain.NotGreater

-- a conversion
abbrev pub seen_conversion : Conversion → plain.Conversion
seen_conversion conversion.Integer = plain.ToInteger
seen_conversion conversion.Bit = plain.ToBits
seen_conversion conversion.Character = plain.ToText

-- a literal
abbrev pub seen_literal : LiteralValue → plain.LiteralValue
seen_literal (literal.Integer n) = plain.Integer n
seen_literal (literal.Text text) = plain.Text text
seen_literal (literal.Bits len word) = plain.Bits len word
seen_literal literal.True = plain.True
seen_literal literal.False = plain.False
seen_literal literal.On = plain.On
seen_literal literal.Off = plain.Off
