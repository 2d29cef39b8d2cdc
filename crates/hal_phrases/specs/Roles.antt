-- What an expression is for.
use Rattle.hal_grammar.specs.Leaves as plain
use Rattle.hal_phrases.specs.declared.role.Role.{Role}
use Rattle.hal_phrases.specs.declared.role.Role.TheVariants as role

-- the role of what stands under AND, OR, NOT or in parentheses, whose own role would be this: an event expression goes on below them
abbrev pub under : Role → Role → Role
under role.Event own = role.Event
under role.EventOrTime own = role.EventOrTime
under other own = own

-- the role of the operand of a conversion
abbrev pub of_conversion : plain.Conversion → Role
of_conversion plain.ToInteger = role.ToInteger
of_conversion plain.ToBits = role.ToBits
of_conversion plain.ToText = role.ToText
