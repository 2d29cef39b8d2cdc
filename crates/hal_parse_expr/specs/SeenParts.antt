-- The three parts of a list of subscripts, as the reader gives them.
use Rattle.std.specs.Prelude.{map}
use Rattle.hal_tree.specs.SeenExpressions.{seen_sub}
use Rattle.hal_parse_expr.specs.ReadingExpressions.{Parts, subscripts}
use Rattle.hal_parse_expr.specs.declared.subscripts.Parts as rust

-- the parts that the code has read
unfoldable pub seen_parts : rust.Parts → Parts
seen_parts parts = (subscripts (map seen_sub parts.copies.items), subscripts (map seen_sub parts.arrays.items), subscripts (map seen_sub parts.components.items))
