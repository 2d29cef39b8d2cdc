-- Phrases of which no law says yet what has to be known of them.
use Rattle.std.specs.Prelude.{Bool, false, not, List}
use Rattle.hal_grammar.specs.Leaves.{Naming}
use Rattle.hal_grammar.specs.Expressions.{Refers}
use Rattle.hal_phrases.specs.declared.role.Role.{Role}
use Rattle.hal_phrases.specs.declared.role.Role.TheVariants as role
use Rattle.hal_phrases.specs.Phrases.{Node, OfReference}
use Rattle.hal_scope.specs.Uses.{is_nil}

-- references with a path, but for operands of event expressions
abbrev pub is_left_reference : Role → List Naming → Bool
is_left_reference role.Event path = false
is_left_reference other path = not (is_nil path)

abbrev pub is_left_node : Node → Bool
is_left_node (OfReference r (Refers place name path subscript)) = is_left_reference r path
is_left_node other = false
