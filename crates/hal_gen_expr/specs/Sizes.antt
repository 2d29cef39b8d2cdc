-- What SIZE comes to.
use Rattle.std.specs.Prelude.{ℕ, List}
use Rattle.hal_grammar.specs.Leaves.{Naming}
use Rattle.hal_grammar.specs.Expressions.{Expression, Referred, Expressions, MoreExpressions, Reference, Refers}
use Rattle.hal_meaning.specs.Expressions.{size_of, sizes_reached}
use Rattle.hal_agreement.specs.Sites.{Site}
use Rattle.hal_storage.specs.referents.Referents.{Referent, DataOf}
use Rattle.hal_gen_expr.specs.Referents.{referent}

-- SIZE of the data to which names lead; of all else it is 0, as no set has it
abbrev pub size_referred : List Naming → Referent → ℕ
size_referred path (DataOf k kept shape) = size_of shape (sizes_reached path shape.components)
size_referred path other = 0

abbrev pub size_of_reference : Site → Reference → ℕ
size_of_reference site (Refers place name path subscript) = size_referred path (referent site name)

abbrev pub size_of_argument : Site → Expression → ℕ
size_of_argument site (Referred reference) = size_of_reference site reference
size_of_argument site other = 0

abbrev pub size_of_arguments : Site → Expressions → ℕ
size_of_arguments site (MoreExpressions first others) = size_of_argument site first
size_of_arguments site other = 0
