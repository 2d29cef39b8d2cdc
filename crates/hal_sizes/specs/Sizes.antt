-- The sizes of data: the dimensions of an array and the copies of a structure, where constants tell them.
use Rattle.std.specs.Prelude.{ℕ, nat_le, max, List, Option, Some, None, if◌then◌else◌}
use Rattle.hal_grammar.specs.Expressions.{Expression, Expressions, NoExpressions, MoreExpressions}
use Rattle.hal_grammar.specs.Declarations.{Kind, StructureKind}
use Rattle.hal_phrases.specs.Phrases.{Phrase}
use Rattle.hal_kinds.specs.Attributes.{count_of}
use Rattle.hal_constants.specs.Constants.{constant_of}
use Rattle.hal_constants.specs.Known.{Known, size_of}
use Rattle.hal_sizes.specs.declared.extent.Extent.{Extent}
use Rattle.hal_sizes.specs.Counts.{times}

-- the sizes of three dimensions, 0 where there is none
abbrev pub extent : ℕ → ℕ → ℕ → Extent
extent a b c = record { first = a; second = b; third = c }

-- the size of a dimension, or the number of copies, that an expression in a phrase gives
abbrev pub size_in : List Phrase → Known → Phrase → Expression → Option ℕ
size_in ps vs p tree = size_of 32767 (constant_of ps vs p tree)

-- the size of the first dimension, 0 where there is none
unfoldable pub first_size : List Phrase → Known → Phrase → Expressions → Option ℕ
first_size ps vs p NoExpressions = Some 0
first_size ps vs p (MoreExpressions first others) = size_in ps vs p first

-- the sizes of the dimensions behind the first one
unfoldable pub behind : Expressions → Expressions
behind NoExpressions = NoExpressions
behind (MoreExpressions first others) = others

-- three sizes that are known
unfoldable pub known_extent : Option ℕ → Option ℕ → Option ℕ → Option Extent
known_extent (Some a) (Some b) (Some c) = Some (extent a b c)
known_extent a b c = None

-- up to three sizes
abbrev pub extent_by : List Phrase → Known → Phrase → Expressions → Option Extent
extent_by ps vs p sizes =
    if nat_le (count_of sizes) 3 then known_extent (first_size ps vs p sizes) (first_size ps vs p (behind sizes)) (first_size ps vs p (behind (behind sizes))) else None

-- the dimensions of what is declared with these sizes, or with none, where they are known
unfoldable pub extent_of : List Phrase → Known → Phrase → Option Expressions → Option Extent
extent_of ps vs p None = Some (extent 0 0 0)
extent_of ps vs p (Some sizes) = extent_by ps vs p sizes

-- how many places an array has; without dimensions there is one
abbrev pub places_in : Extent → ℕ
places_in e = times (max 1 e.first) (times (max 1 e.second) (max 1 e.third))

-- how many copies there are, 0 where data have none
unfoldable pub copies_by : List Phrase → Known → Phrase → Option Expression → Option ℕ
copies_by ps vs p None = Some 0
copies_by ps vs p (Some tree) = size_in ps vs p tree

unfoldable pub copies_in : List Phrase → Known → Phrase → Kind → Option ℕ
copies_in ps vs p (StructureKind place template copies) = copies_by ps vs p copies
copies_in ps vs p other = Some 0

-- the same of what is declared with this type
unfoldable pub copies_of : List Phrase → Known → Phrase → Option Kind → Option ℕ
copies_of ps vs p None = Some 0
copies_of ps vs p (Some kind) = copies_in ps vs p kind
