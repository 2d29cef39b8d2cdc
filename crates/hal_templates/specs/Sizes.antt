-- Whether arrays have the same dimensions, and structures the same copies.
use Rattle.std.specs.Prelude.{ℕ, Bool, true, false, ◌&&◌, List, Option, Some, None}
use Rattle.hal_grammar.specs.Expressions.{Expression, Expressions, NoExpressions, MoreExpressions}
use Rattle.hal_grammar.specs.Declarations.{Kind, StructureKind, Attribute}
use Rattle.hal_phrases.specs.Phrases.{Phrase}
use Rattle.hal_constants.specs.Constants.{constant_of}
use Rattle.hal_constants.specs.Known.{Known, size_of}
use Rattle.hal_templates.specs.Alike.{may_be_number}
use Rattle.hal_templates.specs.Traits.{sizes_given, type_given}

-- the size that an expression in a phrase gives
abbrev pub size_in : List Phrase → Known → Phrase → Expression → Option ℕ
size_in ps vs p tree = size_of 32767 (constant_of ps vs p tree)

-- the sizes of two expressions, as far as they are known
abbrev pub same_size : List Phrase → Known → Phrase → Expression → Phrase → Expression → Bool
same_size ps vs p x q y = may_be_number (size_in ps vs p x) (size_in ps vs q y)

-- dimension by dimension
unfoldable pub same_sizes : List Phrase → Known → Phrase → Expressions → Phrase → Expressions → Bool
same_sizes ps vs p NoExpressions q NoExpressions = true
same_sizes ps vs p (MoreExpressions x xs) q (MoreExpressions y ys) = same_size ps vs p x q y && same_sizes ps vs p xs q ys
same_sizes ps vs p xs q ys = false

-- two arrays, or none
unfoldable pub same_dimensions : List Phrase → Known → Phrase → Option Expressions → Phrase → Option Expressions → Bool
same_dimensions ps vs p (Some xs) q (Some ys) = same_sizes ps vs p xs q ys
same_dimensions ps vs p None q None = true
same_dimensions ps vs p xs q ys = false

-- the copies that a type gives
unfoldable pub copies_in : Option Kind → Option Expression
copies_in (Some (StructureKind place template copies)) = copies
copies_in other = None

-- two numbers of copies, or none
unfoldable pub same_copies : List Phrase → Known → Phrase → Option Expression → Phrase → Option Expression → Bool
same_copies ps vs p (Some x) q (Some y) = same_size ps vs p x q y
same_copies ps vs p None q None = true
same_copies ps vs p x q y = false

-- dimensions and copies of what two phrases declare, with these attributes
abbrev pub same_shape : List Phrase → Known → Phrase → List Attribute → List Attribute → Phrase → List Attribute → List Attribute → Bool
same_shape ps vs p common own q other_common other_own =
    same_dimensions ps vs p (sizes_given common own) q (sizes_given other_common other_own)
    && same_copies ps vs p (copies_in (type_given common own)) q (copies_in (type_given other_common other_own))
