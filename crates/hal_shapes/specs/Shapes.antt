-- Whether an argument has the kind and the shape of a parameter. Where something isn't known another rule is broken, and the argument fits.
use Rattle.std.specs.Prelude.{ℕ, nat_lt, ◌==◌, Bool, true, false, ◌&&◌, ◌||◌, not, List, [], ◌∷◌, Option, Some, None, slice_get, if◌then◌else◌}
use Rattle.std.specs.Option.{option_and_then}
use Rattle.hal_grammar.specs.Leaves.{Naming}
use Rattle.hal_grammar.specs.Expressions.{Expression, Expressions, Reference, Refers, Subscript}
use Rattle.hal_grammar.specs.Declarations.{Kind, StructureKind, Attribute, Declared, Part}
use Rattle.hal_phrases.specs.Phrases.{Node, Phrase, OfItem}
use Rattle.hal_names.specs.Means.{means}
use Rattle.hal_scope.specs.Sorts.{type_of}
use Rattle.hal_scope.specs.Uses.{is_nil}
use Rattle.hal_kinds.specs.declared.class.Class.{Class}
use Rattle.hal_kinds.specs.declared.class.Class.TheVariants as class
use Rattle.hal_kinds.specs.Attributes.{sizes_of}
use Rattle.hal_kinds.specs.Classes.{class_of, class_of_reference}
use Rattle.hal_kinds.specs.Data.{class_of_type}
use Rattle.hal_operands.specs.Taken.{takes}
use Rattle.hal_values.specs.declared.value.Kind as values
use Rattle.hal_values.specs.declared.value.Kind.TheVariants as value
use Rattle.hal_constants.specs.Known.{Known, kind_of_item}
use Rattle.hal_sizes.specs.declared.extent.Extent.{Extent}
use Rattle.hal_sizes.specs.Sizes.{copies_of, extent_of}
use Rattle.hal_sizes.specs.Cells.{cells_of_parts}
use Rattle.hal_sizes.specs.Parts.{bottoms, extent_of_part, kind_of_part, parts_of}
use Rattle.hal_shapes.specs.Spans.{array_subs, same_extent, selects}
use Rattle.hal_shapes.specs.Selections.{copies_chosen, declared_for, extent_at, kind_at, part_reached, structure_of}

-- whether two kinds are the same, as far as both are known
unfoldable pub same_kind : values.Kind → values.Kind → Bool
same_kind value.Single value.Single = true
same_kind value.Double value.Double = true
same_kind (value.Bits m) (value.Bits n) = m == n
same_kind (value.Text m) (value.Text n) = m == n
same_kind k l = false

unfoldable pub may_equal : Option values.Kind → Option values.Kind → Bool
may_equal (Some k) (Some l) = same_kind k l
may_equal k l = true

-- whether two arrays have the same dimensions, as far as they are known
unfoldable pub may_match : Option Extent → Option Extent → Bool
may_match (Some e) (Some f) = same_extent e f
may_match e f = true

-- whether two bottom parts, of two structure templates, have the same kind and dimensions
abbrev pub same_part : List Phrase → Known → Phrase → Part → Phrase → Part → Bool
same_part ps vs q x r y = may_equal (kind_of_part ps vs q x) (kind_of_part ps vs r y) && may_match (extent_of_part ps vs q x) (extent_of_part ps vs r y)

-- whether bottom parts of two structure templates are the same in order, names aside
unfoldable pub same_parts : List Phrase → Known → Phrase → List Part → Phrase → List Part → Bool
same_parts ps vs q [] r [] = true
same_parts ps vs q (x ∷ xs) r (y ∷ ys) = same_part ps vs q x r y && same_parts ps vs q xs r ys
same_parts ps vs q xs r ys = false

-- whether so many copies, as far as known, are the same
unfoldable pub may_count : Option ℕ → Option ℕ → Bool
may_count (Some m) (Some n) = m == n
may_count m n = true

-- whether no copy is left beside another one
unfoldable pub is_lone : Option ℕ → Bool
is_lone (Some n) = n == 0
is_lone None = true

-- whether a choice from an array has these dimensions
unfoldable pub chooses : List Phrase → Known → Phrase → Option Extent → Option Extent → Subscript → Bool
chooses ps vs p (Some wanted) (Some e) subscript = selects ps vs p wanted e (array_subs subscript)
chooses ps vs p wanted e subscript = true

-- whether a reference is an array of this kind and these dimensions
unfoldable pub fits_array : List Phrase → Known → Phrase → Option values.Kind → Option Extent → Reference → Bool
fits_array ps vs p kind wanted (Refers place name path subscript) =
    elim (declared_for ps p name) [
      | None ↦ true
      | Some s ↦ is_lone (copies_chosen ps vs p subscript s)
          && (may_equal (kind_at ps vs s path s.node) kind && chooses ps vs p wanted (extent_at ps vs s path s.node) subscript)
    ]

-- parts that belong to a part of some level, behind which they stand
abbrev pub Under : Type 0
Under = ℕ × List Part

-- whether the parts of two structure templates are the same
unfoldable pub same_structures : List Phrase → Known → Phrase → Option Under → Phrase → Option Under → Bool
same_structures ps vs q (Some xs) r (Some ys) = same_parts ps vs q (bottoms xs.0 xs.1) r (bottoms ys.0 ys.1)
same_structures ps vs q xs r ys = true

-- all parts of a structure template
abbrev pub all_parts : Phrase → Option Under
all_parts q = option_and_then (λ (parts : List Part). Some (0, parts)) (parts_of q.node)

-- the parts at the end of a path in a structure template
abbrev pub parts_reached : Phrase → List Naming → Option Under
parts_reached q path = if is_nil path then all_parts q else option_and_then (λ (f : Part × List Part). Some (f.0.level, f.1)) (part_reached q path)

-- their cells
abbrev pub cells_under : List Phrase → Known → Phrase → Option Under → Option ℕ
cells_under ps vs q under = option_and_then (λ (u : Under). cells_of_parts ps vs q u.0 u.1) under

-- whether the parts at the end of a path hold all cells of a copy
abbrev pub fills : List Phrase → Known → Phrase → List Naming → Bool
fills ps vs q path =
    may_count (cells_under ps vs q (parts_reached q path)) (cells_under ps vs q (all_parts q))

-- whether no more than one copy is left
unfoldable pub is_one_copy : Option ℕ → Bool
is_one_copy (Some n) = not (nat_lt 1 n)
is_one_copy None = true

-- whether what is chosen of a structure has the parts and the copies of another one, and cells that follow each other
abbrev pub matches : List Phrase → Known → Phrase → Option ℕ → List Naming → Phrase → Option ℕ → Bool
matches ps vs q copies path r wanted =
    may_count copies wanted && (same_structures ps vs q (parts_reached q path) r (all_parts r) && (is_one_copy copies || fills ps vs q path))

-- the same where both structure templates are known
unfoldable pub matches_any : List Phrase → Known → Option Phrase → Option ℕ → List Naming → Option Phrase → Option ℕ → Bool
matches_any ps vs (Some q) copies path (Some r) wanted = matches ps vs q copies path r wanted
matches_any ps vs q copies path r wanted = true

-- the structure template of what a phrase declares
unfoldable pub structure_at : List Phrase → Phrase → Node → Option Phrase
structure_at ps s (OfItem common item) = structure_of ps s.around.block (type_of common item)
structure_at ps s other = None

-- whether a reference is a structure with the parts of a template and so many copies
unfoldable pub fits_structure : List Phrase → Known → Phrase → Option Phrase → Option ℕ → Reference → Bool
fits_structure ps vs p template wanted (Refers place name path subscript) =
    elim (declared_for ps p name) [ None ↦ true | Some s ↦ matches_any ps vs (structure_at ps s s.node) (copies_chosen ps vs p subscript s) path template wanted ]

-- whether one value of a class is taken by a parameter of another one
unfoldable pub fits_single : Class → Option Class → Bool
fits_single wanted (Some class.Structure) = false
fits_single wanted (Some class.Array) = false
fits_single wanted c = takes (Some wanted) c

-- whether an expression that isn't known, or is a condition, breaks another rule
unfoldable pub is_excused : Option Class → Bool
is_excused None = true
is_excused (Some class.Condition) = true
is_excused other = false

unfoldable pub is_whole_array : Option Class → Bool
is_whole_array (Some class.Array) = true
is_whole_array other = false

unfoldable pub is_whole_structure : Option Class → Bool
is_whole_structure (Some class.Structure) = true
is_whole_structure other = false

-- an argument of a parameter that is an array of a kind and dimensions
unfoldable pub array_argument : List Phrase → Known → Phrase → Option values.Kind → Option Extent → Option Reference → Bool
array_argument ps vs p kind wanted None = false
array_argument ps vs p kind wanted (Some reference) = fits_array ps vs p kind wanted reference

-- an argument of a parameter that is a structure
unfoldable pub structure_argument : List Phrase → Known → Phrase → Option Phrase → Option ℕ → Option Reference → Bool
structure_argument ps vs p template wanted None = false
structure_argument ps vs p template wanted (Some reference) = fits_structure ps vs p template wanted reference
