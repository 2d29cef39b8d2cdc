-- The elements that a load's report names show, in their order.
use Rattle.std.specs.Prelude.{ℕ, ◌+◌, ◌*◌, ◌/◌, ◌%◌, ◌==◌, nat_le, nat_lt, zero, suc, Bool, true, false, ◌&&◌, List, [], ◌∷◌, ◌++◌, length, map, take, drop, take_while, codes, Option, Some, None, flat_map, if◌then◌else◌}
use Rattle.std.specs.Fmt.{decimal}
use Rattle.std.specs.List.{range_with_len}
use Rattle.hal_values.specs.declared.tables.ReportBase.{ReportBase}
use Rattle.hal_values.specs.declared.tables.ReportBase.TheVariants as base
use Rattle.hal_values.specs.declared.tables.ReportName.{ReportName}
use Rattle.hal_values.specs.declared.tables.Tables.{Tables}

-- an element that the report shows: what its line calls it, where it lies, and its number there
pub record Element : Type 0 where
  pub label : List ℕ
  pub base : ReportBase
  pub number : ℕ

-- how many elements an array of these dimensions has
abbrev pub size_of : List ℕ → ℕ
size_of [] = 1
size_of (dimension ∷ dimensions) = dimension * size_of dimensions

-- the places, counted from 1, of the element of this number, the last dimension being the fastest
abbrev pub places : List ℕ → ℕ → List ℕ
places [] number = []
places (dimension ∷ dimensions) number = (number / size_of dimensions + 1) ∷ places dimensions (number % size_of dimensions)

-- numbers with commas between
abbrev pub joined : List ℕ → List ℕ
joined [] = []
joined (n ∷ []) = decimal n
joined (n ∷ more ∷ others) = decimal n ++ (codes "," ++ joined (more ∷ others))

-- `$(copy;place,place)` with the parts that the element has
abbrev pub subscript : Option ℕ → List ℕ → List ℕ
subscript None [] = []
subscript None (place ∷ others) = codes "$(" ++ (joined (place ∷ others) ++ codes ")")
subscript (Some copy) at = codes "$(" ++ (decimal copy ++ (codes ";" ++ (joined at ++ codes ")")))

-- the copy, counted from 1
abbrev pub copy_number : Option ℕ → Option ℕ
copy_number None = None
copy_number (Some copy) = Some (copy + 1)

abbrev pub copy_place : Option ℕ → ℕ
copy_place None = 0
copy_place (Some copy) = copy

-- the element of a name at a copy, counted from 0 where there are copies, and at a number within it
abbrev pub element : ReportName → Option ℕ → ℕ → Element
element named copy number = record {
  label = named.name ++ subscript (copy_number copy) (places named.dimensions number);
  base = named.base;
  number = named.first + (copy_place copy * named.stride + number);
}

-- the elements of a name at a copy
abbrev pub copy_elements : Option ℕ → ReportName → List Element
copy_elements copy named = map (element named copy) (range_with_len 0 (size_of named.dimensions))

-- two bases are the same
abbrev pub same_base : ReportBase → ReportBase → Bool
same_base base.Shared base.Shared = true
same_base (base.Own p) (base.Own o) = p == o
same_base base.Event base.Event = true
same_base one other = false

-- the name is of the structure that begins with this one: it has its base, copies and stride, and lies in its first copy
abbrev pub is_of_structure : ReportName → ReportName → Bool
is_of_structure head named =
    (same_base head.base named.base && (head.copies == named.copies && head.stride == named.stride)) && (nat_le head.first named.first && nat_lt named.first (head.first + head.stride))

-- how many of the names that follow are of the structure
abbrev pub structure_rest : ReportName → List ReportName → ℕ
structure_rest head names = length (take_while (is_of_structure head) names)

-- the elements of a structure's names: copy by copy, and in a copy name by name
abbrev pub structure_elements : ℕ → List ReportName → List Element
structure_elements copies names = flat_map (λ copy. flat_map (copy_elements (Some copy)) names) (range_with_len 0 copies)

-- the elements that the names give, in their order; at most so many names stand there
abbrev pub elements_in : ℕ → List ReportName → List Element
elements_in zero names = []
elements_in (suc count) [] = []
elements_in (suc count) (named ∷ names) =
    if named.copies == 0 then copy_elements None named ++ elements_in count names
    else structure_elements named.copies (named ∷ take (structure_rest named names) names) ++ elements_in count (drop (structure_rest named names) names)

-- the elements that the report shows, in their order
abbrev pub elements : Tables → List Element
elements tables = elements_in (length tables.names) tables.names
