-- The elements of data in the order of storage: copy by copy, in a copy component by component, in a component by array place.
use Rattle.std.specs.Prelude.{ℕ, zero, suc, ◌*◌, nat_lt, Bool, true, false, ◌&&◌, ◌++◌, map, List, [], ◌∷◌, Option, Some, None, slice_get, bytes_eq, replicate, flat_map, sum_by, filter, unwrap_or, if◌then◌else◌}
use Rattle.std.specs.Option.{option_and_then, option_map}
use Rattle.hal_grammar.specs.Leaves.{Naming}
use Rattle.hal_grammar.specs.Expressions.{Expression, Expressions, NoExpressions, MoreExpressions}
use Rattle.hal_grammar.specs.Declarations.{Double, StructureKind, Attribute, Declared, Part}
use Rattle.hal_grammar.specs.Declarations as declarations
use Rattle.hal_phrases.specs.Phrases.{Node, Phrase, OfStructure}
use Rattle.hal_phrases.specs.GatheredDeclarations.{is_bottom}
use Rattle.hal_names.specs.Means.{means}
use Rattle.hal_scope.specs.Sorts.{type_among}
use Rattle.hal_kinds.specs.Attributes.{sizes_among, has_mark}
use Rattle.hal_values.specs.declared.value.Kind.{Kind}
use Rattle.hal_values.specs.declared.value.Kind.TheVariants as kind
use Rattle.hal_constants.specs.Constants.{constant_of}
use Rattle.hal_constants.specs.Known.{Known, size_of, kind_of_type}

-- a component that has no parts: the names of the parts that lead to it, the outermost first, its kind, and the sizes of its dimensions. Of data that
-- are no structure it is the one component, to which no name leads
pub record Component : Type 0 where
  pub path : List (List ℕ)
  pub kind : Kind
  pub sizes : List ℕ

-- how many copies data have, where they have copies, and the components of one copy
pub record Shape : Type 0 where
  pub copies : Option ℕ
  pub components : List Component

-- the product of sizes
abbrev pub product : List ℕ → ℕ
product [] = 1
product (n ∷ ns) = n * product ns

-- how many elements a component has in one copy
abbrev pub count : Component → ℕ
count c = product c.sizes

-- how many elements one copy has
abbrev pub copy_size : List Component → ℕ
copy_size components = sum_by count components

-- lists one after another, so many times
abbrev pub times : {X : Type 0} → ℕ → List X → List X
times zero xs = []
times (suc n) xs = xs ++ times n xs

-- the kinds of a component's elements
abbrev pub kinds_of_component : Component → List Kind
kinds_of_component c = replicate (count c) c.kind

-- the kinds of all elements, in order
abbrev pub kinds_of : Shape → List Kind
kinds_of shape = times (unwrap_or shape.copies 1) (flat_map kinds_of_component shape.components)

-- a size that a constant expression gives
abbrev pub size_given : List Phrase → Known → Phrase → Expression → ℕ
size_given ps vs p size = unwrap_or (size_of 32767 (constant_of ps vs p size)) 1

-- the sizes that a list gives
abbrev pub all_sizes : List Phrase → Known → Phrase → Expressions → List ℕ
all_sizes ps vs p NoExpressions = []
all_sizes ps vs p (MoreExpressions first others) = size_given ps vs p first ∷ all_sizes ps vs p others

-- the same of a list that may be there
abbrev pub sizes_given : List Phrase → Known → Phrase → Option Expressions → List ℕ
sizes_given ps vs p None = []
sizes_given ps vs p (Some sizes) = all_sizes ps vs p sizes

-- the component to which these names lead, of these attributes
abbrev pub component : List Phrase → Known → Phrase → List (List ℕ) → List Attribute → Component
component ps vs p path attributes = record {
  path = path;
  kind = unwrap_or (kind_of_type ps vs p (has_mark Double attributes) (type_among attributes)) kind.Single;
  sizes = sizes_given ps vs p (sizes_among attributes);
}

-- a part that has parts of its own: its level and its name
abbrev pub Above : Type 0
Above = ℕ × List ℕ

-- those of a lower level than this one
abbrev pub lower : ℕ → List Above → List Above
lower level above = filter (λ (one : Above). nat_lt one.0 level) above

-- the names that lead to a part behind these
abbrev pub path_to : List Above → Part → List (List ℕ)
path_to above part = map (λ (one : Above). one.1) above ++ (part.name.name ∷ [])

-- the components that parts are, behind parts that may have them
abbrev pub components_from : List Phrase → Known → Phrase → List Above → List Part → List Component
components_from ps vs p above [] = []
components_from ps vs p above (part ∷ parts) =
    if is_bottom part.level parts
    then component ps vs p (path_to (lower part.level above) part) part.attributes ∷ components_from ps vs p (lower part.level above) parts
    else components_from ps vs p (lower part.level above ++ ((part.level, part.name.name) ∷ [])) parts

-- the components of the structure that a phrase declares
abbrev pub components_at : List Phrase → Known → Phrase → Node → List Component
components_at ps vs p (OfStructure name parts) = components_from ps vs p [] parts
components_at ps vs p other = []

-- the components of the structure that this name means in a block
abbrev pub components_named : List Phrase → Known → ℕ → List ℕ → List Component
components_named ps vs block template =
    elim (option_and_then (slice_get ps) (means ps block template)) [ None ↦ [] | Some p ↦ components_at ps vs p p.node ]

-- the shape of data of this type and these attributes that a phrase declares
abbrev pub shape_of_type : List Phrase → Known → Phrase → List Attribute → Option declarations.Kind → Shape
shape_of_type ps vs p attributes (Some (StructureKind place template copies)) =
    record { copies = option_map (size_given ps vs p) copies; components = components_named ps vs p.around.block template }
shape_of_type ps vs p attributes other = record { copies = None; components = component ps vs p [] attributes ∷ [] }

-- the shape of what is declared with the attributes before the comma
abbrev pub shape_of : List Phrase → Known → Phrase → List Attribute → Declared → Shape
shape_of ps vs p common item = shape_of_type ps vs p (item.attributes ++ common) (type_among (item.attributes ++ common))

-- whether these names are the first of those
abbrev pub leads : List Naming → List (List ℕ) → Bool
leads [] path = true
leads (n ∷ ns) [] = false
leads (n ∷ ns) (name ∷ names) = bytes_eq n.name name && leads ns names

-- whether these names are all of those
abbrev pub are_all : List Naming → List (List ℕ) → Bool
are_all [] [] = true
are_all [] (name ∷ names) = false
are_all (n ∷ ns) [] = false
are_all (n ∷ ns) (name ∷ names) = bytes_eq n.name name && are_all ns names

-- the components that lie before those to which these names lead
abbrev pub before : List Naming → List Component → List Component
before names [] = []
before names (c ∷ cs) = if leads names c.path then [] else c ∷ before names cs

-- the components to which these names lead
abbrev pub chosen : List Naming → List Component → List Component
chosen names components = filter (λ (c : Component). leads names c.path) components

-- the component that these names name in full; of a structure, and of a part that has parts, there is none
abbrev pub reached : List Naming → List Component → List Component
reached names components = filter (λ (c : Component). are_all names c.path) components

-- how many elements of a copy lie before them
abbrev pub offset : List Naming → List Component → ℕ
offset names components = copy_size (before names components)
