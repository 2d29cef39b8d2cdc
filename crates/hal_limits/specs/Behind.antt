-- The components to which names lead.
use Rattle.std.specs.Prelude.{ℕ, Bool, true, false, List, [], ◌∷◌, Option, Some, None, if◌then◌else◌}
use Rattle.hal_values.specs.declared.value.Kind.TheVariants as kind
use Rattle.hal_meaning.specs.Elements.{Component, Shape, count}
use Rattle.hal_views.specs.Views.{Choice, all_reached, is_behind}

-- whether none of the components lies behind these names
unfoldable pub is_none_behind : List (List ℕ) → List Component → Bool
is_none_behind names [] = true
is_none_behind names (c ∷ cs) = if is_behind names c.path then false else is_none_behind names cs

-- a component, where none of the others lies behind these names
abbrev pub alone : List (List ℕ) → Component → List Component → Option Component
alone names c cs = if is_none_behind names cs then Some c else None

-- the one component that lies behind these names, where it is one
unfoldable pub sole_behind : List (List ℕ) → List Component → Option Component
sole_behind names [] = None
sole_behind names (c ∷ cs) = if is_behind names c.path then alone names c cs else sole_behind names cs

-- the sizes of its dimensions; several have none together
abbrev pub sizes_behind : List (List ℕ) → List Component → List ℕ
sizes_behind names cs = elim (sole_behind names cs) [ None ↦ [] | Some c ↦ c.sizes ]

-- how many elements of a component lie behind these names
abbrev pub count_behind : List (List ℕ) → Component → ℕ
count_behind names c = if is_behind names c.path then count c else 0

-- how many elements are reached: of one component by what is chosen of it, of others all of these
abbrev pub elements_by : Option Component → ℕ → List Choice → ℕ
elements_by None size places = size
elements_by (Some c) size places = all_reached c.sizes places

-- the shape of one integer
abbrev pub one_integer : Shape
one_integer = record { copies = None; components = record { path = []; kind = kind.Double; sizes = [] } ∷ [] }
