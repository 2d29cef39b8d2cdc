-- How sorts and the stack of them are seen as those of the definitions.
use Rattle.std.specs.Prelude.{◌≡◌, Bool, true, false, [], ◌∷◌, map, reverse, Option, Some, None}
use Rattle.hal_code.specs.Effects.{Sorts}
use Rattle.hal_code.specs.Sorts.{Sort, I, B, T, A, R}
use Rattle.hal_verify.specs.declared.sort.Sort.{Sort as SortThere}
use Rattle.hal_verify.specs.declared.sort.Sort.TheVariants as sort
use Rattle.hal_verify.specs.declared.stack.Stack.{Stack}

abbrev pub seen_sort : SortThere → Sort
seen_sort sort.Integer = I
seen_sort sort.Bits = B
seen_sort sort.Text = T
seen_sort (sort.Address kind) = A kind
seen_sort (sort.Area shape) = R shape

-- the top one first
abbrev pub seen_stack : Stack → Sorts
seen_stack stack = map seen_sort (reverse stack.sorts.items)

-- the top one was taken off, or there was none
abbrev pub IsPopped : Sorts → Option SortThere → Sorts → Type 0
IsPopped old None new = (old ≡ []) × (new ≡ [])
IsPopped old (Some one) new = old ≡ seen_sort one ∷ new

-- what is left, where the stack fits
abbrev pub left_where : Bool → Sorts → Option Sorts
left_where true stack = Some stack
left_where false stack = None
