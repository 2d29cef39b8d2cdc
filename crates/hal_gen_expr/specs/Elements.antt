-- The one element to which names lead.
use Rattle.std.specs.Prelude.{ℕ, ◌+◌, min, Bool, true, false, ◌&&◌, List, [], ◌∷◌, Option, Some, None, if◌then◌else◌}
use Rattle.hal_grammar.specs.Leaves.{Naming}
use Rattle.hal_meaning.specs.Elements.{Component, count, leads, chosen, offset}
use Rattle.hal_meaning.specs.Variables.{kind_of_first}
use Rattle.hal_gen_expr.specs.declared.elements.Element.{Element}
use Rattle.hal_gen_expr.specs.Leaves.{is_nil, is_one}
use Rattle.hal_values.specs.declared.value.Kind.{Kind}
use Rattle.hal_values.specs.declared.value.Kind.TheVariants as kind

-- the most elements that are counted
abbrev pub counted : ℕ
counted = 4294967295

abbrev pub an_element : ℕ → Kind → Element
an_element before kind = record { before = before; kind = kind }

-- the element to which names lead, where it is one
abbrev pub element_in : List Naming → List Component → Option Element
element_in path cs = if is_one (chosen path cs) then Some (an_element (min (offset path cs) counted) (kind_of_first (chosen path cs))) else None

-- the first element to which names lead; behind all where they lead to none
abbrev pub first_in : List Naming → List Component → Element
first_in path cs = an_element (min (offset path cs) counted) (kind_of_first (chosen path cs))

-- whether these names lead to none of the components
unfoldable pub leads_to_none : List Naming → List Component → Bool
leads_to_none path [] = true
leads_to_none path (c ∷ cs) = if leads path c.path then false else leads_to_none path cs

-- a component before which so many elements lie, where names lead to no other and it has no dimensions
abbrev pub sole : List Naming → ℕ → Component → List Component → Option Element
sole path before c cs = if leads_to_none path cs && is_nil c.sizes then Some (an_element before c.kind) else None

-- the element among components before which so many elements lie
unfoldable pub element_from : List Naming → ℕ → List Component → Option Element
element_from path before [] = None
element_from path before (c ∷ cs) = if leads path c.path then sole path before c cs else element_from path (min (before + min (count c) counted) counted) cs

-- the same among components before which so many elements lie
unfoldable pub first_from : List Naming → ℕ → List Component → Element
first_from path before [] = an_element before kind.Double
first_from path before (c ∷ cs) = if leads path c.path then an_element before c.kind else first_from path (min (before + min (count c) counted) counted) cs
