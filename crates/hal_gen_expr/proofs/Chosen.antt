-- The one element to which names lead, as the program finds it.
use Rattle.std.specs.Prelude.{ℕ, ◌+◌, min, Bool, true, false, ◌&&◌, List, [], ◌∷◌, Option, Some, None, if◌then◌else◌}
use Rattle.std.proofs.Common.{◌≡◌, refl, sym, ap, ◌∙◌, arith}
use Rattle.std.proofs.lemmas.List.Sums.{sum_by-cons}
use Rattle.hal_grammar.specs.Leaves.{Naming}
use Rattle.hal_meaning.specs.Elements.{Component, count, copy_size, leads, before, chosen, offset}
use Rattle.hal_meaning.specs.Variables.{kind_of_first}
use Rattle.hal_values.specs.declared.value.Kind.TheVariants as kind
use Rattle.hal_gen_expr.specs.declared.elements.Element.{Element}
use Rattle.hal_gen_expr.specs.Elements.{counted, an_element, element_in, first_in, leads_to_none, sole, element_from, first_from}
use Rattle.hal_gen_expr.specs.Leaves.{is_nil, is_one}

-- names lead to none where none is chosen
none_by : (b c : Bool) (one : Component) (others : List Component) → c ≡ is_nil others → (if b then false else c) ≡ is_nil (if b then one ∷ others else others)
none_by true c one others same = refl
none_by false c one others same = same

none_chosen : (path : List Naming) (cs : List Component) → leads_to_none path cs ≡ is_nil (chosen path cs)
unfolding leads_to_none
none_chosen path [] = refl
none_chosen path (c ∷ cs) = none_by (leads path c.path) (leads_to_none path cs) c (chosen path cs) (none_chosen path cs)

-- as the definition has it, behind so many elements
abbrev behind : ℕ → List Naming → List Component → Option Element
behind n path cs = if is_one (chosen path cs) then Some (an_element (min (n + offset path cs) counted) (kind_of_first (chosen path cs))) else None

one_of : (others : List Component) (c : Component) → is_one (c ∷ others) ≡ (is_nil others && is_nil c.sizes)
one_of [] c = refl
one_of (d ∷ others) c = refl

no_more : (n : ℕ) → n ≡ n + copy_size []
no_more n = omega arith

further : (n c : ℕ) → min (min n counted + min c counted) counted ≡ min (n + c) counted
further n c = omega arith

further_on : (n c rest : ℕ) → (n + c) + rest ≡ n + (c + rest)
further_on n c rest = omega arith

step : (b : Bool) (path : List Naming) (n : ℕ) (c : Component) (cs : List Component) → ((m : ℕ) → element_from path (min m counted) cs ≡ behind m path cs)
    → (if b then sole path (min n counted) c cs else element_from path (min (min n counted + min (count c) counted) counted) cs)
    ≡ (if is_one (if b then c ∷ chosen path cs else chosen path cs) then Some (an_element (min (n + copy_size (if b then [] else c ∷ before path cs)) counted) (kind_of_first (if b then c ∷ chosen path cs else chosen path cs))) else None)
step true path n c cs others =
    ap (λ (one : Bool). if one then Some (an_element (min n counted) c.kind) else None) (ap (λ none. none && is_nil c.sizes) (none_chosen path cs) ∙ sym (one_of (chosen path cs) c))
    ∙ ap (λ m. if is_one (c ∷ chosen path cs) then Some (an_element (min m counted) c.kind) else None) (no_more n)
step false path n c cs others =
    ap (λ m. element_from path m cs) (further n (count c)) ∙ others (n + count c)
    ∙ ap (λ m. if is_one (chosen path cs) then Some (an_element (min m counted) (kind_of_first (chosen path cs))) else None)
    (further_on n (count c) (copy_size (before path cs)) ∙ ap (λ m. n + m) (sym (sum_by-cons count c (before path cs))))

chosen_from : (path : List Naming) (cs : List Component) (n : ℕ) → element_from path (min n counted) cs ≡ behind n path cs
unfolding element_from
chosen_from path [] n = refl
chosen_from path (c ∷ cs) n = step (leads path c.path) path n c cs (λ m. chosen_from path cs m)

zero_least : 0 ≡ min 0 counted
zero_least = omega arith

nothing_before : (n : ℕ) → 0 + n ≡ n
nothing_before n = omega arith

pub element_chosen : (path : List Naming) (cs : List Component) → element_from path 0 cs ≡ element_in path cs
element_chosen path cs =
    ap (λ m. element_from path m cs) zero_least ∙ chosen_from path cs 0
    ∙ ap (λ m. if is_one (chosen path cs) then Some (an_element (min m counted) (kind_of_first (chosen path cs))) else None) (nothing_before (offset path cs))

-- the same of the first one, which is one of several where there are dimensions
abbrev first_behind : ℕ → List Naming → List Component → Element
first_behind n path cs = an_element (min (n + offset path cs) counted) (kind_of_first (chosen path cs))

first_step : (b : Bool) (path : List Naming) (n : ℕ) (c : Component) (cs : List Component) → ((m : ℕ) → first_from path (min m counted) cs ≡ first_behind m path cs)
    → (if b then an_element (min n counted) c.kind else first_from path (min (min n counted + min (count c) counted) counted) cs)
    ≡ an_element (min (n + copy_size (if b then [] else c ∷ before path cs)) counted) (kind_of_first (if b then c ∷ chosen path cs else chosen path cs))
first_step true path n c cs others = ap (λ m. an_element (min m counted) c.kind) (no_more n)
first_step false path n c cs others =
    ap (λ m. first_from path m cs) (further n (count c)) ∙ others (n + count c)
    ∙ ap (λ m. an_element (min m counted) (kind_of_first (chosen path cs))) (further_on n (count c) (copy_size (before path cs)) ∙ ap (λ m. n + m) (sym (sum_by-cons count c (before path cs))))

first_chosen_from : (path : List Naming) (cs : List Component) (n : ℕ) → first_from path (min n counted) cs ≡ first_behind n path cs
unfolding first_from
first_chosen_from path [] n = ap (λ m. an_element (min m counted) kind.Double) (no_more n)
first_chosen_from path (c ∷ cs) n = first_step (leads path c.path) path n c cs (λ m. first_chosen_from path cs m)

pub first_chosen : (path : List Naming) (cs : List Component) → first_from path 0 cs ≡ first_in path cs
first_chosen path cs =
    ap (λ m. first_from path m cs) zero_least ∙ first_chosen_from path cs 0 ∙ ap (λ m. an_element (min m counted) (kind_of_first (chosen path cs))) (nothing_before (offset path cs))
