-- Numbers that are counted up to a limit, and the limit of numbers.
use Rattle.std.specs.Prelude.{ℕ, ◌+◌, min, not, Bool, true, false, ◌&&◌, List, [], Option, Some, None, if◌then◌else◌}
use Rattle.std.specs.Option.{option_map, option_and_then, is_some}
use Rattle.std.proofs.Common.{◌≡◌, ◌<◌, ◌≤◌, refl, sym, ap, ◌∙◌, arith, ⊎_elim, le-ltb}
use Rattle.std.proofs.lemmas.Bool.{cases_lt}
use Rattle.hal_values.specs.declared.value.Kind.{Kind}
use Rattle.hal_grammar.specs.Leaves.{Naming}
use Rattle.hal_code.specs.declared.instr.Instr.{Instr}
use Rattle.hal_code.specs.declared.instr.Instr.TheVariants as instr
use Rattle.hal_code.specs.declared.row.Base.TheVariants as base
use Rattle.hal_code.specs.declared.row.Dimension.{Dimension}
use Rattle.hal_meaning.specs.Elements.{Shape, chosen, offset}
use Rattle.hal_meaning.specs.Places.{Storing, InCells, InPlaces, ByReference, Unstored}
use Rattle.hal_meaning.specs.ReportNames.{first_cell, first_place}
use Rattle.hal_meaning.specs.Variables.{kind_of_first}
use Rattle.hal_agreement.specs.Sites.{Site}
use Rattle.hal_gen_expr.specs.declared.elements.Element.{Element}
use Rattle.hal_gen_expr.specs.Elements.{counted, an_element, element_in}
use Rattle.hal_gen_expr.specs.Leaves.{is_one, address_of, area_of, element_of}
use Rattle.hal_gen_expr.specs.Numbering.{Numbering, below, most, base_of, view_number, area_number}

-- no number behind one that is too large
pub none_behind : (n : ℕ) → most ≤ n → below most n ≡ None
none_behind n high = ap (λ b. if b then Some n else None) (le-ltb n most high)

below_by : (n m : ℕ) → (n < most → n ≡ m) → (most ≤ n → most ≤ m) → below most n ≡ below most m
below_by n m same far =
    ⊎_elim (λ less. ap (below most) (same less)) (λ more. none_behind n more ∙ sym (none_behind m (far more))) (cases_lt n most)

pub behind_capped : (first n : ℕ) → below most (first + min n counted) ≡ below most (first + n)
behind_capped first n = below_by (first + min n counted) (first + n) (λ less. omega (arith, less)) (λ more. omega (arith, more))

alone_capped : (n : ℕ) → below most (min n counted) ≡ below most n
alone_capped n = below_by (min n counted) n (λ less. omega (arith, less)) (λ more. omega (arith, more))

base_capped : (site : Site) (k n : ℕ) (stored : Storing) → base_of site k (min n counted) stored ≡ base_of site k n stored
base_capped site k n (InCells group) = ap (option_map base.Shared) (behind_capped (first_cell site.set.phrases site.set.constants k) n)
base_capped site k n InPlaces = ap (option_map base.Own) (behind_capped (first_place site.places k) n)
base_capped site k n ByReference =
    ap (λ o. option_and_then (λ at. option_map (base.Through at) o) (below most (first_place site.places k))) (alone_capped n)
base_capped site k n Unstored = refl

pub address_capped : (n : Numbering) (site : Site) (rows : List Dimension) (k : ℕ) (stored : Storing) (before : ℕ) (kind : Kind)
    → address_of n site rows k stored (min before counted) kind ≡ address_of n site rows k stored before kind
address_capped n site rows k stored before kind =
    ap (λ o. option_and_then (λ from. option_map instr.Cell (view_number n rows kind from)) o) (base_capped site k before stored)

pub area_capped : (n : Numbering) (site : Site) (rows : List Dimension) (shape k : ℕ) (stored : Storing) (before : ℕ) → area_of n site rows shape k stored (min before counted) ≡ area_of n site rows shape k stored before
area_capped n site rows shape k stored before = ap (λ o. option_and_then (λ from. option_map instr.Whole (area_number n rows shape from)) o) (base_capped site k before stored)

-- the address of an element that may be there
abbrev pub address_in : Numbering → Site → ℕ → Storing → Option Element → Option Instr
address_in n site k stored None = None
address_in n site k stored (Some one) = address_of n site [] k stored one.before one.kind

given_by : (n : Numbering) (site : Site) (k : ℕ) (stored : Storing) (before : ℕ) (kind : Kind) (b c : Bool)
    → (if not b && c then address_of n site [] k stored before kind else None)
    ≡ (if b then None else address_in n site k stored (if c then Some (an_element (min before counted) kind) else None))
given_by n site k stored before kind true c = refl
given_by n site k stored before kind false true = sym (address_capped n site [] k stored before kind)
given_by n site k stored before kind false false = refl

pub element_given : (n : Numbering) (site : Site) (path : List Naming) (k : ℕ) (stored : Storing) (shape : Shape)
    → element_of n site path k stored shape ≡ (if is_some shape.copies then None else address_in n site k stored (element_in path shape.components))
element_given n site path k stored shape =
    given_by n site k stored (offset path shape.components) (kind_of_first (chosen path shape.components)) (is_some shape.copies) (is_one (chosen path shape.components))
