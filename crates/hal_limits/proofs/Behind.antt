-- The components to which names lead.
use Rattle.std.proofs.Common.{◌≡◌, ◌∙◌, ◌+◌, ◌&&◌, ℕ, Bool, true, false, List, [], ◌∷◌, Option, Some, None, if◌then◌else◌, refl, sym, ap, arith}
use Rattle.std.specs.Prelude.{bytes_eq, sum_by}
use Rattle.std.proofs.lemmas.List.Sums.{sum_by-cons}
use Rattle.hal_grammar.specs.Leaves.{Naming}
use Rattle.hal_grammar.specs.Expressions.{Subscript, Unsubscripted, ByName, ByInteger, ByParts}
use Rattle.hal_phrases.specs.Phrases.{Phrase}
use Rattle.hal_constants.specs.Known.{Known}
use Rattle.hal_meaning.specs.Elements.{Component, chosen, copy_size, count, leads}
use Rattle.hal_views.specs.Views.{Choice, components_behind, elements_reached, is_behind, places_chosen, sizes_of}
use Rattle.hal_limits.specs.Behind.{count_behind, elements_by, is_none_behind, sizes_behind, sole_behind}
use Rattle.hal_limits.specs.Counts.{capped, counted}
use Rattle.hal_limits.specs.Noting.{plain_names}
use Rattle.hal_limits.proofs.Counted.{from_nothing}

-- nothing is chosen of no dimensions
pub none_chosen : (ps : List Phrase) (vs : Known) (p : Phrase) (subscript : Subscript) → places_chosen ps vs p [] subscript ≡ []
none_chosen ps vs p Unsubscripted = refl
none_chosen ps vs p (ByName place name) = refl
none_chosen ps vs p (ByInteger place at number) = refl
none_chosen ps vs p (ByParts place copies arrays components) = refl

-- names lead to a component where it lies behind them
led : (path : List Naming) (names : List (List ℕ)) → leads path names ≡ is_behind (plain_names path) names
led [] names = refl
led (n ∷ ns) [] = refl
led (n ∷ ns) (name ∷ names) = ap (λ b. bytes_eq n.name name && b) (led ns names)

all_led : (path : List Naming) (cs : List Component) → chosen path cs ≡ components_behind (plain_names path) cs
all_led path [] = refl
all_led path (c ∷ cs) =
    ap (λ b. if b then c ∷ chosen path cs else chosen path cs) (led path c.path)
    ∙ ap (λ list. if is_behind (plain_names path) c.path then c ∷ list else list) (all_led path cs)

-- the one component among these, where it is one
abbrev sole_of : List Component → Option Component
sole_of [] = None
sole_of (c ∷ []) = Some c
sole_of (c ∷ d ∷ more) = None

abbrev is_nil : List Component → Bool
is_nil [] = true
is_nil (c ∷ cs) = false

sole_of_more : (c : Component) (cs : List Component) → sole_of (c ∷ cs) ≡ (if is_nil cs then Some c else None)
sole_of_more c [] = refl
sole_of_more c (d ∷ more) = refl

none_by : (b : Bool) (c : Component) (cs : List Component) (none : Bool) → is_nil cs ≡ none → is_nil (if b then c ∷ cs else cs) ≡ (if b then false else none)
none_by true c cs none same = refl
none_by false c cs none same = same

none_behind : (names : List (List ℕ)) (cs : List Component) → is_nil (components_behind names cs) ≡ is_none_behind names cs
unfolding is_none_behind
none_behind names [] = refl
none_behind names (c ∷ cs) = none_by (is_behind names c.path) c (components_behind names cs) (is_none_behind names cs) (none_behind names cs)

sole_by : (b : Bool) (c : Component) (cs : List Component) (none : Bool) (later : Option Component) → is_nil cs ≡ none → sole_of cs ≡ later
    → sole_of (if b then c ∷ cs else cs) ≡ (if b then (if none then Some c else None) else later)
sole_by true c cs none later nil same = sole_of_more c cs ∙ ap (λ one. if one then Some c else None) nil
sole_by false c cs none later nil same = same

sole_is : (names : List (List ℕ)) (cs : List Component) → sole_of (components_behind names cs) ≡ sole_behind names cs
unfolding sole_behind
sole_is names [] = refl
sole_is names (c ∷ cs) = sole_by (is_behind names c.path) c (components_behind names cs) (is_none_behind names cs) (sole_behind names cs) (none_behind names cs) (sole_is names cs)

abbrev sizes_in : Option Component → List ℕ
sizes_in one = elim one [ None ↦ [] | Some c ↦ c.sizes ]

sizes_of_sole : (cs : List Component) → sizes_of cs ≡ sizes_in (sole_of cs)
sizes_of_sole [] = refl
sizes_of_sole (c ∷ []) = refl
sizes_of_sole (c ∷ d ∷ more) = refl

-- the sizes of the component to which names lead
pub sizes_led : (path : List Naming) (cs : List Component) → sizes_of (chosen path cs) ≡ sizes_behind (plain_names path) cs
sizes_led path cs = ap sizes_of (all_led path cs) ∙ (sizes_of_sole (components_behind (plain_names path) cs) ∙ ap sizes_in (sole_is (plain_names path) cs))

elements_of_sole : (cs : List Component) (places : List Choice) → elements_reached cs places ≡ elements_by (sole_of cs) (copy_size cs) places
elements_of_sole [] places = refl
elements_of_sole (c ∷ []) places = refl
elements_of_sole (c ∷ d ∷ more) places = refl

-- the elements that are reached of the components behind names
pub elements_behind : (names : List (List ℕ)) (cs : List Component) (places : List Choice)
    → elements_reached (components_behind names cs) places ≡ elements_by (sole_behind names cs) (copy_size (components_behind names cs)) places
elements_behind names cs places =
    elements_of_sole (components_behind names cs) places ∙ ap (λ one. elements_by one (copy_size (components_behind names cs)) places) (sole_is names cs)

size_by : (b : Bool) (c : Component) (cs : List Component) → copy_size (if b then c ∷ cs else cs) ≡ (if b then count c else 0) + copy_size cs
size_by true c cs = sum_by-cons count c cs
size_by false c cs = omega (arith)

size_of_all : (names : List (List ℕ)) (cs : List Component) → copy_size (components_behind names cs) ≡ sum_by (count_behind names) cs
size_of_all names [] = refl
size_of_all names (c ∷ cs) =
    size_by (is_behind names c.path) c (components_behind names cs)
    ∙ (ap (λ n. count_behind names c + n) (size_of_all names cs) ∙ sym (sum_by-cons (count_behind names) c cs))

-- how many elements lie behind names
pub size_counted : (names : List (List ℕ)) (cs : List Component) → counted (count_behind names) 0 cs ≡ capped (copy_size (components_behind names cs))
size_counted names cs = from_nothing (count_behind names) cs ∙ ap capped (sym (size_of_all names cs))
