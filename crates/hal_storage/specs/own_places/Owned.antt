-- The own places of the processes of a set.
use Rattle.std.specs.Prelude.{ℕ, ◌==◌, false, List, [], ◌∷◌, ◌++◌, map, flat_map, None, if◌then◌else◌}
use Rattle.hal_grammar.specs.Declarations.{Automatic, Attribute, Declared}
use Rattle.hal_phrases.specs.Phrases.{Phrase}
use Rattle.hal_kinds.specs.Attributes.{has_mark}
use Rattle.hal_values.specs.declared.value.Kind.TheVariants as kind
use Rattle.hal_constants.specs.Known.{Known}
use Rattle.hal_states.specs.OfKinds.{nothing}
use Rattle.hal_reach.specs.Marks.{Reached}
use Rattle.hal_meaning.specs.Bodies.{processes_of}
use Rattle.hal_meaning.specs.Elements.{kinds_of, shape_of}
use Rattle.hal_meaning.specs.InitialValues.{first_values}
use Rattle.hal_meaning.specs.Places.{Place, places_at, places_from, hidden, is_for_or_case, places_in, are_several, is_sole, common_places, sole_places}

-- the own places of the processes: the common ones, and for each process its others. The places of a process are the common ones and then its own
pub record OwnPlaces : Type 0 where
  pub common : List Place
  pub processes : List (List Place)

abbrev pub own_places : List Phrase → Known → OwnPlaces
own_places ps vs = record { common = common_places ps vs; processes = map (sole_places ps vs) (processes_of ps) }

-- the place of a reference
abbrev pub reference : ℕ → List Place
reference owner = record { owner = owner; kind = None; initial = nothing kind.Double; automatic = false } ∷ []

-- the places of what a phrase declares in own places
abbrev pub places_of_data : List Phrase → Known → Phrase → List Attribute → Declared → List Place
places_of_data ps vs p common item =
    places_from p.number (has_mark Automatic (item.attributes ++ common)) (kinds_of (shape_of ps vs p common item)) (first_values ps vs p (item.attributes ++ common) (kinds_of (shape_of ps vs p common item)))

-- the places of a group without a TEMPORARY variable
abbrev pub group : List Phrase → ℕ → List Place
group ps k = if is_for_or_case ps k then hidden k 4 else []

-- the places that these phrases of a set have in a block
abbrev pub places_among : List Phrase → Known → ℕ → List Phrase → List Place
places_among ps vs q rs = flat_map (λ (p : Phrase). if p.around.home == q then places_at ps vs p p.node else []) rs

-- the common places, by the processes that reach units
abbrev pub common_of : List Phrase → Known → Reached → List Place
common_of ps vs u = if are_several u.processes then places_in ps vs u.unit else []

unfoldable pub common_among : List Phrase → Known → List Reached → List Place
common_among ps vs units = flat_map (common_of ps vs) units

-- the other places of a process
abbrev pub sole_of : List Phrase → Known → List ℕ → ℕ → Reached → List Place
sole_of ps vs all process u = if is_sole all process u.processes then places_in ps vs u.unit else []

unfoldable pub sole_among : List Phrase → Known → List Reached → List ℕ → ℕ → List Place
sole_among ps vs units all process = flat_map (sole_of ps vs all process) units
