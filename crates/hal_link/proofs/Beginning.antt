-- AUTOMATIC own places hold values at first.
use Rattle.std.specs.Prelude.{◌≡◌, ℕ, zero, suc, ◌==◌, Bool, true, false, List, [], ◌∷◌, ◌++◌, flat_map, Option, Some, None, slice_get, if◌then◌else◌}
use Rattle.std.proofs.Common.{refl}
use Rattle.std.proofs.lemmas.Bool.{and_parts}
use Rattle.hal_values.specs.declared.value.Kind.{Kind}
use Rattle.hal_values.specs.declared.value.Value.{Value}
use Rattle.hal_grammar.specs.Declarations.{Automatic, Attribute, Declared}
use Rattle.hal_phrases.specs.Phrases.{Node, Phrase, OfItem, OfGroup, OfTemporaryGroup}
use Rattle.hal_kinds.specs.Attributes.{has_mark}
use Rattle.hal_constants.specs.Known.{Known}
use Rattle.hal_states.specs.Spots.{Holds}
use Rattle.hal_meaning.specs.Bodies.{processes_of, processes_reaching}
use Rattle.hal_meaning.specs.Elements.{kinds_of, shape_of}
use Rattle.hal_meaning.specs.InitialValues.{first_values}
use Rattle.hal_meaning.specs.Places.{Place, Storing, InCells, InPlaces, ByReference, Unstored, storing, places_from, hidden, places_of_item, is_for_or_case, places_at, places_in, unit_numbers, are_several, is_sole, common_places, sole_places, places_of}
use Rattle.hal_meaning.specs.Runs.{held_first, places_of_process}
use Rattle.hal_meaning.specs.Sets.{Set}
use Rattle.hal_link.proofs.Clearing.{Begin}

-- a place of AUTOMATIC data holds its first value at first
abbrev Begins : Place → Type 0
Begins place = place.automatic ≡ true → held_first place ≡ Holds place.initial

abbrev Each : List Place → Type 0
Each [] = Unit {0}
Each (place ∷ places) = Begins place × Each places

each_append : (xs ys : List Place) → Each xs → Each ys → Each (xs ++ ys)
each_append [] ys first second = second
each_append (x ∷ xs) ys first second = (first.0, each_append xs ys first.1 second)

each_flat : {X : Type 0} (f : X → List Place) (xs : List X) → ((x : X) → Each (f x)) → Each (flat_map f xs)
each_flat f [] each = tt
each_flat f (x ∷ xs) each = each_append (f x) (flat_map f xs) (each x) (each_flat f xs each)

each_if : (b : Bool) (xs : List Place) → Each xs → Each (if b then xs else [])
each_if true xs each = each
each_if false xs each = tt

from_each : (owner : ℕ) (automatic : Bool) (ks : List Kind) (vs : List Value) → Each (places_from owner automatic ks vs)
from_each owner automatic [] vs = tt
from_each owner automatic (k ∷ ks) [] = tt
from_each owner automatic (k ∷ ks) (v ∷ vs) = ((λ is. refl), from_each owner automatic ks vs)

hidden_each : (owner n : ℕ) → Each (hidden owner n)
hidden_each owner zero = tt
hidden_each owner (suc n) = ((λ is. refl), hidden_each owner n)

module _ (ps : List Phrase) (vs : Known) where
  item_each : (p : Phrase) (common : List Attribute) (item : Declared) (stored : Storing) → Each (places_of_item ps vs p common item stored)
  item_each p common item InPlaces =
      let ks = kinds_of (shape_of ps vs p common item) in from_each p.number (has_mark Automatic (item.attributes ++ common)) ks (first_values ps vs p (item.attributes ++ common) ks)
  item_each p common item ByReference = ((λ is. absurd (cc)), tt)
  item_each p common item (InCells group) = tt
  item_each p common item Unstored = tt

  at_each : (p : Phrase) (node : Node) → Each (places_at ps vs p node)
  at_each p (OfItem common item) = item_each p common item (storing ps vs p (OfItem common item))
  at_each p (OfTemporaryGroup labels variable) = hidden_each p.number 5
  at_each p (OfGroup labels looping) = each_if (is_for_or_case ps p.number) (hidden p.number 4) (hidden_each p.number 4)
  at_each p other = tt

  in_each : (q : ℕ) → Each (places_in ps vs q)
  in_each q = each_flat (λ (p : Phrase). if p.around.home == q then places_at ps vs p p.node else []) ps (λ p. each_if (p.around.home == q) (places_at ps vs p p.node) (at_each p p.node))

  of_each : (process : ℕ) → Each (places_of ps vs process)
  of_each process =
      each_append (common_places ps vs) (sole_places ps vs process)
      (each_flat (λ q. if are_several (processes_reaching ps q) then places_in ps vs q else []) (unit_numbers ps) (λ q. each_if (are_several (processes_reaching ps q)) (places_in ps vs q) (in_each q)))
      (each_flat (λ q. if is_sole (processes_of ps) process (processes_reaching ps q) then places_in ps vs q else []) (unit_numbers ps)
      (λ q. each_if (is_sole (processes_of ps) process (processes_reaching ps q)) (places_in ps vs q) (in_each q)))

begin_each : (s : Set) (unit : ℕ) (places : List Place) → Each places → Begin s unit places
begin_each s unit [] each = tt
begin_each s unit (place ∷ places) each =
    ((λ is. each.0 ((and_parts place.automatic (elim (slice_get s.phrases place.owner) [ None ↦ false | Some p ↦ p.around.home == unit ]) is).0)), begin_each s unit places each.1)

-- those of each process
pub all_begin : (s : Set) (p unit : ℕ) → Begin s unit (places_of_process s p)
all_begin s p unit = by (slice_get (processes_of s.phrases) p) where
  by : (o : Option ℕ) → Begin s unit (elim o [ None ↦ [] | Some k ↦ places_of s.phrases s.constants k ])
  by None = tt
  by (Some k) = begin_each s unit (places_of s.phrases s.constants k) (of_each s.phrases s.constants k)
