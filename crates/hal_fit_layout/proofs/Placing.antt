-- What holds of each own place of a process.
use Rattle.std.specs.Prelude.{◌≡◌, ℕ, zero, suc, ◌==◌, Bool, true, List, [], ◌∷◌, ◌++◌, flat_map, Option, Some, None, slice_get, if◌then◌else◌}
use Rattle.std.proofs.Common.{refl}
use Rattle.hal_grammar.specs.Declarations.{Automatic, Attribute, Declared}
use Rattle.hal_phrases.specs.Phrases.{Node, Phrase, OfItem, OfGroup, OfTemporaryGroup}
use Rattle.hal_kinds.specs.Attributes.{has_mark}
use Rattle.hal_constants.specs.Known.{Known}
use Rattle.hal_values.specs.declared.value.Kind.{Kind}
use Rattle.hal_values.specs.declared.value.Value.{Value}
use Rattle.hal_meaning.specs.Bodies.{processes_of, processes_reaching}
use Rattle.hal_meaning.specs.Elements.{kinds_of, shape_of}
use Rattle.hal_meaning.specs.InitialValues.{first_values}
use Rattle.hal_meaning.specs.Places.{Place, Storing, InCells, InPlaces, ByReference, Unstored, storing, places_from, hidden, places_of_item, is_for_or_case, places_at, places_in, unit_numbers, are_several, is_sole, common_places, sole_places, places_of}
use Rattle.hal_meaning.specs.Runs.{places_of_process}
use Rattle.hal_meaning.specs.Sets.{Set}
use Rattle.hal_fit_calls.specs.Each.{Each}
use Rattle.hal_fit_calls.proofs.Each.{each_append, each_one, each_flat, each_if}

module _ (ps : List Phrase) (vs : Known) (P : Place → Type 0) (all : (p : Phrase) → Each P (places_at ps vs p p.node)) where
  unit_each : (q : ℕ) → Each P (places_in ps vs q)
  unit_each q =
      each_flat (λ (p : Phrase). Unit {0}) P (λ (p : Phrase). if p.around.home == q then places_at ps vs p p.node else []) ps (each_one (λ (p : Phrase). Unit {0}) ps (λ p. tt))
      (λ p so. each_if P (p.around.home == q) (places_at ps vs p p.node) (all p))

  units_each : (test : ℕ → Bool) (ns : List ℕ) → Each P (flat_map (λ q. if test q then places_in ps vs q else []) ns)
  units_each test ns =
      each_flat (λ (q : ℕ). Unit {0}) P (λ q. if test q then places_in ps vs q else []) ns (each_one (λ (q : ℕ). Unit {0}) ns (λ q. tt)) (λ q so. each_if P (test q) (places_in ps vs q) (unit_each q))

  pub places_each : (process : ℕ) → Each P (places_of ps vs process)
  places_each process =
      each_append P (common_places ps vs) (sole_places ps vs process) (units_each (λ q. are_several (processes_reaching ps q)) (unit_numbers ps))
      (units_each (λ q. is_sole (processes_of ps) process (processes_reaching ps q)) (unit_numbers ps))

pub process_each : (s : Set) (P : Place → Type 0) → ((p : Phrase) → Each P (places_at s.phrases s.constants p p.node)) → (process : ℕ) → Each P (places_of_process s process)
process_each s P all process = by (slice_get (processes_of s.phrases) process) where
  by : (o : Option ℕ) → Each P (elim o [ None ↦ [] | Some k ↦ places_of s.phrases s.constants k ])
  by None = tt
  by (Some k) = places_each s.phrases s.constants P all k

-- AUTOMATIC places hold values
abbrev pub HoldsIfAutomatic : Place → Type 0
HoldsIfAutomatic one = one.automatic ≡ true → (k : Kind) × (one.kind ≡ Some k)

from_holds : (owner : ℕ) (automatic : Bool) (ks : List Kind) (vs : List Value) → Each HoldsIfAutomatic (places_from owner automatic ks vs)
from_holds owner automatic [] vs = tt
from_holds owner automatic (k ∷ ks) [] = tt
from_holds owner automatic (k ∷ ks) (v ∷ vs) = ((λ is. (k, refl)), from_holds owner automatic ks vs)

hidden_holds : (owner n : ℕ) → Each HoldsIfAutomatic (hidden owner n)
hidden_holds owner zero = tt
hidden_holds owner (suc n) = ((λ is. absurd (cc)), hidden_holds owner n)

item_holds : (ps : List Phrase) (vs : Known) (p : Phrase) (common : List Attribute) (item : Declared) (stored : Storing) → Each HoldsIfAutomatic (places_of_item ps vs p common item stored)
item_holds ps vs p common item InPlaces =
    let ks = kinds_of (shape_of ps vs p common item) in from_holds p.number (has_mark Automatic (item.attributes ++ common)) ks (first_values ps vs p (item.attributes ++ common) ks)
item_holds ps vs p common item ByReference = ((λ is. absurd (cc)), tt)
item_holds ps vs p common item (InCells group) = tt
item_holds ps vs p common item Unstored = tt

pub at_holds : (ps : List Phrase) (vs : Known) (p : Phrase) (node : Node) → Each HoldsIfAutomatic (places_at ps vs p node)
at_holds ps vs p (OfItem common item) = item_holds ps vs p common item (storing ps vs p (OfItem common item))
at_holds ps vs p (OfTemporaryGroup labels variable) = hidden_holds p.number 5
at_holds ps vs p (OfGroup labels looping) = each_if HoldsIfAutomatic (is_for_or_case ps p.number) (hidden p.number 4) (hidden_holds p.number 4)
at_holds ps vs p other = tt
