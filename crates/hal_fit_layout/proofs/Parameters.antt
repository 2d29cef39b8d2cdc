-- The own places of whole parameters are there, with the kinds of their elements.
use Rattle.std.specs.Prelude.{◌≡◌, ◌<◌, ◌≤◌, ℕ, suc, nat_lt, Bool, true, List, [], ◌∷◌, ◌++◌, length, map, Option, Some, None, slice_get}
use Rattle.std.specs.Option.{option_and_then}
use Rattle.std.proofs.Common.{refl, sym, ap, subst, ◌∙◌, arith}
use Rattle.std.proofs.lemmas.List.{length-map, map-append}
use Rattle.hal_base.specs.declared.limits.TheConstants.{PROCESS_LIMIT}
use Rattle.hal_grammar.specs.Leaves.{Naming}
use Rattle.hal_grammar.specs.Declarations.{Automatic, Attribute, Initials}
use Rattle.hal_phrases.specs.Phrases.{Node, Phrase}
use Rattle.hal_names.specs.Laws.{IsCounted}
use Rattle.hal_kinds.specs.Attributes.{has_mark}
use Rattle.hal_constants.specs.Known.{Known}
use Rattle.hal_states.specs.OfKinds.{nothing}
use Rattle.hal_values.specs.declared.value.Kind.{Kind}
use Rattle.hal_values.specs.declared.value.Value.{Value}
use Rattle.hal_code.specs.declared.image.ImageParts.{ImageParts}
use Rattle.hal_code.specs.declared.row.View.{View}
use Rattle.hal_code.specs.Blocks.{block_places}
use Rattle.hal_code.specs.Memory.{own_memory, lies_from}
use Rattle.hal_meaning.specs.Bodies.{processes_of, processes_reaching}
use Rattle.hal_meaning.specs.Calls.{Parameter, parameter_shape, parameter_named}
use Rattle.hal_meaning.specs.Elements.{Shape, kinds_of, shape_of}
use Rattle.hal_meaning.specs.InitialValues.{held, one_each, filled, given, all_values, first_values}
use Rattle.hal_meaning.specs.Places.{Place, Storing, InPlaces, places_from, places_of_item, places_at, places_of, unit_numbers}
use Rattle.hal_meaning.specs.ReportNames.{first_place}
use Rattle.hal_meaning.specs.Runs.{places_of_process}
use Rattle.hal_meaning.specs.Sets.{Set}
use Rattle.hal_reach.specs.Places.{is_among}
use Rattle.hal_fitting.specs.Fitting.{Ground}
use Rattle.hal_fit_expr.specs.Serving.{HasPlaces, HavePlaces}
use Rattle.hal_link.specs.Linking.{Linked, own_row, image_with}
use Rattle.hal_link.specs.Shapes.{Shapes, shapes_of}
use Rattle.hal_fit_calls.specs.Each.{Each}
use Rattle.hal_fit_layout.specs.Owned.{IsOthers, LiesIn, IsStored, AreStored, has_one}
use Rattle.hal_fit_layout.proofs.Laid.{block_rows, memory_of_rows}
use Rattle.hal_fit_layout.proofs.Memory.{known, lies_behind, first_behind, one_within}
use Rattle.hal_fit_layout.proofs.Owned.{lies_in_process}

-- first values are as many as kinds
one_each_long : (ks : List Kind) (vs : List Value) → length (one_each ks vs) ≡ length ks
one_each_long [] vs = refl
one_each_long (k ∷ ks) [] = ap suc (one_each_long ks [])
one_each_long (k ∷ ks) (v ∷ vs) = ap suc (one_each_long ks vs)

filled_long : (ks : List Kind) (vs : List Value) → length (filled ks vs) ≡ length ks
filled_long ks [] = one_each_long ks []
filled_long ks (v ∷ []) = length-map ks (λ k. held k v)
filled_long ks (v ∷ w ∷ more) = one_each_long ks (v ∷ w ∷ more)

abbrev by_list : List Phrase → Known → Phrase → List Kind → Option Initials → List Value
by_list ps vs p ks list = elim list [ None ↦ map nothing ks | Some one ↦ filled ks (all_values ps vs p one) ]

given_long : (ps : List Phrase) (vs : Known) (p : Phrase) (ks : List Kind) (list : Option Initials) → length (by_list ps vs p ks list) ≡ length ks
given_long ps vs p ks None = length-map ks nothing
given_long ps vs p ks (Some one) = filled_long ks (all_values ps vs p one)

pub first_long : (ps : List Phrase) (vs : Known) (p : Phrase) (attributes : List Attribute) (ks : List Kind) → length (first_values ps vs p attributes ks) ≡ length ks
first_long ps vs p attributes ks = given_long ps vs p ks (given attributes)

-- so the places of data have all kinds
abbrev pub kinds_in : List Place → List (Option Kind)
kinds_in places = map (λ (one : Place). one.kind) places

from_kinds : (owner : ℕ) (automatic : Bool) (ks : List Kind) (vs : List Value) → length vs ≡ length ks → kinds_in (places_from owner automatic ks vs) ≡ known ks
from_kinds owner automatic [] vs long = refl
from_kinds owner automatic (k ∷ ks) [] long = absurd (omega (arith, long))
from_kinds owner automatic (k ∷ ks) (v ∷ vs) long = ap (λ l. Some k ∷ l) (from_kinds owner automatic ks vs (omega (arith, long)))

-- the first of them
record First (owner : ℕ) (places : List Place) : Type 0 where
  one : Place
  more : List Place
  is : places ≡ one ∷ more
  its : one.owner ≡ owner

from_first : (owner : ℕ) (automatic : Bool) (ks : List Kind) (vs : List Value) → length vs ≡ length ks → has_one ks ≡ true → First owner (places_from owner automatic ks vs)
from_first owner automatic [] vs long some = absurd (cc)
from_first owner automatic (k ∷ ks) [] long some = absurd (omega (arith, long))
from_first owner automatic (k ∷ ks) (v ∷ vs) long some = record { one = record { owner = owner; kind = Some k; initial = v; automatic = automatic }; more = places_from owner automatic ks vs; is = refl; its = refl }

-- what is known of places among which those of data lie
module _ (s : Set) (shapes : Shapes) (image : ImageParts) (g : Ground) (places : List Place) (laid : block_places image g.block ≡ map (own_row s shapes) places) where
  kinds_there : (before owned behind : List Place) (ks : List Kind) → places ≡ before ++ (owned ++ behind) → kinds_in owned ≡ known ks → lies_from (own_memory (block_places image g.block)) (length before) ks ≡ true
  kinds_there before owned behind ks is kinds =
      let memory : own_memory (block_places image g.block) ≡ kinds_in before ++ (known ks ++ kinds_in behind) =
      ap own_memory laid
      ∙ (memory_of_rows s shapes places
      ∙ (ap kinds_in is
      ∙ (map-append (λ (one : Place). one.kind) before (owned ++ behind)
      ∙ (ap (λ l. kinds_in before ++ l) (map-append (λ (one : Place). one.kind) owned behind) ∙ ap (λ l. kinds_in before ++ (l ++ kinds_in behind)) kinds)))) in
      ap (λ m. lies_from m (length before) ks) memory
      ∙ (ap (λ n. lies_from (kinds_in before ++ (known ks ++ kinds_in behind)) n ks) (sym (length-map before (λ (one : Place). one.kind))) ∙ lies_behind (kinds_in before) ks (kinds_in behind))

  first_there : (before behind : List Place) (k : ℕ) (owned : List Place) → places ≡ before ++ (owned ++ behind) → Each (IsOthers k) before → First k owned
      → (first_place places k ≡ length before) × (nat_lt (length before) (length (block_places image g.block)) ≡ true)
  first_there before behind k owned is others first =
      let all : places ≡ before ++ (first.one ∷ (first.more ++ behind)) = is ∙ ap (λ l. before ++ (l ++ behind)) first.is in
      let apart = subst (λ n. Each (IsOthers n) before) (sym first.its) others in (
        ap (λ n. first_place places n) (sym first.its) ∙ (ap (λ l. first_place l first.one.owner) all ∙ first_behind before first.one (first.more ++ behind) apart),
        ap (λ n. nat_lt (length before) n) (ap length laid ∙ (length-map places (own_row s shapes) ∙ ap length all)) ∙ one_within before first.one (first.more ++ behind),
      )

  -- data that lie there
  has_places : (number : ℕ) (shape : Shape) (automatic : Bool) (vs : List Value) → length vs ≡ length (kinds_of shape) → has_one (kinds_of shape) ≡ true
      → LiesIn places number (places_from number automatic (kinds_of shape) vs) → HasPlaces image g places (record { number = number; shape = shape })
  has_places number shape automatic vs long some lies =
      let first = first_there lies.before lies.behind number (places_from number automatic (kinds_of shape) vs) lies.is lies.apart (from_first number automatic (kinds_of shape) vs long some) in
      record {
        there = ap (λ n. nat_lt n (length (block_places image g.block))) first.0 ∙ first.1;
        kinds = ap (λ n. lies_from (own_memory (block_places image g.block)) n (kinds_of shape)) first.0
            ∙ kinds_there lies.before (places_from number automatic (kinds_of shape) vs) lies.behind (kinds_of shape) lies.is (from_kinds number automatic (kinds_of shape) vs long);
      }

-- the parameter that a declaration is
pub parameter_is : (s : Set) (unit : ℕ) (name : Naming) (how : Storing) (one : IsStored s unit name how)
    → parameter_named s unit name ≡ record { number = one.phrase.number; shape = shape_of s.phrases s.constants one.phrase one.common one.item }
parameter_is s unit name how one =
    ap (λ (o : Option ℕ). elim (option_and_then (slice_get s.phrases) o) [
      | None ↦ record { number = 0; shape = record { copies = None; components = [] } }
      | Some p ↦ record { number = p.number; shape = parameter_shape s p p.node }
    ]) one.found
    ∙ (ap (λ (o : Option Phrase). elim o [
      | None ↦ record { number = 0; shape = record { copies = None; components = [] } }
      | Some p ↦ record { number = p.number; shape = parameter_shape s p p.node }
    ]) one.there
    ∙ ap (λ (node : Node). let made : Parameter = record { number = one.phrase.number; shape = parameter_shape s one.phrase node } in made) one.node)

-- whole parameters of units that a process reaches
module _ (s : Set) (counted : IsCounted s.phrases) (shapes : Shapes) (image : ImageParts) (g : Ground) (k : ℕ) (laid : block_places image g.block ≡ map (own_row s shapes) (places_of s.phrases s.constants k)) (unit m : ℕ)
    (named : slice_get (unit_numbers s.phrases) m ≡ Some unit) (reaches : is_among (processes_reaching s.phrases unit) k ≡ true) where
  -- the places of one lie together
  pub stored_lies : (name : Naming) (how : Storing) (one : IsStored s unit name how)
      → LiesIn (places_of s.phrases s.constants k) one.phrase.number (places_of_item s.phrases s.constants one.phrase one.common one.item how)
  stored_lies name how one =
      subst (λ n. LiesIn (places_of s.phrases s.constants k) n (places_of_item s.phrases s.constants one.phrase one.common one.item how)) (sym (counted one.number one.phrase one.there))
      (subst (λ way. LiesIn (places_of s.phrases s.constants k) one.number (places_of_item s.phrases s.constants one.phrase one.common one.item way)) one.stored_so
      (subst (λ node. LiesIn (places_of s.phrases s.constants k) one.number (places_at s.phrases s.constants one.phrase node)) one.node
      (lies_in_process s.phrases s.constants counted unit one.number one.phrase one.there one.home k m named reaches)))

  one_has : (name : Naming) → IsStored s unit name InPlaces → HasPlaces image g (places_of s.phrases s.constants k) (parameter_named s unit name)
  one_has name one =
      let ks = kinds_of (shape_of s.phrases s.constants one.phrase one.common one.item) in
      let attributes = one.item.attributes ++ one.common in
      subst (HasPlaces image g (places_of s.phrases s.constants k)) (sym (parameter_is s unit name InPlaces one))
      (has_places s shapes image g (places_of s.phrases s.constants k) laid one.phrase.number (shape_of s.phrases s.constants one.phrase one.common one.item) (has_mark Automatic attributes)
      (first_values s.phrases s.constants one.phrase attributes ks) (first_long s.phrases s.constants one.phrase attributes ks) one.some (stored_lies name InPlaces one))

  pub have_places : (names : List Naming) → AreStored s unit names InPlaces → HavePlaces image g s (places_of s.phrases s.constants k) unit names
  have_places [] stored = tt
  have_places (name ∷ names) stored = ((λ whole. one_has name stored.0), have_places names stored.1)

-- the same of the places of a process by its number
pub places_are : (s : Set) (process k : ℕ) → slice_get (processes_of s.phrases) process ≡ Some k → places_of_process s process ≡ places_of s.phrases s.constants k
places_are s process k is = ap (λ (o : Option ℕ). elim o [ None ↦ [] | Some one ↦ places_of s.phrases s.constants one ]) is

pub process_places : (s : Set) (views : List View) (one : Linked) (g : Ground) (k unit m : ℕ) (names : List Naming) → IsCounted s.phrases → g.block.process < length s.tables.processes
    → length s.tables.processes ≤ PROCESS_LIMIT → slice_get (processes_of s.phrases) g.block.process ≡ Some k → slice_get (unit_numbers s.phrases) m ≡ Some unit
    → is_among (processes_reaching s.phrases unit) k ≡ true → AreStored s unit names InPlaces
    → HavePlaces (image_with s views one) g s (places_of_process s g.block.process) unit names
process_places s views one g k unit m names counted low few its named reaches stored =
    let same = places_are s g.block.process k its in
    subst (λ places. HavePlaces (image_with s views one) g s places unit names) (sym same)
    (have_places s counted (shapes_of s) (image_with s views one) g k (block_rows s views one g.block low few ∙ ap (map (own_row s (shapes_of s))) same) unit m named reaches names stored)
