-- The own places of a block of a linked image are those that the set's are.
use Rattle.std.specs.Prelude.{◌≡◌, ◌<◌, ◌≤◌, ℕ, zero, suc, ◌+◌, ◌==◌, Bool, true, false, List, [], ◌∷◌, ◌++◌, length, map, Option, Some, None, slice_get, if◌then◌else◌}
use Rattle.std.proofs.Common.{refl, ap, ◌∙◌, arith}
use Rattle.std.proofs.lemmas.Bool.{ne_eqb}
use Rattle.hal_values.specs.declared.value.Kind.{Kind}
use Rattle.hal_values.specs.declared.value.Value.{Value}
use Rattle.hal_base.specs.declared.limits.TheConstants.{PROCESS_LIMIT}
use Rattle.hal_code.specs.declared.row.Block.{Block}
use Rattle.hal_code.specs.declared.row.OwnPlace.{OwnPlace}
use Rattle.hal_code.specs.declared.row.OwnPlace.TheVariants as place
use Rattle.hal_code.specs.declared.row.Process.{Process}
use Rattle.hal_code.specs.declared.row.Run.{Run}
use Rattle.hal_code.specs.declared.row.View.{View}
use Rattle.hal_code.specs.Blocks.{block_places}
use Rattle.hal_code.specs.Images.{expanded, places_of}
use Rattle.hal_code.specs.Memory.{kind_of_place, shape_of_place, own_memory}
use Rattle.hal_meaning.specs.Places.{Place}
use Rattle.hal_meaning.specs.Runs.{places_of_process}
use Rattle.hal_meaning.specs.Sets.{Set}
use Rattle.hal_runs.specs.Same.{same_place}
use Rattle.hal_runs.proofs.Expanded.{rows_again}
use Rattle.hal_runs.proofs.Same.{place_same}
use Rattle.hal_link.specs.Linking.{Linked, own_row, image_with}
use Rattle.hal_link.specs.Outlines.{outlines_of}
use Rattle.hal_link.specs.Shapes.{Shapes, shapes_of, reference_shape}
use Rattle.hal_link.proofs.Tabled.{process_there}

abbrev no_common : List (Run OwnPlace)
no_common = []

-- those of the process with this number
pub own_rows : (s : Set) (views : List View) (one : Linked) (p : ℕ) (name : List ℕ) → slice_get s.tables.processes p ≡ Some name
    → places_of (image_with s views one) p ≡ map (own_row s (shapes_of s)) (places_of_process s p)
own_rows s views one p name is =
    let there = process_there s (outlines_of s) p 0 s.tables.processes name is in
    let number : 0 + p ≡ p = omega arith in
    ap (λ (o : Option Process). elim o [ None ↦ [] | Some process ↦ expanded no_common ++ expanded process.places ]) there
    ∙ (rows_again same_place place_same (map (own_row s (shapes_of s)) (places_of_process s (0 + p))) ∙ ap (λ k. map (own_row s (shapes_of s)) (places_of_process s k)) number)

-- those of a block of a process
uncommon : {X : Type 0} (b : Bool) (one other : X) → b ≡ false → (if b then one else other) ≡ other
uncommon true one other is = absurd (cc)
uncommon false one other is = refl

named : {X : Type 0} (xs : List X) (n : ℕ) → n < length xs → (x : X) × (slice_get xs n ≡ Some x)
named [] n less = absurd (omega (arith, less))
named (x ∷ xs) zero less = (x, refl)
named (x ∷ xs) (suc n) less = named xs n (omega (arith, less))

pub block_rows : (s : Set) (views : List View) (one : Linked) (row : Block) → row.process < length s.tables.processes → length s.tables.processes ≤ PROCESS_LIMIT
    → block_places (image_with s views one) row ≡ map (own_row s (shapes_of s)) (places_of_process s row.process)
block_rows s views one row less few =
    let name = named s.tables.processes row.process less in
    uncommon (row.process == 255) (expanded no_common) (places_of (image_with s views one) row.process) (ne_eqb row.process 255 (λ same. omega (arith, less, few, same)))
    ∙ own_rows s views one row.process name.0 name.1

-- their kinds, and the shapes to which they refer
kind_by : (k : Option Kind) (v : Value) (shape : ℕ) → kind_of_place (elim k [ None ↦ place.Reference shape | Some one ↦ place.Data one v ]) ≡ k
kind_by None v shape = refl
kind_by (Some k) v shape = refl

pub kind_of_row : (s : Set) (shapes : Shapes) (one : Place) → kind_of_place (own_row s shapes one) ≡ one.kind
kind_of_row s shapes one = kind_by one.kind one.initial (reference_shape s shapes one.owner)

pub memory_of_rows : (s : Set) (shapes : Shapes) (places : List Place) → own_memory (map (own_row s shapes) places) ≡ map (λ (one : Place). one.kind) places
memory_of_rows s shapes [] = refl
memory_of_rows s shapes (one ∷ places) = ap (λ k. k ∷ own_memory (map (own_row s shapes) places)) (kind_of_row s shapes one) ∙ ap (λ l. one.kind ∷ l) (memory_of_rows s shapes places)

pub shape_of_row : (s : Set) (shapes : Shapes) (one : Place) → one.kind ≡ None → shape_of_place (own_row s shapes one) ≡ Some (reference_shape s shapes one.owner)
shape_of_row s shapes one is = ap (λ (k : Option Kind). shape_of_place (elim k [ None ↦ place.Reference (reference_shape s shapes one.owner) | Some other ↦ place.Data other one.initial ])) is
