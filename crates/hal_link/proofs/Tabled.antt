-- The tables of the image are those of the set.
use Rattle.std.specs.Prelude.{◌≡◌, ℕ, zero, suc, ◌+◌, List, [], ◌∷◌, ◌++◌, map, Option, Some, None, slice_get}
use Rattle.std.proofs.Common.{refl, ap, subst, ◌∙◌, arith}
use Rattle.hal_values.specs.declared.tables.EventStart.{EventStart}
use Rattle.hal_values.specs.declared.value.Kind.{Kind}
use Rattle.hal_values.specs.declared.value.Value.{Value}
use Rattle.hal_states.specs.Spots.{Holds, Refers, Nowhere}
use Rattle.hal_meaning.specs.Places.{Place}
use Rattle.hal_meaning.specs.Runs as tree
use Rattle.hal_meaning.specs.Runs.{places_of_process}
use Rattle.hal_meaning.specs.Sets.{Set}
use Rattle.hal_code.specs.declared.row.OwnPlace.{OwnPlace}
use Rattle.hal_code.specs.declared.row.OwnPlace.TheVariants as place
use Rattle.hal_code.specs.declared.row.Process.{Process}
use Rattle.hal_code.specs.declared.row.Run.{Run}
use Rattle.hal_code.specs.declared.row.View.{View}
use Rattle.hal_code.specs.Images as machine
use Rattle.hal_code.specs.Images.{expanded, start_of, tables_of, places_of}
use Rattle.hal_runs.specs.Joined.{rows_joined}
use Rattle.hal_runs.specs.Same.{same_cell, same_place}
use Rattle.hal_runs.proofs.Expanded.{rows_again}
use Rattle.hal_runs.proofs.Same.{cell_same, place_same}
use Rattle.hal_link.specs.Linking.{Linked, own_row, processes_from, known_start, image_with}
use Rattle.hal_link.specs.Outlines.{Outline, outlines_of, block_of}
use Rattle.hal_link.specs.Shapes.{shapes_of, reference_shape}

starts_same : (starts : List EventStart) → map start_of (map known_start starts) ≡ starts
starts_same [] = refl
starts_same (one ∷ starts) = ap (λ l. one ∷ l) (starts_same starts)

names_same : (s : Set) (os : List Outline) (p : ℕ) (names : List (List ℕ)) → map (λ (one : Process). one.name) (processes_from s os p names) ≡ names
names_same s os p [] = refl
names_same s os p (name ∷ names) = ap (λ l. name ∷ l) (names_same s os (suc p) names)

pub tables_same : (s : Set) (views : List View) (one : Linked) → tables_of (image_with s views one) ≡ s.tables
tables_same s views one =
    subst (λ cells. tables_of (image_with s views one) ≡ (record { cells = cells; processes = s.tables.processes; first = s.tables.first; events = s.tables.events; expressions = s.tables.expressions; names = s.tables.names }))
    (rows_again same_cell cell_same s.tables.cells)
    (subst (λ names. tables_of (image_with s views one) ≡
    (record { cells = expanded (rows_joined same_cell s.tables.cells); processes = names; first = s.tables.first; events = s.tables.events; expressions = s.tables.expressions; names = s.tables.names }))
    (names_same s (outlines_of s) 0 s.tables.processes)
    (subst (λ events. tables_of (image_with s views one) ≡
    (record {
      cells = expanded (rows_joined same_cell s.tables.cells);
      processes = map (λ (p : Process). p.name) (processes_from s (outlines_of s) 0 s.tables.processes);
      first = s.tables.first;
      events = events;
      expressions = s.tables.expressions;
      names = s.tables.names;
    }))
    (starts_same s.tables.events) refl))

-- the row of the process with this number
abbrev pub row_of : Set → List Outline → List ℕ → ℕ → Process
row_of s os name p = record { name = name; block = block_of os p; places = rows_joined same_place (map (own_row s (shapes_of s)) (places_of_process s p)) }

pub process_there : (s : Set) (os : List Outline) (q p : ℕ) (names : List (List ℕ)) (name : List ℕ) → slice_get names q ≡ Some name → slice_get (processes_from s os p names) q ≡ Some (row_of s os name (p + q))
process_there s os q p [] name is = absurd (cc)
process_there s os zero p (one ∷ names) name is =
    let same : one ≡ name = cc in
    let number : p ≡ p + 0 = omega arith in
    ap (λ n. Some (row_of s os n p)) same ∙ ap (λ k. Some (row_of s os name k)) number
process_there s os (suc q) p (one ∷ names) name is =
    let number : suc p + q ≡ p + suc q = omega arith in
    process_there s os q (suc p) names name is ∙ ap (λ k. Some (row_of s os name k)) number

held_by : (k : Option Kind) (v : Value) (shape : ℕ) → machine.held_first (elim k [ None ↦ place.Reference shape | Some one ↦ place.Data one v ]) ≡ (elim k [ None ↦ Refers Nowhere | Some one ↦ Holds v ])
held_by None v shape = refl
held_by (Some one) v shape = refl

held_same : (s : Set) (places : List Place) → map machine.held_first (map (own_row s (shapes_of s)) places) ≡ map tree.held_first places
held_same s [] = refl
held_same s (one ∷ places) =
    ap (λ l. machine.held_first (own_row s (shapes_of s) one) ∷ l) (held_same s places) ∙ ap (λ h. h ∷ map tree.held_first places) (held_by one.kind one.initial (reference_shape s (shapes_of s) one.owner))

abbrev no_common : List (Run OwnPlace)
no_common = []

-- its own places begin as the set says
pub places_begin : (s : Set) (views : List View) (one : Linked) (p : ℕ) (name : List ℕ) → slice_get s.tables.processes p ≡ Some name
    → map machine.held_first (places_of (image_with s views one) p) ≡ map tree.held_first (places_of_process s p)
places_begin s views one p name is =
    let there = process_there s (outlines_of s) p 0 s.tables.processes name is in
    let number : 0 + p ≡ p = omega arith in
    ap (λ (o : Option Process). map machine.held_first (elim o [ None ↦ [] | Some process ↦ expanded no_common ++ expanded process.places ])) there
    ∙ (ap (map machine.held_first) (rows_again same_place place_same (map (own_row s (shapes_of s)) (places_of_process s (0 + p)))) ∙ (held_same s (places_of_process s (0 + p)) ∙ ap (λ k. map tree.held_first (places_of_process s k)) number))
