-- The names of the report of a linked image are right.
use Rattle.std.specs.Prelude.{◌≡◌, ℕ, zero, suc, ◌+◌, nat_le, true, List, [], ◌∷◌, length, map, Some, slice_get, Ok}
use Rattle.std.specs.List.{list_all, sum_by}
use Rattle.std.proofs.Common.{ap, subst, ◌∙◌, arith}
use Rattle.std.proofs.lemmas.Bool.{and_from, le-leb}
use Rattle.std.proofs.lemmas.List.{length-map}
use Rattle.hal_grammar.specs.Units.{File}
use Rattle.hal_phrases.specs.Phrases.{Phrase}
use Rattle.hal_phrases.specs.GatheredUnits.{phrases_of}
use Rattle.hal_names.specs.Laws.{IsCounted}
use Rattle.hal_constants.specs.Known.{Known, known}
use Rattle.hal_values.specs.declared.tables.Cell.{Cell}
use Rattle.hal_code.specs.declared.image.ImageParts.{ImageParts}
use Rattle.hal_code.specs.declared.row.View.{View}
use Rattle.hal_code.specs.Memory.{spread_limit}
use Rattle.hal_code.specs.Operands.{events_of}
use Rattle.hal_code.specs.Right.{line_count, name_right, names_right}
use Rattle.hal_meaning.specs.Bodies.{processes_of}
use Rattle.hal_meaning.specs.Events.{declared_events, start_of}
use Rattle.hal_meaning.specs.ReportNames.{path_of, rows_of}
use Rattle.hal_meaning.specs.Sets.{Set, set_of}
use Rattle.hal_calls.specs.Programs.{has_program}
use Rattle.hal_limits.specs.Limits.{IsWithin}
use Rattle.hal_runs.specs.Joined.{rows_joined}
use Rattle.hal_runs.specs.Same.{same_cell}
use Rattle.hal_runs.proofs.Expanded.{rows_again}
use Rattle.hal_runs.proofs.Same.{cell_same}
use Rattle.hal_link.specs.Linking.{Linked, known_start, own_row, image_of, image_with}
use Rattle.hal_link.specs.Outlines.{outlines_of}
use Rattle.hal_link.specs.Shapes.{shapes_of}
use Rattle.hal_fit_layout.proofs.Counting.{rows_counted}
use Rattle.hal_fit_layout.proofs.Laid.{own_rows}
use Rattle.hal_fit_layout.proofs.Parameters.{places_are}
use Rattle.hal_fit_layout.proofs.Rows.{rows_long}
use Rattle.hal_right_images.proofs.rows.Lines.{few_lines}
use Rattle.hal_right_images.proofs.rows.Made.{image_is}
use Rattle.hal_right_images.proofs.rows.Reported.{rows_right}
use Rattle.hal_right_images.proofs.rows.Small.{some_process}

path_there : (ps : List Phrase) (ks : List ℕ) (p k : ℕ) → slice_get ks p ≡ Some k → slice_get (map (path_of ps) ks) p ≡ Some (path_of ps k)
path_there ps [] p k is = absurd (cc)
path_there ps (x ∷ ks) zero k is = ap (λ n. Some (path_of ps n)) (let same : x ≡ k = cc in same)
path_there ps (x ∷ ks) (suc p) k is = path_there ps ks p k is

module _ (turns : ℕ) (files : List File) (counted : IsCounted (phrases_of files)) (within : IsWithin (phrases_of files) (known (phrases_of files))) (program : has_program (phrases_of files) ≡ true) (views : List View) where
  abbrev ps : List Phrase
  ps = phrases_of files

  abbrev vs : Known
  vs = known (phrases_of files)

  abbrev s : Set
  s = set_of turns files

  linked_names : (one : Linked) → names_right (image_with s views one) ≡ true
  linked_names one =
      let image : ImageParts = image_with s views one in
      let some = some_process ps program in
      let cells = rows_counted (rows_joined same_cell s.tables.cells) ∙ ap (λ (l : List Cell). length l) (rows_again same_cell cell_same s.tables.cells) in
      let processes = rows_long s (outlines_of s) 0 s.tables.processes in
      let paths = length-map (processes_of ps) (path_of ps) in
      let starts = length-map s.tables.events known_start in
      let declared = length-map (declared_events ps) (start_of ps vs) in
      let events : events_of image ≡ length (processes_of ps) + length (declared_events ps) = omega (arith, processes, paths, starts, declared) in
      let lines = few_lines ps vs counted some in
      let few = within.cells in
      let few_events = within.events in
      and_from (nat_le (sum_by line_count (rows_of ps vs)) spread_limit) (list_all (name_right image) (rows_of ps vs)) (le-leb (sum_by line_count (rows_of ps vs)) spread_limit (omega (arith, lines, few, few_events)))
      (rows_right s counted image (shapes_of s) cells
      (λ p k there. own_rows s views one p (path_of ps k) (path_there ps (processes_of ps) p k there) ∙ ap (map (own_row s (shapes_of s))) (places_are s p k there)) events some)

  pub names_are_right : (image : ImageParts) → image_of s views ≡ Ok image → names_right image ≡ true
  names_are_right image is =
      let made = image_is s views image is in
      subst (λ (x : ImageParts). names_right x ≡ true) made.1 (linked_names made.0)
