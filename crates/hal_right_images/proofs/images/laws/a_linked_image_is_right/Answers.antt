use Rattle.std.specs.Prelude.{◌≡◌, nat_le, ◌&&◌, List}
use Rattle.std.specs.List.{list_all, sum_by}
use Rattle.std.proofs.Common.{refl, ap, subst}
use Rattle.std.proofs.lemmas.Bool.{and_from, and_parts}
use Rattle.std.proofs.lemmas.List.{length-map}
use Rattle.hal_phrases.specs.GatheredUnits.{phrases_of}
use Rattle.hal_values.specs.declared.value.Kind.{Kind}
use Rattle.hal_code.specs.declared.image.ImageParts.{ImageParts}
use Rattle.hal_code.specs.declared.row.Run.{Run}
use Rattle.hal_code.specs.declared.row.View.{View}
use Rattle.hal_code.specs.Images.{row_count}
use Rattle.hal_code.specs.Memory.{spread_limit, spread_of}
use Rattle.hal_code.specs.Right.{form_right, views_lie}
use Rattle.hal_meaning.specs.Bodies.{processes_of}
use Rattle.hal_meaning.specs.ReportNames.{path_of}
use Rattle.hal_meaning.specs.Runs.{places_of_process}
use Rattle.hal_meaning.specs.Sets.{Set, set_of}
use Rattle.hal_agreement.specs.PlacedBlocks.{unit_site}
use Rattle.hal_link.proofs.Linked.{image_placed}
use Rattle.hal_link.specs.CalledViews.{views_of}
use Rattle.hal_link.specs.Shapes.{Shapes, shapes_of}
use Rattle.hal_fit_calls.specs.Each.{Each}
use Rattle.hal_fit_layout.specs.Rows.{IsNumbered}
use Rattle.hal_right_images.proofs.rows.Made.{image_is}
use Rattle.hal_right_images.proofs.images.Knowing.{all_fit, cells_of_image, rows_of_image}
use Rattle.hal_right_images.proofs.images.Serving.{AreGiven}
use Rattle.hal_right_images.proofs.images.Units.{UnitsAreKnown, units_are_known}
use Rattle.hal_right_images.proofs.images.laws.a_linked_image_is_right.Goals as goal

pub returns : goal.returns
returns c turns files image is accepted few_turns =
    let s : Set = set_of turns files in
    let views : List View = views_of s in
    let counted = c.phrases_are_counted.ensures files in
    let tables = (c.a_set_is_a_load.ensures turns files (c.a_set_within_its_limits_is_small.ensures turns files accepted.within accepted.program few_turns)).right in
    let blocks = c.each_block_of_a_linked_image_is_of_a_process_or_a_unit.ensures in
    let stored = c.parameters_of_units_are_stored.ensures in
    let calls = c.what_update_blocks_call_is_harmless.ensures in
    let statements = c.the_statements_of_each_known_unit_fit.ensures in
    let words = c.what_right_words_spell_is_spelled.ensures in
    let parts = words.parts files accepted.spelled in
    let given : AreGiven s views image =
    record {
      locked = accepted.locked;
      acyclic = c.a_set_that_breaks_no_rule_of_calls_has_no_cycles.ensures.acyclic (phrases_of files) counted accepted.called;
      fit = λ g u places unit b found known. statements.fit image g u s files places unit b refl refl accepted.typed accepted.locked found known;
      inside = λ g v places unit b found known harmless. statements.inside image g v s files places unit b refl refl accepted.typed accepted.locked found known harmless;
      called = λ p q among inside is. calls.called (phrases_of files) accepted.locked p q among inside is;
      itself = λ q harmless. calls.itself (phrases_of files) q harmless;
      on = λ q r unit called harmless. calls.on (phrases_of files) q r unit called harmless;
      rows = blocks.rows turns files views image is;
      tables = (image_placed turns files views image is).tables;
      known = blocks.known turns files views image is;
      own = blocks.own turns files views image is;
      few = tables.few_processes;
    } in
    let reentrant = c.a_set_that_breaks_no_rule_of_calls_has_no_cycles.ensures.reentrant (phrases_of files) counted accepted.called in
    let long = length-map (processes_of (phrases_of files)) (path_of (phrases_of files)) in
    let cells = cells_of_image s views image is refl long counted reentrant accepted.within.cells in
    let units : UnitsAreKnown s image =
    units_are_known s image counted
    (λ g u places b q within path.
    c.references_with_a_path_are_known.ensures image g u files (unit_site s places b) q refl refl accepted.given accepted.named accepted.typed (words.literals files accepted.spelled) within path)
    (λ unit b found. c.units_have_bodies.ensures.unit files s unit b refl refl found)
    (λ g u places b serves stands rest.
    c.units_are_known_where_what_is_left_is.ensures image g u files (unit_site s places b) b.number refl refl refl serves stands
    (record { tables = (image_placed turns files views image is).tables; processes = long; events = refl }) accepted.given accepted.named accepted.typed
    (words.literals files accepted.spelled) (words.lists files accepted.spelled) rest) in
    let shapes : shapes_of s ≡ image.shapes = ap (λ (x : ImageParts). x.shapes) (image_is s views image is).1 in
    c.an_image_of_blocks_that_fit_is_right.ensures turns files views image is
    (all_fit s counted views image is tables.few_processes (stored.inputs turns files accepted.named parts) (stored.outputs turns files accepted.named parts) accepted.few given units)
    (rows_of_image s views image is tables refl long counted reentrant accepted.within.cells (blocks.own turns files views image is)
    (record {
      references = λ process. subst (λ (x : Shapes). Each (IsNumbered s x) (places_of_process s process)) shapes (c.references_of_processes_are_to_shapes.ensures turns files accepted.named parts process);
      shapes = c.the_shapes_of_an_image_are_right.ensures s views image is accepted.few;
      views = and_from (list_all (form_right image) image.views && nat_le (sum_by (spread_of image) image.views) spread_limit) (views_lie image 0 image.views)
          (and_from (list_all (form_right image) image.views) (nat_le (sum_by (spread_of image) image.views) spread_limit) (c.views_of_an_image_are_formed.ensures turns files image is)
          (and_parts (nat_le (sum_by (λ (runs : List (Run Kind)). row_count runs) image.shapes) spread_limit) (nat_le (sum_by (spread_of image) image.views) spread_limit) accepted.few).1) (c.views_lie_where_what_is_left_of_data_holds.ensures turns files image is accepted.given accepted.named accepted.typed accepted.called parts (words.nested files accepted.spelled) accepted.few cells
          (c.arguments_have_the_cells_of_their_parameters.ensures turns files image is accepted.given accepted.named accepted.typed (words.literals files accepted.spelled) (words.lists files accepted.spelled) accepted.few cells));
      names = c.the_names_of_an_image_are_right.ensures turns files views image is accepted.within accepted.program;
    }))
