use Rattle.std.specs.List.{sum_by}
use Rattle.std.specs.Prelude.{◌≡◌, nat_le, List}
use Rattle.std.proofs.Common.{ap}
use Rattle.std.proofs.lemmas.Bool.{and_parts, leb-true}
use Rattle.hal_phrases.specs.GatheredUnits.{phrases_of}
use Rattle.hal_values.specs.declared.value.Kind.{Kind}
use Rattle.hal_code.specs.declared.image.ImageParts.{ImageParts}
use Rattle.hal_code.specs.declared.row.Run.{Run}
use Rattle.hal_code.specs.Images.{row_count}
use Rattle.hal_code.specs.Memory.{spread_limit, spread_of}
use Rattle.hal_meaning.specs.Sets.{Set, set_of}
use Rattle.hal_link.specs.CalledViews.{views_of}
use Rattle.hal_link.specs.Shapes.{shapes_of}
use Rattle.hal_right_images.proofs.rows.LookingUp.{LooksUp}
use Rattle.hal_right_images.proofs.rows.Made.{image_is}
use Rattle.hal_right_images.proofs.areas.Agreeing.{constants_known}
use Rattle.hal_right_images.proofs.areas.Areas.{areas_lie}
use Rattle.hal_right_images.proofs.areas.Meaning.{KnowsTemplates}
use Rattle.hal_right_images.proofs.areas.laws.arguments_have_the_cells_of_their_parameters.Goals as goal

pub returns : goal.returns
returns c turns files image is given named typed literals spelled kept cells hold =
    let s : Set = set_of turns files in
    let made = image_is s (views_of s) image is in
    let looks : LooksUp s.phrases = record {
      counted = c.phrases_are_counted.ensures files;
      found = c.a_key_is_found_at_its_first_declaration.ensures.found files;
      lacking = c.a_key_is_found_at_its_first_declaration.ensures.lacking files;
      meant = c.what_is_meant_declares_the_name.ensures files;
    } in
    let shapes : shapes_of s ≡ image.shapes = ap (λ (x : ImageParts). x.shapes) made.1 in
    let few = leb-true (sum_by (λ (runs : List (Run Kind)). row_count runs) image.shapes) spread_limit
    (and_parts (nat_le (sum_by (λ (runs : List (Run Kind)). row_count runs) image.shapes) spread_limit) (nat_le (sum_by (spread_of image) image.views) spread_limit) kept).0 in
    let templates : KnowsTemplates (phrases_of files) = record {
      gives = c.a_written_template_gives_what_its_unit_shows.ensures files given named;
      stand = λ k p common item f prefaces unit there node home file. c.data_of_written_templates_stand_for_those_of_units.ensures files k p common item f prefaces unit given named there node home file;
    } in
    areas_lie files turns looks named typed literals (λ p common item kind double within node type plain stored. c.kinds_of_cells_are_known.ensures files p common item kind double named typed literals within node type plain stored)
    templates spelled.sizes (constants_known files turns looks named typed literals spelled templates c.what_the_checks_know_is_constant.ensures.known)
    (λ k j p q name parts path part there is leading at so. c.kinds_of_parts_are_known.ensures files k j p q name parts path part named typed literals there is leading at so) (c.the_search_never_runs_out.ensures.outward files) image shapes cells few hold
