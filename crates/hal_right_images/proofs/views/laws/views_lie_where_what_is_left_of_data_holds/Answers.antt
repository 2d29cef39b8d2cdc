use Rattle.std.specs.List.{sum_by}
use Rattle.std.specs.Prelude.{◌≡◌, ℕ, nat_le, List, [], ◌∷◌, zero, suc, true, map, Some, slice_get}
use Rattle.std.proofs.Common.{sym, ap, subst, ◌∙◌}
use Rattle.std.proofs.lemmas.Bool.{and_parts, leb-true}
use Rattle.hal_values.specs.declared.value.Kind.{Kind}
use Rattle.hal_values.specs.declared.tables.Tables.{Tables}
use Rattle.hal_phrases.specs.Phrases.{Phrase}
use Rattle.hal_code.specs.declared.image.ImageParts.{ImageParts}
use Rattle.hal_code.specs.declared.row.View.{View}
use Rattle.hal_code.specs.declared.row.Run.{Run}
use Rattle.hal_code.specs.Images as images
use Rattle.hal_code.specs.Images.{row_count}
use Rattle.hal_code.specs.Memory.{spread_limit, spread_of}
use Rattle.hal_meaning.specs.Bodies.{processes_of}
use Rattle.hal_meaning.specs.Places.{places_of, unit_numbers}
use Rattle.hal_meaning.specs.ReportNames.{path_of}
use Rattle.hal_meaning.specs.Sets.{Set, cells_of, set_of}
use Rattle.hal_reach.specs.Places.{is_among}
use Rattle.hal_reach.proofs.Callees.{has_unit}
use Rattle.hal_link.specs.CalledViews.{views_of}
use Rattle.hal_link.specs.Linking.{own_row}
use Rattle.hal_link.specs.Shapes.{shapes_of}
use Rattle.hal_link.proofs.Linked.{image_placed}
use Rattle.hal_fit_layout.proofs.Laid.{own_rows}
use Rattle.hal_fit_layout.proofs.Parameters.{places_are}
use Rattle.hal_right_images.proofs.rows.Calling.{placed}
use Rattle.hal_right_images.proofs.rows.Bodied.{body_is, head_unit}
use Rattle.hal_right_images.proofs.rows.GroupingFiles.{all_grouped}
use Rattle.hal_right_images.proofs.rows.HomingFiles.{all_home}
use Rattle.hal_right_images.proofs.rows.LookingUp.{LooksUp}
use Rattle.hal_right_images.proofs.rows.Made.{image_is}
use Rattle.hal_right_images.proofs.rows.Nesting.{StandsNested, all_nested}
use Rattle.hal_right_images.proofs.rows.Stored.{each_at}
use Rattle.hal_right_images.proofs.rows.Told.{IsTold}
use Rattle.hal_right_images.proofs.rows.ToldUnits.{set_told}
use Rattle.hal_right_images.specs.views.Holding.{DataHold, ReferencesHold}
use Rattle.hal_right_images.specs.views.Placed.{AreWellPlaced, PoolsMatch}
use Rattle.hal_right_images.proofs.views.ChosenViews.{chosen_lie}
use Rattle.hal_right_images.proofs.views.Held.{elements_lie}
use Rattle.hal_right_images.proofs.views.Inner.{stands_inner}
use Rattle.hal_right_images.proofs.views.Laying.{all_hold}
use Rattle.hal_right_images.proofs.views.Leading.{lead_all}
use Rattle.hal_right_images.proofs.views.Nested.{pools_hold_none, programs_alone}
use Rattle.hal_right_images.proofs.views.Pools.{pools_match}
use Rattle.hal_right_images.proofs.views.Standing.{items_stand, stands_alone}
use Rattle.hal_right_images.proofs.views.Referring.{references_hold}
use Rattle.hal_right_images.proofs.views.Outside.{stands_outside}
use Rattle.hal_right_images.proofs.views.OwnPlaces.{parameters_lie, places_lie}
use Rattle.hal_right_images.proofs.views.laws.views_lie_where_what_is_left_of_data_holds.Goals as goal

-- a member of a list that is mapped
mapped_at : {X Y : Type 0} (f : X → Y) (xs : List X) (n : ℕ) (x : X) → slice_get xs n ≡ Some x → slice_get (map f xs) n ≡ Some (f x)
mapped_at f [] n x is = absurd (cc)
mapped_at f (y ∷ xs) zero x is = ap (λ z. Some (f z)) (let same : y ≡ x = cc in same)
mapped_at f (y ∷ xs) (suc n) x is = mapped_at f xs n x is

pub returns : goal.returns
returns c turns files image is given sound typed called parts in_units kept limits areas =
    let s : Set = set_of turns files in
    let views : List View = views_of s in
    let made = image_is s views image is in
    let looks : LooksUp s.phrases = record {
      counted = c.phrases_are_counted.ensures files;
      found = c.a_key_is_found_at_its_first_declaration.ensures.found files;
      lacking = c.a_key_is_found_at_its_first_declaration.ensures.lacking files;
      meant = c.what_is_meant_declares_the_name.ensures files;
    } in
    let cells : images.expanded image.cells ≡ cells_of s.phrases s.constants = ap (λ (t : Tables). t.cells) (image_placed turns files views image is).tables in
    let laid : (process own : ℕ) → slice_get (processes_of s.phrases) process ≡ Some own → images.places_of image process ≡ map (own_row s (shapes_of s)) (places_of s.phrases s.constants own) =
    (λ process own its.
    subst (λ (x : ImageParts). images.places_of x process ≡ map (own_row s (shapes_of s)) (places_of s.phrases s.constants own)) made.1
    (own_rows s views made.0 process (path_of s.phrases own) (mapped_at (path_of s.phrases) (processes_of s.phrases) process own its) ∙ ap (map (own_row s (shapes_of s))) (places_are s process own its))) in
    let stored = c.parameters_of_units_are_stored.ensures in
    let shapes : shapes_of s ≡ image.shapes = ap (λ (x : ImageParts). x.shapes) made.1 in
    let few = leb-true (sum_by (λ (runs : List (Run Kind)). row_count runs) image.shapes) spread_limit
    (and_parts (nat_le (sum_by (λ (runs : List (Run Kind)). row_count runs) image.shapes) spread_limit) (nat_le (sum_by (spread_of image) image.views) spread_limit) kept).0 in
    let references : ReferencesHold s image =
    references_hold files looks sound parts turns image shapes few laid (stored.outputs turns files sound parts)
    (λ home b found.
    let one = body_is files looks.counted turns home b found in
    placed (unit_numbers s.phrases) home (subst (λ k. is_among (unit_numbers s.phrases) k ≡ true) (looks.counted home one.phrase one.there) (has_unit s.phrases home one.phrase one.there (head_unit one.phrase.node b.head one.head)))) in
    let pools : PoolsMatch s.phrases =
    pools_match s.phrases (λ k p there. each_at (IsTold s.phrases) s.phrases k p (set_told files) there) (c.a_written_template_gives_what_its_unit_shows.ensures files given sound) in
    let nested : (k : ℕ) (p : Phrase) → slice_get s.phrases k ≡ Some p → StandsNested s.phrases p = (λ k p there. each_at (StandsNested s.phrases) s.phrases k p (all_nested files in_units) there) in
    let items = items_stand s.phrases looks pools (pools_hold_none s.phrases nested) in
    let well : AreWellPlaced s.phrases s.constants = record {
      stand = record { items = items; alone = stands_alone files looks sound typed pools s.constants };
      outside = stands_outside files looks sound typed s.constants;
      inner = stands_inner files looks sound typed called items (programs_alone s.phrases nested) s.constants;
    } in
    let hold : DataHold s image =
    all_hold s looks (all_home files) (all_grouped files) well image cells laid references
    (λ unit b found. let one = body_is files looks.counted turns unit b found in
    (one.phrase, subst (λ k. slice_get s.phrases k ≡ Some one.phrase) (sym one.number) one.there, head_unit one.phrase.node b.head one.head)) in
    c.views_lie_where_all_that_they_are_for_does.ensures turns files image is
    (record {
      elements = elements_lie image s hold;
      chosen = chosen_lie s image limits few hold (lead_all files looks sound parts turns (λ site role place name first others subscript led same says leads.
          c.names_of_parts_lead_to_components.ensures turns files site role place name first others subscript led given sound same says leads));
      places = places_lie s looks.counted image laid (all_grouped files);
      parameters = parameters_lie s looks.counted image laid (stored.inputs turns files sound parts);
      areas = areas hold;
    })
