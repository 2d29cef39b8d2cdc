use Rattle.std.specs.Prelude.{List}
use Rattle.std.proofs.Common.{refl}
use Rattle.hal_phrases.specs.Phrases.{Phrase}
use Rattle.hal_phrases.specs.GatheredUnits.{phrases_of}
use Rattle.hal_meaning.specs.Sets.{set_of}
use Rattle.hal_right_images.proofs.rows.Stored.{each_at}
use Rattle.hal_right_images.proofs.rows.Told.{IsTold}
use Rattle.hal_right_images.proofs.rows.ToldUnits.{set_told}
use Rattle.hal_right_images.proofs.views.PathsLeading.{KnowsParts, name_leads}
use Rattle.hal_right_images.proofs.views.TemplatesLeading.{pooled_leads}
use Rattle.hal_right_images.proofs.views.laws.names_of_parts_lead_to_components.Goals as goal

pub returns : goal.returns
returns c turns files site role place name first others subscript led given sound same says leads =
    let ps : List Phrase = phrases_of files in
    let knows : KnowsParts ps = record {
      meant = c.what_is_meant_declares_the_name.ensures files;
      sound = sound;
      told = λ k p there. each_at (IsTold ps) ps k p (set_told files) there;
      bottom = λ vs k j p q of parts path part there is leading at so. c.a_path_to_a_bottom_part_chooses_its_component.ensures.bottom files vs k j p q of parts path part sound there is leading at so;
      others = λ vs k j p q of parts path part there is leading at so. c.a_path_to_a_bottom_part_chooses_its_component.ensures.others files vs k j p q of parts path part sound there is leading at so;
      part = c.a_path_to_a_bottom_part_chooses_its_component.ensures.parts files;
    } in
    name_leads (set_of turns files) knows
    (pooled_leads (set_of turns files)
    (record {
      knows = knows;
      counted = c.phrases_are_counted.ensures files;
      found = c.a_key_is_found_at_its_first_declaration.ensures.found files;
      gives = c.a_written_template_gives_what_its_unit_shows.ensures files given sound;
      stand = λ k p common item f prefaces unit there is home file. c.data_of_written_templates_stand_for_those_of_units.ensures files k p common item f prefaces unit given sound there is home file;
    })
    refl)
    site role place name first others subscript led same says leads
