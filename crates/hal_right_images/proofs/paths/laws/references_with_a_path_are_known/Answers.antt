use Rattle.std.proofs.Common.{ℕ, List, ◌∷◌, sym, subst}
use Rattle.hal_grammar.specs.Leaves.{Naming}
use Rattle.hal_phrases.specs.Phrases.{Phrase}
use Rattle.hal_phrases.specs.GatheredUnits.{phrases_of}
use Rattle.hal_scope.specs.Rules.{IsSound, rows}
use Rattle.hal_types.specs.Rules.{type_rows}
use Rattle.hal_fit_names.specs.Suited.{AreDeclared}
use Rattle.hal_fit_parts.proofs.Standing.{each_among, parts_stand}
use Rattle.hal_right_images.proofs.rows.Told.{IsTold}
use Rattle.hal_right_images.proofs.rows.ToldUnits.{set_told}
use Rattle.hal_right_images.proofs.paths.Meaning.{MeansAlike, means_alike}
use Rattle.hal_right_images.proofs.paths.PathsKnown.{phrase_known}
use Rattle.hal_right_images.proofs.paths.Referring.{LeadsIn}
use Rattle.hal_right_images.proofs.paths.laws.references_with_a_path_are_known.Goals as goal

pub returns : goal.returns
returns c image g u files site q whole has given named sound literals within left =
    let declared = c.what_is_meant_declares_the_name.ensures files in
    phrase_known site (subst (IsSound rows) (sym whole) named) (subst (IsSound type_rows) (sym whole) sound) (subst AreDeclared (sym whole) declared) has
    (subst (λ (ps : List Phrase). (block : ℕ) (name : List ℕ) (n : Naming) (ns : List Naming) (leads : LeadsIn ps block name (n ∷ ns)) → MeansAlike ps leads.number leads.phrase leads.common leads.item (n ∷ ns)) (sym whole)
    (means_alike files named sound (c.phrases_are_counted.ensures files) declared literals (c.a_written_template_gives_what_its_unit_shows.ensures files given named) (c.a_key_is_found_at_its_first_declaration.ensures.found files)
    (c.a_key_is_found_at_its_first_declaration.ensures.lacking files) (c.the_search_never_runs_out.ensures.outward files) (parts_stand files) (each_among (IsTold (phrases_of files)) (phrases_of files) (set_told files)))) image g u q within left
