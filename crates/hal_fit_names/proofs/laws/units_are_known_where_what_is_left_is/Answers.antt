use Rattle.std.proofs.Common.{◌≡◌, ◌⊎◌, ℕ, true, List, Some, slice_get, sym, ap, ◌∙◌, subst}
use Rattle.hal_grammar.specs.Leaves.{Naming}
use Rattle.hal_grammar.specs.Declarations.{Attribute, Declaration, Declared}
use Rattle.hal_grammar.specs.Units.{Head}
use Rattle.hal_phrases.specs.Phrases.{Phrase, OfItem, OfTemplate, OfUnit, OfTemporaryGroup}
use Rattle.hal_phrases.specs.GatheredUnits.{phrases_of}
use Rattle.hal_names.specs.Laws.{IsCounted}
use Rattle.hal_names.specs.Means.{means}
use Rattle.hal_scope.specs.Rules.{IsAmong, IsSound, rows}
use Rattle.hal_types.specs.Rules.{type_rows}
use Rattle.hal_constants.specs.Known.{Known, known}
use Rattle.hal_constants.specs.Naming.{is_value_item, value_at}
use Rattle.hal_meaning.specs.Bodies.{is_process_head}
use Rattle.hal_meaning.specs.Calls.{inputs_of}
use Rattle.hal_agreement.specs.Sites.{within_block}
use Rattle.hal_fit_rules.specs.Happening.{StandsForProcess}
use Rattle.hal_fit_names.specs.Used.{AreDeclaredParameters}
use Rattle.hal_fit_names.specs.Spelled.{AreSpelled}
use Rattle.hal_fit_names.specs.Standing.{StandsForData, StandsForItself}
use Rattle.hal_fit_names.specs.Suited.{AreDeclared, HasFitLiterals}
use Rattle.hal_fit_names.proofs.Bodied.{unit_has_body}
use Rattle.hal_fit_names.proofs.UnitPhrases.{body_has_phrase}
use Rattle.hal_fit_names.proofs.Standing.{data_or_itself}
use Rattle.hal_fit_names.proofs.UnitsKnown.{unit_known}
use Rattle.hal_fit_names.proofs.Placing.{NodePlaced, at_among, items_are_placed}
use Rattle.hal_fit_names.proofs.PooledValues.{pooled_value}
use Rattle.hal_fit_names.proofs.Processes.{stands_for_process}
use Rattle.hal_fit_names.proofs.laws.units_are_known_where_what_is_left_is.Goals as goal

pub returns : goal.returns
returns c image g u files site home whole bodies has serves stands events given named sound literals spelled rest =
    let counted = c.phrases_are_counted.ensures files in
    let each_counted = subst IsCounted (sym whole) counted in
    unit_known image g u site home (subst (IsSound rows) (sym whole) named) (subst (IsSound type_rows) (sym whole) sound) each_counted (subst AreDeclared (sym whole) (c.what_is_meant_declares_the_name.ensures files))
    (subst HasFitLiterals (sym whole) literals) (subst AreSpelled (sym whole) spelled) has serves
    (subst (λ (ps : List Phrase). (k : ℕ) (p : Phrase) (template : Naming) (head : Head) (declarations : List Declaration) → slice_get ps k ≡ Some p → p.node ≡ OfTemplate template head declarations → is_process_head head ≡ true → StandsForProcess ps k) (sym whole)
    (λ k p template head declarations there is process. stands_for_process files k p template head declarations there is process (c.a_written_template_gives_what_its_unit_shows.ensures files given named p template head declarations (at_among (phrases_of files) k p there) is)))
    (subst (λ (ps : List Phrase). (k : ℕ) (p : Phrase) (common : List Attribute) (item : Declared) → slice_get ps k ≡ Some p → p.node ≡ OfItem common item → StandsForData ps k p common item ⊎ StandsForItself ps k p common item) (sym whole)
    (λ k p common item there is. data_or_itself files named (c.a_written_template_gives_what_its_unit_shows.ensures files given named) k p common item there is sound counted))
    (c.constants_have_values.ensures files site.set whole has named sound literals spelled)
    (subst (λ (ps : List Phrase). (k : ℕ) (p : Phrase) (common : List Attribute) (item : Declared) → slice_get ps k ≡ Some p → p.node ≡ OfItem common item → is_value_item common item ≡ true → (stands_ : StandsForData ps k p common item)
    → value_at site.set.constants stands_.phrase.number ≡ value_at site.set.constants p.number) (sym whole)
    (λ k p common item there is constant stands_. ap (λ (vs : Known). value_at vs stands_.phrase.number) (has ∙ ap known whole)
    ∙ (pooled_value files named sound counted (c.what_is_meant_declares_the_name.ensures files) literals spelled k p common item there is constant stands_ ∙ sym (ap (λ (vs : Known). value_at vs p.number) (has ∙ ap known whole)))))
    (λ block k p template head declarations there is called. c.templates_of_called_units_stand_for_them.ensures files (within_block block site) k p template head declarations whole has given named sound literals spelled.sizes
    (subst (λ (ps : List Phrase). slice_get ps k ≡ Some p) whole there) is called) stands (subst (λ (ps : List Phrase). (p : Phrase) → IsAmong p ps → NodePlaced ps p p.node) (sym whole) (items_are_placed files counted))
    (λ k p name head declarations found is. unit_has_body files site.set k p name head declarations each_counted whole bodies found is)
    (λ k b found. body_has_phrase files site.set k b each_counted whole bodies found)
    (subst (λ (ps : List Phrase). (k : ℕ) (p : Phrase) (name : Naming) (head : Head) (declarations : List Declaration) → slice_get ps k ≡ Some p → p.node ≡ OfUnit name head declarations → AreDeclaredParameters ps k (inputs_of head))
    (sym whole) (λ k p name head declarations found is. c.input_parameters_are_declared.ensures files k p name head declarations named sound spelled.sizes found is)) events c.what_the_checks_know_is_constant.ensures.constant
    (subst (λ (ps : List Phrase). (k : ℕ) (p : Phrase) (labels : List Naming) (variable : Naming) → slice_get ps k ≡ Some p → p.node ≡ OfTemporaryGroup labels variable → means ps k variable.name ≡ Some k) (sym whole)
    (c.temporary_variables_mean_themselves.ensures files)) rest
