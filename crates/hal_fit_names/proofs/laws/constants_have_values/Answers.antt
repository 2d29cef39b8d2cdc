use Rattle.std.proofs.Common.{◌≡◌, true, List, Some, ap, ◌∙◌, subst}
use Rattle.hal_grammar.specs.Declarations.{Attribute, Declared}
use Rattle.hal_phrases.specs.Phrases.{Phrase, OfItem}
use Rattle.hal_phrases.specs.GatheredUnits.{phrases_of}
use Rattle.hal_scope.specs.Rules.{IsAmong}
use Rattle.hal_values.specs.declared.value.Value.{Value}
use Rattle.hal_constants.specs.Known.{Known, known}
use Rattle.hal_constants.specs.Naming.{is_value_item, value_at}
use Rattle.hal_fit_names.proofs.Placing.{items_are_placed}
use Rattle.hal_fit_names.proofs.Worth.{constant_has_value, constants_are_told}
use Rattle.hal_fit_names.proofs.laws.constants_have_values.Goals as goal

pub returns : goal.returns
returns c files s whole has named sound literals spelled =
    let counted = c.phrases_are_counted.ensures files in
    let worth : (p : Phrase) (common : List Attribute) (item : Declared) → IsAmong p (phrases_of files) → p.node ≡ OfItem common item → is_value_item common item ≡ true
    → (one : Value) × (value_at (known (phrases_of files)) p.number ≡ Some one) =
    λ p common item within is valued. constant_has_value (phrases_of files) named sound counted (c.what_is_meant_declares_the_name.ensures files) literals spelled (items_are_placed files counted) (constants_are_told files counted) p
    common item within is valued in
    λ p common item within is valued.
    let one = worth p common item (subst (λ (ps : List Phrase). IsAmong p ps) whole within) is valued in (one.0, ap (λ (vs : Known). value_at vs p.number) (has ∙ ap known whole) ∙ one.1)
