use Rattle.std.proofs.Common.{◌≡◌, ◌∙◌, ◌&&◌, Bool, List, None, Option, Some, ap, map, not, sym, true}
use Rattle.hal_grammar.specs.Declarations.{Attribute, Declared, Kind}
use Rattle.hal_tree.specs.SeenDeclarations.{seen_attribute, seen_declared}
use Rattle.hal_phrases.specs.Phrases.{Phrase}
use Rattle.hal_phrases.specs.SeenPhrases.{seen_phrase}
use Rattle.hal_names.specs.SeenNames.{seen_names}
use Rattle.hal_scope.specs.Sorts.{type_of}
use Rattle.hal_kinds.specs.Data.{is_event_type}
use Rattle.hal_constants.specs.Naming.{is_value_item}
use Rattle.hal_meaning.specs.Places.{is_in_unit, parameter}
use Rattle.hal_limits.proofs.Stored.{others_are_stored, parameters_are_stored}
use Rattle.hal_limits.proofs.shapes.stores_item.Goals as goal

pub returns-in-Some : goal.returns-in-Some
unfolding seen_declared
returns-in-Some c vs =
    let ps : List Phrase = seen_names c.args.names.now in
    let p : Phrase = seen_phrase c.args.phrase.now in
    let common : List Attribute = map seen_attribute c.args.common.now in
    let item : Declared = seen_declared c.args.item.now in
    let inside : is_in_unit ps p.around.home ≡ true = sym c.is_in_unit.ensures ∙ c.if-not-is_in_unit.false in
    let found : parameter ps p.around.home item.name.name ≡ Some c.in-Some.field-0 = sym c.parameter.ensures ∙ c.in-Some.is in
    sym (parameters_are_stored ps vs p common item c.in-Some.field-0 inside found)

pub returns-then-not-is_event_type : goal.returns-then-not-is_event_type
unfolding seen_declared
returns-then-not-is_event_type c vs =
    let ps : List Phrase = seen_names c.args.names.now in
    let p : Phrase = seen_phrase c.args.phrase.now in
    let common : List Attribute = map seen_attribute c.args.common.now in
    let item : Declared = seen_declared c.args.item.now in
    let inside : is_in_unit ps p.around.home ≡ true = sym c.is_in_unit.ensures ∙ c.if-not-is_in_unit.false in
    let none : parameter ps p.around.home item.name.name ≡ None = sym c.parameter.ensures ∙ c.in-None.is in
    let type : is_event_type (type_of common item) ≡ c.is_event_type.result = ap (λ (o : Option Kind). is_event_type o) (sym c.type_of.ensures) ∙ sym c.is_event_type.ensures in
    sym
    (others_are_stored ps vs p common item inside none
    ∙ ap (λ (event : Bool). not event && not (is_value_item common item)) (type ∙ c.if-not-is_event_type.true)
    ∙ ap (λ (constant : Bool). not constant) (sym c.is_value_item.ensures))

pub returns-else-not-is_event_type : goal.returns-else-not-is_event_type
unfolding seen_declared
returns-else-not-is_event_type c vs =
    let ps : List Phrase = seen_names c.args.names.now in
    let p : Phrase = seen_phrase c.args.phrase.now in
    let common : List Attribute = map seen_attribute c.args.common.now in
    let item : Declared = seen_declared c.args.item.now in
    let inside : is_in_unit ps p.around.home ≡ true = sym c.is_in_unit.ensures ∙ c.if-not-is_in_unit.false in
    let none : parameter ps p.around.home item.name.name ≡ None = sym c.parameter.ensures ∙ c.in-None.is in
    let type : is_event_type (type_of common item) ≡ c.is_event_type.result = ap (λ (o : Option Kind). is_event_type o) (sym c.type_of.ensures) ∙ sym c.is_event_type.ensures in
    ap (λ (event : Bool). not event) c.if-not-is_event_type.false
    ∙ sym (others_are_stored ps vs p common item inside none ∙ ap (λ (event : Bool). not event && not (is_value_item common item)) (type ∙ c.if-not-is_event_type.false))
