-- What a set declares is for the laws of names what they ask for.
use Rattle.std.proofs.Common.{◌≡◌, ℕ, Bool, false, List, ◌++◌, Some, ap, ◌∙◌}
use Rattle.hal_grammar.specs.Leaves.{Naming}
use Rattle.hal_grammar.specs.Declarations.{Kind, Double, Attribute, Declared}
use Rattle.hal_grammar.specs.Expressions.{NoExpressions}
use Rattle.hal_phrases.specs.Phrases.{Phrase, OfItem}
use Rattle.hal_names.specs.Laws.{IsCounted}
use Rattle.hal_scope.specs.Rules.{IsSound, rows}
use Rattle.hal_scope.specs.Sorts.{type_of}
use Rattle.hal_kinds.specs.Attributes.{has_mark, sizes_of}
use Rattle.hal_kinds.specs.Data.{is_event_type, is_structure_type}
use Rattle.hal_types.specs.Rules.{type_rows}
use Rattle.hal_values.specs.declared.value.Kind as values
use Rattle.hal_constants.specs.Known.{kind_of_type, known}
use Rattle.hal_constants.specs.Naming.{is_value_item}
use Rattle.hal_shapes.specs.Arguments.{parameter_of}
use Rattle.hal_agreement.specs.Sites.{Site}
use Rattle.hal_fit_rules.specs.Owned.{IsPlainData}
use Rattle.hal_fit_rules.specs.Passing.{IsParameter}
use Rattle.hal_fit_rules.specs.Valued.{HasConstants}
use Rattle.hal_fit_names.specs.Suited.{HasFitLiterals, AreDeclared}
use Rattle.hal_fit_names.proofs.Placing.{NodePlaced}
use Rattle.hal_fit_names.proofs.Sizing.{item_kind_known}

module _ (ps : List Phrase) (named : IsSound rows ps) (sound : IsSound type_rows ps) (counted : IsCounted ps) (declared : AreDeclared ps) (literals : HasFitLiterals ps) (site : Site) (whole : site.set.phrases ≡ ps) (has : HasConstants site) (p : Phrase)
    (placed : NodePlaced ps p p.node) (common : List Attribute) (item : Declared) (kind : Kind) (is : p.node ≡ OfItem common item) (typed : type_of common item ≡ Some kind) (stored : is_value_item common item ≡ false) where
  -- the kind of the cells, where the site looks it up
  pub cells_known : is_structure_type (Some kind) ≡ false → (double : Bool) → (cells : values.Kind) × (kind_of_type site.set.phrases site.set.constants p double (Some kind) ≡ Some cells)
  cells_known plain double =
      let found = item_kind_known ps named sound counted declared literals p common item kind double is typed plain stored placed in
      (found.0, ap (λ vs. kind_of_type site.set.phrases vs p double (Some kind)) has ∙ (ap (λ qs. kind_of_type qs (known qs) p double (Some kind)) whole ∙ found.1))

  pub plain_data : is_event_type (Some kind) ≡ false → is_structure_type (Some kind) ≡ false → IsPlainData site p
  plain_data eventless plain =
      let found = cells_known plain (has_mark Double (item.attributes ++ common)) in
      record {
        common = common;
        item = item;
        declares = is;
        kind = kind;
        typed = typed;
        eventless = eventless;
        unstructured = plain;
        stored = stored;
        cells = found.0;
        sized = found.1;
      }

  pub parameter_known : (unit : ℕ) (name : Naming) → parameter_of site.set.phrases unit name ≡ Some p → (sizes_of common item ≡ Some NoExpressions → ⊥) → IsParameter site unit name
  parameter_known unit name found dimensioned = record {
    phrase = p;
    found = found;
    common = common;
    item = item;
    declares = is;
    kind = kind;
    typed = typed;
    dimensioned = dimensioned;
    cells = λ plain. cells_known plain (has_mark Double (item.attributes ++ common));
  }
