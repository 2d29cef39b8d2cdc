-- The result of a FUNCTION is of one class in the FUNCTION and in its written template.
use Rattle.std.proofs.Common.{◌≡◌, ℕ, Bool, true, false, List, Option, Some, None, if◌then◌else◌, refl, sym, ap, ◌∙◌}
use Rattle.std.specs.Option.{is_some}
use Rattle.hal_grammar.specs.Declarations.{Kind, IntegerKind, BooleanKind, EventKind, BitKind, CharacterKind, StructureKind, Typed}
use Rattle.hal_grammar.specs.Units.{Head, Precision, Returns, NoKind, HasKind}
use Rattle.hal_phrases.specs.Phrases.{Phrase}
use Rattle.hal_names.specs.Laws.{IsCounted}
use Rattle.hal_scope.specs.Rules.{IsSound, rows}
use Rattle.hal_types.specs.Rules.{type_rows}
use Rattle.hal_kinds.specs.declared.class.Class.{Class}
use Rattle.hal_kinds.specs.declared.class.Class.TheVariants as class
use Rattle.hal_kinds.specs.Classes.{class_of_result, class_of_returns, class_of_called_head}
use Rattle.hal_kinds.specs.Data.{class_of_type, is_event_type, is_structure_type}
use Rattle.hal_values.specs.declared.value.Kind as values
use Rattle.hal_values.specs.declared.value.Kind.TheVariants as kind
use Rattle.hal_constants.specs.Constants.{constant_of}
use Rattle.hal_constants.specs.Known.{Known, bits_kind, text_kind, kind_of, kind_of_type, known, size_of}
use Rattle.hal_templates.specs.Giving.{HaveSameResult, IsSameResult}
use Rattle.hal_templates.specs.Heads.{is_double, within}
use Rattle.hal_fit_names.specs.Suited.{AreDeclared, HasFitLiterals}
use Rattle.hal_fit_names.proofs.Heads.{AreCalled, Functions, Procedures}
use Rattle.hal_fit_names.proofs.Placing.{HeadPlaced, IsPlaced, ReturnsPlaced}
use Rattle.hal_fit_names.proofs.Pooled.{agree_some, structure_by_template}
use Rattle.hal_fit_names.proofs.Sizing.{is_valued, kind_known}

-- the class of the values that cells of a kind hold
abbrev class_of_cells : values.Kind → Class
class_of_cells kind.Single = class.Integer
class_of_cells kind.Double = class.Integer
class_of_cells (kind.Bits n) = class.Bits
class_of_cells (kind.Text n) = class.Text

-- cells of an integer, of bits and of a text are of the class of these
of_integer : (double : Bool) (cells : values.Kind) → Some (if double then kind.Double else kind.Single) ≡ Some cells → Some class.Integer ≡ Some (class_of_cells cells)
of_integer true cells is = let same : kind.Double ≡ cells = cc in ap (λ k. Some (class_of_cells k)) same
of_integer false cells is = let same : kind.Single ≡ cells = cc in ap (λ k. Some (class_of_cells k)) same

of_bits : (o : Option ℕ) (cells : values.Kind) → bits_kind o ≡ Some cells → Some class.Bits ≡ Some (class_of_cells cells)
unfolding bits_kind
of_bits None cells is = absurd (cc)
of_bits (Some n) cells is = let same : kind.Bits n ≡ cells = cc in ap (λ k. Some (class_of_cells k)) same

of_text : (o : Option ℕ) (cells : values.Kind) → text_kind o ≡ Some cells → Some class.Text ≡ Some (class_of_cells cells)
unfolding text_kind
of_text None cells is = absurd (cc)
of_text (Some n) cells is = let same : kind.Text n ≡ cells = cc in ap (λ k. Some (class_of_cells k)) same

-- a result whose kind is known, which is no event and no structure, is of the class of its cells
result_of_cells : (ps : List Phrase) (vs : Known) (p : Phrase) (double : Bool) (t : Kind) (cells : values.Kind) → is_event_type (Some t) ≡ false → is_structure_type (Some t) ≡ false → kind_of ps vs p double t ≡ Some cells
    → class_of_result t ≡ Some (class_of_cells cells)
unfolding class_of_result class_of_type kind_of is_event_type is_structure_type
result_of_cells ps vs p double (IntegerKind place) cells eventless plain is = of_integer double cells is
result_of_cells ps vs p double (BooleanKind place) cells eventless plain is = let same : kind.Bits 1 ≡ cells = cc in ap (λ k. Some (class_of_cells k)) same
result_of_cells ps vs p double (EventKind place) cells eventless plain is = absurd (cc)
result_of_cells ps vs p double (BitKind place size) cells eventless plain is = of_bits (size_of 32 (constant_of ps vs p size)) cells is
result_of_cells ps vs p double (CharacterKind place size) cells eventless plain is = of_text (size_of 255 (constant_of ps vs p size)) cells is
result_of_cells ps vs p double (StructureKind place template copies) cells eventless plain is = absurd (cc)

-- an event and a structure are no results
no_event_result : (t : Kind) → is_event_type (Some t) ≡ true → class_of_result t ≡ None
unfolding class_of_result is_event_type
no_event_result (EventKind place) is = refl
no_event_result (IntegerKind place) is = absurd (cc)
no_event_result (BooleanKind place) is = absurd (cc)
no_event_result (BitKind place size) is = absurd (cc)
no_event_result (CharacterKind place size) is = absurd (cc)
no_event_result (StructureKind place template copies) is = absurd (cc)

no_structure_result : (t : Kind) → is_structure_type (Some t) ≡ true → class_of_result t ≡ None
unfolding class_of_result is_structure_type
no_structure_result (StructureKind place template copies) is = refl
no_structure_result (IntegerKind place) is = absurd (cc)
no_structure_result (BooleanKind place) is = absurd (cc)
no_structure_result (EventKind place) is = absurd (cc)
no_structure_result (BitKind place size) is = absurd (cc)
no_structure_result (CharacterKind place size) is = absurd (cc)

module _ (ps : List Phrase) (named : IsSound rows ps) (sound : IsSound type_rows ps) (counted : IsCounted ps) (declared : AreDeclared ps) (literals : HasFitLiterals ps) where
  -- the kind of a result that is placed is known
  pub result_kind_known : (p : Phrase) (t : Kind) (double : Bool) → is_valued p.node ≡ false → is_structure_type (Some t) ≡ false → IsPlaced ps (within p) (Typed t) → (cells : values.Kind) × (kind_of_type ps (known ps) (within p) double (Some t) ≡ Some cells)
  result_kind_known p t double plain unstructured placed =
      kind_known ps named sound counted declared literals (within p) double t (λ valued. absurd (let other : true ≡ false = sym valued ∙ plain in cc)) unstructured placed

  module _ (p q : Phrase) (mine : is_valued p.node ≡ false) (theirs : is_valued q.node ≡ false) where
    -- two results that mean the same are of one class
    single_result : (k l : Kind) (one other : Option Precision) → IsSameResult ps (known ps) p k one q l other → is_event_type (Some k) ≡ false → is_structure_type (Some k) ≡ false → IsPlaced ps (within p) (Typed k) → IsPlaced ps (within q) (Typed l)
        → class_of_result l ≡ class_of_result k
    unfolding kind_of_type
    single_result k l one other same eventless plain placed placed_too =
        let eventless_too : is_event_type (Some l) ≡ false = sym same.event ∙ eventless in
        let plain_too : is_structure_type (Some l) ≡ false =
        structure_by_template (Some l) ∙ (ap (λ (o : Option (List ℕ)). is_some o) (sym same.template) ∙ (sym (structure_by_template (Some k)) ∙ plain)) in
        let first = result_kind_known p k (is_double one) mine plain placed in
        let second = result_kind_known q l (is_double other) theirs plain_too placed_too in
        let kinds : first.0 ≡ second.0 = agree_some (kind_of ps (known ps) (within p) (is_double one) k) (kind_of ps (known ps) (within q) (is_double other) l) first.0 second.0 same.kind first.1 second.1 in
        result_of_cells ps (known ps) (within q) (is_double other) l second.0 eventless_too plain_too second.1
        ∙ (ap (λ c. Some (class_of_cells c)) (sym kinds) ∙ sym (result_of_cells ps (known ps) (within p) (is_double one) k first.0 eventless plain first.1))

    same_result : (k l : Kind) (one other : Option Precision) → IsSameResult ps (known ps) p k one q l other → (eventful structured : Bool) → is_event_type (Some k) ≡ eventful → is_structure_type (Some k) ≡ structured → IsPlaced ps (within p) (Typed k)
        → IsPlaced ps (within q) (Typed l) → class_of_result l ≡ class_of_result k
    same_result k l one other same true structured event structure placed placed_too = no_event_result l (sym same.event ∙ event) ∙ sym (no_event_result k event)
    same_result k l one other same false true event structure placed placed_too =
        no_structure_result l (structure_by_template (Some l) ∙ (ap (λ (o : Option (List ℕ)). is_some o) (sym same.template) ∙ (sym (structure_by_template (Some k)) ∙ structure))) ∙ sym (no_structure_result k structure)
    same_result k l one other same false false event structure placed placed_too = single_result k l one other same event structure placed placed_too

    same_returns : (returns other : Returns) → HaveSameResult ps (known ps) p returns q other → ReturnsPlaced ps p returns → ReturnsPlaced ps q other → class_of_returns other ≡ class_of_returns returns
    unfolding class_of_returns
    same_returns NoKind NoKind same placed placed_too = refl
    same_returns NoKind (HasKind l other) same placed placed_too = absurd same
    same_returns (HasKind k one) NoKind same placed placed_too = absurd same
    same_returns (HasKind k one) (HasKind l other) same placed placed_too = same_result k l one other same (is_event_type (Some k)) (is_structure_type (Some k)) refl refl placed placed_too

    -- so are the results of a template and of its unit
    pub same_class : {head other : Head} → AreCalled ps (known ps) p q head other → HeadPlaced ps p head → HeadPlaced ps q other → class_of_called_head other ≡ class_of_called_head head
    unfolding class_of_called_head
    same_class (Procedures at there inputs outputs other_inputs other_outputs mode other_mode same) placed placed_too = refl
    same_class (Functions at there inputs other_inputs returns other_returns mode other_mode same result) placed placed_too = same_returns returns other_returns result placed placed_too
