-- Worked sets of files: one that keeps the rules, of which the checker computes that the laws' premises hold; and some that break one, of which it computes that no template gives its unit.
use Rattle.std.specs.Prelude.{◌≡◌, ℕ, List, [], ◌∷◌, Some, None, codes}
use Rattle.std.specs.Fmt.{digits}
use Rattle.std.proofs.Common.{◌∙◌, inl, inr, refl, sym, arith}
use Rattle.hal_base.specs.declared.refusal.Place.{Place}
use Rattle.hal_grammar.specs.Leaves.{Naming, naming}
use Rattle.hal_grammar.specs.Declarations.{IntegerKind, Attribute, Typed, declared_of, Declaration, Declare}
use Rattle.hal_grammar.specs.Units.{Head, Program, Compool, BlockOf, NoElements, template_of, Preface, Include, Templates, File, file_of}
use Rattle.hal_phrases.specs.Surroundings.{in_file}
use Rattle.hal_phrases.specs.Phrases.{Phrase, phrase, OfFile}
use Rattle.hal_phrases.specs.GatheredUnits.{phrases_of}
use Rattle.hal_names.specs.Means.{unit_named}
use Rattle.hal_scope.specs.Rules.{IsSound, rows}
use Rattle.hal_scope.proofs.Broken.{sound}
use Rattle.hal_templates.specs.Rules.{template_rows}
use Rattle.hal_templates.specs.Giving.{GivesItsUnit, IncludesItsUnit, IsUnit}
use Rattle.hal_words.specs.Reserved as words_reserved
use Rattle.hal_phrases.specs.GatheredDeclarations as phrases_gathereddeclarations
use Rattle.hal_phrases.specs.GatheredExpressions as phrases_gatheredexpressions
use Rattle.hal_phrases.specs.GatheredStatements as phrases_gatheredstatements
use Rattle.hal_phrases.specs.GatheredUnits as phrases_gatheredunits
use Rattle.hal_phrases.specs.Members as phrases_members
use Rattle.hal_names.specs.Keys as names_keys
use Rattle.hal_names.specs.Means as names_means
use Rattle.hal_scope.specs.Builtins as scope_builtins
use Rattle.hal_scope.specs.Components as scope_components
use Rattle.hal_scope.specs.Labels as scope_labels
use Rattle.hal_scope.specs.Repeated as scope_repeated
use Rattle.hal_scope.specs.Rules as scope_rules
use Rattle.hal_scope.specs.Sorts as scope_sorts
use Rattle.hal_scope.specs.Uses as scope_uses
use Rattle.hal_kinds.specs.Attributes as kinds_attributes
use Rattle.hal_kinds.specs.Classes as kinds_classes
use Rattle.hal_kinds.specs.Data as kinds_data
use Rattle.hal_kinds.specs.Subscripts as kinds_subscripts
use Rattle.hal_constants.specs.Constants as constants_constants
use Rattle.hal_constants.specs.Known as constants_known
use Rattle.hal_constants.specs.Naming as constants_naming
use Rattle.hal_constants.specs.Operands as constants_operands
use Rattle.hal_constants.specs.Results as constants_results
use Rattle.hal_templates.specs.Alike as templates_alike
use Rattle.hal_templates.specs.Entries as templates_entries
use Rattle.hal_templates.specs.Heads as templates_heads
use Rattle.hal_templates.specs.Items as templates_items
use Rattle.hal_templates.specs.Kinds as templates_kinds
use Rattle.hal_templates.specs.Leaves as templates_leaves
use Rattle.hal_templates.specs.Own as templates_own
use Rattle.hal_templates.specs.Rules as templates_rules
use Rattle.hal_templates.specs.Sizes as templates_sizes
use Rattle.hal_templates.specs.Structures as templates_structures
use Rattle.hal_templates.specs.Templates as templates_templates
use Rattle.hal_templates.specs.Traits as templates_traits
use Rattle.hal_templates.specs.Values as templates_values

abbrev here : Place
here = record { unit = 0; line = 1; column = 1 }

abbrev named : List ℕ → Naming
named name = naming here name

abbrev integer : List Attribute
integer = Typed (IntegerKind here) ∷ []

-- POOL: COMPOOL; declarations; CLOSE;
abbrev pool : List Declaration → File
pool declarations = file_of [] (BlockOf (named (codes "POOL")) (Compool here) declarations NoElements None)

-- POOL: EXTERNAL COMPOOL; declarations; CLOSE;
abbrev written : List Declaration → Preface
written declarations = Templates (template_of (named (codes "POOL")) (Compool here) declarations None)

-- INCLUDE TEMPLATE POOL
abbrev included : Preface
included = Include here (named (codes "POOL"))

-- a PROGRAM of this name behind a preface
abbrev program : Preface → List ℕ → File
program preface name = file_of (preface ∷ []) (BlockOf (named name) (Program here) [] NoElements None)

-- DECLARE G INTEGER, H INTEGER; and DECLARE INTEGER, G; DECLARE H INTEGER;
abbrev kept : List File
kept =
    pool (Declare here [] (declared_of (named (codes "G")) integer ∷ declared_of (named (codes "H")) integer ∷ []) ∷ [])
    ∷ program (written (Declare here integer (declared_of (named (codes "G")) [] ∷ []) ∷ Declare here [] (declared_of (named (codes "H")) integer ∷ []) ∷ [])) (codes "P")
    ∷ program included (codes "Q") ∷ []

-- without the COMPOOL
abbrev lacking : List File
lacking = program (written []) (codes "P") ∷ program included (codes "Q") ∷ []

-- with two of its name
abbrev doubled : List File
doubled = pool [] ∷ pool [] ∷ program (written []) (codes "P") ∷ program included (codes "Q") ∷ []

-- the laws speak of the first set
pub kept_rules : IsSound template_rows (phrases_of kept) × IsSound rows (phrases_of kept)
unfolding digits words_reserved.reserved_words words_reserved.left_out_words phrases_gathereddeclarations.gathered_kind phrases_gathereddeclarations.gathered_initial phrases_gathereddeclarations.gathered_initials phrases_gathereddeclarations.gathered_attribute phrases_gathereddeclarations.gathered_item phrases_gathereddeclarations.still_open phrases_gathereddeclarations.innermost phrases_gathereddeclarations.is_bottom phrases_gathereddeclarations.gathered_part phrases_gathereddeclarations.gathered_parts phrases_gathereddeclarations.gathered_declaration phrases_gatheredexpressions.gathered phrases_gatheredexpressions.gathered_all phrases_gatheredexpressions.gathered_terms phrases_gatheredexpressions.gathered_reference phrases_gatheredexpressions.gathered_subscript phrases_gatheredexpressions.gathered_subs phrases_gatheredexpressions.gathered_sub phrases_gatheredexpressions.gathered_position phrases_gatheredstatements.gathered_guard phrases_gatheredstatements.gathered_span phrases_gatheredstatements.gathered_start phrases_gatheredstatements.gathered_cycle phrases_gatheredstatements.gathered_limit phrases_gatheredstatements.gathered_schedule phrases_gatheredstatements.begun_for phrases_gatheredstatements.around_for phrases_gatheredstatements.gathered_statement phrases_gatheredstatements.gathered_basic phrases_gatheredstatements.gathered_alternative phrases_gatheredstatements.gathered_group phrases_gatheredstatements.gathered_statements phrases_gatheredunits.gathered_returns phrases_gatheredunits.gathered_head phrases_gatheredunits.gathered_block phrases_gatheredunits.gathered_elements phrases_gatheredunits.around_template phrases_gatheredunits.gathered_template phrases_gatheredunits.gathered_preface phrases_gatheredunits.gathered_prefaces phrases_gatheredunits.name_of_block phrases_gatheredunits.gathered_file phrases_gatheredunits.phrases_of phrases_members.gathered_member phrases_members.gathered_members names_keys.declared_at names_keys.same_space names_keys.same_key names_keys.own names_means.is_compool_unit names_means.unit_named names_means.given_by names_means.shown names_means.shown_by names_means.included names_means.included_before names_means.prefaces_of names_means.nearest scope_builtins.builtins scope_components.has_path scope_components.is_structure scope_components.type_has scope_components.has_component scope_components.lacks_in scope_components.lacks scope_labels.is_label_of scope_labels.misclosed scope_labels.is_loop scope_labels.group_around scope_labels.misled scope_labels.astray scope_repeated.given scope_repeated.is_of_block scope_repeated.twice scope_repeated.declares_one_there scope_repeated.declarations_of scope_repeated.included_twice scope_repeated.is_item scope_repeated.undeclared scope_rules.fault scope_rules.first_fault scope_sorts.type_in scope_sorts.type_among scope_sorts.sort_of_type scope_sorts.sort_of_head scope_sorts.sort_of scope_sorts.usage_of scope_sorts.use_of_reference scope_sorts.used scope_uses.unknown scope_uses.is_eventful scope_uses.is_nil scope_uses.refers_to_event scope_uses.holds_event scope_uses.hold_event scope_uses.limit_of scope_uses.limit_around scope_uses.misused kinds_attributes.count_of kinds_attributes.no_more kinds_attributes.sizes_in kinds_attributes.sizes_among kinds_attributes.initial_in kinds_attributes.initial_among kinds_attributes.constant_in kinds_attributes.constant_among kinds_attributes.same_mark kinds_attributes.is_mark kinds_classes.class_of_result kinds_classes.class_of_returns kinds_classes.class_of_head kinds_classes.class_of_form kinds_classes.class_of_builtin kinds_classes.class_at kinds_classes.class_of_reference kinds_classes.class_of_function kinds_classes.class_of_called_head kinds_classes.class_of_called kinds_classes.class_of_literal kinds_classes.class_of_conversion kinds_classes.beside kinds_classes.joined kinds_classes.enclosed kinds_classes.class_of kinds_classes.class_beside kinds_classes.class_joined kinds_data.class_of_type kinds_data.has_copies kinds_data.dimensions_of kinds_data.data_of kinds_data.part_data kinds_data.part_under kinds_data.data_at_part kinds_data.component_of kinds_data.component_data kinds_data.data_at kinds_data.is_event_type kinds_data.is_structure_type kinds_subscripts.subscript_count kinds_subscripts.is_many kinds_subscripts.are_many kinds_subscripts.parts_chosen kinds_subscripts.choice_of kinds_subscripts.is_structure_class constants_constants.operation_of_sign constants_constants.signed constants_constants.operation_of_conversion constants_constants.raised_to constants_constants.raised constants_constants.is_none constants_constants.factor_at constants_constants.constant_of constants_constants.folded constants_constants.summed constants_constants.computed constants_constants.computed_second constants_constants.multiplied constants_constants.referred constants_constants.subscripted constants_constants.component_of constants_constants.component_by constants_constants.place_of constants_known.size_of_integer constants_known.size_of_value constants_known.size_of constants_known.bits_kind constants_known.text_kind constants_known.kind_of constants_known.kind_of_type constants_known.gives_none constants_known.give_none constants_known.only_of constants_known.only_with constants_known.kept constants_known.fitted constants_known.only_in constants_known.declared_value constants_known.round constants_known.is_file constants_known.rounds constants_naming.constant_known constants_naming.constant_at constants_naming.literal_constant constants_naming.operation_of constants_operands.takes_one constants_operands.takes_two constants_operands.is_storable constants_operands.has_components constants_results.worth constants_results.worse constants_results.apply_one constants_results.apply_two constants_results.component_at constants_results.component_to constants_results.component_from constants_results.picked_one constants_results.picked_to constants_results.picked_from templates_alike.same_kind templates_alike.may_be_kind templates_alike.may_be_number templates_alike.same_template templates_entries.entries_of templates_entries.entries templates_entries.with_items templates_entries.with_declaration templates_entries.with_declarations templates_heads.same_names templates_heads.same_mode templates_heads.is_double templates_heads.is_untyped templates_heads.result_like templates_heads.same_returns templates_heads.is_program templates_heads.is_compool templates_heads.is_task templates_heads.is_procedure templates_heads.is_function templates_heads.same_head templates_items.same_data templates_items.same_structures templates_items.same_as_data templates_items.same_as_structure templates_items.same_entry templates_items.same_entries templates_items.same_from templates_kinds.places_with templates_kinds.places_in templates_kinds.laid templates_kinds.kinds_of_list templates_kinds.kinds_of_structure templates_kinds.kinds_by templates_leaves.count_of templates_leaves.count_with templates_leaves.leaf_value templates_own.template_of templates_own.is_name templates_own.needs templates_own.is_shown templates_own.own_entries templates_own.shown_among templates_rules.template_rows templates_rules.first_with templates_sizes.same_sizes templates_sizes.same_dimensions templates_sizes.copies_in templates_sizes.same_copies templates_structures.parts_of templates_structures.same_parts templates_structures.same_lists templates_structures.means_same templates_structures.names_same templates_templates.equals_unit templates_templates.differing templates_templates.template_name templates_templates.unit_name templates_traits.group_in templates_traits.group_among templates_traits.is_starred templates_traits.group_of templates_values.same_value templates_values.may_be_value templates_values.same_below templates_values.same_in templates_values.same_given
kept_rules = (sound template_rows (phrases_of kept) refl, sound rows (phrases_of kept) refl)

no_unit : (ps : List Phrase) (name : List ℕ) (unit : Phrase) (head : Head) (declarations : List Declaration) → unit_named ps name ≡ None → IsUnit ps name unit head declarations → ⊥
no_unit ps name unit head declarations none is = let found : None ≡ Some unit.number = sym none ∙ is.found in absurd (cc)

lacks : unit_named (phrases_of lacking) (codes "POOL") ≡ None
unfolding digits phrases_gathereddeclarations.gathered_kind phrases_gathereddeclarations.gathered_initial phrases_gathereddeclarations.gathered_initials phrases_gathereddeclarations.gathered_attribute phrases_gathereddeclarations.gathered_item phrases_gathereddeclarations.still_open phrases_gathereddeclarations.innermost phrases_gathereddeclarations.is_bottom phrases_gathereddeclarations.gathered_part phrases_gathereddeclarations.gathered_parts phrases_gathereddeclarations.gathered_declaration phrases_gatheredunits.gathered_returns phrases_gatheredunits.gathered_head phrases_gatheredunits.gathered_block phrases_gatheredunits.gathered_elements phrases_gatheredunits.around_template phrases_gatheredunits.gathered_template phrases_gatheredunits.gathered_preface phrases_gatheredunits.gathered_prefaces phrases_gatheredunits.name_of_block phrases_gatheredunits.gathered_file phrases_gatheredunits.phrases_of names_keys.declared_at names_keys.same_space names_keys.same_key names_keys.own names_means.is_compool_unit names_means.unit_named names_means.given_by names_means.shown names_means.shown_by names_means.included names_means.included_before names_means.prefaces_of names_means.nearest
lacks = refl

-- without the unit nothing is given
pub lacking_gives_nothing : (p : Phrase) (head : Head) (declarations : List Declaration) → GivesItsUnit (phrases_of lacking) p (named (codes "POOL")) head declarations → ⊥
lacking_gives_nothing p head declarations gives = no_unit (phrases_of lacking) (codes "POOL") gives.unit gives.unit_head gives.unit_declarations lacks gives.is_unit

pub lacking_includes_nothing : IncludesItsUnit (phrases_of lacking) (named (codes "POOL")) → ⊥
lacking_includes_nothing gives = no_unit (phrases_of lacking) (codes "POOL") gives.unit gives.head gives.declarations lacks gives.is_unit

-- nor where two have the name: the one is the file that is phrase 0, the other the one that is phrase 2
two_units : (unit : Phrase) (head : Head) (declarations : List Declaration) → IsUnit (phrases_of doubled) (codes "POOL") unit head declarations → ⊥
unfolding digits phrases_gathereddeclarations.gathered_kind phrases_gathereddeclarations.gathered_initial phrases_gathereddeclarations.gathered_initials phrases_gathereddeclarations.gathered_attribute phrases_gathereddeclarations.gathered_item phrases_gathereddeclarations.still_open phrases_gathereddeclarations.innermost phrases_gathereddeclarations.is_bottom phrases_gathereddeclarations.gathered_part phrases_gathereddeclarations.gathered_parts phrases_gathereddeclarations.gathered_declaration phrases_gatheredunits.gathered_returns phrases_gatheredunits.gathered_head phrases_gatheredunits.gathered_block phrases_gatheredunits.gathered_elements phrases_gatheredunits.around_template phrases_gatheredunits.gathered_template phrases_gatheredunits.gathered_preface phrases_gatheredunits.gathered_prefaces phrases_gatheredunits.name_of_block phrases_gatheredunits.gathered_file phrases_gatheredunits.phrases_of names_keys.declared_at names_keys.same_space names_keys.same_key names_keys.own names_means.is_compool_unit names_means.unit_named names_means.given_by names_means.shown names_means.shown_by names_means.included names_means.included_before names_means.prefaces_of names_means.nearest
two_units unit head declarations is =
    let first : 0 ≡ is.file = is.alone (phrase 0 (in_file 0) (OfFile [] (named (codes "POOL")))) [] (named (codes "POOL")) (inl refl) refl refl in
    let second : 2 ≡ is.file = is.alone (phrase 2 (in_file 2) (OfFile [] (named (codes "POOL")))) [] (named (codes "POOL")) (inr (inr (inl refl))) refl refl in
    absurd (omega (arith, first, second))

pub doubled_gives_nothing : (p : Phrase) (head : Head) (declarations : List Declaration) → GivesItsUnit (phrases_of doubled) p (named (codes "POOL")) head declarations → ⊥
doubled_gives_nothing p head declarations gives = two_units gives.unit gives.unit_head gives.unit_declarations gives.is_unit

pub doubled_includes_nothing : IncludesItsUnit (phrases_of doubled) (named (codes "POOL")) → ⊥
doubled_includes_nothing gives = two_units gives.unit gives.head gives.declarations gives.is_unit
