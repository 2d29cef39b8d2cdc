-- Parameters that a unit declares are for the meaning what they are for the checks.
use Rattle.std.proofs.Common.{◌≡◌, ℕ, Bool, true, false, not, ◌&&◌, ◌||◌, List, [], ◌∷◌, ◌++◌, map, Option, Some, None, slice_get, if◌then◌else◌, refl, sym, ap, ◌∙◌}
use Rattle.std.specs.Prelude.{unwrap_or}
use Rattle.std.specs.Option.{option_and_then, option_map, is_some}
use Rattle.hal_grammar.specs.Leaves.{Naming}
use Rattle.hal_grammar.specs.Declarations.{Kind, IntegerKind, BooleanKind, EventKind, BitKind, CharacterKind, StructureKind, Double, Attribute, Declared, Part}
use Rattle.hal_grammar.specs.Expressions.{Expressions, NoExpressions, MoreExpressions}
use Rattle.hal_phrases.specs.GatheredDeclarations.{is_bottom}
use Rattle.hal_phrases.specs.Phrases.{Node, Phrase, OfStructure}
use Rattle.hal_names.specs.Means.{means}
use Rattle.hal_scope.specs.Sorts.{type_of}
use Rattle.hal_kinds.specs.Attributes.{has_mark, sizes_of}
use Rattle.hal_kinds.specs.Data.{class_of_type, is_structure_type}
use Rattle.hal_values.specs.declared.value.Kind as values
use Rattle.hal_values.specs.declared.value.Kind.TheVariants as kind
use Rattle.hal_constants.specs.Known.{Known, kind_of_type}
use Rattle.hal_shapes.specs.Arguments as arguments
use Rattle.hal_shapes.specs.Arguments.{parameter_of}
use Rattle.hal_meaning.specs.Calls.{Parameter, parameter_named, parameter_shape}
use Rattle.hal_meaning.specs.Elements.{Component, Shape, Above, component, components_from, components_at, components_named, lower, path_to, shape_of, shape_of_type, size_given, sizes_given}
use Rattle.hal_meaning.specs.Variables.{is_nil, are_plain_components, is_whole, kind_of_first}
use Rattle.hal_code.specs.Sorts.{Sort, sort_of}
use Rattle.hal_agreement.specs.Sites.{Site}
use Rattle.hal_fit_classes.specs.Kinded.{sort_of_class}
use Rattle.hal_fit_rules.specs.Parameters.{ParameterAgrees, ParametersAgree}
use Rattle.hal_fit_rules.specs.Passing.{IsParameter, AreParameters}
use Rattle.hal_fit_rules.proofs.Declaring.{types_joined, sizes_joined, single_shape, plain_shape, cells_of_type}

-- names lead to each component of a structure
abbrev ArePathed : List Component → Type 0
ArePathed [] = Unit {0}
ArePathed (c ∷ cs) = (is_nil c.path ≡ false) × ArePathed cs

some_behind : {X : Type 0} (xs : List X) (y : X) → is_nil (xs ++ (y ∷ [])) ≡ false
some_behind [] y = refl
some_behind (x ∷ xs) y = refl

pathed_by : (bottom : Bool) (c : Component) (cs ds : List Component) → is_nil c.path ≡ false → ArePathed cs → ArePathed ds → ArePathed (if bottom then c ∷ cs else ds)
pathed_by true c cs ds named first second = (named, first)
pathed_by false c cs ds named first second = second

parts_pathed : (ps : List Phrase) (vs : Known) (p : Phrase) (above : List Above) (parts : List Part) → ArePathed (components_from ps vs p above parts)
parts_pathed ps vs p above [] = tt
parts_pathed ps vs p above (part ∷ parts) =
    pathed_by (is_bottom part.level parts) (component ps vs p (path_to (lower part.level above) part) part.attributes) (components_from ps vs p (lower part.level above) parts)
    (components_from ps vs p (lower part.level above ++ ((part.level, part.name.name) ∷ [])) parts)
    (some_behind (map (λ (one : Above). one.1) (lower part.level above)) part.name.name) (parts_pathed ps vs p (lower part.level above) parts)
    (parts_pathed ps vs p (lower part.level above ++ ((part.level, part.name.name) ∷ [])) parts)

node_pathed : (ps : List Phrase) (vs : Known) (p : Phrase) (n : Node) → ArePathed (components_at ps vs p n)
node_pathed ps vs p (OfStructure name parts) = parts_pathed ps vs p [] parts
node_pathed ps vs p other = tt

template_pathed : (ps : List Phrase) (vs : Known) (o : Option Phrase) → ArePathed (elim o [ None ↦ [] | Some p ↦ components_at ps vs p p.node ])
template_pathed ps vs None = tt
template_pathed ps vs (Some p) = node_pathed ps vs p p.node

-- so a structure is no plain component
pathed_whole : (cs : List Component) → ArePathed cs → are_plain_components cs ≡ false
pathed_whole [] pathed = refl
pathed_whole (c ∷ []) pathed = ap (λ b. b && is_nil c.sizes) pathed.0
pathed_whole (c ∷ d ∷ cs) pathed = refl

whole_by : (copied plain : Bool) → plain ≡ false → copied || not plain ≡ true
whole_by true plain is = refl
whole_by false false is = refl
whole_by false true is = absurd (cc)

-- data have several elements where they have sizes
sizes_whole : (ps : List Phrase) (vs : Known) (p : Phrase) (o : Option Expressions) → (o ≡ Some NoExpressions → ⊥) → not (is_nil (sizes_given ps vs p o)) ≡ is_some o
sizes_whole ps vs p None some = refl
sizes_whole ps vs p (Some NoExpressions) some = absurd (some refl)
sizes_whole ps vs p (Some (MoreExpressions first others)) some = refl

module _ (ps : List Phrase) (vs : Known) (p : Phrase) (common : List Attribute) (item : Declared) where
  -- the shape of data that are no structure
  single_shaped : (type_ : Kind) → type_of common item ≡ Some type_ → is_structure_type (Some type_) ≡ false → shape_of ps vs p common item ≡ single_shape ps vs p (item.attributes ++ common)
  single_shaped type_ typed plain =
      ap (shape_of_type ps vs p (item.attributes ++ common)) (types_joined item.attributes common ∙ typed) ∙ plain_shape ps vs p (item.attributes ++ common) type_ plain

  plain_whole : (type_ : Kind) → type_of common item ≡ Some type_ → is_structure_type (Some type_) ≡ false → (sizes_of common item ≡ Some NoExpressions → ⊥)
      → is_whole (shape_of ps vs p common item) ≡ arguments.is_whole common item type_
  plain_whole type_ typed plain some =
      ap is_whole (single_shaped type_ typed plain)
      ∙ (ap (λ o. not (is_nil (sizes_given ps vs p o))) (sizes_joined item.attributes common) ∙ (sizes_whole ps vs p (sizes_of common item) some ∙ ap (λ b. b || is_some (sizes_of common item)) (sym plain)))

  plain_sorted : (type_ : Kind) (cells : values.Kind) (s : Sort) → type_of common item ≡ Some type_ → is_structure_type (Some type_) ≡ false
      → kind_of_type ps vs p (has_mark Double (item.attributes ++ common)) (Some type_) ≡ Some cells → sort_of_class (class_of_type type_) ≡ Some s → sort_of (kind_of_first (shape_of ps vs p common item).components) ≡ s
  plain_sorted type_ cells s typed plain sized worth =
      ap (λ (one : Shape). sort_of (kind_of_first one.components)) (single_shaped type_ typed plain)
      ∙ (ap (λ o. sort_of (unwrap_or (kind_of_type ps vs p (has_mark Double (item.attributes ++ common)) o) kind.Single)) (types_joined item.attributes common ∙ typed)
      ∙ (ap (λ o. sort_of (unwrap_or o kind.Single)) sized ∙ cells_of_type ps vs p (has_mark Double (item.attributes ++ common)) type_ cells s sized worth))

  item_whole : (type_ : Kind) → type_of common item ≡ Some type_ → (sizes_of common item ≡ Some NoExpressions → ⊥) → is_whole (shape_of ps vs p common item) ≡ arguments.is_whole common item type_
  unfolding is_structure_type
  item_whole (StructureKind place template copies) typed some =
      ap (λ o. is_whole (shape_of_type ps vs p (item.attributes ++ common) o)) (types_joined item.attributes common ∙ typed)
      ∙ whole_by (is_some (option_map (size_given ps vs p) copies)) (are_plain_components (components_named ps vs p.around.block template))
      (pathed_whole (components_named ps vs p.around.block template) (template_pathed ps vs (option_and_then (slice_get ps) (means ps p.around.block template))))
  item_whole (IntegerKind place) typed some = plain_whole (IntegerKind place) typed refl some
  item_whole (BooleanKind place) typed some = plain_whole (BooleanKind place) typed refl some
  item_whole (EventKind place) typed some = plain_whole (EventKind place) typed refl some
  item_whole (BitKind place size) typed some = plain_whole (BitKind place size) typed refl some
  item_whole (CharacterKind place size) typed some = plain_whole (CharacterKind place size) typed refl some

  item_sorted : (type_ : Kind) (s : Sort) → type_of common item ≡ Some type_
      → (is_structure_type (Some type_) ≡ false → (one : values.Kind) × (kind_of_type ps vs p (has_mark Double (item.attributes ++ common)) (Some type_) ≡ Some one)) → sort_of_class (class_of_type type_) ≡ Some s
      → sort_of (kind_of_first (shape_of ps vs p common item).components) ≡ s
  unfolding is_structure_type class_of_type
  item_sorted (StructureKind place template copies) s typed cells worth = absurd (cc)
  item_sorted (IntegerKind place) s typed cells worth = plain_sorted (IntegerKind place) (cells refl).0 s typed refl (cells refl).1 worth
  item_sorted (BooleanKind place) s typed cells worth = plain_sorted (BooleanKind place) (cells refl).0 s typed refl (cells refl).1 worth
  item_sorted (EventKind place) s typed cells worth = plain_sorted (EventKind place) (cells refl).0 s typed refl (cells refl).1 worth
  item_sorted (BitKind place size) s typed cells worth = plain_sorted (BitKind place size) (cells refl).0 s typed refl (cells refl).1 worth
  item_sorted (CharacterKind place size) s typed cells worth = plain_sorted (CharacterKind place size) (cells refl).0 s typed refl (cells refl).1 worth

module _ (site : Site) (unit : ℕ) where
  abbrev parameter_at : Option Phrase → Parameter
  parameter_at o = elim o [ None ↦ record { number = 0; shape = record { copies = None; components = [] } } | Some p ↦ record { number = p.number; shape = parameter_shape site.set p p.node } ]

  found_parameter : (name : Naming) (p : Phrase) → parameter_of site.set.phrases unit name ≡ Some p → parameter_named site.set unit name ≡ parameter_at (Some p)
  unfolding parameter_of
  found_parameter name p found = ap parameter_at found

  -- its shape is that of what is declared
  shaped : (name : Naming) (is : IsParameter site unit name) → (parameter_named site.set unit name).shape ≡ shape_of site.set.phrases site.set.constants is.phrase is.common is.item
  shaped name is = ap (λ (one : Parameter). one.shape) (found_parameter name is.phrase is.found) ∙ ap (parameter_shape site.set is.phrase) is.declares

  parameter_agrees : (name : Naming) → IsParameter site unit name → ParameterAgrees site site.set.phrases unit unit name
  parameter_agrees name is = record {
    phrase = is.phrase;
    found = is.found;
    common = is.common;
    item = is.item;
    declares = is.declares;
    kind = is.kind;
    typed = is.typed;
    whole = ap is_whole (shaped name is) ∙ item_whole site.set.phrases site.set.constants is.phrase is.common is.item is.kind is.typed is.dimensioned;
    sorted = λ s worth. ap (λ (one : Shape). sort_of (kind_of_first one.components)) (shaped name is) ∙ item_sorted site.set.phrases site.set.constants is.phrase is.common is.item is.kind s is.typed is.cells worth;
  }

  pub parameters_agree : (names : List Naming) → AreParameters site unit names → ParametersAgree site site.set.phrases unit unit names
  parameters_agree [] are = tt
  parameters_agree (name ∷ names) are = (parameter_agrees name are.0, parameters_agree names are.1)
