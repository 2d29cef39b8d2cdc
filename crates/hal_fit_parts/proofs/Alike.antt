-- A part at the bottom is for the checks what its component is for the meaning.
use Rattle.std.proofs.Common.{◌≡◌, ℕ, suc, true, List, [], ◌∷◌, ◌++◌, Option, Some, None, Bool, slice_get, refl, sym, ap, ◌∙◌, arith}
use Rattle.std.specs.Prelude.{nat_lt, map, unwrap_or}
use Rattle.std.specs.Option.{is_some, option_and_then}
use Rattle.std.proofs.lemmas.Bool.{lt-ltb}
use Rattle.hal_base.specs.declared.refusal.Place.{Place}
use Rattle.hal_grammar.specs.Leaves.{Naming}
use Rattle.hal_grammar.specs.Expressions.{Expression, Expressions, NoExpressions, MoreExpressions}
use Rattle.hal_grammar.specs.Declarations.{Attribute, Declared, Kind, StructureKind, Double, Part}
use Rattle.hal_phrases.specs.Phrases.{Phrase, OfItem, OfPart}
use Rattle.hal_names.specs.Means.{means}
use Rattle.hal_scope.specs.Sorts.{type_among, type_of}
use Rattle.hal_scope.specs.Uses.{is_nil}
use Rattle.hal_kinds.specs.Attributes.{count_of, has_mark, sizes_among}
use Rattle.hal_kinds.specs.Data.{class_of_type, component_data, component_of, copied, data_at, data_at_part, data_of, data_of_part, data_with, dimensions_of, has_copies, part_data, part_under}
use Rattle.hal_values.specs.declared.value.Kind as values
use Rattle.hal_values.specs.declared.value.Kind.TheVariants as kind
use Rattle.hal_constants.specs.Known.{Known, kind_of_type}
use Rattle.hal_meaning.specs.Elements.{Component, Shape, chosen, component, components_at, shape_of, shape_of_type, sizes_given}
use Rattle.hal_meaning.specs.Variables.{is_arrayed, kind_of_first, sizes_of_first}
use Rattle.hal_code.specs.Sorts.{sort_of}
use Rattle.hal_fit_rules.specs.Agreeing.{AreAlike}
use Rattle.hal_fit_rules.proofs.Declaring.{cells_of_type, types_joined}

-- data have dimensions where they have sizes
pub arrayed_by : (ps : List Phrase) (vs : Known) (p : Phrase) (sizes : Option Expressions) → nat_lt 0 (dimensions_of sizes) ≡ is_arrayed (sizes_given ps vs p sizes)
unfolding dimensions_of count_of
arrayed_by ps vs p None = refl
arrayed_by ps vs p (Some NoExpressions) = refl
arrayed_by ps vs p (Some (MoreExpressions first others)) = lt-ltb 0 (suc (count_of others)) (omega arith)

pub part_alike : (ps : List Phrase) (vs : Known) (j : ℕ) (p q : Phrase) (path : List Naming) (part : Part) (copies : Bool) (type_ : Kind) (cells : values.Kind) (shape : Shape) → slice_get ps j ≡ Some q → q.node ≡ OfPart true part
    → type_among part.attributes ≡ Some type_ → kind_of_type ps vs p (has_mark Double part.attributes) (Some type_) ≡ Some cells
    → chosen path shape.components ≡ component ps vs p (map (λ (n : Naming). n.name) path) part.attributes ∷ [] → AreAlike (data_of_part ps copies (Some j)) path shape
unfolding data_at_part part_data data_of
part_alike ps vs j p q path part copies type_ cells shape there is typed sized one = record {
  declared = copied copies (data_with (class_of_type type_) (dimensions_of (sizes_among part.attributes)) (has_copies type_));
  known = ap (λ (o : Option Phrase). option_and_then (λ (x : Phrase). data_at_part copies x.node) o) there
      ∙ (ap (data_at_part copies) is ∙ ap (λ t. option_and_then (λ d. Some (copied copies d)) (data_of t (sizes_among part.attributes))) typed);
  sorted = λ s worth.
      ap (λ (cs : List Component). sort_of (kind_of_first cs)) one
      ∙ (ap (λ t. sort_of (unwrap_or (kind_of_type ps vs p (has_mark Double part.attributes) t) kind.Single)) typed
      ∙ (ap (λ o. sort_of (unwrap_or o kind.Single)) sized ∙ cells_of_type ps vs p (has_mark Double part.attributes) type_ cells s sized worth));
  arrayed = λ plain. arrayed_by ps vs p (sizes_among part.attributes) ∙ ap (λ (cs : List Component). is_arrayed (sizes_of_first cs)) (sym one);
}

-- data at the end of a path of an item
pub found_so : (ps : List Phrase) (k j : ℕ) (x : Phrase) (n : Naming) (ns : List Naming) (common : List Attribute) (item : Declared) (place : Place) (template : List ℕ) (copies : Option Expression)
    → type_of common item ≡ Some (StructureKind place template copies) → means ps x.around.block template ≡ Some k → part_under ps k (n ∷ ns) ≡ Some j
    → data_at ps x (n ∷ ns) (OfItem common item) ≡ data_of_part ps (is_some copies) (Some j)
unfolding data_at is_nil component_data component_of
found_so ps k j x n ns common item place template copies typed meant leading =
    ap (λ t. component_data ps x.around.block t (n ∷ ns)) typed ∙ ap (data_of_part ps (is_some copies)) (ap (option_and_then (λ m. part_under ps m (n ∷ ns))) meant ∙ leading)

-- and the components of its shape
pub shaped_so : (ps : List Phrase) (vs : Known) (k : ℕ) (x p : Phrase) (common : List Attribute) (item : Declared) (place : Place) (template : List ℕ) (copies : Option Expression)
    → type_of common item ≡ Some (StructureKind place template copies) → means ps x.around.block template ≡ Some k → slice_get ps k ≡ Some p → (shape_of ps vs x common item).components ≡ components_at ps vs p p.node
shaped_so ps vs k x p common item place template copies typed meant there =
    ap (λ t. (shape_of_type ps vs x (item.attributes ++ common) t).components) (types_joined item.attributes common ∙ typed)
    ∙ (ap (λ (o : Option ℕ). elim (option_and_then (slice_get ps) o) [ None ↦ [] | Some y ↦ components_at ps vs y y.node ]) meant
    ∙ ap (λ (o : Option Phrase). elim o [ None ↦ [] | Some y ↦ components_at ps vs y y.node ]) there)
