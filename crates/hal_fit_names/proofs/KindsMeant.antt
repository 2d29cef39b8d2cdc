-- The cells that a name means have a kind in its range, whatever it means.
use Rattle.std.proofs.Common.{◌≡◌, ℕ, Bool, true, false, List, [], ◌∷◌, ◌++◌, Option, Some, None, slice_get, refl}
use Rattle.std.specs.Prelude.{pos, unwrap_or, if◌then◌else◌}
use Rattle.std.specs.Option.{option_and_then}
use Rattle.hal_grammar.specs.Leaves.{Naming}
use Rattle.hal_grammar.specs.Declarations.{Kind, StructureKind, Double, Attribute, Declared, Part}
use Rattle.hal_grammar.specs.Units.{Head, Program, Task}
use Rattle.hal_phrases.specs.GatheredDeclarations.{is_bottom}
use Rattle.hal_phrases.specs.Phrases.{Node, Phrase, OfItem, OfStructure, OfTemporaryGroup, OfUnit}
use Rattle.hal_names.specs.Means.{means}
use Rattle.hal_scope.specs.declared.builtin.Builtin.{Builtin}
use Rattle.hal_scope.specs.Builtins.{builtin_named}
use Rattle.hal_scope.specs.Sorts.{type_among, type_of}
use Rattle.hal_kinds.specs.Attributes.{has_mark}
use Rattle.hal_kinds.specs.Data.{is_event_type}
use Rattle.hal_values.specs.declared.value.Kind as values
use Rattle.hal_values.specs.declared.value.Kind.TheVariants as kind
use Rattle.hal_values.specs.declared.value.Value.{Value}
use Rattle.hal_values.specs.declared.value.Value.TheVariants as value
use Rattle.hal_constants.specs.Known.{Known, kind_of_type}
use Rattle.hal_constants.specs.Naming.{is_value_item, value_at}
use Rattle.hal_states.specs.Spots.{Spot, Held}
use Rattle.hal_meaning.specs.Bodies.{meant}
use Rattle.hal_meaning.specs.Access.{Here}
use Rattle.hal_meaning.specs.Elements.{Component, Shape, Above, component, components_from, components_at, leads, chosen, lower, path_to, shape_of, shape_of_type}
use Rattle.hal_meaning.specs.Events.{event_of}
use Rattle.hal_meaning.specs.Places.{storing}
use Rattle.hal_meaning.specs.Statements.{kind_meant}
use Rattle.hal_meaning.specs.Variables.{Meant, MeantData, MeantConstant, MeantEvent, MeantBuiltin, MeantNothing, temporary_shape, kind_of_first, event_meant, item_meant, head_meant, meant_by, declaration_meant, builtin_meant, name_meant, spot_of}
use Rattle.hal_code.specs.Sorts.{is_kind}
use Rattle.hal_fit_rules.proofs.Ranging.{kind_ranged}

-- components of kinds in their ranges
abbrev AreRanged : List Component → Type 0
AreRanged [] = Unit {0}
AreRanged (c ∷ cs) = (is_kind c.kind ≡ true) × AreRanged cs

first_by : (b : Bool) (c : Component) (cs : List Component) → is_kind c.kind ≡ true → is_kind (kind_of_first cs) ≡ true → is_kind (kind_of_first (if b then c ∷ cs else cs)) ≡ true
first_by true c cs first rest = first
first_by false c cs first rest = rest

-- the first one to which names lead is one of them
chosen_ranged : (path : List Naming) (cs : List Component) → AreRanged cs → is_kind (kind_of_first (chosen path cs)) ≡ true
chosen_ranged path [] ranged = refl
chosen_ranged path (c ∷ cs) ranged = first_by (leads path c.path) c (chosen path cs) ranged.0 (chosen_ranged path cs ranged.1)

-- a kind that is known is in its range, and so is the one that stands for one that isn't
given_ranged : (ps : List Phrase) (vs : Known) (p : Phrase) (double : Bool) (t : Option Kind) (o : Option values.Kind) → kind_of_type ps vs p double t ≡ o → is_kind (unwrap_or o kind.Single) ≡ true
unfolding kind_of_type
given_ranged ps vs p double t None is = refl
given_ranged ps vs p double None (Some k) is = absurd (cc)
given_ranged ps vs p double (Some t) (Some k) is = kind_ranged ps vs p double t k is

component_ranged : (ps : List Phrase) (vs : Known) (p : Phrase) (path : List (List ℕ)) (attributes : List Attribute) → is_kind (component ps vs p path attributes).kind ≡ true
component_ranged ps vs p path attributes = given_ranged ps vs p (has_mark Double attributes) (type_among attributes) (kind_of_type ps vs p (has_mark Double attributes) (type_among attributes)) refl

either_ranged : (bottom : Bool) (c : Component) (cs ds : List Component) → is_kind c.kind ≡ true → AreRanged cs → AreRanged ds → AreRanged (if bottom then c ∷ cs else ds)
either_ranged true c cs ds first rest others = (first, rest)
either_ranged false c cs ds first rest others = others

parts_ranged : (ps : List Phrase) (vs : Known) (p : Phrase) (above : List Above) (parts : List Part) → AreRanged (components_from ps vs p above parts)
parts_ranged ps vs p above [] = tt
parts_ranged ps vs p above (part ∷ parts) =
    either_ranged (is_bottom part.level parts) (component ps vs p (path_to (lower part.level above) part) part.attributes) (components_from ps vs p (lower part.level above) parts)
    (components_from ps vs p (lower part.level above ++ ((part.level, part.name.name) ∷ [])) parts) (component_ranged ps vs p (path_to (lower part.level above) part) part.attributes)
    (parts_ranged ps vs p (lower part.level above) parts) (parts_ranged ps vs p (lower part.level above ++ ((part.level, part.name.name) ∷ [])) parts)

node_ranged : (ps : List Phrase) (vs : Known) (p : Phrase) (n : Node) → AreRanged (components_at ps vs p n)
node_ranged ps vs p (OfStructure name parts) = parts_ranged ps vs p [] parts
node_ranged ps vs p other = tt

template_ranged : (ps : List Phrase) (vs : Known) (o : Option Phrase) → AreRanged (elim o [ None ↦ [] | Some p ↦ components_at ps vs p p.node ])
template_ranged ps vs None = tt
template_ranged ps vs (Some p) = node_ranged ps vs p p.node

-- those of the shape of any data
shape_ranged : (ps : List Phrase) (vs : Known) (p : Phrase) (attributes : List Attribute) (o : Option Kind) → AreRanged (shape_of_type ps vs p attributes o).components
shape_ranged ps vs p attributes (Some (StructureKind place template copies)) = template_ranged ps vs (option_and_then (slice_get ps) (means ps p.around.block template))
shape_ranged ps vs p attributes other = (component_ranged ps vs p [] attributes, tt)

item_by : (path : List Naming) (event valued : Bool) (m : Meant) (v : Value) (at : Spot) (shape : Shape) → is_kind (kind_meant path m) ≡ true → AreRanged shape.components
    → is_kind (kind_meant path (if event then m else (if valued then MeantConstant v else MeantData at shape))) ≡ true
item_by path true valued m v at shape eventful ranged = eventful
item_by path false true m v at shape eventful ranged = refl
item_by path false false m v at shape eventful ranged = chosen_ranged path shape.components ranged

module _ (h : Here) (path : List Naming) (places : List Held) where
  event_ranged : (o : Option ℕ) → is_kind (kind_meant path (elim o [ None ↦ MeantNothing | Some e ↦ MeantEvent e ])) ≡ true
  event_ranged None = refl
  event_ranged (Some e) = refl

  head_ranged : (k : ℕ) (head : Head) → is_kind (kind_meant path (head_meant h k head)) ≡ true
  head_ranged k (Program place) = event_ranged (event_of h.set.phrases k)
  head_ranged k (Task place) = event_ranged (event_of h.set.phrases k)
  head_ranged k other = refl

  item_ranged : (p : Phrase) (common : List Attribute) (item : Declared) → is_kind (kind_meant path (item_meant h places p common item)) ≡ true
  item_ranged p common item =
      item_by path (is_event_type (type_of common item)) (is_value_item common item) (event_meant h p.number) (unwrap_or (value_at h.set.constants p.number) (value.Int (pos 0)))
      (spot_of h places p.number (storing h.set.phrases h.set.constants p (OfItem common item))) (shape_of h.set.phrases h.set.constants p common item) (event_ranged (event_of h.set.phrases p.number))
      (shape_ranged h.set.phrases h.set.constants p (item.attributes ++ common) (type_among (item.attributes ++ common)))

  phrase_ranged : (p : Phrase) (n : Node) → is_kind (kind_meant path (meant_by h places p n)) ≡ true
  phrase_ranged p (OfItem common item) = item_ranged p common item
  phrase_ranged p (OfTemporaryGroup labels variable) = chosen_ranged path temporary_shape.components (refl, tt)
  phrase_ranged p (OfUnit name head declarations) = head_ranged p.number head
  phrase_ranged p other = refl

  found_ranged : (o : Option Phrase) → is_kind (kind_meant path (elim o [ None ↦ MeantNothing | Some p ↦ meant_by h places p p.node ])) ≡ true
  found_ranged None = refl
  found_ranged (Some p) = phrase_ranged p p.node

  builtin_ranged : (o : Option Builtin) → is_kind (kind_meant path (elim o [ None ↦ MeantNothing | Some b ↦ MeantBuiltin b ])) ≡ true
  builtin_ranged None = refl
  builtin_ranged (Some b) = refl

  declared_ranged : (name : List ℕ) (o : Option ℕ) → is_kind (kind_meant path (elim o [ None ↦ builtin_meant name | Some k ↦ declaration_meant h places k ])) ≡ true
  declared_ranged name None = builtin_ranged (builtin_named name)
  declared_ranged name (Some k) = found_ranged (slice_get h.set.phrases k)

  -- what a name with a path means
  pub name_ranged : (name : List ℕ) → is_kind (kind_meant path (name_meant h name places)) ≡ true
  name_ranged name = declared_ranged name (meant h.set.phrases h.block name)
