-- What a name means is what it refers to, wherever data lie while the own places hold this.
use Rattle.std.specs.Prelude.{◌≡◌, ℕ, Bool, true, false, List, pos, Option, Some, None, slice_get, unwrap_or, if◌then◌else◌}
use Rattle.std.proofs.Common.{refl}
use Rattle.std.proofs.Math.Path.{fun_ext}
use Rattle.hal_grammar.specs.Declarations.{Attribute, Declared}
use Rattle.hal_grammar.specs.Units.{Head, Program, Compool, Task, Procedure, Function}
use Rattle.hal_phrases.specs.Phrases.{Node, Phrase, OfUnit, OfItem, OfTemporaryGroup}
use Rattle.hal_scope.specs.declared.builtin.Builtin.{Builtin}
use Rattle.hal_scope.specs.Builtins.{builtin_named}
use Rattle.hal_scope.specs.Sorts.{type_of}
use Rattle.hal_kinds.specs.Data.{is_event_type}
use Rattle.hal_constants.specs.Naming.{is_value_item, value_at}
use Rattle.hal_values.specs.declared.value.Value.{Value}
use Rattle.hal_values.specs.declared.value.Value.TheVariants as value
use Rattle.hal_states.specs.Spots.{Held}
use Rattle.hal_meaning.specs.Bodies.{meant}
use Rattle.hal_meaning.specs.Elements.{Shape, shape_of}
use Rattle.hal_meaning.specs.Events.{event_of}
use Rattle.hal_meaning.specs.Places.{Storing, storing}
use Rattle.hal_meaning.specs.Variables.{spot_of, Meant, MeantData, MeantConstant, MeantEvent, MeantBlock, MeantBuiltin, MeantNothing, event_meant, item_meant, head_meant, meant_by, declaration_meant, builtin_meant, name_meant}
use Rattle.hal_agreement.specs.Sites.{Site, here_at}
use Rattle.hal_storage.specs.referents.Referents.{Referent, DataOf, ConstantOf, EventOf, BlockOf, BuiltinOf, Unmeant, event_referent, item_referent, head_referent, node_referent, declaration_referent, builtin_referent}
use Rattle.hal_gen_expr.specs.Referents.{referent}

-- what something that is referred to means
abbrev pub meaning_of : Site → List Held → Referent → Meant
meaning_of site held (DataOf k kept shape) = MeantData (spot_of (here_at site) held k kept) shape
meaning_of site held (ConstantOf v) = MeantConstant v
meaning_of site held (EventOf e) = MeantEvent e
meaning_of site held (BlockOf unit) = MeantBlock unit
meaning_of site held (BuiltinOf b) = MeantBuiltin b
meaning_of site held Unmeant = MeantNothing

module _ (site : Site) (held : List Held) where
  abbrev meant_event : Option ℕ → Meant
  meant_event o = elim o [ None ↦ MeantNothing | Some e ↦ MeantEvent e ]

  abbrev referred_event : Option ℕ → Referent
  referred_event o = elim o [ None ↦ Unmeant | Some e ↦ EventOf e ]

  event_by : (o : Option ℕ) → meant_event o ≡ meaning_of site held (referred_event o)
  event_by None = refl
  event_by (Some e) = refl

  event_same : (k : ℕ) → event_meant (here_at site) k ≡ meaning_of site held (event_referent site.set.phrases k)
  event_same k = event_by (event_of site.set.phrases k)

  data_by : (b : Bool) (v : Value) (k : ℕ) (kept : Storing) (shape : Shape)
      → (if b then MeantConstant v else MeantData (spot_of (here_at site) held k kept) shape) ≡ meaning_of site held (if b then ConstantOf v else DataOf k kept shape)
  data_by true v k kept shape = refl
  data_by false v k kept shape = refl

  item_by : (b c : Bool) (v : Value) (k : ℕ) (kept : Storing) (shape : Shape)
      → (if b then event_meant (here_at site) k else if c then MeantConstant v else MeantData (spot_of (here_at site) held k kept) shape)
      ≡ meaning_of site held (if b then event_referent site.set.phrases k else if c then ConstantOf v else DataOf k kept shape)
  item_by true c v k kept shape = event_same k
  item_by false c v k kept shape = data_by c v k kept shape

  item_same : (p : Phrase) (common : List Attribute) (item : Declared) → item_meant (here_at site) held p common item ≡ meaning_of site held (item_referent site.set.phrases site.set.constants p common item (storing site.set.phrases site.set.constants p (OfItem common item)))
  item_same p common item =
      item_by (is_event_type (type_of common item)) (is_value_item common item) (unwrap_or (value_at site.set.constants p.number) (value.Int (pos 0))) p.number
      (storing site.set.phrases site.set.constants p (OfItem common item)) (shape_of site.set.phrases site.set.constants p common item)

  head_same : (k : ℕ) (head : Head) → head_meant (here_at site) k head ≡ meaning_of site held (head_referent site.set.phrases k head)
  head_same k (Program place) = event_same k
  head_same k (Task place) = event_same k
  head_same k (Compool place) = refl
  head_same k (Procedure place inputs outputs mode) = refl
  head_same k (Function place inputs returns mode) = refl

  node_same : (p : Phrase) (node : Node) → meant_by (here_at site) held p node ≡ meaning_of site held (node_referent site.set.phrases site.set.constants p node)
  node_same p (OfItem common item) = item_same p common item
  node_same p (OfTemporaryGroup labels variable) = refl
  node_same p (OfUnit name head declarations) = head_same p.number head
  node_same p other = refl

  declared_by : (o : Option Phrase)
      → (elim o [ None ↦ MeantNothing | Some p ↦ meant_by (here_at site) held p p.node ]) ≡ meaning_of site held (elim o [ None ↦ Unmeant | Some p ↦ node_referent site.set.phrases site.set.constants p p.node ])
  declared_by None = refl
  declared_by (Some p) = node_same p p.node

  builtin_by : (o : Option Builtin) → (elim o [ None ↦ MeantNothing | Some b ↦ MeantBuiltin b ]) ≡ meaning_of site held (elim o [ None ↦ Unmeant | Some b ↦ BuiltinOf b ])
  builtin_by None = refl
  builtin_by (Some b) = refl

  named_by : (name : List ℕ) (o : Option ℕ)
      → (elim o [ None ↦ builtin_meant name | Some k ↦ declaration_meant (here_at site) held k ])
      ≡ meaning_of site held (elim o [ None ↦ builtin_referent name | Some k ↦ declaration_referent site.set.phrases site.set.constants k ])
  named_by name None = builtin_by (builtin_named name)
  named_by name (Some k) = declared_by (slice_get site.set.phrases k)

  -- a name
  pub name_means : (name : List ℕ) → name_meant (here_at site) name held ≡ meaning_of site held (referent site name)
  name_means name = named_by name (meant site.set.phrases site.block name)

-- whatever the own places hold
pub always_means : (site : Site) (name : List ℕ) → name_meant (here_at site) name ≡ (λ held. meaning_of site held (referent site name))
always_means site name = fun_ext (λ held. name_means site held name)
