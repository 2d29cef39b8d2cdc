-- What a unit declares stands for itself.
use Rattle.std.proofs.Common.{◌≡◌, ◌⊎◌, ℕ, Bool, true, false, not, ◌&&◌, List, Option, Some, None, slice_get, refl, sym, ap, ◌∙◌, inl, inr}
use Rattle.std.specs.Option.{option_and_then}
use Rattle.hal_grammar.specs.Leaves.{Naming}
use Rattle.hal_grammar.specs.Declarations.{Attribute, Declared, Declaration}
use Rattle.hal_grammar.specs.Units.{Head}
use Rattle.hal_phrases.specs.Phrases.{Node, Phrase, OfFile, OfTemplate, OfUnit, OfItem}
use Rattle.hal_names.specs.Means.{means}
use Rattle.hal_scope.specs.Sorts.{type_of}
use Rattle.hal_kinds.specs.Data.{is_event_type}
use Rattle.hal_constants.specs.Naming.{is_value_item}
use Rattle.hal_meaning.specs.Bodies.{is_called, is_unit, pooled_at, meant_at, standing_for}
use Rattle.hal_meaning.specs.Places.{is_in_unit}
use Rattle.hal_agreement.specs.Sites.{Site}
use Rattle.hal_fit_rules.specs.Owned.{IsOwn}
use Rattle.hal_fit_names.specs.Standing.{StandsForData, StandsForItself}
use Rattle.hal_fit_names.specs.Suited.{is_plain, is_templated}

unit_pools : (ps : List Phrase) (name : List ℕ) (n : Node) → is_unit n ≡ true → pooled_at ps name n ≡ None
unit_pools ps name (OfUnit of head declarations) is = refl
unit_pools ps name (OfFile prefaces unit) is = absurd (cc)
unit_pools ps name other is = absurd (cc)

home_pools : (ps : List Phrase) (name : List ℕ) (o : Option Phrase) → elim o [ None ↦ false | Some h ↦ is_unit h.node ] ≡ true → option_and_then (λ (h : Phrase). pooled_at ps name h.node) o ≡ None
home_pools ps name None is = absurd (cc)
home_pools ps name (Some h) is = unit_pools ps name h.node is

-- a phrase that is no template's stands for nothing else
itself : (ps : List Phrase) (p : Phrase) (n : Node) → is_templated ps p n ≡ false → meant_at ps p n ≡ None
itself ps p (OfTemplate name head declarations) plain = absurd (cc)
itself ps p (OfItem common item) plain = by (is_in_unit ps p.around.home) refl plain where
  by : (b : Bool) → is_in_unit ps p.around.home ≡ b → not b ≡ false → meant_at ps p (OfItem common item) ≡ None
  by true is none = home_pools ps item.name.name (slice_get ps p.around.home) is
  by false is none = absurd (cc)
itself ps p other plain = refl

pub own_number : (ps : List Phrase) (k : ℕ) (p : Phrase) → slice_get ps k ≡ Some p → is_templated ps p p.node ≡ false → standing_for ps k ≡ k
own_number ps k p there plain =
    ap (λ (o : Option ℕ). elim o [ None ↦ k | Some other ↦ other ]) (ap (option_and_then (λ (q : Phrase). meant_at ps q q.node)) there ∙ itself ps p p.node plain)

-- so a name that means it is own
pub own_name : (site : Site) (name : List ℕ) (k : ℕ) (p : Phrase) → means site.set.phrases site.block name ≡ Some k → slice_get site.set.phrases k ≡ Some p → is_templated site.set.phrases p p.node ≡ false → IsOwn site name
own_name site name k p meant there plain = record { number = k; meant = meant; phrase = p; there = there; own = own_number site.set.phrases k p there plain }

-- no template, or that of a unit, or plain data, or an event or a constant that stands for a COMPOOL's
pub data IsShown (ps : List Phrase) (k : ℕ) (p : Phrase) : Type 0 where
  Plain : is_templated ps p p.node ≡ false → IsShown ps k p
  Written : (template : Naming) (head : Head) (declarations : List Declaration) → p.node ≡ OfTemplate template head declarations → IsShown ps k p
  Pooled : (common : List Attribute) (item : Declared) → p.node ≡ OfItem common item → is_plain common item ≡ true → IsShown ps k p
  PooledEvent : (common : List Attribute) (item : Declared) → p.node ≡ OfItem common item → is_event_type (type_of common item) ≡ true → StandsForData ps k p common item → IsShown ps k p
  PooledConstant : (common : List Attribute) (item : Declared) → p.node ≡ OfItem common item → is_event_type (type_of common item) ≡ false → is_value_item common item ≡ true → StandsForData ps k p common item
      → IsShown ps k p

module _ (ps : List Phrase) (k : ℕ) (p : Phrase) where
  pooled_shown : (common : List Attribute) (item : Declared) → p.node ≡ OfItem common item → (eventful valued : Bool) → is_event_type (type_of common item) ≡ eventful → is_value_item common item ≡ valued
      → StandsForData ps k p common item → IsShown ps k p
  pooled_shown common item is true valued event constant stands = PooledEvent common item is event stands
  pooled_shown common item is false true event constant stands = PooledConstant common item is event constant stands
  pooled_shown common item is false false event constant stands = Pooled common item is (ap (λ a. not a && not (is_value_item common item)) event ∙ ap not constant)

  item_shown : (common : List Attribute) (item : Declared) → p.node ≡ OfItem common item → (b : Bool) → is_in_unit ps p.around.home ≡ b → StandsForData ps k p common item ⊎ StandsForItself ps k p common item → IsShown ps k p
  item_shown common item is true home stands = Plain (ap (is_templated ps p) is ∙ ap not home)
  item_shown common item is false home (inl stands) = pooled_shown common item is (is_event_type (type_of common item)) (is_value_item common item) refl refl stands
  item_shown common item is false home (inr itself) = by itself.2 where
    by : (is_in_unit ps p.around.home ≡ true) ⊎ (is_plain common item ≡ true) → IsShown ps k p
    by (inl unit) = absurd (let other : true ≡ false = sym unit ∙ home in cc)
    by (inr plain) = Pooled common item is plain

  pub shown_so : (n : Node) → p.node ≡ n → ((common : List Attribute) (item : Declared) → p.node ≡ OfItem common item → StandsForData ps k p common item ⊎ StandsForItself ps k p common item) → IsShown ps k p
  shown_so (OfTemplate template head declarations) is pools = Written template head declarations is
  shown_so (OfItem common item) is pools = item_shown common item is (is_in_unit ps p.around.home) refl (pools common item is)
  shown_so other is pools = Plain (ap (is_templated ps p) is)

-- what is called is no template
pub called_plain : (ps : List Phrase) (p : Phrase) (n : Node) → is_called n ≡ true → is_templated ps p n ≡ false
called_plain ps p (OfUnit name head declarations) is = refl
called_plain ps p (OfTemplate name head declarations) is = absurd (cc)
called_plain ps p (OfItem common item) is = absurd (cc)
called_plain ps p other is = absurd (cc)
