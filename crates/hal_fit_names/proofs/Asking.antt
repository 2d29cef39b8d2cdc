-- Events, processes and the clock may be asked for where a name means them.
use Rattle.std.proofs.Common.{◌≡◌, ◌⊎◌, ℕ, Bool, true, false, not, ◌||◌, List, Option, Some, None, slice_get, refl, sym, ap, ◌∙◌, inl, inr}
use Rattle.std.specs.Option.{option_and_then, is_some}
use Rattle.hal_base.specs.declared.refusal.Place.{Place}
use Rattle.hal_grammar.specs.Declarations.{Kind, EventKind, IntegerKind, BooleanKind, BitKind, CharacterKind, StructureKind, Attribute, Declared}
use Rattle.hal_phrases.specs.Phrases.{Node, Phrase, OfItem}
use Rattle.hal_names.specs.Means.{means}
use Rattle.hal_scope.specs.declared.builtin.Builtin.{Builtin}
use Rattle.hal_scope.specs.declared.builtin.Builtin.TheVariants as builtin
use Rattle.hal_scope.specs.Builtins.{builtin_named}
use Rattle.hal_scope.specs.Sorts.{type_of, sort_of, sort_of_type}
use Rattle.hal_scope.specs.Uses.{is_eventful, means_event, sort_at, unless}
use Rattle.hal_kinds.specs.Data.{is_event_type}
use Rattle.hal_locks.specs.Barred.{barred, is_asked, is_runtime}
use Rattle.hal_locks.specs.Callees.{is_barred}
use Rattle.hal_locks.specs.Updates.{updating}
use Rattle.hal_agreement.specs.Sites.{Site}
use Rattle.hal_fit_expr.specs.Uses.{Uses}
use Rattle.hal_fit_rules.specs.Happening.{AsksAll}
use Rattle.hal_fit_rules.specs.Owned.{is_asking}
use Rattle.hal_fit_names.specs.Serving.{MayAsk}

event_sort : (o : Option Kind) → is_event_type o ≡ true → is_eventful (Some (sort_of_type o)) ≡ true
unfolding is_event_type sort_of_type is_eventful
event_sort None is = absurd (cc)
event_sort (Some (EventKind place)) is = refl
event_sort (Some (IntegerKind place)) is = absurd (cc)
event_sort (Some (BooleanKind place)) is = absurd (cc)
event_sort (Some (BitKind place size)) is = absurd (cc)
event_sort (Some (CharacterKind place size)) is = absurd (cc)
event_sort (Some (StructureKind place template copies)) is = absurd (cc)

-- data of an event type are an event
pub eventful_sort : (p : Phrase) (common : List Attribute) (item : Declared) → p.node ≡ OfItem common item → is_event_type (type_of common item) ≡ true → is_eventful (sort_of p.node) ≡ true
unfolding sort_of
eventful_sort p common item is eventful = ap (λ n. is_eventful (sort_of n)) is ∙ event_sort (type_of common item) eventful

runtime : (b : Builtin) → is_asking b ≡ true → is_runtime (Some b) ≡ true
unfolding is_runtime
runtime builtin.Runtime asking = refl
runtime other asking = absurd (cc)

module _ (u : Uses) (site : Site) (name : List ℕ) where
  asked_by : (u.asks ≡ true) ⊎ (is_asked site.set.phrases site.block true name ≡ false) → is_asked site.set.phrases site.block true name ≡ true → u.asks ≡ true
  asked_by (inl asks) asked = asks
  asked_by (inr isnt) asked = absurd (let other = sym asked ∙ isnt in cc)

  -- an event or a process
  pub asked_all : (k : ℕ) (p : Phrase) → means site.set.phrases site.block name ≡ Some k → slice_get site.set.phrases k ≡ Some p → MayAsk u site name → is_eventful (sort_of p.node) ≡ true → AsksAll u site
  asked_all k p meant there may eventful =
      record {
        asks = asked_by may.asks
            (ap (λ (o : Option ℕ). elim o [ None ↦ is_runtime (builtin_named name) | Some j ↦ is_eventful (sort_at site.set.phrases j) ]) meant
            ∙ (ap (λ o. is_eventful (option_and_then (λ (q : Phrase). sort_of q.node) o)) there ∙ eventful));
        all = may.all;
      }

  -- the clock
  pub asked_runtime : (b : Builtin) → MayAsk u site name → means site.set.phrases site.block name ≡ None → builtin_named name ≡ Some b → is_asking b ≡ true → u.asks ≡ true
  asked_runtime b may undeclared named asking =
      asked_by may.asks
      (ap (λ (o : Option ℕ). elim o [ None ↦ is_runtime (builtin_named name) | Some k ↦ is_eventful (sort_at site.set.phrases k) ]) undeclared ∙ (ap is_runtime named ∙ runtime b asking))

none_asked : (asked : Bool) (place : Place) (updating : Bool) → (updating || is_some (unless (not asked) place)) ≡ false → asked ≡ false
none_asked false place updating is = refl
none_asked true place false is = absurd (cc)
none_asked true place true is = absurd (cc)

-- a phrase that does nothing that an UPDATE block may not do names none of these, where it reads a name
pub unasked : (ps : List Phrase) (q : Phrase) (n : Node) (reading : Bool) (name : List ℕ) (place : Place) → q.node ≡ n → barred ps q.around.block n ≡ unless (not (is_asked ps q.around.block reading name)) place
    → is_barred ps q ≡ false → is_asked ps q.around.block reading name ≡ false
unasked ps q n reading name place is so free =
    none_asked (is_asked ps q.around.block reading name) place (is_some (updating q.node)) (ap (λ o. is_some (updating q.node) || is_some o) (sym (ap (barred ps q.around.block) is ∙ so)) ∙ free)

-- nor where it doesn't, and the name means no event and no process
pub unasked_otherwise : (ps : List Phrase) (block : ℕ) (name : List ℕ) → is_asked ps block false name ≡ false → means_event ps block name ≡ false → is_asked ps block true name ≡ false
unasked_otherwise ps block name unread eventless = by (means ps block name) unread eventless where
  by : (o : Option ℕ) → elim o [ None ↦ is_runtime (builtin_named name) | Some k ↦ false ] ≡ false → is_eventful (option_and_then (sort_at ps) o) ≡ false
      → elim o [ None ↦ is_runtime (builtin_named name) | Some k ↦ is_eventful (sort_at ps k) ] ≡ false
  by None is none = is
  by (Some k) is none = none
