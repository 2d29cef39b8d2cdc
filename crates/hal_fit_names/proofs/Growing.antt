-- The value of a constant is the same where more is known.
use Rattle.std.proofs.Common.{◌≡◌, ℕ, ◌==◌, Bool, true, false, List, [], Option, Some, None, refl, ap, ◌∙◌}
use Rattle.std.specs.Prelude.{if◌then◌else◌}
use Rattle.hal_grammar.specs.Declarations.{Double, IntegerKind, BooleanKind, EventKind, BitKind, CharacterKind, StructureKind, Initial, Value, LiteralTimes, NameTimes, ListTimes, Initials, NoInitials, MoreInitials}
use Rattle.hal_grammar.specs.Declarations as declarations
use Rattle.hal_phrases.specs.Phrases.{Node, Phrase, OfItem}
use Rattle.hal_scope.specs.Sorts.{type_of}
use Rattle.hal_kinds.specs.Attributes as attributes
use Rattle.hal_values.specs.declared.value.Kind.{Kind}
use Rattle.hal_constants.specs.declared.constant.Constant.{Constant}
use Rattle.hal_constants.specs.declared.constant.Constant.TheVariants as constant
use Rattle.hal_constants.specs.Constants.{constant_of}
use Rattle.hal_constants.specs.Known.{Known, size_of, bits_kind, text_kind, kind_of, kind_of_type, kind_of_item, signed_name, gives_none, only_of, only_with, only_in, fitted, declared_value}
use Rattle.hal_constants.specs.Naming.{constant_named, is_value_item}
use Rattle.hal_fit_names.proofs.Keeping.{Keeps, Precedes, constant_keeps, if_keeps, named_keeps, same_keeps, signed_keeps}

-- an option that has the other one's value, where that has one
abbrev pub Gets : {X : Type 0} → Option X → Option X → Type 0
Gets {X} o p = (x : X) → o ≡ Some x → p ≡ Some x

size_gets : (limit : ℕ) (c d : Constant) → Keeps c d → Gets (size_of limit c) (size_of limit d)
unfolding size_of
size_gets limit (constant.Worth v) d keeps n is = ap (size_of limit) keeps ∙ is
size_gets limit constant.Failed d keeps n is = absurd (cc)
size_gets limit constant.Open d keeps n is = absurd (cc)
size_gets limit constant.Unfit d keeps n is = absurd (cc)

bits_gets : (o p : Option ℕ) → Gets o p → Gets (bits_kind o) (bits_kind p)
unfolding bits_kind
bits_gets None p gets k is = absurd (cc)
bits_gets (Some n) p gets k is = ap bits_kind (gets n refl) ∙ is

text_gets : (o p : Option ℕ) → Gets o p → Gets (text_kind o) (text_kind p)
unfolding text_kind
text_gets None p gets k is = absurd (cc)
text_gets (Some n) p gets k is = ap text_kind (gets n refl) ∙ is

if_some : {X : Type 0} (b : Bool) (o p : Option X) → Gets o p → Gets (if b then o else None) (if b then p else None)
if_some true o p gets x is = gets x is
if_some false o p gets x is = absurd (cc)

-- a value that is fitted to a kind
fitted_gets : (o p : Option Kind) (c d : Constant) → Gets o p → Keeps c d → Gets (fitted o c) (fitted p d)
unfolding fitted
fitted_gets (Some k) p (constant.Worth v) d gets keeps w is = ap (λ e. fitted p e) keeps ∙ (ap (λ e. fitted e (constant.Worth v)) (gets k refl) ∙ is)
fitted_gets (Some k) p constant.Failed d gets keeps w is = absurd (cc)
fitted_gets (Some k) p constant.Open d gets keeps w is = absurd (cc)
fitted_gets (Some k) p constant.Unfit d gets keeps w is = absurd (cc)
fitted_gets None p (constant.Worth v) d gets keeps w is = absurd (cc)
fitted_gets None p constant.Failed d gets keeps w is = absurd (cc)
fitted_gets None p constant.Open d gets keeps w is = absurd (cc)
fitted_gets None p constant.Unfit d gets keeps w is = absurd (cc)

module _ (ps : List Phrase) (vs ws : Known) (p : Phrase) (precedes : Precedes ps vs ws p p) where
  kind_gets : (double : Bool) (t : declarations.Kind) → Gets (kind_of ps vs p double t) (kind_of ps ws p double t)
  unfolding kind_of
  kind_gets double (IntegerKind place) k is = is
  kind_gets double (BooleanKind place) k is = is
  kind_gets double (EventKind place) k is = is
  kind_gets double (BitKind place size) k is =
      bits_gets (size_of 32 (constant_of ps vs p size)) (size_of 32 (constant_of ps ws p size)) (size_gets 32 (constant_of ps vs p size) (constant_of ps ws p size) (constant_keeps ps vs ws p p refl precedes size)) k is
  kind_gets double (CharacterKind place size) k is =
      text_gets (size_of 255 (constant_of ps vs p size)) (size_of 255 (constant_of ps ws p size)) (size_gets 255 (constant_of ps vs p size) (constant_of ps ws p size) (constant_keeps ps vs ws p p refl precedes size)) k is
  kind_gets double (StructureKind place template copies) k is = absurd (cc)

  type_gets : (double : Bool) (o : Option declarations.Kind) → Gets (kind_of_type ps vs p double o) (kind_of_type ps ws p double o)
  unfolding kind_of_type
  type_gets double None k is = absurd (cc)
  type_gets double (Some t) k is = kind_gets double t k is

  mutual
    unfolding only_of only_with

    only_keeps : (i : Initial) → Keeps (only_of ps vs p i) (only_of ps ws p i)
    only_keeps (Value tree) = constant_keeps ps vs ws p p refl precedes tree
    only_keeps (LiteralTimes place count sign spot literal) = same_keeps (only_of ps vs p (LiteralTimes place count sign spot literal)) (only_of ps ws p (LiteralTimes place count sign spot literal)) refl
    only_keeps (NameTimes place count sign name) =
        if_keeps (count == 1) (signed_name ps vs p sign name) constant.Unfit (signed_name ps ws p sign name) constant.Unfit
        (signed_keeps sign (constant_named ps vs p name.name []) (constant_named ps ws p name.name []) (named_keeps ps vs ws p p refl precedes name.name [])) tt
    only_keeps (ListTimes place count list) =
        if_keeps (count == 1) (only_with ps vs p constant.Unfit false list) constant.Unfit (only_with ps ws p constant.Unfit false list) constant.Unfit (among_keeps constant.Unfit constant.Unfit false list tt) tt

    among_keeps : (c d : Constant) (one : Bool) (list : Initials) → Keeps c d → Keeps (only_with ps vs p c one list) (only_with ps ws p d one list)
    among_keeps c d one NoInitials keeps = keeps
    among_keeps c d one (MoreInitials first others) keeps =
        if_keeps (gives_none first) (only_with ps vs p c one others) (if one then constant.Unfit else only_with ps vs p (only_of ps vs p first) true others) (only_with ps ws p d one others)
        (if one then constant.Unfit else only_with ps ws p (only_of ps ws p first) true others) (among_keeps c d one others keeps)
        (if_keeps one constant.Unfit (only_with ps vs p (only_of ps vs p first) true others) constant.Unfit (only_with ps ws p (only_of ps ws p first) true others) tt
        (among_keeps (only_of ps vs p first) (only_of ps ws p first) true others (only_keeps first)))

  in_keeps : (o : Option Initials) → Keeps (only_in ps vs p o) (only_in ps ws p o)
  unfolding only_in
  in_keeps None = tt
  in_keeps (Some list) = among_keeps constant.Unfit constant.Unfit false list tt

  -- the value of what a phrase declares
  pub declared_gets : (n : Node) → Gets (declared_value ps vs p n) (declared_value ps ws p n)
  unfolding declared_value
  declared_gets (OfItem common item) v is =
      if_some (is_value_item common item) (fitted (kind_of_item ps vs p common item) (only_in ps vs p (attributes.constant_of common item)))
      (fitted (kind_of_item ps ws p common item) (only_in ps ws p (attributes.constant_of common item)))
      (fitted_gets (kind_of_item ps vs p common item) (kind_of_item ps ws p common item) (only_in ps vs p (attributes.constant_of common item)) (only_in ps ws p (attributes.constant_of common item))
      (type_gets (attributes.is_marked Double common item) (type_of common item)) (in_keeps (attributes.constant_of common item))) v is
  declared_gets other v is = absurd (cc)
