-- No two attributes of what is declared exclude each other, where no rule of types is broken.
use Rattle.std.proofs.Common.{◌≡◌, ◌⊎◌, Bool, true, false, ◌||◌, List, [], ◌∷◌, Option, Some, None, refl, sym, ap, ◌∙◌, inl, inr}
use Rattle.std.specs.Prelude.{if◌then◌else◌}
use Rattle.std.specs.List.{list_any}
use Rattle.std.specs.Option.{option_or}
use Rattle.hal_base.specs.declared.refusal.Place.{Place}
use Rattle.hal_grammar.specs.Declarations.{Kind, EventKind, Initials, Attribute, Dimensions, Typed, Marked, LockGroup, LockAny, InitialValues, ConstantValues, Declared}
use Rattle.hal_phrases.specs.Phrases.{Phrase, OfDeclare, OfItem}
use Rattle.hal_scope.specs.Rules.{IsAmong, IsSound, ruled}
use Rattle.hal_scope.specs.Sorts.{type_among, type_in, type_of}
use Rattle.hal_kinds.specs.Attributes.{constant_among, constant_in, constant_of, initial_among, initial_in, initial_of}
use Rattle.hal_kinds.specs.Data.{is_event_type}
use Rattle.hal_attributes.specs.Clashes.{attributes_clash, clash_among, clash_at, clash_behind, clashes_with, clashing}
use Rattle.hal_attributes.specs.Features.{excludes, feature_of, feature_of_kind, place_of_attribute, sort_of}
use Rattle.hal_types.specs.Rules.{attribute_rows, type_rows}
use Rattle.hal_fit_rules.proofs.Unbroken.{ruled_none, unbroken}
use Rattle.hal_fit_names.proofs.MeantItems.{of_attributes}

first_none : {X : Type 0} (o p : Option X) → option_or o p ≡ None → (o ≡ None) × (p ≡ None)
first_none None p is = (refl, is)
first_none (Some x) p is = absurd (cc)

none_if : {X : Type 0} (b : Bool) (x : X) (o : Option X) → (if b then Some x else o) ≡ None → (b ≡ false) × (o ≡ None)
none_if false x o is = (refl, is)
none_if true x o is = absurd (cc)

neither : (a b : Bool) → (a || b) ≡ false → (a ≡ false) × (b ≡ false)
neither false b is = (refl, is)
neither true b is = absurd (cc)

none_of : {X : Type 0} (test : X → Bool) (xs : List X) → list_any test xs ≡ false → (x : X) → IsAmong x xs → test x ≡ false
none_of test [] is x within = absurd within
none_of test (y ∷ ys) is x (inl same) = ap test same ∙ (neither (test y) (list_any test ys) is).0
none_of test (y ∷ ys) is x (inr later) = none_of test ys (neither (test y) (list_any test ys) is).1 x later

behind_apart : (x : Attribute) (ys : List Attribute) → clash_behind x ys ≡ None → (y : Attribute) → IsAmong y ys → attributes_clash x y ≡ false
unfolding clash_behind
behind_apart x [] is y within = absurd within
behind_apart x (z ∷ zs) is y (inl same) = ap (attributes_clash x) same ∙ (none_if (attributes_clash x z) (place_of_attribute z) (clash_behind x zs) is).0
behind_apart x (z ∷ zs) is y (inr later) = behind_apart x zs (none_if (attributes_clash x z) (place_of_attribute z) (clash_behind x zs) is).1 y later

-- two attributes that don't exclude each other, or are the same
abbrev AreApart : Attribute → Attribute → Type 0
AreApart x y = (attributes_clash x y ≡ false) ⊎ ((attributes_clash y x ≡ false) ⊎ (x ≡ y))

-- those of a list
own_apart : (common xs : List Attribute) → clash_among common xs ≡ None → (x y : Attribute) → IsAmong x xs → IsAmong y xs → AreApart x y
unfolding clash_among
own_apart common [] is x y within also = absurd within
own_apart common (z ∷ zs) is x y (inl here) (inl there) = inr (inr (here ∙ sym there))
own_apart common (z ∷ zs) is x y (inl here) (inr later) =
    let both = first_none (clash_at common z zs) (clash_among common zs) is in
    inl (ap (λ a. attributes_clash a y) here ∙ behind_apart z zs (none_if (clashes_with z common) (place_of_attribute z) (clash_behind z zs) both.0).1 y later)
own_apart common (z ∷ zs) is x y (inr later) (inl there) =
    let both = first_none (clash_at common z zs) (clash_among common zs) is in
    inr (inl (ap (λ a. attributes_clash a x) there ∙ behind_apart z zs (none_if (clashes_with z common) (place_of_attribute z) (clash_behind z zs) both.0).1 x later))
own_apart common (z ∷ zs) is x y (inr later) (inr also) = own_apart common zs (first_none (clash_at common z zs) (clash_among common zs) is).1 x y later also

-- one of a list and one before the comma
given_apart : (common xs : List Attribute) → clash_among common xs ≡ None → (x y : Attribute) → IsAmong x xs → IsAmong y common → attributes_clash x y ≡ false
unfolding clash_among
given_apart common [] is x y within also = absurd within
given_apart common (z ∷ zs) is x y (inl here) also =
    let both = first_none (clash_at common z zs) (clash_among common zs) is in
    ap (λ a. attributes_clash a y) here ∙ none_of (attributes_clash z) common (none_if (clashes_with z common) (place_of_attribute z) (clash_behind z zs) both.0).0 y also
given_apart common (z ∷ zs) is x y (inr later) also = given_apart common zs (first_none (clash_at common z zs) (clash_among common zs) is).1 x y later also

-- where the attributes stand that say a type, initial values or constant ones
typed_within : (xs : List Attribute) (t : Kind) → type_among xs ≡ Some t → IsAmong (Typed t) xs
unfolding type_among type_in
typed_within [] t is = absurd (cc)
typed_within (Dimensions place sizes ∷ xs) t is = inr (typed_within xs t is)
typed_within (Typed k ∷ xs) t is = inl (ap (λ x. Typed x) (let same : t ≡ k = cc in same))
typed_within (Marked place mark ∷ xs) t is = inr (typed_within xs t is)
typed_within (LockGroup place group ∷ xs) t is = inr (typed_within xs t is)
typed_within (LockAny place ∷ xs) t is = inr (typed_within xs t is)
typed_within (InitialValues place list ∷ xs) t is = inr (typed_within xs t is)
typed_within (ConstantValues place list ∷ xs) t is = inr (typed_within xs t is)

initial_within : (xs : List Attribute) (list : Initials) → initial_among xs ≡ Some list → (place : Place) × IsAmong (InitialValues place list) xs
unfolding initial_among initial_in
initial_within [] list is = absurd (cc)
initial_within (InitialValues place values ∷ xs) list is = (place, inl (ap (InitialValues place) (let same : list ≡ values = cc in same)))
initial_within (Dimensions place sizes ∷ xs) list is = let rest = initial_within xs list is in (rest.0, inr rest.1)
initial_within (Typed k ∷ xs) list is = let rest = initial_within xs list is in (rest.0, inr rest.1)
initial_within (Marked place mark ∷ xs) list is = let rest = initial_within xs list is in (rest.0, inr rest.1)
initial_within (LockGroup place group ∷ xs) list is = let rest = initial_within xs list is in (rest.0, inr rest.1)
initial_within (LockAny place ∷ xs) list is = let rest = initial_within xs list is in (rest.0, inr rest.1)
initial_within (ConstantValues place values ∷ xs) list is = let rest = initial_within xs list is in (rest.0, inr rest.1)

pub constant_within : (xs : List Attribute) (list : Initials) → constant_among xs ≡ Some list → (place : Place) × IsAmong (ConstantValues place list) xs
unfolding constant_among constant_in
constant_within [] list is = absurd (cc)
constant_within (ConstantValues place values ∷ xs) list is = (place, inl (ap (ConstantValues place) (let same : list ≡ values = cc in same)))
constant_within (Dimensions place sizes ∷ xs) list is = let rest = constant_within xs list is in (rest.0, inr rest.1)
constant_within (Typed k ∷ xs) list is = let rest = constant_within xs list is in (rest.0, inr rest.1)
constant_within (Marked place mark ∷ xs) list is = let rest = constant_within xs list is in (rest.0, inr rest.1)
constant_within (LockGroup place group ∷ xs) list is = let rest = constant_within xs list is in (rest.0, inr rest.1)
constant_within (LockAny place ∷ xs) list is = let rest = constant_within xs list is in (rest.0, inr rest.1)
constant_within (InitialValues place values ∷ xs) list is = let rest = constant_within xs list is in (rest.0, inr rest.1)

-- an attribute of a name: its own, or one before the comma
abbrev pub IsOf : List Attribute → Declared → Attribute → Type 0
IsOf common item x = IsAmong x item.attributes ⊎ IsAmong x common

typed_of : (common : List Attribute) (item : Declared) (t : Kind) (o : Option Kind) → type_among item.attributes ≡ o → option_or o (type_among common) ≡ Some t → IsOf common item (Typed t)
typed_of common item t (Some k) own is = inl (typed_within item.attributes t (own ∙ is))
typed_of common item t None own is = inr (typed_within common t is)

initial_by : (common : List Attribute) (item : Declared) (list : Initials) (o : Option Initials) → initial_among item.attributes ≡ o → option_or o (initial_among common) ≡ Some list
    → (place : Place) × IsOf common item (InitialValues place list)
initial_by common item list (Some values) own is = let there = initial_within item.attributes list (own ∙ is) in (there.0, inl there.1)
initial_by common item list None own is = let there = initial_within common list is in (there.0, inr there.1)

constant_by : (common : List Attribute) (item : Declared) (list : Initials) (o : Option Initials) → constant_among item.attributes ≡ o → option_or o (constant_among common) ≡ Some list
    → (place : Place) × IsOf common item (ConstantValues place list)
constant_by common item list (Some values) own is = let there = constant_within item.attributes list (own ∙ is) in (there.0, inl there.1)
constant_by common item list None own is = let there = constant_within common list is in (there.0, inr there.1)

pub constant_is_of : (common : List Attribute) (item : Declared) (list : Initials) → constant_of common item ≡ Some list → (place : Place) × IsOf common item (ConstantValues place list)
constant_is_of common item list is = constant_by common item list (constant_among item.attributes) refl is

-- an event is no constant, and no name has initial values and constant ones
event_clashes : (at_ place : Place) (list : Initials) → AreApart (Typed (EventKind at_)) (ConstantValues place list) → ⊥
unfolding feature_of feature_of_kind sort_of excludes
event_clashes at_ place list (inl is) = cc
event_clashes at_ place list (inr (inl is)) = cc
event_clashes at_ place list (inr (inr is)) = cc

values_clash : (at_ place : Place) (one list : Initials) → AreApart (InitialValues at_ one) (ConstantValues place list) → ⊥
unfolding feature_of sort_of excludes
values_clash at_ place one list (inl is) = cc
values_clash at_ place one list (inr (inl is)) = cc
values_clash at_ place one list (inr (inr is)) = cc

event_kind : (o : Option Kind) → is_event_type o ≡ true → (place : Place) × (o ≡ Some (EventKind place))
unfolding is_event_type
event_kind (Some (EventKind place)) is = (place, refl)
event_kind other is = absurd (cc)

module _ (ps : List Phrase) (sound : IsSound type_rows ps) (p : Phrase) (within : IsAmong p ps) (common : List Attribute) (item : Declared) (is : p.node ≡ OfItem common item) (d : Phrase) (there : IsAmong d ps) (given : d.node ≡ OfDeclare common) where
  -- rule 701
  own_none : clash_among common item.attributes ≡ None
  unfolding attribute_rows clashing
  own_none =
      ruled_none 701 (clashing (OfItem common item))
      (ap (λ n. ruled 701 (clashing n)) (sym is) ∙ unbroken type_rows ps sound p within (λ qs q. ruled 701 (clashing q.node)) (of_attributes (λ qs q. ruled 701 (clashing q.node)) (inr (inr (inr (inr (inl refl)))))))

  given_none : clash_among [] common ≡ None
  unfolding attribute_rows clashing
  given_none =
      ruled_none 701 (clashing (OfDeclare common))
      (ap (λ n. ruled 701 (clashing n)) (sym given) ∙ unbroken type_rows ps sound d there (λ qs q. ruled 701 (clashing q.node)) (of_attributes (λ qs q. ruled 701 (clashing q.node)) (inr (inr (inr (inr (inl refl)))))))

  -- two attributes of the name
  apart : (x y : Attribute) → IsOf common item x → IsOf common item y → AreApart x y
  apart x y (inl own) (inl also) = own_apart common item.attributes own_none x y own also
  apart x y (inl own) (inr before) = inl (given_apart common item.attributes own_none x y own before)
  apart x y (inr before) (inl own) = inr (inl (given_apart common item.attributes own_none y x own before))
  apart x y (inr before) (inr also) = own_apart [] common given_none x y before also

  -- a constant is no event
  pub constant_eventless : (list : Initials) → constant_of common item ≡ Some list → is_event_type (type_of common item) ≡ false
  constant_eventless list constant_ = by (is_event_type (type_of common item)) refl where
    by : (b : Bool) → is_event_type (type_of common item) ≡ b → b ≡ false
    by false eventful = refl
    by true eventful =
        let kind = event_kind (type_of common item) eventful in
        let values = constant_is_of common item list constant_ in
        absurd (event_clashes kind.0 values.0 list (apart (Typed (EventKind kind.0)) (ConstantValues values.0 list) (typed_of common item (EventKind kind.0) (type_among item.attributes) refl kind.1) values.1))

  -- and has no other initial values
  pub constant_alone : (list : Initials) → constant_of common item ≡ Some list → initial_of common item ≡ None
  constant_alone list constant_ = by (initial_of common item) refl where
    by : (o : Option Initials) → initial_of common item ≡ o → o ≡ None
    by None initial = refl
    by (Some one) initial =
        let first = initial_by common item one (initial_among item.attributes) refl initial in
        let values = constant_is_of common item list constant_ in
        absurd (values_clash first.0 values.0 one list (apart (InitialValues first.0 one) (ConstantValues values.0 list) first.1 values.1))
