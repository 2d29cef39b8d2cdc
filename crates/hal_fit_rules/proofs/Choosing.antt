-- Subscripts that break no rule fit what they choose from.
use Rattle.std.proofs.Common.{◌≡◌, ℕ, suc, [], nat_lt, Bool, true, false, ◌&&◌, ◌||◌, not, Option, Some, None, if◌then◌else◌, refl, sym, ap, ◌∙◌, arith}
use Rattle.std.proofs.lemmas.Bool.{and_from, lt-ltb, ne_eqb}
use Rattle.hal_base.specs.declared.refusal.Place.{Place}
use Rattle.hal_grammar.specs.Expressions.{Subscript, Unsubscripted, ByName, ByInteger, ByParts, Subscripts, NoSubscripts, MoreSubscripts, Every, Range, Portion, One as OnePlace}
use Rattle.hal_kinds.specs.declared.choice.Choice.{Choice}
use Rattle.hal_kinds.specs.declared.class.Class.{Class}
use Rattle.hal_kinds.specs.declared.class.Class.TheVariants as class
use Rattle.hal_kinds.specs.declared.data.Data.{Data}
use Rattle.hal_kinds.specs.Subscripts as kinds
use Rattle.hal_kinds.specs.Subscripts.{subscript_count, choice_of, parts_chosen, is_structure_class, is_miscounted, class_in, has_copies_left, has_places_left}
use Rattle.hal_constants.specs.Constants.{is_none as is_missing}
use Rattle.hal_uses.specs.Subscripts.{is_string, component_fault, choice_fault}
use Rattle.hal_code.specs.Effects.{has_places}
use Rattle.hal_code.specs.Sorts.{Sort, B, T}
use Rattle.hal_agreement.specs.Sites.{Site}
use Rattle.hal_fit_expr.specs.Uses.{Uses}
use Rattle.hal_fit_expr.specs.Sorted.{is_integer, sort_of_name, places_fit, indexes_fit, position_fits, parts_fit, components_fit, part_fits}
use Rattle.hal_fit_classes.specs.Kinded.{sort_of_class}

chosen_by : (d : Data) (s : Sort) (structure several : Bool) → is_structure_class d.class ≡ structure → sort_of_class (if structure then class.Structure else if several then class.Array else d.class) ≡ Some s
    → (is_structure_class d.class ≡ false) × (sort_of_class d.class ≡ Some s)
chosen_by d s true several same is = absurd (cc)
chosen_by d s false true same is = absurd (cc)
chosen_by d s false false same is = (same, is)

-- the class of what is chosen has a sort only where one value of the data is
pub one_chosen : (d : Data) (c : Choice) (s : Sort) → sort_of_class (class_in d c) ≡ Some s → (is_structure_class d.class ≡ false) × (sort_of_class d.class ≡ Some s)
one_chosen d c s is = chosen_by d s (is_structure_class d.class) (has_copies_left d c || has_places_left d c) refl is

-- the subscript of such a choice has components only of what has some
pub record FitsChoice (has : Bool) (c : Choice) : Type 0 where
  pub components : nat_lt 0 c.components ≡ true → has ≡ true

none_by : (b : Bool) → ◌≡◌ {A = Option ℕ} (if b then Some 721 else None) None → b ≡ true → false ≡ true
none_by true none some = absurd (cc)
none_by false none some = some

component_right : (has : Bool) (c : Choice) → component_fault has c ≡ None → FitsChoice has c
component_right true c is = record { components = λ some. refl }
component_right false c is = record { components = none_by (nat_lt 0 c.components) is }

-- a subscript that breaks no rule of data
pub record IsRight (has : Bool) (d : Data) (c : Choice) : Type 0 where
  pub counted : is_miscounted d c ≡ false
  pub parts : FitsChoice has c

counted_by : (has : Bool) (d : Data) (c : Choice) (b : Bool) → is_miscounted d c ≡ b → (if b then Some 707 else component_fault has c) ≡ None → IsRight has d c
counted_by has d c true same none = absurd (cc)
counted_by has d c false same none = record { counted = same; parts = component_right has c none }

pub choice_right : (eventful : Bool) (d : Data) (c : Choice) → choice_fault eventful d c ≡ None → IsRight (is_string d.class && not eventful) d c
choice_right eventful d c is = counted_by (is_string d.class && not eventful) d c (is_miscounted d c) refl is

-- what has components is bits or a text
pub string_places : (c : Class) (eventful : Bool) (s : Sort) → (is_string c && not eventful) ≡ true → sort_of_class c ≡ Some s → has_places s ≡ true
unfolding is_string
string_places class.Bits eventful B is worth = refl
string_places class.Text eventful T is worth = refl
string_places class.Integer eventful s is worth = absurd (cc)
string_places class.Condition eventful s is worth = absurd (cc)
string_places class.Structure eventful s is worth = absurd (cc)
string_places class.Array eventful s is worth = absurd (cc)
string_places class.Bits eventful s is worth = absurd (cc)
string_places class.Text eventful s is worth = absurd (cc)

pub same_none : (list : Subscripts) → is_missing list ≡ kinds.is_none list
unfolding is_missing subscript_count
same_none NoSubscripts = refl
same_none (MoreSubscripts first others) = sym (ne_eqb (suc (subscript_count others)) 0 (λ same. omega (arith, same)))

-- what is evaluated of subscripts are integers
abbrev pub AreRight : Uses → Site → Subscripts → Type 0
AreRight u site NoSubscripts = Unit {0}
AreRight u site (MoreSubscripts first others) = (part_fits u site first ≡ true) × AreRight u site others

abbrev pub SubscriptRight : Uses → Site → Subscript → Type 0
SubscriptRight u site Unsubscripted = Unit {0}
SubscriptRight u site (ByName place name) = is_integer (sort_of_name u site name.name []) ≡ true
SubscriptRight u site (ByInteger place at number) = Unit {0}
SubscriptRight u site (ByParts place copies arrays components) = AreRight u site copies × AreRight u site arrays × AreRight u site components

-- what three parts choose, where those without a mark are of the array or not
abbrev pub marked : Bool → Subscripts → Subscripts → Subscripts → Choice
marked placed copies arrays components =
    if placed then kinds.choice (subscript_count copies) (subscript_count components) 0 (kinds.are_many copies) (kinds.are_many components)
    else kinds.choice (subscript_count copies) (subscript_count arrays) (subscript_count components) (kinds.are_many copies) (kinds.are_many arrays)

module _ (u : Uses) (site : Site) where
  indexes_right : (list : Subscripts) → AreRight u site list → indexes_fit u site list ≡ true
  indexes_right NoSubscripts are = refl
  indexes_right (MoreSubscripts (OnePlace one) others) are = and_from (position_fits u site one) (indexes_fit u site others) are.0 (indexes_right others are.1)
  indexes_right (MoreSubscripts (Every place) others) are = indexes_right others are.1
  indexes_right (MoreSubscripts (Range first last) others) are = indexes_right others are.1
  indexes_right (MoreSubscripts (Portion count first) others) are = indexes_right others are.1

  arrays_right : (arrayed none : Bool) (arrays components : Subscripts) → AreRight u site arrays → AreRight u site components
      → (if none then (if arrayed then indexes_fit u site components else true) else indexes_fit u site arrays) ≡ true
  arrays_right true true arrays components are also = indexes_right components also
  arrays_right false true arrays components are also = refl
  arrays_right arrayed false arrays components are also = indexes_right arrays are

  pub places_right : (arrayed : Bool) (s : Subscript) → SubscriptRight u site s → places_fit u site arrayed s ≡ true
  places_right true Unsubscripted is = refl
  places_right false Unsubscripted is = refl
  places_right true (ByName place name) is = is
  places_right false (ByName place name) is = refl
  places_right true (ByInteger place at number) is = refl
  places_right false (ByInteger place at number) is = refl
  places_right true (ByParts place copies arrays components) is =
      and_from (indexes_fit u site copies) (if is_missing arrays then indexes_fit u site components else indexes_fit u site arrays) (indexes_right copies is.0)
      (arrays_right true (is_missing arrays) arrays components is.1 is.2)
  places_right false (ByParts place copies arrays components) is =
      and_from (indexes_fit u site copies) (if is_missing arrays then true else indexes_fit u site arrays) (indexes_right copies is.0)
      (arrays_right false (is_missing arrays) arrays components is.1 is.2)

  components_right : (s : Sort) (list : Subscripts) → (nat_lt 0 (subscript_count list) ≡ true → has_places s ≡ true) → AreRight u site list → components_fit u site s list ≡ true
  unfolding subscript_count
  components_right s NoSubscripts has are = refl
  components_right s (MoreSubscripts first others) has are = and_from (has_places s) (part_fits u site first) (has (lt-ltb 0 (suc (subscript_count others)) (omega arith))) are.0

  by_marks : (s : Sort) (copies arrays components : Subscripts) (placed : Bool) → (nat_lt 0 (marked placed copies arrays components).components ≡ true → has_places s ≡ true)
      → AreRight u site components → (if placed then true else components_fit u site s components) ≡ true
  by_marks s copies arrays components true has are = refl
  by_marks s copies arrays components false has are = components_right s components has are

  marked_right : (arrayed : Bool) (s : Sort) (place : Place) (copies arrays components : Subscripts) → (nat_lt 0 (choice_of arrayed (ByParts place copies arrays components)).components ≡ true → has_places s ≡ true)
      → AreRight u site components → (if arrayed && is_missing arrays then true else components_fit u site s components) ≡ true
  unfolding choice_of parts_chosen
  marked_right arrayed s place copies arrays components has are =
      ap (λ b. if arrayed && b then true else components_fit u site s components) (same_none arrays)
      ∙ by_marks s copies arrays components (arrayed && kinds.is_none arrays) has are

  pub parts_right : (arrayed : Bool) (s : Sort) (x : Subscript) → (nat_lt 0 (choice_of arrayed x).components ≡ true → has_places s ≡ true) → SubscriptRight u site x → parts_fit u site arrayed s x ≡ true
  unfolding choice_of
  parts_right true s Unsubscripted has is = refl
  parts_right false s Unsubscripted has is = refl
  parts_right true s (ByName place name) has is = refl
  parts_right true s (ByInteger place at number) has is = refl
  parts_right false s (ByName place name) has is = and_from (has_places s) (is_integer (sort_of_name u site name.name [])) (has refl) is
  parts_right false s (ByInteger place at number) has is = has refl
  parts_right true s (ByParts place copies arrays components) has is = marked_right true s place copies arrays components has is.2
  parts_right false s (ByParts place copies arrays components) has is = marked_right false s place copies arrays components has is.2
