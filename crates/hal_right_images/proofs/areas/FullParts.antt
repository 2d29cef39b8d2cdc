-- Copies of a part with parts that are passed for copies of a structure have their cells: one of them, or copies that the part fills.
use Rattle.std.specs.Prelude.{◌≡◌, ◌≤◌, ◌<◌, ◌⊎◌, ◌+◌, ◌*◌, ◌||◌, not, ℕ, nat_lt, Bool, true, false, List, flat_map, length, Option, Some, None, slice_get, unwrap_or}
use Rattle.std.specs.Option.{is_some, option_and_then, option_map}
use Rattle.std.proofs.Common.{refl, sym, ap, subst, ◌∙◌, inl, inr, append-nil, arith}
use Rattle.std.proofs.lemmas.Bool.{ltb-false}
use Rattle.hal_base.specs.declared.refusal.Place.{Place}
use Rattle.hal_grammar.specs.Expressions.{Expression, Subscript, Unsubscripted, ByParts, NoSubscripts, MoreSubscripts, Sub}
use Rattle.hal_phrases.specs.Phrases.{Phrase}
use Rattle.hal_kinds.specs.Subscripts.{is_many}
use Rattle.hal_values.specs.declared.value.Kind.{Kind}
use Rattle.hal_constants.specs.Known.{Known}
use Rattle.hal_sizes.specs.Sizes.{copies_by, size_in}
use Rattle.hal_shapes.specs.Selections.{copies_left, copy_subs}
use Rattle.hal_shapes.specs.Shapes.{is_one_copy, may_count}
use Rattle.hal_meaning.specs.Elements.{Component, Shape, kinds_of, kinds_of_component, offset, size_given, times}
use Rattle.hal_agreement.specs.Sites.{Site}
use Rattle.hal_gen_expr.specs.Led.{Led, skips_led}
use Rattle.hal_gen_expr.specs.Spans.{places_skipped}
use Rattle.hal_right_images.proofs.rows.Filled.{size_some}
use Rattle.hal_right_images.proofs.views.Choosing.{in_copy, only_first}
use Rattle.hal_right_images.specs.areas.InCopies.{Fills, StandInCopy}
use Rattle.hal_right_images.specs.areas.Reached.{IsReached}
use Rattle.hal_right_images.proofs.areas.Copies.{copies_for, copies_there, several_begin, several_left, whole_copies_begin, whole_copies_left}
use Rattle.hal_right_images.proofs.areas.Standing.{Stands}
use Rattle.hal_right_images.proofs.areas.Structures.{all_left, copies_same}

module _ (site : Site) (l : Led) (kinds : List Kind) (there_are : StandInCopy l kinds) where
  -- the cells of one copy of it, or of so many that it fills
  copies_of_it : (n before left : ℕ) → before + left ≤ n → (left ≡ 1) ⊎ Fills l kinds → (j : ℕ) (k : Kind) → slice_get (times left kinds) j ≡ Some k
      → slice_get (times n (flat_map kinds_of_component l.shape.components)) (before * length (flat_map kinds_of_component l.shape.components) + (offset l.path l.shape.components + j)) ≡ Some k
  copies_of_it n before left low (inl one) j k at =
      let ks = flat_map kinds_of_component l.shape.components in
      let here : slice_get kinds j ≡ Some k = ap (λ zs. slice_get zs j) (sym (ap (λ m. times m kinds) one ∙ append-nil kinds)) ∙ at in
      in_copy n before (offset l.path l.shape.components + j) ks k (omega (arith, low, one)) (there_are j k here)
  copies_of_it n before left low (inr full) j k at =
      let ks = flat_map kinds_of_component l.shape.components in
      let none = full.0 in
      let place : before * length ks + j ≡ before * length ks + (offset l.path l.shape.components + j) = omega (arith, none) in
      subst (λ m. slice_get (times n ks) m ≡ Some k) place (copies_there n before left j ks k low (ap (λ zs. slice_get (times left zs) j) full.1 ∙ at))

  -- all copies begin where the first one does
  all_from : (x : Subscript) (o : ℕ) → (skips_led site x l + offset l.path l.shape.components) + o ≡ offset l.path l.shape.components → (unwrap_or l.shape.copies 1 ≡ 1) ⊎ Fills l kinds → (j : ℕ) (k : Kind)
      → slice_get (times (unwrap_or l.shape.copies 1) kinds) j ≡ Some k → slice_get (kinds_of l.shape) (((skips_led site x l + offset l.path l.shape.components) + o) + j) ≡ Some k
  all_from x o begin fit j k at =
      let n = unwrap_or l.shape.copies 1 in
      let ks = flat_map kinds_of_component l.shape.components in
      let nothing : 0 * length ks ≡ 0 = omega arith in
      let place : 0 * length ks + (offset l.path l.shape.components + j) ≡ ((skips_led site x l + offset l.path l.shape.components) + o) + j = omega (arith, begin, nothing) in
      subst (λ m. slice_get (kinds_of l.shape) m ≡ Some k) place (copies_of_it n 0 n (omega arith) fit j k at)

  -- without a subscript all copies are passed
  all_copies_stand : (unwrap_or l.shape.copies 1 ≡ 1) ⊎ Fills l kinds → Stands site l Unsubscripted (times (unwrap_or l.shape.copies 1) kinds)
  all_copies_stand fit o among j k at = let none = only_first o among in all_from Unsubscripted o (omega (arith, none)) fit j k at

  -- and without one in parentheses
  whole_copies_stand : (there : Place) → (unwrap_or l.shape.copies 1 ≡ 1) ⊎ Fills l kinds → Stands site l (ByParts there NoSubscripts NoSubscripts NoSubscripts) (times (unwrap_or l.shape.copies 1) kinds)
  whole_copies_stand there fit o among j k at = all_from (ByParts there NoSubscripts NoSubscripts NoSubscripts) o (whole_copies_begin site l there o among) fit j k at

  -- of those that a subscript chooses so many follow each other
  several_copies_stand : (n left : ℕ) (there : Place) (sub : Sub) → is_many sub ≡ true → l.shape.copies ≡ Some n → unwrap_or (places_skipped site n sub) 0 + left ≤ n → (left ≡ 1) ⊎ Fills l kinds
      → Stands site l (ByParts there (MoreSubscripts sub NoSubscripts) NoSubscripts NoSubscripts) (times left kinds)
  several_copies_stand n left there sub many counted low fit o among j k at =
      let cs = l.shape.components in
      let ks = flat_map kinds_of_component cs in
      let before : ℕ = unwrap_or (places_skipped site n sub) 0 in
      let begin = several_begin site l n there sub o many counted among in
      let place : before * length ks + (offset l.path cs + j) ≡ ((skips_led site (ByParts there (MoreSubscripts sub NoSubscripts) NoSubscripts NoSubscripts) l + offset l.path cs) + o) + j = omega (arith, begin) in
      let all : kinds_of l.shape ≡ times n ks = ap (λ (c : Option ℕ). times (unwrap_or c 1) ks) counted in
      subst (λ m. slice_get (kinds_of l.shape) m ≡ Some k) place (ap (λ zs. slice_get zs (before * length ks + (offset l.path cs + j))) all ∙ copies_of_it n before left low fit j k at)

-- what rule 705 takes for one copy is one, where there is any
one_of : (left : ℕ) → 0 < left → is_one_copy (Some left) ≡ true → left ≡ 1
unfolding is_one_copy
one_of left some one = by (nat_lt 1 left) refl one where
  by : (b : Bool) → nat_lt 1 left ≡ b → not b ≡ true → left ≡ 1
  by true less so = absurd (cc)
  by false more so = omega (arith, ltb-false 1 left more, some)

pub one_or : (a b : Bool) → (a || b) ≡ true → (a ≡ true) ⊎ (b ≡ true)
one_or true b is = inl refl
one_or false b is = inr is

-- data of so many copies of a structure, and a parameter that is one
module _ (ps : List Phrase) (vs : Known) (q p r : Phrase) (site : Site) (l : Led) (cs its_cs : List Component) (shape : Shape) (copies its_copies : Option Expression)
    (led_is : l.shape ≡ record { copies = option_map (size_given ps vs p) copies; components = cs }) (shape_is : shape ≡ record { copies = option_map (size_given ps vs r) its_copies; components = its_cs })
    (first_known : (t : Expression) → copies ≡ Some t → size_in ps vs p t ≡ Some (size_given ps vs p t)) (second_known : (t : Expression) → its_copies ≡ Some t → size_in ps vs r t ≡ Some (size_given ps vs r t))
    (in_copy_ : StandInCopy l (flat_map kinds_of_component its_cs)) where
  abbrev its_kinds : List Kind
  its_kinds = flat_map kinds_of_component its_cs

  -- the copies that a subscript leaves
  abbrev Left : Subscript → Option ℕ
  Left x = option_and_then (λ size. copies_left ps vs q size (copy_subs x)) (copies_by ps vs p copies)

  -- as many as are wanted; and they are one, or the part fills them
  module _ (x : Subscript) (count : may_count (Left x) (copies_by ps vs r its_copies) ≡ true) (fit : (is_one_copy (Left x) ≡ true) ⊎ Fills l its_kinds) where
    abbrev Wanted : Type 0
    Wanted = Stands site l x (kinds_of shape)

    -- so many are left, where all are
    all_fit : Left x ≡ copies_by ps vs p copies → (unwrap_or l.shape.copies 1 ≡ 1) ⊎ Fills l its_kinds
    unfolding copies_by is_one_copy
    all_fit left = by fit where
      copies_are : l.shape.copies ≡ option_map (size_given ps vs p) copies
      copies_are = ap (λ (y : Shape). y.copies) led_is

      so : (c : Option Expression) → copies ≡ c → is_one_copy (copies_by ps vs p c) ≡ true → unwrap_or (option_map (size_given ps vs p) c) 1 ≡ 1
      so None is one = refl
      so (Some t) is one = one_of (size_given ps vs p t) (size_some ps vs p t) (ap is_one_copy (sym (first_known t is)) ∙ one)

      by : (is_one_copy (Left x) ≡ true) ⊎ Fills l its_kinds → (unwrap_or l.shape.copies 1 ≡ 1) ⊎ Fills l its_kinds
      by (inl one) = inl (ap (λ c. unwrap_or c 1) copies_are ∙ so copies refl (ap is_one_copy (sym left) ∙ one))
      by (inr full) = inr full

    all_kinds : Left x ≡ copies_by ps vs p copies → times (unwrap_or l.shape.copies 1) its_kinds ≡ kinds_of shape
    all_kinds left =
        ap (λ (y : Shape). times (unwrap_or y.copies 1) its_kinds) led_is
        ∙ (copies_same ps vs p r its_cs copies its_copies first_known second_known (ap (λ o. may_count o (copies_by ps vs r its_copies)) (sym left) ∙ count) ∙ sym (ap kinds_of shape_is))

    -- all copies
    pub all_form : x ≡ Unsubscripted → Wanted
    all_form is =
        let left : Left x ≡ copies_by ps vs p copies = ap Left is ∙ all_left ps vs q (copies_by ps vs p copies) in
        subst (λ y. Stands site l y (kinds_of shape)) (sym is) (subst (Stands site l Unsubscripted) (all_kinds left) (all_copies_stand site l its_kinds in_copy_ (all_fit left)))

    pub whole_form : (there : Place) → x ≡ ByParts there NoSubscripts NoSubscripts NoSubscripts → Wanted
    whole_form there is =
        let left : Left x ≡ copies_by ps vs p copies = ap Left is ∙ whole_copies_left ps vs q there (copies_by ps vs p copies) in
        subst (λ y. Stands site l y (kinds_of shape)) (sym is) (subst (Stands site l (ByParts there NoSubscripts NoSubscripts NoSubscripts)) (all_kinds left) (whole_copies_stand site l its_kinds in_copy_ there (all_fit left)))

    -- or several that are reached
    pub several_form : (there : Place) (sub : Sub) → is_many sub ≡ true → is_some copies ≡ true → x ≡ ByParts there (MoreSubscripts sub NoSubscripts) NoSubscripts NoSubscripts
        → ((t : Expression) → copies ≡ Some t → IsReached ps vs q site (size_given ps vs p t) sub) → Wanted
    unfolding copies_by
    several_form there sub many copied is reached_by = by copies refl copied where
      by : (c : Option Expression) → copies ≡ c → is_some c ≡ true → Wanted
      by None none some = absurd (cc)
      by (Some t) so some =
          let n = size_given ps vs p t in
          let reached : IsReached ps vs q site n sub = reached_by t so in
          let size : copies_by ps vs p copies ≡ Some n = ap (copies_by ps vs p) so ∙ first_known t so in
          let left : Left x ≡ Some reached.left = ap Left is ∙ several_left ps vs q there sub (copies_by ps vs p copies) n reached.left size reached.reach in
          let counted : l.shape.copies ≡ Some n = ap (λ (y : Shape). y.copies) led_is ∙ ap (option_map (size_given ps vs p)) so in
          let kinds : times reached.left its_kinds ≡ kinds_of shape =
          sym (ap kinds_of shape_is ∙ copies_for ps vs r its_cs reached.left its_copies reached.some second_known (ap (λ o. may_count o (copies_by ps vs r its_copies)) (sym left) ∙ count)) in
          subst (λ y. Stands site l y (kinds_of shape)) (sym is)
          (subst (Stands site l (ByParts there (MoreSubscripts sub NoSubscripts) NoSubscripts NoSubscripts)) kinds
          (several_copies_stand site l its_kinds in_copy_ n reached.left there sub many counted reached.low (fits_left reached.left left reached.some fit)))
        where
          fits_left : (m : ℕ) → Left x ≡ Some m → 0 < m → (is_one_copy (Left x) ≡ true) ⊎ Fills l its_kinds → (m ≡ 1) ⊎ Fills l its_kinds
          fits_left m left some_ (inl one) = inl (one_of m some_ (ap is_one_copy (sym left) ∙ one))
          fits_left m left some_ (inr full) = inr full
