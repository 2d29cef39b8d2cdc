-- The one value that initial values give is that of the first that they give.
use Rattle.std.proofs.Common.{◌≡◌, ℕ, zero, suc, ◌==◌, Bool, true, false, ◌||◌, List, [], ◌∷◌, ◌++◌, replicate, Some, slice_get, if◌then◌else◌, refl, sym, ap, ◌∙◌, subst, append-nil}
use Rattle.std.proofs.lemmas.Bool.{and_parts, eqb-true}
use Rattle.hal_grammar.specs.Declarations.{Initial, Value, LiteralTimes, NameTimes, ListTimes, Initials, NoInitials, MoreInitials}
use Rattle.hal_phrases.specs.Phrases.{Phrase}
use Rattle.hal_values.specs.declared.value.Value as values
use Rattle.hal_constants.specs.declared.constant.Constant.{Constant}
use Rattle.hal_constants.specs.declared.constant.Constant.TheVariants as constant
use Rattle.hal_constants.specs.Known.{Known, give_none, gives_none, only_of, only_with, signed_literal, signed_name}
use Rattle.hal_initials.specs.Repetition as repetition
use Rattle.hal_templates.specs.Counts as counts
use Rattle.hal_templates.specs.Leaves as leaves
use Rattle.hal_templates.specs.Leaves.{all_leaves, leaf_value, leaves_of, times}

-- templates count values as other rules do
mutual
  unfolding leaves.count_of leaves.count_with repetition.count_of repetition.count_with

  count_same : (i : Initial) → leaves.count_of i ≡ repetition.count_of i
  count_same (Value tree) = refl
  count_same (LiteralTimes place count sign at literal) = refl
  count_same (NameTimes place count sign name) = refl
  count_same (ListTimes place count list) = ap (λ n. counts.times count n) (counts_same 0 list)

  pub counts_same : (total : ℕ) (list : Initials) → leaves.count_with total list ≡ repetition.count_with total list
  counts_same total NoInitials = refl
  counts_same total (MoreInitials first others) =
      counts_same (counts.add total (leaves.count_of first)) others ∙ ap (λ n. repetition.count_with (counts.add total n) others) (count_same first)

none_so_often : (n : ℕ) → ◌≡◌ {A = List Initial} (times n []) []
none_so_often zero = refl
none_so_often (suc n) = none_so_often n

-- initial values that give none have no leaves
repeated_none : (count : ℕ) (list : Initials) (never : Bool) → (count == 0) ≡ never → (never || give_none list) ≡ true → (give_none list ≡ true → all_leaves list ≡ []) → times count (all_leaves list) ≡ []
repeated_none count list true is none rest = ap (λ n. times n (all_leaves list)) (eqb-true count 0 is)
repeated_none count list false is none rest = ap (times count) (rest none) ∙ none_so_often count

mutual
  unfolding gives_none give_none

  no_leaves : (i : Initial) → gives_none i ≡ true → leaves_of i ≡ []
  no_leaves (Value tree) none = absurd (cc)
  no_leaves (LiteralTimes place count sign at literal) none = ap (λ n. replicate n (LiteralTimes place count sign at literal)) (eqb-true count 0 none)
  no_leaves (NameTimes place count sign name) none = ap (λ n. replicate n (NameTimes place count sign name)) (eqb-true count 0 none)
  no_leaves (ListTimes place count list) none = repeated_none count list (count == 0) refl none (no_leaves_at_all list)

  no_leaves_at_all : (list : Initials) → give_none list ≡ true → all_leaves list ≡ []
  no_leaves_at_all NoInitials none = refl
  no_leaves_at_all (MoreInitials first others) none =
      let parts = and_parts (gives_none first) (give_none others) none in
      ap (λ (xs : List Initial). xs ++ all_leaves others) (no_leaves first parts.0) ∙ no_leaves_at_all others parts.1

in_front : (xs ys : List Initial) (x : Initial) → slice_get xs 0 ≡ Some x → slice_get (xs ++ ys) 0 ≡ Some x
in_front [] ys x there = absurd (cc)
in_front (y ∷ xs) ys x there = there

module _ (ps : List Phrase) (vs : Known) (p : Phrase) where
  -- the first of these values is worth this
  pub record IsFirst (xs : List Initial) (v : values.Value) : Type 0 where
    pub leaf : Initial
    pub there : slice_get xs 0 ≡ Some leaf
    pub worth : leaf_value ps vs p leaf ≡ constant.Worth v

  -- behind a value only values that give none
  later_same : (c : Constant) (list : Initials) (v : values.Value) → only_with ps vs p c true list ≡ constant.Worth v → c ≡ constant.Worth v
  unfolding only_with
  later_same c NoInitials v is = is
  later_same c (MoreInitials first others) v is = by (gives_none first) is (later_same c others v) where
    by : (b : Bool) → (if b then only_with ps vs p c true others else constant.Unfit) ≡ constant.Worth v → (only_with ps vs p c true others ≡ constant.Worth v → c ≡ constant.Worth v) → c ≡ constant.Worth v
    by true worth rest = rest worth
    by false worth rest = absurd (cc)

  once : (count : ℕ) (x : Initial) (b : Bool) (c : Constant) (v : values.Value) → (count == 1) ≡ b → leaf_value ps vs p x ≡ c → (if b then c else constant.Unfit) ≡ constant.Worth v → IsFirst (replicate count x) v
  once count x true c v is same worth = record { leaf = x; there = ap (λ n. slice_get (replicate n x) 0) (eqb-true count 1 is); worth = same ∙ worth }
  once count x false c v is same worth = absurd (cc)

  once_all : (count : ℕ) (list : Initials) (b : Bool) (v : values.Value) → (count == 1) ≡ b → (if b then only_with ps vs p constant.Unfit false list else constant.Unfit) ≡ constant.Worth v
      → (only_with ps vs p constant.Unfit false list ≡ constant.Worth v → IsFirst (all_leaves list) v) → IsFirst (times count (all_leaves list)) v
  once_all count list true v is worth rest =
      subst (λ n. IsFirst (times n (all_leaves list)) v) (sym (eqb-true count 1 is)) (subst (λ (xs : List Initial). IsFirst xs v) (sym (append-nil (all_leaves list))) (rest worth))
  once_all count list false v is worth rest = absurd (cc)

  first_step : (first : Initial) (others : Initials) (b : Bool) (v : values.Value) → gives_none first ≡ b
      → (if b then only_with ps vs p constant.Unfit false others else only_with ps vs p (only_of ps vs p first) true others) ≡ constant.Worth v
      → (only_with ps vs p constant.Unfit false others ≡ constant.Worth v → IsFirst (all_leaves others) v) → (only_of ps vs p first ≡ constant.Worth v → IsFirst (leaves_of first) v)
      → IsFirst (leaves_of first ++ all_leaves others) v
  first_step first others true v is worth rest one = subst (λ (xs : List Initial). IsFirst (xs ++ all_leaves others) v) (sym (no_leaves first is)) (rest worth)
  first_step first others false v is worth rest one =
      let found = one (later_same (only_of ps vs p first) others v worth) in
      record { leaf = found.leaf; there = in_front (leaves_of first) (all_leaves others) found.leaf found.there; worth = found.worth }

  mutual
    unfolding only_of only_with leaf_value

    one_first : (i : Initial) (v : values.Value) → only_of ps vs p i ≡ constant.Worth v → IsFirst (leaves_of i) v
    one_first (Value tree) v worth = record { leaf = Value tree; there = refl; worth = worth }
    one_first (LiteralTimes place count sign at literal) v worth = once count (LiteralTimes place count sign at literal) (count == 1) (signed_literal sign literal) v refl refl worth
    one_first (NameTimes place count sign name) v worth = once count (NameTimes place count sign name) (count == 1) (signed_name ps vs p sign name) v refl refl worth
    one_first (ListTimes place count list) v worth = once_all count list (count == 1) v refl worth (all_first list v)

    pub all_first : (list : Initials) (v : values.Value) → only_with ps vs p constant.Unfit false list ≡ constant.Worth v → IsFirst (all_leaves list) v
    all_first NoInitials v worth = absurd (cc)
    all_first (MoreInitials first others) v worth = first_step first others (gives_none first) v refl worth (all_first others v) (one_first first v)
