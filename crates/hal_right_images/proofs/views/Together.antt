-- Views lie in memory where all that they are for does.
use Rattle.std.specs.Prelude.{◌≡◌, ◌≤◌, ◌<◌, ◌⊎◌, ◌+◌, ◌||◌, ℕ, zero, suc, Bool, true, false, not, List, [], ◌∷◌, length, Some, slice_get}
use Rattle.std.specs.List.{list_all, list_any, range_with_len}
use Rattle.std.proofs.Common.{refl, sym, ap, subst, ◌∙◌, inl, inr, arith}
use Rattle.std.proofs.lemmas.Bool.{and_from}
use Rattle.hal_code.specs.declared.image.ImageParts.{ImageParts}
use Rattle.hal_code.specs.declared.row.Base.{Base}
use Rattle.hal_code.specs.declared.row.Base.TheVariants as base
use Rattle.hal_code.specs.declared.row.Dimension.{Dimension}
use Rattle.hal_code.specs.declared.row.View.{View}
use Rattle.hal_code.specs.Images.{places_of}
use Rattle.hal_code.specs.Memory.{shared_memory, all_lie, fits_places}
use Rattle.hal_code.specs.Right.{process_names, fits_processes, lies_right, views_lie}
use Rattle.hal_values.specs.declared.value.Kind.{Kind}
use Rattle.hal_meaning.specs.Bodies.{processes_of}
use Rattle.hal_meaning.specs.Sets.{Set}
use Rattle.hal_agreement.specs.Sites.{Site}
use Rattle.hal_gen_expr.specs.Numbering.{cell_view}
use Rattle.hal_link.proofs.Outlined.{outlined_at}
use Rattle.hal_link.specs.Outlines.{ranks_of}
use Rattle.hal_fit_calls.specs.Each.{Each}
use Rattle.hal_right_images.proofs.rows.Alone.{each_at}
use Rattle.hal_right_images.specs.rows.Purposes.{StandsIn, IsSite, IsCellFor, HasPurpose}
use Rattle.hal_right_images.specs.views.Lying.{lies_at, lies_in, PurposesLie}
use Rattle.hal_right_images.specs.views.Naming.{NamesView}

-- what all members pass, and what one of them does
all_pass : {X : Type 0} (test : X → Bool) (xs : List X) → ((x : X) → test x ≡ true) → list_all test xs ≡ true
all_pass test [] so = refl
all_pass test (x ∷ xs) so = and_from (test x) (list_all test xs) (so x) (all_pass test xs so)

any_from : (b c : Bool) → c ≡ true → (b || c) ≡ true
any_from true c is = refl
any_from false c is = is

first_from : (b c : Bool) → b ≡ true → (b || c) ≡ true
first_from true c is = refl
first_from false c is = absurd (cc)

next : (n m : ℕ) → (n ≡ m) ⊎ (suc n ≤ m) → (suc n ≡ suc m) ⊎ (suc (suc n) ≤ suc m)
next n m (inl same) = inl (ap suc same)
next n m (inr less) = inr (omega (arith, less))

-- a number that isn't less than another one is the same or more
split : (n m : ℕ) → n ≤ m → (n ≡ m) ⊎ (suc n ≤ m)
split zero zero le = inl refl
split zero (suc m) le = inr (omega arith)
split (suc n) zero le = absurd (omega (arith, le))
split (suc n) (suc m) le = next n m (split n m (omega (arith, le)))

one_passes : (test : ℕ → Bool) (from count p : ℕ) → from ≤ p → p < from + count → test p ≡ true → list_any test (range_with_len from count) ≡ true
one_passes test from zero p low high so = absurd (omega (arith, low, high))
one_passes test from (suc count) p low high so = by (split from p low) (λ less. one_passes test (from + 1) count p (omega (arith, less)) (omega (arith, high)) so) where
  by : (from ≡ p) ⊎ (suc from ≤ p) → (suc from ≤ p → list_any test (range_with_len (from + 1) count) ≡ true) → list_any test (range_with_len from (suc count)) ≡ true
  by (inl same) rest = first_from (test from) (list_any test (range_with_len (from + 1) count)) (ap test same ∙ so)
  by (inr less) rest = any_from (test from) (list_any test (range_with_len (from + 1) count)) (rest less)

there_low : {X : Type 0} (xs : List X) (k : ℕ) (x : X) → slice_get xs k ≡ Some x → k < length xs
there_low [] k x is = absurd (cc)
there_low (y ∷ xs) zero x is = omega arith
there_low (y ∷ xs) (suc k) x is = let low = there_low xs k x is in omega (arith, low)

or_of : (b c : Bool) → (b ≡ true → c ≡ true) → (not b || c) ≡ true
or_of true c so = so refl
or_of false c so = refl

module _ (s : Set) (image : ImageParts) where
  -- a process that has or calls a unit is there
  process_there : (process unit : ℕ) → StandsIn s process unit → process < length (processes_of s.phrases)
  process_there process unit (inl own) = there_low (processes_of s.phrases) process unit own
  process_there process unit (inr calls) =
      let at = outlined_at (ranks_of s.phrases) (processes_of s.phrases) 0 0 calls.number calls.outline calls.there in
      let low = there_low (processes_of s.phrases) calls.number calls.outline.unit at.1 in
      let same = at.0 in
      let its = calls.its in
      omega (arith, low, same, its)

  -- a view lies where it lies in the process that it was made for, and in each that names it
  module _ (v : ℕ) (view : View) (own : ℕ) (low : own < length image.processes) (first : lies_in image own view ≡ true) (all : (p : ℕ) → process_names image v p ≡ true → lies_in image p view ≡ true) where
    abbrev right_at : Base → Bool
    right_at b = elim b [
      | base.Shared number ↦ all_lie image view (shared_memory image) number
      | base.Own number ↦ fits_processes image v view
      | base.Through place offset ↦ fits_processes image v view
      | base.Other byte number ↦ false
    ]

    fits_all : ((p : ℕ) → lies_in image p view ≡ true → fits_places image view (places_of image p) ≡ true) → fits_processes image v view ≡ true
    fits_all so =
        and_from (list_all (λ p. not (process_names image v p) || fits_places image view (places_of image p)) (range_with_len 0 (length image.processes)))
        (list_any (λ p. fits_places image view (places_of image p)) (range_with_len 0 (length image.processes)))
        (all_pass (λ p. not (process_names image v p) || fits_places image view (places_of image p)) (range_with_len 0 (length image.processes))
        (λ p. or_of (process_names image v p) (fits_places image view (places_of image p)) (λ names. so p (all p names))))
        (one_passes (λ p. fits_places image view (places_of image p)) 0 (length image.processes) own (omega arith) (omega (arith, low)) (so own first))

    lies_by : (b : Base) → view.base ≡ b → right_at b ≡ true
    lies_by (base.Shared number) is = sym (ap (lies_at image own view) is) ∙ first
    lies_by (base.Own number) is = fits_all (λ p so. sym (ap (lies_at image p view) is) ∙ so)
    lies_by (base.Through place offset) is = fits_all (λ p so. sym (ap (lies_at image p view) is) ∙ so)
    lies_by (base.Other byte number) is = let here = sym (ap (lies_at image own view) is) ∙ first in absurd (cc)

    lies_all : lies_right image v view ≡ true
    lies_all = lies_by view.base refl

  module _ (lie : PurposesLie s image) where
    cell_lies : (process : ℕ) (site : Site) (rows : List Dimension) (k : Kind) (from : Base) → IsSite s process site → IsCellFor site rows k from → lies_in image process (cell_view from rows k) ≡ true
    cell_lies process site rows k from at (inl (inl one)) = lie.elements process site rows k from at one
    cell_lies process site rows k from at (inl (inr one)) = lie.chosen process site rows k from at one
    cell_lies process site rows k from at (inr (inl one)) = lie.places process site rows k from at one
    cell_lies process site rows k from at (inr (inr one)) = lie.parameters process site rows k from at one

    -- the views of the set, and those that the blocks of processes name
    record LiesFor (view : View) : Type 0 where
      process : ℕ
      there : process < length (processes_of s.phrases)
      lies : lies_in image process view ≡ true

    purpose_lies : (view : View) → HasPurpose s view → LiesFor view
    purpose_lies view (inl one) =
        record {
          process = one.process;
          there = process_there one.process one.is_site.unit one.is_site.stands;
          lies = subst (λ (w : View). lies_in image one.process w ≡ true) (sym one.is) (cell_lies one.process one.site one.rows one.k one.from one.is_site one.purpose);
        }
    purpose_lies view (inr one) =
        record {
          process = one.process;
          there = process_there one.process one.is_site.unit one.is_site.stands;
          lies = subst (λ (w : View). lies_in image one.process w ≡ true) (sym one.is) (lie.areas one.process one.site one.rows one.shape one.from one.is_site one.purpose);
        }

    named_lies : (views : List View) (process v : ℕ) (view : View) → slice_get views v ≡ Some view → NamesView s views process v → lies_in image process view ≡ true
    named_lies views process v view there (inl one) =
        let other = one.there in
        let same : one.view ≡ view = cc in
        subst (λ (w : View). lies_in image process w ≡ true) (sym one.is ∙ same) (cell_lies process one.site one.rows one.k one.from one.is_site one.purpose)
    named_lies views process v view there (inr one) =
        let other = one.there in
        let same : one.view ≡ view = cc in
        subst (λ (w : View). lies_in image process w ≡ true) (sym one.is ∙ same) (lie.areas process one.site one.rows one.shape one.from one.is_site one.purpose)

    all_lie_from : (v : ℕ) (views : List View) → ((k : ℕ) (view : View) → slice_get views k ≡ Some view → lies_right image (v + k) view ≡ true) → views_lie image v views ≡ true
    all_lie_from v [] so = refl
    all_lie_from v (view ∷ views) so =
        and_from (lies_right image v view) (views_lie image (suc v) views) (let same : v + 0 ≡ v = omega arith in subst (λ m. lies_right image m view ≡ true) same (so 0 view refl))
        (all_lie_from (suc v) views (λ k other there. let same : v + suc k ≡ suc v + k = omega arith in subst (λ m. lies_right image m other ≡ true) same (so (suc k) other there)))

    pub views_all : length image.processes ≡ length (processes_of s.phrases) → (views : List View) → Each (HasPurpose s) views → ((process v : ℕ) → process_names image v process ≡ true → NamesView s views process v) → views_lie image 0 views ≡ true
    views_all long views purposed named =
        all_lie_from 0 views
        (λ k view there.
        let one = purpose_lies view (each_at (HasPurpose s) views k view purposed there) in
        let same : k ≡ 0 + k = omega arith in
        subst (λ m. lies_right image m view ≡ true) same
        (lies_all k view one.process (subst (λ m. one.process < m) (sym long) one.there) one.lies (λ p names. named_lies views p k view there (named p k names))))
