-- The addresses that views give lead to what the views are of.
use Rattle.std.specs.Prelude.{ℕ, zero, suc, ◌+◌, ◌<◌, ◌≡◌, ◌==◌, nat_le, length, Bool, true, false, not, ◌||◌, List, [], ◌∷◌, ◌++◌, ℤ, Option, Some, None, slice_get, if◌then◌else◌}
use Rattle.std.specs.List.{list_all, list_any, range_with_len}
use Rattle.std.proofs.Common.{refl, ap, subst, ◌∙◌, arith}
use Rattle.std.proofs.lemmas.Bool.{eqb-true, and_parts}
use Rattle.hal_values.specs.declared.value.Kind.{Kind}
use Rattle.hal_states.specs.Spots.{Held, further, referred_to}
use Rattle.hal_code.specs.declared.image.ImageParts.{ImageParts}
use Rattle.hal_code.specs.declared.row.Base.{Base}
use Rattle.hal_code.specs.declared.row.Base.TheVariants as base
use Rattle.hal_code.specs.declared.row.Block.{Block}
use Rattle.hal_code.specs.declared.row.Dimension.{Dimension}
use Rattle.hal_code.specs.declared.row.OwnPlace.{OwnPlace}
use Rattle.hal_code.specs.declared.row.Process.{Process}
use Rattle.hal_code.specs.declared.row.Target.{Target}
use Rattle.hal_code.specs.declared.row.Target.TheVariants as target
use Rattle.hal_code.specs.declared.row.View.{View}
use Rattle.hal_code.specs.Addressing.{cells_before, spot_of, operand_of}
use Rattle.hal_code.specs.Blocks.{is_common, block_places}
use Rattle.hal_code.specs.Cores.{Setting}
use Rattle.hal_code.specs.Images.{expanded, places_of, kinds_of}
use Rattle.hal_code.specs.Memory.{lies_from, own_memory, shared_memory, shape_memory, shape_of_place, target_kinds, all_lie, lies_through, fits_places, is_own}
use Rattle.hal_code.specs.Operands.{is_view_for}
use Rattle.hal_code.specs.Right.{process_names, fits_processes, lies_right, form_right, target_right, views_lie}
use Rattle.hal_sound_code.specs.Lying.{LieAt, Leads, AreHeld}
use Rattle.hal_sound_code.proofs.Memory.{lies_own, lie_within, of_offsets}
use Rattle.hal_sound_code.proofs.Places.{held_spot}

-- what a test finds in a list
pub any_at : {T : Type 0} (test : T → Bool) (xs : List T) (n : ℕ) (x : T) → slice_get xs n ≡ Some x → test x ≡ true → list_any test xs ≡ true
any_at test [] n x e is = absurd (cc)
any_at test (y ∷ ys) zero x e is = or_first (test y) (list_any test ys) (subst (λ z. test z ≡ true) (let same : x ≡ y = cc in same) is)
  where
    or_first : (a b : Bool) → a ≡ true → (a || b) ≡ true
    or_first true b h = refl
    or_first false b h = absurd (cc)
any_at test (y ∷ ys) (suc n) x e is = or_second (test y) (list_any test ys) (any_at test ys n x e is)
  where
    or_second : (a b : Bool) → b ≡ true → (a || b) ≡ true
    or_second true b h = refl
    or_second false b h = h

pub all_at : {T : Type 0} (test : T → Bool) (xs : List T) (n : ℕ) (x : T) → slice_get xs n ≡ Some x → list_all test xs ≡ true → test x ≡ true
all_at test [] n x e is = absurd (cc)
all_at test (y ∷ ys) zero x e is = subst (λ z. test z ≡ true) (let same : y ≡ x = cc in same) (and_parts (test y) (list_all test ys) is).0
all_at test (y ∷ ys) (suc n) x e is = all_at test ys n x e (and_parts (test y) (list_all test ys) is).1

range_at : (test : ℕ → Bool) (a n j : ℕ) → j < n → list_all test (range_with_len a n) ≡ true → test (a + j) ≡ true
range_at test a zero j less e = absurd (omega (arith, less))
range_at test a (suc n) zero less e = subst (λ k. test k ≡ true) (let same : a ≡ a + zero = omega arith in same) (and_parts (test a) _ e).0
range_at test a (suc n) (suc j) less e = subst (λ k. test k ≡ true) (let same : (a + 1) + j ≡ a + suc j = omega arith in same) (range_at test (a + 1) n j (omega (arith, less)) (and_parts (test a) _ e).1)

-- the rows of views
pub view_lies : (image : ImageParts) (v : ℕ) (views : List View) (n : ℕ) (view : View) → slice_get views n ≡ Some view → views_lie image v views ≡ true → lies_right image (v + n) view ≡ true
view_lies image v [] n view e is = absurd (cc)
view_lies image v (one ∷ views) zero view e is =
    subst (λ k. lies_right image k view ≡ true) (let same : v ≡ v + zero = omega arith in same) (subst (λ x. lies_right image v x ≡ true) (let same : one ≡ view = cc in same) (and_parts (lies_right image v one) (views_lie image (suc v) views) is).0)
view_lies image v (one ∷ views) (suc n) view e is =
    subst (λ k. lies_right image k view ≡ true) (let same : suc v + n ≡ v + suc n = omega arith in same) (view_lies image (suc v) views n view e (and_parts (lies_right image v one) (views_lie image (suc v) views) is).1)

-- the places that a block may name are those of the process
pub front : {T : Type 0} (xs ys : List T) (n : ℕ) (x : T) → slice_get xs n ≡ Some x → slice_get (xs ++ ys) n ≡ Some x
front [] ys n x e = absurd (cc)
front (y ∷ xs) ys zero x e = e
front (y ∷ xs) ys (suc n) x e = front xs ys n x e

-- the places of a process, by its row
abbrev of_row : ImageParts → Option Process → List OwnPlace
of_row image o = elim o [ None ↦ [] | Some process ↦ expanded image.common ++ expanded process.places ]

common_of : (image : ImageParts) (n : ℕ) (one : OwnPlace) (processes : List Process) (p : ℕ) → p < length processes → slice_get (expanded image.common) n ≡ Some one → slice_get (of_row image (slice_get processes p)) n ≡ Some one
common_of image n one [] p less e = absurd (omega (arith, less))
common_of image n one (process ∷ processes) zero less e = front (expanded image.common) (expanded process.places) n one e
common_of image n one (process ∷ processes) (suc p) less e = common_of image n one processes p (omega (arith, less)) e

pub places_there : (s : Setting) (block : Block) → s.process < length s.image.processes → (is_common block || (block.process == s.process)) ≡ true → (n : ℕ) (one : OwnPlace) → slice_get (block_places s.image block) n ≡ Some one
    → slice_get (places_of s.image s.process) n ≡ Some one
places_there s block exists own n one e = of_common (is_common block) own e
  where
    of_common : (c : Bool) → (c || (block.process == s.process)) ≡ true → slice_get (if c then expanded s.image.common else places_of s.image block.process) n ≡ Some one → slice_get (places_of s.image s.process) n ≡ Some one
    of_common true is h = common_of s.image n one s.image.processes s.process exists h
    of_common false is h = subst (λ p. slice_get (places_of s.image p) n ≡ Some one) (eqb-true block.process s.process is) h

module _ (s : Setting) (view : View) (is : List ℤ) (held : List Held) where
  -- where the view's address is
  abbrev Lies : Type 0
  Lies = LieAt s (further (cells_before view.dimensions is) (spot_of view.base held)) (target_kinds s.image view.target)

  offset_lies : (memory : List (Option Kind)) (number : ℕ) → list_all (λ (d : Dimension). nat_le 1 d.size) view.dimensions ≡ true → all_lie s.image view memory number ≡ true
      → lies_from memory (number + cells_before view.dimensions is) (target_kinds s.image view.target) ≡ true
  offset_lies memory number sizes e = of_offsets view.dimensions is (λ n. lies_from memory (number + n) (target_kinds s.image view.target)) sizes e

  through_lies : (places : List OwnPlace) (place offset : ℕ) → list_all (λ (d : Dimension). nat_le 1 d.size) view.dimensions ≡ true → AreHeld s (places_of s.image s.process) held
      → ((n : ℕ) (one : OwnPlace) → slice_get places n ≡ Some one → slice_get (places_of s.image s.process) n ≡ Some one) → lies_through s.image view offset (slice_get places place) ≡ true
      → LieAt s (further (cells_before view.dimensions is) (further offset (referred_to (slice_get held place)))) (target_kinds s.image view.target)
  through_lies places place offset sizes are each e = of_place (slice_get places place) refl e
    where
      of_place : (o : Option OwnPlace) → slice_get places place ≡ o → lies_through s.image view offset o ≡ true → LieAt s (further (cells_before view.dimensions is) (further offset (referred_to (slice_get held place)))) (target_kinds s.image view.target)
      of_place None found h = absurd (cc)
      of_place (Some one) found h = of_shape (shape_of_place one) refl h
        where
          of_shape : (o : Option ℕ) → shape_of_place one ≡ o → ◌≡◌ {A = Bool} (elim o [ None ↦ false | Some shape ↦ all_lie s.image view (shape_memory s.image shape) offset ]) true
              → LieAt s (further (cells_before view.dimensions is) (further offset (referred_to (slice_get held place)))) (target_kinds s.image view.target)
          of_shape None same g = absurd (cc)
          of_shape (Some shape) same g =
              lie_within s (referred_to (slice_get held place)) (kinds_of s.image shape) offset (cells_before view.dimensions is) (target_kinds s.image view.target)
              (held_spot s (places_of s.image s.process) held place shape are (ap (λ o. elim o [ None ↦ None | Some x ↦ shape_of_place x ]) (each place one found) ∙ same))
              (offset_lies (shape_memory s.image shape) offset sizes g)

  -- a view that fits these places of the process
  fitting : (places : List OwnPlace) → list_all (λ (d : Dimension). nat_le 1 d.size) view.dimensions ≡ true → AreHeld s (places_of s.image s.process) held
      → ((n : ℕ) (one : OwnPlace) → slice_get places n ≡ Some one → slice_get (places_of s.image s.process) n ≡ Some one) → (b : Base)
      → ◌≡◌ {A = Bool} (elim b [
        | base.Shared number ↦ all_lie s.image view (shared_memory s.image) number
        | base.Own number ↦ all_lie s.image view (own_memory places) number
        | base.Through place offset ↦ lies_through s.image view offset (slice_get places place)
        | base.Other byte number ↦ false
      ]) true → LieAt s (further (cells_before view.dimensions is) (spot_of b held)) (target_kinds s.image view.target)
  fitting places sizes are each (base.Shared number) e = offset_lies (shared_memory s.image) number sizes e
  fitting places sizes are each (base.Own number) e = lies_own places (places_of s.image s.process) each _ _ (offset_lies (own_memory places) number sizes e)
  fitting places sizes are each (base.Through place offset) e = through_lies places place offset sizes are each e
  fitting places sizes are each (base.Other byte number) e = absurd (cc)

  -- a view that fits these places of the process where it begins at own ones, and fits the shared cells where it begins there
  based : (places : List OwnPlace) (others : Bool) → list_all (λ (d : Dimension). nat_le 1 d.size) view.dimensions ≡ true → AreHeld s (places_of s.image s.process) held
      → ((n : ℕ) (one : OwnPlace) → slice_get places n ≡ Some one → slice_get (places_of s.image s.process) n ≡ Some one) → (b : Base)
      → ◌≡◌ {A = Bool} (elim b [
        | base.Shared number ↦ all_lie s.image view (shared_memory s.image) number
        | base.Own number ↦ others
        | base.Through place offset ↦ others
        | base.Other byte number ↦ false
      ]) true
      → (others ≡ true → ◌≡◌ {A = Bool} (elim b [ base.Shared number ↦ false | base.Own number ↦ true | base.Through place offset ↦ true | base.Other byte number ↦ false ]) true
      → ◌≡◌ {A = Bool} (elim b [
        | base.Shared number ↦ true
        | base.Own number ↦ all_lie s.image view (own_memory places) number
        | base.Through place offset ↦ lies_through s.image view offset (slice_get places place)
        | base.Other byte number ↦ false
      ]) true)
      → LieAt s (further (cells_before view.dimensions is) (spot_of b held)) (target_kinds s.image view.target)
  based places others sizes are each (base.Shared number) e fits = fitting places sizes are each (base.Shared number) e
  based places others sizes are each (base.Own number) e fits = fitting places sizes are each (base.Own number) (fits e refl)
  based places others sizes are each (base.Through place offset) e fits = fitting places sizes are each (base.Through place offset) (fits e refl)
  based places others sizes are each (base.Other byte number) e fits = absurd (cc)

  own_fits : (v : ℕ) → s.process < length s.image.processes → process_names s.image v s.process ≡ true → fits_processes s.image v view ≡ true → fits_places s.image view (places_of s.image s.process) ≡ true
  own_fits v exists names e = or_named (process_names s.image v s.process) (fits_places s.image view (places_of s.image s.process)) names (subst (λ p. (not (process_names s.image v p) || fits_places s.image view (places_of s.image p)) ≡ true) (let same : 0 + s.process ≡ s.process = omega arith in same)
      (range_at (λ p. not (process_names s.image v p) || fits_places s.image view (places_of s.image p)) 0 (length s.image.processes) s.process exists (and_parts _ _ e).0))
    where
      or_named : (a b : Bool) → a ≡ true → (not a || b) ≡ true → b ≡ true
      or_named true b h g = g
      or_named false b h g = absurd (cc)

  -- the address of a view that a block names
  pub view_lies_at : (v : ℕ) (block : Block) → s.process < length s.image.processes → form_right s.image view ≡ true → lies_right s.image v view ≡ true → is_view_for s.image block view ≡ true
      → (is_common block || (block.process == s.process)) ≡ true → ((block.process == s.process) ≡ true → process_names s.image v s.process ≡ true) → AreHeld s (places_of s.image s.process) held → Lies
  view_lies_at v block exists form lies for own names are = of_common (is_common block) refl own
    where
      then_fits : (owns fits : Bool) → owns ≡ true → (if owns then fits else true) ≡ true → fits ≡ true
      then_fits true fits h g = g
      then_fits false fits h g = absurd (cc)

      for_common : (c : Bool) → c ≡ true → (if c then (if is_own view then fits_places s.image view (block_places s.image block) else true) else true) ≡ true → (if is_own view then fits_places s.image view (block_places s.image block) else true) ≡ true
      for_common true h g = g
      for_common false h g = absurd (cc)

      of_common : (c : Bool) → is_common block ≡ c → (c || (block.process == s.process)) ≡ true → Lies
      of_common true is_so h =
          based (block_places s.image block) (fits_processes s.image v view) (and_parts (target_right s.image view) _ form).1 are (places_there s block exists own) view.base lies
          (λ others owns. then_fits (is_own view) (fits_places s.image view (block_places s.image block)) owns (for_common (is_common block) is_so for))
      of_common false is_so h =
          based (places_of s.image s.process) (fits_processes s.image v view) (and_parts (target_right s.image view) _ form).1 are (λ n one e. e) view.base lies (λ others owns. own_fits v exists (names h) others)

  leads_to : (t : Target) → LieAt s (further (cells_before view.dimensions is) (spot_of view.base held)) (target_kinds s.image t) → Leads s (operand_of t (further (cells_before view.dimensions is) (spot_of view.base held)))
  leads_to (target.Cell kind) lies = lies
  leads_to (target.Shape shape) lies = lies

  pub view_leads : (v : ℕ) (block : Block) → s.process < length s.image.processes → form_right s.image view ≡ true → lies_right s.image v view ≡ true → is_view_for s.image block view ≡ true
      → (is_common block || (block.process == s.process)) ≡ true → ((block.process == s.process) ≡ true → process_names s.image v s.process ≡ true) → AreHeld s (places_of s.image s.process) held
      → Leads s (operand_of view.target (further (cells_before view.dimensions is) (spot_of view.base held)))
  view_leads v block exists form lies for own names are = leads_to view.target (view_lies_at v block exists form lies for own names are)
