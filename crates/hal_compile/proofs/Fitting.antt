-- What the tests of room say.
use Rattle.std.proofs.Common.{◌≡◌, ℕ, zero, suc, ◌↔◌, nat_lt, Bool, true, false, ◌||◌, List, [], ◌∷◌, ◌++◌, Option, Some, None, length, replicate, slice_get, refl, ap, sym, ◌∙◌, arith}
use Rattle.std.specs.List.{list_all, list_any}
use Rattle.std.proofs.lemmas.Bool.{and_parts, and_from, leb-true, le-leb, ltb-true, ltb-false}
use Rattle.hal_values.specs.declared.value.Kind.{Kind}
use Rattle.hal_code.specs.declared.image.ImageParts.{ImageParts}
use Rattle.hal_code.specs.declared.row.Run.{Run}
use Rattle.hal_code.specs.declared.row.Target.{Target}
use Rattle.hal_code.specs.declared.row.Target.TheVariants as target
use Rattle.hal_code.specs.declared.row.View.{View}
use Rattle.hal_code.specs.Images.{expanded}
use Rattle.hal_code.specs.Memory.{target_kinds}
use Rattle.hal_storage.specs.layout.Layouts.{Layout, AreShort, IsNarrow}
use Rattle.hal_right_values.specs.Finding.{HaveCells}
use Rattle.hal_compile.specs.Fitness.{is_short, is_narrow, has_rows, has_cell, view_has_cell, have_cells}

short_all : (names : List (List ℕ)) → list_all is_short names ≡ true ↔ AreShort names
short_all [] = (λ _. tt, λ _. refl)
short_all (name ∷ names) = (
  λ all. let parts = and_parts _ _ all in (leb-true (length name) 255 parts.0, (short_all names).0 parts.1),
  λ are. and_from _ _ (le-leb (length name) 255 are.0) ((short_all names).1 are.1),
)

pub narrow : (l : Layout) → is_narrow l ≡ true ↔ IsNarrow l
narrow l = (
  λ all. let parts = and_parts _ _ all in ((short_all l.processes).0 parts.0, leb-true l.first 255 parts.1),
  λ are. and_from _ _ ((short_all l.processes).1 are.0) (le-leb l.first 255 are.1),
)

-- runs are something where one of them has a row
no_rows : (n : ℕ) (kind : Kind) (kinds : List Kind) → nat_lt 0 n ≡ false → kinds ≡ [] → replicate n kind ++ kinds ≡ []
no_rows zero kind kinds none empty = empty
no_rows (suc n) kind kinds none empty = absurd (omega (arith, ltb-false 0 (suc n) none))

some_rows : (n : ℕ) (kind : Kind) (kinds : List Kind) → nat_lt 0 n ≡ true → replicate n kind ++ kinds ≡ [] → ⊥
some_rows zero kind kinds is none = absurd (omega (arith, ltb-true 0 0 is))
some_rows (suc n) kind kinds is none = absurd (omega (arith, ap length none))

more_rows : (n : ℕ) (kind : Kind) (kinds : List Kind) → replicate n kind ++ kinds ≡ [] → kinds ≡ []
more_rows zero kind kinds none = none
more_rows (suc n) kind kinds none = absurd (omega (arith, ap length none))

clash : (b : Bool) → b ≡ true → b ≡ false → ⊥
clash b is not = cc

none_by : (run : Run Kind) (runs : List (Run Kind)) (first : Bool) → has_rows run ≡ first → (list_any has_rows runs ≡ false → expanded runs ≡ []) → (first || list_any has_rows runs) ≡ false → expanded (run ∷ runs) ≡ []
none_by run runs true is later none = absurd (clash true refl none)
none_by run runs false is later none = no_rows run.repeat run.row (expanded runs) is (later none)

rows_none : (runs : List (Run Kind)) → list_any has_rows runs ≡ false → expanded runs ≡ []
rows_none [] none = refl
rows_none (run ∷ runs) none = none_by run runs (has_rows run) refl (rows_none runs) none

some_by : (run : Run Kind) (runs : List (Run Kind)) (first : Bool) → has_rows run ≡ first → (list_any has_rows runs ≡ true → expanded runs ≡ [] → ⊥) → (first || list_any has_rows runs) ≡ true → expanded (run ∷ runs) ≡ [] → ⊥
some_by run runs true is later some none = some_rows run.repeat run.row (expanded runs) is none
some_by run runs false is later some none = later some (more_rows run.repeat run.row (expanded runs) none)

rows_some : (runs : List (Run Kind)) → list_any has_rows runs ≡ true → expanded runs ≡ [] → ⊥
rows_some [] some none = clash false some refl
rows_some (run ∷ runs) some none = some_by run runs (has_rows run) refl (rows_some runs) some none

abbrev any_rows : Option (List (Run Kind)) → Bool
any_rows found = elim found [ None ↦ false | Some runs ↦ list_any has_rows runs ]

abbrev all_kinds : Option (List (Run Kind)) → List Kind
all_kinds found = elim found [ None ↦ [] | Some runs ↦ expanded runs ]

runs_celled : (found : Option (List (Run Kind))) → any_rows found ≡ true → all_kinds found ≡ [] → ⊥
runs_celled None is none = clash false is refl
runs_celled (Some runs) is none = rows_some runs is none

runs_bare : (found : Option (List (Run Kind))) → any_rows found ≡ false → all_kinds found ≡ []
runs_bare None is = refl
runs_bare (Some runs) is = rows_none runs is

target_celled : (image : ImageParts) (t : Target) → has_cell image t ≡ true → target_kinds image t ≡ [] → ⊥
target_celled image (target.Cell kind) is none = absurd (omega (arith, ap length none))
target_celled image (target.Shape shape) is none = runs_celled (slice_get image.shapes shape) is none

target_bare : (image : ImageParts) (t : Target) → has_cell image t ≡ false → target_kinds image t ≡ []
target_bare image (target.Cell kind) is = absurd (clash true refl is)
target_bare image (target.Shape shape) is = runs_bare (slice_get image.shapes shape) is

all_celled : (image : ImageParts) (views : List View) → list_all (view_has_cell image) views ≡ true → (v : ℕ) (view : View) → slice_get views v ≡ Some view → target_kinds image view.target ≡ [] → ⊥
all_celled image [] all v view is none = absurd (nothing is)
  where
    nothing : None ≡ Some view → ⊥
    nothing same = cc
all_celled image (one ∷ views) all zero view is none =
    let same : one ≡ view = cc in
    target_celled image view.target (ap (view_has_cell image) (sym same) ∙ (and_parts _ _ all).0) none
all_celled image (one ∷ views) all (suc v) view is none = all_celled image views (and_parts _ _ all).1 v view is none

abbrev Celled : ImageParts → List View → Type 0
Celled image views = (v : ℕ) (view : View) → slice_get views v ≡ Some view → target_kinds image view.target ≡ [] → ⊥

celled_by : (image : ImageParts) (one : View) (views : List View) (first : Bool) → view_has_cell image one ≡ first → Celled image (one ∷ views) → list_all (view_has_cell image) views ≡ true
    → list_all (view_has_cell image) (one ∷ views) ≡ true
celled_by image one views true is have later = and_from _ _ is later
celled_by image one views false is have later = absurd (have 0 one refl (target_bare image one.target is))

celled_all : (image : ImageParts) (views : List View) → Celled image views → list_all (view_has_cell image) views ≡ true
celled_all image [] have = refl
celled_all image (one ∷ views) have = celled_by image one views (view_has_cell image one) refl have (celled_all image views (λ v view at. have (suc v) view at))

pub celled : (image : ImageParts) → have_cells image ≡ true ↔ HaveCells image
celled image = (λ all. all_celled image image.views all, λ have. celled_all image image.views have)
