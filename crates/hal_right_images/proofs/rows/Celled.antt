-- Each view of a linked image has a cell.
use Rattle.std.specs.Prelude.{◌≡◌, ◌<◌, ℕ, zero, suc, nat_lt, Bool, true, false, ◌&&◌, List, [], ◌∷◌, ◌++◌, length, replicate, Option, Some, None, slice_get}
use Rattle.std.specs.List.{list_all}
use Rattle.std.proofs.Common.{refl, sym, ap, subst, ◌∙◌, arith}
use Rattle.std.proofs.lemmas.Bool.{and_parts, ltb-true}
use Rattle.hal_values.specs.declared.value.Kind.{Kind}
use Rattle.hal_code.specs.declared.image.ImageParts.{ImageParts}
use Rattle.hal_code.specs.declared.row.Dimension.{Dimension}
use Rattle.hal_code.specs.declared.row.Run.{Run}
use Rattle.hal_code.specs.declared.row.Target.{Target}
use Rattle.hal_code.specs.declared.row.Target.TheVariants as target
use Rattle.hal_code.specs.declared.row.View.{View}
use Rattle.hal_code.specs.Images.{expanded, kinds_of}
use Rattle.hal_code.specs.Memory.{target_kinds}
use Rattle.hal_code.specs.Right.{form_right, target_right}
use Rattle.hal_meaning.specs.Sets.{Set}
use Rattle.hal_link.specs.Shapes.{Shapes, shapes_of}
use Rattle.hal_fit_calls.specs.Each.{Each}
use Rattle.hal_right_images.proofs.rows.Alone.{AreKept, HasRun, each_at, shapes_kept}
use Rattle.hal_right_images.proofs.rows.Strict.{AreJoined}

-- a row that is there once or more is there
row_there : (n : ℕ) (row : Kind) (rest : List Kind) → 0 < n → replicate n row ++ rest ≡ [] → ⊥
row_there zero row rest some none = omega (arith, some)
row_there (suc n) row rest some none = absurd (cc)

-- so joined runs, where there are any, have a row
rows_there : (runs : List (Run Kind)) → AreJoined runs → HasRun runs → expanded runs ≡ [] → ⊥
rows_there [] joined some none = absurd (cc)
rows_there (run ∷ []) joined some none = row_there run.repeat run.row [] joined none
rows_there (run ∷ next ∷ runs) joined some none = row_there run.repeat run.row (expanded (next ∷ runs)) joined.0 none

-- a shape at a place within their list
member_there : (shapes : Shapes) (n : ℕ) → n < length shapes → slice_get shapes n ≡ None → ⊥
member_there [] n low none = omega (arith, low)
member_there (runs ∷ shapes) zero low none = let never : Some runs ≡ None = none in absurd (cc)
member_there (runs ∷ shapes) (suc n) low none = member_there shapes n (omega (arith, low)) none

-- a shape that is there has a row
shape_there : (image : ImageParts) (n : ℕ) → AreKept image.shapes → nat_lt n (length image.shapes) ≡ true → kinds_of image n ≡ [] → ⊥
shape_there image n kept low none = by (slice_get image.shapes n) refl where
  by : (found : Option (List (Run Kind))) → slice_get image.shapes n ≡ found → ⊥
  by None found = member_there image.shapes n (ltb-true n (length image.shapes) low) found
  by (Some runs) found =
      rows_there runs (each_at AreJoined image.shapes n runs kept.joined found) (each_at HasRun image.shapes n runs kept.some found)
      (let is : kinds_of image n ≡ expanded runs = cc in sym is ∙ none)

target_there : (image : ImageParts) (to : Target) (view : View) → view.target ≡ to → AreKept image.shapes → target_right image view ≡ true → target_kinds image to ≡ [] → ⊥
target_there image (target.Cell kind) view is kept right none = absurd (cc)
target_there image (target.Shape shape) view is kept right none = shape_there image shape kept (let low : nat_lt shape (length image.shapes) ≡ true = cc in low) none

view_there : (image : ImageParts) (view : View) → AreKept image.shapes → form_right image view ≡ true → target_kinds image view.target ≡ [] → ⊥
view_there image view kept right none = target_there image view.target view refl kept (and_parts _ _ right).0 none

-- each of these views
views_there : (image : ImageParts) (views : List View) (v : ℕ) (view : View) → AreKept image.shapes → list_all (form_right image) views ≡ true → slice_get views v ≡ Some view
    → target_kinds image view.target ≡ [] → ⊥
views_there image [] v view kept right is none = absurd (cc)
views_there image (one ∷ views) zero view kept right is none =
    let same : one ≡ view = cc in view_there image view kept (subst (λ (x : View). form_right image x ≡ true) same (and_parts _ _ right).0) none
views_there image (one ∷ views) (suc v) view kept right is none = views_there image views v view kept (and_parts _ _ right).1 is none

-- each view of an image of these shapes
pub views_celled : (s : Set) (image : ImageParts) → image.shapes ≡ shapes_of s → list_all (form_right image) image.views ≡ true → (v : ℕ) (view : View) → slice_get image.views v ≡ Some view
    → target_kinds image view.target ≡ [] → ⊥
views_celled s image shaped right v view is none = views_there image image.views v view (subst AreKept (sym shaped) (shapes_kept s)) right is none
