-- Counts that stand still at a limit.
use Rattle.std.proofs.Common.{◌≡◌, ◌∙◌, ◌≤◌, ◌<◌, ◌+◌, ◌*◌, ⊎_elim, ℕ, zero, suc, min, List, ◌∷◌, ap, arith}
use Rattle.std.specs.List.{sum_by}
use Rattle.std.proofs.lemmas.Bool.{cases_lt}
use Rattle.std.proofs.lemmas.List.Sums.{sum_by-cons}
use Rattle.hal_values.specs.declared.tables.ReportName.{ReportName}
use Rattle.hal_values.specs.declared.value.Kind.{Kind}
use Rattle.hal_code.specs.declared.image.ImageParts.{ImageParts}
use Rattle.hal_code.specs.declared.row.Process.{Process}
use Rattle.hal_code.specs.declared.row.Run.{Run}
use Rattle.hal_code.specs.declared.row.View.{View}
use Rattle.hal_code.specs.Images.{row_count}
use Rattle.hal_code.specs.Memory.{spread_of}
use Rattle.hal_code.specs.Right.{line_count}

least : (p m : ℕ) → p < m → min p m ≡ p
least p m less = omega (arith, less)

most : (p m : ℕ) → m ≤ p → min p m ≡ m
most p m more = omega (arith, more)

-- a factor of a product
pub product : (n p m : ℕ) → min (n * min p m) m ≡ min (n * p) m
product zero p m = omega (arith)
product (suc n) p m =
    ⊎_elim (λ less. ap (λ k. min (suc n * k) m) (least p m less)) (λ more. ap (λ k. min (suc n * k) m) (most p m more) ∙ omega (arith, more)) (cases_lt p m)

turned : (n p : ℕ) → n * p ≡ p * n
turned n p = omega (arith)

pub both : (n p m : ℕ) → min (min n m * min p m) m ≡ min (n * p) m
both n p m = product (min n m) p m ∙ ap (λ k. min k m) (turned (min n m) p) ∙ product p n m ∙ ap (λ k. min k m) (turned p n)

-- a count and one more
pub one_more : (size c r m : ℕ) → min (min (size + c) m + r) m ≡ min (size + (c + r)) m
one_more size c r m = omega (arith)

pub one_capped : (size c r m : ℕ) → min (min (size + min c m) m + r) m ≡ min (size + (c + r)) m
one_capped size c r m = omega (arith)

pub all : (size m : ℕ) → min (size + 0) m ≡ min size m
all size m = omega (arith)

pub process_more : (common : ℕ) (p : Process) (ps : List Process)
    → sum_by (λ (one : Process). common + row_count one.places) (p ∷ ps) ≡ (common + row_count p.places) + sum_by (λ (one : Process). common + row_count one.places) ps
process_more common p ps = sum_by-cons (λ (one : Process). common + row_count one.places) p ps

pub shape_more : (runs : List (Run Kind)) (shapes : List (List (Run Kind)))
    → sum_by (λ (one : List (Run Kind)). row_count one) (runs ∷ shapes) ≡ row_count runs + sum_by (λ (one : List (Run Kind)). row_count one) shapes
shape_more runs shapes = sum_by-cons (λ (one : List (Run Kind)). row_count one) runs shapes

pub view_more : (image : ImageParts) (view : View) (views : List View) → sum_by (spread_of image) (view ∷ views) ≡ spread_of image view + sum_by (spread_of image) views
view_more image view views = sum_by-cons (spread_of image) view views

pub name_more : (name : ReportName) (names : List ReportName) → sum_by line_count (name ∷ names) ≡ line_count name + sum_by line_count names
name_more name names = sum_by-cons line_count name names
