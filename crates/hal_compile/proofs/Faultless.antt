-- An image without a fault is right, and has cells.
use Rattle.std.proofs.Common.{◌≡◌, ◌↔◌, ℕ, Bool, true, false, Option, Some, None, length, refl, if◌then◌else◌}
use Rattle.hal_code.specs.declared.image.ImageParts.{ImageParts}
use Rattle.hal_code.specs.Right.{IsRight}
use Rattle.hal_right_values.specs.Finding.{HaveCells}
use Rattle.hal_object.specs.Images.{IsSpelled}
use Rattle.hal_verify.specs.Limits.{first_fault}
use Rattle.hal_verify.proofs.Limits.{fault_none}
use Rattle.hal_compile.specs.Compiling.{CanRun, image_fault}
use Rattle.hal_compile.specs.Fitness.{have_cells}
use Rattle.hal_compile.proofs.Fitting.{celled}

something : (n : ℕ) → Some n ≡ None → ⊥
something n same = cc

never : false ≡ true → ⊥
never same = cc

none_by : (found : Option ℕ) (cells : Bool) (size : ℕ) → (elim found [ None ↦ if cells then None else Some size | Some n ↦ Some n ]) ≡ None ↔ ((found ≡ None) × (cells ≡ true))
none_by None true size = ((λ none. (refl, refl)), (λ both. refl))
none_by None false size = ((λ none. absurd (something size none)), (λ both. absurd (never both.1)))
none_by (Some n) cells size = ((λ none. absurd (something n none)), (λ both. absurd (something n both.0)))

pub faultless : (image : ImageParts) → image_fault image ≡ None ↔ (IsRight image × HaveCells image)
faultless image =
    let parts = none_by (first_fault image) (have_cells image) (length image.code) in (
      λ none. let both = parts.0 none in ((fault_none image).0 both.0, (celled image).0 both.1),
      λ both. parts.1 ((fault_none image).1 both.0, (celled image).1 both.1),
    )

-- one that can run has none
pub runs_without_fault : (image : ImageParts) → CanRun image → image_fault image ≡ None
runs_without_fault image runs = (faultless image).1 (runs.right, runs.cells)

-- one without a fault can run where it has bytes
pub without_fault-runs : (image : ImageParts) → image_fault image ≡ None → IsSpelled image → CanRun image
without_fault-runs image none spelled =
    let both = (faultless image).0 none in
    record { right = both.0; cells = both.1; spelled = spelled }
