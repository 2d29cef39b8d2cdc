use Rattle.std.proofs.Common.{arith}
use Rattle.std.proofs.lemmas.Result.{err_from_is_err_and}
use Rattle.hal_object.specs.Images.{HasRuns}
use Rattle.hal_object.proofs.ImageLaws.{read_is_spelled, read_bytes, only_image, faulty, not_so, other_runs}
use Rattle.hal_object.proofs.image.read_image.Goals as goal

pub returns-in_err-image-clause-none : goal.returns-in_err-image-clause-none
returns-in_err-image-clause-none c =
    let p = err_from_is_err_and c.from_residual.result c.from_residual.ensures.1 in
    faulty c.args.bytes.now c.from_residual.result p.0 c.in_err-image.field-0.0 p.1 p.2 c.in_err-image.ensures

pub returns-then-has_runs-clause-spelled : goal.returns-then-has_runs-clause-spelled
returns-then-has_runs-clause-spelled c =
    read_is_spelled c.args.bytes.now c.in_ok-image.image (λ i. omega (arith, c.type_inv.bytes i)) c.in_ok-image.ensures (c.has_runs.ensures.0 c.if-has_runs.true)

pub returns-then-has_runs-clause-read : goal.returns-then-has_runs-clause-read
returns-then-has_runs-clause-read c = read_bytes c.args.bytes.now c.in_ok-image.image (λ i. omega (arith, c.type_inv.bytes i)) c.in_ok-image.ensures

pub returns-then-has_runs-clause-only : goal.returns-then-has_runs-clause-only
returns-then-has_runs-clause-only c = only_image c.args.bytes.now c.in_ok-image.image c.in_ok-image.ensures

pub returns-else-has_runs-clause-none : goal.returns-else-has_runs-clause-none
returns-else-has_runs-clause-none c =
    λ is. other_runs c.args.bytes.now c.in_ok-image.image c.in_ok-image.ensures (not_so (HasRuns c.in_ok-image.image) c.has_runs.result c.has_runs.ensures c.if-has_runs.false)
