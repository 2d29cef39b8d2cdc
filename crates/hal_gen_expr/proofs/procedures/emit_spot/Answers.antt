use Rattle.std.proofs.Common.{◌∙◌, subst}
use Rattle.std.proofs.lemmas.Result.{err_from_is_err_and}
use Rattle.hal_tree.specs.SeenExpressions.{seen_reference}
use Rattle.hal_tree.specs.SeenLeaves.{seen_name}
use Rattle.hal_gen_expr.specs.Emits.{Emits}
use Rattle.hal_gen_expr.specs.SeenSites.{seen_site, seen_numbering}
use Rattle.hal_gen_expr.proofs.Calling.{spot_given}
use Rattle.hal_gen_expr.proofs.procedures.emit_spot.Goals as goal

pub returns-in_err-runs : goal.returns-in_err-runs
returns-in_err-runs c = let p = err_from_is_err_and c.from_residual.result c.from_residual.ensures.1 in rw (p.1, p.2) tt

pub returns : goal.returns
returns c =
    subst (λ wanted. Emits wanted c.emit_area.result c.emit_area.new.code.items)
    (spot_given (seen_numbering c.args.site.now) (seen_site c.args.site.now) c.args.code.now.items c.args.unit (seen_name c.args.name.now) (seen_reference c.args.receiver.now) c.deref.result.now (c.deref.ensures.value ∙ c.in_ok-runs.ensures))
    c.emit_area.ensures
