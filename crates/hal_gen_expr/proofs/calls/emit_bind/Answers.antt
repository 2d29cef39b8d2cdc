use Rattle.std.proofs.Common.{subst}
use Rattle.std.proofs.lemmas.Result.{err_from_is_err_and}
use Rattle.hal_tree.specs.SeenLeaves.{seen_name}
use Rattle.hal_gen_expr.specs.Emits.{Emits}
use Rattle.hal_gen_expr.specs.SeenSites.{seen_site}
use Rattle.hal_gen_expr.proofs.Calling.{bind_given}
use Rattle.hal_gen_expr.proofs.calls.emit_bind.Goals as goal

pub returns-in_err-one : goal.returns-in_err-one
returns-in_err-one c = let p = err_from_is_err_and c.from_residual.result c.from_residual.ensures.1 in rw (p.1, p.2) tt

pub returns : goal.returns
returns c =
    subst (λ wanted. Emits wanted c.emit_bound.result c.emit_bound.new.code.items)
    (bind_given (seen_site c.args.site.now) c.args.place c.args.unit c.args.code.now.items (seen_name c.args.name.now) c.in_ok-one.one c.in_ok-one.ensures)
    c.emit_bound.ensures
