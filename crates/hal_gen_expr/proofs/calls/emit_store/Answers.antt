use Rattle.std.proofs.Common.{subst}
use Rattle.std.proofs.lemmas.Result.{err_from_is_err_and}
use Rattle.hal_tree.specs.SeenLeaves.{seen_name}
use Rattle.hal_gen_expr.specs.Emits.{Emits}
use Rattle.hal_gen_expr.specs.SeenSites.{seen_site, seen_numbering}
use Rattle.hal_gen_expr.proofs.Calling.{store_given}
use Rattle.hal_gen_expr.proofs.calls.emit_store.Goals as goal

pub returns-in_err-one : goal.returns-in_err-one
returns-in_err-one c = let p = err_from_is_err_and c.from_residual.result c.from_residual.ensures.1 in rw (p.1, p.2) tt

pub returns : goal.returns
returns c =
    subst (λ wanted. Emits wanted c.emit_stored.result c.emit_stored.new.code.items)
    (store_given (seen_numbering c.args.site.now) (seen_site c.args.site.now) c.args.place c.args.unit c.args.code.now.items (seen_name c.args.name.now) c.in_ok-one.one c.in_ok-one.ensures)
    c.emit_stored.ensures
