use Rattle.std.specs.Prelude.{List, length, ◌==◌}
use Rattle.std.proofs.Common.{rules, ◌≡◌, ◌∷◌, not, map, Ok, Err, subst}
use Rattle.std.proofs.lemmas.Result.{err_from_is_err_and}
use Rattle.hal_tree.specs.SeenExpressions.{seen_reference}
use Rattle.hal_code.specs.declared.instr.Instr.{Instr}
use Rattle.hal_gen_expr.specs.Emits.{Emits}
use Rattle.hal_gen_expr.specs.SeenSites.{seen_site, seen_numbering}
use Rattle.hal_gen_expr.proofs.Chained.{stopped}
use Rattle.hal_gen.specs.Storing.{next_code, stores_code}
use Rattle.hal_gen.proofs.Stored.{stored_split, stored_on}
use Rattle.hal_gen.proofs.receivers.emit_stores.Goals as goal

pub loop-receiver-preserved : goal.loop-receiver-preserved
loop-receiver-preserved c =
    let split : c.loop-receiver.rest.now ≡ c.in-Some.receiver.now ∷ c.in-Some.others.now = search (rules, c.in-Some.ensures.cases, c.in-Some.ensures.variant) in
    let given = subst (λ last. next_code (seen_numbering c.args.site.now) (seen_site c.args.site.now) c.loop-receiver.code.items (not last) (seen_reference c.in-Some.receiver.now) ≡ Ok c.emit_next.new.code.items) c.is_empty.ensures c.in_ok-emit_next.ensures in
    stored_on seen_reference (seen_numbering c.args.site.now) (seen_site c.args.site.now) c.loop-receiver.code.items c.emit_next.new.code.items c.in-Some.receiver.now c.in-Some.others.now c.loop-receiver.rest.now
    (stores_code (seen_numbering c.args.site.now) (seen_site c.args.site.now) c.args.code.now.items (map seen_reference c.args.receivers.now)) split given c.loop-receiver.invariant

pub returns-in_err-emit_next : goal.returns-in_err-emit_next
returns-in_err-emit_next c =
    let split : c.loop-receiver.rest.now ≡ c.in-Some.receiver.now ∷ c.in-Some.others.now = search (rules, c.in-Some.ensures.cases, c.in-Some.ensures.variant) in
    let given = subst (λ last. Emits (next_code (seen_numbering c.args.site.now) (seen_site c.args.site.now) c.loop-receiver.code.items (not last) (seen_reference c.in-Some.receiver.now)) c.emit_next.result c.emit_next.new.code.items) c.is_empty.ensures c.emit_next.ensures in
    let shape = stored_split seen_reference (seen_numbering c.args.site.now) (seen_site c.args.site.now) c.loop-receiver.code.items c.in-Some.receiver.now c.in-Some.others.now c.loop-receiver.rest.now
    (stores_code (seen_numbering c.args.site.now) (seen_site c.args.site.now) c.args.code.now.items (map seen_reference c.args.receivers.now)) split c.loop-receiver.invariant in
    let p = err_from_is_err_and c.from_residual.result c.from_residual.ensures.1 in
    let failed : c.emit_next.result ≡ Err c.in_err-emit_next.field-0.0 = search (rules, c.in_err-emit_next.is, c.in_err-emit_next.was) in
    let same : c.from_residual.result ≡ Err c.in_err-emit_next.field-0.0 = search (rules, p.1, p.2) in
    stopped (stores_code (seen_numbering c.args.site.now) (seen_site c.args.site.now) c.args.code.now.items (map seen_reference c.args.receivers.now))
    (next_code (seen_numbering c.args.site.now) (seen_site c.args.site.now) c.loop-receiver.code.items (not (length c.in-Some.others.now == 0)) (seen_reference c.in-Some.receiver.now))
    (λ (middle : List Instr). stores_code (seen_numbering c.args.site.now) (seen_site c.args.site.now) middle (map seen_reference c.in-Some.others.now))
    c.in_err-emit_next.field-0.0 c.emit_next.result c.from_residual.result c.emit_next.new.code.items shape failed same given
