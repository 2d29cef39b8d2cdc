use Rattle.std.proofs.Common.{◌≡◌, Some, slice_get, length, refl, ap, sym, arith, ◌∙◌}
use Rattle.std.proofs.lemmas.Option.{slice_get_read, slice_get_within, same_Some}
use Rattle.script_run.proofs.run.is_named.Goals as goal

pub returns-in-Some : goal.returns-in-Some
returns-in-Some c =
    let found : slice_get c.args.tables.now.processes c.args.place ≡ Some c.in-Some.text.now =
    ap (λ xs. slice_get xs c.args.place) (sym c.as_slice.ensures) ∙ slice_get_read c.as_slice.result.now (length c.as_slice.result.now) c.args.place c.in-Some.text.now refl c.in-Some.ensures.lookup.3.0 c.in-Some.ensures.lookup.1 in
    (λ same. found ∙ ap Some (sym c.bytes.ensures.bytes ∙ c.are_same.ensures.0 same), λ here. c.are_same.ensures.1 (c.bytes.ensures.bytes ∙ same_Some _ _ (sym found ∙ here)))

pub returns-in-None : goal.returns-in-None
returns-in-None c = (λ same. cc, λ here. absurd (omega (arith, slice_get_within c.args.tables.now.processes c.args.place c.args.name.now here, c.in-None.ensures.lookup.3, ap length c.as_slice.ensures)))
