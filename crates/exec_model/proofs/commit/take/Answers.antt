use Rattle.std.proofs.Common.{slice_set, ap, ◌∙◌}
use Rattle.exec_model.specs.Moments.{datum_taken}
use Rattle.exec_model.proofs.Drafting.{datum_taken-back}
use Rattle.exec_model.proofs.commit.take.Goals as goal

pub returns-then-place-as_slice : goal.returns-then-place-as_slice
returns-then-place-as_slice c =
    datum_taken-back c.args.input.now c.replace-data.new.self c.set.new.self c.from-place.result c.replace-data.result c.remove_first.new.self
    c.replace-data.ensures.given (c.replace-data.ensures.after ∙ ap (slice_set c.args.input.now c.from-place.result) c.empty.ensures) c.remove_first.ensures c.set.ensures
    ∙ ap (datum_taken c.args.input.now) c.from-place.ensures
