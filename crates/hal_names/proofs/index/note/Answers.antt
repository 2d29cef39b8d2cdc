use Rattle.std.proofs.Common.{◌∙◌, refl, sym}
use Rattle.hal_names.proofs.Indexed.{noted_again, noted_fresh}
use Rattle.hal_names.proofs.index.note.Goals as goal

pub returns-in-Some-number_of : goal.returns-in-Some-number_of
returns-in-Some-number_of c =
    noted_again _ _ c.in-Some.key _ (sym c.declared_by.ensures ∙ c.in-Some.is) (sym c.number_of.ensures ∙ c.in-Some-number_of.is)

pub returns-in_ok-insert-in-None : goal.returns-in_ok-insert-in-None
returns-in_ok-insert-in-None c =
    noted_fresh _ _ _ c.in-Some.key _ (sym c.declared_by.ensures ∙ c.in-Some.is) refl (sym c.number_of.ensures ∙ c.in-None.is) c.in_ok-insert-in-None.ensures.updates.0
