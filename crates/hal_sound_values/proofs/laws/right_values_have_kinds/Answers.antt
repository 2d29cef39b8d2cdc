use Rattle.hal_sound_values.proofs.KindsKept.{right_is, kind_is, datum_is}
use Rattle.hal_sound_values.proofs.laws.right_values_have_kinds.Goals as goal

pub returns-clause-right : goal.returns-clause-right
returns-clause-right c = right_is

pub returns-clause-kind : goal.returns-clause-kind
returns-clause-kind c = kind_is

pub returns-clause-datum : goal.returns-clause-datum
returns-clause-datum c = datum_is
