use Rattle.std.proofs.Common.{◌≡◌, take, min}
use Rattle.exec_model.specs.Data.{number_in}
use Rattle.exec_model.proofs.data.capped_number.Given as goal

abbrev pub invariant-loop-digit : goal.invariant-loop-digit
invariant-loop-digit l = l.number ≡ min (number_in l.base (take l.digit-index l.digits)) 4294967296
