use Rattle.std.proofs.Common.{◌≡◌, min, take}
use Rattle.hal_script.specs.Numbers.{value}
use Rattle.hal_script.specs.declared.number.TheConstants.{NUMBER_CAP}
use Rattle.hal_script.proofs.number.value.Given as goal

abbrev pub invariant-loop-digit : goal.invariant-loop-digit
invariant-loop-digit l = l.value ≡ min (value (take l.digit-index l.digits)) NUMBER_CAP
