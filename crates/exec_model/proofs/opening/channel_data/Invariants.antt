use Rattle.std.proofs.Common.{◌≡◌, ◌++◌, drop}
use Rattle.exec_model.specs.Opening.{channel_data}
use Rattle.exec_model.proofs.opening.channel_data.Given as goal

abbrev pub invariant-loop-line : goal.invariant-loop-line
invariant-loop-line l = l.gathered.items ++ channel_data (drop l.line-index l.script) l.channel ≡ channel_data l.script l.channel
