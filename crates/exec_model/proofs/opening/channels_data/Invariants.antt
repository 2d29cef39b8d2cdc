use Rattle.std.proofs.Common.{◌≡◌, map}
use Rattle.std.specs.List.{range_with_len}
use Rattle.exec_model.specs.Opening.{channel_data}
use Rattle.exec_model.proofs.opening.channels_data.Given as goal

abbrev pub invariant-loop-channel : goal.invariant-loop-channel
invariant-loop-channel l = l.input.items ≡ map (channel_data l.script) (range_with_len 0 l.channel)
