use Rattle.std.proofs.Common.{◌≡◌, drop}
use Rattle.exec_model.specs.Drafts.{data_taken}
use Rattle.exec_model.proofs.commit.take_all.Given as goal

abbrev pub invariant-loop-channel : goal.invariant-loop-channel
invariant-loop-channel l = data_taken l.input (drop l.channel-index l.channels) ≡ data_taken l.initial.input l.channels
