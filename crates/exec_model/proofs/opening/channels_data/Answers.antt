use Rattle.std.proofs.Common.{arith}
use Rattle.std.proofs.lemmas.Grind.{common_steps}
use Rattle.std.proofs.lemmas.List.FromFn.{map-range_with_len_more}
use Rattle.exec_model.specs.Opening.{channel_data}
use Rattle.exec_model.proofs.opening.channels_data.Goals as goal

-- one more channel
pub loop-channel-preserved : goal.loop-channel-preserved
loop-channel-preserved c =
    let more = map-range_with_len_more (channel_data c.args.script.now) 0 c.loop-channel.channel c.loop-channel.channel (omega arith) in
    grind (arith, common_steps, more)
