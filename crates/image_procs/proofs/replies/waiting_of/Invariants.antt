use Rattle.std.proofs.Common.{◌≡◌, ◌++◌, drop, map}
use Rattle.hal_runner.specs.Replies.{reply_seen}
use Rattle.image_procs.proofs.replies.waiting_of.Given as goal

abbrev pub invariant-places : goal.invariant-places
invariant-places l = map reply_seen l.copy.items ++ map reply_seen (drop l.place l.waiting.items) ≡ map reply_seen l.waiting.items
