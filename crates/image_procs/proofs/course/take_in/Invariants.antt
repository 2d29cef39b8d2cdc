use Rattle.std.proofs.Common.{◌≡◌, ◌≤◌, map}
use Rattle.std.specs.VecDeque.{deque_len, deque_capacity}
use Rattle.hal_runner.specs.Prepared.{prepared_seen}
use Rattle.hal_runner.specs.Replies.{reply_seen}
use Rattle.image_procs.specs.Courses.{IsAt}
use Rattle.image_procs.proofs.course.take_in.Given as goal

abbrev pub invariant-loop-reply : goal.invariant-loop-reply
invariant-loop-reply l =
    IsAt (prepared_seen l.setting) l.runner (map reply_seen l.waiting.items) l.told.items
    × (deque_capacity l.waiting ≡ deque_capacity l.initial.waiting)
    × (deque_len l.waiting ≤ deque_len l.initial.waiting)

abbrev pub decreases-loop-reply : goal.decreases-loop-reply
decreases-loop-reply l = deque_len l.waiting
