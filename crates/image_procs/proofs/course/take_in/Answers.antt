use Rattle.std.proofs.Common.{List, map, ap, subst, ◌∙◌, arith}
use Rattle.hal_values.specs.Answers.{Answered}
use Rattle.hal_runner.specs.Prepared.{prepared_seen}
use Rattle.hal_runner.specs.Replies.{reply_seen}
use Rattle.image_procs.specs.Courses.{IsAt}
use Rattle.image_procs.proofs.Standing.{shapes_run, waits_fit, way_on, goes_on}
use Rattle.image_procs.proofs.course.take_in.Goals as goal

pub answer-requires-clause-shapes : goal.answer-requires-clause-shapes
answer-requires-clause-shapes c = shapes_run (prepared_seen c.args.setting.now) c.requires.run

pub answer-requires-clause-fits : goal.answer-requires-clause-fits
answer-requires-clause-fits c =
    waits_fit (prepared_seen c.args.setting.now) c.requires.run c.args.told.now.items c.requires.fit c.loop-reply.runner (map reply_seen c.loop-reply.waiting.items) c.loop-reply.invariant.0

pub answer-requires-clause-way : goal.answer-requires-clause-way
answer-requires-clause-way c =
    way_on (prepared_seen c.args.setting.now) c.requires.run c.args.told.now.items c.requires.fit c.loop-reply.runner (reply_seen c.in-Some.reply) (map reply_seen c.pop_front.new.self.items)
    (subst (λ (waiting : List Answered). IsAt (prepared_seen c.args.setting.now) c.loop-reply.runner waiting c.args.told.now.items) (ap (map reply_seen) c.in-Some.ensures.items) c.loop-reply.invariant.0)

pub answer-requires-clause-room : goal.answer-requires-clause-room
answer-requires-clause-room c = c.loop-reply.invariant.0.ample

pub loop-reply-preserved : goal.loop-reply-preserved
loop-reply-preserved c = (
  goes_on (prepared_seen c.args.setting.now) c.requires.run c.args.told.now.items c.requires.fit c.loop-reply.runner c.answer.new.self (reply_seen c.in-Some.reply) (map reply_seen c.pop_front.new.self.items)
      (subst (λ (waiting : List Answered). IsAt (prepared_seen c.args.setting.now) c.loop-reply.runner waiting c.args.told.now.items) (ap (map reply_seen) c.in-Some.ensures.items) c.loop-reply.invariant.0)
      (λ answers is. c.in_ok-answer.ensures.does answers is) c.answer.ensures.room,
  c.in-Some.ensures.capacity ∙ c.loop-reply.invariant.1,
  omega (arith, c.in-Some.ensures.len, c.loop-reply.invariant.2),
)
