use Rattle.std.proofs.Common.{◌∷◌, [], Option, map, IsSomeAnd, ap, sym, subst, ◌∙◌}
use Rattle.std.proofs.lemmas.List.{map-append}
use Rattle.hal_values.specs.Answers.{Answered}
use Rattle.hal_values.specs.Loads.{FitsNext}
use Rattle.hal_code.specs.Courses.{load_of}
use Rattle.hal_runner.specs.Replies.{reply_seen}
use Rattle.image_procs.specs.declared.look.Look.{Look}
use Rattle.exec_model.specs.Processes.{told_answer}
use Rattle.image_procs.specs.Courses.{parts}
use Rattle.image_procs.specs.Tellings.{answers_told, look_seen}
use Rattle.image_procs.proofs.Standing.{told_more}
use Rattle.image_procs.proofs.course.Course.tell.Goals as goal

pub returns-clause-course : goal.returns-clause-course
returns-clause-course c = λ s course fits.
    told_more s (parts c.args.self.now) c.told-reply.result (look_seen c.take.new.self) (map reply_seen c.push_back_reserved.new.self.items) c.and-self.result.items course
    (subst (λ (o : Option Answered). IsSomeAnd o (λ given. FitsNext (load_of s.turns s.image) s.process (answers_told c.args.self.now.told.items) given))
    (ap (λ (look : Option Look). told_answer (look_seen look) c.args.answer) (sym c.take.ensures.value) ∙ c.told-reply.ensures) fits)
    (ap (map reply_seen) c.push_back_reserved.ensures.items ∙ map-append reply_seen c.args.self.now.waiting.items (c.told-reply.result.0 ∷ []))
    c.and-self.ensures
