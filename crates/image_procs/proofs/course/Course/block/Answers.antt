use Rattle.std.proofs.Common.{ℕ, ◌-◌, ◌∷◌, [], ◌++◌, List, Some, ap, sym, subst, ◌∙◌}
use Rattle.hal_values.specs.declared.value.Value.{Value}
use Rattle.hal_values.specs.Answers.{Block}
use Rattle.hal_code.specs.Courses.{course, block}
use Rattle.hal_code.specs.Machine.{after_answer}
use Rattle.hal_runner.specs.Prepared.{prepared_seen}
use Rattle.hal_runner.specs.Runners.{asked_seen}
use Rattle.hal_runner.specs.Ways.{WayFits}
use Rattle.image_procs.specs.Tellings.{answers_told}
use Rattle.image_procs.proofs.Standing.{shapes_run, waits_fit, took_all}
use Rattle.image_procs.proofs.Looking.{block_way, block_found}
use Rattle.image_procs.proofs.course.Course.block.Goals as goal

pub answer-requires-clause-shapes : goal.answer-requires-clause-shapes
answer-requires-clause-shapes c = shapes_run (prepared_seen c.args.setting.now) c.requires.run

pub answer-requires-clause-fits : goal.answer-requires-clause-fits
answer-requires-clause-fits c = waits_fit (prepared_seen c.args.setting.now) c.requires.run c.args.self.now.told.items c.requires.course.fit c.in_ok-copy.copy [] c.in_ok-copy.ensures

pub answer-requires-clause-way : goal.answer-requires-clause-way
answer-requires-clause-way c =
    let s = prepared_seen c.args.setting.now in
    let one = asked_seen s.image c.in_ok-copy.copy in
    subst (λ (store : List Value). WayFits s (after_answer s one.wait (Block store 0) one.core)) (sym c.in_ok-values_of.ensures)
    (block_way s c.requires.run c.args.self.now.told.items c.in_ok-copy.copy c.args.store.now c.requires.course.fit c.in_ok-copy.ensures c.requires.asks c.requires.snapshot)

pub answer-requires-clause-room : goal.answer-requires-clause-room
answer-requires-clause-room c = c.in_ok-copy.ensures.ample

pub returns-clause-found : goal.returns-clause-found
returns-clause-found c =
    let s = prepared_seen c.args.setting.now in
    let told = c.args.self.now.told.items in
    ap (λ (n : ℕ). block s (answers_told told) c.args.store.now n) (c.turns_made-turns.ensures ∙ ap (λ (left : ℕ). s.turns - left) c.turns.ensures)
    ∙ block_found s (answers_told told) c.args.store.now (asked_seen s.image c.answer.new.self) c.requires.asks
    (c.in_ok-answer.ensures.does (answers_told told) (took_all s c.in_ok-copy.copy told c.in_ok-copy.ensures) ∙ ap (λ (store : List Value). course s (answers_told told ++ (Block store 0 ∷ []))) c.in_ok-values_of.ensures)
    ∙ ap Some (sym (c.in_ok-writes.ensures ∙ c.writes.ensures))
