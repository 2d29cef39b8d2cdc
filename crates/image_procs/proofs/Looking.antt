-- An UPDATE block that a copy of its process runs.
use Rattle.std.specs.Prelude.{◌≡◌, ℕ, ◌-◌, ◌<◌, ◌==◌, Bool, true, false, List, [], ◌∷◌, ◌++◌, Some, None, IsSome, if◌then◌else◌}
use Rattle.std.proofs.Common.{refl, sym, subst, inr}
use Rattle.std.proofs.lemmas.Bool.{eq-eqb}
use Rattle.std.proofs.lemmas.List.{length-map}
use Rattle.hal_values.specs.declared.request.Request.{Request}
use Rattle.hal_values.specs.declared.request.Request.TheVariants as request
use Rattle.hal_values.specs.declared.tables.Tables.{Tables}
use Rattle.hal_values.specs.declared.value.Value.{Value}
use Rattle.hal_values.specs.Answers.{Answered, Block, Ends, FitsAlive}
use Rattle.hal_values.specs.Loads.{IsUpdate, IsLoad}
use Rattle.hal_values.specs.Tables.{IsSnapshot, process_count}
use Rattle.hal_states.specs.Telling.{is_update}
use Rattle.hal_states.proofs.Telling.{update_of}
use Rattle.hal_code.specs.declared.row.Process.{Process}
use Rattle.hal_code.specs.Cores.{Setting}
use Rattle.hal_code.specs.Courses.{Asked, setting_of, course, next, block, load_of}
use Rattle.hal_code.specs.Images.{tables_of}
use Rattle.hal_code.specs.Machine.{after_answer}
use Rattle.hal_code.proofs.Loading.{image_is_load}
use Rattle.hal_code.proofs.RightTables.{right_tables}
use Rattle.hal_runner.specs.declared.reply.Reply.{Reply}
use Rattle.hal_runner.specs.declared.runner.Runner.{Runner}
use Rattle.hal_runner.specs.Runners.{asked_seen}
use Rattle.hal_runner.specs.Ways.{WayFits}
use Rattle.image_procs.specs.Courses.{CanRun, AllFit, IsAt}
use Rattle.image_procs.specs.Tellings.{answers_told}
use Rattle.image_procs.proofs.Standing.{at_way, took_all}

update_fits : (tables : Tables) (ends : Ends) (r : Request) (store : List Value) (turns : ℕ) → IsUpdate r → IsSnapshot tables.cells store → IsSome (ends store turns) → FitsAlive tables ends r (Block store turns)
update_fits tables ends (request.Update groups) store turns asks full some = (store, turns, refl, full, some)
update_fits tables ends other store turns asks full some = absurd asks

-- all instructions of the block find what they take
pub block_way : (s : Setting) (run : CanRun s) (told : List (Reply × ℕ)) (r : Runner) (store : List Value) → AllFit s told → IsAt s r [] told → IsUpdate (next s (answers_told told)) → IsSnapshot s.tables.cells store
    → WayFits s (after_answer s (asked_seen s.image r).wait (Block store 0) (asked_seen s.image r).core)
block_way s run told r store fit at asks full = with_turns (load.ends s.process (answers_told told) store exists fit snapshot updates)
  where
    load : IsLoad (load_of s.turns s.image)
    load = image_is_load s.turns s.image (right_tables s.image run.right) run.few

    exists : s.process < process_count (tables_of s.image)
    exists = subst (λ n. s.process < n) (sym (length-map s.image.processes (λ (p : Process). p.name))) run.exists

    snapshot : IsSnapshot (tables_of s.image).cells store
    snapshot = subst (λ (t : Setting). IsSnapshot t.tables.cells store) run.is full

    updates : IsUpdate (next (setting_of s.turns s.image s.process) (answers_told told))
    updates = subst (λ (t : Setting). IsUpdate (next t (answers_told told))) run.is asks

    with_turns : (turns : ℕ) × IsSome ((load_of s.turns s.image).block s.process (answers_told told) store turns) → WayFits s (after_answer s (asked_seen s.image r).wait (Block store 0) (asked_seen s.image r).core)
    with_turns ends =
        at_way s run (asked_seen s.image r) (answers_told told) ends.0 (Block store 0) (took_all s r told at) fit
        (inr (update_fits (tables_of s.image) ((load_of s.turns s.image).block s.process (answers_told told)) (next (setting_of s.turns s.image s.process) (answers_told told)) store ends.0 updates snapshot ends.1))

both_true : (update same : Bool) (writes : List (ℕ × Value)) → update ≡ true → same ≡ true → (if update then (if same then Some writes else None) else None) ≡ Some writes
both_true true true writes one other = refl
both_true true false writes one other = absurd (cc)
both_true false same writes one other = absurd (cc)

-- what the copy wrote, and how many turns it made
pub block_found : (s : Setting) (answers : List Answered) (store : List Value) (one : Asked) → IsUpdate (next s answers) → one ≡ course s (answers ++ (Block store 0 ∷ []))
    → block s answers store (s.turns - one.core.mode.turns) ≡ Some one.core.mode.writes
block_found s answers store one asks is =
    subst (λ (there : Asked). block s answers store (s.turns - there.core.mode.turns) ≡ Some there.core.mode.writes) (sym is)
    (both_true (is_update (next s answers)) ((s.turns - last.core.mode.turns) == (s.turns - last.core.mode.turns)) last.core.mode.writes (update_of (next s answers) asks) (eq-eqb _ _ refl))
  where
    last : Asked
    last = course s (answers ++ (Block store 0 ∷ []))
