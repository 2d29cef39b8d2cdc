use Rattle.std.proofs.Common.{◌≤◌, ℕ, List, [], length, map, replicate, ap, sym, subst, ◌∙◌}
use Rattle.std.proofs.lemmas.List.{length-map}
use Rattle.hal_base.specs.declared.limits.TheConstants.{PROCESS_LIMIT}
use Rattle.hal_code.specs.declared.row.Process.{Process}
use Rattle.hal_code.proofs.RightTables.{right_tables}
use Rattle.hal_runner.specs.declared.loading.Loaded.{Loaded}
use Rattle.image_procs.specs.Running.{AreLoaded}
use Rattle.image_procs.specs.Tellings.{answers_told}
use Rattle.image_procs.proofs.Arrays.{arrays_right}
use Rattle.image_procs.proofs.Placing.{none_told}
use Rattle.image_procs.proofs.procs.ImageProcs.start.Goals as goal

pub loaded_of-requires : goal.loaded_of-requires
loaded_of-requires c =
    subst (λ (n : ℕ). n ≤ PROCESS_LIMIT) (length-map c.args.image.processes (λ (q : Process). q.name)) (right_tables c.args.image c.requires.right).few_processes

pub courses_of-requires-clause-loads : goal.courses_of-requires-clause-loads
courses_of-requires-clause-loads c = subst (AreLoaded c.args.image) (sym c.as_slice.ensures.value) c.in_ok-loaded.ensures.are

pub returns-clause-answers : goal.returns-clause-answers
returns-clause-answers c =
    ap (map answers_told) c.in_ok-courses.ensures.told
    ∙ none_told (length c.as_slice.result.now)
    ∙ ap (λ (n : ℕ). replicate n []) (ap (λ (l : List Loaded). length l) c.as_slice.ensures.value ∙ c.in_ok-loaded.ensures.many ∙ sym (length-map c.args.image.processes (λ (q : Process). q.name)))

pub returns-clause-names : goal.returns-clause-names
returns-clause-names c = arrays_right c.args.image c.requires.right
