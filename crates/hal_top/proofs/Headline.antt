-- What an outcome says of files that are told.
use Rattle.std.proofs.Common.{◌≡◌, ℕ, ◌⊎◌, ◌↔◌, inl, inr, List, Option, Some, None, Result, Err, IfSome, refl, ap, ◌∙◌, sym, subst, arith}
use Rattle.hal_base.specs.Files.{File}
use Rattle.hal_base.specs.declared.refusal.Refusal.{Refusal}
use Rattle.hal_grammar.specs.Units as units
use Rattle.hal_code.specs.declared.image.ImageParts.{ImageParts}
use Rattle.exec_model.specs.declared.script.ScriptLine.{ScriptLine}
use Rattle.hal_script.specs.declared.fault.ScriptFault.{ScriptFault}
use Rattle.hal_top.specs.declared.outcome.Outcome.{Outcome}
use Rattle.hal_top.specs.declared.prepare.Task.{Task}
use Rattle.hal_top.specs.declared.prepare.Task.TheVariants as task
use Rattle.hal_top.specs.declared.refused.Refused.{Refused}
use Rattle.hal_top.specs.declared.refused.Refused.TheVariants.{Usage, Absent, TooLong, Script, Rule, NotImage, Unsound, Shelf, Memory}
use Rattle.hal_top.specs.CommandLine.{Command, IsCommand, Wanted, files_of, HasNoForm}
use Rattle.hal_top.specs.Causes.{Asked, IsAbsent, IsTooLong, FirstWrongIn, IsFirstWrong, IsReady, FaultyIn, IsFaulty, BrokenIn, IsBroken, BadIn, IsBadImage, WorkIn, IsWork, BuildIn, IsBuild, ExecIn, IsExec}
use Rattle.hal_top.specs.Outcomes.{IsExcused, Completes}
use Rattle.hal_top.specs.Performed.{Reported}
use Rattle.hal_top.specs.Works.{TaskIn}
use Rattle.hal_top.specs.Told.{IsCauseIn, IsCause, outcome_of}
use Rattle.hal_top.proofs.Exclusions.{absent_not_long, Excludes, Excludes-absent, Excludes-long, none_among, same_first, faulty-unique, faulty-not_ready, work-ready, build-ready, exec-ready, broken-no_meaning, not_both, script_or_none, bad-unique, bad-no_exec}
use Rattle.hal_top.proofs.Forms.{one_command}

-- what holds of the command of words holds of each of their commands
pub at : (words : List (List ℕ)) (c : Command) (Holds : Command → Type 0) → IsCommand words c → Asked words Holds → Holds c
at words c Holds form asked = subst Holds (one_command words asked.command c asked.form form) asked.holds

-- a task's files are there, and its script has no faulty line
task-ready : (files : List File) (t : Task) (c : Command) → TaskIn files t c → (texts : List (List ℕ)) × IsReady files c texts
task-ready files (task.Run work) c is = (is.1.texts, work-ready files c work.script is.0 is.1)
task-ready files (task.Write image) c is = (is.1.texts, build-ready files c is.0 is.1)
task-ready files (task.Execute work) c is = (is.texts, exec-ready files c work.script work.image is)

none_wrong : (Wrong : List File → Wanted → Type 0) → Excludes Wrong → (files : List File) (c : Command) (texts : List (List ℕ)) (number : ℕ) → IsReady files c texts → FirstWrongIn Wrong files number c → ⊥
none_wrong Wrong excludes files c texts number ready x = none_among Wrong excludes files (files_of c) texts number ready.present x

task-not_broken : (files : List File) (t : Task) (c : Command) (refusal : Refusal) → TaskIn files t c → BrokenIn files refusal c → ⊥
task-not_broken files (task.Run work) c refusal is x = broken-no_meaning files c refusal is.0 is.1.texts is.1.units x is.1.present is.1.are_units is.1.has
task-not_broken files (task.Write image) c refusal is x = broken-no_meaning files c refusal is.0 is.1.texts is.1.units x is.1.present is.1.are_units is.1.has
task-not_broken files (task.Execute work) c refusal is x = not_both c x.texts is.texts x.units is.bytes x.are_units is.is_image

task-not_bad : (files : List File) (t : Task) (c : Command) (fault : Option ℕ) → TaskIn files t c → BadIn files fault c → ⊥
task-not_bad files (task.Run work) c fault is x = not_both c is.1.texts x.texts is.1.units x.bytes is.1.are_units x.is_image
task-not_bad files (task.Write image) c fault is x = not_both c is.1.texts x.texts is.1.units x.bytes is.1.are_units x.is_image
task-not_bad files (task.Execute work) c fault is x = bad-no_exec files c fault work.script work.image x is

-- where there is a task nothing is wrong
pub task-none_absent : (files : Option (List File)) (words : List (List ℕ)) (t : Task) (Claim : ℕ → Type 0)
    → IfSome files (λ told. Asked words (TaskIn told t)) → IfSome files (λ told. (number : ℕ) → IsFirstWrong IsAbsent told words number → Claim number)
task-none_absent None words t Claim asked = tt
task-none_absent (Some files) words t Claim asked = λ number x.
    let ready = task-ready files t asked.command asked.holds in
    absurd (none_wrong IsAbsent Excludes-absent files asked.command ready.0 number ready.1 (at words asked.command (FirstWrongIn IsAbsent files number) asked.form x))

pub task-none_long : (files : Option (List File)) (words : List (List ℕ)) (t : Task) (Claim : ℕ → Type 0)
    → IfSome files (λ told. Asked words (TaskIn told t)) → IfSome files (λ told. (number : ℕ) → IsFirstWrong IsTooLong told words number → Claim number)
task-none_long None words t Claim asked = tt
task-none_long (Some files) words t Claim asked = λ number x.
    let ready = task-ready files t asked.command asked.holds in
    absurd (none_wrong IsTooLong Excludes-long files asked.command ready.0 number ready.1 (at words asked.command (FirstWrongIn IsTooLong files number) asked.form x))

pub task-none_faulty : (files : Option (List File)) (words : List (List ℕ)) (t : Task) (Claim : ScriptFault → Type 0)
    → IfSome files (λ told. Asked words (TaskIn told t)) → IfSome files (λ told. (fault : ScriptFault) → IsFaulty told words fault → Claim fault)
task-none_faulty None words t Claim asked = tt
task-none_faulty (Some files) words t Claim asked = λ fault x.
    let ready = task-ready files t asked.command asked.holds in
    absurd (faulty-not_ready files asked.command fault ready.0 (at words asked.command (FaultyIn files fault) asked.form x) ready.1)

pub task-none_broken : (files : Option (List File)) (words : List (List ℕ)) (t : Task) (Claim : Refusal → Type 0)
    → IfSome files (λ told. Asked words (TaskIn told t)) → IfSome files (λ told. (refusal : Refusal) → IsBroken told words refusal → Claim refusal)
task-none_broken None words t Claim asked = tt
task-none_broken (Some files) words t Claim asked = λ refusal x.
    absurd (task-not_broken files t asked.command refusal asked.holds (at words asked.command (BrokenIn files refusal) asked.form x))

pub task-none_bad : (files : Option (List File)) (words : List (List ℕ)) (t : Task) (Claim : Option ℕ → Type 0)
    → IfSome files (λ told. Asked words (TaskIn told t)) → IfSome files (λ told. (fault : Option ℕ) → IsBadImage told words fault → Claim fault)
task-none_bad None words t Claim asked = tt
task-none_bad (Some files) words t Claim asked = λ fault x.
    absurd (task-not_bad files t asked.command fault asked.holds (at words asked.command (BadIn files fault) asked.form x))

-- the outcome is that of the refusal, or of want of memory for its line
abbrev pub Ends : List (List ℕ) → Refused → Outcome → Type 0
Ends words refused result = (result ≡ outcome_of words refused) ⊎ (result ≡ outcome_of words Memory)

abbrev status_is : (words : List (List ℕ)) (refused : Refused) (result : Outcome) → result ≡ outcome_of words refused → result.status ≡ (outcome_of words refused).status
status_is words refused result is = ap (λ (o : Outcome). o.status) is

-- a refusal's cause is that of a command, but for the use of the words
caused : (files : List File) (words : List (List ℕ)) (c : Command) (refused : Refused) → IsCommand words c → IsCause files words refused → IsCauseIn files c refused
caused files words c Usage form cause = cause c form
caused files words c (Absent number) form cause = at words c (FirstWrongIn IsAbsent files number) form cause
caused files words c (TooLong number) form cause = at words c (FirstWrongIn IsTooLong files number) form cause
caused files words c (Script fault) form cause = at words c (FaultyIn files fault) form cause
caused files words c (Rule refusal) form cause = at words c (BrokenIn files refusal) form cause
caused files words c NotImage form cause = at words c (BadIn files None) form cause
caused files words c (Unsound number) form cause = at words c (BadIn files (Some number)) form cause
caused files words c Shelf form cause = tt
caused files words c Memory form cause = tt

-- one cause is another one
absent-told : (files : List File) (words : List (List ℕ)) (c : Command) (refused : Refused) (result : Outcome) (number : ℕ) → result ≡ outcome_of words refused → IsCauseIn files c refused
    → FirstWrongIn IsAbsent files number c → ((result.status ≡ 3) × (result.file ≡ Some number)) ⊎ IsExcused result.status
absent-told files words c Usage result number is cause x = absurd cause
absent-told files words c (Absent other) result number is cause x =
    inl (status_is words (Absent other) result is, (ap (λ (o : Outcome). o.file) is ∙ ap Some (same_first IsAbsent IsAbsent Excludes-absent Excludes-absent files (files_of c) other number cause x).0))
absent-told files words c (TooLong other) result number is cause x =
    let both = same_first IsTooLong IsAbsent Excludes-long Excludes-absent files (files_of c) other number cause x in
    absurd (absent_not_long files both.1 both.3 both.2)
absent-told files words c (Script fault) result number is cause x = absurd (none_among IsAbsent Excludes-absent files (files_of c) cause.texts number cause.present x)
absent-told files words c (Rule refusal) result number is cause x = absurd (none_wrong IsAbsent Excludes-absent files c cause.texts number cause.ready x)
absent-told files words c NotImage result number is cause x = absurd (none_wrong IsAbsent Excludes-absent files c cause.texts number cause.ready x)
absent-told files words c (Unsound n) result number is cause x = absurd (none_wrong IsAbsent Excludes-absent files c cause.texts number cause.ready x)
absent-told files words c Shelf result number is cause x = inr (inl (status_is words Shelf result is))
absent-told files words c Memory result number is cause x = inr (inr (status_is words Memory result is))

long-told : (files : List File) (words : List (List ℕ)) (c : Command) (refused : Refused) (result : Outcome) (number : ℕ) → result ≡ outcome_of words refused → IsCauseIn files c refused
    → FirstWrongIn IsTooLong files number c → ((result.status ≡ 4) × (result.file ≡ Some number)) ⊎ IsExcused result.status
long-told files words c Usage result number is cause x = absurd cause
long-told files words c (Absent other) result number is cause x =
    let both = same_first IsTooLong IsAbsent Excludes-long Excludes-absent files (files_of c) number other x cause in
    absurd (absent_not_long files both.1 both.3 both.2)
long-told files words c (TooLong other) result number is cause x =
    inl (status_is words (TooLong other) result is, (ap (λ (o : Outcome). o.file) is ∙ ap Some (same_first IsTooLong IsTooLong Excludes-long Excludes-long files (files_of c) other number cause x).0))
long-told files words c (Script fault) result number is cause x = absurd (none_among IsTooLong Excludes-long files (files_of c) cause.texts number cause.present x)
long-told files words c (Rule refusal) result number is cause x = absurd (none_wrong IsTooLong Excludes-long files c cause.texts number cause.ready x)
long-told files words c NotImage result number is cause x = absurd (none_wrong IsTooLong Excludes-long files c cause.texts number cause.ready x)
long-told files words c (Unsound n) result number is cause x = absurd (none_wrong IsTooLong Excludes-long files c cause.texts number cause.ready x)
long-told files words c Shelf result number is cause x = inr (inl (status_is words Shelf result is))
long-told files words c Memory result number is cause x = inr (inr (status_is words Memory result is))

faulty-told : (files : List File) (words : List (List ℕ)) (c : Command) (refused : Refused) (result : Outcome) (fault : ScriptFault) → result ≡ outcome_of words refused → IsCauseIn files c refused
    → FaultyIn files fault c → ((result.status ≡ 6) × (result.script_fault ≡ Some fault)) ⊎ IsExcused result.status
faulty-told files words c Usage result fault is cause x = absurd cause
faulty-told files words c (Absent n) result fault is cause x = absurd (none_among IsAbsent Excludes-absent files (files_of c) x.texts n x.present cause)
faulty-told files words c (TooLong n) result fault is cause x = absurd (none_among IsTooLong Excludes-long files (files_of c) x.texts n x.present cause)
faulty-told files words c (Script other) result fault is cause x =
    inl (status_is words (Script other) result is, (ap (λ (o : Outcome). o.script_fault) is ∙ ap Some (faulty-unique files c other fault cause x)))
faulty-told files words c (Rule refusal) result fault is cause x = absurd (faulty-not_ready files c fault cause.texts x cause.ready)
faulty-told files words c NotImage result fault is cause x = absurd (faulty-not_ready files c fault cause.texts x cause.ready)
faulty-told files words c (Unsound n) result fault is cause x = absurd (faulty-not_ready files c fault cause.texts x cause.ready)
faulty-told files words c Shelf result fault is cause x = inr (inl (status_is words Shelf result is))
faulty-told files words c Memory result fault is cause x = inr (inr (status_is words Memory result is))

broken-told : (files : List File) (words : List (List ℕ)) (c : Command) (refused : Refused) (result : Outcome) (refusal : Refusal) → result ≡ outcome_of words refused → IsCauseIn files c refused
    → BrokenIn files refusal c → (result.status ≡ 5) ⊎ IsExcused result.status
broken-told files words c Usage result refusal is cause x = absurd cause
broken-told files words c (Absent n) result refusal is cause x = absurd (none_wrong IsAbsent Excludes-absent files c x.texts n x.ready cause)
broken-told files words c (TooLong n) result refusal is cause x = absurd (none_wrong IsTooLong Excludes-long files c x.texts n x.ready cause)
broken-told files words c (Script fault) result refusal is cause x = absurd (faulty-not_ready files c fault x.texts cause x.ready)
broken-told files words c (Rule other) result refusal is cause x = inl (status_is words (Rule other) result is)
broken-told files words c NotImage result refusal is cause x = absurd (not_both c x.texts cause.texts x.units cause.bytes x.are_units cause.is_image)
broken-told files words c (Unsound n) result refusal is cause x = absurd (not_both c x.texts cause.texts x.units cause.bytes x.are_units cause.is_image)
broken-told files words c Shelf result refusal is cause x = inr (inl (status_is words Shelf result is))
broken-told files words c Memory result refusal is cause x = inr (inr (status_is words Memory result is))

bad-told : (files : List File) (words : List (List ℕ)) (c : Command) (refused : Refused) (result : Outcome) (fault : Option ℕ) → result ≡ outcome_of words refused → IsCauseIn files c refused
    → BadIn files fault c → ((result.status ≡ 10) × (result.image_fault ≡ fault)) ⊎ IsExcused result.status
bad-told files words c Usage result fault is cause x = absurd cause
bad-told files words c (Absent n) result fault is cause x = absurd (none_wrong IsAbsent Excludes-absent files c x.texts n x.ready cause)
bad-told files words c (TooLong n) result fault is cause x = absurd (none_wrong IsTooLong Excludes-long files c x.texts n x.ready cause)
bad-told files words c (Script wrong) result fault is cause x = absurd (faulty-not_ready files c wrong x.texts cause x.ready)
bad-told files words c (Rule refusal) result fault is cause x = absurd (not_both c cause.texts x.texts cause.units x.bytes cause.are_units x.is_image)
bad-told files words c NotImage result fault is cause x =
    inl (status_is words NotImage result is, (ap (λ (o : Outcome). o.image_fault) is ∙ bad-unique files c None fault cause x))
bad-told files words c (Unsound n) result fault is cause x =
    inl (status_is words (Unsound n) result is, (ap (λ (o : Outcome). o.image_fault) is ∙ bad-unique files c (Some n) fault cause x))
bad-told files words c Shelf result fault is cause x = inr (inl (status_is words Shelf result is))
bad-told files words c Memory result fault is cause x = inr (inr (status_is words Memory result is))

-- a task is refused only for the shelf or for memory
task-told : (files : List File) (words : List (List ℕ)) (c : Command) (t : Task) (refused : Refused) (result : Outcome) → result ≡ outcome_of words refused → IsCauseIn files c refused
    → TaskIn files t c → IsExcused result.status
task-told files words c t Usage result is cause x = absurd cause
task-told files words c t (Absent n) result is cause x = let ready = task-ready files t c x in absurd (none_wrong IsAbsent Excludes-absent files c ready.0 n ready.1 cause)
task-told files words c t (TooLong n) result is cause x = let ready = task-ready files t c x in absurd (none_wrong IsTooLong Excludes-long files c ready.0 n ready.1 cause)
task-told files words c t (Script fault) result is cause x = let ready = task-ready files t c x in absurd (faulty-not_ready files c fault ready.0 cause ready.1)
task-told files words c t (Rule refusal) result is cause x = absurd (task-not_broken files t c refusal x cause)
task-told files words c t NotImage result is cause x = absurd (task-not_bad files t c None x cause)
task-told files words c t (Unsound n) result is cause x = absurd (task-not_bad files t c (Some n) x cause)
task-told files words c t Shelf result is cause x = inl (status_is words Shelf result is)
task-told files words c t Memory result is cause x = inr (status_is words Memory result is)

out_of_memory : (words : List (List ℕ)) (result : Outcome) → result ≡ outcome_of words Memory → IsExcused result.status
out_of_memory words result is = inr (status_is words Memory result is)

pub refused-absent : (files : Option (List File)) (words : List (List ℕ)) (refused : Refused) (result : Outcome) → Ends words refused result → IfSome files (λ told. IsCause told words refused)
    → IfSome files (λ told. (number : ℕ) → IsFirstWrong IsAbsent told words number → ((result.status ≡ 3) × (result.file ≡ Some number)) ⊎ IsExcused result.status)
refused-absent None words refused result ends cause = tt
refused-absent (Some files) words refused result (inl is) cause = λ number x. absent-told files words x.command refused result number is (caused files words x.command refused x.form cause) x.holds
refused-absent (Some files) words refused result (inr is) cause = λ number x. inr (out_of_memory words result is)

pub refused-long : (files : Option (List File)) (words : List (List ℕ)) (refused : Refused) (result : Outcome) → Ends words refused result → IfSome files (λ told. IsCause told words refused)
    → IfSome files (λ told. (number : ℕ) → IsFirstWrong IsTooLong told words number → ((result.status ≡ 4) × (result.file ≡ Some number)) ⊎ IsExcused result.status)
refused-long None words refused result ends cause = tt
refused-long (Some files) words refused result (inl is) cause = λ number x. long-told files words x.command refused result number is (caused files words x.command refused x.form cause) x.holds
refused-long (Some files) words refused result (inr is) cause = λ number x. inr (out_of_memory words result is)

pub refused-faulty : (files : Option (List File)) (words : List (List ℕ)) (refused : Refused) (result : Outcome) → Ends words refused result → IfSome files (λ told. IsCause told words refused)
    → IfSome files (λ told. (fault : ScriptFault) → IsFaulty told words fault → ((result.status ≡ 6) × (result.script_fault ≡ Some fault)) ⊎ IsExcused result.status)
refused-faulty None words refused result ends cause = tt
refused-faulty (Some files) words refused result (inl is) cause = λ fault x. faulty-told files words x.command refused result fault is (caused files words x.command refused x.form cause) x.holds
refused-faulty (Some files) words refused result (inr is) cause = λ fault x. inr (out_of_memory words result is)

pub refused-broken : (files : Option (List File)) (words : List (List ℕ)) (refused : Refused) (result : Outcome) → Ends words refused result → IfSome files (λ told. IsCause told words refused)
    → IfSome files (λ told. (refusal : Refusal) → IsBroken told words refusal → (result.status ≡ 5) ⊎ IsExcused result.status)
refused-broken None words refused result ends cause = tt
refused-broken (Some files) words refused result (inl is) cause = λ refusal x. broken-told files words x.command refused result refusal is (caused files words x.command refused x.form cause) x.holds
refused-broken (Some files) words refused result (inr is) cause = λ refusal x. inr (out_of_memory words result is)

pub refused-bad : (files : Option (List File)) (words : List (List ℕ)) (refused : Refused) (result : Outcome) → Ends words refused result → IfSome files (λ told. IsCause told words refused)
    → IfSome files (λ told. (fault : Option ℕ) → IsBadImage told words fault → ((result.status ≡ 10) × (result.image_fault ≡ fault)) ⊎ IsExcused result.status)
refused-bad None words refused result ends cause = tt
refused-bad (Some files) words refused result (inl is) cause = λ fault x. bad-told files words x.command refused result fault is (caused files words x.command refused x.form cause) x.holds
refused-bad (Some files) words refused result (inr is) cause = λ fault x. inr (out_of_memory words result is)

-- where there is work, a set to be written or an image to run, a refusal is excused
pub excused : (files : List File) (words : List (List ℕ)) (t : Task) (refused : Refused) (result : Outcome) → Ends words refused result → IsCause files words refused → Asked words (TaskIn files t) → IsExcused result.status
excused files words t refused result (inl is) cause x = task-told files words x.command t refused result is (caused files words x.command refused x.form cause) x.holds
excused files words t refused result (inr is) cause x = out_of_memory words result is

-- status 2 is that of words without a form alone
status_two : (words : List (List ℕ)) (refused : Refused) → (outcome_of words refused).status ≡ 2 → refused ≡ Usage
status_two words Usage is = refl
status_two words (Absent n) is = absurd (omega (arith, is))
status_two words (TooLong n) is = absurd (omega (arith, is))
status_two words (Script fault) is = absurd (omega (arith, is))
status_two words (Rule refusal) is = absurd (omega (arith, is))
status_two words NotImage is = absurd (omega (arith, is))
status_two words (Unsound n) is = absurd (omega (arith, is))
status_two words Shelf is = absurd (omega (arith, is))
status_two words Memory is = absurd (omega (arith, is))

two : (words : List (List ℕ)) (refused : Refused) (result : Outcome) → Ends words refused result → result.status ≡ 2 → refused ≡ Usage
two words refused result (inl same) is = status_two words refused (sym (status_is words refused result same) ∙ is)
two words refused result (inr same) is = absurd (omega (arith, status_is words Memory result same, is))

abbrev failing : Refused → Result Task Refused
failing refused = Err refused

same_failing : (one other : Refused) → failing one ≡ failing other → one ≡ other
same_failing one other same = cc

pub usage_told : (words : List (List ℕ)) (refused : Refused) (result : Outcome) → Ends words refused result → (refused ≡ Usage → result ≡ outcome_of words Usage) → (failing refused ≡ failing Usage) ↔ HasNoForm words
    → (result.status ≡ 2) ↔ HasNoForm words
usage_told words refused result ends exact told = (
  λ is. told.0 (ap failing (two words refused result ends is)),
  λ none. ap (λ (o : Outcome). o.status) (exact (same_failing refused Usage (told.1 none))),
)
