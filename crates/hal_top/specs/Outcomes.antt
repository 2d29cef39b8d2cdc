-- What an outcome claims.
use Rattle.std.specs.Prelude.{◌≡◌, ◌≢◌, ℕ, ◌+◌, ◌≤◌, ◌⊎◌, List, [], ◌++◌, length, take, Option, Some, None, IfSome, IsSome, codes, slice_get, unwrap_or, nat_eq, if◌then◌else◌, ◌↔◌}
use Rattle.std.specs.Fmt.{decimal}
use Rattle.hal_base.specs.declared.refusal.Refusal.{Refusal}
use Rattle.hal_base.specs.Faults.{Rose}
use Rattle.hal_base.specs.Files.{File}
use Rattle.hal_base.specs.Sink.{Takes}
use Rattle.hal_grammar.specs.Units as units
use Rattle.exec_model.specs.declared.script.ScriptLine.{ScriptLine}
use Rattle.hal_script.specs.declared.fault.ScriptFault.{ScriptFault}
use Rattle.exec_model.specs.declared.event.Event.{Event}
use Rattle.hal_top.specs.declared.outcome.Outcome.{Outcome}
use Rattle.hal_code.specs.declared.image.ImageParts.{ImageParts}
use Rattle.hal_compile.specs.Compiling.{Compiles}
use Rattle.hal_top.specs.CommandLine.{words_before, file_of_unit, usage_line}
use Rattle.hal_top.specs.Performed.{HasReport, HasImageReport}
use Rattle.hal_top.specs.Causes.{HasBytes, IsWork, IsBuild, IsExec}

-- a refusal: neither a report nor one cut short
abbrev pub IsRefusal : ℕ → Type 0
IsRefusal status = (status ≢ 0) × (status ≢ 8)

-- a fault of the shelf or want of memory came before
abbrev pub IsExcused : ℕ → Type 0
IsExcused status = (status ≡ 7) ⊎ (status ≡ 9)

-- the report was printed, or a front of it, or a fault or want of memory came before
abbrev pub Completes : ℕ → Type 0
Completes status = ((status ≡ 0) ⊎ (status ≡ 8)) ⊎ IsExcused status

abbrev pub IsStatus : ℕ → Type 0
IsStatus status = (status ≡ 0) ⊎ (status ≡ 2) ⊎ (status ≡ 3) ⊎ (status ≡ 4) ⊎ (status ≡ 5) ⊎ (status ≡ 6) ⊎ (status ≡ 7) ⊎ (status ≡ 8) ⊎ (status ≡ 9) ⊎ (status ≡ 10)

-- the word that names this file
abbrev pub file_word : List (List ℕ) → Option ℕ → List ℕ
file_word words None = []
file_word words (Some number) = unwrap_or (slice_get words (number + words_before words)) []

abbrev pub rule_text : Option Refusal → List ℕ
rule_text None = []
rule_text (Some refusal) = codes ":" ++ (decimal refusal.place.line ++ (codes ":" ++ (decimal refusal.place.column ++ (codes ": rule " ++ (decimal refusal.rule.0 ++ codes "\n")))))

abbrev pub fault_text : Option ScriptFault → List ℕ
fault_text None = []
fault_text (Some fault) = codes ":" ++ (decimal fault.line ++ (codes ": reason " ++ (decimal fault.reason ++ codes "\n")))

abbrev pub image_text : Option ℕ → List ℕ
image_text None = codes ": not an image\n"
image_text (Some number) = codes ": instruction " ++ (decimal number ++ codes "\n")

-- the one line of a refusal
abbrev pub refusal_line : List (List ℕ) → Outcome → List ℕ
refusal_line words outcome =
    if nat_eq outcome.status 2 then usage_line
    else (if nat_eq outcome.status 3 then file_word words outcome.file ++ codes ": absent\n"
    else (if nat_eq outcome.status 4 then file_word words outcome.file ++ codes ": too long\n"
    else (if nat_eq outcome.status 5 then file_word words outcome.file ++ rule_text outcome.refused
    else (if nat_eq outcome.status 6 then file_word words outcome.file ++ fault_text outcome.script_fault
    else (if nat_eq outcome.status 7 then codes "shelf fault\n"
    else (if nat_eq outcome.status 10 then file_word words outcome.file ++ image_text outcome.image_fault
    else codes "memory\n"))))))

-- the sink took a front of the piece, or the whole where its count of faults didn't rise
abbrev pub Prints : Option (List ℕ) → Option (List ℕ) → List ℕ → ℕ → ℕ → Type 0
Prints None now piece faults_before faults_now = Unit {0}
Prints (Some before) now piece faults_before faults_now =
    (count : ℕ) × (now ≡ Some (before ++ take count piece)) × ((length piece ≤ count) ⊎ Rose faults_before faults_now)

-- the work that the words name, a run of it with this journal, and the report of the moment after it
pub record Ran (files : List File) (words : List (List ℕ)) (journal : List Event) (bytes : List ℕ) : Type 0 where
  pub script : List ScriptLine
  pub set : List units.File
  pub work : IsWork files words script set
  pub reported : HasReport script set journal bytes

-- the same of an image that the words name
pub record Executed (files : List File) (words : List (List ℕ)) (journal : List Event) (bytes : List ℕ) : Type 0 where
  pub script : List ScriptLine
  pub image : ImageParts
  pub work : IsExec files words script image
  pub reported : HasImageReport script image journal bytes

-- the bytes of the image of the set that the words name; nothing ran
pub record Built (files : List File) (words : List (List ℕ)) (journal : List Event) (bytes : List ℕ) : Type 0 where
  pub set : List units.File
  pub image : ImageParts
  pub work : IsBuild files words set
  pub compiled : Compiles set image
  pub written : HasBytes image bytes
  pub nothing : journal ≡ []

-- what the words ask for comes to this journal and these bytes
abbrev pub Output : List File → List (List ℕ) → List Event → List ℕ → Type 0
Output files words journal bytes = Ran files words journal bytes ⊎ Executed files words journal bytes ⊎ Built files words journal bytes

-- the sink took them, where it tells its bytes
pub record PrintsOutput (files : List File) (words : List (List ℕ)) (journal : List Event) (before now : Option (List ℕ)) : Type 0 where
  pub bytes : List ℕ
  pub output : Output files words journal bytes
  pub taken : Takes before now bytes (length bytes)

-- or a front of them
pub record PrintsFront (files : List File) (words : List (List ℕ)) (journal : List Event) (before now : Option (List ℕ)) : Type 0 where
  pub bytes : List ℕ
  pub count : ℕ
  pub output : Output files words journal bytes
  pub taken : Takes before now bytes count

-- which fields are given
pub record IsTold (words : List (List ℕ)) (outcome : Outcome) : Type 0 where
  pub file : IsSome outcome.file ↔ ((outcome.status ≡ 3) ⊎ (outcome.status ≡ 4) ⊎ (outcome.status ≡ 5) ⊎ (outcome.status ≡ 6) ⊎ (outcome.status ≡ 10))
  pub of_script : outcome.status ≡ 6 → outcome.file ≡ Some 0
  pub of_image : outcome.status ≡ 10 → outcome.file ≡ Some 1
  pub of_unit : IfSome outcome.refused (λ refusal. outcome.file ≡ Some (file_of_unit words refusal.place.unit))
  pub refused : IsSome outcome.refused ↔ (outcome.status ≡ 5)
  pub script_fault : IsSome outcome.script_fault ↔ (outcome.status ≡ 6)
  pub image_fault : IsSome outcome.image_fault → outcome.status ≡ 10
