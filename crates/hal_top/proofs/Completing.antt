-- Where nothing is wrong, what the words ask for is done, but for a fault of the shelf or of the sink or want of memory.
use Rattle.std.proofs.Common.{◌≡◌, ℕ, ◌⊎◌, inl, inr, List, Option, Some, None, IfSome, ap, ◌∙◌, sym, subst, arith}
use Rattle.hal_base.specs.Files.{File}
use Rattle.hal_base.specs.Sink.{Takes}
use Rattle.hal_grammar.specs.Units as units
use Rattle.hal_code.specs.declared.image.ImageParts.{ImageParts}
use Rattle.exec_model.specs.declared.event.Event.{Event}
use Rattle.exec_model.specs.declared.script.ScriptLine.{ScriptLine}
use Rattle.hal_top.specs.declared.outcome.Outcome.{Outcome}
use Rattle.hal_top.specs.declared.prepare.Task.{Task}
use Rattle.hal_top.specs.declared.prepare.Task.TheVariants as task
use Rattle.hal_top.specs.declared.prepare.Work.{Work}
use Rattle.hal_top.specs.declared.refused.Refused.{Refused}
use Rattle.hal_top.specs.declared.refused.Refused.TheVariants.{Memory}
use Rattle.hal_top.specs.CommandLine.{Command}
use Rattle.hal_top.specs.Causes.{Asked, WorkIn, IsWork, BuildIn, IsBuild, ExecIn, IsExec}
use Rattle.hal_top.specs.Outcomes.{Completes, Output, PrintsOutput, PrintsFront}
use Rattle.hal_top.specs.Performed.{ComesTo, Reported}
use Rattle.hal_top.specs.Told.{IsCause, outcome_of}
use Rattle.hal_top.specs.Works.{IsFit, TaskIn}
use Rattle.hal_top.proofs.Headline.{Ends, excused}
use Rattle.hal_top.proofs.Performing.{reports}

-- work is a task
run_of : (files : List File) (words : List (List ℕ)) (script : List ScriptLine) (set : List units.File) → IsWork files words script set → (t : Task) × Asked words (TaskIn files t)
run_of files words script set x =
    let work : Work = record { script = script; image = x.holds.has.image } in
    (task.Run work, record { command = x.command; form = x.form; holds = (set, x.holds, x.holds.has.compiled) })

build_of : (files : List File) (words : List (List ℕ)) (set : List units.File) → IsBuild files words set → (t : Task) × Asked words (TaskIn files t)
build_of files words set x = (task.Write x.holds.has.image, record { command = x.command; form = x.form; holds = (set, x.holds, x.holds.has.compiled) })

exec_of : (files : List File) (words : List (List ℕ)) (script : List ScriptLine) (image : ImageParts) → IsExec files words script image → (t : Task) × Asked words (TaskIn files t)
exec_of files words script image x =
    let work : Work = record { script = script; image = image } in
    (task.Execute work, record { command = x.command; form = x.form; holds = x.holds })

-- where a task that the words name completes, each form does
abbrev AnyCompletes : List File → List (List ℕ) → ℕ → Type 0
AnyCompletes files words status = (t : Task) → Asked words (TaskIn files t) → Completes status

pub runs_complete : (files : Option (List File)) (words : List (List ℕ)) (status : ℕ) → IfSome files (λ told. AnyCompletes told words status)
    → IfSome files (λ told. (script : List ScriptLine) (set : List units.File) → IsWork told words script set → Completes status)
runs_complete None words status all = tt
runs_complete (Some files) words status all = λ script set x. let one = run_of files words script set x in all one.0 one.1

pub builds_complete : (files : Option (List File)) (words : List (List ℕ)) (status : ℕ) → IfSome files (λ told. AnyCompletes told words status)
    → IfSome files (λ told. (set : List units.File) → IsBuild told words set → Completes status)
builds_complete None words status all = tt
builds_complete (Some files) words status all = λ set x. let one = build_of files words set x in all one.0 one.1

pub execs_complete : (files : Option (List File)) (words : List (List ℕ)) (status : ℕ) → IfSome files (λ told. AnyCompletes told words status)
    → IfSome files (λ told. (script : List ScriptLine) (image : ImageParts) → IsExec told words script image → Completes status)
execs_complete None words status all = tt
execs_complete (Some files) words status all = λ script image x. let one = exec_of files words script image x in all one.0 one.1

pub refused_any : (files : Option (List File)) (words : List (List ℕ)) (refused : Refused) (result : Outcome) → Ends words refused result → IfSome files (λ told. IsCause told words refused)
    → IfSome files (λ told. AnyCompletes told words result.status)
refused_any None words refused result ends cause = tt
refused_any (Some files) words refused result ends cause = λ t x. inr (excused files words t refused result ends cause x)

pub printed_any : (files : Option (List File)) (words : List (List ℕ)) (before now : Option (List ℕ)) (bytes : List ℕ) (faults_before faults_now status : ℕ) → Reported before now bytes faults_before faults_now status
    → IfSome files (λ told. AnyCompletes told words status)
printed_any None words before now bytes fb fn status reported = tt
printed_any (Some files) words before now bytes fb fn status (inl taken) = λ t x. inl (inl taken.0)
printed_any (Some files) words before now bytes fb fn status (inr cut) = λ t x. inl (inr cut.0)

-- want of memory is an excuse
pub memory_any : (files : Option (List File)) (words : List (List ℕ)) (result : Outcome) → Ends words Memory result → IfSome files (λ told. AnyCompletes told words result.status)
memory_any None words result ends = tt
memory_any (Some files) words result (inl is) = λ t x. inr (inr (ap (λ (o : Outcome). o.status) is))
memory_any (Some files) words result (inr is) = λ t x. inr (inr (ap (λ (o : Outcome). o.status) is))

-- what a task comes to is what the words ask for
output_of : (files : List File) (words : List (List ℕ)) (t : Task) (journal : List Event) (bytes : List ℕ) → Asked words (TaskIn files t) → IsFit t → ComesTo t journal bytes → Output files words journal bytes
output_of files words (task.Run work) journal bytes x fit comes =
    inl (record {
      script = work.script;
      set = x.holds.0;
      work = record { command = x.command; form = x.form; holds = x.holds.1 };
      reported = reports work.script work.image journal bytes fit.0 fit.1 comes x.holds.0 x.holds.2;
    })
output_of files words (task.Execute work) journal bytes x fit comes =
    inr (inl (record { script = work.script; image = work.image; work = record { command = x.command; form = x.form; holds = x.holds }; reported = comes }))
output_of files words (task.Write image) journal bytes x fit comes =
    inr (inr (record {
      set = x.holds.0;
      image = image;
      work = record { command = x.command; form = x.form; holds = x.holds.1 };
      compiled = x.holds.2;
      written = record { spelled = fit; are = comes.1 };
      nothing = comes.0;
    }))

pub reported-whole : (files : Option (List File)) (words : List (List ℕ)) (t : Task) (journal performed : List Event) (bytes : List ℕ) (before now : Option (List ℕ)) (faults_before faults_now status : ℕ)
    → IfSome files (λ told. Asked words (TaskIn told t)) → IsFit t → ComesTo t performed bytes → journal ≡ performed → Reported before now bytes faults_before faults_now status → status ≡ 0
    → IfSome files (λ told. PrintsOutput told words journal before now)
reported-whole None words t journal performed bytes before now fb fn status asked fit comes same reported zero = tt
reported-whole (Some files) words t journal performed bytes before now fb fn status asked fit comes same (inl taken) zero = record {
  bytes = bytes;
  output = output_of files words t journal bytes asked fit (subst (λ (j : List Event). ComesTo t j bytes) (sym same) comes);
  taken = taken.1;
}
reported-whole (Some files) words t journal performed bytes before now fb fn status asked fit comes same (inr cut) zero = absurd (omega (arith, zero, cut.0))

pub reported-front : (files : Option (List File)) (words : List (List ℕ)) (t : Task) (journal performed : List Event) (bytes : List ℕ) (before now : Option (List ℕ)) (faults_before faults_now status : ℕ)
    → IfSome files (λ told. Asked words (TaskIn told t)) → IsFit t → ComesTo t performed bytes → journal ≡ performed → Reported before now bytes faults_before faults_now status → status ≡ 8
    → IfSome files (λ told. PrintsFront told words journal before now)
reported-front None words t journal performed bytes before now fb fn status asked fit comes same reported eight = tt
reported-front (Some files) words t journal performed bytes before now fb fn status asked fit comes same (inr cut) eight = record {
  bytes = bytes;
  count = cut.1.0;
  output = output_of files words t journal bytes asked fit (subst (λ (j : List Event). ComesTo t j bytes) (sym same) comes);
  taken = cut.1.1;
}
reported-front (Some files) words t journal performed bytes before now fb fn status asked fit comes same (inl taken) eight = absurd (omega (arith, eight, taken.0))
