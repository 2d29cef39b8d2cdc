-- What scripts, units and images say of a command.
use Rattle.std.specs.Prelude.{IsErrOf, ◌↔◌}
use Rattle.std.proofs.Common.{◌≡◌, ◌+◌, ℕ, zero, suc, List, [], ◌∷◌, Option, Some, None, Result, Ok, Err, IfSome, Vec, map, refl, sym, subst, arith}
use Rattle.std.specs.declared.alloc.Global.{Global}
use Rattle.hal_base.specs.Files.{File}
use Rattle.hal_code.specs.declared.image.ImageParts.{ImageParts}
use Rattle.hal_object.specs.Images.{image_bytes, IsSpelled}
use Rattle.hal_compile.specs.Compiling.{CanRun}
use Rattle.hal_compile.proofs.Faultless.{without_fault-runs}
use Rattle.hal_compile.specs.Reading.{seen_text}
use Rattle.hal_compile.specs.Texts.{MakesImage}
use Rattle.hal_top.specs.declared.prepare.Task.{Task}
use Rattle.hal_top.specs.declared.prepare.Task.TheVariants as task
use Rattle.hal_top.specs.declared.refused.Refused.{Refused}
use Rattle.hal_top.specs.declared.refused.Refused.TheVariants.{Usage, Absent, TooLong, Script, Rule, NotImage, Unsound, Shelf, Memory}
use Rattle.hal_top.specs.CommandLine.{Command, Runs, Builds, Executes, IsCommand, HasNoForm, Wanted, text_named, image_named, files_of}
use Rattle.hal_top.specs.Causes.{IsPresent, ArePresent, IsAbsent, IsTooLong, FirstWrong, HasBytes, IsBad}
use Rattle.hal_top.specs.Told.{IsUnfit, FetchesOne, FetchesUnits, IsCauseIn}
use Rattle.hal_top.specs.Works.{IsChecked, IsImageIn, RunsTo, BuildsTo, ExecutesTo, Prepared, Told}

-- an image that is made can run, and has bytes
pub runs_of : (texts : List (List ℕ)) (image : ImageParts) → MakesImage texts image → CanRun image
runs_of texts image made = made.compiled.runs

pub spelling_of : (texts : List (List ℕ)) (image : ImageParts) → MakesImage texts image → IsSpelled image
spelling_of texts image made = made.compiled.runs.spelled

-- what was read is the image of the bytes
pub image_read : (bytes : List ℕ) (image : ImageParts) (answer : Result ImageParts Refused) → IsSpelled image → bytes ≡ image_bytes image → IsChecked image answer → IsImageIn bytes answer
image_read bytes image (Ok same) spelled are is =
    subst (λ (one : ImageParts). HasBytes one bytes × CanRun one) (sym is.0) (record { spelled = spelled; are = are }, without_fault-runs image is.1 spelled)
image_read bytes image (Err (Unsound number)) spelled are is = (image, record { spelled = spelled; are = are }, is)
image_read bytes image (Err Memory) spelled are is = tt
image_read bytes image (Err Usage) spelled are is = absurd is
image_read bytes image (Err (Absent number)) spelled are is = absurd is
image_read bytes image (Err (TooLong number)) spelled are is = absurd is
image_read bytes image (Err (Script fault)) spelled are is = absurd is
image_read bytes image (Err (Rule refusal)) spelled are is = absurd is
image_read bytes image (Err NotImage) spelled are is = absurd is
image_read bytes image (Err Shelf) spelled are is = absurd is

-- bytes that were refused are those of none
pub not_image : (bytes : List ℕ) → ((image : ImageParts) → IsSpelled image → bytes ≡ image_bytes image → ⊥) → IsBad bytes None
not_image bytes none = λ image has. none image has.spelled has.are

-- files that are told are told still
abbrev Later : Option (List File) → (List File → Type 0) → Type 0
Later files P = IfSome files P

now : (files later : Option (List File)) (P : List File → Type 0) → later ≡ files → IfSome later P → IfSome files P
now files later P same is = subst (λ (o : Option (List File)). IfSome o P) same is

-- a run
run-fetched : (files : List File) (script : List ℕ) (units : List (List ℕ)) (text : List ℕ) (texts : List (List ℕ)) (answer : Result Task Refused)
    → ArePresent files (files_of (Runs script units)) (text ∷ texts) → RunsTo text texts answer → Prepared files (Runs script units) answer
run-fetched files script units text texts (Ok (task.Run work)) there is =
    (is.1.files, record { texts = text ∷ texts; script_text = text; units = texts; present = there; is_script = refl; read = is.0; are_units = refl; has = is.1.has }, is.1.compiled)
run-fetched files script units text texts (Ok (task.Write image)) there is = absurd is
run-fetched files script units text texts (Ok (task.Execute work)) there is = absurd is
run-fetched files script units text texts (Err (Script fault)) there is = record { texts = text ∷ texts; script = text; present = there; is_script = refl; first = is }
run-fetched files script units text texts (Err (Rule refusal)) there is =
    record { texts = text ∷ texts; units = texts; ready = record { present = there; read = is.0 }; are_units = refl; broken = is.1 }
run-fetched files script units text texts (Err Memory) there is = tt
run-fetched files script units text texts (Err Usage) there is = absurd is
run-fetched files script units text texts (Err (Absent number)) there is = absurd is
run-fetched files script units text texts (Err (TooLong number)) there is = absurd is
run-fetched files script units text texts (Err NotImage) there is = absurd is
run-fetched files script units text texts (Err (Unsound number)) there is = absurd is
run-fetched files script units text texts (Err Shelf) there is = absurd is

pub run_told : (files later : Option (List File)) (script : List ℕ) (names : List (List ℕ)) (text slice : List ℕ) (units slices : List (Vec ℕ Global)) (answer : Result Task Refused)
    → later ≡ files → IfSome files (λ told. IsPresent told (text_named script) text) → IfSome later (λ told. ArePresent told (map text_named names) (map seen_text units))
    → slice ≡ text → slices ≡ units → RunsTo slice (map seen_text slices) answer → IfSome files (λ told. Prepared told (Runs script names) answer)
run_told None later script names text slice units slices answer same first others one all is = tt
run_told (Some files) later script names text slice units slices answer same first others one all is =
    run-fetched files script names text (map seen_text units) answer (first, now (Some files) later (λ told. ArePresent told (map text_named names) (map seen_text units)) same others)
    (subst (λ (bytes : List ℕ). RunsTo bytes (map seen_text units) answer) one (subst (λ (vecs : List (Vec ℕ Global)). RunsTo slice (map seen_text vecs) answer) all is))

-- an image to be written
build-fetched : (files : List File) (units texts : List (List ℕ)) (answer : Result Task Refused) → ArePresent files (files_of (Builds units)) texts → BuildsTo texts answer → Prepared files (Builds units) answer
build-fetched files units texts (Ok (task.Run work)) there is = absurd is
build-fetched files units texts (Ok (task.Write image)) there is =
    (is.files, record { texts = texts; units = texts; present = there; no_script = refl; are_units = refl; has = is.has }, is.compiled)
build-fetched files units texts (Ok (task.Execute work)) there is = absurd is
build-fetched files units texts (Err (Script fault)) there is = absurd is
build-fetched files units texts (Err (Rule refusal)) there is = record { texts = texts; units = texts; ready = record { present = there; read = tt }; are_units = refl; broken = is }
build-fetched files units texts (Err Memory) there is = tt
build-fetched files units texts (Err Usage) there is = absurd is
build-fetched files units texts (Err (Absent number)) there is = absurd is
build-fetched files units texts (Err (TooLong number)) there is = absurd is
build-fetched files units texts (Err NotImage) there is = absurd is
build-fetched files units texts (Err (Unsound number)) there is = absurd is
build-fetched files units texts (Err Shelf) there is = absurd is

pub build_told : (files : Option (List File)) (names : List (List ℕ)) (units slices : List (Vec ℕ Global)) (answer : Result Task Refused)
    → IfSome files (λ told. ArePresent told (map text_named names) (map seen_text units)) → slices ≡ units → BuildsTo (map seen_text slices) answer → IfSome files (λ told. Prepared told (Builds names) answer)
build_told None names units slices answer there all is = tt
build_told (Some files) names units slices answer there all is =
    build-fetched files names (map seen_text units) answer there (subst (λ (vecs : List (Vec ℕ Global)). BuildsTo (map seen_text vecs) answer) all is)

-- a run of an image
exec-fetched : (files : List File) (script image text bytes : List ℕ) (answer : Result Task Refused) → ArePresent files (files_of (Executes script image)) (text ∷ bytes ∷ []) → ExecutesTo text bytes answer
    → Prepared files (Executes script image) answer
exec-fetched files script image text bytes (Ok (task.Run work)) there is = absurd is
exec-fetched files script image text bytes (Ok (task.Write other)) there is = absurd is
exec-fetched files script image text bytes (Ok (task.Execute work)) there is =
    record { texts = text ∷ bytes ∷ []; script_text = text; bytes = bytes; present = there; is_script = refl; read = is.0; is_image = refl; read_from = is.1.0; runs = is.1.1 }
exec-fetched files script image text bytes (Err (Script fault)) there is = record { texts = text ∷ bytes ∷ []; script = text; present = there; is_script = refl; first = is }
exec-fetched files script image text bytes (Err NotImage) there is =
    record { texts = text ∷ bytes ∷ []; bytes = bytes; ready = record { present = there; read = is.0 }; is_image = refl; bad = is.1 }
exec-fetched files script image text bytes (Err (Unsound number)) there is =
    record { texts = text ∷ bytes ∷ []; bytes = bytes; ready = record { present = there; read = is.0 }; is_image = refl; bad = is.1 }
exec-fetched files script image text bytes (Err Memory) there is = tt
exec-fetched files script image text bytes (Err Usage) there is = absurd is
exec-fetched files script image text bytes (Err (Absent number)) there is = absurd is
exec-fetched files script image text bytes (Err (TooLong number)) there is = absurd is
exec-fetched files script image text bytes (Err (Rule refusal)) there is = absurd is
exec-fetched files script image text bytes (Err Shelf) there is = absurd is

pub exec_told : (files later : Option (List File)) (script image text slice bytes image_slice : List ℕ) (answer : Result Task Refused)
    → later ≡ files → IfSome files (λ told. IsPresent told (text_named script) text) → IfSome later (λ told. IsPresent told (image_named image) bytes)
    → slice ≡ text → image_slice ≡ bytes → ExecutesTo slice image_slice answer → IfSome files (λ told. Prepared told (Executes script image) answer)
exec_told None later script image text slice bytes image_slice answer same first second one other is = tt
exec_told (Some files) later script image text slice bytes image_slice answer same first second one other is =
    exec-fetched files script image text bytes answer (first, (now (Some files) later (λ told. IsPresent told (image_named image) bytes) same second, tt))
    (subst (λ (list : List ℕ). ExecutesTo list bytes answer) one (subst (λ (list : List ℕ). ExecutesTo slice list answer) other is))

-- the first file isn't fit
first_there : (Wrong : List File → Wanted → Type 0) (files : List File) (one : Wanted) (others : List Wanted) (n : ℕ) → FirstWrong Wrong files (one ∷ []) n → FirstWrong Wrong files (one ∷ others) n
first_there Wrong files one others zero wrong = wrong
first_there Wrong files one others (suc n) wrong = absurd wrong.2

first-unfit : (files : List File) (c : Command) (one : Wanted) (others : List Wanted) (refused : Refused) → files_of c ≡ one ∷ others → IsUnfit files 0 (one ∷ []) refused → IsCauseIn files c refused
first-unfit files c one others (Absent number) are (n, is, wrong) =
    subst (λ (list : List Wanted). FirstWrong IsAbsent files list number) (sym are) (subst (λ (k : ℕ). FirstWrong IsAbsent files (one ∷ others) k) (omega (arith, is)) (first_there IsAbsent files one others n wrong))
first-unfit files c one others (TooLong number) are (n, is, wrong) =
    subst (λ (list : List Wanted). FirstWrong IsTooLong files list number) (sym are) (subst (λ (k : ℕ). FirstWrong IsTooLong files (one ∷ others) k) (omega (arith, is)) (first_there IsTooLong files one others n wrong))
first-unfit files c one others Shelf are is = tt
first-unfit files c one others Memory are is = tt
first-unfit files c one others Usage are is = absurd is
first-unfit files c one others (Script fault) are is = absurd is
first-unfit files c one others (Rule refusal) are is = absurd is
first-unfit files c one others NotImage are is = absurd is
first-unfit files c one others (Unsound number) are is = absurd is

pub first_refused : (files : Option (List File)) (c : Command) (one : Wanted) (others : List Wanted) (refused : Refused) → files_of c ≡ one ∷ others → IfSome files (λ told. IsUnfit told 0 (one ∷ []) refused)
    → IfSome files (λ told. Prepared told c (Err refused))
first_refused None c one others refused are unfit = tt
first_refused (Some files) c one others refused are unfit = first-unfit files c one others refused are unfit

-- one of those behind it isn't
later-unfit : (files : List File) (c : Command) (one : Wanted) (text : List ℕ) (others : List Wanted) (refused : Refused) → files_of c ≡ one ∷ others → IsPresent files one text → IsUnfit files 1 others refused
    → IsCauseIn files c refused
later-unfit files c one text others (Absent number) are there (n, is, wrong) =
    let next : number ≡ suc n = omega (arith, is) in
    subst (λ (list : List Wanted). FirstWrong IsAbsent files list number) (sym are) (subst (λ (k : ℕ). FirstWrong IsAbsent files (one ∷ others) k) (sym next) (text, there, wrong))
later-unfit files c one text others (TooLong number) are there (n, is, wrong) =
    let next : number ≡ suc n = omega (arith, is) in
    subst (λ (list : List Wanted). FirstWrong IsTooLong files list number) (sym are) (subst (λ (k : ℕ). FirstWrong IsTooLong files (one ∷ others) k) (sym next) (text, there, wrong))
later-unfit files c one text others Shelf are there is = tt
later-unfit files c one text others Memory are there is = tt
later-unfit files c one text others Usage are there is = absurd is
later-unfit files c one text others (Script fault) are there is = absurd is
later-unfit files c one text others (Rule refusal) are there is = absurd is
later-unfit files c one text others NotImage are there is = absurd is
later-unfit files c one text others (Unsound number) are there is = absurd is

pub later_refused : (files later : Option (List File)) (c : Command) (one : Wanted) (text : List ℕ) (others : List Wanted) (refused : Refused)
    → files_of c ≡ one ∷ others → later ≡ files → IfSome files (λ told. IsPresent told one text) → IfSome later (λ told. IsUnfit told 1 others refused) → IfSome files (λ told. Prepared told c (Err refused))
later_refused None later c one text others refused are same first unfit = tt
later_refused (Some files) later c one text others refused are same first unfit =
    later-unfit files c one text others refused are first (now (Some files) later (λ told. IsUnfit told 1 others refused) same unfit)

-- of units alone one isn't
units-unfit : (files : List File) (c : Command) (refused : Refused) → IsUnfit files 0 (files_of c) refused → IsCauseIn files c refused
units-unfit files c (Absent number) (n, is, wrong) = subst (λ (k : ℕ). FirstWrong IsAbsent files (files_of c) k) (omega (arith, is)) wrong
units-unfit files c (TooLong number) (n, is, wrong) = subst (λ (k : ℕ). FirstWrong IsTooLong files (files_of c) k) (omega (arith, is)) wrong
units-unfit files c Shelf is = tt
units-unfit files c Memory is = tt
units-unfit files c Usage is = absurd is
units-unfit files c (Script fault) is = absurd is
units-unfit files c (Rule refusal) is = absurd is
units-unfit files c NotImage is = absurd is
units-unfit files c (Unsound number) is = absurd is

pub units_refused : (files : Option (List File)) (c : Command) (refused : Refused) → IfSome files (λ told. IsUnfit told 0 (files_of c) refused) → IfSome files (λ told. Prepared told c (Err refused))
units_refused None c refused unfit = tt
units_refused (Some files) c refused unfit = units-unfit files c refused unfit

-- so it is of each command
pub script_unfit : (files : Option (List File)) (script : List ℕ) (units : List (List ℕ)) (refused : Refused) → IfSome files (λ told. FetchesOne told 0 (text_named script) (Err refused))
    → IfSome files (λ told. Prepared told (Runs script units) (Err refused))
script_unfit files script units refused unfit = first_refused files (Runs script units) (text_named script) (map text_named units) refused refl unfit

pub unit_unfit : (files later : Option (List File)) (script : List ℕ) (units : List (List ℕ)) (text : List ℕ) (refused : Refused) → later ≡ files
    → IfSome files (λ told. IsPresent told (text_named script) text) → IfSome later (λ told. FetchesUnits told 1 units (Err refused)) → IfSome files (λ told. Prepared told (Runs script units) (Err refused))
unit_unfit files later script units text refused same first unfit = later_refused files later (Runs script units) (text_named script) text (map text_named units) refused refl same first unfit

pub built_unfit : (files : Option (List File)) (units : List (List ℕ)) (refused : Refused) → IfSome files (λ told. FetchesUnits told 0 units (Err refused))
    → IfSome files (λ told. Prepared told (Builds units) (Err refused))
built_unfit files units refused unfit = units_refused files (Builds units) refused unfit

pub exec_script_unfit : (files : Option (List File)) (script image : List ℕ) (refused : Refused) → IfSome files (λ told. FetchesOne told 0 (text_named script) (Err refused))
    → IfSome files (λ told. Prepared told (Executes script image) (Err refused))
exec_script_unfit files script image refused unfit = first_refused files (Executes script image) (text_named script) (image_named image ∷ []) refused refl unfit

pub image_unfit : (files later : Option (List File)) (script image : List ℕ) (text : List ℕ) (refused : Refused) → later ≡ files
    → IfSome files (λ told. IsPresent told (text_named script) text) → IfSome later (λ told. FetchesOne told 1 (image_named image) (Err refused)) → IfSome files (λ told. Prepared told (Executes script image) (Err refused))
image_unfit files later script image text refused same first unfit =
    later_refused files later (Executes script image) (text_named script) text (image_named image ∷ []) refused refl same first unfit

-- what a command is to do is what words are to do
of_words : (files : List File) (words : List (List ℕ)) (c : Command) (answer : Result Task Refused) → IsCommand words c → (IsErrOf answer Usage → ⊥) → Prepared files c answer → Told files words answer
of_words files words c (Ok t) form formed is = record { command = c; form = form; holds = is }
of_words files words c (Err Usage) form formed is = absurd is
of_words files words c (Err (Absent number)) form formed is = record { command = c; form = form; holds = is }
of_words files words c (Err (TooLong number)) form formed is = record { command = c; form = form; holds = is }
of_words files words c (Err (Script fault)) form formed is = record { command = c; form = form; holds = is }
of_words files words c (Err (Rule refusal)) form formed is = record { command = c; form = form; holds = is }
of_words files words c (Err NotImage) form formed is = record { command = c; form = form; holds = is }
of_words files words c (Err (Unsound number)) form formed is = record { command = c; form = form; holds = is }
of_words files words c (Err Shelf) form formed is = tt
of_words files words c (Err Memory) form formed is = tt

pub words_told : (files : Option (List File)) (words : List (List ℕ)) (c : Command) (answer : Result Task Refused) → IsCommand words c → (IsErrOf answer Usage → ⊥) → IfSome files (λ told. Prepared told c answer)
    → IfSome files (λ told. Told told words answer)
words_told None words c answer form formed is = tt
words_told (Some files) words c answer form formed is = of_words files words c answer form formed is

-- words that have a form are not refused for it
pub no_usage : (words : List (List ℕ)) (c : Command) (answer : Result Task Refused) → IsCommand words c → (IsErrOf answer Usage → ⊥) → IsErrOf answer Usage ↔ HasNoForm words
no_usage words c answer form formed = ((λ usage. absurd (formed usage)), (λ none. absurd (none c form)))
