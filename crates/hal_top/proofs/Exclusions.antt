-- No two causes stand together: which is told is determined.
use Rattle.std.proofs.Common.{◌≡◌, ◌∙◌, ℕ, zero, suc, List, [], ◌∷◌, Option, Some, None, refl, ap, ap₂, sym, subst, arith, length}
use Rattle.std.specs.Str.Lines.{lines}
use Rattle.hal_base.specs.Files.{File}
use Rattle.hal_base.specs.declared.refusal.Refusal.{Refusal}
use Rattle.hal_code.specs.declared.image.ImageParts.{ImageParts}
use Rattle.exec_model.specs.declared.script.ScriptLine.{ScriptLine}
use Rattle.hal_script.specs.declared.fault.ScriptFault.{ScriptFault}
use Rattle.hal_script.specs.ScriptTexts.{IsScriptOf, IsFault}
use Rattle.hal_script.proofs.OneReading.{IsFault-unique, IsScriptOf-excludes}
use Rattle.hal_grammar.specs.Units as units
use Rattle.hal_object.proofs.ImageLaws.{one_image}
use Rattle.hal_compile.specs.Compiling.{CanRun, image_fault}
use Rattle.hal_compile.proofs.Faultless.{runs_without_fault}
use Rattle.hal_compile.specs.Texts.{HasMeaning}
use Rattle.hal_compile.proofs.Meanings.{meaning_breaks_nothing}
use Rattle.hal_top.specs.CommandLine.{Command, Runs, Builds, Executes, Wanted, files_of}
use Rattle.hal_top.specs.Causes.{IsPresent, ArePresent, IsAbsent, IsTooLong, FirstWrong, FirstWrongIn, script_in, units_in, image_in, IsReadable, IsReady, FaultyIn, BrokenIn, HasBytes, IsBad, BadIn, WorkIn, BuildIn, ExecIn}

-- a file that is present is neither absent nor too long
pub present_not_absent : (files : List File) (one : Wanted) (bytes : List ℕ) → IsPresent files one bytes → IsAbsent files one → ⊥
present_not_absent files one bytes there gone = cc

pub present_not_long : (files : List File) (one : Wanted) (bytes : List ℕ) → IsPresent files one bytes → IsTooLong files one → ⊥
present_not_long files one bytes there (other, is, long) =
    let same : bytes ≡ other = cc in
    omega (arith, ap length same, there.1, long)

pub absent_not_long : (files : List File) (one : Wanted) → IsAbsent files one → IsTooLong files one → ⊥
absent_not_long files one gone (bytes, is, long) = cc

same_bytes : (files : List File) (one : Wanted) (bytes others : List ℕ) → IsPresent files one bytes → IsPresent files one others → bytes ≡ others
same_bytes files one bytes others (x, l) (y, m) = cc

pub same_texts : (files : List File) (wanted : List Wanted) (texts others : List (List ℕ)) → ArePresent files wanted texts → ArePresent files wanted others → texts ≡ others
same_texts files [] [] [] one other = refl
same_texts files [] (text ∷ texts) others one other = absurd one
same_texts files [] [] (text ∷ others) one other = absurd other
same_texts files (name ∷ names) [] others one other = absurd one
same_texts files (name ∷ names) (text ∷ texts) [] one other = absurd other
same_texts files (name ∷ names) (text ∷ texts) (also ∷ others) one other =
    ap₂ (λ (t : List ℕ) (ts : List (List ℕ)). t ∷ ts) (same_bytes files name text also one.0 other.0) (same_texts files names texts others one.1 other.1)

-- a way to be wrong that no present file has
pub record Excludes (Wrong : List File → Wanted → Type 0) : Type 0 where
  pub absurd_where : (files : List File) (one : Wanted) (bytes : List ℕ) → IsPresent files one bytes → Wrong files one → ⊥

-- where all files are fit none is wrong
pub none_among : (Wrong : List File → Wanted → Type 0) → Excludes Wrong → (files : List File) (wanted : List Wanted) (texts : List (List ℕ)) (number : ℕ) → ArePresent files wanted texts → FirstWrong Wrong files wanted number → ⊥
none_among Wrong excludes files [] texts number are w = absurd w
none_among Wrong excludes files (name ∷ names) [] number are w = absurd are
none_among Wrong excludes files (name ∷ names) (text ∷ texts) zero are w = excludes.absurd_where files name text are.0 w
none_among Wrong excludes files (name ∷ names) (text ∷ texts) (suc n) are w = none_among Wrong excludes files names texts n are.1 w.2

-- the first wrong file is one
pub same_first : (One Other : List File → Wanted → Type 0) → Excludes One → Excludes Other → (files : List File) (wanted : List Wanted) (m n : ℕ)
    → FirstWrong One files wanted m → FirstWrong Other files wanted n → (m ≡ n) × (one : Wanted) × One files one × Other files one
same_first One Other one other files [] m n x y = absurd x
same_first One Other one other files (name ∷ names) zero zero x y = (refl, name, x, y)
same_first One Other one other files (name ∷ names) zero (suc n) x y = absurd (one.absurd_where files name y.0 y.1 x)
same_first One Other one other files (name ∷ names) (suc m) zero x y = absurd (other.absurd_where files name x.0 x.1 y)
same_first One Other one other files (name ∷ names) (suc m) (suc n) x y =
    let inner = same_first One Other one other files names m n x.2 y.2 in
    (ap (λ k. suc k) inner.0, inner.1, inner.2, inner.3)

pub Excludes-absent : Excludes IsAbsent
Excludes-absent = record { absurd_where = present_not_absent }

pub Excludes-long : Excludes IsTooLong
Excludes-long = record { absurd_where = present_not_long }

-- what is there once is there once
same_some : {T : Type 0} (o : Option T) (x y : T) → o ≡ Some x → o ≡ Some y → x ≡ y
same_some o x y one other = cc

-- the script's first fault is one
pub faulty-unique : (files : List File) (c : Command) (f g : ScriptFault) → FaultyIn files f c → FaultyIn files g c → f ≡ g
faulty-unique files c f g x y =
    let texts = same_texts files (files_of c) x.texts y.texts x.present y.present in
    let script : x.script ≡ y.script = same_some (script_in c y.texts) x.script y.script (ap (script_in c) (sym texts) ∙ x.is_script) y.is_script in
    IsFault-unique (lines x.script) f g x.first (subst (λ (t : List ℕ). IsFault (lines t) g) (sym script) y.first)

-- and is no part of a script
not_readable : (o : Option (List ℕ)) (script : List ℕ) (fault : ScriptFault) → o ≡ Some script → IsFault (lines script) fault → IsReadable o → ⊥
not_readable None script fault is first read = cc
not_readable (Some text) script fault is first read =
    let same : text ≡ script = cc in
    IsScriptOf-excludes (lines script) read.0 fault (subst (λ (t : List ℕ). IsScriptOf (lines t) read.0) same read.1) first

pub faulty-not_ready : (files : List File) (c : Command) (fault : ScriptFault) (texts : List (List ℕ)) → FaultyIn files fault c → IsReady files c texts → ⊥
faulty-not_ready files c fault texts x ready =
    let same = same_texts files (files_of c) x.texts texts x.present ready.present in
    not_readable (script_in c texts) x.script fault (ap (script_in c) (sym same) ∙ x.is_script) x.first ready.read

-- where a script is read it is readable
readable : (o : Option (List ℕ)) (text : List ℕ) (script : List ScriptLine) → o ≡ Some text → IsScriptOf (lines text) script → IsReadable o
readable None text script is read = tt
readable (Some other) text script is read =
    let same : text ≡ other = cc in
    (script, subst (λ (t : List ℕ). IsScriptOf (lines t) script) same read)

no_script : (o : Option (List ℕ)) → o ≡ None → IsReadable o
no_script None is = tt
no_script (Some text) is = absurd (cc)

pub work-ready : (files : List File) (c : Command) (script : List ScriptLine) (set : List units.File) (x : WorkIn files script set c) → IsReady files c x.texts
work-ready files c script set x = record { present = x.present; read = readable (script_in c x.texts) x.script_text script x.is_script x.read }

pub build-ready : (files : List File) (c : Command) (set : List units.File) (x : BuildIn files set c) → IsReady files c x.texts
build-ready files c set x = record { present = x.present; read = no_script (script_in c x.texts) x.no_script }

pub exec-ready : (files : List File) (c : Command) (script : List ScriptLine) (image : ImageParts) (x : ExecIn files script image c) → IsReady files c x.texts
exec-ready files c script image x = record { present = x.present; read = readable (script_in c x.texts) x.script_text script x.is_script x.read }

-- units that break a rule have no meaning
pub broken-no_meaning : (files : List File) (c : Command) (refusal : Refusal) (set : List units.File) (texts units : List (List ℕ)) → BrokenIn files refusal c → ArePresent files (files_of c) texts
    → units_in c texts ≡ Some units → HasMeaning units set → ⊥
broken-no_meaning files c refusal set texts units x present are has =
    let same = same_texts files (files_of c) texts x.texts present x.ready.present in
    let given : units ≡ x.units = same_some (units_in c x.texts) units x.units (ap (units_in c) (sym same) ∙ are) x.are_units in
    meaning_breaks_nothing x.units set refusal (subst (λ (list : List (List ℕ)). HasMeaning list set) given has) x.broken

-- a command names units or an image
pub not_both : (c : Command) (texts others units : List (List ℕ)) (bytes : List ℕ) → units_in c texts ≡ Some units → image_in c others ≡ Some bytes → ⊥
not_both (Runs script names) texts others units bytes are is = absurd (cc)
not_both (Builds names) texts others units bytes are is = absurd (cc)
not_both (Executes script image) texts others units bytes are is = absurd (cc)

-- and a script or none
pub script_or_none : (c : Command) (texts : List (List ℕ)) (text : List ℕ) → script_in c texts ≡ None → script_in c texts ≡ Some text → ⊥
script_or_none c texts text none is = cc

-- bytes are those of one image
same_image : (bytes : List ℕ) (one other : ImageParts) → HasBytes one bytes → HasBytes other bytes → one ≡ other
same_image bytes one other x y = one_image one other x.spelled.fits y.spelled.fits (sym x.are ∙ y.are)

bad_bytes : (bytes : List ℕ) (f g : Option ℕ) → IsBad bytes f → IsBad bytes g → f ≡ g
bad_bytes bytes None None x y = refl
bad_bytes bytes None (Some n) x y = absurd (x y.0 y.1)
bad_bytes bytes (Some m) None x y = absurd (y x.0 x.1)
bad_bytes bytes (Some m) (Some n) x y = sym x.2 ∙ ap image_fault (same_image bytes x.0 y.0 x.1 y.1) ∙ y.2

-- what is wrong with an image is one thing
pub bad-unique : (files : List File) (c : Command) (f g : Option ℕ) → BadIn files f c → BadIn files g c → f ≡ g
bad-unique files c f g x y =
    let texts = same_texts files (files_of c) x.texts y.texts x.ready.present y.ready.present in
    let same : x.bytes ≡ y.bytes = same_some (image_in c y.texts) x.bytes y.bytes (ap (image_in c) (sym texts) ∙ x.is_image) y.is_image in
    bad_bytes y.bytes f g (subst (λ (b : List ℕ). IsBad b f) same x.bad) y.bad

bad_runs : (bytes : List ℕ) (fault : Option ℕ) (image : ImageParts) → IsBad bytes fault → HasBytes image bytes → CanRun image → ⊥
bad_runs bytes None image bad spelled runs = bad image spelled
bad_runs bytes (Some n) image bad spelled runs =
    let same = same_image bytes bad.0 image bad.1 spelled in
    let fault : image_fault image ≡ Some n = ap image_fault (sym same) ∙ bad.2 in
    let none : image_fault image ≡ None = runs_without_fault image runs in
    absurd (cc)

-- and one that can run has nothing wrong
pub bad-no_exec : (files : List File) (c : Command) (fault : Option ℕ) (script : List ScriptLine) (image : ImageParts) → BadIn files fault c → ExecIn files script image c → ⊥
bad-no_exec files c fault script image x y =
    let texts = same_texts files (files_of c) x.texts y.texts x.ready.present y.present in
    let same : x.bytes ≡ y.bytes = same_some (image_in c y.texts) x.bytes y.bytes (ap (image_in c) (sym texts) ∙ x.is_image) y.is_image in
    bad_runs y.bytes fault image (subst (λ (b : List ℕ). IsBad b fault) same x.bad) y.read_from y.runs
