-- What refusals of scripts, units and images are of tasks.
use Rattle.std.proofs.Common.{◌≡◌, ℕ, List, Result, Ok, Err, subst}
use Rattle.hal_code.specs.declared.image.ImageParts.{ImageParts}
use Rattle.exec_model.specs.declared.script.ScriptLine.{ScriptLine}
use Rattle.hal_top.specs.declared.prepare.Task.{Task}
use Rattle.hal_top.specs.declared.refused.Refused.{Refused}
use Rattle.hal_top.specs.declared.refused.Refused.TheVariants.{Usage, Absent, TooLong, Script, Rule, NotImage, Unsound, Shelf, Memory}
use Rattle.hal_top.specs.Works.{IsScriptIn, IsImageOfUnits, IsImageIn, RunsTo, BuildsTo, ExecutesTo}

abbrev unread : Refused → Result (List ScriptLine) Refused
unread refused = Err refused

abbrev unmade : Refused → Result ImageParts Refused
unmade refused = Err refused

abbrev undone : Refused → Result Task Refused
undone refused = Err refused

-- a script that can't be read, and units that break a rule
pub run_unread : (text : List ℕ) (units : List (List ℕ)) (refused : Refused) → IsScriptIn text (unread refused) → RunsTo text units (undone refused)
run_unread text units Usage is = absurd is
run_unread text units (Absent number) is = absurd is
run_unread text units (TooLong number) is = absurd is
run_unread text units (Script fault) is = is
run_unread text units (Rule refusal) is = absurd is
run_unread text units NotImage is = absurd is
run_unread text units (Unsound number) is = absurd is
run_unread text units Shelf is = absurd is
run_unread text units Memory is = tt

pub run_broken : (text : List ℕ) (units : List (List ℕ)) (script : List ScriptLine) (refused : Refused) → IsScriptIn text (Ok script) → IsImageOfUnits units (unmade refused) → RunsTo text units (undone refused)
run_broken text units script Usage read is = absurd is
run_broken text units script (Absent number) read is = absurd is
run_broken text units script (TooLong number) read is = absurd is
run_broken text units script (Script fault) read is = absurd is
run_broken text units script (Rule refusal) read is = ((script, read), is)
run_broken text units script NotImage read is = absurd is
run_broken text units script (Unsound number) read is = absurd is
run_broken text units script Shelf read is = absurd is
run_broken text units script Memory read is = tt

pub build_broken : (units : List (List ℕ)) (refused : Refused) → IsImageOfUnits units (unmade refused) → BuildsTo units (undone refused)
build_broken units Usage is = absurd is
build_broken units (Absent number) is = absurd is
build_broken units (TooLong number) is = absurd is
build_broken units (Script fault) is = absurd is
build_broken units (Rule refusal) is = is
build_broken units NotImage is = absurd is
build_broken units (Unsound number) is = absurd is
build_broken units Shelf is = absurd is
build_broken units Memory is = tt

-- and an image that can't run
pub exec_unread : (text bytes : List ℕ) (refused : Refused) → IsScriptIn text (unread refused) → ExecutesTo text bytes (undone refused)
exec_unread text bytes Usage is = absurd is
exec_unread text bytes (Absent number) is = absurd is
exec_unread text bytes (TooLong number) is = absurd is
exec_unread text bytes (Script fault) is = is
exec_unread text bytes (Rule refusal) is = absurd is
exec_unread text bytes NotImage is = absurd is
exec_unread text bytes (Unsound number) is = absurd is
exec_unread text bytes Shelf is = absurd is
exec_unread text bytes Memory is = tt

pub exec_bad : (text bytes : List ℕ) (script : List ScriptLine) (refused : Refused) → IsScriptIn text (Ok script) → IsImageIn bytes (unmade refused) → ExecutesTo text bytes (undone refused)
exec_bad text bytes script Usage read is = absurd is
exec_bad text bytes script (Absent number) read is = absurd is
exec_bad text bytes script (TooLong number) read is = absurd is
exec_bad text bytes script (Script fault) read is = absurd is
exec_bad text bytes script (Rule refusal) read is = absurd is
exec_bad text bytes script NotImage read is = ((script, read), is)
exec_bad text bytes script (Unsound number) read is = ((script, read), is)
exec_bad text bytes script Shelf read is = absurd is
exec_bad text bytes script Memory read is = tt

-- none of them is told of the words or of the shelf
pub script_not_usage : (text : List ℕ) (refused : Refused) → IsScriptIn text (unread refused) → refused ≡ Usage → ⊥
script_not_usage text refused is same = subst (λ (why : Refused). IsScriptIn text (unread why)) same is

pub script_not_shelf : (text : List ℕ) (refused : Refused) → IsScriptIn text (unread refused) → refused ≡ Shelf → ⊥
script_not_shelf text refused is same = subst (λ (why : Refused). IsScriptIn text (unread why)) same is

pub units_not_usage : (units : List (List ℕ)) (refused : Refused) → IsImageOfUnits units (unmade refused) → refused ≡ Usage → ⊥
units_not_usage units refused is same = subst (λ (why : Refused). IsImageOfUnits units (unmade why)) same is

pub units_not_shelf : (units : List (List ℕ)) (refused : Refused) → IsImageOfUnits units (unmade refused) → refused ≡ Shelf → ⊥
units_not_shelf units refused is same = subst (λ (why : Refused). IsImageOfUnits units (unmade why)) same is

pub image_not_usage : (bytes : List ℕ) (refused : Refused) → IsImageIn bytes (unmade refused) → refused ≡ Usage → ⊥
image_not_usage bytes refused is same = subst (λ (why : Refused). IsImageIn bytes (unmade why)) same is

pub image_not_shelf : (bytes : List ℕ) (refused : Refused) → IsImageIn bytes (unmade refused) → refused ≡ Shelf → ⊥
image_not_shelf bytes refused is same = subst (λ (why : Refused). IsImageIn bytes (unmade why)) same is
