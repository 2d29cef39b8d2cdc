-- Data with own places stand around no process but their own.
use Rattle.std.specs.Prelude.{◌≡◌, ◌⊎◌, ◌==◌, ℕ, Bool, true, false, List, [], ◌∷◌, Option, Some, None, slice_get, if◌then◌else◌}
use Rattle.std.specs.Option.{option_and_then}
use Rattle.std.specs.List.{list_any}
use Rattle.std.proofs.Common.{refl, sym, ap, subst, ◌∙◌, inl, inr}
use Rattle.std.proofs.lemmas.Bool.{and_from, eq-eqb, or_left, or_right}
use Rattle.hal_base.specs.declared.refusal.Place.{Place}
use Rattle.hal_grammar.specs.Units.{Program, Task, File}
use Rattle.hal_phrases.specs.Phrases.{Node, Phrase, OfUnit}
use Rattle.hal_phrases.specs.GatheredUnits.{phrases_of}
use Rattle.hal_names.specs.Tasks.{is_task, is_task_in}
use Rattle.hal_scope.specs.Rules.{IsAmong, IsSound, rows, ruled}
use Rattle.hal_scope.specs.Uses.{unless}
use Rattle.hal_constants.specs.Known.{Known}
use Rattle.hal_types.specs.Rules.{type_rows}
use Rattle.hal_meaning.specs.Bodies.{is_called, is_process, is_unit, processes_of}
use Rattle.hal_meaning.specs.Places.{shares_at, storing}
use Rattle.hal_meaning.specs.Sets.{is_program, is_program_at}
use Rattle.hal_reach.specs.Places.{is_among}
use Rattle.hal_calls.specs.Placed.{misplaced, task_at, task_head}
use Rattle.hal_calls.specs.Rules.{call_rows}
use Rattle.hal_fit_layout.proofs.Called.{from_member}
use Rattle.hal_right_images.specs.rows.Homes.{Encloses, IsOpenUnit, IsOuter, IsUnit, IsFile, ItemsStandForData, StandsDirect, StandsPlaced}
use Rattle.hal_right_images.proofs.rows.Alone.{each_at}
use Rattle.hal_right_images.proofs.rows.Calling.{placed}
use Rattle.hal_right_images.proofs.rows.GroupingFiles.{all_grouped}
use Rattle.hal_right_images.proofs.rows.HomingFiles.{all_home}
use Rattle.hal_right_images.proofs.rows.LookingUp.{LooksUp}
use Rattle.hal_right_images.proofs.rows.Rules.{among_at, ruled_none, unbroken}
use Rattle.hal_right_images.proofs.rows.Visible.{IsFileAt, not_in_file, outward}
use Rattle.hal_right_images.specs.views.Placed.{keeps_own, ProgramsStandAlone}
use Rattle.hal_right_images.proofs.views.Outside.{kept_unless, none_kept, stands_outside}

-- a process is a PROGRAM or a TASK
by_sort : (node : Node) → is_process node ≡ true → (is_program node ≡ true) ⊎ (is_task node ≡ true)
by_sort (OfUnit name (Program place) declarations) is = inl refl
by_sort (OfUnit name (Task place) declarations) is = inr refl
by_sort other is = absurd (cc)

process_unit : (node : Node) → is_process node ≡ true → is_unit node ≡ true
process_unit (OfUnit name head declarations) is = refl
process_unit other is = absurd (cc)

program_unit : (node : Node) → is_program node ≡ true → is_unit node ≡ true
program_unit (OfUnit name head declarations) is = refl
program_unit other is = absurd (cc)

program_bare : (node : Node) → is_program node ≡ true → is_called node ≡ false
program_bare (OfUnit name (Program place) declarations) is = refl
program_bare other is = absurd (cc)

-- a PROGRAM with a TASK in it shares its data
program_shares : (ps : List Phrase) (unit : ℕ) (node : Node) → is_program node ≡ true → list_any (is_task_in unit) ps ≡ true → shares_at ps unit node ≡ true
program_shares ps unit (OfUnit name (Program place) declarations) is any = any
program_shares ps unit other is any = absurd (cc)

task_any : (ps : List Phrase) (unit : ℕ) (q : Phrase) → IsAmong q ps → is_task q.node ≡ true → q.around.home ≡ unit → list_any (is_task_in unit) ps ≡ true
task_any [] unit q among task home = absurd among
task_any (p ∷ ps) unit q (inl same) task home =
    or_left (is_task_in unit p) (list_any (is_task_in unit) ps) (subst (λ (x : Phrase). is_task_in unit x ≡ true) same (and_from (is_task q.node) (q.around.home == unit) task (eq-eqb q.around.home unit home)))
task_any (p ∷ ps) unit q (inr later) task home = or_right (is_task_in unit p) (list_any (is_task_in unit) ps) (task_any ps unit q later task home)

tasked : (node : Node) → is_task node ≡ true → (place : Place) × (task_at node ≡ Some place)
unfolding task_at task_head
tasked (OfUnit name (Task place) declarations) is = (place, refl)
tasked other is = absurd (cc)

-- a phrase that is a PROGRAM
record IsProgramAt (ps : List Phrase) (k : ℕ) : Type 0 where
  phrase : Phrase
  there : slice_get ps k ≡ Some phrase
  is : is_program phrase.node ≡ true

program_at : (ps : List Phrase) (k : ℕ) → is_program_at ps k ≡ true → IsProgramAt ps k
program_at ps k is = by (slice_get ps k) refl is where
  by : (o : Option Phrase) → slice_get ps k ≡ o → elim o [ None ↦ false | Some p ↦ is_program p.node ] ≡ true → IsProgramAt ps k
  by None there so = absurd (cc)
  by (Some p) there so = record { phrase = p; there = there; is = so }

module _ (files : List File) (looks : LooksUp (phrases_of files)) (sound : IsSound rows (phrases_of files)) (typed : IsSound type_rows (phrases_of files)) (called : IsSound call_rows (phrases_of files))
    (items : ItemsStandForData (phrases_of files)) (programs : ProgramsStandAlone (phrases_of files)) where
  abbrev ps : List Phrase
  ps = phrases_of files

  abbrev File_at : ℕ → Type 0
  File_at k = IsFileAt ps looks (all_home files) items k

  record IsProcessAt (k : ℕ) : Type 0 where
    phrase : Phrase
    there : slice_get ps k ≡ Some phrase
    is : is_process phrase.node ≡ true

  process_by : (k n : ℕ) (p : Phrase) → slice_get ps n ≡ Some p → (b : Bool) → is_process p.node ≡ b → (if b then Some p.number else None) ≡ Some k → IsProcessAt k
  process_by k n p there true is gives = let number : p.number ≡ k = cc in record { phrase = p; there = ap (slice_get ps) (sym number ∙ looks.counted n p there) ∙ there; is = is }
  process_by k n p there false is gives = absurd (cc)

  process_at : (k : ℕ) → is_among (processes_of ps) k ≡ true → IsProcessAt k
  process_at k process =
      let at = placed (processes_of ps) k process in
      let found = from_member (λ (p : Phrase). if is_process p.node then Some p.number else None) ps at.0 k at.1 in
      process_by k found.place found.member found.there (is_process found.member.node) refl found.gives

  stands_so : (k : ℕ) (q : Phrase) → slice_get ps k ≡ Some q → is_unit q.node ≡ true → StandsDirect ps q
  stands_so k q there unit = (each_at (StandsPlaced ps) ps k q (all_grouped files) there).1 unit

  program_file : (k : ℕ) (q : Phrase) → slice_get ps k ≡ Some q → is_program q.node ≡ true → File_at q.around.home
  program_file k q there program = by (stands_so k q there (program_unit q.node program)).outer where
    by : IsOuter ps q.around.home → File_at q.around.home
    by (IsUnit g at unit) = absurd (programs k q there program g at unit)
    by (IsFile g prefaces at some) = record { phrase = g; there = at; prefaces = prefaces; is = some }

  -- no unit stands around a PROGRAM
  around_program : (u k : ℕ) (q : Phrase) → IsOpenUnit ps u → slice_get ps k ≡ Some q → is_program q.node ≡ true → Encloses ps u k → u ≡ k
  around_program u k q outer there program around = by (outward ps looks (all_home files) items u k q there around) where
    by : (u ≡ k) ⊎ Encloses ps u q.around.block → u ≡ k
    by (inl same) = same
    by (inr beyond) =
        absurd (not_in_file ps looks (all_home files) items u q.around.home outer (program_file k q there program)
        (subst (λ n. Encloses ps u n) (stands_so k q there (program_unit q.node program)).direct beyond))

  -- rule 904
  in_program : (q : Phrase) → IsAmong q ps → is_task q.node ≡ true → is_program_at ps q.around.home ≡ true
  unfolding call_rows
  in_program q within task =
      let at = tasked q.node task in
      kept_unless (is_program_at ps q.around.home) at.0
      (sym (ap (option_and_then (λ (place : Place). unless (is_program_at ps q.around.home) place)) at.1)
      ∙ ruled_none 904 (misplaced ps q) (unbroken call_rows ps called q within (λ qs p. ruled 904 (misplaced qs p)) (inr (inr (inr (inl refl))))))

  pub stands_inner : (vs : Known) (m : ℕ) (p : Phrase) (k : ℕ) → slice_get ps m ≡ Some p → keeps_own (storing ps vs p p.node) ≡ true → is_among (processes_of ps) k ≡ true → Encloses ps p.around.home k → p.around.home ≡ k
  stands_inner vs m p k at keeps process around = by (by_sort one.phrase.node one.is) where
    one : IsProcessAt k
    one = process_at k process

    outer : IsOpenUnit ps p.around.home
    outer = stands_outside files looks sound typed vs m p at keeps

    task_case : is_task one.phrase.node ≡ true → (p.around.home ≡ k) ⊎ Encloses ps p.around.home one.phrase.around.block → p.around.home ≡ k
    task_case task (inl same) = same
    task_case task (inr beyond) =
        let within = among_at ps k one.phrase one.there in
        let program = program_at ps one.phrase.around.home (in_program one.phrase within task) in
        let moved = subst (λ n. Encloses ps p.around.home n) (stands_so k one.phrase one.there (process_unit one.phrase.node one.is)).direct beyond in
        let home = around_program p.around.home one.phrase.around.home program.phrase outer program.there program.is moved in
        absurd (none_kept files looks sound typed vs m p at program.phrase (ap (slice_get ps) home ∙ program.there) (program_unit program.phrase.node program.is) (program_bare program.phrase.node program.is)
        (program_shares ps p.around.home program.phrase.node program.is (task_any ps p.around.home one.phrase within task (sym home))) keeps)

    by : (is_program one.phrase.node ≡ true) ⊎ (is_task one.phrase.node ≡ true) → p.around.home ≡ k
    by (inl program) = around_program p.around.home k one.phrase outer one.there program around
    by (inr task) = task_case task (outward ps looks (all_home files) items p.around.home k one.phrase one.there around)
