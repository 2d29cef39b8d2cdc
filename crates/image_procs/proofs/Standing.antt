-- A process takes in the answers that wait, one by one.
use Rattle.std.specs.Prelude.{◌≡◌, ℕ, ◌-◌, ◌*◌, ◌≤◌, ◌<◌, ◌^◌, List, [], ◌∷◌, ◌++◌, length, Option, Some, None}
use Rattle.std.proofs.Common.{refl, sym, ap, subst, ◌∙◌, arith}
use Rattle.std.proofs.lemmas.List.{append-nil, append_assoc, map-append}
use Rattle.hal_values.specs.Answers.{Answered}
use Rattle.hal_values.specs.Fitting.{FitAll-push}
use Rattle.hal_values.specs.Loads.{Meaning, FitsNext, FitAll}
use Rattle.hal_code.specs.Cores.{Setting}
use Rattle.hal_code.specs.Courses.{Asked, setting_of, course, load_of}
use Rattle.hal_code.specs.Images.{first_of}
use Rattle.hal_code.specs.Machine.{after_answer}
use Rattle.hal_code.specs.declared.image.ImageParts.{ImageParts}
use Rattle.hal_sound_code.specs.Entries.{on_count}
use Rattle.hal_sound_code.proofs.Rights.{whole}
use Rattle.hal_right_values.specs.Finding.{HaveCells}
use Rattle.hal_right_values.specs.Ranges.{AreInRange}
use Rattle.hal_right_values.proofs.Bounds.{begin_within}
use Rattle.hal_machine.specs.Blocks.{HasAsMuch}
use Rattle.hal_runner.specs.declared.reply.Reply.{Reply}
use Rattle.hal_runner.specs.declared.runner.Runner.{Runner}
use Rattle.hal_runner.specs.Replies.{reply_seen}
use Rattle.hal_runner.specs.Runners.{asked_seen}
use Rattle.hal_runner.specs.Ways.{IsAmple, AnswerFits, ShapesFit, WayFits}
use Rattle.hal_right_ways.specs.Timed.{timed}
use Rattle.hal_right_ways.proofs.Turnless.{course_alike, timed_alike}
use Rattle.hal_right_ways.proofs.Ways.{answer_fits, answered_way, shapes_fit}
use Rattle.image_procs.specs.declared.load.ImageLoad.{ImageLoad}
use Rattle.exec_model.specs.Processes as processes
use Rattle.image_procs.specs.Courses.{CanRun, AllFit, IsAt, StandsAt, Parts, IsCourse}
use Rattle.image_procs.specs.Tellings.{answer_told, answers_told, replies_in}
use Rattle.image_procs.proofs.FittingLists.{front_fits, next_fits}

-- the machine can run each process of a right image
pub can_run : (load : ImageLoad) (p : ℕ) → HaveCells load.image → AreInRange load.image → length load.image.code < 2 ^ 64 → p < length load.image.processes → CanRun (setting_of load.turns load.image p)
can_run load p have ranged short exists = record {
  is = refl;
  right = load.right;
  cells = have;
  ranged = ranged;
  exists = exists;
  begin = below (first_of load.image p) (length load.image.code) (begin_within (setting_of load.turns load.image p) (whole load.image load.right) exists) short;
  few = load.few;
}
  where
    below : (n size : ℕ) → n < size → size < 2 ^ 64 → n < 2 ^ 64 - 1
    below n size within few = omega (arith, within, few)

pub shapes_run : (s : Setting) → CanRun s → ShapesFit s.image
shapes_run s run = shapes_fit s.image run.right

-- the next answer that waits, with its turns
record Next (a : Answered) (waiting : List Answered) (rest : List (Reply × ℕ)) : Type 0 where
  one : Reply × ℕ
  others : List (Reply × ℕ)
  is : rest ≡ one ∷ others
  same : a ≡ reply_seen one.0
  waits : waiting ≡ replies_in others

next_of : (a : Answered) (waiting : List Answered) (rest : List (Reply × ℕ)) → (a ∷ waiting) ≡ replies_in rest → Next a waiting rest
next_of a waiting [] e = absurd (cc)
next_of a waiting (one ∷ others) e = record { one = one; others = others; is = refl; same = cc; waits = cc }

module _ (s : Setting) (run : CanRun s) where
  abbrev q : Meaning
  q = load_of s.turns s.image

  -- after fitting answers
  answer_runs : (answers : List Answered) → FitAll q s.process answers → AnswerFits (course s answers).wait
  answer_runs answers fit =
      subst (λ (t : Setting). AnswerFits (course t answers).wait) (sym run.is) (answer_fits s.turns s.image s.process run.right run.ranged run.exists answers fit)

  way_runs : (answers : List Answered) (a : Answered) → FitAll q s.process answers → FitsNext q s.process answers a → WayFits s (after_answer s (course s answers).wait a (course s answers).core)
  way_runs answers a fit fits =
      subst (λ (t : Setting). WayFits t (after_answer t (course t answers).wait a (course t answers).core)) (sym run.is)
      (answered_way s.turns s.image s.process run.right run.ranged run.exists answers fit run.cells a fits)

  -- the same at what a runner asks, whatever turns the answer tells
  pub at_way : (one : Asked) (answers : List Answered) (turns : ℕ) (a : Answered) → one ≡ course s answers → FitAll q s.process answers → FitsNext q s.process answers (timed turns a) → WayFits s (after_answer s one.wait a one.core)
  at_way one answers turns a is fit fits =
      subst (λ (other : Asked). WayFits s (after_answer s other.wait a other.core)) (sym is)
      (subst (WayFits s) (timed_alike s (course s answers).wait turns a (course s answers).core) (way_runs answers (timed turns a) fit fits))

  module _ (told : List (Reply × ℕ)) (fit : AllFit s told) where
    fit_both : (taken rest : List (Reply × ℕ)) → told ≡ taken ++ rest → FitAll q s.process (answers_told taken ++ answers_told rest)
    fit_both taken rest whole = subst (FitAll q s.process) (ap answers_told whole ∙ map-append answer_told taken rest) fit

    taken_fits : (r : Runner) (waiting : List Answered) (at : IsAt s r waiting told) → FitAll q s.process (answers_told at.taken)
    taken_fits r waiting at = front_fits q s.process (answers_told at.taken) (answers_told at.rest) (fit_both at.taken at.rest at.whole)

    pub waits_fit : (r : Runner) (waiting : List Answered) → IsAt s r waiting told → AnswerFits (asked_seen s.image r).wait
    waits_fit r waiting at = subst (λ (one : Asked). AnswerFits one.wait) (sym at.is) (answer_runs (answers_told at.taken) (taken_fits r waiting at))

    next_told : (taken : List (Reply × ℕ)) (one : Reply × ℕ) (others : List (Reply × ℕ)) → told ≡ taken ++ (one ∷ others) → FitsNext q s.process (answers_told taken) (answer_told one)
    next_told taken one others whole = next_fits q s.process (answers_told taken) (answer_told one) (answers_told others) (fit_both taken (one ∷ others) whole)

    pub way_on : (r : Runner) (a : Answered) (waiting : List Answered) → IsAt s r (a ∷ waiting) told → WayFits s (after_answer s (asked_seen s.image r).wait a (asked_seen s.image r).core)
    way_on r a waiting at = of_next (next_of a waiting at.rest at.waits)
      where
        of_next : Next a waiting at.rest → WayFits s (after_answer s (asked_seen s.image r).wait a (asked_seen s.image r).core)
        of_next next =
            subst (λ (one : Answered). WayFits s (after_answer s (asked_seen s.image r).wait one (asked_seen s.image r).core)) (sym next.same)
            (at_way (asked_seen s.image r) (answers_told at.taken) next.one.1 (reply_seen next.one.0) at.is (taken_fits r (a ∷ waiting) at) (next_told at.taken next.one next.others (at.whole ∙ ap (λ (l : List (Reply × ℕ)). at.taken ++ l) next.is)))

    -- one answer more is taken in
    pub goes_on : (r after : Runner) (a : Answered) (waiting : List Answered) → IsAt s r (a ∷ waiting) told
        → ((answers : List Answered) → asked_seen s.image r ≡ course s answers → asked_seen s.image after ≡ course s (answers ++ (a ∷ []))) → after.machine.blocks.room ≡ r.machine.blocks.room → IsAt s after waiting told
    goes_on r after a waiting at goes same = of_next (next_of a waiting at.rest at.waits)
      where
        of_next : Next a waiting at.rest → IsAt s after waiting told
        of_next next = record {
          taken = at.taken ++ (next.one ∷ []);
          rest = next.others;
          whole = at.whole ∙ ap (λ (l : List (Reply × ℕ)). at.taken ++ l) next.is ∙ sym (append_assoc at.taken (next.one ∷ []) next.others);
          waits = next.waits;
          is = goes (answers_told at.taken) at.is
              ∙ ap (λ (one : Answered). course s (answers_told at.taken ++ (one ∷ []))) next.same
              ∙ sym (course_alike s (answers_told at.taken) next.one.1 (reply_seen next.one.0))
              ∙ ap (λ (answers : List Answered). course s answers) (sym (map-append answer_told at.taken (next.one ∷ [])));
          ample = subst (IsAmple s.image) (sym same) at.ample;
        }

-- where nothing waits, a runner took in all that was told
none_left : (rest : List (Reply × ℕ)) → [] ≡ replies_in rest → rest ≡ []
none_left [] e = refl
none_left (one ∷ others) e = absurd (cc)

pub took_all : (s : Setting) (r : Runner) (told : List (Reply × ℕ)) → IsAt s r [] told → asked_seen s.image r ≡ course s (answers_told told)
took_all s r told at =
    at.is
    ∙ ap (λ (l : List (Reply × ℕ)). course s (answers_told l)) (sym (at.whole ∙ ap (λ (l : List (Reply × ℕ)). at.taken ++ l) (none_left at.rest at.waits) ∙ append-nil at.taken))

-- a process before any answer
pub at_first : (s : Setting) (r : Runner) → asked_seen s.image r ≡ course s [] → IsAmple s.image r.machine.blocks.room → IsAt s r [] []
at_first s r is ample = record { taken = []; rest = []; whole = refl; waits = refl; is = is; ample = ample }

-- a process once more
pub at_copy : (s : Setting) (r copy : Runner) (waiting : List Answered) (told : List (Reply × ℕ)) → ((image : ImageParts) → asked_seen image copy ≡ asked_seen image r) → HasAsMuch r.machine.blocks.room copy.machine.blocks.room
    → IsAt s r waiting told → IsAt s copy waiting told
at_copy s r copy waiting told same room at = record {
  taken = at.taken;
  rest = at.rest;
  whole = at.whole;
  waits = at.waits;
  is = same s.image ∙ at.is;
  ample = (more (2 * length s.image.blocks) r.machine.blocks.room.blocks copy.machine.blocks.room.blocks at.ample.0 room.0, more (2 * on_count s.image.code) r.machine.blocks.room.entries copy.machine.blocks.room.entries at.ample.1 room.1);
}
  where
    more : (n a b : ℕ) → n < a → a ≤ b → n < b
    more n a b low few = omega (arith, low, few)

-- one answer more is told
at_more : (s : Setting) (r : Runner) (waiting : List Answered) (told : List (Reply × ℕ)) (one : Reply × ℕ) → IsAt s r waiting told → IsAt s r (waiting ++ (reply_seen one.0 ∷ [])) (told ++ (one ∷ []))
at_more s r waiting told one at = record {
  taken = at.taken;
  rest = at.rest ++ (one ∷ []);
  whole = ap (λ (l : List (Reply × ℕ)). l ++ (one ∷ [])) at.whole ∙ append_assoc at.taken at.rest (one ∷ []);
  waits = ap (λ (l : List Answered). l ++ (reply_seen one.0 ∷ [])) at.waits ∙ sym (map-append (λ (each : Reply × ℕ). reply_seen each.0) at.rest (one ∷ []));
  is = at.is;
  ample = at.ample;
}

stands_more : (s : Setting) (o : Option Runner) (waiting : List Answered) (told : List (Reply × ℕ)) (one : Reply × ℕ) → StandsAt s o waiting told → StandsAt s o (waiting ++ (reply_seen one.0 ∷ [])) (told ++ (one ∷ []))
stands_more s None waiting told one at = tt
stands_more s (Some r) waiting told one at = at_more s r waiting told one at

pub told_more : (s : Setting) (before : Parts) (one : Reply × ℕ) (look : Option processes.Look) (waiting : List Answered) (told : List (Reply × ℕ)) → IsCourse s before
    → FitsNext (load_of s.turns s.image) s.process (answers_told before.told) (answer_told one)
    → waiting ≡ before.waiting ++ (reply_seen one.0 ∷ []) → told ≡ before.told ++ (one ∷ [])
    → IsCourse s (record { runner = before.runner; waiting = waiting; told = told; look = look })
told_more s before one look waiting told course fits e f = record {
  fit = subst (AllFit s) (sym f)
      (subst (FitAll (load_of s.turns s.image) s.process) (sym (map-append answer_told before.told (one ∷ [])))
      (FitAll-push (load_of s.turns s.image) s.process (answers_told before.told) (answer_told one) course.fit fits));
  at = subst (λ (l : List Answered). StandsAt s before.runner l told) (sym e)
      (subst (λ (l : List (Reply × ℕ)). StandsAt s before.runner (before.waiting ++ (reply_seen one.0 ∷ [])) l) (sym f) (stands_more s before.runner before.waiting before.told one course.at));
}

-- the same of another process with these parts
pub stands_on : (s : Setting) (one other : Parts) → IsCourse s one → other.told ≡ one.told → StandsAt s other.runner other.waiting one.told → IsCourse s other
stands_on s one other course e at = record {
  fit = subst (AllFit s) (sym e) course.fit;
  at = subst (λ (l : List (Reply × ℕ)). StandsAt s other.runner other.waiting l) (sym e) at;
}
