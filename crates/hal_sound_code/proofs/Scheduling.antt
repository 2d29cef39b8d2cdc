-- What is asked with the operands of real-time instructions fits.
use Rattle.std.specs.Prelude.{ℕ, suc, ◌<◌, ◌≡◌, length, Bool, true, ◌&&◌, List, ℤ, Some, if◌then◌else◌}
use Rattle.std.specs.Option.{option_and_then}
use Rattle.std.proofs.Common.{sym, ap, subst, ◌∙◌, arith}
use Rattle.std.proofs.lemmas.Bool.{and_parts}
use Rattle.hal_values.specs.declared.plan.When.{When}
use Rattle.hal_values.specs.declared.plan.Guard.{Guard}
use Rattle.hal_values.specs.declared.plan.Pause.{Pause}
use Rattle.hal_values.specs.declared.request.Request.{Request}
use Rattle.hal_values.specs.declared.request.Request.TheVariants as request
use Rattle.hal_values.specs.Answers.{error}
use Rattle.hal_states.specs.Times.{nearest_priority, is_priority, Again, cycle_of, plan_of}
use Rattle.hal_code.specs.declared.choice.Choice.{Choice}
use Rattle.hal_code.specs.declared.choice.Choice.TheVariants as choice
use Rattle.hal_code.specs.declared.operand.Delay.{Delay}
use Rattle.hal_code.specs.declared.operand.Limit.{Limit}
use Rattle.hal_code.specs.declared.operand.Round.{Round}
use Rattle.hal_code.specs.declared.operand.Start.{Start}
use Rattle.hal_code.specs.Asking.{Taken, start_taken, priority_taken, round_taken, limit_taken, delay_taken, scheduled, with_start, with_priority, with_round, with_limit, act_schedule, named, act_named, prioritized, act_priority, waited, act_wait}
use Rattle.hal_code.specs.Cores.{Operand, Setting, Core, going, Tries, Plans, Tried}
use Rattle.hal_code.specs.Effects.{Sorts, integers_taken, start_sorts, priority_sorts, round_sorts, limit_sorts, scheduled_sorts, delay_sorts}
use Rattle.hal_code.specs.Images.{tables_of}
use Rattle.hal_code.specs.Operands.{is_known, is_process, is_named, is_start, is_round, is_limit, is_delay}
use Rattle.hal_code.specs.Raising.{stuck, made_if}
use Rattle.hal_sound_code.specs.Lying.{sorts_of, AllLead}
use Rattle.hal_sound_code.specs.Typed.{IsAsked}
use Rattle.hal_sound_code.proofs.Computing.{Onward}
use Rattle.hal_sound_code.proofs.Raising.{Typed-planned, Typed-raised_before}
use Rattle.hal_sound_code.proofs.Stepping.{Well, Typed, awaits, goes_on, either}
use Rattle.hal_sound_code.proofs.Taking.{some_is, then_taken, Top, top_of}
use Rattle.hal_sound_code.proofs.Times.{Takes, start_takes, priority_takes, round_takes, limit_takes, delay_takes, process_there, named_there}

module _ (s : Setting) (most : ℕ) (same : s.tables ≡ tables_of s.image) where
  -- SCHEDULE
  Typed-scheduled : (p : ℕ) (starts : When) (n : ℤ) (dependent : Bool) (again : Again) (until : Guard) (c : Core) → Well s most c → Typed s most (scheduled s p starts n dependent again until c)
  Typed-scheduled p starts n dependent again until c well =
      either s most (is_priority n) _ _ (λ is. Typed-planned s most _ again c well) (λ is. Typed-raised_before s most (error 2 4) (Plans (plan_of p starts (nearest_priority n) dependent (cycle_of again) until) again) c (omega arith) well tt)

  Typed-start : (p : ℕ) (n : ℤ) (dependent : Bool) (again : Again) (until : Guard) (taken : Taken When) (c : Core) (after : Sorts) → Onward s most c after → Takes s When taken after → Typed s most (with_start s p n dependent again until taken c)
  Typed-start p n dependent again until taken c after on t =
      subst (λ o. Typed s most (with_start s p n dependent again until o c)) (sym t.is) (Typed-scheduled p t.got n dependent again until (going (suc c.at) t.rest c) (on t.rest t.lead t.sorts))

  Typed-priority_taken : (p : ℕ) (begins : Start) (dependent : Bool) (again : Again) (until : Guard) (taken : Taken ℤ) (c : Core) (left after : Sorts) → Onward s most c after → is_start s.image begins ≡ true → start_sorts begins left ≡ Some after → Takes s ℤ taken left
      → Typed s most (with_priority s p begins dependent again until taken c)
  Typed-priority_taken p begins dependent again until taken c left after on there e t =
      subst (λ o. Typed s most (with_priority s p begins dependent again until o c)) (sym t.is)
      (Typed-start p t.got dependent again until (start_taken s.tables begins t.rest) c after on (start_takes s same begins t.rest after t.lead there (ap (start_sorts begins) t.sorts ∙ e)))

  Typed-round : (p : ℕ) (begins : Start) (prio : Choice Bool) (dependent : Bool) (until : Guard) (taken : Taken Again) (c : Core) (left after : Sorts) → Onward s most c after → is_start s.image begins ≡ true → is_known prio ≡ true
      → option_and_then (start_sorts begins) (priority_sorts prio left) ≡ Some after → Takes s Again taken left → Typed s most (with_round s p begins prio dependent until taken c)
  Typed-round p begins prio dependent until taken c left after on there known e t = given (then_taken (start_sorts begins) (priority_sorts prio left) after e)
    where
      given : (one : Sorts) × (priority_sorts prio left ≡ Some one) × (start_sorts begins one ≡ Some after) → Typed s most (with_round s p begins prio dependent until taken c)
      given one =
          subst (λ o. Typed s most (with_round s p begins prio dependent until o c)) (sym t.is)
          (Typed-priority_taken p begins dependent t.got until (priority_taken prio t.rest) c one.0 after on there one.2 (priority_takes s same prio t.rest one.0 t.lead known (ap (priority_sorts prio) t.sorts ∙ one.1)))

  Typed-limit : (p : ℕ) (begins : Start) (prio dependent : Choice Bool) (again : Round) (taken : Taken Guard) (c : Core) (left after : Sorts) → Onward s most c after → is_start s.image begins ≡ true → is_known prio ≡ true → is_known dependent ≡ true → is_round again ≡ true
      → option_and_then (start_sorts begins) (option_and_then (priority_sorts prio) (round_sorts again left)) ≡ Some after → Takes s Guard taken left → Typed s most (with_limit s p begins prio dependent again taken c)
  Typed-limit p begins prio (choice.Known dependent) again taken c left after on there known also rounds e t =
      given (then_taken (start_sorts begins) (option_and_then (priority_sorts prio) (round_sorts again left)) after e)
    where
      after_round : (two : Sorts) → (start_sorts begins two ≡ Some after) → (one : Sorts) × (round_sorts again left ≡ Some one) × (priority_sorts prio one ≡ Some two) → Typed s most (with_limit s p begins prio (choice.Known dependent) again taken c)
      after_round two is one =
          subst (λ o. Typed s most (with_limit s p begins prio (choice.Known dependent) again o c)) (sym t.is)
          (Typed-round p begins prio dependent t.got (round_taken again t.rest) c one.0 after on there known (ap (option_and_then (start_sorts begins)) one.2 ∙ is) (round_takes s same again t.rest one.0 t.lead rounds (ap (round_sorts again) t.sorts ∙ one.1)))

      given : (two : Sorts) × (option_and_then (priority_sorts prio) (round_sorts again left) ≡ Some two) × (start_sorts begins two ≡ Some after) → Typed s most (with_limit s p begins prio (choice.Known dependent) again taken c)
      given two = after_round two.0 two.2 (then_taken (priority_sorts prio) (round_sorts again left) two.0 two.1)
  Typed-limit p begins prio (choice.Other byte) again taken c left after on there known also rounds e t = absurd (cc)

  pub Typed-schedule : (p : ℕ) (begins : Start) (prio dependent : Choice Bool) (again : Round) (until : Limit) (c : Core) (after : Sorts) → Onward s most c after → AllLead s c.stack
      → ((is_process s.image p && (is_start s.image begins && is_known prio)) && (is_known dependent && (is_round again && is_limit s.image until))) ≡ true → scheduled_sorts begins prio again until (sorts_of c.stack) ≡ Some after
      → Typed s most (act_schedule s p begins prio dependent again until c)
  Typed-schedule p begins prio dependent again until c after on lead right e = given (then_taken (start_sorts begins) _ after e)
    where
      front : (is_process s.image p && (is_start s.image begins && is_known prio)) ≡ true
      front = (and_parts (is_process s.image p && (is_start s.image begins && is_known prio)) (is_known dependent && (is_round again && is_limit s.image until)) right).0

      rest : (is_known dependent && (is_round again && is_limit s.image until)) ≡ true
      rest = (and_parts (is_process s.image p && (is_start s.image begins && is_known prio)) (is_known dependent && (is_round again && is_limit s.image until)) right).1

      from_limit : (left : Sorts) → limit_sorts until (sorts_of c.stack) ≡ Some left → option_and_then (start_sorts begins) (option_and_then (priority_sorts prio) (round_sorts again left)) ≡ Some after → Typed s most (act_schedule s p begins prio dependent again until c)
      from_limit left is h =
          subst (λ b. Typed s most (if b then with_limit s p begins prio dependent again (limit_taken s.tables until c.stack) c else stuck c)) (sym (process_there s same p (and_parts (is_process s.image p) (is_start s.image begins && is_known prio) front).0))
          (Typed-limit p begins prio dependent again (limit_taken s.tables until c.stack) c left after on (and_parts (is_start s.image begins) (is_known prio) (and_parts (is_process s.image p) (is_start s.image begins && is_known prio) front).1).0
          (and_parts (is_start s.image begins) (is_known prio) (and_parts (is_process s.image p) (is_start s.image begins && is_known prio) front).1).1 (and_parts (is_known dependent) (is_round again && is_limit s.image until) rest).0
          (and_parts (is_round again) (is_limit s.image until) (and_parts (is_known dependent) (is_round again && is_limit s.image until) rest).1).0 h
          (limit_takes s same until c.stack left lead (and_parts (is_round again) (is_limit s.image until) (and_parts (is_known dependent) (is_round again && is_limit s.image until) rest).1).1 is))

      after_limit : (two one : Sorts) → start_sorts begins two ≡ Some after → priority_sorts prio one ≡ Some two → (left : Sorts) × (limit_sorts until (sorts_of c.stack) ≡ Some left) × (round_sorts again left ≡ Some one) → Typed s most (act_schedule s p begins prio dependent again until c)
      after_limit two one is also left = from_limit left.0 left.1 (ap (λ o. option_and_then (start_sorts begins) (option_and_then (priority_sorts prio) o)) left.2 ∙ ap (option_and_then (start_sorts begins)) also ∙ is)

      after_round : (two : Sorts) → start_sorts begins two ≡ Some after → (one : Sorts) × (option_and_then (round_sorts again) (limit_sorts until (sorts_of c.stack)) ≡ Some one) × (priority_sorts prio one ≡ Some two) → Typed s most (act_schedule s p begins prio dependent again until c)
      after_round two is one = after_limit two one.0 is one.2 (then_taken (round_sorts again) (limit_sorts until (sorts_of c.stack)) one.0 one.1)

      given : (two : Sorts) × (option_and_then (priority_sorts prio) (option_and_then (round_sorts again) (limit_sorts until (sorts_of c.stack))) ≡ Some two) × (start_sorts begins two ≡ Some after) → Typed s most (act_schedule s p begins prio dependent again until c)
      given two = after_round two.0 two.2 (then_taken (priority_sorts prio) (option_and_then (round_sorts again) (limit_sorts until (sorts_of c.stack))) two.0 two.1)

  module _ (exists : s.process < length s.image.processes) where
    -- CANCEL and TERMINATE
    pub Typed-named : (asks : ℕ → Request) (p : ℕ) (c : Core) → ((q : ℕ) → IsAsked (asks q)) → is_named s.image p ≡ true → Well s most (going (suc c.at) c.stack c) → Typed s most (act_named s asks p c)
    Typed-named asks p c asked right well =
        subst (λ b. Typed s most (made_if b (asks (named s p)) Tried (going (suc c.at) c.stack c))) (sym (named_there s same exists p right)) (awaits s most (asks (named s p)) Tried (going (suc c.at) c.stack c) (asked (named s p)) well.typed.kept well.typed)

    Typed-prioritized : (p : ℕ) (n : ℤ) (c : Core) → Well s most c → Typed s most (prioritized s p n c)
    Typed-prioritized p n c well =
        either s most (is_priority n) _ _ (λ is. awaits s most (request.Priority p (nearest_priority n)) Tried c (λ h. cc) well.typed.kept well.typed)
        (λ is. Typed-raised_before s most (error 2 4) (Tries (request.Priority p (nearest_priority n))) c (omega arith) well (λ h. cc))

    pub Typed-priority : (p : ℕ) (stack : List Operand) (c : Core) (after : Sorts) → Onward s most c after → AllLead s stack → is_named s.image p ≡ true → integers_taken 1 (sorts_of stack) ≡ Some after → Typed s most (act_priority s p stack c)
    Typed-priority p stack c after on lead right e = of_top (top_of s stack 0 after lead e)
      where
        of_top : Top s stack 0 after → Typed s most (act_priority s p stack c)
        of_top top =
            subst (λ st. Typed s most (act_priority s p st c)) (sym top.is)
            (subst (λ b. Typed s most (if b then prioritized s (named s p) top.int (going (suc c.at) top.rest c) else stuck c)) (sym (named_there s same exists p right))
            (Typed-prioritized (named s p) top.int (going (suc c.at) top.rest c) (on top.rest top.lead (some_is (sorts_of top.rest) after top.taken))))

  -- WAIT
  pub Typed-wait : (one : Delay) (c : Core) (after : Sorts) → Onward s most c after → AllLead s c.stack → is_delay s.image one ≡ true → delay_sorts one (sorts_of c.stack) ≡ Some after → Typed s most (act_wait s one c)
  Typed-wait one c after on lead right e = of_taken (delay_takes s same one c.stack after lead right e)
    where
      of_taken : Takes s Pause (delay_taken s.tables one c.stack) after → Typed s most (act_wait s one c)
      of_taken t = subst (λ o. Typed s most (waited o c)) (sym t.is) (goes_on s most (request.Wait t.got) (going (suc c.at) t.rest c) (λ h. cc) (on t.rest t.lead t.sorts).typed)
