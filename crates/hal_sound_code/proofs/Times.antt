-- The operands of real-time instructions are there.
use Rattle.std.specs.Prelude.{ℕ, ◌<◌, ◌≡◌, ◌==◌, nat_lt, length, Bool, true, false, ◌||◌, List, ℤ, pos, Some, None, if◌then◌else◌}
use Rattle.std.proofs.Common.{refl, ap, ◌∙◌}
use Rattle.std.proofs.lemmas.Bool.{lt-ltb}
use Rattle.std.proofs.lemmas.List.{length-map}
use Rattle.hal_values.specs.declared.plan.When.{When}
use Rattle.hal_values.specs.declared.plan.When.TheVariants as when
use Rattle.hal_values.specs.declared.plan.Guard.{Guard}
use Rattle.hal_values.specs.declared.plan.Guard.TheVariants as guard
use Rattle.hal_values.specs.declared.plan.Pause.{Pause}
use Rattle.hal_values.specs.declared.plan.Pause.TheVariants as pause
use Rattle.hal_values.specs.declared.value.Value.TheVariants as value
use Rattle.hal_values.specs.Tables.{process_count}
use Rattle.hal_states.specs.Times.{milliseconds, thousandths, Again, Never, AtOnce, Every, After}
use Rattle.hal_code.specs.declared.choice.Choice.{Choice}
use Rattle.hal_code.specs.declared.choice.Choice.TheVariants as choice
use Rattle.hal_code.specs.declared.operand.Delay.{Delay}
use Rattle.hal_code.specs.declared.operand.Delay.TheVariants as delay
use Rattle.hal_code.specs.declared.operand.Limit.{Limit}
use Rattle.hal_code.specs.declared.operand.Limit.TheVariants as limit
use Rattle.hal_code.specs.declared.operand.Round.{Round}
use Rattle.hal_code.specs.declared.operand.Round.TheVariants as round
use Rattle.hal_code.specs.declared.operand.Start.{Start}
use Rattle.hal_code.specs.declared.operand.Start.TheVariants as start
use Rattle.hal_code.specs.declared.operand.Time.{Time}
use Rattle.hal_code.specs.declared.operand.Time.TheVariants as time
use Rattle.hal_code.specs.declared.row.Process.{Process}
use Rattle.hal_code.specs.Asking.{Taken, taken_as, expression_taken, time_taken, start_taken, priority_taken, round_taken, limit_taken, delay_taken, named}
use Rattle.hal_code.specs.Cores.{Operand, Setting}
use Rattle.hal_code.specs.Effects.{Sorts, seconds_taken, start_sorts, priority_sorts, round_sorts, limit_sorts, delay_sorts}
use Rattle.hal_code.specs.Images.{tables_of}
use Rattle.hal_code.specs.Operands.{is_known, is_process, is_named, is_time, is_expression, is_start, is_round, is_limit, is_delay}
use Rattle.hal_sound_code.specs.Lying.{sorts_of, AllLead}
use Rattle.hal_sound_code.proofs.Taking.{some_is, Top, top_of}

-- something is taken, and the rest has these sorts
pub record Takes (s : Setting) (A : Type 0) (taken : Taken A) (left : Sorts) : Type 0 where
  pub got : A
  pub rest : List Operand
  pub is : taken ≡ Some (got, rest)
  pub sorts : sorts_of rest ≡ left
  pub lead : AllLead s rest

module _ (s : Setting) (same : s.tables ≡ tables_of s.image) where
  -- nothing is taken of the stack
  whole : (A : Type 0) (got : A) (stack : List Operand) (left : Sorts) → AllLead s stack → Some (sorts_of stack) ≡ Some left → Takes s A (Some (got, stack)) left
  whole A got stack left lead e = record { got = got; rest = stack; is = refl; sorts = some_is (sorts_of stack) left e; lead = lead }

  -- what is taken is changed
  changed : (A B : Type 0) (f : A → B) (taken : Taken A) (left : Sorts) → Takes s A taken left → Takes s B (taken_as f taken) left
  changed A B f taken left t = record { got = f t.got; rest = t.rest; is = ap (taken_as f) t.is; sorts = t.sorts; lead = t.lead }

  expression_takes : (A : Type 0) (of : ℕ → A) (x : ℕ) (stack : List Operand) (left : Sorts) → AllLead s stack → is_expression s.image x ≡ true → Some (sorts_of stack) ≡ Some left → Takes s A (expression_taken s.tables of x stack) left
  expression_takes A of x stack left lead there e = record {
    got = of x;
    rest = stack;
    is = ap (λ b. if b then Some (of x, stack) else None) (ap (λ t. nat_lt x (length t.expressions)) same ∙ there);
    sorts = some_is (sorts_of stack) left e;
    lead = lead;
  }

  time_takes : (t : Time) (stack : List Operand) (left : Sorts) → AllLead s stack → is_time t ≡ true → seconds_taken t (sorts_of stack) ≡ Some left → Takes s ℤ (time_taken t stack) left
  time_takes time.Absent stack left lead there e = absurd (cc)
  time_takes time.Seconds stack left lead there e = of_top (top_of s stack 0 left lead e)
    where
      of_top : Top s stack 0 left → Takes s ℤ (time_taken time.Seconds stack) left
      of_top top = record { got = milliseconds (value.Int top.int); rest = top.rest; is = ap (time_taken time.Seconds) top.is; sorts = some_is (sorts_of top.rest) left top.taken; lead = top.lead }
  time_takes (time.Milliseconds n) stack left lead there e = whole ℤ (thousandths n) stack left lead e

  pub start_takes : (begins : Start) (stack : List Operand) (left : Sorts) → AllLead s stack → is_start s.image begins ≡ true → start_sorts begins (sorts_of stack) ≡ Some left → Takes s When (start_taken s.tables begins stack) left
  start_takes start.Now stack left lead there e = whole When when.Now stack left lead e
  start_takes (start.At t) stack left lead there e = changed ℤ When when.At (time_taken t stack) left (time_takes t stack left lead there e)
  start_takes (start.In t) stack left lead there e = changed ℤ When when.After (time_taken t stack) left (time_takes t stack left lead there e)
  start_takes (start.On x) stack left lead there e = expression_takes When when.On x stack left lead there e

  pub priority_takes : (given : Choice Bool) (stack : List Operand) (left : Sorts) → AllLead s stack → is_known given ≡ true → priority_sorts given (sorts_of stack) ≡ Some left → Takes s ℤ (priority_taken given stack) left
  priority_takes (choice.Known true) stack left lead there e = of_top (top_of s stack 0 left lead e)
    where
      of_top : Top s stack 0 left → Takes s ℤ (priority_taken (choice.Known true) stack) left
      of_top top = record { got = top.int; rest = top.rest; is = ap (priority_taken (choice.Known true)) top.is; sorts = some_is (sorts_of top.rest) left top.taken; lead = top.lead }
  priority_takes (choice.Known false) stack left lead there e = whole ℤ (pos 50) stack left lead e
  priority_takes (choice.Other byte) stack left lead there e = absurd (cc)

  pub round_takes : (again : Round) (stack : List Operand) (left : Sorts) → AllLead s stack → is_round again ≡ true → round_sorts again (sorts_of stack) ≡ Some left → Takes s Again (round_taken again stack) left
  round_takes round.Once stack left lead there e = whole Again Never stack left lead e
  round_takes round.Repeat stack left lead there e = whole Again AtOnce stack left lead e
  round_takes (round.Every t) stack left lead there e = changed ℤ Again Every (time_taken t stack) left (time_takes t stack left lead there e)
  round_takes (round.After t) stack left lead there e = changed ℤ Again After (time_taken t stack) left (time_takes t stack left lead there e)

  pub limit_takes : (until : Limit) (stack : List Operand) (left : Sorts) → AllLead s stack → is_limit s.image until ≡ true → limit_sorts until (sorts_of stack) ≡ Some left → Takes s Guard (limit_taken s.tables until stack) left
  limit_takes limit.Free stack left lead there e = whole Guard guard.Free stack left lead e
  limit_takes (limit.While x) stack left lead there e = expression_takes Guard guard.While x stack left lead there e
  limit_takes (limit.Until x) stack left lead there e = expression_takes Guard guard.Until x stack left lead there e
  limit_takes (limit.UntilTime t) stack left lead there e = changed ℤ Guard guard.UntilTime (time_taken t stack) left (time_takes t stack left lead there e)

  pub delay_takes : (one : Delay) (stack : List Operand) (left : Sorts) → AllLead s stack → is_delay s.image one ≡ true → delay_sorts one (sorts_of stack) ≡ Some left → Takes s Pause (delay_taken s.tables one stack) left
  delay_takes (delay.For t) stack left lead there e = changed ℤ Pause pause.For (time_taken t stack) left (time_takes t stack left lead there e)
  delay_takes (delay.Until t) stack left lead there e = changed ℤ Pause pause.Till (time_taken t stack) left (time_takes t stack left lead there e)
  delay_takes (delay.Event x) stack left lead there e = expression_takes Pause pause.Event x stack left lead there e
  delay_takes delay.Dependents stack left lead there e = whole Pause pause.Dependents stack left lead e

  -- processes are there
  pub process_there : (p : ℕ) → nat_lt p (length s.image.processes) ≡ true → nat_lt p (process_count s.tables) ≡ true
  process_there p e = ap (λ n. nat_lt p n) (ap process_count same ∙ length-map s.image.processes (λ (q : Process). q.name)) ∙ e

  pub named_there : s.process < length s.image.processes → (p : ℕ) → is_named s.image p ≡ true → nat_lt (named s p) (process_count s.tables) ≡ true
  named_there exists p e = of_self (p == 255) e
    where
      first : (a : Bool) → (a || false) ≡ true → a ≡ true
      first true h = refl
      first false h = absurd (cc)

      of_self : (b : Bool) → (is_process s.image p || b) ≡ true → nat_lt (if b then s.process else p) (process_count s.tables) ≡ true
      of_self true h = process_there s.process (lt-ltb s.process (length s.image.processes) exists)
      of_self false h = process_there p (first (is_process s.image p) h)
