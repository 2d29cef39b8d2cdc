-- Instructions that ask hold right values.
use Rattle.std.specs.Prelude.{ℕ, suc, nat_lt, length, take, List, [], ◌∷◌, ◌++◌, Bool, true, false, Some, None, ℤ, if◌then◌else◌}
use Rattle.std.proofs.Common.{arith}
use Rattle.hal_base.specs.declared.limits.TheConstants.{LINE_LIMIT}
use Rattle.hal_values.specs.declared.plan.Guard.{Guard}
use Rattle.hal_values.specs.declared.plan.Guard.TheVariants as guard
use Rattle.hal_values.specs.declared.plan.Pause.{Pause}
use Rattle.hal_values.specs.declared.plan.Pause.TheVariants as pause
use Rattle.hal_values.specs.declared.plan.When.{When}
use Rattle.hal_values.specs.declared.plan.When.TheVariants as when
use Rattle.hal_values.specs.declared.request.Request.{Request}
use Rattle.hal_values.specs.declared.request.Request.TheVariants as request
use Rattle.hal_values.specs.declared.request.Spot.TheVariants as asked
use Rattle.hal_values.specs.declared.tables.Tables.{Tables}
use Rattle.hal_values.specs.declared.value.Kind.TheVariants as kind
use Rattle.hal_values.specs.declared.value.Value.TheVariants as value
use Rattle.hal_values.specs.Answers.{error}
use Rattle.hal_values.specs.Tables.{process_count, event_count}
use Rattle.hal_states.specs.Lines.{item_of}
use Rattle.hal_states.specs.Numbers.{integer_of}
use Rattle.hal_states.specs.Times.{nearest_priority, is_priority, Again, Every, After, cycle_of, plan_of}
use Rattle.hal_code.specs.declared.choice.Choice.{Choice}
use Rattle.hal_code.specs.declared.choice.Choice.TheVariants as choice
use Rattle.hal_code.specs.declared.operand.Delay.{Delay}
use Rattle.hal_code.specs.declared.operand.Delay.TheVariants as delay
use Rattle.hal_code.specs.declared.operand.Limit.{Limit}
use Rattle.hal_code.specs.declared.operand.Limit.TheVariants as limit
use Rattle.hal_code.specs.declared.operand.Round.{Round}
use Rattle.hal_code.specs.declared.operand.Round.TheVariants as round
use Rattle.hal_code.specs.declared.operand.Start.{Start}
use Rattle.hal_code.specs.declared.operand.Start.TheVariants as start
use Rattle.hal_code.specs.declared.operand.Time.{Time}
use Rattle.hal_code.specs.declared.operand.Time.TheVariants as time
use Rattle.hal_code.specs.Asking.{Taken, taken_as, time_taken, start_taken, priority_taken, round_taken, limit_taken, delay_taken, scheduled, with_start, with_priority, with_round, with_limit, act_schedule, named, act_named, prioritized, act_priority, waited, act_wait, act_event_change, act_event, act_item, act_print}
use Rattle.hal_code.specs.Cores.{Operand, Val, At, Area, Setting, Core, going, with_line, Asks, Tries, Plans, Then, Goes, Pushes, Tried}
use Rattle.hal_code.specs.Raising.{made_if}
use Rattle.hal_right_values.specs.Ranges.{IsOfBytes}
use Rattle.hal_right_values.specs.Holding.{AreRightOperands, Holding}
use Rattle.hal_right_values.proofs.Addressing.{Right-pushed}
use Rattle.hal_right_values.proofs.Errors.{small}
use Rattle.hal_right_values.proofs.Raising.{Right-changed, Right-planned, Right-raised_before}
use Rattle.hal_right_values.proofs.Rights.{bit_right}
use Rattle.hal_right_values.proofs.Steps.{Known, Right, going_right, core_right, moves, waits, sticks, either}

-- what is left below something that is taken
abbrev Leaves : {A : Type 0} → Taken A → Type 0
Leaves None = Unit {0}
Leaves (Some got) = AreRightOperands got.1

as_leaves : {A B : Type 0} (f : A → B) (taken : Taken A) → Leaves taken → Leaves (taken_as f taken)
as_leaves f None left = tt
as_leaves f (Some got) left = left

expression_leaves : {A : Type 0} (of : ℕ → A) (x : ℕ) (stack : List Operand) (b : Bool) → AreRightOperands stack → Leaves {A = A} (if b then Some (of x, stack) else None)
expression_leaves of x stack true right = right
expression_leaves of x stack false right = tt

time_leaves : (t : Time) (stack : List Operand) → AreRightOperands stack → Leaves (time_taken t stack)
time_leaves time.Absent stack right = tt
time_leaves (time.Milliseconds n) stack right = right
time_leaves time.Seconds [] right = tt
time_leaves time.Seconds (Val v ∷ stack) right = right.1
time_leaves time.Seconds (At at k ∷ stack) right = tt
time_leaves time.Seconds (Area at shape ∷ stack) right = tt

start_leaves : (tables : Tables) (one : Start) (stack : List Operand) → AreRightOperands stack → Leaves (start_taken tables one stack)
start_leaves tables start.Now stack right = right
start_leaves tables (start.At t) stack right = as_leaves when.At (time_taken t stack) (time_leaves t stack right)
start_leaves tables (start.In t) stack right = as_leaves when.After (time_taken t stack) (time_leaves t stack right)
start_leaves tables (start.On x) stack right = expression_leaves when.On x stack (nat_lt x (length tables.expressions)) right

priority_leaves : (prio : Choice Bool) (stack : List Operand) → AreRightOperands stack → Leaves (priority_taken prio stack)
priority_leaves (choice.Known true) [] right = tt
priority_leaves (choice.Known true) (Val v ∷ stack) right = right.1
priority_leaves (choice.Known true) (At at k ∷ stack) right = tt
priority_leaves (choice.Known true) (Area at shape ∷ stack) right = tt
priority_leaves (choice.Known false) stack right = right
priority_leaves (choice.Other byte) stack right = tt

round_leaves : (one : Round) (stack : List Operand) → AreRightOperands stack → Leaves (round_taken one stack)
round_leaves round.Once stack right = right
round_leaves round.Repeat stack right = right
round_leaves (round.Every t) stack right = as_leaves Every (time_taken t stack) (time_leaves t stack right)
round_leaves (round.After t) stack right = as_leaves After (time_taken t stack) (time_leaves t stack right)

limit_leaves : (tables : Tables) (one : Limit) (stack : List Operand) → AreRightOperands stack → Leaves (limit_taken tables one stack)
limit_leaves tables limit.Free stack right = right
limit_leaves tables (limit.While x) stack right = expression_leaves guard.While x stack (nat_lt x (length tables.expressions)) right
limit_leaves tables (limit.Until x) stack right = expression_leaves guard.Until x stack (nat_lt x (length tables.expressions)) right
limit_leaves tables (limit.UntilTime t) stack right = as_leaves guard.UntilTime (time_taken t stack) (time_leaves t stack right)

delay_leaves : (tables : Tables) (one : Delay) (stack : List Operand) → AreRightOperands stack → Leaves (delay_taken tables one stack)
delay_leaves tables (delay.For t) stack right = as_leaves pause.For (time_taken t stack) (time_leaves t stack right)
delay_leaves tables (delay.Until t) stack right = as_leaves pause.Till (time_taken t stack) (time_leaves t stack right)
delay_leaves tables (delay.Event x) stack right = expression_leaves pause.Event x stack (nat_lt x (length tables.expressions)) right
delay_leaves tables delay.Dependents stack right = right

-- another line
pub line_right : (c : Core) (line : List ℕ) → Holding c → Holding (with_line line c)
line_right c line h = core_right c c.at c.stack line c.entries c.frames c.mode h h.operands h.frames h.store h.writes

module _ (s : Setting) (known : Known s) where
  -- a priority that is none
  four : IsOfBytes (error 2 4)
  four = small 2 4 (omega arith) (omega arith)

  Right-scheduled : (p : ℕ) (starts : When) (n : ℤ) (dependent : Bool) (again : Again) (until : Guard) (c : Core) → Holding c → Right (scheduled s p starts n dependent again until c)
  Right-scheduled p starts n dependent again until c h =
      either (is_priority n) _ _ (λ e. Right-planned s known _ again c h) (λ e. Right-raised_before s known (error 2 4) (Plans (plan_of p starts (nearest_priority n) dependent (cycle_of again) until) again) c four h tt)

  Right-start : (p : ℕ) (n : ℤ) (dependent : Bool) (again : Again) (until : Guard) (taken : Taken When) (c : Core) → Leaves taken → Holding c → Right (with_start s p n dependent again until taken c)
  Right-start p n dependent again until None c left h = sticks c h
  Right-start p n dependent again until (Some got) c left h = Right-scheduled p got.0 n dependent again until (going (suc c.at) got.1 c) (going_right c (suc c.at) got.1 h left)

  Right-priority_taken : (p : ℕ) (begins : Start) (dependent : Bool) (again : Again) (until : Guard) (taken : Taken ℤ) (c : Core) → Leaves taken → Holding c → Right (with_priority s p begins dependent again until taken c)
  Right-priority_taken p begins dependent again until None c left h = sticks c h
  Right-priority_taken p begins dependent again until (Some got) c left h = Right-start p got.0 dependent again until (start_taken s.tables begins got.1) c (start_leaves s.tables begins got.1 left) h

  Right-round : (p : ℕ) (begins : Start) (prio : Choice Bool) (dependent : Bool) (until : Guard) (taken : Taken Again) (c : Core) → Leaves taken → Holding c → Right (with_round s p begins prio dependent until taken c)
  Right-round p begins prio dependent until None c left h = sticks c h
  Right-round p begins prio dependent until (Some got) c left h = Right-priority_taken p begins dependent got.0 until (priority_taken prio got.1) c (priority_leaves prio got.1 left) h

  Right-limit : (p : ℕ) (begins : Start) (prio dependent : Choice Bool) (again : Round) (taken : Taken Guard) (c : Core) → Leaves taken → Holding c → Right (with_limit s p begins prio dependent again taken c)
  Right-limit p begins prio (choice.Known dependent) again None c left h = sticks c h
  Right-limit p begins prio (choice.Known dependent) again (Some got) c left h = Right-round p begins prio dependent got.0 (round_taken again got.1) c (round_leaves again got.1 left) h
  Right-limit p begins prio (choice.Other byte) again taken c left h = sticks c h

  pub Right-schedule : (p : ℕ) (begins : Start) (prio dependent : Choice Bool) (again : Round) (until : Limit) (c : Core) → Holding c → Right (act_schedule s p begins prio dependent again until c)
  Right-schedule p begins prio dependent again until c h =
      either (nat_lt p (process_count s.tables)) _ _ (λ has. Right-limit p begins prio dependent again (limit_taken s.tables until c.stack) c (limit_leaves s.tables until c.stack h.operands) h) (λ has. sticks c h)

  Right-made : (b : Bool) (r : Request) (c : Core) → Holding c → Right (made_if b r Tried c)
  Right-made true r c h = waits r Tried c h tt
  Right-made false r c h = sticks c h

  pub Right-named : (asks : ℕ → Request) (p : ℕ) (c : Core) → Holding c → Right (act_named s asks p c)
  Right-named asks p c h = Right-made (nat_lt (named s p) (process_count s.tables)) (asks (named s p)) (going (suc c.at) c.stack c) (going_right c (suc c.at) c.stack h h.operands)

  Right-prioritized : (p : ℕ) (n : ℤ) (c : Core) → Holding c → Right (prioritized s p n c)
  Right-prioritized p n c h =
      either (is_priority n) _ _ (λ e. waits (request.Priority p (nearest_priority n)) Tried c h tt) (λ e. Right-raised_before s known (error 2 4) (Tries (request.Priority p (nearest_priority n))) c four h tt)

  pub Right-priority : (p : ℕ) (stack : List Operand) (c : Core) → AreRightOperands stack → Holding c → Right (act_priority s p stack c)
  Right-priority p [] c right h = sticks c h
  Right-priority p (Val v ∷ stack) c right h =
      either (nat_lt (named s p) (process_count s.tables)) _ _ (λ has. Right-prioritized (named s p) (integer_of v) (going (suc c.at) stack c) (going_right c (suc c.at) stack h right.1)) (λ has. sticks c h)
  Right-priority p (At at k ∷ stack) c right h = sticks c h
  Right-priority p (Area at shape ∷ stack) c right h = sticks c h

  Right-waited : (taken : Taken Pause) (c : Core) → Leaves taken → Holding c → Right (waited taken c)
  Right-waited None c left h = sticks c h
  Right-waited (Some got) c left h = waits (request.Wait got.0) (Then Goes) (going (suc c.at) got.1 c) (going_right c (suc c.at) got.1 h left) tt

  pub Right-wait : (one : Delay) (c : Core) → Holding c → Right (act_wait s one c)
  Right-wait one c h = Right-waited (delay_taken s.tables one c.stack) c (delay_leaves s.tables one c.stack h.operands) h

  -- events
  pub Right-event_change : (change : ℕ → Request) (e : ℕ) (c : Core) → Holding c → Right (act_event_change s change e c)
  Right-event_change change e c h = Right-changed s known change e (Then Goes) _ (going (suc c.at) c.stack c) next (λ r. tt) (moves _ next)
    where
      next : Holding (going (suc c.at) c.stack c)
      next = going_right c (suc c.at) c.stack h h.operands

  pub Right-event : (e : ℕ) (c : Core) → Holding c → Right (act_event s e c)
  Right-event e c h =
      either (nat_lt e (event_count s.tables)) _ _ (λ has. waits (request.Read (asked.Event e)) (Pushes (kind.Bits 1)) (going (suc c.at) c.stack c) (going_right c (suc c.at) c.stack h h.operands) (omega arith, omega arith))
      (λ has. Right-pushed s known (value.Bits 1 0) c.stack c (bit_right 0 (omega arith)) h.operands h)

  -- lines
  pub Right-item : (stack : List Operand) (c : Core) → AreRightOperands stack → Holding c → Right (act_item stack c)
  Right-item [] c right h = sticks c h
  Right-item (Val v ∷ stack) c right h = moves _ (line_right (going (suc c.at) stack c) (c.line ++ item_of v) (going_right c (suc c.at) stack h right.1))
  Right-item (At at k ∷ stack) c right h = sticks c h
  Right-item (Area at shape ∷ stack) c right h = sticks c h

  pub Right-print : (channel : ℕ) (c : Core) → Holding c → Right (act_print s channel c)
  Right-print channel c h =
      either (nat_lt LINE_LIMIT (length c.line)) _ _
      (λ long. Right-raised_before s known (error 3 3) (Asks (request.Print channel (take LINE_LIMIT c.line))) (with_line [] (going (suc c.at) c.stack c)) (small 3 3 (omega arith) (omega arith)) next tt)
      (λ fits. waits (request.Print channel c.line) (Then Goes) (with_line [] (going (suc c.at) c.stack c)) next tt)
    where
      next : Holding (with_line [] (going (suc c.at) c.stack c))
      next = line_right (going (suc c.at) c.stack c) [] (going_right c (suc c.at) c.stack h h.operands)
