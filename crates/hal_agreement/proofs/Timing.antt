-- WAIT, SCHEDULE and UPDATE PRIORITY: each operand is on the stack or in the instruction, and the instruction takes what the tree evaluates.
use Rattle.std.specs.Prelude.{◌≡◌, ℕ, suc, ◌==◌, nat_lt, length, Bool, true, false, List, [], ◌∷◌, ℤ, pos, Option, Some, None, if◌then◌else◌}
use Rattle.std.proofs.Common.{refl, sym, ap, subst, ◌∙◌}
use Rattle.hal_grammar.specs.Leaves.{Naming}
use Rattle.hal_grammar.specs.Expressions.{Expression, Decimal}
use Rattle.hal_grammar.specs.Statements.{Guard, While, Until, Start, StartAt, StartIn, StartOn, Cycle, Cyclic, CyclicEvery, CyclicAfter, Schedule}
use Rattle.hal_scope.specs.Uses.{holds_event}
use Rattle.hal_values.specs.declared.plan.Cycle as cycles
use Rattle.hal_values.specs.declared.plan.Guard as guards
use Rattle.hal_values.specs.declared.plan.Guard.TheVariants as guard
use Rattle.hal_values.specs.declared.plan.Pause.{Pause}
use Rattle.hal_values.specs.declared.plan.When.{When}
use Rattle.hal_values.specs.declared.plan.When.TheVariants as when
use Rattle.hal_values.specs.declared.plan.Plan.{Plan}
use Rattle.hal_values.specs.declared.request.Request.TheVariants as request
use Rattle.hal_values.specs.declared.value.Value.{Value}
use Rattle.hal_values.specs.Answers.{Answered, error}
use Rattle.hal_values.specs.Tables.{process_count}
use Rattle.hal_states.specs.Numbers.{integer_of}
use Rattle.hal_states.specs.Times.{milliseconds, thousandths, nearest_priority, is_priority, Again, Never, AtOnce, Every, After, plan_of, is_again, cycle_of}
use Rattle.hal_meaning.specs.States.{State, Evaluated, Gives, bind}
use Rattle.hal_meaning.specs.Access.{Here, raise, request_made}
use Rattle.hal_meaning.specs.RealTime as tree
use Rattle.hal_meaning.specs.RealTime.{time, on_first, by_last, process_named, process_or_own, priority, again, limit, checked_priority, checked_again, request_tried, scheduled, priority_changed, stated_at_mark}
use Rattle.hal_meaning.specs.Expressions.{expression}
use Rattle.hal_meaning.specs.Tasks.{Meaning}
use Rattle.hal_code.specs.declared.choice.Choice.{Choice}
use Rattle.hal_code.specs.declared.choice.Choice.TheVariants as choice
use Rattle.hal_code.specs.declared.instr.Instr.TheVariants as instr
use Rattle.hal_code.specs.declared.operand.Delay.{Delay}
use Rattle.hal_code.specs.declared.operand.Limit as limits
use Rattle.hal_code.specs.declared.operand.Limit.TheVariants as ends
use Rattle.hal_code.specs.declared.operand.Round as rounds
use Rattle.hal_code.specs.declared.operand.Round.TheVariants as round
use Rattle.hal_code.specs.declared.operand.Start as starts
use Rattle.hal_code.specs.declared.operand.Start.TheVariants as begins
use Rattle.hal_code.specs.declared.operand.Time as times
use Rattle.hal_code.specs.declared.operand.Time.TheVariants as operand
use Rattle.hal_code.specs.Cores.{Operand, Val, Tried, Tries, Plans, Step, Waits, Moves}
use Rattle.hal_code.specs.Raising.{planned, raised_before, stuck}
use Rattle.hal_code.specs.Asking as machine
use Rattle.hal_code.specs.Asking.{Taken, named, taken_as, time_taken, start_taken, priority_taken, round_taken, limit_taken, expression_taken, with_start, with_priority, with_round, with_limit}
use Rattle.hal_code.specs.Machine.{act}
use Rattle.hal_agreement.specs.Codes.{Code}
use Rattle.hal_agreement.specs.Sites.{site_of, here_at}
use Rattle.hal_agreement.specs.PlacedExpressions.{One, ExpressionAt}
use Rattle.hal_agreement.specs.PlacedTimes.{TimeAt, PauseAt, There, FirstAt, StartsAt, PriorityAt, RoundAt, LastAt, UntilAt, LimitAt, NamedAt, ScheduledAt, NamedOrSelf, PrioritizedAt}
use Rattle.hal_agreement.proofs.Knowing.{Out, Sound}
use Rattle.hal_agreement.proofs.Reaching.{Nest, setting, core_at, Reaches, bind_reaches}
use Rattle.hal_agreement.proofs.Raising.{Standing, bind_bind, raised_reaches}
use Rattle.hal_agreement.proofs.Expressing.{expression_reaches}
use Rattle.hal_agreement.proofs.Stating.{final}
use Rattle.hal_agreement.proofs.Asking.{made_reaches, tried_reaches, other_named}

module _ (code : Code) (begin : ℕ) (rec : Meaning) (sound : Sound code begin rec) (h : Here) (n : Nest) (standing : Standing code h n) (out : Out) where
  abbrev To : {A : Type 0} → (A → State → Option Step) → Step → List Answered → Evaluated A → Type 0
  To fine step left r = Reaches (setting code begin h) n fine step left r

  abbrev From : ℕ → List Operand → State → Step
  From at stack st = Moves (core_at at stack [] n st)

  abbrev Ready : ℕ → Step → List Answered → Evaluated (Unit {0}) → Type 0
  Ready to step left r = Reaches (setting code begin h) n (λ (done : Unit {0}) st. Some (Moves (core_at to [] [] n st))) step left r

  -- what goes on behind an operand that is taken from what is then on the stack
  abbrev Behind : {A B : Type 0} → (A → State → Option Step) → (List Operand → Taken B) → ℕ → List Operand → (B → State → Evaluated A) → Type 0
  Behind {A} {B} fine taken to stack go = (v : B) (now : List Operand) (after : State) → taken now ≡ Some (v, stack) → To fine (From to now after) after.left (go v after)

  -- nothing is evaluated for it
  stood : {A B : Type 0} (fine : A → State → Option Step) (taken : List Operand → Taken B) (v : B) (from to : ℕ) (stack : List Operand) (st : State) (go : B → State → Evaluated A)
      → from ≡ to → taken stack ≡ Some (v, stack) → Behind fine taken to stack go → To fine (From from stack st) st.left (go v st)
  stood fine taken v from to stack st go same is each = subst (λ at. To fine (From at stack st) st.left (go v st)) (sym same) (each v stack st is)

  -- an expression is evaluated for it, and what its value says is taken
  valued : {A B : Type 0} (fine : A → State → Option Step) (taken : List Operand → Taken B) (of : ℤ → B) (number : Value → ℤ) (e : Expression) (from to : ℕ) (stack : List Operand) (st : State) (go : B → State → Evaluated A)
      → ExpressionAt code (site_of h) e from to → ((v : Value) → taken (Val v ∷ stack) ≡ Some (of (number v), stack)) → Behind fine taken to stack go
      → To fine (From from stack st) st.left (bind (bind (expression rec h e st) (λ v after. Gives (number v) after)) (λ z after. go (of z) after))
  valued fine taken of number e from to stack st go at is each =
      subst (λ r. To fine (From from stack st) st.left r) (sym (bind_bind (expression rec h e st) (λ v after. Gives (number v) after) (λ z after. go (of z) after)))
      (bind_reaches (setting code begin h) n (λ v after. From to (Val v ∷ stack) after) fine _ st.left _ (λ v after. go (of (number v)) after) (expression_reaches code begin rec sound h n standing e from to stack [] st at)
      (λ v after. each (of (number v)) (Val v ∷ stack) after (is v)))

  -- a time, as something that is made of it
  timed : {A B : Type 0} (fine : A → State → Option Step) (of : ℤ → B) (tree : Expression) (t : times.Time) (from to : ℕ) (stack : List Operand) (st : State) (go : B → State → Evaluated A)
      → TimeAt code (site_of h) tree t from to → Behind fine (λ now. taken_as of (time_taken t now)) to stack go
      → To fine (From from stack st) st.left (bind (time rec h tree st) (λ z after. go (of z) after))
  timed fine of (Decimal place number) t from to stack st go at each =
      stood fine (λ now. taken_as of (time_taken t now)) (of (thousandths number)) from to stack st go at.1 (ap (λ one. taken_as of (time_taken one stack)) at.0) each
  timed fine of tree t from to stack st go at each =
      valued fine (λ now. taken_as of (time_taken t now)) of milliseconds tree from to stack st go at.1 (λ v. ap (λ one. taken_as of (time_taken one (Val v ∷ stack))) at.0) each

  -- a pause
  abbrev Delays : (times.Time → Delay) → (ℤ → Pause) → Type 0
  Delays delays pauses = (t : times.Time) (stack : List Operand) → machine.delay_taken h.set.tables (delays t) stack ≡ taken_as pauses (time_taken t stack)

  waits : (delays : times.Time → Delay) (pauses : ℤ → Pause) → Delays delays pauses → (t : times.Time) (at : ℕ) (p : Pause) (now : List Operand) (after : State) → taken_as pauses (time_taken t now) ≡ Some (p, [])
      → Ready (suc at) (act (setting code begin h) (instr.Wait (delays t)) (core_at at now [] n after)) after.left (request_made (request.Wait p) after)
  waits delays pauses like t at p now after taken =
      subst (λ got. Ready (suc at) (machine.waited got (core_at at now [] n after)) after.left (request_made (request.Wait p) after)) (sym (like t now ∙ taken))
      (made_reaches code begin rec sound h n standing out (request.Wait p) (suc at) after)

  pub pause_reaches : (delays : times.Time → Delay) (pauses : ℤ → Pause) → Delays delays pauses → (tree : Expression) (from to : ℕ) (st : State) → PauseAt code (site_of h) delays tree from to
      → Ready to (From from [] st) st.left (bind (time rec h tree st) (λ t after. request_made (request.Wait (pauses t)) after))
  pause_reaches delays pauses like tree from to st here =
      timed _ pauses tree here.0 from here.1 [] st (λ p after. request_made (request.Wait p) after) here.2
      (λ p now after taken. final code begin rec sound h n standing out (λ end done later. Some (Moves (core_at end [] [] n later))) (instr.Wait (delays here.0)) here.1 to now [] after _ here.3 (waits delays pauses like here.0 here.1 p now after taken))

  -- an event expression that is there
  event_taken : {B : Type 0} (of : ℕ → B) (x : ℕ) (stack : List Operand) → There (site_of h) x → expression_taken h.set.tables of x stack ≡ Some (of x, stack)
  event_taken of x stack there = ap (λ b. if b then Some (of x, stack) else None) there

  -- when the process starts
  start_reaches : {A : Type 0} (fine : A → State → Option Step) (xs : List ℕ) (s : Option Start) (operand : starts.Start) (from to : ℕ) (stack : List Operand) (st : State) (go : When → State → Evaluated A)
      → StartsAt code (site_of h) xs s operand from to → Behind fine (start_taken h.set.tables operand) to stack go → To fine (From from stack st) st.left (bind (tree.start rec h xs s st) go)
  start_reaches fine xs None operand from to stack st go at each =
      stood fine (start_taken h.set.tables operand) when.Now from to stack st go at.1 (ap (λ one. start_taken h.set.tables one stack) at.0) each
  start_reaches fine xs (Some (StartAt place t)) operand from to stack st go at each =
      subst (λ r. To fine (From from stack st) st.left r) (sym (bind_bind (time rec h t st) (λ z after. Gives (when.At z) after) go))
      (timed fine when.At t at.0 from to stack st go at.2 (λ v now after taken. each v now after (ap (λ one. start_taken h.set.tables one now) at.1 ∙ taken)))
  start_reaches fine xs (Some (StartIn place t)) operand from to stack st go at each =
      subst (λ r. To fine (From from stack st) st.left r) (sym (bind_bind (time rec h t st) (λ z after. Gives (when.After z) after) go))
      (timed fine when.After t at.0 from to stack st go at.2 (λ v now after taken. each v now after (ap (λ one. start_taken h.set.tables one now) at.1 ∙ taken)))
  start_reaches fine [] (Some (StartOn place t)) operand from to stack st go at each = absurd at.0
  start_reaches fine (x ∷ xs) (Some (StartOn place t)) operand from to stack st go at each =
      stood fine (start_taken h.set.tables operand) (when.On x) from to stack st go at.1 (ap (λ one. start_taken h.set.tables one stack) at.0.0 ∙ event_taken when.On x stack at.0.1) each

  -- its priority as it is written
  priority_reaches : {A : Type 0} (fine : A → State → Option Step) (e : Option Expression) (given : Choice Bool) (from to : ℕ) (stack : List Operand) (st : State) (go : ℤ → State → Evaluated A)
      → PriorityAt code (site_of h) e given from to → Behind fine (priority_taken given) to stack go → To fine (From from stack st) st.left (bind (priority rec h e st) go)
  priority_reaches fine None given from to stack st go at each =
      stood fine (priority_taken given) (pos 50) from to stack st go at.1 (ap (λ one. priority_taken one stack) at.0) each
  priority_reaches fine (Some e) given from to stack st go at each =
      valued fine (priority_taken given) (λ z. z) integer_of e from to stack st go at.1 (λ v. ap (λ one. priority_taken one (Val v ∷ stack)) at.0) each

  -- its cycle
  round_reaches : {A : Type 0} (fine : A → State → Option Step) (c : Option Cycle) (operand : rounds.Round) (from to : ℕ) (stack : List Operand) (st : State) (go : Again → State → Evaluated A)
      → RoundAt code (site_of h) c operand from to → Behind fine (round_taken operand) to stack go → To fine (From from stack st) st.left (bind (again rec h c st) go)
  round_reaches fine None operand from to stack st go at each =
      stood fine (round_taken operand) Never from to stack st go at.1 (ap (λ one. round_taken one stack) at.0) each
  round_reaches fine (Some (Cyclic place)) operand from to stack st go at each =
      stood fine (round_taken operand) AtOnce from to stack st go at.1 (ap (λ one. round_taken one stack) at.0) each
  round_reaches fine (Some (CyclicEvery place t)) operand from to stack st go at each =
      subst (λ r. To fine (From from stack st) st.left r) (sym (bind_bind (time rec h t st) (λ z after. Gives (Every z) after) go))
      (timed fine Every t at.0 from to stack st go at.2 (λ v now after taken. each v now after (ap (λ one. round_taken one now) at.1 ∙ taken)))
  round_reaches fine (Some (CyclicAfter place t)) operand from to stack st go at each =
      subst (λ r. To fine (From from stack st) st.left r) (sym (bind_bind (time rec h t st) (λ z after. Gives (After z) after) go))
      (timed fine After t at.0 from to stack st go at.2 (λ v now after taken. each v now after (ap (λ one. round_taken one now) at.1 ∙ taken)))

  -- an event expression that ends its cycles
  ended_reaches : {A : Type 0} (fine : A → State → Option Step) (xs : List ℕ) (by : ℕ → guards.Guard) (of : ℕ → limits.Limit) (operand : limits.Limit) (from to : ℕ) (stack : List Operand) (st : State) (go : guards.Guard → State → Evaluated A)
      → ((x : ℕ) → There (site_of h) x → limit_taken h.set.tables (of x) stack ≡ Some (by x, stack)) → LastAt (site_of h) xs by of operand → from ≡ to → Behind fine (limit_taken h.set.tables operand) to stack go
      → To fine (From from stack st) st.left (go (by_last by xs) st)
  ended_reaches fine xs by of operand from to stack st go is at same each =
      subst (λ g. To fine (From from stack st) st.left (go g st)) (sym at.2)
      (stood fine (limit_taken h.set.tables operand) (by at.0) from to stack st go same (ap (λ one. limit_taken h.set.tables one stack) at.1 ∙ is at.0 at.3) each)

  until_reaches : {A : Type 0} (fine : A → State → Option Step) (xs : List ℕ) (b : Bool) (t : Expression) (operand : limits.Limit) (from to : ℕ) (stack : List Operand) (st : State) (go : guards.Guard → State → Evaluated A)
      → UntilAt code (site_of h) xs b t operand from to → Behind fine (limit_taken h.set.tables operand) to stack go
      → To fine (From from stack st) st.left (bind (if b then Gives (by_last guard.Until xs) st else bind (time rec h t st) (λ z after. Gives (guard.UntilTime z) after)) go)
  until_reaches fine xs true t operand from to stack st go at each =
      ended_reaches fine xs guard.Until ends.Until operand from to stack st go (λ x there. event_taken guard.Until x stack there) at.0 at.1 each
  until_reaches fine xs false t operand from to stack st go at each =
      subst (λ r. To fine (From from stack st) st.left r) (sym (bind_bind (time rec h t st) (λ z after. Gives (guard.UntilTime z) after) go))
      (timed fine guard.UntilTime t at.0 from to stack st go at.2 (λ v now after taken. each v now after (ap (λ one. limit_taken h.set.tables one now) at.1 ∙ taken)))

  limit_reaches : {A : Type 0} (fine : A → State → Option Step) (xs : List ℕ) (g : Option Guard) (operand : limits.Limit) (from to : ℕ) (stack : List Operand) (st : State) (go : guards.Guard → State → Evaluated A)
      → LimitAt code (site_of h) xs g operand from to → Behind fine (limit_taken h.set.tables operand) to stack go → To fine (From from stack st) st.left (bind (limit rec h xs g st) go)
  limit_reaches fine xs None operand from to stack st go at each =
      stood fine (limit_taken h.set.tables operand) guard.Free from to stack st go at.1 (ap (λ one. limit_taken h.set.tables one stack) at.0) each
  limit_reaches fine xs (Some (While place t)) operand from to stack st go at each =
      ended_reaches fine xs guard.While ends.While operand from to stack st go (λ x there. event_taken guard.While x stack there) at.0 at.1 each
  limit_reaches fine xs (Some (Until place t)) operand from to stack st go at each =
      until_reaches fine xs (holds_event h.set.phrases h.block t) t operand from to stack st go at each

  -- EVERY is tested, and then it asks
  round_tested : (b : Bool) (plan : cycles.Cycle → Plan) (one : Again) (to : ℕ) (st : State)
      → Ready to (if b then Waits (request.Schedule (plan (cycle_of one))) Tried (core_at to [] [] n st) else raised_before (setting code begin h) (error 2 5) (Tries (request.Schedule (plan (cycle_of one)))) (core_at to [] [] n st)) st.left
      (bind (if b then Gives (cycle_of one) st else bind (raise h (error 2 5) st) (λ ignored after. Gives (cycle_of one) after)) (λ goes_on after. request_tried h (request.Schedule (plan goes_on)) after))
  round_tested true plan one to st = tried_reaches code begin rec sound h n standing out (request.Schedule (plan (cycle_of one))) to st
  round_tested false plan one to st =
      subst (λ r. Ready to (raised_before (setting code begin h) (error 2 5) (Tries (request.Schedule (plan (cycle_of one)))) (core_at to [] [] n st)) st.left r)
      (sym (bind_bind (raise h (error 2 5) st) (λ ignored after. Gives (cycle_of one) after) (λ goes_on after. request_tried h (request.Schedule (plan goes_on)) after)))
      (raised_reaches code begin h n standing _ (error 2 5) (Tries (request.Schedule (plan (cycle_of one)))) to [] [] st (λ ignored after. request_tried h (request.Schedule (plan (cycle_of one))) after)
      (λ after. tried_reaches code begin rec sound h n standing out (request.Schedule (plan (cycle_of one))) to after))

  -- the priority is tested before it
  plan_tested : (b : Bool) (z : ℤ) (plan : ℕ → cycles.Cycle → Plan) (one : Again) (to : ℕ) (st : State)
      → Ready to (if b then planned (setting code begin h) (plan (nearest_priority z) (cycle_of one)) one (core_at to [] [] n st) else raised_before (setting code begin h) (error 2 4) (Plans (plan (nearest_priority z) (cycle_of one)) one) (core_at to [] [] n st)) st.left
      (bind (if b then Gives (nearest_priority z) st else bind (raise h (error 2 4) st) (λ ignored after. Gives (nearest_priority z) after))
      (λ prio after. bind (checked_again h one after) (λ goes_on later. request_tried h (request.Schedule (plan prio goes_on)) later)))
  plan_tested true z plan one to st = round_tested (is_again one) (plan (nearest_priority z)) one to st
  plan_tested false z plan one to st =
      subst (λ r. Ready to (raised_before (setting code begin h) (error 2 4) (Plans (plan (nearest_priority z) (cycle_of one)) one) (core_at to [] [] n st)) st.left r)
      (sym (bind_bind (raise h (error 2 4) st) (λ ignored after. Gives (nearest_priority z) after) (λ prio after. bind (checked_again h one after) (λ goes_on later. request_tried h (request.Schedule (plan prio goes_on)) later))))
      (raised_reaches code begin h n standing _ (error 2 4) (Plans (plan (nearest_priority z) (cycle_of one)) one) to [] [] st
      (λ ignored after. bind (checked_again h one after) (λ goes_on later. request_tried h (request.Schedule (plan (nearest_priority z) goes_on)) later))
      (λ after. round_tested (is_again one) (plan (nearest_priority z)) one to after))

  -- the instruction takes what was evaluated
  taken_whole : (p : ℕ) (begins : starts.Start) (given : Choice Bool) (dependent : Bool) (operand : rounds.Round) (until : limits.Limit) (at : ℕ) (first second third fourth : List Operand) (starts_at : When) (z : ℤ) (one : Again) (g : guards.Guard) (st : State)
      → nat_lt p (process_count h.set.tables) ≡ true → start_taken h.set.tables begins first ≡ Some (starts_at, []) → priority_taken given second ≡ Some (z, first) → round_taken operand third ≡ Some (one, second)
      → limit_taken h.set.tables until fourth ≡ Some (g, third)
      → act (setting code begin h) (instr.Schedule p begins given (choice.Known dependent) operand until) (core_at at fourth [] n st) ≡ machine.scheduled (setting code begin h) p starts_at z dependent one g (core_at (suc at) [] [] n st)
  taken_whole p begins given dependent operand until at first second third fourth starts_at z one g st there e1 e2 e3 e4 =
      ap (λ b. if b then with_limit (setting code begin h) p begins given (choice.Known dependent) operand (limit_taken h.set.tables until fourth) (core_at at fourth [] n st) else stuck (core_at at fourth [] n st)) there
      ∙ ap (λ got. with_limit (setting code begin h) p begins given (choice.Known dependent) operand got (core_at at fourth [] n st)) e4
      ∙ ap (λ got. with_round (setting code begin h) p begins given dependent g got (core_at at fourth [] n st)) e3
      ∙ ap (λ got. with_priority (setting code begin h) p begins dependent one g got (core_at at fourth [] n st)) e2
      ∙ ap (λ got. with_start (setting code begin h) p z dependent one g got (core_at at fourth [] n st)) e1

  -- what SCHEDULE asks for, whatever process it names
  abbrev asks_for : (p : ℕ) (s : Schedule) → When → ℤ → Again → guards.Guard → State → Evaluated (Unit {0})
  asks_for p s starts_at z one g st =
      bind (checked_priority h z st) (λ prio after. bind (checked_again h one after) (λ goes_on later. request_tried h (request.Schedule (plan_of p starts_at prio s.dependent goes_on g)) later))

  -- SCHEDULE
  pub scheduled_reaches : (m : ℕ) (s : Schedule) (from to : ℕ) (st : State) → ScheduledAt code (site_of h) m s from to → Ready to (From from [] st) st.left (scheduled rec h m s st)
  scheduled_reaches m s from to st here =
      start_reaches (λ (done : Unit {0}) after. Some (From to [] after)) (stated_at_mark h m) s.start here.begins from here.second [] st
      (λ starts_at st1. bind (priority rec h s.priority st1) (λ z st2. bind (again rec h s.cycle st2) (λ one st3. bind (limit rec h (stated_at_mark h m) s.guard st3) (λ g st4. asks_for (process_named h s.name) s starts_at z one g st4)))) here.first_is
      (λ starts_at first st1 e1. priority_reaches (λ (done : Unit {0}) after. Some (From to [] after)) s.priority here.given here.second here.third first st1
      (λ z st2. bind (again rec h s.cycle st2) (λ one st3. bind (limit rec h (stated_at_mark h m) s.guard st3) (λ g st4. asks_for (process_named h s.name) s starts_at z one g st4))) here.second_is
      (λ z second st2 e2. round_reaches (λ (done : Unit {0}) after. Some (From to [] after)) s.cycle here.again here.third here.fourth second st2
      (λ one st3. bind (limit rec h (stated_at_mark h m) s.guard st3) (λ g st4. asks_for (process_named h s.name) s starts_at z one g st4)) here.third_is
      (λ one third st3 e3. limit_reaches (λ (done : Unit {0}) after. Some (From to [] after)) (stated_at_mark h m) s.guard here.until here.fourth here.last third st3
      (λ g st4. asks_for (process_named h s.name) s starts_at z one g st4) here.fourth_is
      (λ g fourth st4 e4. final code begin rec sound h n standing out (λ end done after. Some (Moves (core_at end [] [] n after)))
      (instr.Schedule here.number here.begins here.given (choice.Known s.dependent) here.again here.until) here.last to fourth [] st4 _ here.asks
      (subst (λ p. Ready (suc here.last) (act (setting code begin h) (instr.Schedule here.number here.begins here.given (choice.Known s.dependent) here.again here.until) (core_at here.last fourth [] n st4)) st4.left (asks_for p s starts_at z one g st4)) (sym here.process)
      (subst (λ step. Ready (suc here.last) step st4.left (asks_for here.number s starts_at z one g st4))
      (sym (taken_whole here.number here.begins here.given s.dependent here.again here.until here.last first second third fourth starts_at z one g st4 here.there e1 e2 e3 e4))
      (plan_tested (is_priority z) z (λ prio goes_on. plan_of here.number starts_at prio s.dependent goes_on g) one (suc here.last) st4)))))))

  -- the process that UPDATE PRIORITY speaks of is there
  self_named : (name : Option Naming) (number : ℕ) → NamedOrSelf (site_of h) name number → named (setting code begin h) number ≡ process_or_own h name
  self_named None number is = ap (λ k. if k == 255 then h.process else k) is
  self_named (Some name) number at = other_named code begin rec sound h n standing out number (number == 255) at.other ∙ sym at.process

  self_there : (name : Option Naming) (number : ℕ) → NamedOrSelf (site_of h) name number → nat_lt (process_or_own h name) (process_count h.set.tables) ≡ true
  self_there None number is = standing.process
  self_there (Some name) number at = ap (λ k. nat_lt k (process_count h.set.tables)) at.process ∙ at.there

  priority_tested : (b : Bool) (p : ℕ) (z : ℤ) (to : ℕ) (st : State)
      → Ready to (if b then Waits (request.Priority p (nearest_priority z)) Tried (core_at to [] [] n st) else raised_before (setting code begin h) (error 2 4) (Tries (request.Priority p (nearest_priority z))) (core_at to [] [] n st)) st.left
      (bind (if b then Gives (nearest_priority z) st else bind (raise h (error 2 4) st) (λ ignored after. Gives (nearest_priority z) after)) (λ prio after. request_tried h (request.Priority p prio) after))
  priority_tested true p z to st = tried_reaches code begin rec sound h n standing out (request.Priority p (nearest_priority z)) to st
  priority_tested false p z to st =
      subst (λ r. Ready to (raised_before (setting code begin h) (error 2 4) (Tries (request.Priority p (nearest_priority z))) (core_at to [] [] n st)) st.left r)
      (sym (bind_bind (raise h (error 2 4) st) (λ ignored after. Gives (nearest_priority z) after) (λ prio after. request_tried h (request.Priority p prio) after)))
      (raised_reaches code begin h n standing _ (error 2 4) (Tries (request.Priority p (nearest_priority z))) to [] [] st (λ ignored after. request_tried h (request.Priority p (nearest_priority z)) after)
      (λ after. tried_reaches code begin rec sound h n standing out (request.Priority p (nearest_priority z)) to after))

  acted_priority : (number p : ℕ) (v : Value) (at : ℕ) (st : State) → named (setting code begin h) number ≡ p → nat_lt p (process_count h.set.tables) ≡ true
      → act (setting code begin h) (instr.Priority number) (core_at at (Val v ∷ []) [] n st) ≡ machine.prioritized (setting code begin h) p (integer_of v) (core_at (suc at) [] [] n st)
  acted_priority number p v at st same there =
      ap (λ k. if nat_lt k (process_count h.set.tables) then machine.prioritized (setting code begin h) k (integer_of v) (core_at (suc at) [] [] n st) else stuck (core_at at (Val v ∷ []) [] n st)) same
      ∙ ap (λ b. if b then machine.prioritized (setting code begin h) p (integer_of v) (core_at (suc at) [] [] n st) else stuck (core_at at (Val v ∷ []) [] n st)) there

  -- UPDATE PRIORITY
  pub priority_stated : (name : Option Naming) (e : Expression) (from to : ℕ) (st : State) → PrioritizedAt code (site_of h) name e from to → Ready to (From from [] st) st.left (priority_changed rec h name e st)
  priority_stated name e from to st here =
      bind_reaches (setting code begin h) n (λ v after. From here.1 (Val v ∷ []) after) _ _ st.left _ (λ v st1. bind (checked_priority h (integer_of v) st1) (λ prio st2. request_tried h (request.Priority (process_or_own h name) prio) st2))
      (expression_reaches code begin rec sound h n standing e from here.1 [] [] st here.3)
      (λ v after. final code begin rec sound h n standing out (λ end done later. Some (Moves (core_at end [] [] n later))) (instr.Priority here.0) here.1 to (Val v ∷ []) [] after _ here.4
      (subst (λ step. Ready (suc here.1) step after.left (bind (checked_priority h (integer_of v) after) (λ prio st2. request_tried h (request.Priority (process_or_own h name) prio) st2)))
      (sym (acted_priority here.0 (process_or_own h name) v here.1 after (self_named name here.0 here.2) (self_there name here.0 here.2)))
      (priority_tested (is_priority (integer_of v)) (process_or_own h name) (integer_of v) (suc here.1) after)))
