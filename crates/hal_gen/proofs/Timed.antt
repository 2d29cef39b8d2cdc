-- The code of WAIT, SCHEDULE and UPDATE PRIORITY stands where it was put.
use Rattle.std.specs.Prelude.{◌≡◌, ℕ, Bool, true, false, List, [], ◌∷◌, ◌++◌, Option, Some, None, Ok}
use Rattle.std.specs.Option.{option_map, option_and_then}
use Rattle.std.proofs.Common.{refl, sym, ap, ◌∙◌}
use Rattle.hal_base.specs.declared.refusal.Place.{Place}
use Rattle.hal_grammar.specs.Leaves.{Naming}
use Rattle.hal_grammar.specs.Expressions.{Expression, Decimal}
use Rattle.hal_grammar.specs.Statements.{Guard, While, Until, Start, StartAt, StartIn, StartOn, Cycle, Cyclic, CyclicEvery, CyclicAfter, Schedule}
use Rattle.hal_scope.specs.Uses.{holds_event}
use Rattle.hal_values.specs.declared.plan.Guard as guards
use Rattle.hal_values.specs.declared.plan.Guard.TheVariants as guard
use Rattle.hal_meaning.specs.RealTime.{by_last, stated_at_mark}
use Rattle.hal_code.specs.declared.choice.Choice.TheVariants as choice
use Rattle.hal_code.specs.declared.instr.Instr.{Instr}
use Rattle.hal_code.specs.declared.instr.Instr.TheVariants as instr
use Rattle.hal_code.specs.declared.operand.Delay.{Delay}
use Rattle.hal_code.specs.declared.operand.Limit as limits
use Rattle.hal_code.specs.declared.operand.Limit.TheVariants as limit
use Rattle.hal_code.specs.declared.operand.Start as starts
use Rattle.hal_code.specs.declared.operand.Start.TheVariants as start
use Rattle.hal_code.specs.declared.operand.Time.{Time}
use Rattle.hal_agreement.specs.Codes.{Code}
use Rattle.hal_agreement.specs.PlacedExpressions.{One}
use Rattle.hal_agreement.specs.PlacedTimes.{TimeAt, PauseAt, FirstAt, StartsAt, PriorityAt, RoundAt, LastAt, UntilAt, LimitAt, ScheduledAt, NamedOrSelf, PrioritizedAt}
use Rattle.hal_agreement.specs.Sites.{Site, here_at}
use Rattle.hal_gen_expr.specs.Emitting.{emit}
use Rattle.hal_gen_expr.specs.ExpressionCode.{emit_one, expression_code}
use Rattle.hal_gen_expr.specs.Numbering.{Numbering}
use Rattle.hal_gen_expr.specs.Standing.{Begins, IsNumbered, Placed}
use Rattle.hal_gen_expr.proofs.Expressed.{ok_is, expression_at}
use Rattle.hal_gen_expr.proofs.Growing.{weaker, one_placed, none_placed, both_placed, emitted}
use Rattle.hal_gen_expr.proofs.Numbered.{mapped_is, then_is}
use Rattle.hal_gen.specs.Leaves.{stated_number, last_of, first_event, last_event, named_process}
use Rattle.hal_gen.specs.Timing.{time_operand, time_code, pause_code, start_code, start_operand, priority_code, is_given, round_code, round_operand, until_code, until_operand, limit_code, limit_operand, schedule_by, schedule_of, schedule_code, named_or_self, update_priority_code}
use Rattle.hal_gen.proofs.Simple.{single_placed, stated_is, named_is}

module _ (code : Code) (n : Numbering) (site : Site) (numbered : IsNumbered code n) where
  -- times, and pauses of them
  time_at : (tree : Expression) (before after : List Instr) → time_code n site before tree ≡ Ok after → Begins after code.image.code → Placed code before after (λ from to. TimeAt code site tree (time_operand tree) from to)
  time_at (Decimal place number) before after e begins = weaker code before after (λ from to at. (refl, at)) (none_placed code before after (ok_is before after e) begins)
  time_at tree before after e begins = weaker code before after (λ from to at. (refl, at)) (expression_at code n site numbered tree before after e begins)

  pub pause_at : (delays : Time → Delay) (tree : Expression) (place : Place) (before after : List Instr) → pause_code n site before place delays tree ≡ Ok after → Begins after code.image.code
      → Placed code before after (λ from to. PauseAt code site delays tree from to)
  pause_at delays tree place before after e begins =
      weaker code before after (λ from to at. (time_operand tree, at.0, at.1, at.2))
      (both_placed code (time_code n site before tree) (λ middle. emit_one middle place (instr.Wait (delays (time_operand tree)))) before after e (λ middle there begun. time_at tree before middle there begun)
      (λ middle there. one_placed code middle after (instr.Wait (delays (time_operand tree))) (ok_is _ after there) begins))

  -- when a process starts
  first_at : (xs : List ℕ) (begins : starts.Start) → option_map start.On (first_event site xs) ≡ Some begins → FirstAt site xs begins
  first_at [] begins is = absurd (cc)
  first_at (x ∷ xs) begins is =
      let given = mapped_is start.On (first_event site (x ∷ xs)) begins is in
      let there = stated_is code n site numbered x given.0 given.1 in (sym given.2 ∙ ap start.On (sym there.0), there.1)

  start_at : (xs : List ℕ) (s : Option Start) (before after : List Instr) → start_code n site before s ≡ Ok after → Begins after code.image.code
      → Placed code before after (λ from to. (operand : starts.Start) → start_operand (first_event site xs) s ≡ Some operand → StartsAt code site xs s operand from to)
  start_at xs None before after e begins =
      weaker code before after (λ from to at. λ operand is. ((let same : operand ≡ start.Now = cc in same), at)) (none_placed code before after (ok_is before after e) begins)
  start_at xs (Some (StartAt place tree)) before after e begins =
      weaker code before after (λ from to at. λ operand is. (time_operand tree, (let same : operand ≡ start.At (time_operand tree) = cc in same), at)) (time_at tree before after e begins)
  start_at xs (Some (StartIn place tree)) before after e begins =
      weaker code before after (λ from to at. λ operand is. (time_operand tree, (let same : operand ≡ start.In (time_operand tree) = cc in same), at)) (time_at tree before after e begins)
  start_at xs (Some (StartOn place tree)) before after e begins =
      weaker code before after (λ from to at. λ operand is. (first_at xs operand is, at)) (none_placed code before after (ok_is before after e) begins)

  -- a priority that may be given, and a cycle
  priority_at : (tree : Option Expression) (before after : List Instr) → priority_code n site before tree ≡ Ok after → Begins after code.image.code → Placed code before after (λ from to. PriorityAt code site tree (choice.Known (is_given tree)) from to)
  priority_at None before after e begins = weaker code before after (λ from to at. (refl, at)) (none_placed code before after (ok_is before after e) begins)
  priority_at (Some tree) before after e begins = weaker code before after (λ from to at. (refl, at)) (expression_at code n site numbered tree before after e begins)

  round_at : (c : Option Cycle) (before after : List Instr) → round_code n site before c ≡ Ok after → Begins after code.image.code → Placed code before after (λ from to. RoundAt code site c (round_operand c) from to)
  round_at None before after e begins = weaker code before after (λ from to at. (refl, at)) (none_placed code before after (ok_is before after e) begins)
  round_at (Some (Cyclic place)) before after e begins = weaker code before after (λ from to at. (refl, at)) (none_placed code before after (ok_is before after e) begins)
  round_at (Some (CyclicEvery place tree)) before after e begins = weaker code before after (λ from to at. (time_operand tree, refl, at)) (time_at tree before after e begins)
  round_at (Some (CyclicAfter place tree)) before after e begins = weaker code before after (λ from to at. (time_operand tree, refl, at)) (time_at tree before after e begins)

  -- what ends its cycles
  last_from : (by : ℕ → guards.Guard) (x : ℕ) (xs : List ℕ) (y : ℕ) → last_of (Some x) xs ≡ Some y → by_last by (x ∷ xs) ≡ by y
  last_from by x [] y is = ap by (let same : x ≡ y = cc in same)
  last_from by x (z ∷ more) y is = last_from by z more y is

  last_by : (by : ℕ → guards.Guard) (xs : List ℕ) (y : ℕ) → last_of None xs ≡ Some y → by_last by xs ≡ by y
  last_by by [] y is = absurd (cc)
  last_by by (x ∷ xs) y is = last_from by x xs y is

  last_at : (xs : List ℕ) (by : ℕ → guards.Guard) (ends : ℕ → limits.Limit) (operand : limits.Limit) → option_map ends (last_event site xs) ≡ Some operand → LastAt site xs by ends operand
  last_at xs by ends operand is =
      let given = mapped_is ends (last_event site xs) operand is in
      let found = then_is (stated_number site) (last_of None xs) given.0 given.1 in
      let there = stated_is code n site numbered found.0 given.0 found.2 in
      (found.0, sym given.2 ∙ ap ends (sym there.0), last_by by xs found.0 found.1, there.1)

  until_at : (xs : List ℕ) (b : Bool) (tree : Expression) (before after : List Instr) → until_code n site before b tree ≡ Ok after → Begins after code.image.code
      → Placed code before after (λ from to. (operand : limits.Limit) → until_operand (last_event site xs) b tree ≡ Some operand → UntilAt code site xs b tree operand from to)
  until_at xs true tree before after e begins =
      weaker code before after (λ from to at. λ operand is. (last_at xs guard.Until limit.Until operand is, at)) (none_placed code before after (ok_is before after e) begins)
  until_at xs false tree before after e begins =
      weaker code before after (λ from to at. λ operand is. (time_operand tree, (let same : operand ≡ limit.UntilTime (time_operand tree) = cc in same), at)) (time_at tree before after e begins)

  limit_at : (xs : List ℕ) (g : Option Guard) (before after : List Instr) → limit_code n site before g ≡ Ok after → Begins after code.image.code
      → Placed code before after (λ from to. (operand : limits.Limit) → limit_operand site (last_event site xs) g ≡ Some operand → LimitAt code site xs g operand from to)
  limit_at xs None before after e begins =
      weaker code before after (λ from to at. λ operand is. ((let same : operand ≡ limit.Free = cc in same), at)) (none_placed code before after (ok_is before after e) begins)
  limit_at xs (Some (While place tree)) before after e begins =
      weaker code before after (λ from to at. λ operand is. (last_at xs guard.While limit.While operand is, at)) (none_placed code before after (ok_is before after e) begins)
  limit_at xs (Some (Until place tree)) before after e begins = until_at xs (holds_event site.set.phrases site.block tree) tree before after e begins

  -- SCHEDULE behind its operands
  asked_at : (place : Place) (xs : List ℕ) (s : Schedule) (before after : List Instr) → emit before place (schedule_of site xs s) ≡ Ok after → Begins after code.image.code
      → Placed code before after (λ from to. (process : ℕ) × (begins : starts.Start) × (until : limits.Limit) × (named_process site s.name ≡ Some process) × (start_operand (first_event site xs) s.start ≡ Some begins)
      × (limit_operand site (last_event site xs) s.guard ≡ Some until) × One code from (instr.Schedule process begins (choice.Known (is_given s.priority)) (choice.Known s.dependent) (round_operand s.cycle) until) to)
  asked_at place xs s before after e begins =
      let given = emitted before place (schedule_of site xs s) after e in
      let one = then_is (λ process. option_and_then (λ starts_so. option_map (schedule_by s process starts_so) (limit_operand site (last_event site xs) s.guard)) (start_operand (first_event site xs) s.start)) (named_process site s.name) given.0 given.1 in
      let two = then_is (λ starts_so. option_map (schedule_by s one.0 starts_so) (limit_operand site (last_event site xs) s.guard)) (start_operand (first_event site xs) s.start) given.0 one.2 in
      let three = mapped_is (schedule_by s one.0 two.0) (limit_operand site (last_event site xs) s.guard) given.0 two.2 in
      weaker code before after (λ from to at. (one.0, two.0, three.0, one.1, two.1, three.1, at))
      (one_placed code before after (instr.Schedule one.0 two.0 (choice.Known (is_given s.priority)) (choice.Known s.dependent) (round_operand s.cycle) three.0) (ap (λ l. before ++ l) three.2 ∙ given.2) begins)

  pub schedule_at : (place : Place) (m : ℕ) (s : Schedule) (before after : List Instr) → schedule_code n site before place (stated_at_mark (here_at site) m) s ≡ Ok after → Begins after code.image.code
      → Placed code before after (λ from to. ScheduledAt code site m s from to)
  schedule_at place m s before after e begins =
      let xs = stated_at_mark (here_at site) m in
      weaker code before after
      (λ from to at. let asked = at.2.2.2.2 in let named = named_is code n site numbered s.name asked.0 asked.3 in
      record {
        begins = asked.1;
        given = choice.Known (is_given s.priority);
        again = round_operand s.cycle;
        until = asked.2;
        number = asked.0;
        second = at.0;
        third = at.2.0;
        fourth = at.2.2.0;
        last = at.2.2.2.0;
        first_is = at.1 asked.1 asked.4;
        second_is = at.2.1;
        third_is = at.2.2.1;
        fourth_is = at.2.2.2.1 asked.2 asked.5;
        process = named.process;
        there = named.there;
        asks = asked.6;
      })
      (both_placed code (start_code n site before s.start) _ before after e (λ first there begun. start_at xs s.start before first there begun)
      (λ first e1. both_placed code (priority_code n site first s.priority) _ first after e1 (λ second there begun. priority_at s.priority first second there begun)
      (λ second e2. both_placed code (round_code n site second s.cycle) _ second after e2 (λ third there begun. round_at s.cycle second third there begun)
      (λ third e3. both_placed code (limit_code n site third s.guard) _ third after e3 (λ fourth there begun. limit_at xs s.guard third fourth there begun)
      (λ fourth e4. asked_at place xs s fourth after e4 begins)))))

  -- UPDATE PRIORITY
  self_is : (name : Option Naming) (number : ℕ) → named_or_self site name ≡ Some number → NamedOrSelf site name number
  self_is None number is = let same : number ≡ 255 = cc in same
  self_is (Some name) number is = named_is code n site numbered name number is

  pub update_priority_at : (place : Place) (name : Option Naming) (tree : Expression) (before after : List Instr) → update_priority_code n site before place name tree ≡ Ok after → Begins after code.image.code
      → Placed code before after (λ from to. PrioritizedAt code site name tree from to)
  update_priority_at place name tree before after e begins =
      weaker code before after (λ from to at. (at.2.0, at.0, at.2.1, at.1, at.2.2))
      (both_placed code {B = λ from to. (number : ℕ) × NamedOrSelf site name number × One code from (instr.Priority number) to} (expression_code n site before tree) (λ middle. emit middle place (option_map (λ process. instr.Priority process ∷ []) (named_or_self site name))) before after e
      (λ middle there begun. expression_at code n site numbered tree before middle there begun)
      (λ middle there. let given = single_placed code n site numbered instr.Priority (named_or_self site name) place middle after there begins in
      weaker code middle after (λ from to at. (given.0, self_is name given.0 given.1, at)) given.2))
