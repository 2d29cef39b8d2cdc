-- The code of real-time statements fits.
use Rattle.std.specs.Prelude.{◌≡◌, ℕ, suc, ◌==◌, nat_lt, length, Bool, true, false, ◌&&◌, ◌||◌, List, [], ◌∷◌, Option, Some, None}
use Rattle.std.specs.Option.{option_and_then}
use Rattle.std.proofs.Common.{refl, sym, ap, ◌∙◌}
use Rattle.std.proofs.lemmas.List.{length-map}
use Rattle.hal_grammar.specs.Leaves.{Naming}
use Rattle.hal_grammar.specs.Expressions.{Expression, Or, And, Compare, Cat, Sum, Product, Power, Not, Literal, Decimal, Referred, Called, Convert, Parenthesis}
use Rattle.hal_grammar.specs.Statements.{Guard, While, Until, Start, StartAt, StartIn, StartOn, Cycle, Cyclic, CyclicEvery, CyclicAfter, Schedule, EventAction, Signal, Set, Reset}
use Rattle.hal_scope.specs.Uses.{holds_event}
use Rattle.hal_values.specs.declared.plan.Guard as guards
use Rattle.hal_values.specs.declared.plan.Guard.TheVariants as guard
use Rattle.hal_values.specs.declared.tables.Tables.{Tables}
use Rattle.hal_values.specs.Tables.{process_count}
use Rattle.hal_meaning.specs.RealTime.{stated_at_mark}
use Rattle.hal_code.specs.declared.choice.Choice.{Choice}
use Rattle.hal_code.specs.declared.choice.Choice.TheVariants as choice
use Rattle.hal_code.specs.declared.image.ImageParts.{ImageParts}
use Rattle.hal_code.specs.declared.instr.Instr.{Instr}
use Rattle.hal_code.specs.declared.instr.Instr.TheVariants as instr
use Rattle.hal_code.specs.declared.operand.Delay.{Delay}
use Rattle.hal_code.specs.declared.operand.Delay.TheVariants as delay
use Rattle.hal_code.specs.declared.operand.Limit as limits
use Rattle.hal_code.specs.declared.operand.Limit.TheVariants as limit
use Rattle.hal_code.specs.declared.operand.Round as rounds
use Rattle.hal_code.specs.declared.operand.Round.TheVariants as round
use Rattle.hal_code.specs.declared.operand.Start as starts
use Rattle.hal_code.specs.declared.operand.Start.TheVariants as start
use Rattle.hal_code.specs.declared.operand.Time.{Time}
use Rattle.hal_code.specs.declared.operand.Time.TheVariants as time
use Rattle.hal_code.specs.declared.row.Block.{Block}
use Rattle.hal_code.specs.declared.row.Process.{Process}
use Rattle.hal_code.specs.Images as images
use Rattle.hal_code.specs.Effects.{Sorts, sorts_after, seconds_taken, start_sorts, priority_sorts, round_sorts, limit_sorts, delay_sorts}
use Rattle.hal_code.specs.Operands.{operands_right, is_known, is_process, is_named, is_time, is_expression, is_start, is_round, is_limit, is_delay}
use Rattle.hal_code.specs.Right.{stands_outside}
use Rattle.hal_code.specs.Sorts.{I}
use Rattle.hal_agreement.specs.Codes.{Code}
use Rattle.hal_agreement.specs.Sites.{Site, here_at}
use Rattle.hal_agreement.specs.PlacedExpressions.{One, ExpressionAt}
use Rattle.hal_agreement.specs.PlacedTimes.{TimeAt, PauseAt, There, FirstAt, StartsAt, PriorityAt, RoundAt, LastAt, UntilAt, LimitAt, NamedAt, ScheduledAt, NamedOrSelf, PrioritizedAt}
use Rattle.hal_agreement.specs.PlacedStatements.{changes, EventAt, EachAt, NamedOrOwnAt}
use Rattle.hal_fitting.specs.Fitting.{Ground, goes_on, Fits}
use Rattle.hal_fitting.proofs.Joining.{nothing_fits, both_fit}
use Rattle.hal_fit_expr.specs.Uses.{Uses}
use Rattle.hal_fit_expr.specs.Sorted.{sort_of_expression}
use Rattle.hal_fit_expr.specs.Serving.{Serves}
use Rattle.hal_fit_expr.proofs.Expressed.{expression_fits}
use Rattle.hal_fit.specs.Timed.{TimeFits, StartFits, PriorityFits, CycleFits, EndFits, LimitFits, ScheduleFits}
use Rattle.hal_fit.proofs.Channeling.{both_true, outside_fits}

either_first : (a b : Bool) → a ≡ true → (a || b) ≡ true
either_first true b is = refl
either_first false b is = absurd (cc)

either_second : (a b : Bool) → b ≡ true → (a || b) ≡ true
either_second true b is = refl
either_second false b is = is

-- an instruction that asks about a process, by its number
record AsksOf (image : ImageParts) (block : Block) (b : ℕ) (asks : ℕ → Instr) : Type 0 where
  operands : (p : ℕ) → is_named image p ≡ true → operands_right image block b (asks p) ≡ true
  stands : (p : ℕ) → stands_outside (asks p) ≡ true
  onward : (p : ℕ) → goes_on (asks p) ≡ true
  effect : (p : ℕ) → sorts_after image block (asks p) [] ≡ Some []

-- SIGNAL, SET and RESET
change_stands : (action : EventAction) (e : ℕ) → stands_outside (changes action e) ≡ true
change_stands Signal e = refl
change_stands Set e = refl
change_stands Reset e = refl

change_onward : (action : EventAction) (e : ℕ) → goes_on (changes action e) ≡ true
change_onward Signal e = refl
change_onward Set e = refl
change_onward Reset e = refl

change_effect : (image : ImageParts) (block : Block) (action : EventAction) (e : ℕ) → sorts_after image block (changes action e) [] ≡ Some []
change_effect image block Signal e = refl
change_effect image block Set e = refl
change_effect image block Reset e = refl

module _ (code : Code) (g : Ground) (outside : g.inside ≡ false) where
  pub change_fits : (action : EventAction) (e from to : ℕ) → operands_right code.image g.block g.number (changes action e) ≡ true → One code from (changes action e) to → Fits code.image g from [] to []
  change_fits action e from to operands at =
      outside_fits code.image g (changes action e) from to [] [] outside (change_stands action e) (change_onward action e) operands (change_effect code.image g.block action e) at.0 at.1

  -- WAIT for dependent processes
  pub dependents_fit : (from to : ℕ) → One code from (instr.Wait delay.Dependents) to → Fits code.image g from [] to []
  dependents_fit from to at = outside_fits code.image g (instr.Wait delay.Dependents) from to [] [] outside refl refl refl refl at.0 at.1

  module _ (site : Site) (tables : images.tables_of code.image ≡ site.set.tables) where
    expression_there : (x : ℕ) → There site x → is_expression code.image x ≡ true
    expression_there x there = ap (λ (t : Tables). nat_lt x (length t.expressions)) tables ∙ there

    process_there : (p : ℕ) → nat_lt p (process_count site.set.tables) ≡ true → is_process code.image p ≡ true
    process_there p there =
        ap (nat_lt p) (sym (length-map code.image.processes (λ (one : Process). one.name))) ∙ (ap (λ (t : Tables). nat_lt p (process_count t)) tables ∙ there)

    named_there : (name : Naming) (p : ℕ) → NamedAt site name p → is_named code.image p ≡ true
    named_there name p named = either_first (is_process code.image p) (p == 255) (process_there p named.there)

    own_there : is_named code.image 255 ≡ true
    own_there = either_second (is_process code.image 255) (255 == 255) refl

    -- WAIT FOR an event expression
    pub wait_fits : (xs : List ℕ) (from to : ℕ) → EventAt code site xs from to → Fits code.image g from [] to []
    wait_fits [] from to at = absurd (at)
    wait_fits (x ∷ xs) from to at = outside_fits code.image g (instr.Wait (delay.Event x)) from to [] [] outside refl refl (expression_there x at.0) refl at.1.0 at.1.1

    -- CANCEL and TERMINATE
    each_fits : (names : List Naming) (asks : ℕ → Instr) (from to : ℕ) → AsksOf code.image g.block g.number asks → EachAt code site asks names from to → Fits code.image g from [] to []
    each_fits [] asks from to known at = nothing_fits code.image g from to [] at
    each_fits (name ∷ names) asks from to known at =
        both_fit code.image g
        (outside_fits code.image g (asks at.0) from (suc from) [] [] outside (known.stands at.0) (known.onward at.0) (known.operands at.0 (named_there name at.0 at.1)) (known.effect at.0) at.2 refl)
        (each_fits names asks (suc from) to known at.3)

    named_fits : (names : List Naming) (asks : ℕ → Instr) (from to : ℕ) → AsksOf code.image g.block g.number asks → NamedOrOwnAt code site asks names from to → Fits code.image g from [] to []
    named_fits [] asks from to known at = outside_fits code.image g (asks 255) from to [] [] outside (known.stands 255) (known.onward 255) (known.operands 255 own_there) (known.effect 255) at.0 at.1
    named_fits (name ∷ names) asks from to known at = each_fits (name ∷ names) asks from to known at

    pub cancel_fits : (names : List Naming) (from to : ℕ) → NamedOrOwnAt code site instr.Cancel names from to → Fits code.image g from [] to []
    cancel_fits names from to at = named_fits names instr.Cancel from to (record { operands = λ p is. is; stands = λ p. refl; onward = λ p. refl; effect = λ p. refl }) at

    pub terminate_fits : (names : List Naming) (from to : ℕ) → NamedOrOwnAt code site instr.Terminate names from to → Fits code.image g from [] to []
    terminate_fits names from to at = named_fits names instr.Terminate from to (record { operands = λ p is. is; stands = λ p. refl; onward = λ p. refl; effect = λ p. refl }) at

    module _ (u : Uses) (serves : Serves code g site.set site.places u) where
      -- an operand that an instruction takes
      record Taken (take : Sorts → Option Sorts) (from to : ℕ) (stack : Sorts) : Type 0 where
        pushed : Sorts
        fits : Fits code.image g from stack to pushed
        taken : take pushed ≡ Some stack

      -- one that needs no code
      none_taken : (take : Sorts → Option Sorts) (from to : ℕ) (stack : Sorts) → take stack ≡ Some stack → from ≡ to → Taken take from to stack
      none_taken take from to stack takes same = record { pushed = stack; fits = nothing_fits code.image g from to stack same; taken = takes }

      -- an integer
      one_taken : (take : Sorts → Option Sorts) (tree : Expression) (from to : ℕ) (stack : Sorts) → take (I ∷ stack) ≡ Some stack → sort_of_expression u site tree ≡ Some I → ExpressionAt code site tree from to
          → Taken take from to stack
      one_taken take tree from to stack takes sorted at = record { pushed = I ∷ stack; fits = expression_fits code g site u serves tree I from to stack sorted at; taken = takes }

      -- a time
      record Timed (t : Time) (from to : ℕ) (stack : Sorts) : Type 0 where
        fine : is_time t ≡ true
        operand : Taken (seconds_taken t) from to stack

      seconds_timed : (tree : Expression) (t : Time) (from to : ℕ) (stack : Sorts) → sort_of_expression u site tree ≡ Some I → (t ≡ time.Seconds) × ExpressionAt code site tree from to → Timed t from to stack
      seconds_timed tree t from to stack sorted at =
          record { fine = ap is_time at.0; operand = one_taken (seconds_taken t) tree from to stack (ap (λ one. seconds_taken one (I ∷ stack)) at.0) sorted at.1 }

      time_there : (tree : Expression) (t : Time) (from to : ℕ) (stack : Sorts) → TimeFits u site tree → TimeAt code site tree t from to → Timed t from to stack
      time_there (Decimal place number) t from to stack fits at =
          record { fine = ap is_time at.0 ∙ fits; operand = none_taken (seconds_taken t) from to stack (ap (λ one. seconds_taken one stack) at.0) at.1 }
      time_there (Or place first others) t from to stack fits at = seconds_timed (Or place first others) t from to stack fits at
      time_there (And place first others) t from to stack fits at = seconds_timed (And place first others) t from to stack fits at
      time_there (Compare place left relation right) t from to stack fits at = seconds_timed (Compare place left relation right) t from to stack fits at
      time_there (Cat place first others) t from to stack fits at = seconds_timed (Cat place first others) t from to stack fits at
      time_there (Sum place opening first others) t from to stack fits at = seconds_timed (Sum place opening first others) t from to stack fits at
      time_there (Product place first others) t from to stack fits at = seconds_timed (Product place first others) t from to stack fits at
      time_there (Power place base exponent) t from to stack fits at = seconds_timed (Power place base exponent) t from to stack fits at
      time_there (Not place operand) t from to stack fits at = seconds_timed (Not place operand) t from to stack fits at
      time_there (Literal place literal) t from to stack fits at = seconds_timed (Literal place literal) t from to stack fits at
      time_there (Referred reference) t from to stack fits at = seconds_timed (Referred reference) t from to stack fits at
      time_there (Called place name arguments) t from to stack fits at = seconds_timed (Called place name arguments) t from to stack fits at
      time_there (Convert place conversion operand) t from to stack fits at = seconds_timed (Convert place conversion operand) t from to stack fits at
      time_there (Parenthesis place inner) t from to stack fits at = seconds_timed (Parenthesis place inner) t from to stack fits at

      -- one of an operand
      timed_by : (take : Sorts → Option Sorts) (t : Time) (from to : ℕ) (stack : Sorts) → ((pushed : Sorts) → take pushed ≡ seconds_taken t pushed) → Timed t from to stack → Taken take from to stack
      timed_by take t from to stack same timed = record { pushed = timed.operand.pushed; fits = timed.operand.fits; taken = same timed.operand.pushed ∙ timed.operand.taken }

      -- WAIT
      pause_fits : (delays : Time → Delay) (tree : Expression) (from to : ℕ) → ((t : Time) → is_delay code.image (delays t) ≡ is_time t) → ((t : Time) (pushed : Sorts) → delay_sorts (delays t) pushed ≡ seconds_taken t pushed)
          → TimeFits u site tree → PauseAt code site delays tree from to → Fits code.image g from [] to []
      pause_fits delays tree from to times takes fits at =
          let timed = time_there tree at.0 from at.1 [] fits at.2 in
          both_fit code.image g timed.operand.fits
          (outside_fits code.image g (instr.Wait (delays at.0)) at.1 to timed.operand.pushed [] outside refl refl (times at.0 ∙ timed.fine) (takes at.0 timed.operand.pushed ∙ timed.operand.taken) at.3.0 at.3.1)

      pub wait_for_fits : (tree : Expression) (from to : ℕ) → TimeFits u site tree → PauseAt code site delay.For tree from to → Fits code.image g from [] to []
      wait_for_fits tree from to fits at = pause_fits delay.For tree from to (λ t. refl) (λ t pushed. refl) fits at

      pub wait_until_fits : (tree : Expression) (from to : ℕ) → TimeFits u site tree → PauseAt code site delay.Until tree from to → Fits code.image g from [] to []
      wait_until_fits tree from to fits at = pause_fits delay.Until tree from to (λ t. refl) (λ t pushed. refl) fits at

      -- UPDATE PRIORITY
      self_there : (name : Option Naming) (p : ℕ) → NamedOrSelf site name p → is_named code.image p ≡ true
      self_there None p is = ap (is_named code.image) is ∙ own_there
      self_there (Some name) p is = named_there name p is

      pub priority_fits : (name : Option Naming) (tree : Expression) (from to : ℕ) → sort_of_expression u site tree ≡ Some I → PrioritizedAt code site name tree from to → Fits code.image g from [] to []
      priority_fits name tree from to sorted at =
          both_fit code.image g (expression_fits code g site u serves tree I from at.1 [] sorted at.3)
          (outside_fits code.image g (instr.Priority at.0) at.1 to (I ∷ []) [] outside refl refl (self_there name at.0 at.2) refl at.4.0 at.4.1)

      -- when a process starts
      starts_on : (xs : List ℕ) (begins : starts.Start) (from to : ℕ) (stack : Sorts) → FirstAt site xs begins → from ≡ to → (is_start code.image begins ≡ true) × Taken (start_sorts begins) from to stack
      starts_on [] begins from to stack at same = absurd (at)
      starts_on (x ∷ xs) begins from to stack at same =
          (ap (is_start code.image) at.0 ∙ expression_there x at.1, none_taken (start_sorts begins) from to stack (ap (λ one. start_sorts one stack) at.0) same)

      starts_by : (of_time : Time → starts.Start) (tree : Expression) (begins : starts.Start) (t : Time) (from to : ℕ) (stack : Sorts) → ((one : Time) → is_start code.image (of_time one) ≡ is_time one)
          → ((one : Time) (pushed : Sorts) → start_sorts (of_time one) pushed ≡ seconds_taken one pushed) → TimeFits u site tree → begins ≡ of_time t → TimeAt code site tree t from to
          → (is_start code.image begins ≡ true) × Taken (start_sorts begins) from to stack
      starts_by of_time tree begins t from to stack times takes fits is at =
          let timed = time_there tree t from to stack fits at in (
            ap (is_start code.image) is ∙ (times t ∙ timed.fine),
            timed_by (start_sorts begins) t from to stack (λ pushed. ap (λ one. start_sorts one pushed) is ∙ takes t pushed) timed,
          )

      starts_there : (o : Option Start) (xs : List ℕ) (begins : starts.Start) (from to : ℕ) (stack : Sorts) → StartFits u site o → StartsAt code site xs o begins from to
          → (is_start code.image begins ≡ true) × Taken (start_sorts begins) from to stack
      starts_there None xs begins from to stack fits at = (ap (is_start code.image) at.0, none_taken (start_sorts begins) from to stack (ap (λ one. start_sorts one stack) at.0) at.1)
      starts_there (Some (StartAt place tree)) xs begins from to stack fits at = starts_by start.At tree begins at.0 from to stack (λ one. refl) (λ one pushed. refl) fits at.1 at.2
      starts_there (Some (StartIn place tree)) xs begins from to stack fits at = starts_by start.In tree begins at.0 from to stack (λ one. refl) (λ one pushed. refl) fits at.1 at.2
      starts_there (Some (StartOn place tree)) xs begins from to stack fits at = starts_on xs begins from to stack at.0 at.1

      -- its priority
      priority_there : (o : Option Expression) (given : Choice Bool) (from to : ℕ) (stack : Sorts) → PriorityFits u site o → PriorityAt code site o given from to
          → (is_known given ≡ true) × Taken (priority_sorts given) from to stack
      priority_there None given from to stack fits at = (ap is_known at.0, none_taken (priority_sorts given) from to stack (ap (λ one. priority_sorts one stack) at.0) at.1)
      priority_there (Some tree) given from to stack fits at = (ap is_known at.0, one_taken (priority_sorts given) tree from to stack (ap (λ one. priority_sorts one (I ∷ stack)) at.0) fits at.1)

      -- its cycle
      rounds_by : (of_time : Time → rounds.Round) (tree : Expression) (again : rounds.Round) (t : Time) (from to : ℕ) (stack : Sorts) → ((one : Time) → is_round (of_time one) ≡ is_time one)
          → ((one : Time) (pushed : Sorts) → round_sorts (of_time one) pushed ≡ seconds_taken one pushed) → TimeFits u site tree → again ≡ of_time t → TimeAt code site tree t from to
          → (is_round again ≡ true) × Taken (round_sorts again) from to stack
      rounds_by of_time tree again t from to stack times takes fits is at =
          let timed = time_there tree t from to stack fits at in (
            ap is_round is ∙ (times t ∙ timed.fine),
            timed_by (round_sorts again) t from to stack (λ pushed. ap (λ one. round_sorts one pushed) is ∙ takes t pushed) timed,
          )

      round_there : (o : Option Cycle) (again : rounds.Round) (from to : ℕ) (stack : Sorts) → CycleFits u site o → RoundAt code site o again from to → (is_round again ≡ true) × Taken (round_sorts again) from to stack
      round_there None again from to stack fits at = (ap is_round at.0, none_taken (round_sorts again) from to stack (ap (λ one. round_sorts one stack) at.0) at.1)
      round_there (Some (Cyclic place)) again from to stack fits at = (ap is_round at.0, none_taken (round_sorts again) from to stack (ap (λ one. round_sorts one stack) at.0) at.1)
      round_there (Some (CyclicEvery place tree)) again from to stack fits at = rounds_by round.Every tree again at.0 from to stack (λ one. refl) (λ one pushed. refl) fits at.1 at.2
      round_there (Some (CyclicAfter place tree)) again from to stack fits at = rounds_by round.After tree again at.0 from to stack (λ one. refl) (λ one pushed. refl) fits at.1 at.2

      -- what ends its cycles
      ends_by : (by : ℕ → guards.Guard) (ends : ℕ → limits.Limit) (xs : List ℕ) (until : limits.Limit) (from to : ℕ) (stack : Sorts) → ((x : ℕ) → is_limit code.image (ends x) ≡ is_expression code.image x)
          → ((x : ℕ) (pushed : Sorts) → limit_sorts (ends x) pushed ≡ Some pushed) → LastAt site xs by ends until → from ≡ to → (is_limit code.image until ≡ true) × Taken (limit_sorts until) from to stack
      ends_by by ends xs until from to stack there takes at same = (
        ap (is_limit code.image) at.1 ∙ (there at.0 ∙ expression_there at.0 at.3),
        none_taken (limit_sorts until) from to stack (ap (λ one. limit_sorts one stack) at.1 ∙ takes at.0 stack) same,
      )

      until_there : (b : Bool) (xs : List ℕ) (tree : Expression) (until : limits.Limit) (from to : ℕ) (stack : Sorts) → EndFits u site b tree → UntilAt code site xs b tree until from to
          → (is_limit code.image until ≡ true) × Taken (limit_sorts until) from to stack
      until_there true xs tree until from to stack fits at = ends_by guard.Until limit.Until xs until from to stack (λ x. refl) (λ x pushed. refl) at.0 at.1
      until_there false xs tree until from to stack fits at =
          let timed = time_there tree at.0 from to stack fits at.2 in (
            ap (is_limit code.image) at.1 ∙ timed.fine,
            timed_by (limit_sorts until) at.0 from to stack (λ pushed. ap (λ one. limit_sorts one pushed) at.1) timed,
          )

      limit_there : (o : Option Guard) (xs : List ℕ) (until : limits.Limit) (from to : ℕ) (stack : Sorts) → LimitFits u site o → LimitAt code site xs o until from to
          → (is_limit code.image until ≡ true) × Taken (limit_sorts until) from to stack
      limit_there None xs until from to stack fits at = (ap (is_limit code.image) at.0, none_taken (limit_sorts until) from to stack (ap (λ one. limit_sorts one stack) at.0) at.1)
      limit_there (Some (While place tree)) xs until from to stack fits at = ends_by guard.While limit.While xs until from to stack (λ x. refl) (λ x pushed. refl) at.0 at.1
      limit_there (Some (Until place tree)) xs until from to stack fits at = until_there (holds_event site.set.phrases site.block tree) xs tree until from to stack fits at

      -- SCHEDULE
      pub schedule_fits : (s : Schedule) (m from to : ℕ) → ScheduleFits u site s → ScheduledAt code site m s from to → Fits code.image g from [] to []
      schedule_fits s m from to fits at =
          let one = starts_there s.start (stated_at_mark (here_at site) m) at.begins from at.second [] fits.first at.first_is in
          let two = priority_there s.priority at.given at.second at.third one.1.pushed fits.second at.second_is in
          let three = round_there s.cycle at.again at.third at.fourth two.1.pushed fits.third at.third_is in
          let four = limit_there s.guard (stated_at_mark (here_at site) m) at.until at.fourth at.last three.1.pushed fits.fourth at.fourth_is in
          both_fit code.image g one.1.fits
          (both_fit code.image g two.1.fits
          (both_fit code.image g three.1.fits
          (both_fit code.image g four.1.fits
          (outside_fits code.image g (instr.Schedule at.number at.begins at.given (choice.Known s.dependent) at.again at.until) at.last to four.1.pushed [] outside refl refl
          (both_true (is_process code.image at.number && (is_start code.image at.begins && is_known at.given)) (true && (is_round at.again && is_limit code.image at.until))
          (both_true (is_process code.image at.number) (is_start code.image at.begins && is_known at.given) (process_there at.number at.there)
          (both_true (is_start code.image at.begins) (is_known at.given) one.0 two.0))
          (both_true (is_round at.again) (is_limit code.image at.until) three.0 four.0))
          (ap (λ o. option_and_then (start_sorts at.begins) (option_and_then (priority_sorts at.given) (option_and_then (round_sorts at.again) o))) four.1.taken
          ∙ (ap (λ o. option_and_then (start_sorts at.begins) (option_and_then (priority_sorts at.given) o)) three.1.taken ∙ (ap (option_and_then (start_sorts at.begins)) two.1.taken ∙ one.1.taken)))
          at.asks.0 at.asks.1))))
