-- What is said of real-time statements.
use Rattle.std.specs.Prelude.{ℕ, suc, ◌+◌, ◌≤◌, ◌<◌, ◌≡◌, ◌==◌, nat_lt, length, List, [], ◌∷◌, ℤ, pos, ◌*ℤ◌, slice_get, Bool, true, false, Option, Some, None, if◌then◌else◌}
use Rattle.std.proofs.Common.{refl, arith}
use Rattle.std.proofs.lemmas.Bool.{ltb-true}
use Rattle.hal_grammar.specs.Leaves.{Naming}
use Rattle.hal_grammar.specs.Expressions.{Expression, Or, And, Compare, Cat, Sum, Product, Power, Not, Literal, Decimal, Referred, Called, Convert, Parenthesis}
use Rattle.hal_grammar.specs.Statements.{Guard, While, Until, Start, StartAt, StartIn, StartOn, Cycle, Cyclic, CyclicEvery, CyclicAfter, Schedule, Eventful, EventAction, Signal, Set, Reset}
use Rattle.hal_scope.specs.Uses.{holds_event}
use Rattle.hal_values.specs.declared.plan.Cycle as cycles
use Rattle.hal_values.specs.declared.plan.Guard as guards
use Rattle.hal_values.specs.declared.plan.Guard.TheVariants as guard
use Rattle.hal_values.specs.declared.request.Request.{Request}
use Rattle.hal_values.specs.declared.request.Request.TheVariants as request
use Rattle.hal_values.specs.declared.tables.Tables.{Tables}
use Rattle.hal_values.specs.Answers.{Answered, error}
use Rattle.hal_values.specs.Answers as answered
use Rattle.hal_values.specs.Requests.{IsTime, HasExpression, HasProcess, IsInOrder, IsWhenInOrder, IsCycleInOrder, IsGuardInOrder}
use Rattle.hal_values.specs.Tables.{process_count}
use Rattle.hal_states.specs.Numbers.{integer_of}
use Rattle.hal_states.specs.Times.{milliseconds, Again, nearest_priority, is_priority, plan_of, is_again, cycle_of}
use Rattle.hal_meaning.specs.Events.{Stated, event_named}
use Rattle.hal_meaning.specs.States.{State, Evaluated, Gives, bind}
use Rattle.hal_meaning.specs.Access.{Here}
use Rattle.hal_meaning.specs.Expressions.{expression}
use Rattle.hal_meaning.specs.RealTime.{time, stated_from, stated_at_mark, on_first, by_last, process_named, process_or_own, start, priority, again, limit as guarded, checked_priority, checked_again, answered_by, request_tried, scheduled, each_named, named_or_own, priority_changed, change_of, eventful}
use Rattle.hal_meaning.specs.Tasks.{Meaning}
use Rattle.hal_states.proofs.Timing.{limited_is, IsAgain, cycle_is}
use Rattle.hal_meaning.proofs.Going.{pushed, Goes, Fine, Answers, Goes-bind}
use Rattle.hal_meaning.proofs.Accessing.{after_answer, Goes-ask, Goes-if, Goes-raise, Goes-event, IsChange, signals, sets, resets}
use Rattle.hal_meaning.proofs.Able.{Ready, Runs, Fit, seq}
use Rattle.hal_meaning.proofs.Expressing.{Runs-mapped, Runs-expression}

-- an evaluation of whose value this is said
abbrev pub Gets : {A : Type 0} → Here → ℕ → Answered → (A → Type 0) → Evaluated A → Evaluated A → Type 0
Gets {A = A} h limit a Is done other = Goes h.set.tables h.set.turns limit a (λ (v : A) (st : State). Is v × Fit h limit st) done other

-- one after another
pub with_got : {A B : Type 0} (h : Here) (limit : ℕ) (a : Answered) (Is : A → Type 0) (Then : B → State → Type 0) (done other : Evaluated A) (go next : A → State → Evaluated B) → Gets h limit a Is done other
    → ((v : A) (st : State) → Is v → Fit h limit st → Goes h.set.tables h.set.turns limit a Then (go v st) (next v (pushed a st))) → Goes h.set.tables h.set.turns limit a Then (bind done go) (bind other next)
with_got {A = A} h limit a Is Then done other go next is goes =
    Goes-bind h.set.tables h.set.turns limit a (λ (v : A) (st : State). Is v × Fit h limit st) Then done other go next is (λ v st known. goes v st known.0 known.1)

-- a value of which this is said is made of another one
pub got_of : {A B : Type 0} (h : Here) (limit : ℕ) (a : Answered) (Is : B → Type 0) (done other : Evaluated A) (f : A → B) → ((v : A) → Is (f v)) → Runs h limit a done other
    → Gets h limit a Is (bind done (λ v after. Gives (f v) after)) (bind other (λ v after. Gives (f v) after))
got_of {B = B} h limit a Is done other f each is =
    Goes-bind h.set.tables h.set.turns limit a (Fine h.set.tables h.set.turns limit) (λ (v : B) (st : State). Is v × Fit h limit st) done other _ _ is (λ v st fit. ((each v, fit), refl))

module _ (h : Here) (limit n : ℕ) (a : Answered) (rec after : Meaning) (ready : Ready h limit n a rec after) where
  seconds : (tree : Expression) (st : State) → Fit h limit st
      → Gets h limit a IsTime (bind (expression rec h tree st) (λ v later. Gives (milliseconds v) later)) (bind (expression after h tree (pushed a st)) (λ v later. Gives (milliseconds v) later))
  seconds tree st fit = got_of h limit a IsTime _ _ milliseconds (λ v. limited_is (integer_of v *ℤ pos 1000)) (Runs-expression h limit n a rec after ready tree st fit)

  pub Gets-time : (tree : Expression) (st : State) → Fit h limit st → Gets h limit a IsTime (time rec h tree st) (time after h tree (pushed a st))
  Gets-time (Decimal place number) st fit = ((limited_is (pos number), fit), refl)
  Gets-time (Or place first others) st fit = seconds (Or place first others) st fit
  Gets-time (And place first others) st fit = seconds (And place first others) st fit
  Gets-time (Compare place left relation right) st fit = seconds (Compare place left relation right) st fit
  Gets-time (Cat place first others) st fit = seconds (Cat place first others) st fit
  Gets-time (Sum place opening first others) st fit = seconds (Sum place opening first others) st fit
  Gets-time (Product place first others) st fit = seconds (Product place first others) st fit
  Gets-time (Power place base exponent) st fit = seconds (Power place base exponent) st fit
  Gets-time (Not place operand) st fit = seconds (Not place operand) st fit
  Gets-time (Literal place literal) st fit = seconds (Literal place literal) st fit
  Gets-time (Referred reference) st fit = seconds (Referred reference) st fit
  Gets-time (Called place name arguments) st fit = seconds (Called place name arguments) st fit
  Gets-time (Convert place conversion operand) st fit = seconds (Convert place conversion operand) st fit
  Gets-time (Parenthesis place inner) st fit = seconds (Parenthesis place inner) st fit

-- the event expressions of a statement exist
abbrev pub EachStated : ℕ → List ℕ → Type 0
EachStated count [] = Unit {0}
EachStated count (x ∷ xs) = (x < count) × EachStated count xs

either_stated : (m count : ℕ) (xs : List ℕ) (b : Bool) → m < count → EachStated count xs → EachStated count (if b then m ∷ xs else xs)
either_stated m count xs true less each = (less, each)
either_stated m count xs false less each = each

stated_exist : (m k : ℕ) (list : List Stated) (count : ℕ) → m + length list ≤ count → EachStated count (stated_from m k list)
stated_exist m k [] count few = tt
stated_exist m k (one ∷ others) count few = either_stated m count (stated_from (suc m) k others) (one.statement == k) (omega arith) (stated_exist (suc m) k others count (omega arith))

at_found : (h : Here) (count : ℕ) (found : Option ℕ) → length h.set.stated ≤ count → EachStated count (elim found [ None ↦ [] | Some k ↦ stated_from 0 k h.set.stated ])
at_found h count None few = tt
at_found h count (Some k) few = stated_exist 0 k h.set.stated count (omega arith)

-- those of the statement with this mark
pub at_mark_exist : (h : Here) (m count : ℕ) → length h.set.stated ≤ count → EachStated count (stated_at_mark h m)
at_mark_exist h m count few = at_found h count (slice_get h.marks m) few

on_first_is : (tables : Tables) (xs : List ℕ) → EachStated (length tables.expressions) xs → IsWhenInOrder tables (on_first xs)
on_first_is tables [] each = tt
on_first_is tables (x ∷ xs) each = each.0

by_last_is : (tables : Tables) (by : ℕ → guards.Guard) (xs : List ℕ) → ((x : ℕ) → HasExpression tables x → IsGuardInOrder tables (by x)) → EachStated (length tables.expressions) xs → IsGuardInOrder tables (by_last by xs)
by_last_is tables by [] order each = tt
by_last_is tables by (x ∷ []) order each = order x each.0
by_last_is tables by (x ∷ y ∷ more) order each = by_last_is tables by (y ∷ more) order each.1

process_is : (count e : ℕ) (b : Bool) → nat_lt e count ≡ b → 0 < count → (if b then e else 0) < count
process_is count e true is some = ltb-true e count is
process_is count e false is some = some

some_below : (p count : ℕ) → p < count → 0 < count
some_below p count less = omega arith

-- the process of a name exists
pub named_exists : (h : Here) (name : Naming) → h.process < process_count h.set.tables → HasProcess h.set.tables (process_named h name)
named_exists h name own =
    process_is (process_count h.set.tables) (event_named h.set.phrases h.block name.name) (nat_lt (event_named h.set.phrases h.block name.name) (process_count h.set.tables)) refl (some_below h.process (process_count h.set.tables) own)

pub or_own_exists : (h : Here) (name : Option Naming) → h.process < process_count h.set.tables → HasProcess h.set.tables (process_or_own h name)
or_own_exists h None own = own
or_own_exists h (Some name) own = named_exists h name own

pub Runs-answered : (h : Here) (limit : ℕ) (a : Answered) (answer : Answered) (st : State) → Fit h limit st → Runs h limit a (answered_by h answer st) (answered_by h answer (pushed a st))
Runs-answered h limit a (answered.Wrong e) st fit = Goes-raise h h.set.turns limit a e st fit
Runs-answered h limit a answered.Begun st fit = (fit, refl)
Runs-answered h limit a (answered.Told v) st fit = (fit, refl)
Runs-answered h limit a answered.Done st fit = (fit, refl)
Runs-answered h limit a (answered.Block snapshot made) st fit = (fit, refl)
Runs-answered h limit a answered.Killed st fit = (fit, refl)

-- a request to which an error may be the answer
pub Runs-tried : (h : Here) (limit : ℕ) (a : Answered) (r : Request) (st : State) → ((r ≡ request.Finish) → ⊥) → IsInOrder h.set.tables r → Fit h limit st
    → Runs h limit a (request_tried h r st) (request_tried h r (pushed a st))
Runs-tried h limit a r st other order fit =
    Goes-bind h.set.tables h.set.turns limit a (Answers h.set.tables h.set.turns limit) (Fine h.set.tables h.set.turns limit) _ _ _ _ (Goes-ask h.set.tables h.set.turns limit a r st other order fit)
    (λ answer later known. Runs-answered h limit a answer later (after_answer h.set.tables h.set.turns limit answer later known))

pub Runs-priority : (h : Here) (limit : ℕ) (a : Answered) (p : ℤ) (st : State) → Fit h limit st → Runs h limit a (checked_priority h p st) (checked_priority h p (pushed a st))
Runs-priority h limit a p st fit =
    Goes-if h.set.tables h.set.turns limit a (Fine h.set.tables h.set.turns limit) (is_priority p) _ _ _ _ (λ is. (fit, refl))
    (λ is. Runs-mapped h limit a _ _ (λ ignored. nearest_priority p) (Goes-raise h h.set.turns limit a (error 2 4) st fit))

Gets-again : (h : Here) (limit : ℕ) (a : Answered) (one : Again) (st : State) → IsAgain one → Fit h limit st → Gets h limit a IsCycleInOrder (checked_again h one st) (checked_again h one (pushed a st))
Gets-again h limit a one st is fit =
    Goes-if h.set.tables h.set.turns limit a (λ (v : cycles.Cycle) (later : State). IsCycleInOrder v × Fit h limit later) (is_again one) _ _ _ _ (λ right. ((cycle_is one is, fit), refl))
    (λ wrong. got_of h limit a IsCycleInOrder _ _ (λ ignored. cycle_of one) (λ ignored. cycle_is one is) (Goes-raise h h.set.turns limit a (error 2 5) st fit))

-- the request changes one process alone, and isn't Finish
record IsAsked (tables : Tables) (asks : ℕ → Request) : Type 0 where
  order : (p : ℕ) → HasProcess tables p → IsInOrder tables (asks p)
  other : (p : ℕ) → (asks p ≡ request.Finish) → ⊥

cancels : (tables : Tables) → IsAsked tables request.Cancel
cancels tables = record { order = λ p has. has; other = λ p is. cc }

terminates : (tables : Tables) → IsAsked tables request.Terminate
terminates tables = record { order = λ p has. has; other = λ p is. cc }

changes : (tables : Tables) (one : EventAction) → IsChange tables (change_of one)
changes tables Signal = signals tables
changes tables Set = sets tables
changes tables Reset = resets tables

pub Runs-eventful : (h : Here) (limit : ℕ) (a : Answered) (e : Eventful) (st : State) → Fit h limit st → Runs h limit a (eventful h e st) (eventful h e (pushed a st))
Runs-eventful h limit a e st fit = Goes-event h h.set.turns limit a (change_of e.action) (event_named h.set.phrases h.block e.name.name) st (changes h.set.tables e.action) fit

module _ (h : Here) (limit n : ℕ) (a : Answered) (rec after : Meaning) (ready : Ready h limit n a rec after) where
  Runs-each : (asks : ℕ → Request) → IsAsked h.set.tables asks → (names : List Naming) (st : State) → Fit h limit st → Runs h limit a (each_named h asks names st) (each_named h asks names (pushed a st))
  Runs-each asks is [] st fit = (fit, refl)
  Runs-each asks is (name ∷ names) st fit =
      seq h limit a _ _ _ _ (Runs-tried h limit a (asks (process_named h name)) st (is.other _) (is.order _ (named_exists h name ready.process)) fit) (λ done later known. Runs-each asks is names later known)

  Runs-or_own : (asks : ℕ → Request) → IsAsked h.set.tables asks → (names : List Naming) (st : State) → Fit h limit st → Runs h limit a (named_or_own h asks names st) (named_or_own h asks names (pushed a st))
  Runs-or_own asks is [] st fit = Runs-tried h limit a (asks h.process) st (is.other _) (is.order _ ready.process) fit
  Runs-or_own asks is (name ∷ names) st fit = Runs-each asks is (name ∷ names) st fit

  pub Runs-cancel : (names : List Naming) (st : State) → Fit h limit st → Runs h limit a (named_or_own h request.Cancel names st) (named_or_own h request.Cancel names (pushed a st))
  Runs-cancel names st fit = Runs-or_own request.Cancel (cancels h.set.tables) names st fit

  pub Runs-terminate : (names : List Naming) (st : State) → Fit h limit st → Runs h limit a (named_or_own h request.Terminate names st) (named_or_own h request.Terminate names (pushed a st))
  Runs-terminate names st fit = Runs-or_own request.Terminate (terminates h.set.tables) names st fit

  pub Runs-changed : (name : Option Naming) (tree : Expression) (st : State) → Fit h limit st → Runs h limit a (priority_changed rec h name tree st) (priority_changed after h name tree (pushed a st))
  Runs-changed name tree st fit =
      seq h limit a _ _ _ _ (Runs-expression h limit n a rec after ready tree st fit)
      (λ v st1 fit1. seq h limit a _ _ _ _ (Runs-priority h limit a (integer_of v) st1 fit1)
      (λ p st2 fit2. Runs-tried h limit a (request.Priority (process_or_own h name) p) st2 (λ is. cc) (or_own_exists h name ready.process) fit2))

  Gets-start : (xs : List ℕ) (one : Option Start) (st : State) → EachStated (length h.set.tables.expressions) xs → Fit h limit st
      → Gets h limit a (IsWhenInOrder h.set.tables) (start rec h xs one st) (start after h xs one (pushed a st))
  Gets-start xs None st each fit = ((tt, fit), refl)
  Gets-start xs (Some (StartAt place tree)) st each fit =
      with_got h limit a IsTime _ _ _ _ _ (Gets-time h limit n a rec after ready tree st fit) (λ t later is known. ((is, known), refl))
  Gets-start xs (Some (StartIn place tree)) st each fit =
      with_got h limit a IsTime _ _ _ _ _ (Gets-time h limit n a rec after ready tree st fit) (λ t later is known. ((is, known), refl))
  Gets-start xs (Some (StartOn place tree)) st each fit = ((on_first_is h.set.tables xs each, fit), refl)

  Runs-written : (one : Option Expression) (st : State) → Fit h limit st → Runs h limit a (priority rec h one st) (priority after h one (pushed a st))
  Runs-written None st fit = (fit, refl)
  Runs-written (Some tree) st fit = Runs-mapped h limit a _ _ integer_of (Runs-expression h limit n a rec after ready tree st fit)

  Gets-cycle : (one : Option Cycle) (st : State) → Fit h limit st → Gets h limit a IsAgain (again rec h one st) (again after h one (pushed a st))
  Gets-cycle None st fit = ((tt, fit), refl)
  Gets-cycle (Some (Cyclic place)) st fit = ((tt, fit), refl)
  Gets-cycle (Some (CyclicEvery place tree)) st fit = with_got h limit a IsTime _ _ _ _ _ (Gets-time h limit n a rec after ready tree st fit) (λ t later is known. ((is, known), refl))
  Gets-cycle (Some (CyclicAfter place tree)) st fit = with_got h limit a IsTime _ _ _ _ _ (Gets-time h limit n a rec after ready tree st fit) (λ t later is known. ((is, known), refl))

  Gets-guard : (xs : List ℕ) (one : Option Guard) (st : State) → EachStated (length h.set.tables.expressions) xs → Fit h limit st
      → Gets h limit a (IsGuardInOrder h.set.tables) (guarded rec h xs one st) (guarded after h xs one (pushed a st))
  Gets-guard xs None st each fit = ((tt, fit), refl)
  Gets-guard xs (Some (While place tree)) st each fit = ((by_last_is h.set.tables guard.While xs (λ x has. has) each, fit), refl)
  Gets-guard xs (Some (Until place tree)) st each fit =
      Goes-if h.set.tables h.set.turns limit a (λ (v : guards.Guard) (later : State). IsGuardInOrder h.set.tables v × Fit h limit later) (holds_event h.set.phrases h.block tree) _ _ _ _
      (λ is. ((by_last_is h.set.tables guard.Until xs (λ x has. has) each, fit), refl))
      (λ is. with_got h limit a IsTime _ _ _ _ _ (Gets-time h limit n a rec after ready tree st fit) (λ t later time_is known. ((time_is, known), refl)))

  -- SCHEDULE
  pub Runs-scheduled : (m : ℕ) (s : Schedule) (st : State) → Fit h limit st → Runs h limit a (scheduled rec h m s st) (scheduled after h m s (pushed a st))
  Runs-scheduled m s st fit =
      with_got h limit a (IsWhenInOrder h.set.tables) (Fine h.set.tables h.set.turns limit) _ _ _ _ (Gets-start (stated_at_mark h m) s.start st (at_mark_exist h m (length h.set.tables.expressions) ready.stated) fit)
      (λ starts st1 starts_is fit1. seq h limit a _ _ _ _ (Runs-written s.priority st1 fit1)
      (λ p st2 fit2. with_got h limit a IsAgain (Fine h.set.tables h.set.turns limit) _ _ _ _ (Gets-cycle s.cycle st2 fit2)
      (λ cycled st3 cycled_is fit3. with_got h limit a (IsGuardInOrder h.set.tables) (Fine h.set.tables h.set.turns limit) _ _ _ _ (Gets-guard (stated_at_mark h m) s.guard st3 (at_mark_exist h m (length h.set.tables.expressions) ready.stated) fit3)
      (λ until st4 until_is fit4. seq h limit a _ _ _ _ (Runs-priority h limit a p st4 fit4)
      (λ prio st5 fit5. with_got h limit a IsCycleInOrder (Fine h.set.tables h.set.turns limit) _ _ _ _ (Gets-again h limit a cycled st5 cycled_is fit5)
      (λ round st6 round_is fit6. Runs-tried h limit a (request.Schedule (plan_of (process_named h s.name) starts prio s.dependent round until)) st6 (λ is. cc)
      (record { process = named_exists h s.name ready.process; starts = starts_is; cycle = round_is; guard = until_is }) fit6))))))
