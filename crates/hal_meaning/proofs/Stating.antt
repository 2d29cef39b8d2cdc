-- What is said of statements.
use Rattle.std.specs.Prelude.{ℕ, zero, suc, ◌+◌, ◌≤◌, nat_lt, length, take, List, [], ◌∷◌, ℤ, pos, ◌+ℤ◌, Bool, true, false, not, Option, Some, None, Result, Ok, Err, slice_get}
use Rattle.std.proofs.Common.{refl, sym, ap, subst, arith}
use Rattle.std.proofs.lemmas.List.Elements.{All-nil}
use Rattle.hal_grammar.specs.Leaves.{Naming}
use Rattle.hal_grammar.specs.Expressions.{Expression, Expressions, NoExpressions, MoreExpressions, Reference, Refers, Subscript, Unsubscripted, ByName, ByInteger, ByParts, Subscripts, NoSubscripts, MoreSubscripts}
use Rattle.hal_grammar.specs.Statements.{Guard, While, Until, Span, Stepped, Listed, Statement, Labelled, Basic, Null, Assignment, If, Do, DoCase, DoLoop, DoFor, Exit, Repeat, Return, Call, Read, Write, Update, Scheduled, Cancel, Terminate, Wait, WaitUntil, WaitForDependent, WaitFor, Event, UpdatePriority, OnErrorStatement, OnErrorResponse, OffError, SendError, Alternative, NoAlternative, Otherwise, Group, Groups, Statements, NoStatements, MoreStatements}
use Rattle.hal_operations.specs.declared.part.Part.{Part}
use Rattle.hal_operations.specs.declared.part.Part.TheVariants as part
use Rattle.hal_operations.specs.Parts.{patched, mended_patch, place_count}
use Rattle.hal_values.specs.declared.environment.Entry.{Entry}
use Rattle.hal_values.specs.declared.environment.ErrNo.{ErrNo}
use Rattle.hal_values.specs.declared.plan.Pause.TheVariants as pause
use Rattle.hal_values.specs.declared.request.Request.TheVariants as request
use Rattle.hal_values.specs.declared.value.Kind.{Kind}
use Rattle.hal_values.specs.declared.value.Value.{Value}
use Rattle.hal_values.specs.declared.value.Value.TheVariants as value
use Rattle.hal_values.specs.Answers.{Answered, error}
use Rattle.hal_values.specs.Answers as answered
use Rattle.hal_values.specs.Loads.{IsWritten}
use Rattle.hal_values.specs.Requests.{IsTime}
use Rattle.hal_states.specs.Spots.{Spot}
use Rattle.hal_states.specs.Modes.{turns_given}
use Rattle.hal_states.specs.Lines.{line_of}
use Rattle.hal_states.specs.Numbers.{integer_of, holds, is_past}
use Rattle.hal_meaning.specs.Marks.{after_statement, after_alternative}
use Rattle.hal_meaning.specs.Variables.{Meant, MeantData, MeantConstant, MeantEvent, MeantBlock, MeantBuiltin, MeantNothing, name_meant, spot_named}
use Rattle.hal_meaning.specs.States.{State, Evaluated, Gives, Asks, Caught, Restarts, Lost, bind, Flow, Normal, Leaves, Repeats, Returned}
use Rattle.hal_meaning.specs.Access.{Here, within, updating, raise, turn, store}
use Rattle.hal_meaning.specs.Expressions.{inputs_at, Located}
use Rattle.hal_meaning.specs.RealTime.{stated_at_mark}
use Rattle.hal_meaning.specs.Statements.{goes_on, replaced, components_in, component_received, received_by, is_array_named, received, all_received, kind_meant, kind_named, datum_of, datum_received, all_read, line_fitting, channel_of, written, spots, called, group_left, After, NextTurn, Ended, after_turn, goes_round, turn_made, turn_if, guard_holds, first_holds, span_holds, loop_place, kept_at, held_at, is_number, variable_stored, variable_read, group_here, end_place, update_left, resumed, settled, update_groups, entered_update, returned, step_of, bounds_kept, variable_kept, begun_stepping, span_begins, next_kept, next_stored, next_begun, next_stepping, looping, listed, next_listed, waited, goes_behind, one_of, spanned, statement, basic_statement, otherwise, without_case, case_of, selected, grouped, statements}
use Rattle.hal_meaning.specs.Tasks.{Looping, Meaning, Tested, Stepping, Listing, Resuming}
use Rattle.hal_meaning.proofs.Going.{weight, turns_in, spare, pushed, Turned-through, Fine, Answers, Goes-bind, Goes-weaker}
use Rattle.hal_meaning.proofs.Accessing.{after_answer, Begins, Goes-ask, Goes-request, Goes-if, Goes-raise, Goes-turn, Goes-read, Goes-store}
use Rattle.hal_meaning.proofs.Able.{Ready, Runs, Fit, seq, begun as task_begun, same}
use Rattle.hal_meaning.proofs.Calling.{Runs-call}
use Rattle.hal_meaning.proofs.Expressing.{Runs-mapped, Runs-named, Runs-expression, Runs-values, Runs-passed, Runs-chosen, Runs-part_chosen}
use Rattle.hal_meaning.proofs.RealTiming.{Gets-time, with_got, EachStated, at_mark_exist, Runs-eventful, Runs-cancel, Runs-terminate, Runs-changed, Runs-scheduled}

Runs-replaced_by : (h : Here) (limit : ℕ) (a : Answered) (k : Kind) (at : Spot) (old new : Value) (p : Part) (r : Result Value ErrNo) (st : State) → Fit h limit st
    → Runs h limit a (elim r [ Ok v ↦ store h k at v st | Err e ↦ bind (raise h e st) (λ ignored later. store h k at (mended_patch old p new) later) ])
    (elim r [ Ok v ↦ store h k at v (pushed a st) | Err e ↦ bind (raise h e (pushed a st)) (λ ignored later. store h k at (mended_patch old p new) later) ])
Runs-replaced_by h limit a k at old new p (Ok v) st fit = Goes-store h h.set.turns limit a k at v st fit
Runs-replaced_by h limit a k at old new p (Err e) st fit =
    seq h limit a _ _ _ _ (Goes-raise h h.set.turns limit a e st fit) (λ ignored later known. Goes-store h h.set.turns limit a k at (mended_patch old p new) later known)

Runs-replaced : (h : Here) (limit : ℕ) (a : Answered) (k : Kind) (at : Spot) (old new : Value) (p : Part) (st : State) → Fit h limit st → Runs h limit a (replaced h k at old new p st) (replaced h k at old new p (pushed a st))
Runs-replaced h limit a k at old new p st fit = Runs-replaced_by h limit a k at old new p (patched old p new) st fit

Runs-goes_on : (h : Here) (limit : ℕ) (a : Answered) (done other : Evaluated (Unit {0})) → Runs h limit a done other → Runs h limit a (goes_on done) (goes_on other)
Runs-goes_on h limit a done other is = Runs-mapped h limit a done other (λ nothing. Normal) is

Runs-datum : (h : Here) (limit : ℕ) (a : Answered) (answer : Answered) (st : State) → Fit h limit st → Runs h limit a (datum_of h answer st) (datum_of h answer (pushed a st))
Runs-datum h limit a (answered.Told v) st fit = (fit, refl)
Runs-datum h limit a (answered.Wrong e) st fit = Runs-mapped h limit a _ _ (λ ignored. None) (Goes-raise h h.set.turns limit a e st fit)
Runs-datum h limit a answered.Begun st fit = (fit, refl)
Runs-datum h limit a answered.Done st fit = (fit, refl)
Runs-datum h limit a (answered.Block snapshot made) st fit = (fit, refl)
Runs-datum h limit a answered.Killed st fit = (fit, refl)

Runs-line : (h : Here) (limit : ℕ) (a : Answered) (line : List ℕ) (st : State) → Fit h limit st → Runs h limit a (line_fitting h line st) (line_fitting h line (pushed a st))
Runs-line h limit a line st fit =
    Goes-if h.set.tables h.set.turns limit a (Fine h.set.tables h.set.turns limit) (nat_lt 1000 (length line)) _ _ _ _
    (λ is. Runs-mapped h limit a _ _ (λ ignored. take 1000 line) (Goes-raise h h.set.turns limit a (error 3 3) st fit)) (λ is. (fit, refl))

Runs-stored : (h : Here) (limit : ℕ) (a : Answered) (name : List ℕ) (v : Value) (st : State) → Fit h limit st → Runs h limit a (variable_stored h name v st) (variable_stored h name v (pushed a st))
Runs-stored h limit a name v st fit = Goes-store h h.set.turns limit a (kind_meant [] (name_meant h name st.kept.places)) (spot_named h name st.kept.places) v st fit

Runs-read : (h : Here) (limit : ℕ) (a : Answered) (name : List ℕ) (st : State) → Fit h limit st → Runs h limit a (variable_read h name st) (variable_read h name (pushed a st))
Runs-read h limit a name st fit = Goes-read h h.set.turns limit a (kind_meant [] (name_meant h name st.kept.places)) (spot_named h name st.kept.places) st fit

Runs-kept : (h : Here) (limit : ℕ) (a : Answered) (name : List ℕ) (n : ℕ) (st : State) → Fit h limit st → Runs h limit a (variable_kept h name n st) (variable_kept h name n (pushed a st))
Runs-kept h limit a name n st fit = Runs-stored h limit a name (held_at (suc (suc n)) st) st fit

Runs-next_stored : (h : Here) (limit : ℕ) (a : Answered) (name : List ℕ) (n : ℕ) (begins : Bool) (st : State) → Fit h limit st → Runs h limit a (next_stored h name n begins st) (next_stored h name n begins (pushed a st))
Runs-next_stored h limit a name n false st fit = (fit, refl)
Runs-next_stored h limit a name n true st fit = Runs-mapped h limit a _ _ (λ done. true) (Runs-kept h limit a name n st fit)

Runs-next_begun : (h : Here) (limit : ℕ) (a : Answered) (name : List ℕ) (n : ℕ) (st : State) → Fit h limit st → Runs h limit a (next_begun h name n st) (next_begun h name n (pushed a st))
Runs-next_begun h limit a name n st fit = Runs-next_stored h limit a name n (is_number (held_at (suc (suc (suc n))) st) 1) st fit

Runs-next_kept : (h : Here) (limit : ℕ) (a : Answered) (name : List ℕ) (n : ℕ) (past : Bool) (before next : ℤ) (st : State) → Fit h limit st
    → Runs h limit a (next_begun h name n (next_kept n past before next st)) (next_begun h name n (next_kept n past before next (pushed a st)))
Runs-next_kept h limit a name n true before next st fit = Runs-next_begun h limit a name n (next_kept n true before next st) fit
Runs-next_kept h limit a name n false before next st fit = Runs-next_begun h limit a name n (next_kept n false before next st) fit

-- the next value of DO FOR
pub Runs-next : (h : Here) (limit : ℕ) (a : Answered) (name : List ℕ) (n : ℕ) (st : State) → Fit h limit st → Runs h limit a (next_stepping h name n st) (next_stepping h name n (pushed a st))
Runs-next h limit a name n st fit =
    seq h limit a _ _ _ _ (Runs-read h limit a name st fit)
    (λ v later known. let by = integer_of (held_at (suc n) later) in let next = integer_of v +ℤ by in
    Runs-next_kept h limit a name n (is_past by (integer_of (held_at n later)) next) (integer_of v) next later known)

Runs-waited : (h : Here) (limit : ℕ) (a : Answered) (xs : List ℕ) (st : State) → EachStated (length h.set.tables.expressions) xs → Fit h limit st → Runs h limit a (waited xs st) (waited xs (pushed a st))
Runs-waited h limit a [] st each fit = (fit, refl)
Runs-waited h limit a (x ∷ xs) st each fit = Goes-request h.set.tables h.set.turns limit a (request.Wait (pause.Event x)) st (λ is. cc) each.0 fit

pub Runs-behind : (h : Here) (limit : ℕ) (a : Answered) (flow : Flow) (next next' : State → Evaluated Flow) (st : State) → Fit h limit st → Runs h limit a (next st) (next' (pushed a st))
    → Runs h limit a (goes_behind flow next st) (goes_behind flow next' (pushed a st))
Runs-behind h limit a Normal next next' st fit is = is
Runs-behind h limit a (Leaves label) next next' st fit is = (fit, refl)
Runs-behind h limit a (Repeats label) next next' st fit is = (fit, refl)
Runs-behind h limit a (Returned v) next next' st fit is = (fit, refl)

Runs-one_of : (h : Here) (limit : ℕ) (a : Answered) (b : Bool) (held held' failed failed' : State → Evaluated Flow) (st : State) → Runs h limit a (held st) (held' (pushed a st)) → Runs h limit a (failed st) (failed' (pushed a st))
    → Runs h limit a (one_of b held failed st) (one_of b held' failed' (pushed a st))
Runs-one_of h limit a true held held' failed failed' st one other = one
Runs-one_of h limit a false held held' failed failed' st one other = other

-- what follows where a turn began
abbrev pub Nexts : Here → ℕ → Answered → (State → Evaluated Flow) → (State → Evaluated Flow) → Type 0
Nexts h limit a next next' = (st : State) → Begins h.set.tables h.set.turns limit true st → Runs h limit a (next st) (next' (pushed a st))

-- a body, wherever fewer tasks may begin
abbrev pub Bodies : Here → ℕ → Answered → (State → Evaluated Flow) → (State → Evaluated Flow) → Type 0
Bodies h limit a body body' = (low : ℕ) → low ≤ limit → (st : State) → Fit h low st → Runs h low a (body st) (body' (pushed a st))

few_below : (low limit : ℕ) → suc low ≤ limit → low ≤ limit
few_below low limit few = omega arith

few_both : (w low limit : ℕ) → w ≤ low → suc low ≤ limit → suc w ≤ limit
few_both w low limit few less = omega arith

fit_below : (h : Here) (low limit : ℕ) (st : State) → suc low ≤ limit → Fit h low st → Fit h limit st
fit_below h low limit st less fit = (fit.0, omega (arith, fit.1))

Runs-round : (h : Here) (low limit : ℕ) (a : Answered) (next next' : State → Evaluated Flow) (how : After) (st : State) → suc low ≤ limit → Fit h low st → Nexts h limit a next next'
    → Runs h limit a (goes_round next how st) (goes_round next' how (pushed a st))
Runs-round h low limit a next next' NextTurn st less fit nexts = nexts st (fit.0, few_both (spare h.set.turns st) low limit fit.1 less)
Runs-round h low limit a next next' (Ended flow) st less fit nexts = (fit_below h low limit st less fit, refl)

Runs-turn_made : (h : Here) (limit : ℕ) (a : Answered) (labels : List Naming) (body body' next next' : State → Evaluated Flow) (made : Bool) (st : State) → Bodies h limit a body body' → Nexts h limit a next next'
    → Begins h.set.tables h.set.turns limit made st → Runs h limit a (turn_made labels body next made st) (turn_made labels body' next' made (pushed a st))
Runs-turn_made h limit a labels body body' next next' false st bodies nexts begins = (begins, refl)
Runs-turn_made h limit a labels body body' next next' true st bodies nexts begins =
    Goes-bind h.set.tables h.set.turns limit a (Fine h.set.tables h.set.turns (spare h.set.turns st)) (Fine h.set.tables h.set.turns limit) _ _ _ _
    (Goes-weaker h.set.tables h.set.turns (spare h.set.turns st) limit a (Fine h.set.tables h.set.turns (spare h.set.turns st)) _ _ (few_below (spare h.set.turns st) limit begins.1)
    (bodies (spare h.set.turns st) (few_below (spare h.set.turns st) limit begins.1) st (begins.0, omega arith)))
    (λ flow later fit. Runs-round h (spare h.set.turns st) limit a next next' (after_turn labels flow) later begins.1 fit nexts)

-- a turn, where one may begin
pub Runs-turn_if : (h : Here) (limit : ℕ) (a : Answered) (labels : List Naming) (body body' next next' : State → Evaluated Flow) (held : Bool) (st : State) → Bodies h limit a body body' → Nexts h limit a next next' → Fit h limit st
    → Runs h limit a (turn_if h labels body next held st) (turn_if h labels body' next' held (pushed a st))
Runs-turn_if h limit a labels body body' next next' false st bodies nexts fit = (fit, refl)
Runs-turn_if h limit a labels body body' next next' true st bodies nexts fit =
    Goes-bind h.set.tables h.set.turns limit a (Begins h.set.tables h.set.turns limit) (Fine h.set.tables h.set.turns limit) _ _ _ _ (Goes-turn h h.set.turns limit a st fit)
    (λ made later begins. Runs-turn_made h limit a labels body body' next next' made later bodies nexts begins)

few_closed : (groups : Option ℕ) (m w limit : ℕ) → turns_in groups m + w ≤ limit → 0 + w ≤ limit
few_closed groups m w limit few = omega arith

-- an UPDATE block is left
Runs-left : (h : Here) (limit : ℕ) (a : Answered) (entries : List Entry) (done other : Evaluated Flow) → Runs h limit a done other → Runs h limit a (update_left entries done) (update_left entries other)
Runs-left h limit a entries (Gives flow st) other is = ((is.0.0, few_closed st.mode.groups st.mode.turns (weight h.set.turns st.left) limit is.0.1), ap (update_left entries) is.1)
Runs-left h limit a entries (Asks r k m) other is = (is.0, Turned-through a r k other (update_left entries) refl refl is.1)
Runs-left h limit a entries (Caught zero place st) other is = ((is.0.0, few_closed st.mode.groups st.mode.turns (weight h.set.turns st.left) limit is.0.1), ap (update_left entries) is.1)
Runs-left h limit a entries (Caught (suc level) place st) other is = ((is.0.0, few_closed st.mode.groups st.mode.turns (weight h.set.turns st.left) limit is.0.1), ap (update_left entries) is.1)
Runs-left h limit a entries (Restarts k left) other is = (is.0, ap (update_left entries) is.1)
Runs-left h limit a entries Lost other is = absurd is

module _ (n : ℕ) (a : Answered) (rec after : Meaning) where
  Runs-resumed : (h : Here) (limit : ℕ) → Ready h limit n a rec after → (place : ℕ) (made : Bool) (st : State) → Begins h.set.tables h.set.turns limit made st
      → Runs h limit a (resumed rec h place made st) (resumed after h place made (pushed a st))
  Runs-resumed h limit ready place false st begins = (begins, refl)
  Runs-resumed h limit ready place true st begins = task_begun h limit n a rec after (Resuming h place) st ready (same h limit n a rec after ready) begins

  -- what is caught in a block goes on there
  pub Runs-settled : (h : Here) (limit : ℕ) → Ready h limit n a rec after → (done other : Evaluated Flow) → Runs h limit a done other → Runs h limit a (settled rec h done) (settled after h other)
  Runs-settled h limit ready (Gives flow st) other is = (is.0, ap (settled after h) is.1)
  Runs-settled h limit ready (Asks r k m) other is = (is.0, Turned-through a r k other (settled after h) refl refl is.1)
  Runs-settled h limit ready (Caught zero place st) other is =
      subst (λ one. Runs h limit a (bind (turn h st) (λ made begins. resumed rec h place made begins)) (settled after h one)) (sym is.1)
      (Goes-bind h.set.tables h.set.turns limit a (Begins h.set.tables h.set.turns limit) (Fine h.set.tables h.set.turns limit) _ _ _ _ (Goes-turn h h.set.turns limit a st is.0)
      (λ made later begins. Runs-resumed h limit ready place made later begins))
  Runs-settled h limit ready (Caught (suc level) place st) other is = (is.0, ap (settled after h) is.1)
  Runs-settled h limit ready (Restarts k left) other is = (is.0, ap (settled after h) is.1)
  Runs-settled h limit ready Lost other is = absurd is

  Runs-component : (h : Here) (limit : ℕ) → Ready h limit n a rec after → (l : Located) (list : Subscripts) (v : Value) (st : State) → Fit h limit st
      → Runs h limit a (component_received rec h l list v st) (component_received after h l list v (pushed a st))
  Runs-component h limit ready l NoSubscripts v st fit = Goes-store h h.set.turns limit a l.kind l.at v st fit
  Runs-component h limit ready l (MoreSubscripts first others) v st fit =
      seq h limit a _ _ _ _ (Goes-read h h.set.turns limit a l.kind l.at st fit)
      (λ old later known. seq h limit a _ _ _ _ (Runs-part_chosen h limit n a rec after ready (place_count old) first later known) (λ p last more. Runs-replaced h limit a l.kind l.at old v p last more))

  Runs-by : (h : Here) (limit : ℕ) → Ready h limit n a rec after → (l : Located) (arrayed : Bool) (subscript : Subscript) (v : Value) (st : State) → Fit h limit st
      → Runs h limit a (received_by rec h l arrayed subscript v st) (received_by after h l arrayed subscript v (pushed a st))
  Runs-by h limit ready l true Unsubscripted v st fit = Runs-component h limit ready l (components_in true Unsubscripted) v st fit
  Runs-by h limit ready l true (ByName place name) v st fit = Runs-component h limit ready l (components_in true (ByName place name)) v st fit
  Runs-by h limit ready l true (ByInteger place mark number) v st fit = Runs-component h limit ready l (components_in true (ByInteger place mark number)) v st fit
  Runs-by h limit ready l true (ByParts place copies arrays components) v st fit = Runs-component h limit ready l (components_in true (ByParts place copies arrays components)) v st fit
  Runs-by h limit ready l false Unsubscripted v st fit = Runs-component h limit ready l (components_in false Unsubscripted) v st fit
  Runs-by h limit ready l false (ByName place name) v st fit =
      seq h limit a _ _ _ _ (Goes-read h h.set.turns limit a l.kind l.at st fit)
      (λ old later known. seq h limit a _ _ _ _ (Runs-named h limit n a rec after ready name later known) (λ i last more. Runs-replaced h limit a l.kind l.at old v (part.One (integer_of i)) last more))
  Runs-by h limit ready l false (ByInteger place mark number) v st fit =
      seq h limit a _ _ _ _ (Goes-read h h.set.turns limit a l.kind l.at st fit) (λ old later known. Runs-replaced h limit a l.kind l.at old v (part.One (pos number)) later known)
  Runs-by h limit ready l false (ByParts place copies arrays components) v st fit = Runs-component h limit ready l (components_in false (ByParts place copies arrays components)) v st fit

  Runs-received : (h : Here) (limit : ℕ) → Ready h limit n a rec after → (v : Value) (receiver : Reference) (st : State) → Fit h limit st → Runs h limit a (received rec h v receiver st) (received after h v receiver (pushed a st))
  Runs-received h limit ready v (Refers place name path subscript) st fit =
      seq h limit a _ _ _ _ (Runs-chosen h limit n a rec after ready (Refers place name path subscript) st fit)
      (λ l later known. Runs-by h limit ready l (is_array_named path (name_meant h name st.kept.places)) subscript v later known)

  Runs-all_received : (h : Here) (limit : ℕ) → Ready h limit n a rec after → (v : Value) (receivers : List Reference) (st : State) → Fit h limit st
      → Runs h limit a (all_received rec h v receivers st) (all_received after h v receivers (pushed a st))
  Runs-all_received h limit ready v [] st fit = (fit, refl)
  Runs-all_received h limit ready v (receiver ∷ receivers) st fit =
      seq h limit a _ _ _ _ (Runs-received h limit ready v receiver st fit) (λ done later known. Runs-all_received h limit ready v receivers later known)

  Runs-datum_received : (h : Here) (limit : ℕ) → Ready h limit n a rec after → (receiver : Reference) (datum : Option Value) (st : State) → Fit h limit st
      → Runs h limit a (datum_received rec h receiver datum st) (datum_received after h receiver datum (pushed a st))
  Runs-datum_received h limit ready receiver None st fit = (fit, refl)
  Runs-datum_received h limit ready receiver (Some v) st fit = Runs-received h limit ready v receiver st fit

  Runs-all_read : (h : Here) (limit : ℕ) → Ready h limit n a rec after → (channel : ℕ) (receivers : List Reference) (st : State) → Fit h limit st
      → Runs h limit a (all_read rec h channel receivers st) (all_read after h channel receivers (pushed a st))
  Runs-all_read h limit ready channel [] st fit = (fit, refl)
  Runs-all_read h limit ready channel (receiver ∷ receivers) st fit =
      Goes-bind h.set.tables h.set.turns limit a (Answers h.set.tables h.set.turns limit) (Fine h.set.tables h.set.turns limit) _ _ _ _
      (Goes-ask h.set.tables h.set.turns limit a (request.Input channel (kind_named h receiver st.kept.places)) st (λ is. cc) tt fit)
      (λ answer st1 known. seq h limit a _ _ _ _ (Runs-datum h limit a answer st1 (after_answer h.set.tables h.set.turns limit answer st1 known))
      (λ datum st2 fit2. seq h limit a _ _ _ _ (Runs-datum_received h limit ready receiver datum st2 fit2) (λ done st3 fit3. Runs-all_read h limit ready channel receivers st3 fit3)))

  Runs-written : (h : Here) (limit : ℕ) → Ready h limit n a rec after → (channel : Expression) (items : Expressions) (st : State) → Fit h limit st
      → Runs h limit a (written rec h channel items st) (written after h channel items (pushed a st))
  Runs-written h limit ready channel items st fit =
      seq h limit a _ _ _ _ (Runs-expression h limit n a rec after ready channel st fit)
      (λ c st1 fit1. seq h limit a _ _ _ _ (Runs-values h limit n a rec after ready items st1 fit1)
      (λ vs st2 fit2. seq h limit a _ _ _ _ (Runs-line h limit a (line_of vs) st2 fit2)
      (λ line st3 fit3. Goes-request h.set.tables h.set.turns limit a (request.Print (channel_of c) line) st3 (λ is. cc) tt fit3)))

  Runs-spots : (h : Here) (limit : ℕ) → Ready h limit n a rec after → (receivers : List Reference) (st : State) → Fit h limit st → Runs h limit a (spots rec h receivers st) (spots after h receivers (pushed a st))
  Runs-spots h limit ready [] st fit = (fit, refl)
  Runs-spots h limit ready (receiver ∷ receivers) st fit =
      seq h limit a _ _ _ _ (Runs-chosen h limit n a rec after ready receiver st fit) (λ l later known. Runs-mapped h limit a _ _ (λ more. l.at ∷ more) (Runs-spots h limit ready receivers later known))

  Runs-called : (h : Here) (limit : ℕ) → Ready h limit n a rec after → (m : Meant) (arguments : Expressions) (receivers : List Reference) (st : State) → Fit h limit st
      → Runs h limit a (called rec h m arguments receivers st) (called after h m arguments receivers (pushed a st))
  Runs-called h limit ready (MeantBlock unit) arguments receivers st fit =
      seq h limit a _ _ _ _ (Runs-passed h limit n a rec after ready unit (inputs_at h.set unit) arguments st fit)
      (λ ps st1 fit1. seq h limit a _ _ _ _ (Runs-spots h limit ready receivers st1 fit1)
      (λ at st2 fit2. Runs-mapped h limit a _ _ (λ result. tt) (Runs-call h limit n a rec after ready unit ps at st2 fit2)))
  Runs-called h limit ready (MeantData at shape) arguments receivers st fit = (fit, refl)
  Runs-called h limit ready (MeantConstant v) arguments receivers st fit = (fit, refl)
  Runs-called h limit ready (MeantEvent e) arguments receivers st fit = (fit, refl)
  Runs-called h limit ready (MeantBuiltin b) arguments receivers st fit = (fit, refl)
  Runs-called h limit ready MeantNothing arguments receivers st fit = (fit, refl)

  -- WHILE and UNTIL
  pub Runs-guard : (h : Here) (limit : ℕ) → Ready h limit n a rec after → (g : Guard) (st : State) → Fit h limit st → Runs h limit a (guard_holds rec h g st) (guard_holds after h g (pushed a st))
  Runs-guard h limit ready (While place condition) st fit = Runs-mapped h limit a _ _ holds (Runs-expression h limit n a rec after ready condition st fit)
  Runs-guard h limit ready (Until place condition) st fit = Runs-mapped h limit a _ _ (λ v. not (holds v)) (Runs-expression h limit n a rec after ready condition st fit)

  Runs-first : (h : Here) (limit : ℕ) → Ready h limit n a rec after → (g : Guard) (st : State) → Fit h limit st → Runs h limit a (first_holds rec h g st) (first_holds after h g (pushed a st))
  Runs-first h limit ready (While place condition) st fit = Runs-mapped h limit a _ _ holds (Runs-expression h limit n a rec after ready condition st fit)
  Runs-first h limit ready (Until place condition) st fit = (fit, refl)

  Runs-span_holds : (h : Here) (limit : ℕ) → Ready h limit n a rec after → (first : Bool) (g : Option Guard) (st : State) → Fit h limit st
      → Runs h limit a (span_holds rec h first g st) (span_holds after h first g (pushed a st))
  Runs-span_holds h limit ready first None st fit = (fit, refl)
  Runs-span_holds h limit ready true (Some g) st fit = Runs-first h limit ready g st fit
  Runs-span_holds h limit ready false (Some g) st fit = Runs-guard h limit ready g st fit

  pub Runs-begins : (h : Here) (limit : ℕ) → Ready h limit n a rec after → (first : Bool) (g : Option Guard) (b : Bool) (st : State) → Fit h limit st
      → Runs h limit a (span_begins rec h first g b st) (span_begins after h first g b (pushed a st))
  Runs-begins h limit ready first g false st fit = (fit, refl)
  Runs-begins h limit ready first g true st fit = Runs-span_holds h limit ready first g st fit

  Runs-listed : (h : Here) (limit : ℕ) → Ready h limit n a rec after → (name : List ℕ) (place k : ℕ) (first : Bool) (tree : Expression) (g : Option Guard) (st : State) → Fit h limit st
      → Runs h limit a (listed rec h name place k first tree g st) (listed after h name place k first tree g (pushed a st))
  Runs-listed h limit ready name place k first tree g st fit =
      seq h limit a _ _ _ _ (Runs-expression h limit n a rec after ready tree st fit)
      (λ v st1 fit1. seq h limit a _ _ _ _ (Runs-stored h limit a name v st1 fit1) (λ done st2 fit2. Runs-span_holds h limit ready first g (kept_at place (value.Int (pos k)) st2) fit2))

  pub Runs-next_listed : (h : Here) (limit : ℕ) → Ready h limit n a rec after → (name : List ℕ) (place k : ℕ) (values : Expressions) (g : Option Guard) (st : State) → Fit h limit st
      → Runs h limit a (next_listed rec h name place k values g st) (next_listed after h name place k values g (pushed a st))
  Runs-next_listed h limit ready name place k NoExpressions g st fit = (fit, refl)
  Runs-next_listed h limit ready name place k (MoreExpressions tree others) g st fit =
      Goes-if h.set.tables h.set.turns limit a (Fine h.set.tables h.set.turns limit) (is_number (held_at place st) k) _ _ _ _ (λ is. Runs-listed h limit ready name place (suc k) false tree g st fit)
      (λ is. Runs-next_listed h limit ready name place (suc k) others g st fit)

  Runs-step : (h : Here) (limit : ℕ) → Ready h limit n a rec after → (step : Option Expression) (st : State) → Fit h limit st → Runs h limit a (step_of rec h step st) (step_of after h step (pushed a st))
  Runs-step h limit ready None st fit = (fit, refl)
  Runs-step h limit ready (Some tree) st fit = Runs-expression h limit n a rec after ready tree st fit

  Runs-stepping : (h : Here) (limit : ℕ) → Ready h limit n a rec after → (name : List ℕ) (m : ℕ) (first last : Expression) (step : Option Expression) (st : State) → Fit h limit st
      → Runs h limit a (begun_stepping rec h name m first last step st) (begun_stepping after h name m first last step (pushed a st))
  Runs-stepping h limit ready name m first last step st fit =
      seq h limit a _ _ _ _ (Runs-expression h limit n a rec after ready first st fit)
      (λ from st1 fit1. seq h limit a _ _ _ _ (Runs-expression h limit n a rec after ready last st1 fit1)
      (λ to st2 fit2. seq h limit a _ _ _ _ (Runs-step h limit ready step st2 fit2)
      (λ by st3 fit3. seq h limit a _ _ _ _ (Runs-kept h limit a name m (bounds_kept m from to by st3) fit3) (λ done st4 fit4. (fit4, refl)))))

  Runs-spanned : (h : Here) (limit : ℕ) → Ready h limit n a rec after → (m : ℕ) (loop : Looping) (name : List ℕ) (span : Span) (g : Option Guard) (body body' : State → Evaluated Flow) (st : State) → Bodies h limit a body body' → Fit h limit st
      → Runs h limit a (spanned rec h m loop name span g body st) (spanned after h m loop name span g body' (pushed a st))
  Runs-spanned h limit ready m loop name (Stepped first last step) g body body' st bodies fit =
      seq h limit a _ _ _ _ (Runs-stepping h limit ready name m first last step st fit)
      (λ begins st1 fit1. seq h limit a _ _ _ _ (Runs-begins h limit ready true g begins st1 fit1)
      (λ held st2 fit2. Runs-turn_if h limit a loop.labels body body' (rec (Stepping h m loop name g)) (after (Stepping h m loop name g)) held st2 bodies
      (λ later is. task_begun h limit n a rec after (Stepping h m loop name g) later ready (same h limit n a rec after ready) is) fit2))
  Runs-spanned h limit ready m loop name (Listed NoExpressions) g body body' st bodies fit = (fit, refl)
  Runs-spanned h limit ready m loop name (Listed (MoreExpressions first others)) g body body' st bodies fit =
      seq h limit a _ _ _ _ (Runs-listed h limit ready name m 1 true first g st fit)
      (λ held st1 fit1. Runs-turn_if h limit a loop.labels body body' (rec (Listing h m loop name g others)) (after (Listing h m loop name g others)) held st1 bodies
      (λ later is. task_begun h limit n a rec after (Listing h m loop name g others) later ready (same h limit n a rec after ready) is) fit1)

  Runs-returned : (h : Here) (limit : ℕ) → Ready h limit n a rec after → (tree : Option Expression) (st : State) → Fit h limit st → Runs h limit a (returned rec h tree st) (returned after h tree (pushed a st))
  Runs-returned h limit ready None st fit = (fit, refl)
  Runs-returned h limit ready (Some tree) st fit = Runs-mapped h limit a _ _ _ (Runs-expression h limit n a rec after ready tree st fit)

  -- where names are looked up in a group
  in_found : (P : Here → Type 0) (h : Here) (found : Option ℕ) → P h → ((k : ℕ) → P (within k h)) → P (elim found [ None ↦ h | Some k ↦ within k h ])
  in_found P h None one each = one
  in_found P h (Some k) one each = each k

  in_group : (P : Here → Type 0) (h : Here) (temporary : Bool) (m : ℕ) → P h → ((k : ℕ) → P (within k h)) → P (group_here h temporary m)
  in_group P h false m one each = one
  in_group P h true m one each = in_found P h (slice_get h.marks m) one each

  lower : (h : Here) (low limit : ℕ) → Ready h limit n a rec after → low ≤ limit → Ready h low n a rec after
  lower h low limit ready less = record { able = ready.able; few = omega (arith, ready.few); process = ready.process; stated = ready.stated }

  in_block : (h : Here) (limit k : ℕ) → Ready h limit n a rec after → Ready (within k h) limit n a rec after
  in_block h limit k ready = record { able = ready.able; few = ready.few; process = ready.process; stated = ready.stated }

  in_update : (h : Here) (limit : ℕ) (body : Statements) (m : ℕ) (entries : List Entry) → Ready h limit n a rec after → Ready (updating body m entries h) limit n a rec after
  in_update h limit body m entries ready = record { able = ready.able; few = ready.few; process = ready.process; stated = ready.stated }

  few_update : (groups : Option ℕ) (given m w limit : ℕ) → suc (given + (turns_in groups m + w)) ≤ limit → given + w ≤ limit
  few_update groups given m w limit few = omega arith

  update_fit : (h : Here) (limit m : ℕ) (answer : Answered) (st : State) → Answers h.set.tables h.set.turns limit answer st → Fit h limit (entered_update h m answer st)
  update_fit h limit m answer st known = (All-nil (IsWritten h.set.tables), few_update st.mode.groups (turns_given h.set.turns answer) st.mode.turns (weight h.set.turns st.left) limit known.1)

  mutual
    pub Runs-statement : (h : Here) (limit : ℕ) → Ready h limit n a rec after → (m : ℕ) (one : Statement) (st : State) → Fit h limit st → Runs h limit a (statement rec h m one st) (statement after h m one (pushed a st))
    Runs-statement h limit ready m (Labelled labels basic) st fit = Runs-basic h limit ready m labels basic st fit

    Runs-basic : (h : Here) (limit : ℕ) → Ready h limit n a rec after → (m : ℕ) (labels : List Naming) (one : Basic) (st : State) → Fit h limit st
        → Runs h limit a (basic_statement rec h m labels one st) (basic_statement after h m labels one (pushed a st))
    Runs-basic h limit ready m labels (Null place) st fit = (fit, refl)
    Runs-basic h limit ready m labels (Assignment place receivers tree) st fit =
        seq h limit a _ _ _ _ (Runs-expression h limit n a rec after ready tree st fit) (λ v later known. Runs-goes_on h limit a _ _ (Runs-all_received h limit ready v receivers later known))
    Runs-basic h limit ready m labels (If place condition consequence alternative) st fit =
        seq h limit a _ _ _ _ (Runs-expression h limit n a rec after ready condition st fit)
        (λ v later known. Runs-one_of h limit a (holds v) (λ begun. statement rec h m consequence begun) (λ begun. statement after h m consequence begun)
        (λ begun. otherwise rec h (after_statement m consequence) alternative begun) (λ begun. otherwise after h (after_statement m consequence) alternative begun) later
        (Runs-statement h limit ready m consequence later known) (Runs-otherwise h limit ready (after_statement m consequence) alternative later known))
    Runs-basic h limit ready m labels (Do place group) st fit = Runs-mapped h limit a _ _ (group_left labels) (Runs-grouped h limit ready (suc m) group st fit)
    Runs-basic h limit ready m labels (DoCase place selects alternative group) st fit =
        seq h limit a _ _ _ _ (Runs-expression h limit n a rec after ready selects st fit)
        (λ v later known. Runs-mapped h limit a _ _ (group_left labels)
        (Runs-case h limit ready (after_alternative (suc m) alternative) (loop_place h m) (λ before. without_case rec h (suc m) alternative before) (λ before. without_case after h (suc m) alternative before) group (kept_at (loop_place h m) v later) known
        (λ last more. Runs-without h limit ready (suc m) alternative last more)))
    Runs-basic h limit ready m labels (DoLoop place g group) st fit =
        seq h limit a _ _ _ _ (Runs-first h limit ready g st fit)
        (λ held later known. Runs-turn_if h limit a labels (λ begun. grouped rec h (suc m) group begun) (λ begun. grouped after h (suc m) group begun)
        (rec (Tested h (looping labels m group) g)) (after (Tested h (looping labels m group) g)) held later
        (λ low less begun begun_fit. Runs-grouped h low (lower h low limit ready less) (suc m) group begun begun_fit)
        (λ last is. task_begun h limit n a rec after (Tested h (looping labels m group) g) last ready (same h limit n a rec after ready) is) known)
    Runs-basic h limit ready m labels (DoFor place temporary variable span g group) st fit =
        in_group (λ x. Runs h limit a (spanned rec x (end_place h temporary m) (looping labels m group) variable.name span g (λ begun. grouped rec x (suc m) group begun) st)
        (spanned after x (end_place h temporary m) (looping labels m group) variable.name span g (λ begun. grouped after x (suc m) group begun) (pushed a st))) h temporary m
        (Runs-spanned h limit ready (end_place h temporary m) (looping labels m group) variable.name span g (λ begun. grouped rec h (suc m) group begun) (λ begun. grouped after h (suc m) group begun) st
        (λ low less begun begun_fit. Runs-grouped h low (lower h low limit ready less) (suc m) group begun begun_fit) fit)
        (λ k. Runs-spanned (within k h) limit (in_block h limit k ready) (end_place h temporary m) (looping labels m group) variable.name span g (λ begun. grouped rec (within k h) (suc m) group begun)
        (λ begun. grouped after (within k h) (suc m) group begun) st
        (λ low less begun begun_fit. Runs-grouped (within k h) low (lower (within k h) low limit (in_block h limit k ready) less) (suc m) group begun begun_fit) fit)
    Runs-basic h limit ready m labels (Exit place label) st fit = (fit, refl)
    Runs-basic h limit ready m labels (Repeat place label) st fit = (fit, refl)
    Runs-basic h limit ready m labels (Return place tree) st fit = Runs-returned h limit ready tree st fit
    Runs-basic h limit ready m labels (Call place name arguments receivers) st fit =
        Runs-goes_on h limit a _ _ (Runs-called h limit ready (name_meant h name.name st.kept.places) arguments receivers st fit)
    Runs-basic h limit ready m labels (Read place channel receivers) st fit =
        seq h limit a _ _ _ _ (Runs-expression h limit n a rec after ready channel st fit) (λ c later known. Runs-goes_on h limit a _ _ (Runs-all_read h limit ready (channel_of c) receivers later known))
    Runs-basic h limit ready m labels (Write place channel items) st fit = Runs-goes_on h limit a _ _ (Runs-written h limit ready channel items st fit)
    Runs-basic h limit ready m labels (Update place body close) st fit =
        Goes-bind h.set.tables h.set.turns limit a (Answers h.set.tables h.set.turns limit) (Fine h.set.tables h.set.turns limit) _ _ _ _
        (Goes-ask h.set.tables h.set.turns limit a (request.Update (update_groups h m)) st (λ is. cc) tt fit)
        (λ answer later known. Runs-left h limit a later.entries _ _
        (Runs-settled (updating body (suc m) later.entries h) limit (in_update h limit body (suc m) later.entries ready) _ _
        (Runs-statements (updating body (suc m) later.entries h) limit (in_update h limit body (suc m) later.entries ready) (suc m) body (entered_update h m answer later) (update_fit h limit m answer later known))))
    Runs-basic h limit ready m labels (Scheduled place s) st fit = Runs-goes_on h limit a _ _ (Runs-scheduled h limit n a rec after ready m s st fit)
    Runs-basic h limit ready m labels (Cancel place names) st fit = Runs-goes_on h limit a _ _ (Runs-cancel h limit n a rec after ready names st fit)
    Runs-basic h limit ready m labels (Terminate place names) st fit = Runs-goes_on h limit a _ _ (Runs-terminate h limit n a rec after ready names st fit)
    Runs-basic h limit ready m labels (Wait place tree) st fit =
        with_got h limit a IsTime (Fine h.set.tables h.set.turns limit) _ _ _ _ (Gets-time h limit n a rec after ready tree st fit)
        (λ t later is known. Runs-goes_on h limit a _ _ (Goes-request h.set.tables h.set.turns limit a (request.Wait (pause.For t)) later (λ is. cc) is known))
    Runs-basic h limit ready m labels (WaitUntil place tree) st fit =
        with_got h limit a IsTime (Fine h.set.tables h.set.turns limit) _ _ _ _ (Gets-time h limit n a rec after ready tree st fit)
        (λ t later is known. Runs-goes_on h limit a _ _ (Goes-request h.set.tables h.set.turns limit a (request.Wait (pause.Till t)) later (λ is. cc) is known))
    Runs-basic h limit ready m labels (WaitForDependent place) st fit =
        Runs-goes_on h limit a _ _ (Goes-request h.set.tables h.set.turns limit a (request.Wait pause.Dependents) st (λ is. cc) tt fit)
    Runs-basic h limit ready m labels (WaitFor place tree) st fit =
        Runs-goes_on h limit a _ _ (Runs-waited h limit a (stated_at_mark h m) st (at_mark_exist h m (length h.set.tables.expressions) ready.stated) fit)
    Runs-basic h limit ready m labels (Event e) st fit = Runs-goes_on h limit a _ _ (Runs-eventful h limit a e st fit)
    Runs-basic h limit ready m labels (UpdatePriority place name tree) st fit = Runs-goes_on h limit a _ _ (Runs-changed h limit n a rec after ready name tree st fit)
    Runs-basic h limit ready m labels (OnErrorStatement place s handler) st fit = (fit, refl)
    Runs-basic h limit ready m labels (OnErrorResponse place s response e) st fit = (fit, refl)
    Runs-basic h limit ready m labels (OffError place s) st fit = (fit, refl)
    Runs-basic h limit ready m labels (SendError place group_at group number_at number) st fit = Runs-goes_on h limit a _ _ (Goes-raise h h.set.turns limit a (error group number) st fit)

    Runs-otherwise : (h : Here) (limit : ℕ) → Ready h limit n a rec after → (m : ℕ) (one : Alternative) (st : State) → Fit h limit st → Runs h limit a (otherwise rec h m one st) (otherwise after h m one (pushed a st))
    Runs-otherwise h limit ready m NoAlternative st fit = (fit, refl)
    Runs-otherwise h limit ready m (Otherwise one) st fit = Runs-statement h limit ready m one st fit

    Runs-without : (h : Here) (limit : ℕ) → Ready h limit n a rec after → (m : ℕ) (one : Alternative) (st : State) → Fit h limit st → Runs h limit a (without_case rec h m one st) (without_case after h m one (pushed a st))
    Runs-without h limit ready m NoAlternative st fit = Runs-mapped h limit a _ _ (λ ignored. Normal) (Goes-raise h h.set.turns limit a (error 1 6) st fit)
    Runs-without h limit ready m (Otherwise one) st fit = Runs-statement h limit ready m one st fit

    Runs-case : (h : Here) (limit : ℕ) → Ready h limit n a rec after → (m place : ℕ) (none none' : State → Evaluated Flow) (group : Group) (st : State) → Fit h limit st
        → ((later : State) → Fit h limit later → Runs h limit a (none later) (none' (pushed a later))) → Runs h limit a (case_of rec h m place none group st) (case_of after h m place none' group (pushed a st))
    Runs-case h limit ready m place none none' (Groups list close) st fit nones = Runs-selected h limit ready m 1 (held_at place st) none none' list st fit nones

    Runs-selected : (h : Here) (limit : ℕ) → Ready h limit n a rec after → (m k : ℕ) (v : Value) (none none' : State → Evaluated Flow) (list : Statements) (st : State) → Fit h limit st
        → ((later : State) → Fit h limit later → Runs h limit a (none later) (none' (pushed a later))) → Runs h limit a (selected rec h m k v none list st) (selected after h m k v none' list (pushed a st))
    Runs-selected h limit ready m k v none none' NoStatements st fit nones = nones st fit
    Runs-selected h limit ready m k v none none' (MoreStatements first others) st fit nones =
        Goes-if h.set.tables h.set.turns limit a (Fine h.set.tables h.set.turns limit) (is_number v k) _ _ _ _ (λ is. Runs-statement h limit ready m first st fit)
        (λ is. Runs-selected h limit ready (after_statement m first) (suc k) v none none' others st fit nones)

    pub Runs-grouped : (h : Here) (limit : ℕ) → Ready h limit n a rec after → (m : ℕ) (group : Group) (st : State) → Fit h limit st → Runs h limit a (grouped rec h m group st) (grouped after h m group (pushed a st))
    Runs-grouped h limit ready m (Groups list close) st fit = Runs-statements h limit ready m list st fit

    pub Runs-statements : (h : Here) (limit : ℕ) → Ready h limit n a rec after → (m : ℕ) (list : Statements) (st : State) → Fit h limit st → Runs h limit a (statements rec h m list st) (statements after h m list (pushed a st))
    Runs-statements h limit ready m NoStatements st fit = (fit, refl)
    Runs-statements h limit ready m (MoreStatements first others) st fit =
        seq h limit a _ _ _ _ (Runs-statement h limit ready m first st fit)
        (λ flow later known. Runs-behind h limit a flow (λ begun. statements rec h (after_statement m first) others begun) (λ begun. statements after h (after_statement m first) others begun) later known
        (Runs-statements h limit ready (after_statement m first) others later known))
