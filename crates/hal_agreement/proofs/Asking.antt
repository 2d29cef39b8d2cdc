-- Statements that ask: READ, event statements, CANCEL and TERMINATE, WAIT.
use Rattle.std.specs.Prelude.{◌≡◌, ℕ, suc, ◌==◌, nat_lt, Bool, true, false, List, [], ◌∷◌, Some, None, if◌then◌else◌}
use Rattle.std.proofs.Common.{refl, sym, ap, subst, ◌∙◌}
use Rattle.hal_grammar.specs.Leaves.{Naming}
use Rattle.hal_grammar.specs.Expressions.{Expression, Reference, Refers}
use Rattle.hal_grammar.specs.Statements.{EventAction, Signal, Set, Reset}
use Rattle.hal_values.specs.declared.plan.Pause.TheVariants as pause
use Rattle.hal_values.specs.declared.request.Request.{Request}
use Rattle.hal_values.specs.declared.request.Request.TheVariants as request
use Rattle.hal_values.specs.Answers.{Answered}
use Rattle.hal_values.specs.Answers as answered
use Rattle.hal_values.specs.Tables.{process_count, event_count}
use Rattle.hal_states.specs.Spots.{Held}
use Rattle.hal_meaning.specs.States.{State, state, Evaluated, Gives, Asks, Caught, Restarts, Lost, bind}
use Rattle.hal_meaning.specs.Access.{Here, raise, event_changed, request_made}
use Rattle.hal_meaning.specs.RealTime.{request_tried, answered_by, each_named, named_or_own, change_of}
use Rattle.hal_meaning.specs.Statements.{goes_on, kind_meant, kind_named, datum_of, datum_received, all_read, channel_of, waited}
use Rattle.hal_meaning.specs.Expressions.{expression}
use Rattle.hal_meaning.specs.Tasks.{Meaning}
use Rattle.hal_code.specs.declared.instr.Instr.{Instr}
use Rattle.hal_code.specs.declared.instr.Instr.TheVariants as instr
use Rattle.hal_code.specs.declared.operand.Delay.TheVariants as delay
use Rattle.hal_code.specs.Cores.{Goes, Then, Tried, Takes, Step, Waits, Moves}
use Rattle.hal_code.specs.Raising.{made_if}
use Rattle.hal_code.specs.Asking as machine
use Rattle.hal_code.specs.Asking.{named}
use Rattle.hal_code.specs.Machine.{act, given}
use Rattle.hal_agreement.specs.Codes.{Code}
use Rattle.hal_agreement.specs.Sites.{site_of, here_at}
use Rattle.hal_agreement.specs.PlacedExpressions.{One}
use Rattle.hal_agreement.specs.PlacedStatements.{Exits, ChannelAt, ReceiverAt, ReadsAt, changes, EventAt, EachAt, NamedOrOwnAt}
use Rattle.hal_agreement.proofs.Knowing.{Out, Sound}
use Rattle.hal_agreement.proofs.Leading.{stays}
use Rattle.hal_agreement.proofs.Reaching.{Nest, setting, core_at, Reaches, bind_reaches, asks_reaches, acts}
use Rattle.hal_agreement.proofs.Raising.{Standing, bind_bind, asks_then, raised_reaches}
use Rattle.hal_agreement.proofs.Expressing.{name_same}
use Rattle.hal_agreement.proofs.Receiving.{received_reaches}
use Rattle.hal_agreement.proofs.Stating.{FlowsAt, final, goes_on_reaches}

-- nothing more is done
bind_gives : (r : Evaluated (Unit {0})) → bind r (λ nothing after. Gives nothing after) ≡ r
bind_gives (Gives v st) = refl
bind_gives (Asks r k m) = refl
bind_gives (Caught level place st) = refl
bind_gives (Restarts k left) = refl
bind_gives Lost = refl

module _ (code : Code) (begin : ℕ) (rec : Meaning) (sound : Sound code begin rec) (h : Here) (n : Nest) (standing : Standing code h n) (out : Out) where
  abbrev Ready : ℕ → Step → List Answered → Evaluated (Unit {0}) → Type 0
  Ready to step left r = Reaches (setting code begin h) n (λ (done : Unit {0}) st. Some (Moves (core_at to [] [] n st))) step left r

  ready : (to : ℕ) (st : State) → Ready to (Moves (core_at to [] [] n st)) st.left (Gives tt st)
  ready to st = record { holds = stays (setting code begin h) _ st.left }

  last : (i : Instr) (from to : ℕ) (st : State) (r : Evaluated (Unit {0})) → One code from i to → Ready (suc from) (act (setting code begin h) i (core_at from [] [] n st)) st.left r → Ready to (Moves (core_at from [] [] n st)) st.left r
  last i from to st r one is = final code begin rec sound h n standing out (λ end done after. Some (Moves (core_at end [] [] n after))) i from to [] [] st r one is

  -- a request with whose answer nothing is done
  pub made_reaches : (r : Request) (to : ℕ) (st : State) → Ready to (Waits r (Then Goes) (core_at to [] [] n st)) st.left (request_made r st)
  made_reaches r to st = asks_reaches (setting code begin h) n _ r (Then Goes) (core_at to [] [] n st) st.entries st.left (λ a after. Gives tt after) (λ a rest. record { holds = stays (setting code begin h) _ rest })

  kind_same : (receiver : Reference) (held : List Held) → kind_named (here_at (site_of h)) receiver held ≡ kind_named h receiver held
  kind_same (Refers place name path subscript) held = ap (kind_meant path) (name_same h name held)

  -- a datum is received, or there is none
  taken : (channel : ℕ) (receiver : Reference) (receivers : List Reference) (from next to : ℕ) → ReceiverAt code (site_of h) receiver (suc from) next
      → ((after : State) → Ready to (Moves (core_at next [] [] n after)) after.left (all_read rec h channel receivers after)) → (a : Answered) (st : State)
      → Ready to (given (setting code begin h) (Takes next) a (core_at (suc from) [] [] n st)) st.left
      (bind (datum_of h a st) (λ datum after. bind (datum_received rec h receiver datum after) (λ done later. all_read rec h channel receivers later)))
  taken channel receiver receivers from next to at later (answered.Told v) st =
      bind_reaches (setting code begin h) n (λ (done : Unit {0}) after. Moves (core_at next [] [] n after)) _ _ st.left _ (λ done after. all_read rec h channel receivers after)
      (received_reaches code begin rec sound h n standing receiver v (suc from) next [] st at) (λ done after. later after)
  taken channel receiver receivers from next to at later (answered.Wrong e) st =
      subst (λ r. Ready to (given (setting code begin h) (Takes next) (answered.Wrong e) (core_at (suc from) [] [] n st)) st.left r)
      (sym (bind_bind (raise h e st) (λ ignored after. Gives None after) (λ datum after. bind (datum_received rec h receiver datum after) (λ done more. all_read rec h channel receivers more))))
      (raised_reaches code begin h n standing _ e Goes next [] [] st (λ ignored after. all_read rec h channel receivers after) (λ after. later after))
  taken channel receiver receivers from next to at later answered.Begun st = later st
  taken channel receiver receivers from next to at later answered.Done st = later st
  taken channel receiver receivers from next to at later (answered.Block snapshot turns) st = later st
  taken channel receiver receivers from next to at later answered.Killed st = later st

  -- READ
  pub read_reaches : (channel : ℕ) (receivers : List Reference) (from to : ℕ) (st : State) → ReadsAt code (site_of h) channel receivers from to
      → Ready to (Moves (core_at from [] [] n st)) st.left (all_read rec h channel receivers st)
  read_reaches channel [] from to st same = subst (λ end. Ready end (Moves (core_at from [] [] n st)) st.left (Gives tt st)) same (ready from st)
  read_reaches channel (receiver ∷ receivers) from to st here =
      acts (setting code begin h) n _ (core_at from [] [] n st) st.left (instr.Input channel here.0 here.1) _ here.3
      (subst (λ k. Ready to (Waits (request.Input channel k) (Takes here.1) (core_at (suc from) [] [] n st)) st.left (all_read rec h channel (receiver ∷ receivers) st)) (sym (kind_same receiver st.kept.places) ∙ here.2 st.kept.places)
      (asks_then code begin h n _ (request.Input channel (kind_named h receiver st.kept.places)) (Takes here.1) (core_at (suc from) [] [] n st) st.entries st.left (λ a after. Gives a after)
      (λ answer st1. bind (datum_of h answer st1) (λ datum st2. bind (datum_received rec h receiver datum st2) (λ done st3. all_read rec h channel receivers st3)))
      (λ a rest. taken channel receiver receivers from here.1 to here.4 (λ after. read_reaches channel receivers here.1 to after here.5) a (state st.kept st.entries st.mode rest))))

  -- an event is changed, where it is there
  changed : (b : Bool) (r : Request) (at : ℕ) (now : State)
      → Ready at (if b then Waits r (Then Goes) (core_at at [] [] n now) else Moves (core_at at [] [] n now)) now.left (if b then request_made r now else Gives tt now)
  changed true r at now = made_reaches r at now
  changed false r at now = ready at now

  -- SIGNAL, SET and RESET
  pub event_reaches : (action : EventAction) (e from to : ℕ) (st : State) → One code from (changes action e) to → Ready to (Moves (core_at from [] [] n st)) st.left (event_changed h (change_of action) e st)
  event_reaches Signal e from to st one = last (instr.Signal e) from to st _ one (changed (nat_lt e (event_count h.set.tables)) (request.Signal e) (suc from) st)
  event_reaches Set e from to st one = last (instr.Set e) from to st _ one (changed (nat_lt e (event_count h.set.tables)) (request.Set e) (suc from) st)
  event_reaches Reset e from to st one = last (instr.Reset e) from to st _ one (changed (nat_lt e (event_count h.set.tables)) (request.Reset e) (suc from) st)

  -- a request to which an error may be the answer
  answered_reaches : (a : Answered) (to : ℕ) (st : State) → Ready to (given (setting code begin h) Tried a (core_at to [] [] n st)) st.left (answered_by h a st)
  answered_reaches (answered.Wrong e) to st = wrong
    where
      raised_alone : Ready to (given (setting code begin h) Tried (answered.Wrong e) (core_at to [] [] n st)) st.left (bind (raise h e st) (λ (nothing : Unit {0}) after. Gives nothing after))
      raised_alone = raised_reaches code begin h n standing _ e Goes to [] [] st (λ nothing after. Gives nothing after) (λ after. ready to after)

      wrong : Ready to (given (setting code begin h) Tried (answered.Wrong e) (core_at to [] [] n st)) st.left (raise h e st)
      wrong = subst (λ r. Ready to (given (setting code begin h) Tried (answered.Wrong e) (core_at to [] [] n st)) st.left r) (bind_gives (raise h e st)) raised_alone
  answered_reaches answered.Begun to st = ready to st
  answered_reaches (answered.Told v) to st = ready to st
  answered_reaches answered.Done to st = ready to st
  answered_reaches (answered.Block snapshot turns) to st = ready to st
  answered_reaches answered.Killed to st = ready to st

  pub tried_reaches : (r : Request) (to : ℕ) (st : State) → Ready to (Waits r Tried (core_at to [] [] n st)) st.left (request_tried h r st)
  tried_reaches r to st =
      asks_then code begin h n _ r Tried (core_at to [] [] n st) st.entries st.left (λ a after. Gives a after) (λ answer after. answered_by h answer after) (λ a rest. answered_reaches a to (state st.kept st.entries st.mode rest))

  -- the process that an instruction names
  named_reaches : (asks : ℕ → Request) (number process at : ℕ) (st : State) → named (setting code begin h) number ≡ process → nat_lt process (process_count h.set.tables) ≡ true
      → Ready (suc at) (machine.act_named (setting code begin h) asks number (core_at at [] [] n st)) st.left (request_tried h (asks process) st)
  named_reaches asks number process at st same there =
      subst (λ p. Ready (suc at) (made_if (nat_lt p (process_count h.set.tables)) (asks p) Tried (core_at (suc at) [] [] n st)) st.left (request_tried h (asks process) st)) (sym same)
      (subst (λ b. Ready (suc at) (made_if b (asks process) Tried (core_at (suc at) [] [] n st)) st.left (request_tried h (asks process) st)) (sym there) (tried_reaches (asks process) (suc at) st))

  pub other_named : (number : ℕ) (b : Bool) → b ≡ false → (if b then h.process else number) ≡ number
  other_named number true is = absurd (cc)
  other_named number false is = refl

  each_reaches : (asks : ℕ → Request) (does : ℕ → Instr) → ((number at : ℕ) (st : State) → act (setting code begin h) (does number) (core_at at [] [] n st) ≡ machine.act_named (setting code begin h) asks number (core_at at [] [] n st))
      → (names : List Naming) (from to : ℕ) (st : State) → EachAt code (site_of h) does names from to → Ready to (Moves (core_at from [] [] n st)) st.left (each_named h asks names st)
  each_reaches asks does same [] from to st here = subst (λ end. Ready end (Moves (core_at from [] [] n st)) st.left (Gives tt st)) here (ready from st)
  each_reaches asks does same (name ∷ names) from to st here =
      acts (setting code begin h) n _ (core_at from [] [] n st) st.left (does here.0) _ here.2
      (subst (λ step. Ready to step st.left (each_named h asks (name ∷ names) st)) (sym (same here.0 from st))
      (subst (λ p. Ready to (machine.act_named (setting code begin h) asks here.0 (core_at from [] [] n st)) st.left (bind (request_tried h (asks p) st) (λ done after. each_named h asks names after))) (sym here.1.process)
      (bind_reaches (setting code begin h) n (λ (done : Unit {0}) after. Moves (core_at (suc from) [] [] n after)) _ _ st.left (request_tried h (asks here.0) st) (λ done after. each_named h asks names after)
      (named_reaches asks here.0 here.0 from st (other_named here.0 (here.0 == 255) here.1.other) here.1.there) (λ done after. each_reaches asks does same names (suc from) to after here.3))))

  -- CANCEL and TERMINATE
  pub named_or_own_reaches : (asks : ℕ → Request) (does : ℕ → Instr) → ((number at : ℕ) (st : State) → act (setting code begin h) (does number) (core_at at [] [] n st) ≡ machine.act_named (setting code begin h) asks number (core_at at [] [] n st))
      → (names : List Naming) (from to : ℕ) (st : State) → NamedOrOwnAt code (site_of h) does names from to → Ready to (Moves (core_at from [] [] n st)) st.left (named_or_own h asks names st)
  named_or_own_reaches asks does same [] from to st here =
      last (does 255) from to st _ here (subst (λ step. Ready (suc from) step st.left (request_tried h (asks h.process) st)) (sym (same 255 from st)) (named_reaches asks 255 h.process from st refl standing.process))
  named_or_own_reaches asks does same (name ∷ names) from to st here = each_reaches asks does same (name ∷ names) from to st here

  pub dependents_reaches : (from to : ℕ) (st : State) → One code from (instr.Wait delay.Dependents) to → Ready to (Moves (core_at from [] [] n st)) st.left (request_made (request.Wait pause.Dependents) st)
  dependents_reaches from to st one = last (instr.Wait delay.Dependents) from to st _ one (made_reaches _ (suc from) st)

  -- WAIT FOR an event expression
  pub waited_reaches : (xs : List ℕ) (from to : ℕ) (st : State) → EventAt code (site_of h) xs from to → Ready to (Moves (core_at from [] [] n st)) st.left (waited xs st)
  waited_reaches [] from to st here = absurd here
  waited_reaches (x ∷ xs) from to st here =
      last (instr.Wait (delay.Event x)) from to st _ here.1
      (subst (λ b. Ready (suc from) (machine.waited (if b then Some (pause.Event x, []) else None) (core_at from [] [] n st)) st.left (request_made (request.Wait (pause.Event x)) st)) (sym here.0) (made_reaches _ (suc from) st))

  -- READ with its channel
  pub read_stated : (exits : Exits) (channel : Expression) (receivers : List Reference) (number from to : ℕ) (st : State) → ChannelAt (site_of h) channel number → ReadsAt code (site_of h) number receivers from to
      → FlowsAt code begin rec sound h n standing out exits to (Moves (core_at from [] [] n st)) st.left (bind (expression rec h channel st) (λ c after. goes_on (all_read rec h (channel_of c) receivers after)))
  read_stated exits channel receivers number from to st known here =
      subst (λ r. FlowsAt code begin rec sound h n standing out exits to (Moves (core_at from [] [] n st)) st.left (bind r (λ c after. goes_on (all_read rec h (channel_of c) receivers after)))) (sym (known rec h st refl))
      (goes_on_reaches code begin rec sound h n standing out exits to _ st.left _ (read_reaches number receivers from to st here))
