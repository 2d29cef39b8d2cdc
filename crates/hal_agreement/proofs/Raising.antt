-- What the machine does where the tree raises errors, begins turns, and reads and stores.
use Rattle.std.specs.Prelude.{◌≡◌, ℕ, zero, suc, nat_lt, Bool, true, false, List, [], ◌∷◌, pos, Option, Some, None, Result, Ok, Err, slice_get, if◌then◌else◌}
use Rattle.std.proofs.Common.{refl, sym, ap, subst, ◌∙◌, arith}
use Rattle.hal_values.specs.declared.environment.Entry.{Entry}
use Rattle.hal_values.specs.declared.environment.ErrNo.{ErrNo}
use Rattle.hal_values.specs.declared.environment.Side.{Side}
use Rattle.hal_values.specs.declared.environment.Side.TheVariants as side
use Rattle.hal_values.specs.declared.request.Request.{Request}
use Rattle.hal_values.specs.declared.request.Request.TheVariants as request
use Rattle.hal_values.specs.declared.request.Spot.TheVariants as asked
use Rattle.hal_values.specs.declared.tables.Cell.{Cell}
use Rattle.hal_values.specs.declared.value.Kind.{Kind}
use Rattle.hal_values.specs.declared.value.Value.{Value}
use Rattle.hal_values.specs.declared.value.Value.TheVariants as value
use Rattle.hal_values.specs.Answers.{Answered, error}
use Rattle.hal_values.specs.Answers as answered
use Rattle.hal_values.specs.Searching.{Found, BySystem, Ignored, ByStatement, search}
use Rattle.hal_values.specs.Tables.{event_count, process_count}
use Rattle.hal_operations.specs.Stores.{stored, mended_store}
use Rattle.hal_states.specs.Spots.{Spot, Shared, Own, Nowhere, Kept, kept}
use Rattle.hal_states.specs.OfKinds.{of_kind, told}
use Rattle.hal_states.specs.Modes.{Mode, mode, are_spent}
use Rattle.hal_meaning.specs.States.{State, state, with_kept, Evaluated, Gives, Asks, Caught, Restarts, Lost, bind, asks_from, stops_from, stops}
use Rattle.hal_meaning.specs.Access as tree
use Rattle.hal_meaning.specs.Access.{Here, raise, turn, read, put, store}
use Rattle.hal_code.specs.Cores.{Operand, Val, Frame, Core, core, all_entered, Rest, Goes, Puts, Wait, Then, Pushes, Halts, Step, Waits, Moves}
use Rattle.hal_code.specs.Raising as machine
use Rattle.hal_code.specs.Raising.{cut, entered_at, raised_before, rested}
use Rattle.hal_code.specs.Computing.{tested}
use Rattle.hal_code.specs.Addressing.{pushed, fetched_cell, fetched, stored_at}
use Rattle.hal_code.specs.Machine.{given}
use Rattle.hal_agreement.specs.Codes.{Code}
use Rattle.hal_agreement.specs.PlacedBlocks.{UnitsAt}
use Rattle.hal_agreement.proofs.Leading.{Leads, stays, heard, counted}
use Rattle.hal_agreement.proofs.Reaching.{Nest, coded_entries, setting, core_at, Handles, landing, Reaches, before, bind_reaches, bind_on, asks_reaches}
use Rattle.hal_agreement.proofs.Searching.{coded_found, coded_blocks, search_coded, IsFound, found_right}

-- the machine's blocks are those of the tree, and an error may meet a statement of the running one; the units that may be called stand in the code
pub record Standing (code : Code) (h : Here) (n : Nest) : Type 0 where
  pub units : UnitsAt code h.set h.places
  pub process : nat_lt h.process (process_count h.set.tables) ≡ true
  pub entered : (es : List Entry) → all_entered (coded_entries (n.spot 0) es) n.frames ≡ coded_blocks n.spot 0 (tree.all_entered h es)
  pub unleft : n.least ≡ 0

bound : {A B : Type 0} (r : Request) (k : Kept) (e : List Entry) (m : Mode) (left : List Answered) (f : Answered → State → Evaluated A) (go : A → State → Evaluated B)
    → bind (asks_from r k e m left f) go ≡ asks_from r k e m left (λ a st. bind (f a st) go)
bound r k e m [] f go = refl
bound r k e m (answered.Killed ∷ left) f go = refl
bound r k e m (answered.Begun ∷ left) f go = refl
bound r k e m (answered.Told v ∷ left) f go = refl
bound r k e m (answered.Done ∷ left) f go = refl
bound r k e m (answered.Wrong error ∷ left) f go = refl
bound r k e m (answered.Block snapshot turns ∷ left) f go = refl

-- three phrases one after another
pub bind_bind : {A B C : Type 0} (r : Evaluated A) (f : A → State → Evaluated B) (go : B → State → Evaluated C) → bind (bind r f) go ≡ bind r (λ v st. bind (f v st) go)
bind_bind (Gives v st) f go = refl
bind_bind (Asks r k m) f go = refl
bind_bind (Caught level place st) f go = refl
bind_bind (Restarts k left) f go = refl
bind_bind Lost f go = refl

-- a step that may be there, where the tree goes on
cut_same : (level place : ℕ) (frames : List Frame) (at other : ℕ) (stack stack' : List Operand) (line line' : List ℕ) (es : List Entry) (fs fs' : List Frame) (k : Kept) (m : Mode)
    → cut level place frames (core at stack line es fs k m) ≡ cut level place frames (core other stack' line' es fs' k m)
cut_same zero place frames at other stack stack' line line' es fs fs' k m = refl
cut_same (suc level) place [] at other stack stack' line line' es fs fs' k m = refl
cut_same (suc level) place (f ∷ frames) at other stack stack' line line' es fs fs' k m = refl

module _ (code : Code) (begin : ℕ) (h : Here) (n : Nest) where
  -- a request with whose answer the tree goes on
  pub asks_then : {A B : Type 0} (fine : B → State → Option Step) (r : Request) (w : Wait) (c : Core) (e : List Entry) (left : List Answered) (f : Answered → State → Evaluated A) (go : A → State → Evaluated B)
      → ((a : Answered) (rest : List Answered) → Reaches (setting code begin h) n fine (given (setting code begin h) w a c) rest (bind (f a (state c.kept e c.mode rest)) go))
      → Reaches (setting code begin h) n fine (Waits r w c) left (bind (asks_from r c.kept e c.mode left f) go)
  asks_then fine r w c e left f go each =
      subst (λ one. Reaches (setting code begin h) n fine (Waits r w c) left one) (sym (bound r c.kept e c.mode left f go))
      (asks_reaches (setting code begin h) n fine r w c e left (λ a st. bind (f a st) go) each)

  stops_reaches : {A : Type 0} (fine : A → State → Option Step) (e : ErrNo) (c : Core) (left : List Answered) → Reaches (setting code begin h) n fine (Waits (request.Stop e) (Halts e) c) left (stops_from e c.kept c.mode left)
  stops_reaches fine e c [] = record { holds = record { one = _; comes = record { moves = zero; is = refl }; request = refl; keeps = refl; in_mode = refl } }
  stops_reaches fine e c (answered.Killed ∷ left) = record { holds = heard (setting code begin h) (request.Stop e) (Halts e) c answered.Killed left }
  stops_reaches fine e c (answered.Begun ∷ left) =
      before (setting code begin h) n fine _ _ (Waits (request.Stop e) (Halts e) c) left (stops_from e c.kept c.mode left) (heard (setting code begin h) (request.Stop e) (Halts e) c answered.Begun left) (stops_reaches fine e c left)
  stops_reaches fine e c (answered.Told v ∷ left) =
      before (setting code begin h) n fine _ _ (Waits (request.Stop e) (Halts e) c) left (stops_from e c.kept c.mode left) (heard (setting code begin h) (request.Stop e) (Halts e) c (answered.Told v) left) (stops_reaches fine e c left)
  stops_reaches fine e c (answered.Done ∷ left) =
      before (setting code begin h) n fine _ _ (Waits (request.Stop e) (Halts e) c) left (stops_from e c.kept c.mode left) (heard (setting code begin h) (request.Stop e) (Halts e) c answered.Done left) (stops_reaches fine e c left)
  stops_reaches fine e c (answered.Wrong error ∷ left) =
      before (setting code begin h) n fine _ _ (Waits (request.Stop e) (Halts e) c) left (stops_from e c.kept c.mode left) (heard (setting code begin h) (request.Stop e) (Halts e) c (answered.Wrong error) left) (stops_reaches fine e c left)
  stops_reaches fine e c (answered.Block snapshot turns ∷ left) =
      before (setting code begin h) n fine _ _ (Waits (request.Stop e) (Halts e) c) left (stops_from e c.kept c.mode left) (heard (setting code begin h) (request.Stop e) (Halts e) c (answered.Block snapshot turns) left) (stops_reaches fine e c left)

  pub changed_by : {A : Type 0} (fine : A → State → Option Step) (b : Bool) (r : Request) (w : Wait) (otherwise : Step) (at : ℕ) (stack : List Operand) (line : List ℕ) (st : State) (go : Unit {0} → State → Evaluated A)
      → Reaches (setting code begin h) n fine otherwise st.left (go tt st)
      → ((a : Answered) (rest : List Answered) → Reaches (setting code begin h) n fine (given (setting code begin h) w a (core_at at stack line n st)) rest (go tt (state st.kept st.entries st.mode rest)))
      → Reaches (setting code begin h) n fine (if b then Waits r w (core_at at stack line n st) else otherwise) st.left (bind (if b then tree.request_made r st else Gives tt st) go)
  changed_by fine true r w otherwise at stack line st go none each = asks_then fine r w (core_at at stack line n st) st.entries st.left (λ a after. Gives tt after) go each
  changed_by fine false r w otherwise at stack line st go none each = none

  -- what ON ERROR does to an event
  sided_reaches : {A : Type 0} (fine : A → State → Option Step) (groups : Option ℕ) (one : Side) (w : Wait) (otherwise : Step) (at : ℕ) (stack : List Operand) (line : List ℕ) (st : State) (go : Unit {0} → State → Evaluated A)
      → Reaches (setting code begin h) n fine otherwise st.left (go tt st)
      → ((a : Answered) (rest : List Answered) → Reaches (setting code begin h) n fine (given (setting code begin h) w a (core_at at stack line n st)) rest (go tt (state st.kept st.entries st.mode rest)))
      → Reaches (setting code begin h) n fine (machine.sided (setting code begin h) groups one w otherwise (core_at at stack line n st)) st.left (bind (tree.sided h groups one st) go)
  sided_reaches fine (Some groups) one w otherwise at stack line st go none each = none
  sided_reaches fine None side.Nothing w otherwise at stack line st go none each = none
  sided_reaches fine None (side.Signal e) w otherwise at stack line st go none each = changed_by fine (nat_lt e (event_count h.set.tables)) (request.Signal e) w otherwise at stack line st go none each
  sided_reaches fine None (side.Set e) w otherwise at stack line st go none each = changed_by fine (nat_lt e (event_count h.set.tables)) (request.Set e) w otherwise at stack line st go none each
  sided_reaches fine None (side.Reset e) w otherwise at stack line st go none each = changed_by fine (nat_lt e (event_count h.set.tables)) (request.Reset e) w otherwise at stack line st go none each

  -- nothing comes of a phrase that ends the process
  ends : {A B : Type 0} (fine : B → State → Option Step) (step : Step) (left : List Answered) (r : Evaluated A) (go : A → State → Evaluated B)
      → Reaches (setting code begin h) n (λ v st. None) step left r → Reaches (setting code begin h) n fine step left (bind r go)
  ends fine step left r go is = bind_on (setting code begin h) n (λ v st. None) fine step left r go is (λ v st. tt)

  met_handles : (level place : ℕ) (m : Mode) → n.least ≡ 0 → IsFound 0 n.frames m (ByStatement level place) → Handles n level m
  met_handles level place m unleft is =
      subst (λ d. Handles n d m) (omega (arith, is.1)) (record { deep = omega (arith, unleft); few = is.2; turns = is.3 })

  met_reaches : {A : Type 0} (fine : A → State → Option Step) (e : ErrNo) (found : Found) (rest : Rest) (at : ℕ) (stack : List Operand) (line : List ℕ) (st : State) (go : Unit {0} → State → Evaluated A)
      → n.least ≡ 0 → IsFound 0 n.frames st.mode (coded_found n.spot found)
      → ((after : State) → Reaches (setting code begin h) n fine (rested (setting code begin h) rest (core_at at stack line n after)) after.left (go tt after))
      → Reaches (setting code begin h) n fine
      (machine.meets (setting code begin h) e (coded_found n.spot found) rest (rested (setting code begin h) rest (core_at at stack line n st)) (core_at at stack line n st)) st.left (bind (tree.meets h e found st) go)
  met_reaches fine e (BySystem does) rest at stack line st go unleft is each =
      ends fine _ st.left (bind (tree.sided h st.mode.groups does st) (λ done after. stops e after)) go
      (sided_reaches (λ v after. None) st.mode.groups does (Halts e) (Waits (request.Stop e) (Halts e) (core_at at stack line n st)) at stack line st (λ done after. stops e after)
      (stops_reaches (λ v after. None) e (core_at at stack line n st) st.left) (λ a left. stops_reaches (λ v after. None) e (core_at at stack line n st) left))
  met_reaches fine e (Ignored does) rest at stack line st go unleft is each =
      sided_reaches fine st.mode.groups does (Then rest) (rested (setting code begin h) rest (core_at at stack line n st)) at stack line st go (each st) (λ a left. each (state st.kept st.entries st.mode left))
  met_reaches fine e (ByStatement level place) rest at stack line st go unleft is each = record {
    holds = (
      met_handles level (n.spot level place) st.mode unleft is,
      subst (λ c. Leads (setting code begin h) (entered_at c) st.left (landing n level place st) st.left)
          (cut_same level (n.spot level place) n.frames (n.spot level place) at [] stack [] line (coded_entries (n.spot 0) st.entries) n.frames n.frames st.kept st.mode)
          (stays (setting code begin h) (landing n level place st) st.left),
    );
  }

  module _ (standing : Standing code h n) where
    searched : (e : ErrNo) (st : State)
        → search (are_spent st.mode.groups st.mode.turns) (all_entered (coded_entries (n.spot 0) st.entries) n.frames) e
        ≡ coded_found n.spot (search (are_spent st.mode.groups st.mode.turns) (tree.all_entered h st.entries) e)
    searched e st = ap (λ bs. search (are_spent st.mode.groups st.mode.turns) bs e) (standing.entered st.entries) ∙ search_coded n.spot (are_spent st.mode.groups st.mode.turns) (tree.all_entered h st.entries) e

    -- an error arises, and where it is ignored, the rest of the instruction follows
    pub raised_reaches : {A : Type 0} (fine : A → State → Option Step) (e : ErrNo) (rest : Rest) (at : ℕ) (stack : List Operand) (line : List ℕ) (st : State) (go : Unit {0} → State → Evaluated A)
        → ((after : State) → Reaches (setting code begin h) n fine (rested (setting code begin h) rest (core_at at stack line n after)) after.left (go tt after))
        → Reaches (setting code begin h) n fine (raised_before (setting code begin h) e rest (core_at at stack line n st)) st.left (bind (raise h e st) go)
    raised_reaches fine e rest at stack line st go each =
        subst (λ found. Reaches (setting code begin h) n fine
        (machine.meets (setting code begin h) e found rest (rested (setting code begin h) rest (core_at at stack line n (with_kept (kept st.kept.places e) st))) (core_at at stack line n (with_kept (kept st.kept.places e) st))) st.left (bind (raise h e st) go))
        (sym (searched e st))
        (met_reaches fine e (search (are_spent st.mode.groups st.mode.turns) (tree.all_entered h st.entries) e) rest at stack line (with_kept (kept st.kept.places e) st) go standing.unleft
        (subst (λ found. IsFound 0 n.frames st.mode found) (searched e st)
        (found_right n.frames (are_spent st.mode.groups st.mode.turns) 0 (coded_entries (n.spot 0) st.entries) e st.mode (λ spent. spent))) each)

    -- the value of an operation, or its error
    pub tested_reaches : (r : Result Value ErrNo) (mended : Value) (at : ℕ) (below stack : List Operand) (line : List ℕ) (st : State)
        → Reaches (setting code begin h) n (λ v after. Some (Moves (core_at (suc at) (Val v ∷ stack) line n after))) (tested (setting code begin h) r mended stack (core_at at below line n st)) st.left (tree.tested h r mended st)
    tested_reaches (Ok v) mended at below stack line st = record { holds = stays (setting code begin h) _ st.left }
    tested_reaches (Err e) mended at below stack line st =
        raised_reaches (λ v after. Some (Moves (core_at (suc at) (Val v ∷ stack) line n after))) e Goes (suc at) (Val mended ∷ stack) line st (λ ignored after. Gives mended after)
        (λ after. record { holds = stays (setting code begin h) _ after.left })

    put_in : (at : ℕ) (stack : List Operand) (line : List ℕ) (number : ℕ) (v : Value) (found : Option Cell) (groups : Option ℕ) (st : State)
        → Reaches (setting code begin h) n (λ (done : Unit {0}) after. Some (Moves (core_at at stack line n after)))
        (elim found [ None ↦ Moves (core_at at stack line n st) | Some cell ↦ machine.put_cell number cell (of_kind cell.kind v) groups (core_at at stack line n st) ]) st.left
        (elim found [ None ↦ Gives tt st | Some cell ↦ tree.write_in number cell (of_kind cell.kind v) groups st ])
    put_in at stack line number v None groups st = record { holds = stays (setting code begin h) _ st.left }
    put_in at stack line number v (Some cell) None st =
        asks_reaches (setting code begin h) n _ (request.Write number (of_kind cell.kind v)) (Then Goes) (core_at at stack line n st) st.entries st.left (λ a after. Gives tt after)
        (λ a rest. record { holds = stays (setting code begin h) _ rest })
    put_in at stack line number v (Some cell) (Some groups) st = record { holds = stays (setting code begin h) _ st.left }

    -- a spot gets a value
    pub put_reaches : (at : ℕ) (stack : List Operand) (line : List ℕ) (spot : Spot) (v : Value) (st : State)
        → Reaches (setting code begin h) n (λ (done : Unit {0}) after. Some (Moves (core_at at stack line n after))) (machine.put (setting code begin h) spot v (core_at at stack line n st)) st.left (put h spot v st)
    put_reaches at stack line (Shared number) v st = put_in at stack line number v (slice_get h.set.tables.cells number) st.mode.groups st
    put_reaches at stack line (Own number) v st = record { holds = stays (setting code begin h) _ st.left }
    put_reaches at stack line Nowhere v st = record { holds = stays (setting code begin h) _ st.left }

    stored_reaches : (at : ℕ) (stack : List Operand) (line : List ℕ) (k : Kind) (spot : Spot) (v : Value) (r : Result Value ErrNo) (st : State)
        → Reaches (setting code begin h) n (λ (done : Unit {0}) after. Some (Moves (core_at at stack line n after))) (stored_at (setting code begin h) k v spot r (core_at at stack line n st)) st.left
        (bind (tree.tested h r (mended_store k v) st) (λ fitting after. put h spot fitting after))
    stored_reaches at stack line k spot v (Ok fitting) st = put_reaches at stack line spot fitting st
    stored_reaches at stack line k spot v (Err e) st =
        bind_reaches (setting code begin h) n (λ fitting after. machine.put (setting code begin h) spot fitting (core_at at stack line n after)) _ _ st.left
        (bind (raise h e st) (λ ignored after. Gives (mended_store k v) after)) (λ fitting after. put h spot fitting after)
        (raised_reaches (λ fitting after. Some (machine.put (setting code begin h) spot fitting (core_at at stack line n after))) e (Puts spot (mended_store k v)) at stack line st (λ ignored after. Gives (mended_store k v) after)
        (λ after. record { holds = stays (setting code begin h) _ after.left }))
        (λ fitting after. put_reaches at stack line spot fitting after)

    -- data get a value as by assignment
    pub store_reaches : (at : ℕ) (stack : List Operand) (line : List ℕ) (k : Kind) (spot : Spot) (v : Value) (st : State)
        → Reaches (setting code begin h) n (λ (done : Unit {0}) after. Some (Moves (core_at at stack line n after))) (stored_at (setting code begin h) k v spot (stored k v) (core_at at stack line n st)) st.left (store h k spot v st)
    store_reaches at stack line k spot v st = stored_reaches at stack line k spot v (stored k v) st

    read_in : (at : ℕ) (below stack : List Operand) (line : List ℕ) (number : ℕ) (found : Option Cell) (groups : Option ℕ) (st : State)
        → Reaches (setting code begin h) n (λ v after. Some (Moves (core_at (suc at) (Val v ∷ stack) line n after)))
        (elim found [ None ↦ pushed (value.Int (pos 0)) stack (core_at at below line n st) | Some cell ↦ fetched_cell number cell groups stack (core_at at below line n st) ]) st.left
        (elim found [ None ↦ Gives (value.Int (pos 0)) st | Some cell ↦ tree.read_in number cell groups st ])
    read_in at below stack line number None groups st = record { holds = stays (setting code begin h) _ st.left }
    read_in at below stack line number (Some cell) None st =
        asks_reaches (setting code begin h) n _ (request.Read (asked.Cell number)) (Pushes cell.kind) (core_at (suc at) stack line n st) st.entries st.left (λ a after. Gives (told cell.kind a) after)
        (λ a rest. record { holds = stays (setting code begin h) _ rest })
    read_in at below stack line number (Some cell) (Some groups) st = record { holds = stays (setting code begin h) _ st.left }

    -- the value at a spot
    pub read_reaches : (at : ℕ) (below stack : List Operand) (line : List ℕ) (k : Kind) (spot : Spot) (st : State)
        → Reaches (setting code begin h) n (λ v after. Some (Moves (core_at (suc at) (Val v ∷ stack) line n after))) (fetched (setting code begin h) k spot stack (core_at at below line n st)) st.left (read h k spot st)
    read_reaches at below stack line k (Shared number) st = read_in at below stack line number (slice_get h.set.tables.cells number) st.mode.groups st
    read_reaches at below stack line k (Own number) st = record { holds = stays (setting code begin h) _ st.left }
    read_reaches at below stack line k Nowhere st = record { holds = stays (setting code begin h) _ st.left }

  turned_by : {A : Type 0} (fine : A → State → Option Step) (spent : Step) (groups : Option ℕ) (turns : ℕ) (at : ℕ) (stack : List Operand) (line : List ℕ) (es : List Entry) (frames : List Frame) (st : State) (go : Bool → State → Evaluated A)
      → ((k : Kept) (m : Mode) (rest : List Answered) → Reaches (setting code begin h) n fine (Moves (core at stack line es frames k m)) rest (go true (state k st.entries m rest)))
      → (are_spent groups turns ≡ true → Reaches (setting code begin h) n fine spent st.left (bind (bind (raise h (error 1 8) st) (λ ignored after. Gives false after)) go))
      → Reaches (setting code begin h) n fine (machine.turned_in groups turns spent (core at stack line es frames st.kept st.mode)) st.left (bind (tree.turned h st groups turns) go)
  turned_by fine spent None turns at stack line es frames st go each out =
      asks_then fine request.Pass (Then Goes) (core at stack line es frames st.kept st.mode) st.entries st.left (λ a after. Gives true after) go (λ a rest. each st.kept st.mode rest)
  turned_by fine spent (Some groups) (suc turns) at stack line es frames st go each out =
      before (setting code begin h) n fine _ st.left (Moves (core at stack line es frames st.kept (mode (Some groups) st.mode.store st.mode.writes turns))) st.left _
      (counted (setting code begin h) (core at stack line es frames st.kept (mode (Some groups) st.mode.store st.mode.writes turns)) st.left) (each st.kept (mode (Some groups) st.mode.store st.mode.writes turns) st.left)
  turned_by fine spent (Some groups) zero at stack line es frames st go each out = out refl

  -- a turn begins behind which control goes on in any block, or turns are used up
  pub turned_at : {A : Type 0} (fine : A → State → Option Step) (spent : Step) (at : ℕ) (stack : List Operand) (line : List ℕ) (es : List Entry) (frames : List Frame) (st : State) (go : Bool → State → Evaluated A)
      → ((k : Kept) (m : Mode) (rest : List Answered) → Reaches (setting code begin h) n fine (Moves (core at stack line es frames k m)) rest (go true (state k st.entries m rest)))
      → (are_spent st.mode.groups st.mode.turns ≡ true → Reaches (setting code begin h) n fine spent st.left (bind (bind (raise h (error 1 8) st) (λ ignored after. Gives false after)) go))
      → Reaches (setting code begin h) n fine (machine.turned spent (core at stack line es frames st.kept st.mode)) st.left (bind (turn h st) go)
  turned_at fine spent at stack line es frames st go each out = turned_by fine spent st.mode.groups st.mode.turns at stack line es frames st go each out

  -- the same in the running block
  pub turned_reaches : {A : Type 0} (fine : A → State → Option Step) (spent : Step) (at : ℕ) (stack : List Operand) (line : List ℕ) (st : State) (go : Bool → State → Evaluated A)
      → ((after : State) → Reaches (setting code begin h) n fine (Moves (core_at at stack line n after)) after.left (go true after))
      → (are_spent st.mode.groups st.mode.turns ≡ true → Reaches (setting code begin h) n fine spent st.left (bind (bind (raise h (error 1 8) st) (λ ignored after. Gives false after)) go))
      → Reaches (setting code begin h) n fine (machine.turned spent (core_at at stack line n st)) st.left (bind (turn h st) go)
  turned_reaches fine spent at stack line st go each out = turned_at fine spent at stack line (coded_entries (n.spot 0) st.entries) n.frames st go (λ k m rest. each (state k st.entries m rest)) out
