-- What instructions do to the turns that are left in an UPDATE block: those that are counted are one fewer, and all else leaves them.
use Rattle.std.specs.Prelude.{ℕ, zero, suc, ◌+◌, ◌≡◌, nat_lt, length, take, List, [], ◌∷◌, ◌++◌, Bool, true, false, Option, Some, None, ℤ, pos, ◌+ℤ◌, slice_get, slice_set, Result, Ok, Err, if◌then◌else◌}
use Rattle.std.proofs.Common.{refl, subst}
use Rattle.hal_base.specs.declared.limits.TheConstants.{LINE_LIMIT}
use Rattle.hal_values.specs.declared.environment.ErrNo.{ErrNo}
use Rattle.hal_values.specs.declared.environment.Side.{Side}
use Rattle.hal_values.specs.declared.environment.Side.TheVariants as side
use Rattle.hal_values.specs.declared.plan.Guard.{Guard}
use Rattle.hal_values.specs.declared.plan.Pause.{Pause}
use Rattle.hal_values.specs.declared.plan.Plan.{Plan}
use Rattle.hal_values.specs.declared.plan.When.{When}
use Rattle.hal_values.specs.declared.request.Request.{Request}
use Rattle.hal_values.specs.declared.request.Request.TheVariants as request
use Rattle.hal_values.specs.declared.tables.Cell.{Cell}
use Rattle.hal_values.specs.declared.value.Kind.{Kind}
use Rattle.hal_values.specs.declared.value.Value.{Value}
use Rattle.hal_values.specs.declared.value.Value.TheVariants as value
use Rattle.hal_values.specs.Answers.{error}
use Rattle.hal_values.specs.Searching.{Found, BySystem, Ignored, ByStatement, search}
use Rattle.hal_values.specs.Tables.{process_count, event_count}
use Rattle.hal_operations.specs.declared.operation.Op1.{Op1}
use Rattle.hal_operations.specs.declared.operation.Op2.{Op2}
use Rattle.hal_operations.specs.declared.part.Part.{Part}
use Rattle.hal_operations.specs.Values.{value_of_one, value_of_two}
use Rattle.hal_operations.specs.Mended.{mended_of_one, mended_of_two}
use Rattle.hal_operations.specs.Parts.{picked, mended_pick, patched, mended_patch}
use Rattle.hal_operations.specs.Stores.{stored, mended_store}
use Rattle.hal_states.specs.Spots.{Spot, Shared, Own, Nowhere, held_in, further}
use Rattle.hal_states.specs.OfKinds.{nothing, of_kind}
use Rattle.hal_states.specs.Modes.{Mode, mode, closed, are_spent, has_bit}
use Rattle.hal_states.specs.Numbers.{integer_of, is_past}
use Rattle.hal_states.specs.Times.{nearest_priority, is_priority, Again, is_again, cycle_of, plan_of}
use Rattle.hal_code.specs.declared.choice.Choice.{Choice}
use Rattle.hal_code.specs.declared.choice.Choice.TheVariants as choice
use Rattle.hal_code.specs.declared.instr.Instr.{Instr}
use Rattle.hal_code.specs.declared.instr.Instr.TheVariants as instr
use Rattle.hal_code.specs.declared.operand.EventChange.{EventChange}
use Rattle.hal_code.specs.declared.operand.Limit.{Limit}
use Rattle.hal_code.specs.declared.operand.Places.{Places}
use Rattle.hal_code.specs.declared.operand.Response.{Response}
use Rattle.hal_code.specs.declared.operand.Round.{Round}
use Rattle.hal_code.specs.declared.operand.Start.{Start}
use Rattle.hal_code.specs.declared.row.Block.{Block}
use Rattle.hal_code.specs.declared.row.View.{View}
use Rattle.hal_code.specs.Images.{kinds_of}
use Rattle.hal_code.specs.Cores.{Operand, Val, At, Area, Setting, Core, core, Frame, Return, going, with_line, all_entered, Rest, Goes, Puts, Asks, Tries, Plans, Wait, Then, Tried, Step, Waits, Moves, Counts}
use Rattle.hal_code.specs.Raising.{stuck, made_if, changed_event, sided, cut, turned_in, turned, entered_at, meets, failing, raised_to, raised, put_cell, put, tried_plan, planned, rested, raised_before}
use Rattle.hal_code.specs.Addressing.{popped, all_inside, cells_before, spot_of, operand_of, addressed, viewed, is_of_cell, cell_viewed, area_viewed, pushed, fetched_cell, fetched, stored_at, placed, copied_cell, copied, act_fetch, act_peek, act_keep, act_bind, act_copy}
use Rattle.hal_code.specs.Computing.{tested, act_dup, act_drop, act_one, act_two, counted_places, part_taken, part_picked, act_pick, replaced, part_patched, act_patch, counted_on, act_next}
use Rattle.hal_code.specs.Controlling.{act_jump_not, act_turn, zero_of, with_result, called, returned, act_return, act_on}
use Rattle.hal_code.specs.Asking.{Taken, start_taken, priority_taken, round_taken, limit_taken, delay_taken, scheduled, with_start, with_priority, with_round, with_limit, act_schedule, named, prioritized, act_priority, waited, act_event_change, act_event, act_item, act_print, act_close}
use Rattle.hal_code.specs.Machine.{act, stepped}

-- where so many turns were left before a step
abbrev pub Left : ℕ → Step → Type 0
Left turns (Waits r w c) = Unit {0}
Left turns (Moves c) = c.mode.turns ≡ turns
Left turns (Counts c) = suc c.mode.turns ≡ turns

pub record Turns (turns : ℕ) (step : Step) : Type 0 where
  pub is : Left turns step

either : {t : ℕ} (b : Bool) (x y : Step) → (b ≡ true → Turns t x) → (b ≡ false → Turns t y) → Turns t (if b then x else y)
either true x y one other = one refl
either false x y one other = other refl

found : {A : Type 0} {t : ℕ} (o : Option A) (none : Step) (some : A → Step) → Turns t none → ((a : A) → o ≡ Some a → Turns t (some a)) → Turns t (elim o [ None ↦ none | Some a ↦ some a ])
found None none some without each = without
found (Some a) none some without each = each a refl

Turns-changed : (s : Setting) (change : ℕ → Request) (e : ℕ) (w : Wait) (otherwise : Step) (c : Core) {t : ℕ} → Turns t otherwise → Turns t (changed_event s change e w otherwise c)
Turns-changed s change e w otherwise c is = either (nat_lt e (event_count s.tables)) (Waits (change e) w c) otherwise (λ has. record { is = tt }) (λ has. is)

Turns-sided : (s : Setting) (groups : Option ℕ) (one : Side) (w : Wait) (otherwise : Step) (c : Core) {t : ℕ} → Turns t otherwise → Turns t (sided s groups one w otherwise c)
Turns-sided s (Some groups) one w otherwise c is = is
Turns-sided s None side.Nothing w otherwise c is = is
Turns-sided s None (side.Signal e) w otherwise c is = Turns-changed s request.Signal e w otherwise c is
Turns-sided s None (side.Set e) w otherwise c is = Turns-changed s request.Set e w otherwise c is
Turns-sided s None (side.Reset e) w otherwise c is = Turns-changed s request.Reset e w otherwise c is

-- an UPDATE block that is left is shut
abbrev shut : Mode → Option Return → Mode
shut m back = elim back [ None ↦ closed m | Some one ↦ m ]

shut_turns : (m : Mode) (back : Option Return) → (shut m back).turns ≡ m.turns
shut_turns m None = refl
shut_turns m (Some one) = refl

-- blocks that are left leave the turns
cut_turns : (level place : ℕ) (frames : List Frame) (c : Core) (t : ℕ) → c.mode.turns ≡ t → (cut level place frames c).mode.turns ≡ t
cut_turns zero place frames c t is = is
cut_turns (suc level) place [] c t is = is
cut_turns (suc level) place (f ∷ fs) c t is =
    cut_turns level place fs (core place [] [] f.entries fs c.kept (shut c.mode f.back)) t (subst (λ n. (shut c.mode f.back).turns ≡ n) is (shut_turns c.mode f.back))

Turns-in : (groups : Option ℕ) (turns : ℕ) (spent : Step) (c : Core) → Turns turns spent → Turns turns (turned_in groups turns spent c)
Turns-in None turns spent c is = record { is = tt }
Turns-in (Some groups) (suc turns) spent c is = record { is = refl }
Turns-in (Some groups) zero spent c is = is

Turns-turned : (s : Setting) (spent : Step) (c : Core) → Turns c.mode.turns spent → Turns c.mode.turns (turned spent c)
Turns-turned s spent c is = Turns-in c.mode.groups c.mode.turns spent c is

Turns-entered : (c : Core) (t : ℕ) → c.mode.turns ≡ t → Turns t (entered_at c)
Turns-entered c t is = subst (λ n. Turns n (entered_at c)) is (Turns-in c.mode.groups c.mode.turns (stuck c) c (record { is = tt }))

Turns-meets : (s : Setting) (e : ErrNo) (one : Found) (rest : Rest) (ignored : Step) (c : Core) → Turns c.mode.turns ignored → Turns c.mode.turns (meets s e one rest ignored c)
Turns-meets s e (BySystem does) rest ignored c is = Turns-sided s c.mode.groups does _ _ c (record { is = tt })
Turns-meets s e (Ignored does) rest ignored c is = Turns-sided s c.mode.groups does _ _ c is
Turns-meets s e (ByStatement level place) rest ignored c is = Turns-entered (cut level place c.frames c) c.mode.turns (cut_turns level place c.frames c c.mode.turns refl)

Turns-raised_to : (s : Setting) (e : ErrNo) (rest : Rest) (next : Core → Step) (c : Core) → Turns c.mode.turns (next (failing e c)) → Turns c.mode.turns (raised_to s e rest next c)
Turns-raised_to s e rest next c is = Turns-meets s e (search (are_spent c.mode.groups c.mode.turns) (all_entered c.entries c.frames) e) rest (next (failing e c)) (failing e c) is

Turns-raised : (s : Setting) (e : ErrNo) (c : Core) → Turns c.mode.turns (raised s e c)
Turns-raised s e c = Turns-raised_to s e Goes Moves c (record { is = refl })

noted_turns : (groups number : ℕ) (cell : Cell) (v : Value) (m : Mode) (b : Bool) → (if b then mode m.groups (slice_set m.store number v) (m.writes ++ ((number, v) ∷ [])) m.turns else m).turns ≡ m.turns
noted_turns groups number cell v m true = refl
noted_turns groups number cell v m false = refl

Turns-put_cell : (number : ℕ) (cell : Cell) (v : Value) (groups : Option ℕ) (c : Core) → Turns c.mode.turns (put_cell number cell v groups c)
Turns-put_cell number cell v None c = record { is = tt }
Turns-put_cell number cell v (Some groups) c = record { is = noted_turns groups number cell v c.mode (has_bit groups cell.group) }

Turns-put : (s : Setting) (at : Spot) (v : Value) (c : Core) → Turns c.mode.turns (put s at v c)
Turns-put s (Shared number) v c = found {A = Cell} (slice_get s.tables.cells number) (Moves c) (λ cell. put_cell number cell (of_kind cell.kind v) c.mode.groups c) (record { is = refl }) (λ cell has. Turns-put_cell number cell (of_kind cell.kind v) c.mode.groups c)
Turns-put s (Own number) v c = record { is = refl }
Turns-put s Nowhere v c = record { is = refl }

Turns-planned : (s : Setting) (plan : Plan) (again : Again) (c : Core) → Turns c.mode.turns (planned s plan again c)
Turns-planned s plan again c =
    either (is_again again) (tried_plan plan c) (raised_to s (error 2 5) (Tries (request.Schedule plan)) (tried_plan plan) c) (λ is. record { is = tt })
    (λ is. Turns-raised_to s (error 2 5) (Tries (request.Schedule plan)) (tried_plan plan) c (record { is = tt }))

Turns-rested : (s : Setting) (rest : Rest) (c : Core) → Turns c.mode.turns (rested s rest c)
Turns-rested s Goes c = record { is = refl }
Turns-rested s (Puts at v) c = Turns-put s at v c
Turns-rested s (Asks r) c = record { is = tt }
Turns-rested s (Tries r) c = record { is = tt }
Turns-rested s (Plans plan again) c = Turns-planned s plan again c

Turns-raised_before : (s : Setting) (e : ErrNo) (rest : Rest) (c : Core) → Turns c.mode.turns (raised_before s e rest c)
Turns-raised_before s e rest c = Turns-raised_to s e rest (rested s rest) c (Turns-rested s rest (failing e c))

module _ (s : Setting) where
  Turns-pushed : (v : Value) (stack : List Operand) (c : Core) → Turns c.mode.turns (pushed v stack c)
  Turns-pushed v stack c = record { is = refl }

  Turns-addressed : (view : View) (is : List ℤ) (c : Core) → Turns c.mode.turns (addressed s view is c)
  Turns-addressed view is c = either (all_inside view.dimensions is) (Moves c) (raised s (error 1 3) c) (λ e. record { is = refl }) (λ e. Turns-raised s (error 1 3) c)

  Turns-viewed : (view : View) (c : Core) → Turns c.mode.turns (viewed s view c)
  Turns-viewed view c = found {A = List ℤ × List Operand} (popped (length view.dimensions) c.stack) (stuck c) (λ got. addressed s view got.0 (going (suc c.at) (operand_of view.target (further (cells_before view.dimensions got.0) (spot_of view.base c.kept.places)) ∷ got.1) c)) (record { is = tt }) (λ got e. Turns-addressed view got.0 _)

  Turns-cell_viewed : (view : View) (c : Core) → Turns c.mode.turns (cell_viewed s view c)
  Turns-cell_viewed view c = either (is_of_cell view) (viewed s view c) (stuck c) (λ e. Turns-viewed view c) (λ e. record { is = tt })

  Turns-area_viewed : (view : View) (c : Core) → Turns c.mode.turns (area_viewed s view c)
  Turns-area_viewed view c = either (is_of_cell view) (stuck c) (viewed s view c) (λ e. record { is = tt }) (λ e. Turns-viewed view c)

  Turns-fetched_cell : (number : ℕ) (cell : Cell) (groups : Option ℕ) (stack : List Operand) (c : Core) → Turns c.mode.turns (fetched_cell number cell groups stack c)
  Turns-fetched_cell number cell (Some groups) stack c = record { is = refl }
  Turns-fetched_cell number cell groups stack c = record { is = tt }

  Turns-fetched : (k : Kind) (at : Spot) (stack : List Operand) (c : Core) → Turns c.mode.turns (fetched s k at stack c)
  Turns-fetched k (Shared number) stack c = found {A = Cell} (slice_get s.tables.cells number) (pushed (value.Int (pos 0)) stack c) (λ cell. fetched_cell number cell c.mode.groups stack c) (record { is = refl }) (λ cell has. Turns-fetched_cell number cell c.mode.groups stack c)
  Turns-fetched k (Own number) stack c = record { is = refl }
  Turns-fetched k Nowhere stack c = record { is = refl }

  Turns-stored : (k : Kind) (v : Value) (at : Spot) (r : Result Value ErrNo) (c : Core) → Turns c.mode.turns (stored_at s k v at r c)
  Turns-stored k v at (Ok fitting) c = Turns-put s at fitting c
  Turns-stored k v at (Err e) c = Turns-raised_before s e (Puts at (mended_store k v)) c

  Turns-copied_cell : (number : ℕ) (cell : Cell) (groups : Option ℕ) (ks : List Kind) (place : ℕ) (next : Value → Step) (c : Core) → ((v : Value) → Turns c.mode.turns (next v)) → Turns c.mode.turns (copied_cell number cell groups ks place next c)
  Turns-copied_cell number cell (Some groups) ks place next c each = each _
  Turns-copied_cell number cell None ks place next c each = record { is = tt }

  Turns-copied : (ks : List Kind) (from : Spot) (place : ℕ) (c : Core) → Turns c.mode.turns (copied s ks from place c)
  Turns-copied [] from place c = record { is = refl }
  Turns-copied (k ∷ ks) (Shared number) place c =
      found {A = Cell} {t = c.mode.turns} (slice_get s.tables.cells number) (copied s ks (Shared (number + 1)) (suc place) (placed place (value.Int (pos 0)) c))
      (λ cell. copied_cell number cell c.mode.groups ks place (λ v. copied s ks (Shared (number + 1)) (suc place) (placed place v c)) c) (Turns-copied ks (Shared (number + 1)) (suc place) (placed place (value.Int (pos 0)) c))
      (λ cell has. Turns-copied_cell number cell c.mode.groups ks place (λ v. copied s ks (Shared (number + 1)) (suc place) (placed place v c)) c (λ v. Turns-copied ks (Shared (number + 1)) (suc place) (placed place v c)))
  Turns-copied (k ∷ ks) (Own number) place c = Turns-copied ks (Own (number + 1)) (suc place) (placed place (held_in (slice_get c.kept.places number)) c)
  Turns-copied (k ∷ ks) Nowhere place c = Turns-copied ks Nowhere (suc place) (placed place (nothing k) c)

  Turns-fetch : (stack : List Operand) (c : Core) → Turns c.mode.turns (act_fetch s stack c)
  Turns-fetch (At at k ∷ stack) c = Turns-fetched k at stack c
  Turns-fetch stack c = record { is = tt }

  Turns-peek : (stack : List Operand) (c : Core) → Turns c.mode.turns (act_peek s stack c)
  Turns-peek (At at k ∷ stack) c = Turns-fetched k at (At at k ∷ stack) c
  Turns-peek stack c = record { is = tt }

  Turns-keep : (stack : List Operand) (c : Core) → Turns c.mode.turns (act_keep s stack c)
  Turns-keep (At at k ∷ Val v ∷ stack) c = Turns-stored k v at (stored k v) _
  Turns-keep stack c = record { is = tt }

  Turns-bind : (place : ℕ) (stack : List Operand) (c : Core) → Turns c.mode.turns (act_bind place stack c)
  Turns-bind place (Area at shape ∷ stack) c = record { is = refl }
  Turns-bind place stack c = record { is = tt }

  Turns-copy : (place : ℕ) (stack : List Operand) (c : Core) → Turns c.mode.turns (act_copy s place stack c)
  Turns-copy place (Area at shape ∷ stack) c = Turns-copied (kinds_of s.image shape) at place _
  Turns-copy place stack c = record { is = tt }

  Turns-tested : (r : Result Value ErrNo) (mended : Value) (stack : List Operand) (c : Core) → Turns c.mode.turns (tested s r mended stack c)
  Turns-tested (Ok v) mended stack c = record { is = refl }
  Turns-tested (Err e) mended stack c = Turns-raised s e (going (suc c.at) (Val mended ∷ stack) c)

  Turns-dup : (stack : List Operand) (c : Core) → Turns c.mode.turns (act_dup stack c)
  Turns-dup (Val v ∷ stack) c = record { is = refl }
  Turns-dup stack c = record { is = tt }

  Turns-drop : (stack : List Operand) (c : Core) → Turns c.mode.turns (act_drop stack c)
  Turns-drop (Val v ∷ stack) c = record { is = refl }
  Turns-drop stack c = record { is = tt }

  Turns-one : (op : Choice Op1) (stack : List Operand) (c : Core) → Turns c.mode.turns (act_one s op stack c)
  Turns-one (choice.Known op) (Val v ∷ stack) c = Turns-tested (value_of_one op v) (mended_of_one op v) stack c
  Turns-one op stack c = record { is = tt }

  Turns-two : (op : Choice Op2) (stack : List Operand) (c : Core) → Turns c.mode.turns (act_two s op stack c)
  Turns-two (choice.Known op) (Val w ∷ Val v ∷ stack) c = Turns-tested (value_of_two op v w) (mended_of_two op v w) stack c
  Turns-two op stack c = record { is = tt }

  Turns-counted : (one : Option Operand) (c : Core) → Turns c.mode.turns (counted_places one c)
  Turns-counted (Some (Val v)) c = record { is = refl }
  Turns-counted one c = record { is = tt }

  Turns-picked : (p : Part) (stack : List Operand) (c : Core) → Turns c.mode.turns (part_picked s p stack c)
  Turns-picked p (Val v ∷ stack) c = Turns-tested (picked v p) (mended_pick v p) stack c
  Turns-picked p stack c = record { is = tt }

  Turns-pick : (chosen : Choice Places) (c : Core) → Turns c.mode.turns (act_pick s chosen c)
  Turns-pick (choice.Known chosen) c = found {A = Part × List Operand} (part_taken chosen c.stack) (stuck c) (λ got. part_picked s got.0 got.1 c) (record { is = tt }) (λ got e. Turns-picked got.0 got.1 c)
  Turns-pick chosen c = record { is = tt }

  Turns-replaced : (r : Result Value ErrNo) (mended : Value) (address : Operand) (stack : List Operand) (c : Core) → Turns c.mode.turns (replaced s r mended address stack c)
  Turns-replaced (Ok v) mended address stack c = record { is = refl }
  Turns-replaced (Err e) mended address stack c = Turns-raised s e (going (suc c.at) (address ∷ Val mended ∷ stack) c)

  Turns-patched : (p : Part) (stack : List Operand) (c : Core) → Turns c.mode.turns (part_patched s p stack c)
  Turns-patched p (Val old ∷ At at k ∷ Val new ∷ stack) c = Turns-replaced (patched old p new) (mended_patch old p new) (At at k) stack c
  Turns-patched p stack c = record { is = tt }

  Turns-patch : (chosen : Choice Places) (c : Core) → Turns c.mode.turns (act_patch s chosen c)
  Turns-patch (choice.Known chosen) c = found {A = Part × List Operand} (part_taken chosen c.stack) (stuck c) (λ got. part_patched s got.0 got.1 c) (record { is = tt }) (λ got e. Turns-patched got.0 got.1 c)
  Turns-patch chosen c = record { is = tt }

  Turns-counted_on : (b : Bool) (before next : ℤ) (stack : List Operand) (c : Core) → Turns c.mode.turns (counted_on b before next stack c)
  Turns-counted_on true before next stack c = record { is = refl }
  Turns-counted_on false before next stack c = record { is = refl }

  Turns-next : (stack : List Operand) (c : Core) → Turns c.mode.turns (act_next stack c)
  Turns-next (Val last ∷ Val step ∷ Val before ∷ stack) c =
      Turns-counted_on (is_past (integer_of step) (integer_of last) (integer_of before +ℤ integer_of step)) (integer_of before) (integer_of before +ℤ integer_of step) stack c
  Turns-next stack c = record { is = tt }

  Turns-jump_not : (target : ℕ) (stack : List Operand) (c : Core) → Turns c.mode.turns (act_jump_not target stack c)
  Turns-jump_not target (Val v ∷ stack) c = record { is = refl }
  Turns-jump_not target stack c = record { is = tt }

  Turns-turn : (target : ℕ) (c : Core) → Turns c.mode.turns (act_turn s target c)
  Turns-turn target c = Turns-turned s _ _ (Turns-raised s (error 1 8) (going target c.stack c))

  Turns-called : (block : Block) (c : Core) → Turns c.mode.turns (called s block c)
  Turns-called block c = Turns-turned s _ _ (Turns-raised s (error 1 8) (going (suc c.at) (with_result (zero_of block.result) c.stack) c))

  Turns-returned : (result : Option Value) (stack : List Operand) (back : Return) (f : Frame) (fs : List Frame) (c : Core) → Turns c.mode.turns (returned result stack back f.entries fs c)
  Turns-returned None stack back f fs c = record { is = refl }
  Turns-returned (Some wanted) (Val v ∷ stack) back f fs c = record { is = refl }
  Turns-returned result stack back f fs c = record { is = tt }

  Turns-return : (frames : List Frame) (c : Core) → Turns c.mode.turns (act_return frames c)
  Turns-return (f ∷ fs) c = found {A = Return} f.back (stuck c) (λ back. returned back.result c.stack back f.entries fs c) (record { is = tt }) (λ back e. Turns-returned back.result c.stack back f fs c)
  Turns-return frames c = record { is = tt }

  Turns-on : (group number : ℕ) (r : Choice Response) (e : Choice EventChange) (event target : ℕ) (c : Core) → Turns c.mode.turns (act_on group number r e event target c)
  Turns-on group number (choice.Known r) (choice.Known e) event target c = record { is = refl }
  Turns-on group number r e event target c = record { is = tt }

  Turns-scheduled : (p : ℕ) (starts : When) (n : ℤ) (dependent : Bool) (again : Again) (until : Guard) (c : Core) → Turns c.mode.turns (scheduled s p starts n dependent again until c)
  Turns-scheduled p starts n dependent again until c = either (is_priority n) _ _ (λ e. Turns-planned s _ again c) (λ e. Turns-raised_before s (error 2 4) (Plans (plan_of p starts (nearest_priority n) dependent (cycle_of again) until) again) c)

  Turns-start : (p : ℕ) (n : ℤ) (dependent : Bool) (again : Again) (until : Guard) (taken : Taken When) (c : Core) → Turns c.mode.turns (with_start s p n dependent again until taken c)
  Turns-start p n dependent again until (Some got) c = Turns-scheduled p got.0 n dependent again until _
  Turns-start p n dependent again until taken c = record { is = tt }

  Turns-priority_taken : (p : ℕ) (begins : Start) (dependent : Bool) (again : Again) (until : Guard) (taken : Taken ℤ) (c : Core) → Turns c.mode.turns (with_priority s p begins dependent again until taken c)
  Turns-priority_taken p begins dependent again until (Some got) c = Turns-start p got.0 dependent again until (start_taken s.tables begins got.1) c
  Turns-priority_taken p begins dependent again until taken c = record { is = tt }

  Turns-round : (p : ℕ) (begins : Start) (prio : Choice Bool) (dependent : Bool) (until : Guard) (taken : Taken Again) (c : Core) → Turns c.mode.turns (with_round s p begins prio dependent until taken c)
  Turns-round p begins prio dependent until (Some got) c = Turns-priority_taken p begins dependent got.0 until (priority_taken prio got.1) c
  Turns-round p begins prio dependent until taken c = record { is = tt }

  Turns-limit : (p : ℕ) (begins : Start) (prio dependent : Choice Bool) (again : Round) (taken : Taken Guard) (c : Core) → Turns c.mode.turns (with_limit s p begins prio dependent again taken c)
  Turns-limit p begins prio (choice.Known dependent) again (Some got) c = Turns-round p begins prio dependent got.0 (round_taken again got.1) c
  Turns-limit p begins prio dependent again taken c = record { is = tt }

  Turns-schedule : (p : ℕ) (begins : Start) (prio dependent : Choice Bool) (again : Round) (until : Limit) (c : Core) → Turns c.mode.turns (act_schedule s p begins prio dependent again until c)
  Turns-schedule p begins prio dependent again until c = either (nat_lt p (process_count s.tables)) _ _ (λ has. Turns-limit p begins prio dependent again (limit_taken s.tables until c.stack) c) (λ has. record { is = tt })

  Turns-made : (p : ℕ) (asks : ℕ → Request) (b : Bool) (c : Core) → Turns c.mode.turns (made_if b (asks p) Tried c)
  Turns-made p asks true c = record { is = tt }
  Turns-made p asks false c = record { is = tt }

  Turns-prioritized : (p : ℕ) (n : ℤ) (c : Core) → Turns c.mode.turns (prioritized s p n c)
  Turns-prioritized p n c = either (is_priority n) _ _ (λ e. record { is = tt }) (λ e. Turns-raised_before s (error 2 4) (Tries (request.Priority p (nearest_priority n))) c)

  Turns-priority : (p : ℕ) (stack : List Operand) (c : Core) → Turns c.mode.turns (act_priority s p stack c)
  Turns-priority p (Val v ∷ stack) c = either (nat_lt (named s p) (process_count s.tables)) _ _ (λ has. Turns-prioritized (named s p) (integer_of v) _) (λ has. record { is = tt })
  Turns-priority p stack c = record { is = tt }

  Turns-waited : (taken : Taken Pause) (c : Core) → Turns c.mode.turns (waited taken c)
  Turns-waited None c = record { is = tt }
  Turns-waited (Some got) c = record { is = tt }

  Turns-event_change : (change : ℕ → Request) (e : ℕ) (c : Core) → Turns c.mode.turns (act_event_change s change e c)
  Turns-event_change change e c = Turns-changed s change e (Then Goes) _ _ (record { is = refl })

  Turns-event : (e : ℕ) (c : Core) → Turns c.mode.turns (act_event s e c)
  Turns-event e c = either (nat_lt e (event_count s.tables)) _ _ (λ has. record { is = tt }) (λ has. record { is = refl })

  Turns-item : (stack : List Operand) (c : Core) → Turns c.mode.turns (act_item stack c)
  Turns-item (Val v ∷ stack) c = record { is = refl }
  Turns-item stack c = record { is = tt }

  Turns-print : (channel : ℕ) (c : Core) → Turns c.mode.turns (act_print s channel c)
  Turns-print channel c = either (nat_lt LINE_LIMIT (length c.line)) _ _ (λ long. Turns-raised_before s (error 3 3) (Asks (request.Print channel (take LINE_LIMIT c.line))) (with_line [] (going (suc c.at) c.stack c))) (λ fits. record { is = tt })

  Turns-close : (frames : List Frame) (c : Core) → Turns c.mode.turns (act_close frames c)
  Turns-close [] c = record { is = tt }
  Turns-close (f ∷ fs) c = shut f.back
    where
      shut : (back : Option Return) → Turns c.mode.turns (elim back [ None ↦ Moves (core (suc c.at) c.stack c.line f.entries fs c.kept (closed c.mode)) | Some one ↦ stuck c ])
      shut None = record { is = refl }
      shut (Some one) = record { is = tt }

  pub Turns-act : (i : Instr) (c : Core) → Turns c.mode.turns (act s i c)
  Turns-act (instr.Int n) c = record { is = refl }
  Turns-act (instr.Bits len word) c = record { is = refl }
  Turns-act (instr.Text text) c = record { is = refl }
  Turns-act (instr.Cell view) c = found {A = View} (slice_get s.image.views view) (stuck c) (λ one. cell_viewed s one c) (record { is = tt }) (λ one e. Turns-cell_viewed one c)
  Turns-act (instr.Whole view) c = found {A = View} (slice_get s.image.views view) (stuck c) (λ one. area_viewed s one c) (record { is = tt }) (λ one e. Turns-area_viewed one c)
  Turns-act instr.Fetch c = Turns-fetch c.stack c
  Turns-act instr.Peek c = Turns-peek c.stack c
  Turns-act instr.Keep c = Turns-keep c.stack c
  Turns-act instr.Dup c = Turns-dup c.stack c
  Turns-act instr.Drop c = Turns-drop c.stack c
  Turns-act (instr.Event e) c = Turns-event e c
  Turns-act (instr.Op1 op) c = Turns-one op c.stack c
  Turns-act (instr.Op2 op) c = Turns-two op c.stack c
  Turns-act (instr.Len depth) c = Turns-counted (slice_get c.stack depth) c
  Turns-act (instr.Pick chosen) c = Turns-pick chosen c
  Turns-act (instr.Patch chosen) c = Turns-patch chosen c
  Turns-act (instr.Jump target) c = record { is = refl }
  Turns-act (instr.JumpNot target) c = Turns-jump_not target c.stack c
  Turns-act (instr.Turn target) c = Turns-turn target c
  Turns-act (instr.Call block) c = found {A = Block} (slice_get s.image.blocks block) (stuck c) (λ one. called s one c) (record { is = tt }) (λ one e. Turns-called one c)
  Turns-act instr.Return c = Turns-return c.frames c
  Turns-act (instr.On group number r e event target) c = Turns-on group number r e event target c
  Turns-act (instr.Off group number) c = record { is = refl }
  Turns-act (instr.Raise group number) c = Turns-raised s (error group number) (going (suc c.at) c.stack c)
  Turns-act instr.ErrGrp c = record { is = refl }
  Turns-act instr.ErrNum c = record { is = refl }
  Turns-act (instr.Bind place) c = Turns-bind place c.stack c
  Turns-act (instr.Copy place) c = Turns-copy place c.stack c
  Turns-act (instr.Clear place count) c = record { is = refl }
  Turns-act instr.Next c = Turns-next c.stack c
  Turns-act instr.Begin c = record { is = tt }
  Turns-act instr.Finish c = record { is = tt }
  Turns-act (instr.Schedule process begins prio dependent again until) c = Turns-schedule process begins prio dependent again until c
  Turns-act (instr.Cancel process) c = Turns-made (named s process) request.Cancel (nat_lt (named s process) (process_count s.tables)) _
  Turns-act (instr.Terminate process) c = Turns-made (named s process) request.Terminate (nat_lt (named s process) (process_count s.tables)) _
  Turns-act (instr.Wait one) c = Turns-waited (delay_taken s.tables one c.stack) c
  Turns-act (instr.Signal e) c = Turns-event_change request.Signal e c
  Turns-act (instr.Set e) c = Turns-event_change request.Set e c
  Turns-act (instr.Reset e) c = Turns-event_change request.Reset e c
  Turns-act (instr.Priority process) c = Turns-priority process c.stack c
  Turns-act instr.Item c = Turns-item c.stack c
  Turns-act (instr.Print channel) c = Turns-print channel c
  Turns-act (instr.Input channel k target) c = record { is = tt }
  Turns-act instr.Now c = record { is = tt }
  Turns-act (instr.Open groups) c = record { is = tt }
  Turns-act instr.Close c = Turns-close c.frames c

  -- the instruction that is next
  pub Turns-stepped : (c : Core) → Turns c.mode.turns (stepped s c)
  Turns-stepped c = found {A = Instr} (slice_get s.image.code c.at) (stuck c) (λ i. act s i c) (record { is = tt }) (λ i e. Turns-act i c)
