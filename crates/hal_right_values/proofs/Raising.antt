-- What errors come to holds right values, and so does what is left of an instruction.
use Rattle.std.specs.Prelude.{ℕ, zero, suc, ◌++◌, nat_lt, Bool, true, false, List, [], ◌∷◌, Option, Some, None, slice_get, slice_set, if◌then◌else◌}
use Rattle.std.proofs.Common.{arith}
use Rattle.hal_values.specs.declared.environment.ErrNo.{ErrNo}
use Rattle.hal_values.specs.declared.environment.Side.{Side}
use Rattle.hal_values.specs.declared.environment.Side.TheVariants as side
use Rattle.hal_values.specs.declared.plan.Plan.{Plan}
use Rattle.hal_values.specs.declared.request.Request.{Request}
use Rattle.hal_values.specs.declared.request.Request.TheVariants as request
use Rattle.hal_values.specs.declared.tables.Cell.{Cell}
use Rattle.hal_values.specs.declared.value.Value.{Value}
use Rattle.hal_values.specs.Answers.{error}
use Rattle.hal_values.specs.Searching.{Found, BySystem, Ignored, ByStatement, search}
use Rattle.hal_values.specs.Tables.{event_count}
use Rattle.hal_states.specs.Spots.{Spot, Shared, Own, Nowhere, Holds}
use Rattle.hal_states.specs.OfKinds.{of_kind}
use Rattle.hal_states.specs.Modes.{Mode, mode, closed, are_spent, has_bit}
use Rattle.hal_states.specs.Times.{Again, is_again}
use Rattle.hal_code.specs.Cores.{Setting, Core, core, Frame, Return, with_mode, all_entered, Rest, Goes, Puts, Asks, Tries, Plans, Wait, Then, Tried, Halts, Step, Waits, Moves}
use Rattle.hal_code.specs.Raising.{stuck, changed_event, sided, cut, turned_in, turned, entered_at, meets, failing, raised_to, raised, put_cell, put, tried_plan, planned, rested, raised_before}
use Rattle.hal_sound_values.specs.Right.{IsRight}
use Rattle.hal_right_values.specs.Ranges.{IsOfBytes}
use Rattle.hal_right_values.specs.Holding.{AreRightFrames, AreRight, AreRightWrites, Holding, IsRightRest, HoldsAfter}
use Rattle.hal_right_values.proofs.Errors.{small}
use Rattle.hal_right_values.proofs.Rights.{made_right}
use Rattle.hal_right_values.proofs.Steps.{Known, Right, core_right, placed_right, held_set, store_set, writes_push, moves, counts, waits, sticks, either, found}

pub mode_right : (c : Core) (m : Mode) → Holding c → AreRight m.store → AreRightWrites m.writes → Holding (with_mode m c)
mode_right c m h store writes = core_right c c.at c.stack c.line c.entries c.frames m h h.operands h.frames store writes

pub failing_right : (e : ErrNo) (c : Core) → IsOfBytes e → Holding c → Holding (failing e c)
failing_right e c is h = record { operands = h.operands; frames = h.frames; places = h.places; last = is; store = h.store; writes = h.writes }

module _ (s : Setting) (known : Known s) where
  pub Right-changed : (change : ℕ → Request) (e : ℕ) (w : Wait) (otherwise : Step) (c : Core) → Holding c → ((r : Request) → HoldsAfter r w) → Right otherwise → Right (changed_event s change e w otherwise c)
  Right-changed change e w otherwise c h after right = either (nat_lt e (event_count s.tables)) (Waits (change e) w c) otherwise (λ has. waits (change e) w c h (after (change e))) (λ has. right)

  Right-sided : (groups : Option ℕ) (one : Side) (w : Wait) (otherwise : Step) (c : Core) → Holding c → ((r : Request) → HoldsAfter r w) → Right otherwise → Right (sided s groups one w otherwise c)
  Right-sided (Some groups) one w otherwise c h after right = right
  Right-sided None side.Nothing w otherwise c h after right = right
  Right-sided None (side.Signal e) w otherwise c h after right = Right-changed request.Signal e w otherwise c h after right
  Right-sided None (side.Set e) w otherwise c h after right = Right-changed request.Set e w otherwise c h after right
  Right-sided None (side.Reset e) w otherwise c h after right = Right-changed request.Reset e w otherwise c h after right

  cut_right : (level place : ℕ) (frames : List Frame) (c : Core) → AreRightFrames frames → Holding c → Holding (cut level place frames c)
  cut_right zero place frames c below h = core_right c place [] [] c.entries frames c.mode h tt below h.store h.writes
  cut_right (suc level) place [] c below h = core_right c place [] [] c.entries [] c.mode h tt tt h.store h.writes
  cut_right (suc level) place (f ∷ fs) c below h = cut_right level place fs (core place [] [] f.entries fs c.kept (elim f.back [ None ↦ closed c.mode | Some back ↦ c.mode ])) below.1 (shut f.back)
    where
      shut : (back : Option Return) → Holding (core place [] [] f.entries fs c.kept (elim back [ None ↦ closed c.mode | Some one ↦ c.mode ]))
      shut None = core_right c place [] [] f.entries fs (closed c.mode) h tt below.1 h.store h.writes
      shut (Some one) = core_right c place [] [] f.entries fs c.mode h tt below.1 h.store h.writes

  Right-turned_in : (groups : Option ℕ) (turns : ℕ) (spent : Step) (c : Core) → Holding c → Right spent → Right (turned_in groups turns spent c)
  Right-turned_in None turns spent c h right = waits request.Pass (Then Goes) c h tt
  Right-turned_in (Some groups) (suc turns) spent c h right = counts _ (mode_right c (mode (Some groups) c.mode.store c.mode.writes turns) h h.store h.writes)
  Right-turned_in (Some groups) zero spent c h right = right

  pub Right-turned : (spent : Step) (c : Core) → Holding c → Right spent → Right (turned spent c)
  Right-turned spent c h right = Right-turned_in c.mode.groups c.mode.turns spent c h right

  Right-entered : (c : Core) → Holding c → Right (entered_at c)
  Right-entered c h = Right-turned (stuck c) c h (sticks c h)

  Right-meets : (e : ErrNo) (one : Found) (rest : Rest) (ignored : Step) (c : Core) → Holding c → IsRightRest rest → Right ignored → Right (meets s e one rest ignored c)
  Right-meets e (BySystem does) rest ignored c h left right = Right-sided c.mode.groups does (Halts e) (Waits (request.Stop e) (Halts e) c) c h (λ r. tt) (waits (request.Stop e) (Halts e) c h tt)
  Right-meets e (Ignored does) rest ignored c h left right = Right-sided c.mode.groups does (Then rest) ignored c h (λ r. left) right
  Right-meets e (ByStatement level place) rest ignored c h left right = Right-entered (cut level place c.frames c) (cut_right level place c.frames c h.frames h)

  -- an error arises
  pub Right-raised_to : (e : ErrNo) (rest : Rest) (follows : Core → Step) (c : Core) → IsOfBytes e → Holding c → IsRightRest rest → Right (follows (failing e c)) → Right (raised_to s e rest follows c)
  Right-raised_to e rest follows c is h left right =
      Right-meets e (search (are_spent c.mode.groups c.mode.turns) (all_entered c.entries c.frames) e) rest (follows (failing e c)) (failing e c) (failing_right e c is h) left right

  pub Right-raised : (e : ErrNo) (c : Core) → IsOfBytes e → Holding c → Right (raised s e c)
  Right-raised e c is h = Right-raised_to e Goes Moves c is h tt (moves (failing e c) (failing_right e c is h))

  noted_right : (b : Bool) (number : ℕ) (v : Value) (c : Core) → IsRight v → Holding c
      → Holding (with_mode (if b then mode c.mode.groups (slice_set c.mode.store number v) (c.mode.writes ++ ((number, v) ∷ [])) c.mode.turns else c.mode) c)
  noted_right true number v c is h = mode_right c (mode c.mode.groups (slice_set c.mode.store number v) (c.mode.writes ++ ((number, v) ∷ [])) c.mode.turns) h (store_set c.mode.store number v h.store is) (writes_push c.mode.writes number v h.writes is)
  noted_right false number v c is h = mode_right c c.mode h h.store h.writes

  Right-put_cell : (number : ℕ) (cell : Cell) (v : Value) (groups : Option ℕ) (c : Core) → IsRight v → Holding c → Right (put_cell number cell v groups c)
  Right-put_cell number cell v None c is h = waits (request.Write number v) (Then Goes) c h tt
  Right-put_cell number cell v (Some groups) c is h = moves _ (noted_right (has_bit groups cell.group) number v c is h)

  -- a spot gets a value
  pub Right-put : (at : Spot) (v : Value) (c : Core) → IsRight v → Holding c → Right (put s at v c)
  Right-put (Shared number) v c is h =
      found {A = Cell} (slice_get s.tables.cells number) (Moves c) (λ cell. put_cell number cell (of_kind cell.kind v) c.mode.groups c) (moves c h)
      (λ cell e. Right-put_cell number cell (of_kind cell.kind v) c.mode.groups c (made_right cell.kind v (known.cells number cell e)) h)
  Right-put (Own number) v c is h = moves _ (placed_right c (slice_set c.kept.places number (Holds v)) h (held_set c.kept.places number (Holds v) h.places is))
  Right-put Nowhere v c is h = moves c h

  pub Right-planned : (plan : Plan) (again : Again) (c : Core) → Holding c → Right (planned s plan again c)
  Right-planned plan again c h =
      either (is_again again) (tried_plan plan c) (raised_to s (error 2 5) (Tries (request.Schedule plan)) (tried_plan plan) c) (λ is. waits (request.Schedule plan) Tried c h tt)
      (λ is. Right-raised_to (error 2 5) (Tries (request.Schedule plan)) (tried_plan plan) c five h tt (waits (request.Schedule plan) Tried (failing (error 2 5) c) (failing_right (error 2 5) c five h) tt))
    where
      five : IsOfBytes (error 2 5)
      five = small 2 5 (omega arith) (omega arith)

  -- the rest of an instruction
  pub Right-rested : (rest : Rest) (c : Core) → Holding c → IsRightRest rest → Right (rested s rest c)
  Right-rested Goes c h left = moves c h
  Right-rested (Puts at v) c h left = Right-put at v c left h
  Right-rested (Asks r) c h left = waits r (Then Goes) c h tt
  Right-rested (Tries r) c h left = waits r Tried c h tt
  Right-rested (Plans plan again) c h left = Right-planned plan again c h

  pub Right-raised_before : (e : ErrNo) (rest : Rest) (c : Core) → IsOfBytes e → Holding c → IsRightRest rest → Right (raised_before s e rest c)
  Right-raised_before e rest c is h left = Right-raised_to e rest (rested s rest) c is h left (Right-rested rest (failing e c) (failing_right e c is h) left)
