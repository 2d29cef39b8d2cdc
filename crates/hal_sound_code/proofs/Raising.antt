-- What errors come to fits, and so does what is left of an instruction.
use Rattle.std.specs.Prelude.{ℕ, zero, suc, ◌+◌, ◌≤◌, ◌≡◌, nat_lt, Bool, true, false, [], ◌∷◌, ◌++◌, Option, Some, None, slice_get, slice_set, if◌then◌else◌}
use Rattle.std.proofs.Common.{refl, subst, arith}
use Rattle.hal_values.specs.declared.environment.ErrNo.{ErrNo}
use Rattle.hal_values.specs.declared.environment.Side.{Side}
use Rattle.hal_values.specs.declared.environment.Side.TheVariants as side
use Rattle.hal_values.specs.declared.plan.Plan.{Plan}
use Rattle.hal_values.specs.declared.request.Request.{Request}
use Rattle.hal_values.specs.declared.request.Request.TheVariants as request
use Rattle.hal_values.specs.declared.tables.Cell.{Cell}
use Rattle.hal_values.specs.declared.value.Value.{Value}
use Rattle.hal_values.specs.Answers.{error}
use Rattle.hal_values.specs.Searching.{Found, BySystem, Ignored, ByStatement, search}
use Rattle.hal_values.specs.Tables.{event_count}
use Rattle.hal_states.specs.Spots.{Holds, Spot, Shared, Own, Nowhere}
use Rattle.hal_states.specs.OfKinds.{of_kind}
use Rattle.hal_states.specs.Modes.{Mode, mode, are_spent, has_bit, noted}
use Rattle.hal_states.specs.Times.{Again, is_again}
use Rattle.hal_code.specs.Images.{places_of}
use Rattle.hal_code.specs.Cores.{Setting, Core, all_entered, Rest, Goes, Puts, Asks, Tries, Plans, Wait, Then, Tried, Halts, Step, Waits, Moves}
use Rattle.hal_code.specs.Raising.{stuck, changed_event, sided, cut, turned_in, turned, entered_at, meets, failing, raised_to, raised, put_cell, put, tried_plan, planned, rested, raised_before}
use Rattle.hal_sound_code.specs.Typed.{IsKept, IsTyped, MayHold, IsError, IsAsked, IsLeft, IsReady}
use Rattle.hal_sound_code.proofs.Places.{first_lies, held_set}
use Rattle.hal_sound_code.proofs.Stepping.{well_kept, Well, Typed, typed_with, stops, moves, counts, awaits, goes_on, either}
use Rattle.hal_sound_code.proofs.Points.{not_both}
use Rattle.hal_sound_code.proofs.Entering.{Entered, leads_below}

-- a change of an event is asked for
pub record Asking (change : ℕ → Request) : Type 0 where
  pub asks : (e : ℕ) → IsAsked (change e)

pub signals : Asking request.Signal
signals = record { asks = λ e is. cc }

pub sets : Asking request.Set
sets = record { asks = λ e is. cc }

pub resets : Asking request.Reset
resets = record { asks = λ e is. cc }

module _ (s : Setting) (most : ℕ) where
  pub Typed-changed : (change : ℕ → Request) (e : ℕ) (w : Wait) (otherwise : Step) (c : Core) → Asking change → IsKept s c → ((r : Request) → IsReady s r w c) → Typed s most otherwise → Typed s most (changed_event s change e w otherwise c)
  Typed-changed change e w otherwise c changes is ready typed =
      either s most (nat_lt e (event_count s.tables)) (Waits (change e) w c) otherwise (λ has. awaits s most (change e) w c (changes.asks e) is (ready (change e))) (λ has. typed)

  Typed-sided : (groups : Option ℕ) (one : Side) (w : Wait) (otherwise : Step) (c : Core) → IsKept s c → ((r : Request) → IsReady s r w c) → Typed s most otherwise → Typed s most (sided s groups one w otherwise c)
  Typed-sided (Some groups) one w otherwise c is ready typed = typed
  Typed-sided None side.Nothing w otherwise c is ready typed = typed
  Typed-sided None (side.Signal e) w otherwise c is ready typed = Typed-changed request.Signal e w otherwise c signals is ready typed
  Typed-sided None (side.Set e) w otherwise c is ready typed = Typed-changed request.Set e w otherwise c sets is ready typed
  Typed-sided None (side.Reset e) w otherwise c is ready typed = Typed-changed request.Reset e w otherwise c resets is ready typed

  Typed-turned_in : (groups : Option ℕ) (turns : ℕ) (spent : Step) (c : Core) → IsTyped s c → turns ≤ most → (are_spent groups turns ≡ true → Typed s most spent) → Typed s most (turned_in groups turns spent c)
  Typed-turned_in None turns spent c typed few none = goes_on s most request.Pass c (λ is. cc) typed
  Typed-turned_in (Some groups) (suc turns) spent c typed few none = counts s most _ (typed_with s c c.line _ c.kept.last typed) (omega (arith, few))
  Typed-turned_in (Some groups) zero spent c typed few none = none refl

  pub Typed-turned : (spent : Step) (c : Core) → Well s most c → (are_spent c.mode.groups c.mode.turns ≡ true → Typed s most spent) → Typed s most (turned spent c)
  Typed-turned spent c well none = Typed-turned_in c.mode.groups c.mode.turns spent c well.typed well.few none

  Typed-entered : (c : Core) → Entered s most c → Typed s most (entered_at c)
  Typed-entered c is = Typed-turned (stuck c) c is.well (λ spent. absurd (not_both (are_spent c.mode.groups c.mode.turns) spent is.unspent))

  Typed-statement : (e : ErrNo) (level place : ℕ) (c : Core) → Well s most c → search (are_spent c.mode.groups c.mode.turns) (all_entered c.entries c.frames) e ≡ ByStatement level place → Typed s most (entered_at (cut level place c.frames c))
  Typed-statement e level place c well found = at_level (leads_below s most e c.frames c well.typed.number well.typed.inside (are_spent c.mode.groups c.mode.turns) 0 level place well.typed.enter well.typed.below well.typed.kept well.few refl found)
    where
      at_level : (d : ℕ) × (level ≡ 0 + d) × Entered s most (cut d place c.frames c) → Typed s most (entered_at (cut level place c.frames c))
      at_level known = subst (λ n. Typed s most (entered_at (cut n place c.frames c))) (let same : known.0 ≡ level = omega (arith, known.1) in same) (Typed-entered (cut known.0 place c.frames c) known.2)

  Typed-meets : (e : ErrNo) (one : Found) (rest : Rest) (ignored : Step) (c : Core) → IsError e → Well s most c → search (are_spent c.mode.groups c.mode.turns) (all_entered c.entries c.frames) e ≡ one → IsLeft s rest → Typed s most ignored
      → Typed s most (meets s e one rest ignored c)
  Typed-meets e (BySystem does) rest ignored c is well found left typed =
      Typed-sided c.mode.groups does (Halts e) (Waits (request.Stop e) (Halts e) c) c well.typed.kept (λ r. is) (awaits s most (request.Stop e) (Halts e) c (stops e is) well.typed.kept is)
  Typed-meets e (Ignored does) rest ignored c is well found left typed = Typed-sided c.mode.groups does (Then rest) ignored c well.typed.kept (λ r. (well.typed, left)) typed
  Typed-meets e (ByStatement level place) rest ignored c is well found left typed = Typed-statement e level place c well found

  pub well_failing : (e : ErrNo) (c : Core) → Well s most c → Well s most (failing e c)
  well_failing e c well = record { typed = typed_with s c c.line c.mode e well.typed; few = well.few }

  -- an error arises
  pub Typed-raised_to : (e : ErrNo) (rest : Rest) (follows : Core → Step) (c : Core) → IsError e → Well s most c → IsLeft s rest → Typed s most (follows (failing e c)) → Typed s most (raised_to s e rest follows c)
  Typed-raised_to e rest follows c is well left typed =
      Typed-meets e (search (are_spent c.mode.groups c.mode.turns) (all_entered c.entries c.frames) e) rest (follows (failing e c)) (failing e c) is (well_failing e c well) refl left typed

  pub Typed-raised : (e : ErrNo) (c : Core) → IsError e → Well s most c → Typed s most (raised s e c)
  Typed-raised e c is well = Typed-raised_to e Goes Moves c is well tt (moves s most (failing e c) (well_failing e c well))

  noted_few : (m : Mode) (b : Bool) (number : ℕ) (v : Value) → m.turns ≤ most → (if b then mode m.groups (slice_set m.store number v) (m.writes ++ ((number, v) ∷ [])) m.turns else m).turns ≤ most
  noted_few m true number v few = few
  noted_few m false number v few = few

  Typed-put_cell : (number : ℕ) (cell : Cell) (v : Value) (groups : Option ℕ) (c : Core) → Well s most c → Typed s most (put_cell number cell v groups c)
  Typed-put_cell number cell v None c well = goes_on s most (request.Write number v) c (λ is. cc) well.typed
  Typed-put_cell number cell v (Some groups) c well = moves s most _ (record { typed = typed_with s c c.line (noted groups number cell v c.mode) c.kept.last well.typed; few = noted_few c.mode (has_bit groups cell.group) number v well.few })

  -- a spot gets a value
  pub Typed-put : (at : Spot) (v : Value) (c : Core) → Well s most c → MayHold s at v → Typed s most (put s at v c)
  Typed-put (Shared number) v c well may = at_cell (slice_get s.tables.cells number)
    where
      at_cell : (o : Option Cell) → Typed s most (elim o [ None ↦ Moves c | Some cell ↦ put_cell number cell (of_kind cell.kind v) c.mode.groups c ])
      at_cell None = moves s most c well
      at_cell (Some cell) = Typed-put_cell number cell (of_kind cell.kind v) c.mode.groups c well
  Typed-put (Own number) v c well may = moves s most _ (well_kept s most c (slice_set c.kept.places number (Holds v)) well (held_set s (places_of s.image s.process) c.kept.places number may.0 v well.typed.kept (first_lies _ number may.0 [] may.1).there may.2))
  Typed-put Nowhere v c well may = moves s most c well

  Typed-plan : (plan : Plan) (c : Core) → Well s most c → Typed s most (tried_plan plan c)
  Typed-plan plan c well = awaits s most (request.Schedule plan) Tried c (λ is. cc) well.typed.kept well.typed

  pub Typed-planned : (plan : Plan) (again : Again) (c : Core) → Well s most c → Typed s most (planned s plan again c)
  Typed-planned plan again c well =
      either s most (is_again again) (tried_plan plan c) (raised_to s (error 2 5) (Tries (request.Schedule plan)) (tried_plan plan) c) (λ is. Typed-plan plan c well)
      (λ is. Typed-raised_to (error 2 5) (Tries (request.Schedule plan)) (tried_plan plan) c (omega arith) well (λ same. cc) (Typed-plan plan (failing (error 2 5) c) (well_failing (error 2 5) c well)))

  -- the rest of an instruction
  pub Typed-rested : (rest : Rest) (c : Core) → Well s most c → IsLeft s rest → Typed s most (rested s rest c)
  Typed-rested Goes c well left = moves s most c well
  Typed-rested (Puts at v) c well left = Typed-put at v c well left
  Typed-rested (Asks r) c well left = goes_on s most r c left well.typed
  Typed-rested (Tries r) c well left = awaits s most r Tried c left well.typed.kept well.typed
  Typed-rested (Plans plan again) c well left = Typed-planned plan again c well

  pub Typed-raised_before : (e : ErrNo) (rest : Rest) (c : Core) → IsError e → Well s most c → IsLeft s rest → Typed s most (raised_before s e rest c)
  Typed-raised_before e rest c is well left = Typed-raised_to e rest (rested s rest) c is well left (Typed-rested rest (failing e c) (well_failing e c well) left)
