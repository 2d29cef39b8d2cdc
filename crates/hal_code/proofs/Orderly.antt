-- Steps of the machine that ask in order.
use Rattle.std.specs.Prelude.{ℕ, zero, suc, ◌≡◌, ◌++◌, nat_lt, List, [], ◌∷◌, Bool, true, false, Option, Some, None, All, slice_get, slice_set, if◌then◌else◌}
use Rattle.std.proofs.Common.{refl, sym, subst}
use Rattle.std.proofs.lemmas.Bool.{ltb-true}
use Rattle.std.proofs.lemmas.List.Elements.{All-push}
use Rattle.hal_values.specs.declared.environment.ErrNo.{ErrNo}
use Rattle.hal_values.specs.declared.environment.Side.{Side}
use Rattle.hal_values.specs.declared.environment.Side.TheVariants as side
use Rattle.hal_values.specs.declared.plan.Plan.{Plan}
use Rattle.hal_values.specs.declared.request.Request.{Request}
use Rattle.hal_values.specs.declared.request.Request.TheVariants as request
use Rattle.hal_values.specs.declared.tables.Cell.{Cell}
use Rattle.hal_values.specs.declared.tables.Tables.{Tables}
use Rattle.hal_values.specs.declared.value.Value.{Value}
use Rattle.hal_values.specs.Answers.{error}
use Rattle.hal_values.specs.Loads.{IsWritten}
use Rattle.hal_values.specs.Requests.{IsInOrder, IsForCell, IsPlanInOrder, HasEvent}
use Rattle.hal_values.specs.Searching.{Found, BySystem, Ignored, ByStatement, search}
use Rattle.hal_values.specs.Tables.{event_count}
use Rattle.hal_states.specs.Spots.{Spot, Shared, Own, Nowhere}
use Rattle.hal_states.specs.OfKinds.{of_kind}
use Rattle.hal_states.specs.Modes.{Mode, mode, closed, are_spent, has_bit}
use Rattle.hal_states.specs.Times.{Again, is_again}
use Rattle.hal_states.proofs.OfKind.{of_kind_is}
use Rattle.hal_code.specs.Cores.{Setting, Core, core, Frame, Return, all_entered, Rest, Goes, Puts, Asks, Tries, Plans, Wait, Then, Pushes, Tried, Takes, Copies, Opens, Renews, Halts, Step, Waits, Moves, Counts}
use Rattle.hal_code.specs.Raising.{stuck, changed_event, sided, cut, turned_in, turned, entered_at, meets, failing, raised_to, raised, put_cell, put, tried_plan, planned, rested, raised_before}

-- the writes of an UPDATE block are of cells that are there, with values of their kinds
abbrev pub Writes : Tables → Mode → Type 0
Writes tables m = All (IsWritten tables) m.writes

-- what is left of an instruction asks in order, and not Finish
abbrev pub IsRest : Tables → Rest → Type 0
IsRest tables Goes = Unit {0}
IsRest tables (Puts at v) = Unit {0}
IsRest tables (Asks r) = IsInOrder tables r × ((r ≡ request.Finish) → ⊥)
IsRest tables (Tries r) = IsInOrder tables r × ((r ≡ request.Finish) → ⊥)
IsRest tables (Plans plan again) = IsPlanInOrder tables plan

-- so does what is done with an answer
abbrev pub IsWait : Tables → Wait → Type 0
IsWait tables (Then rest) = IsRest tables rest
IsWait tables (Pushes k) = Unit {0}
IsWait tables Tried = Unit {0}
IsWait tables (Takes target) = Unit {0}
IsWait tables (Copies k ks from place) = Unit {0}
IsWait tables (Opens groups) = Unit {0}
IsWait tables Renews = Unit {0}
IsWait tables (Halts e) = Unit {0}

-- what is asked is in order, and after Finish the next cycle begins
pub record Good (tables : Tables) (r : Request) (w : Wait) (m : Mode) : Type 0 where
  pub order : IsInOrder tables r
  pub wait : IsWait tables w
  pub renews : (r ≡ request.Finish) → w ≡ Renews
  pub writes : Writes tables m

-- what is said of the instruction at which control goes on, and of the frames by then
abbrev pub Landing : Type 1
Landing = ℕ → List Frame → Type 0

abbrev pub IsSound : Tables → Landing → Step → Type 0
IsSound tables P (Waits r w c) = Good tables r w c.mode
IsSound tables P (Moves c) = Writes tables c.mode × P c.at c.frames
IsSound tables P (Counts c) = Writes tables c.mode

pub record Sound (tables : Tables) (P : Landing) (step : Step) : Type 0 where
  pub is : IsSound tables P step

-- an event is changed in order, and this isn't Finish
pub record IsChange (tables : Tables) (change : ℕ → Request) : Type 0 where
  pub order : (e : ℕ) → HasEvent tables e → IsInOrder tables (change e)
  pub other : (e : ℕ) → (change e ≡ request.Finish) → ⊥

pub signals : (tables : Tables) → IsChange tables request.Signal
signals tables = record { order = λ e has. has; other = λ e is. cc }

pub sets : (tables : Tables) → IsChange tables request.Set
sets tables = record { order = λ e has. has; other = λ e is. cc }

pub resets : (tables : Tables) → IsChange tables request.Reset
resets tables = record { order = λ e has. has; other = λ e is. cc }

module _ (P : Landing) where
  pub moves : (tables : Tables) (c : Core) → Writes tables c.mode → P c.at c.frames → Sound tables P (Moves c)
  moves tables c writes lands = record { is = (writes, lands) }

  pub counts : (tables : Tables) (c : Core) → Writes tables c.mode → Sound tables P (Counts c)
  counts tables c writes = record { is = writes }

  -- something other than Finish is asked
  pub waits : (tables : Tables) (r : Request) (w : Wait) (c : Core) → IsInOrder tables r → IsWait tables w → ((r ≡ request.Finish) → ⊥) → Writes tables c.mode → Sound tables P (Waits r w c)
  waits tables r w c order wait other writes = record { is = record { order = order; wait = wait; renews = λ is. absurd (other is); writes = writes } }

  pub sticks : (tables : Tables) (c : Core) → Writes tables c.mode → Sound tables P (stuck c)
  sticks tables c writes = waits tables (request.Stop (error 0 0)) (Halts (error 0 0)) c tt tt (λ is. cc) writes

  pub either : (tables : Tables) (b : Bool) (x y : Step) → (b ≡ true → Sound tables P x) → (b ≡ false → Sound tables P y) → Sound tables P (if b then x else y)
  either tables true x y one other = one refl
  either tables false x y one other = other refl

  pub found : {A : Type 0} (tables : Tables) (o : Option A) (none : Step) (some : A → Step) → Sound tables P none → ((a : A) → o ≡ Some a → Sound tables P (some a)) → Sound tables P (elim o [ None ↦ none | Some a ↦ some a ])
  found tables None none some without each = without
  found tables (Some a) none some without each = each a refl

  pub Sound-changed : (s : Setting) (change : ℕ → Request) (e : ℕ) (w : Wait) (otherwise : Step) (c : Core) → IsChange s.tables change → IsWait s.tables w → Sound s.tables P otherwise → Writes s.tables c.mode
      → Sound s.tables P (changed_event s change e w otherwise c)
  Sound-changed s change e w otherwise c changes wait sound writes =
      either s.tables (nat_lt e (event_count s.tables)) (Waits (change e) w c) otherwise (λ has. waits s.tables (change e) w c (changes.order e (ltb-true e (event_count s.tables) has)) wait (changes.other e) writes) (λ has. sound)

  Sound-sided : (s : Setting) (groups : Option ℕ) (one : Side) (w : Wait) (otherwise : Step) (c : Core) → IsWait s.tables w → Sound s.tables P otherwise → Writes s.tables c.mode → Sound s.tables P (sided s groups one w otherwise c)
  Sound-sided s (Some groups) one w otherwise c wait sound writes = sound
  Sound-sided s None side.Nothing w otherwise c wait sound writes = sound
  Sound-sided s None (side.Signal e) w otherwise c wait sound writes = Sound-changed s request.Signal e w otherwise c (signals s.tables) wait sound writes
  Sound-sided s None (side.Set e) w otherwise c wait sound writes = Sound-changed s request.Set e w otherwise c (sets s.tables) wait sound writes
  Sound-sided s None (side.Reset e) w otherwise c wait sound writes = Sound-changed s request.Reset e w otherwise c (resets s.tables) wait sound writes

  -- blocks that are left write nothing
  cut_writes : (tables : Tables) (level place : ℕ) (frames : List Frame) (c : Core) → Writes tables c.mode → Writes tables (cut level place frames c).mode
  cut_writes tables zero place frames c writes = writes
  cut_writes tables (suc level) place [] c writes = writes
  cut_writes tables (suc level) place (f ∷ fs) c writes =
      cut_writes tables level place fs (core place [] [] f.entries fs c.kept (elim f.back [ None ↦ closed c.mode | Some back ↦ c.mode ])) (shut f.back)
    where
      shut : (back : Option Return) → Writes tables (elim back [ None ↦ closed c.mode | Some one ↦ c.mode ])
      shut None = writes
      shut (Some one) = writes

  Sound-turned_in : (tables : Tables) (groups : Option ℕ) (turns : ℕ) (spent : Step) (c : Core) → Sound tables P spent → Writes tables c.mode → Sound tables P (turned_in groups turns spent c)
  Sound-turned_in tables None turns spent c sound writes = waits tables request.Pass (Then Goes) c tt tt (λ is. cc) writes
  Sound-turned_in tables (Some groups) (suc turns) spent c sound writes = counts tables _ writes
  Sound-turned_in tables (Some groups) zero spent c sound writes = sound

  pub Sound-turned : (tables : Tables) (spent : Step) (c : Core) → Sound tables P spent → Writes tables c.mode → Sound tables P (turned spent c)
  Sound-turned tables spent c sound writes = Sound-turned_in tables c.mode.groups c.mode.turns spent c sound writes

  Sound-entered : (tables : Tables) (c : Core) → Writes tables c.mode → Sound tables P (entered_at c)
  Sound-entered tables c writes = Sound-turned tables (stuck c) c (sticks tables c writes) writes

  Sound-meets : (s : Setting) (e : ErrNo) (one : Found) (rest : Rest) (ignored : Step) (c : Core) → IsRest s.tables rest → Sound s.tables P ignored → Writes s.tables c.mode → Sound s.tables P (meets s e one rest ignored c)
  Sound-meets s e (BySystem does) rest ignored c is sound writes =
      Sound-sided s c.mode.groups does (Halts e) (Waits (request.Stop e) (Halts e) c) c tt (waits s.tables (request.Stop e) (Halts e) c tt tt (λ same. cc) writes) writes
  Sound-meets s e (Ignored does) rest ignored c is sound writes = Sound-sided s c.mode.groups does (Then rest) ignored c is sound writes
  Sound-meets s e (ByStatement level place) rest ignored c is sound writes = Sound-entered s.tables (cut level place c.frames c) (cut_writes s.tables level place c.frames c writes)

  -- an error, where what is left of the instruction asks in order
  pub Sound-raised_to : (s : Setting) (e : ErrNo) (rest : Rest) (next : Core → Step) (c : Core) → IsRest s.tables rest → Sound s.tables P (next (failing e c)) → Writes s.tables c.mode → Sound s.tables P (raised_to s e rest next c)
  Sound-raised_to s e rest next c is sound writes =
      Sound-meets s e (search (are_spent c.mode.groups c.mode.turns) (all_entered c.entries c.frames) e) rest (next (failing e c)) (failing e c) is sound writes

  pub Sound-raised : (s : Setting) (e : ErrNo) (c : Core) → Writes s.tables c.mode → P c.at c.frames → Sound s.tables P (raised s e c)
  Sound-raised s e c writes lands = Sound-raised_to s e Goes Moves c tt (moves s.tables (failing e c) writes lands) writes

  noted_right : (tables : Tables) (number : ℕ) (v : Value) (m : Mode) (b : Bool) → IsForCell (slice_get tables.cells number) v → Writes tables m
      → Writes tables (if b then mode m.groups (slice_set m.store number v) (m.writes ++ ((number, v) ∷ [])) m.turns else m)
  noted_right tables number v m true fits writes = All-push (IsWritten tables) m.writes (number, v) writes fits
  noted_right tables number v m false fits writes = writes

  Sound-put_cell : (tables : Tables) (number : ℕ) (cell : Cell) (v : Value) (groups : Option ℕ) (c : Core) → IsForCell (slice_get tables.cells number) v → Writes tables c.mode → P c.at c.frames → Sound tables P (put_cell number cell v groups c)
  Sound-put_cell tables number cell v None c fits writes lands = waits tables (request.Write number v) (Then Goes) c fits tt (λ is. cc) writes
  Sound-put_cell tables number cell v (Some groups) c fits writes lands = moves tables _ (noted_right tables number v c.mode (has_bit groups cell.group) fits writes) lands

  Sound-written : (s : Setting) (number : ℕ) (v : Value) (o : Option Cell) (c : Core) → slice_get s.tables.cells number ≡ o → Writes s.tables c.mode → P c.at c.frames
      → Sound s.tables P (elim o [ None ↦ Moves c | Some cell ↦ put_cell number cell (of_kind cell.kind v) c.mode.groups c ])
  Sound-written s number v None c has writes lands = moves s.tables c writes lands
  Sound-written s number v (Some cell) c has writes lands =
      Sound-put_cell s.tables number cell (of_kind cell.kind v) c.mode.groups c (subst (λ one. IsForCell one (of_kind cell.kind v)) (sym has) (of_kind_is cell.kind v)) writes lands

  -- a spot gets a value
  pub Sound-put : (s : Setting) (at : Spot) (v : Value) (c : Core) → Writes s.tables c.mode → P c.at c.frames → Sound s.tables P (put s at v c)
  Sound-put s (Shared number) v c writes lands = Sound-written s number v (slice_get s.tables.cells number) c refl writes lands
  Sound-put s (Own number) v c writes lands = moves s.tables _ writes lands
  Sound-put s Nowhere v c writes lands = moves s.tables c writes lands

  Sound-plan : (s : Setting) (plan : Plan) (c : Core) → IsPlanInOrder s.tables plan → Writes s.tables c.mode → Sound s.tables P (tried_plan plan c)
  Sound-plan s plan c order writes = waits s.tables (request.Schedule plan) Tried c order tt (λ is. cc) writes

  pub Sound-planned : (s : Setting) (plan : Plan) (again : Again) (c : Core) → IsPlanInOrder s.tables plan → Writes s.tables c.mode → Sound s.tables P (planned s plan again c)
  Sound-planned s plan again c order writes =
      either s.tables (is_again again) (tried_plan plan c) (raised_to s (error 2 5) (Tries (request.Schedule plan)) (tried_plan plan) c) (λ is. Sound-plan s plan c order writes)
      (λ is. Sound-raised_to s (error 2 5) (Tries (request.Schedule plan)) (tried_plan plan) c (order, λ same. cc) (Sound-plan s plan (failing (error 2 5) c) order writes) writes)

  -- the rest of an instruction
  pub Sound-rested : (s : Setting) (rest : Rest) (c : Core) → IsRest s.tables rest → Writes s.tables c.mode → P c.at c.frames → Sound s.tables P (rested s rest c)
  Sound-rested s Goes c is writes lands = moves s.tables c writes lands
  Sound-rested s (Puts at v) c is writes lands = Sound-put s at v c writes lands
  Sound-rested s (Asks r) c is writes lands = waits s.tables r (Then Goes) c is.0 tt is.1 writes
  Sound-rested s (Tries r) c is writes lands = waits s.tables r Tried c is.0 tt is.1 writes
  Sound-rested s (Plans plan again) c is writes lands = Sound-planned s plan again c is writes

  pub Sound-raised_before : (s : Setting) (e : ErrNo) (rest : Rest) (c : Core) → IsRest s.tables rest → Writes s.tables c.mode → P c.at c.frames → Sound s.tables P (raised_before s e rest c)
  Sound-raised_before s e rest c is writes lands = Sound-raised_to s e rest (rested s rest) c is (Sound-rested s rest (failing e c) is writes lands) writes
