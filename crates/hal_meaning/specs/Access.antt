-- What phrases do besides their parts: they ask, raise errors, begin turns, and read and write cells and places.
use Rattle.std.specs.Prelude.{ℕ, zero, suc, nat_lt, Bool, true, false, List, [], ◌∷◌, pos, Option, Some, None, slice_get, slice_set, Result, Ok, Err, if◌then◌else◌}
use Rattle.hal_grammar.specs.Statements.{Statements}
use Rattle.hal_values.specs.declared.environment.Entry.{Entry}
use Rattle.hal_values.specs.declared.environment.ErrNo.{ErrNo}
use Rattle.hal_values.specs.declared.environment.Side.{Side}
use Rattle.hal_values.specs.declared.environment.Side.TheVariants as side
use Rattle.hal_values.specs.declared.request.Request.{Request}
use Rattle.hal_values.specs.declared.request.Request.TheVariants as request
use Rattle.hal_values.specs.declared.request.Spot.TheVariants as spot
use Rattle.hal_values.specs.declared.tables.Cell.{Cell}
use Rattle.hal_values.specs.declared.value.Kind.{Kind}
use Rattle.hal_values.specs.declared.value.Value.{Value}
use Rattle.hal_values.specs.declared.value.Value.TheVariants as value
use Rattle.hal_values.specs.Answers.{Answered, error}
use Rattle.hal_values.specs.Searching.{Entered, entered, Found, BySystem, Ignored, ByStatement, search}
use Rattle.hal_values.specs.Tables.{event_count}
use Rattle.hal_operations.specs.Stores.{stored, mended_store}
use Rattle.hal_states.specs.Spots.{Spot, Shared, Own, Nowhere, Holds, kept, held_in, further}
use Rattle.hal_states.specs.OfKinds.{nothing, of_kind, told}
use Rattle.hal_states.specs.Modes.{mode, are_spent, seen_cell, noted}
use Rattle.hal_meaning.specs.Places.{Place}
use Rattle.hal_meaning.specs.Sets.{Set}
use Rattle.hal_meaning.specs.States.{State, with_kept, with_mode, with_places, Evaluated, Gives, Caught, bind, asks, stops}

-- where a phrase stands: the set; the number of the process and its own places; the unit and the block in which names are looked up; the marks of
-- the unit; the statements of the latest entered block, whether it is an UPDATE block, and the number of its first mark; and the blocks entered before it
pub record Here : Type 0 where
  pub set : Set
  pub process : ℕ
  pub places : List Place
  pub unit : ℕ
  pub block : ℕ
  pub marks : List ℕ
  pub body : Statements
  pub update : Bool
  pub first : ℕ
  pub below : List Entered

-- the same within the block with this number
abbrev pub within : ℕ → Here → Here
within block h = record { set = h.set; process = h.process; places = h.places; unit = h.unit; block = block; marks = h.marks; body = h.body; update = h.update; first = h.first; below = h.below }

-- the blocks that are entered, the latest first
abbrev pub all_entered : Here → List Entry → List Entered
all_entered h entries = entered entries h.update ∷ h.below

-- the same within an UPDATE block of these statements, which begin at this mark
abbrev pub updating : Statements → ℕ → List Entry → Here → Here
updating body first entries h =
    record { set = h.set; process = h.process; places = h.places; unit = h.unit; block = h.block; marks = h.marks; body = body; update = true; first = first; below = all_entered h entries }

-- an answer to a request
abbrev pub ask : Request → State → Evaluated Answered
ask r st = asks r st (λ answer after. Gives answer after)

-- a request with whose answer nothing is done
abbrev pub request_made : Request → State → Evaluated (Unit {0})
request_made r st = asks r st (λ answer after. Gives tt after)

-- an event is signalled, set or reset
abbrev pub event_changed : Here → (ℕ → Request) → ℕ → State → Evaluated (Unit {0})
event_changed h change e st = if nat_lt e (event_count h.set.tables) then request_made (change e) st else Gives tt st

-- what ON ERROR does to an event before SYSTEM or IGNORE takes effect; not inside an UPDATE block
abbrev pub sided : Here → Option ℕ → Side → State → Evaluated (Unit {0})
sided h (Some groups) s st = Gives tt st
sided h None side.Nothing st = Gives tt st
sided h None (side.Signal e) st = event_changed h request.Signal e st
sided h None (side.Set e) st = event_changed h request.Set e st
sided h None (side.Reset e) st = event_changed h request.Reset e st

-- what an error comes to that meets this action
abbrev pub meets : Here → ErrNo → Found → State → Evaluated (Unit {0})
meets h e (BySystem s) st = bind (sided h st.mode.groups s st) (λ done after. stops e after)
meets h e (Ignored s) st = sided h st.mode.groups s st
meets h e (ByStatement level place) st = Caught level place st

-- an error arises: it is the last error from then on. Where it is ignored, control goes on
abbrev pub raise : Here → ErrNo → State → Evaluated (Unit {0})
raise h e st =
    meets h e (search (are_spent st.mode.groups st.mode.turns) (all_entered h st.entries) e) (with_kept (kept st.kept.places e) st)

-- a value, or the error that arises in its place and the value after it is ignored
abbrev pub tested : Here → Result Value ErrNo → Value → State → Evaluated Value
tested h (Ok v) mended st = Gives v st
tested h (Err e) mended st = bind (raise h e st) (λ ignored after. Gives mended after)

-- a turn begins; it doesn't where the turns of an UPDATE block are used up and the error is ignored
abbrev pub turned : Here → State → Option ℕ → ℕ → Evaluated Bool
turned h st None turns = asks request.Pass st (λ answer after. Gives true after)
turned h st (Some groups) (suc turns) = Gives true (with_mode (mode (Some groups) st.mode.store st.mode.writes turns) st)
turned h st (Some groups) zero = bind (raise h (error 1 8) st) (λ ignored after. Gives false after)

abbrev pub turn : Here → State → Evaluated Bool
turn h st = turned h st st.mode.groups st.mode.turns

abbrev pub read_in : ℕ → Cell → Option ℕ → State → Evaluated Value
read_in c cell None st = asks (request.Read (spot.Cell c)) st (λ answer after. Gives (told cell.kind answer) after)
read_in c cell (Some groups) st = Gives (seen_cell groups cell (slice_get st.mode.store c)) st

-- the value of the shared cell with this number
abbrev pub read_cell : Here → ℕ → State → Evaluated Value
read_cell h c st = elim (slice_get h.set.tables.cells c) [ None ↦ Gives (value.Int (pos 0)) st | Some cell ↦ read_in c cell st.mode.groups st ]

-- the value at a spot
abbrev pub read : Here → Kind → Spot → State → Evaluated Value
read h k (Shared c) st = read_cell h c st
read h k (Own n) st = Gives (held_in (slice_get st.kept.places n)) st
read h k Nowhere st = Gives (nothing k) st

abbrev pub write_in : ℕ → Cell → Value → Option ℕ → State → Evaluated (Unit {0})
write_in c cell v None st = request_made (request.Write c v) st
write_in c cell v (Some groups) st = Gives tt (with_mode (noted groups c cell v st.mode) st)

-- the shared cell with this number gets a value
abbrev pub write_cell : Here → ℕ → Value → State → Evaluated (Unit {0})
write_cell h c v st = elim (slice_get h.set.tables.cells c) [ None ↦ Gives tt st | Some cell ↦ write_in c cell (of_kind cell.kind v) st.mode.groups st ]

-- a spot gets a value
abbrev pub put : Here → Spot → Value → State → Evaluated (Unit {0})
put h (Shared c) v st = write_cell h c v st
put h (Own n) v st = Gives tt (with_places (slice_set st.kept.places n (Holds v)) st)
put h Nowhere v st = Gives tt st

-- data of this kind at a spot get a value as by assignment
abbrev pub store : Here → Kind → Spot → Value → State → Evaluated (Unit {0})
store h k at v st = bind (tested h (stored k v) (mended_store k v) st) (λ fitting after. put h at fitting after)

-- elements of these kinds are copied in order
abbrev pub copy : Here → List Kind → Spot → Spot → State → Evaluated (Unit {0})
copy h [] from to st = Gives tt st
copy h (k ∷ ks) from to st =
    bind (read h k from st) (λ v after. bind (put h to v after) (λ done later. copy h ks (further 1 from) (further 1 to) later))
