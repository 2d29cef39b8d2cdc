-- What is said of asking, of errors, of turns, and of reading and writing.
use Rattle.std.specs.Prelude.{ℕ, zero, suc, ◌+◌, ◌≤◌, ◌≡◌, ◌++◌, nat_lt, List, [], ◌∷◌, pos, Bool, true, false, Option, Some, None, Result, Ok, Err, slice_get, slice_set, if◌then◌else◌}
use Rattle.std.proofs.Common.{refl, sym, subst, arith}
use Rattle.std.proofs.lemmas.Bool.{ltb-true}
use Rattle.std.proofs.lemmas.Option.{slice_get_within}
use Rattle.std.proofs.lemmas.List.Elements.{All-push}
use Rattle.hal_values.specs.declared.environment.Entry.{Entry}
use Rattle.hal_values.specs.declared.environment.ErrNo.{ErrNo}
use Rattle.hal_values.specs.declared.environment.Side.{Side}
use Rattle.hal_values.specs.declared.environment.Side.TheVariants as side
use Rattle.hal_values.specs.declared.request.Request.{Request}
use Rattle.hal_values.specs.declared.request.Request.TheVariants as request
use Rattle.hal_values.specs.declared.request.Spot.TheVariants as spot
use Rattle.hal_values.specs.declared.tables.Cell.{Cell}
use Rattle.hal_values.specs.declared.tables.Tables.{Tables}
use Rattle.hal_values.specs.declared.value.Kind.{Kind}
use Rattle.hal_values.specs.declared.value.Value.{Value}
use Rattle.hal_values.specs.declared.value.Value.TheVariants as value
use Rattle.hal_values.specs.Answers.{Answered, error}
use Rattle.hal_values.specs.Loads.{IsWritten}
use Rattle.hal_values.specs.Requests.{IsInOrder, IsForCell, HasEvent}
use Rattle.hal_values.specs.Searching.{Found, BySystem, Ignored, ByStatement, search}
use Rattle.hal_values.specs.Tables.{event_count}
use Rattle.hal_operations.specs.Stores.{stored, mended_store}
use Rattle.hal_states.specs.Spots.{Spot, Shared, Own, Nowhere, Kept, kept, further}
use Rattle.hal_states.specs.OfKinds.{of_kind}
use Rattle.hal_states.specs.Modes.{Mode, mode, turns_given, are_spent, has_bit}
use Rattle.hal_meaning.specs.States.{State, state, with_kept, Evaluated, Gives, bind}
use Rattle.hal_meaning.specs.Access.{Here, ask, request_made, event_changed, sided, meets, raise, tested, turned, turn, read_in, read, write_in, put, store, copy, all_entered}
use Rattle.hal_states.proofs.OfKind.{of_kind_is}
use Rattle.hal_meaning.proofs.Going.{weight, turns_in, spare, pushed, IsRight, Goes, Fine, Answers, Goes-bind, Goes-asks, Goes-stops}

-- a state is right, and so many tasks may begin
abbrev pub Ok_state : Tables → ℕ → ℕ → State → Type 0
Ok_state tables turns limit st = IsRight tables st.mode × (spare turns st ≤ limit)

-- the phrase is done
pub gives : {A : Type 0} (tables : Tables) (turns limit : ℕ) (a : Answered) (v : A) (st : State) → Ok_state tables turns limit st
    → Goes tables turns limit a (Fine tables turns limit) (Gives v st) (Gives v (pushed a st))
gives tables turns limit a v st is = (is, refl)

few_after : (gained w limit : ℕ) → suc (gained + w) ≤ limit → w ≤ limit
few_after gained w limit few = omega arith

-- what is known once a request is answered
pub after_answer : (tables : Tables) (turns limit : ℕ) (answer : Answered) (st : State) → Answers tables turns limit answer st → Ok_state tables turns limit st
after_answer tables turns limit answer st is = (is.0, few_after (turns_given turns answer) (spare turns st) limit is.1)

-- a request, with its answer
pub Goes-ask : (tables : Tables) (turns limit : ℕ) (a : Answered) (r : Request) (st : State) → ((r ≡ request.Finish) → ⊥) → IsInOrder tables r → Ok_state tables turns limit st
    → Goes tables turns limit a (Answers tables turns limit) (ask r st) (ask r (pushed a st))
Goes-ask tables turns limit a r st other order is =
    Goes-asks tables turns limit a (Answers tables turns limit) r st _ _ other order is.0 is.1 (λ answer after known. (known, refl))

pub Goes-request : (tables : Tables) (turns limit : ℕ) (a : Answered) (r : Request) (st : State) → ((r ≡ request.Finish) → ⊥) → IsInOrder tables r → Ok_state tables turns limit st
    → Goes tables turns limit a (Fine tables turns limit) (request_made r st) (request_made r (pushed a st))
Goes-request tables turns limit a r st other order is =
    Goes-asks tables turns limit a (Fine tables turns limit) r st _ _ other order is.0 is.1 (λ answer after known. (after_answer tables turns limit answer after known, refl))

-- one of two ways
pub Goes-if : {A : Type 0} (tables : Tables) (turns limit : ℕ) (a : Answered) (Known : A → State → Type 0) (b : Bool) (x y x' y' : Evaluated A)
    → (b ≡ true → Goes tables turns limit a Known x x') → (b ≡ false → Goes tables turns limit a Known y y')
    → Goes tables turns limit a Known (if b then x else y) (if b then x' else y')
Goes-if tables turns limit a Known true x y x' y' one other = one refl
Goes-if tables turns limit a Known false x y x' y' one other = other refl

-- an event is changed in order, and this isn't Finish
pub record IsChange (tables : Tables) (change : ℕ → Request) : Type 0 where
  pub order : (e : ℕ) → HasEvent tables e → IsInOrder tables (change e)
  pub other : (e : ℕ) → (change e ≡ request.Finish) → ⊥

pub signals : (tables : Tables) → IsChange tables request.Signal
signals tables = record { order = λ e has. has; other = λ e is. cc }

pub sets : (tables : Tables) → IsChange tables request.Set
sets tables = record { order = λ e has. has; other = λ e is. cc }

pub resets : (tables : Tables) → IsChange tables request.Reset
resets tables = record { order = λ e has. has; other = λ e is. cc }

pub Goes-event : (h : Here) (turns limit : ℕ) (a : Answered) (change : ℕ → Request) (e : ℕ) (st : State) → IsChange h.set.tables change → Ok_state h.set.tables turns limit st
    → Goes h.set.tables turns limit a (Fine h.set.tables turns limit) (event_changed h change e st) (event_changed h change e (pushed a st))
Goes-event h turns limit a change e st changes is =
    Goes-if h.set.tables turns limit a (Fine h.set.tables turns limit) (nat_lt e (event_count h.set.tables)) _ _ _ _
    (λ has. Goes-request h.set.tables turns limit a (change e) st (changes.other e) (changes.order e (ltb-true e (event_count h.set.tables) has)) is)
    (λ has. (is, refl))

Goes-sided : (h : Here) (turns limit : ℕ) (a : Answered) (groups : Option ℕ) (s : Side) (st : State) → Ok_state h.set.tables turns limit st
    → Goes h.set.tables turns limit a (Fine h.set.tables turns limit) (sided h groups s st) (sided h groups s (pushed a st))
Goes-sided h turns limit a (Some groups) s st is = (is, refl)
Goes-sided h turns limit a None side.Nothing st is = (is, refl)
Goes-sided h turns limit a None (side.Signal e) st is = Goes-event h turns limit a request.Signal e st (signals h.set.tables) is
Goes-sided h turns limit a None (side.Set e) st is = Goes-event h turns limit a request.Set e st (sets h.set.tables) is
Goes-sided h turns limit a None (side.Reset e) st is = Goes-event h turns limit a request.Reset e st (resets h.set.tables) is

Goes-meets : (h : Here) (turns limit : ℕ) (a : Answered) (e : ErrNo) (found : Found) (st : State) → Ok_state h.set.tables turns limit st
    → Goes h.set.tables turns limit a (Fine h.set.tables turns limit) (meets h e found st) (meets h e found (pushed a st))
Goes-meets h turns limit a e (BySystem s) st is =
    Goes-bind h.set.tables turns limit a (Fine h.set.tables turns limit) (Fine h.set.tables turns limit) _ _ _ _ (Goes-sided h turns limit a st.mode.groups s st is)
    (λ done after known. Goes-stops h.set.tables turns limit a (Fine h.set.tables turns limit) e after known.0 known.1)
Goes-meets h turns limit a e (Ignored s) st is = Goes-sided h turns limit a st.mode.groups s st is
Goes-meets h turns limit a e (ByStatement level place) st is = (is, refl)

-- an error
pub Goes-raise : (h : Here) (turns limit : ℕ) (a : Answered) (e : ErrNo) (st : State) → Ok_state h.set.tables turns limit st
    → Goes h.set.tables turns limit a (Fine h.set.tables turns limit) (raise h e st) (raise h e (pushed a st))
Goes-raise h turns limit a e st is =
    Goes-meets h turns limit a e (search (are_spent st.mode.groups st.mode.turns) (all_entered h st.entries) e) (with_kept (kept st.kept.places e) st) is

-- an error, and then a value
pub Goes-raised : {A : Type 0} (h : Here) (turns limit : ℕ) (a : Answered) (e : ErrNo) (v : A) (st : State) → Ok_state h.set.tables turns limit st
    → Goes h.set.tables turns limit a (Fine h.set.tables turns limit) (bind (raise h e st) (λ ignored after. Gives v after)) (bind (raise h e (pushed a st)) (λ ignored after. Gives v after))
Goes-raised h turns limit a e v st is =
    Goes-bind h.set.tables turns limit a (Fine h.set.tables turns limit) (Fine h.set.tables turns limit) _ _ _ _ (Goes-raise h turns limit a e st is) (λ ignored after known. (known, refl))

-- a value or an error
pub Goes-tested : (h : Here) (turns limit : ℕ) (a : Answered) (r : Result Value ErrNo) (mended : Value) (st : State) → Ok_state h.set.tables turns limit st
    → Goes h.set.tables turns limit a (Fine h.set.tables turns limit) (tested h r mended st) (tested h r mended (pushed a st))
Goes-tested h turns limit a (Ok v) mended st is = (is, refl)
Goes-tested h turns limit a (Err e) mended st is = Goes-raised h turns limit a e mended st is

-- a turn: where it begins, one task fewer may begin
abbrev pub Begins : Tables → ℕ → ℕ → Bool → State → Type 0
Begins tables turns limit true st = IsRight tables st.mode × (suc (spare turns st) ≤ limit)
Begins tables turns limit false st = Ok_state tables turns limit st

few_turn : (gained w limit : ℕ) → suc (gained + w) ≤ limit → suc w ≤ limit
few_turn gained w limit few = omega arith

few_counted : (n w limit : ℕ) → suc n + w ≤ limit → suc (n + w) ≤ limit
few_counted n w limit few = omega arith

Goes-turned : (h : Here) (turns limit : ℕ) (a : Answered) (k : Kept) (e : List Entry) (groups : Option ℕ) (store : List Value) (writes : List (ℕ × Value)) (n : ℕ) (left : List Answered)
    → Ok_state h.set.tables turns limit (state k e (mode groups store writes n) left)
    → Goes h.set.tables turns limit a (Begins h.set.tables turns limit) (turned h (state k e (mode groups store writes n) left) groups n) (turned h (pushed a (state k e (mode groups store writes n) left)) groups n)
Goes-turned h turns limit a k e None store writes n left is =
    Goes-asks h.set.tables turns limit a (Begins h.set.tables turns limit) request.Pass (state k e (mode None store writes n) left) _ _ (λ is. cc) tt is.0 is.1
    (λ answer after known. ((known.0, few_turn (turns_given turns answer) (spare turns after) limit known.1), refl))
Goes-turned h turns limit a k e (Some groups) store writes (suc n) left is = ((is.0, few_counted n (weight turns left) limit is.1), refl)
Goes-turned h turns limit a k e (Some groups) store writes zero left is =
    Goes-bind h.set.tables turns limit a (Fine h.set.tables turns limit) (Begins h.set.tables turns limit) _ _ _ _ (Goes-raise h turns limit a (error 1 8) (state k e (mode (Some groups) store writes zero) left) is)
    (λ ignored after known. (known, refl))

pub Goes-turn : (h : Here) (turns limit : ℕ) (a : Answered) (st : State) → Ok_state h.set.tables turns limit st
    → Goes h.set.tables turns limit a (Begins h.set.tables turns limit) (turn h st) (turn h (pushed a st))
Goes-turn h turns limit a st is = Goes-turned h turns limit a st.kept st.entries st.mode.groups st.mode.store st.mode.writes st.mode.turns st.left is

Goes-read_in : (h : Here) (turns limit : ℕ) (a : Answered) (c : ℕ) (cell : Cell) (groups : Option ℕ) (st : State) → slice_get h.set.tables.cells c ≡ Some cell → Ok_state h.set.tables turns limit st
    → Goes h.set.tables turns limit a (Fine h.set.tables turns limit) (read_in c cell groups st) (read_in c cell groups (pushed a st))
Goes-read_in h turns limit a c cell None st has is =
    Goes-asks h.set.tables turns limit a (Fine h.set.tables turns limit) (request.Read (spot.Cell c)) st _ _ (λ is. cc) (slice_get_within h.set.tables.cells c cell has) is.0 is.1
    (λ answer after known. (after_answer h.set.tables turns limit answer after known, refl))
Goes-read_in h turns limit a c cell (Some groups) st has is = (is, refl)

Goes-cell : (h : Here) (turns limit : ℕ) (a : Answered) (c : ℕ) (found : Option Cell) (st : State) → slice_get h.set.tables.cells c ≡ found → Ok_state h.set.tables turns limit st
    → Goes h.set.tables turns limit a (Fine h.set.tables turns limit) (elim found [ None ↦ Gives (value.Int (pos 0)) st | Some cell ↦ read_in c cell st.mode.groups st ])
    (elim found [ None ↦ Gives (value.Int (pos 0)) (pushed a st) | Some cell ↦ read_in c cell st.mode.groups (pushed a st) ])
Goes-cell h turns limit a c None st has is = (is, refl)
Goes-cell h turns limit a c (Some cell) st has is = Goes-read_in h turns limit a c cell st.mode.groups st has is

-- a spot is read
pub Goes-read : (h : Here) (turns limit : ℕ) (a : Answered) (k : Kind) (at : Spot) (st : State) → Ok_state h.set.tables turns limit st
    → Goes h.set.tables turns limit a (Fine h.set.tables turns limit) (read h k at st) (read h k at (pushed a st))
Goes-read h turns limit a k (Shared c) st is = Goes-cell h turns limit a c (slice_get h.set.tables.cells c) st refl is
Goes-read h turns limit a k (Own n) st is = (is, refl)
Goes-read h turns limit a k Nowhere st is = (is, refl)

-- a cell that an UPDATE block writes
noted_right : (tables : Tables) (groups c : ℕ) (cell : Cell) (v : Value) (m : Mode) (b : Bool) → IsForCell (slice_get tables.cells c) v → IsRight tables m
    → IsRight tables (if b then mode m.groups (slice_set m.store c v) (m.writes ++ ((c, v) ∷ [])) m.turns else m)
noted_right tables groups c cell v m true fits right = All-push (IsWritten tables) m.writes (c, v) right fits
noted_right tables groups c cell v m false fits right = right

noted_few : (turns limit groups c : ℕ) (cell : Cell) (v : Value) (m : Mode) (left : List Answered) (b : Bool) → turns_in m.groups m.turns + weight turns left ≤ limit
    → turns_in (if b then mode m.groups (slice_set m.store c v) (m.writes ++ ((c, v) ∷ [])) m.turns else m).groups (if b then mode m.groups (slice_set m.store c v) (m.writes ++ ((c, v) ∷ [])) m.turns else m).turns + weight turns left ≤ limit
noted_few turns limit groups c cell v m left true few = few
noted_few turns limit groups c cell v m left false few = few

Goes-write_in : (h : Here) (turns limit : ℕ) (a : Answered) (c : ℕ) (cell : Cell) (v : Value) (groups : Option ℕ) (st : State) → IsForCell (slice_get h.set.tables.cells c) v → Ok_state h.set.tables turns limit st
    → Goes h.set.tables turns limit a (Fine h.set.tables turns limit) (write_in c cell v groups st) (write_in c cell v groups (pushed a st))
Goes-write_in h turns limit a c cell v None st fits is = Goes-request h.set.tables turns limit a (request.Write c v) st (λ is. cc) fits is
Goes-write_in h turns limit a c cell v (Some groups) st fits is =
    ((noted_right h.set.tables groups c cell v st.mode (has_bit groups cell.group) fits is.0, noted_few turns limit groups c cell v st.mode st.left (has_bit groups cell.group) is.1), refl)

Goes-written : (h : Here) (turns limit : ℕ) (a : Answered) (c : ℕ) (v : Value) (found : Option Cell) (st : State) → slice_get h.set.tables.cells c ≡ found → Ok_state h.set.tables turns limit st
    → Goes h.set.tables turns limit a (Fine h.set.tables turns limit) (elim found [ None ↦ Gives (tt {0}) st | Some cell ↦ write_in c cell (of_kind cell.kind v) st.mode.groups st ])
    (elim found [ None ↦ Gives (tt {0}) (pushed a st) | Some cell ↦ write_in c cell (of_kind cell.kind v) st.mode.groups (pushed a st) ])
Goes-written h turns limit a c v None st has is = (is, refl)
Goes-written h turns limit a c v (Some cell) st has is =
    Goes-write_in h turns limit a c cell (of_kind cell.kind v) st.mode.groups st (subst (λ one. IsForCell one (of_kind cell.kind v)) (sym has) (of_kind_is cell.kind v)) is

-- a spot gets a value
pub Goes-put : (h : Here) (turns limit : ℕ) (a : Answered) (at : Spot) (v : Value) (st : State) → Ok_state h.set.tables turns limit st
    → Goes h.set.tables turns limit a (Fine h.set.tables turns limit) (put h at v st) (put h at v (pushed a st))
Goes-put h turns limit a (Shared c) v st is = Goes-written h turns limit a c v (slice_get h.set.tables.cells c) st refl is
Goes-put h turns limit a (Own n) v st is = (is, refl)
Goes-put h turns limit a Nowhere v st is = (is, refl)

pub Goes-store : (h : Here) (turns limit : ℕ) (a : Answered) (k : Kind) (at : Spot) (v : Value) (st : State) → Ok_state h.set.tables turns limit st
    → Goes h.set.tables turns limit a (Fine h.set.tables turns limit) (store h k at v st) (store h k at v (pushed a st))
Goes-store h turns limit a k at v st is =
    Goes-bind h.set.tables turns limit a (Fine h.set.tables turns limit) (Fine h.set.tables turns limit) _ _ _ _ (Goes-tested h turns limit a (stored k v) (mended_store k v) st is)
    (λ fitting after known. Goes-put h turns limit a at fitting after known)

pub Goes-copy : (h : Here) (turns limit : ℕ) (a : Answered) (ks : List Kind) (from to : Spot) (st : State) → Ok_state h.set.tables turns limit st
    → Goes h.set.tables turns limit a (Fine h.set.tables turns limit) (copy h ks from to st) (copy h ks from to (pushed a st))
Goes-copy h turns limit a [] from to st is = (is, refl)
Goes-copy h turns limit a (k ∷ ks) from to st is =
    Goes-bind h.set.tables turns limit a (Fine h.set.tables turns limit) (Fine h.set.tables turns limit) _ _ _ _ (Goes-read h turns limit a k from st is)
    (λ v after known. Goes-bind h.set.tables turns limit a (Fine h.set.tables turns limit) (Fine h.set.tables turns limit) _ _ _ _ (Goes-put h turns limit a to v after known)
    (λ done later more. Goes-copy h turns limit a ks (further 1 from) (further 1 to) later more))
