-- The step of an event, from what its parts do.
use Rattle.std.proofs.Common.{◌≡◌, ℕ, ◌<◌, Bool, true, false, List, Option, Some, None, IsSome, ap, sym, subst, ◌∙◌, refl}
use Rattle.std.specs.Prelude.{MatchBool}
use Rattle.hal_values.specs.declared.request.Request.{Request}
use Rattle.hal_values.specs.declared.tables.Tables.{Tables}
use Rattle.hal_values.specs.declared.value.Value.{Value}
use Rattle.hal_values.specs.Loads.{Meaning, IsLoad}
use Rattle.hal_values.specs.Requests.{HasProcess}
use Rattle.exec_model.specs.declared.event.Event.{Event}
use Rattle.exec_model.specs.declared.event.Event.TheVariants as event
use Rattle.exec_model.specs.declared.row.Row.{Row}
use Rattle.exec_model.specs.Drafts.{Drafted, on, unchanged, closing_of}
use Rattle.exec_model.specs.Effects.{effect}
use Rattle.exec_model.specs.Moments.{Moment, row_of, answers_of, with_row}
use Rattle.exec_model.specs.Settling.{settle}
use Rattle.exec_model.specs.Sound.{IsSound}
use Rattle.exec_model.specs.Steps.{CanBlock, request_of, stepped, event_done, block_of, block_done, block_left, written}
use Rattle.exec_model.proofs.Ordering.{ready-exists}

-- the step was made over this moment, and leads to that of the event
pub record LeadsTo (q : Meaning) (m : Moment) (happens : Event) (draft : Drafted) : Type 0 where
  pub base : draft.base ≡ m
  pub now : draft.now ≡ stepped q m happens

-- a step that is settled after what its event does
pub settled-leads : (q : Meaning) (m : Moment) (happens : Event) (before after : Drafted) (tables : Tables) → tables ≡ q.tables → before.base ≡ m → before.now ≡ event_done q m happens → after ≡ on (settle tables) before → LeadsTo q m happens after
settled-leads q m happens before after tables same base done settled = record {
  base = ap (λ (d : Drafted). d.base) settled ∙ base;
  now = ap (λ (d : Drafted). d.now) settled ∙ ap (λ t. settle t before.now) same ∙ ap (settle q.tables) done;
}

-- a request is answered
pub acted : (q : Meaning) (m : Moment) (p : ℕ) (asked : Request) (opened made : Drafted) (tables : Tables) → opened ≡ unchanged m → tables ≡ q.tables → asked ≡ request_of q m p → made ≡ on (effect tables p (row_of opened.now p) asked) opened
    → made ≡ on (λ n. event_done q m (event.Act p)) (unchanged m)
acted q m p asked opened made tables fresh same is done =
    done
    ∙ ap (λ (d : Drafted). on (effect tables p (row_of d.now p) asked) d) fresh
    ∙ ap (λ t. on (effect t p (row_of m p) asked) (unchanged m)) same
    ∙ ap (λ a. on (effect q.tables p (row_of m p) a) (unchanged m)) is

-- an UPDATE block begins
pub opened-leads : (q : Meaning) (m : Moment) (p : ℕ) (row : Row) (opened made : Drafted) → opened ≡ unchanged m → row ≡ row_of m p → made ≡ on (with_row p (record row { inside = true })) opened
    → made ≡ on (λ n. event_done q m (event.Open p)) (unchanged m)
opened-leads q m p row opened made fresh is done =
    done ∙ ap (on (with_row p (record row { inside = true }))) fresh ∙ ap (λ (r : Row). on (with_row p (record r { inside = true })) (unchanged m)) is

-- an UPDATE block is done
pub blocked : (q : Meaning) (m : Moment) (p turns : ℕ) (writes items : List (ℕ × Value)) (row : Row) (opened stored made : Drafted) → block_of q m p turns ≡ Some writes → items ≡ writes → opened ≡ closing_of m p turns
    → stored ≡ on (λ n. record n { store = written n.store items }) opened → row ≡ row_of stored.now p → made ≡ on (block_left p row) stored → made ≡ on (λ n. event_done q m (event.Block p turns)) (closing_of m p turns)
blocked q m p turns writes items row opened stored made is same fresh put here done =
    let e : stored ≡ on (λ n. record n { store = written n.store writes }) (closing_of m p turns) =
    put ∙ ap (λ xs. on (λ n. record n { store = written n.store xs }) opened) same ∙ ap (on (λ n. record n { store = written n.store writes })) fresh in
    done
    ∙ ap (λ (r : Row). on (block_left p r) stored) here
    ∙ ap (λ (d : Drafted). on (block_left p (row_of d.now p)) d) e
    ∙ ap (λ (o : Option (List (ℕ × Value))). on (λ n. block_done p turns o m) (closing_of m p turns)) (sym is)

-- no other process has a group, as was found
pub not_held : (Held Free : Type 0) (b : Bool) → MatchBool b Held Free → b ≡ false → Free
not_held Held Free b found e = subst (λ v. MatchBool v Held Free) e found

-- what is given is there
pub is_some_of : {A : Type 0} (o : Option A) (x : A) → o ≡ Some x → IsSome o
is_some_of o x e = subst IsSome (sym e) refl

-- the block that may be done ends after the turns that were found
pub block_turns : (q : Meaning) (lanes : ℕ) (m : Moment) (p turns found : ℕ) (writes : List (ℕ × Value)) → IsLoad q → IsSound q m → CanBlock q lanes m p turns → block_of q m p found ≡ Some writes → found ≡ turns
block_turns q lanes m p turns found writes load sound can is = go (block_of q m p turns) refl can.ends where
  exists : HasProcess q.tables p
  exists = subst (λ n. p < n) sound.rows (ready-exists m.rows p can.early.ready)

  go : (o : Option (List (ℕ × Value))) → block_of q m p turns ≡ o → IsSome o → found ≡ turns
  go (Some others) e some = load.one_end p (answers_of m p) m.store found turns writes others exists (sound.fit p exists) sound.store is e
  go None e some = cc
