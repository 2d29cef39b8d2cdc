-- COPY fills own places with cells as the tree copies the elements of an argument.
use Rattle.std.specs.Prelude.{◌≡◌, ℕ, suc, ◌+◌, pos, List, [], ◌∷◌, Option, Some, None, slice_get, slice_set}
use Rattle.std.proofs.Common.{refl, subst, arith}
use Rattle.hal_values.specs.declared.request.Request.TheVariants as request
use Rattle.hal_values.specs.declared.request.Spot.TheVariants as asked
use Rattle.hal_values.specs.declared.tables.Cell.{Cell}
use Rattle.hal_values.specs.declared.value.Kind.{Kind}
use Rattle.hal_values.specs.declared.value.Value.{Value}
use Rattle.hal_values.specs.declared.value.Value.TheVariants as value
use Rattle.hal_states.specs.Modes.{seen_cell}
use Rattle.hal_states.specs.OfKinds.{nothing, told}
use Rattle.hal_states.specs.Spots.{Spot, Shared, Own, Nowhere, Holds, held_in}
use Rattle.hal_meaning.specs.States.{State, state, with_places, Evaluated, Gives, bind}
use Rattle.hal_meaning.specs.Access as tree
use Rattle.hal_meaning.specs.Access.{Here, copy}
use Rattle.hal_code.specs.Cores.{Operand, Copies, Core, Step, Moves}
use Rattle.hal_code.specs.Addressing.{placed, copied_cell, copied}
use Rattle.hal_agreement.specs.Codes.{Code}
use Rattle.hal_agreement.proofs.Leading.{stays}
use Rattle.hal_agreement.proofs.Reaching.{Nest, setting, core_at, Reaches}
use Rattle.hal_agreement.proofs.Raising.{asks_then}

module _ (code : Code) (begin : ℕ) (h : Here) (n : Nest) (at : ℕ) (stack : List Operand) (line : List ℕ) where
  -- cells are copied, and control goes on there
  abbrev Done : Step → State → Evaluated (Unit {0}) → Type 0
  Done step st r = Reaches (setting code begin h) n (λ (done : Unit {0}) after. Some (Moves (core_at at stack line n after))) step st.left r

  -- an own place gets a value
  abbrev with_value : ℕ → Value → State → State
  with_value place v st = with_places (slice_set st.kept.places place (Holds v)) st

  -- the cells behind the first one, which is in its place
  abbrev Behind : List Kind → Spot → ℕ → Type 0
  Behind ks from place =
      (v : Value) (st : State)
      → Done (copied (setting code begin h) ks from (suc place) (placed place v (core_at at stack line n st))) st (copy h ks from (Own (place + 1)) (with_value place v st))

  behind_by : (ks : List Kind) (from : Spot) (place : ℕ) → ((v : Value) (st : State)
      → Done (copied (setting code begin h) ks from (suc place) (core_at at stack line n (with_value place v st))) st (copy h ks from (Own (suc place)) (with_value place v st))) → Behind ks from place
  behind_by ks from place each v st =
      subst (λ next. Done (copied (setting code begin h) ks from (suc place) (placed place v (core_at at stack line n st))) st (copy h ks from (Own next) (with_value place v st))) (omega arith) (each v st)

  cell_in : (number : ℕ) (found : Option Cell) (groups : Option ℕ) (ks : List Kind) (place : ℕ) (st : State) → Behind ks (Shared (number + 1)) place
      → Done
      (elim found [
        | None ↦ copied (setting code begin h) ks (Shared (number + 1)) (suc place) (placed place (value.Int (pos 0)) (core_at at stack line n st))
        | Some cell ↦ copied_cell number cell groups ks place (λ v. copied (setting code begin h) ks (Shared (number + 1)) (suc place) (placed place v (core_at at stack line n st))) (core_at at stack line n st)
      ]) st
      (bind (elim found [ None ↦ Gives (value.Int (pos 0)) st | Some cell ↦ tree.read_in number cell groups st ])
      (λ v after. copy h ks (Shared (number + 1)) (Own (place + 1)) (with_value place v after)))
  cell_in number None groups ks place st each = each (value.Int (pos 0)) st
  cell_in number (Some cell) None ks place st each =
      asks_then code begin h n _ (request.Read (asked.Cell number)) (Copies cell.kind ks (Shared (number + 1)) place) (core_at at stack line n st) st.entries st.left (λ a after. Gives (told cell.kind a) after)
      (λ v after. copy h ks (Shared (number + 1)) (Own (place + 1)) (with_value place v after))
      (λ a rest. each (told cell.kind a) (state st.kept st.entries st.mode rest))
  cell_in number (Some cell) (Some groups) ks place st each = each (seen_cell groups cell (slice_get st.mode.store number)) st

  -- cells of these kinds
  pub copied_reaches : (ks : List Kind) (from : Spot) (place : ℕ) (st : State) → Done (copied (setting code begin h) ks from place (core_at at stack line n st)) st (copy h ks from (Own place) st)
  copied_reaches [] from place st = record { holds = stays (setting code begin h) _ st.left }
  copied_reaches (k ∷ ks) (Shared number) place st =
      cell_in number (slice_get h.set.tables.cells number) st.mode.groups ks place st
      (behind_by ks (Shared (number + 1)) place (λ v after. copied_reaches ks (Shared (number + 1)) (suc place) (with_value place v after)))
  copied_reaches (k ∷ ks) (Own number) place st =
      behind_by ks (Own (number + 1)) place (λ v after. copied_reaches ks (Own (number + 1)) (suc place) (with_value place v after)) (held_in (slice_get st.kept.places number)) st
  copied_reaches (k ∷ ks) Nowhere place st =
      behind_by ks Nowhere place (λ v after. copied_reaches ks Nowhere (suc place) (with_value place v after)) (nothing k) st
