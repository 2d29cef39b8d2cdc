-- CELL with a view of one cell leaves its address.
use Rattle.std.specs.Prelude.{◌≡◌, ℕ, suc, List, [], ◌∷◌, Option, Some, None, slice_get}
use Rattle.std.proofs.Common.{refl, sym, ap, subst, ◌∙◌, arith}
use Rattle.hal_values.specs.declared.value.Kind.{Kind}
use Rattle.hal_states.specs.Spots.{Spot, Shared, Own, Nowhere, further}
use Rattle.hal_meaning.specs.States.{State, Evaluated}
use Rattle.hal_meaning.specs.Access.{Here}
use Rattle.hal_code.specs.declared.instr.Instr.TheVariants as instr
use Rattle.hal_code.specs.declared.row.Base.{Base}
use Rattle.hal_code.specs.declared.row.Target.TheVariants as target
use Rattle.hal_code.specs.declared.row.View.{View}
use Rattle.hal_code.specs.Cores.{Operand, At, Core, going, Step, Moves}
use Rattle.hal_code.specs.Raising.{stuck}
use Rattle.hal_code.specs.Addressing.{spot_of, cell_viewed, act_cell}
use Rattle.hal_agreement.specs.Codes.{Code}
use Rattle.hal_agreement.specs.PlacedExpressions.{IsPlain, AddressAt}
use Rattle.hal_agreement.proofs.Reaching.{Nest, setting, core_at, Reaches, acts}

pub further_none : (at : Spot) → further 0 at ≡ at
further_none (Shared c) = ap Shared (omega arith)
further_none (Own k) = ap Own (omega arith)
further_none Nowhere = refl

module _ (code : Code) (begin : ℕ) (h : Here) (n : Nest) where
  -- CELL with a view of one cell
  plain_view : (b : Base) (k : Kind) (spot : Spot) (c : Core) → spot_of b c.kept.places ≡ spot
      → cell_viewed (setting code begin h) (record { base = b; dimensions = []; target = target.Cell k }) c ≡ Moves (going (suc c.at) (At spot k ∷ c.stack) c)
  plain_view b k spot c is = ap (λ at. Moves (going (suc c.at) (At at k ∷ c.stack) c)) (further_none (spot_of b c.kept.places) ∙ is)

  viewed : (view : View) (k : Kind) (spot : Spot) (c : Core) → IsPlain view c.kept.places k spot → cell_viewed (setting code begin h) view c ≡ Moves (going (suc c.at) (At spot k ∷ c.stack) c)
  viewed view k spot c is =
      subst (λ ds. cell_viewed (setting code begin h) (record { base = view.base; dimensions = ds; target = view.target }) c ≡ Moves (going (suc c.at) (At spot k ∷ c.stack) c)) (sym is.dimensions)
      (subst (λ t. cell_viewed (setting code begin h) (record { base = view.base; dimensions = []; target = t }) c ≡ Moves (going (suc c.at) (At spot k ∷ c.stack) c)) (sym is.target)
      (plain_view view.base k spot c is.base))

  cell_acts : (number : ℕ) (view : View) (k : Kind) (spot : Spot) (c : Core) → slice_get code.image.views number ≡ Some view → IsPlain view c.kept.places k spot
      → act_cell (setting code begin h) number c ≡ Moves (going (suc c.at) (At spot k ∷ c.stack) c)
  cell_acts number view k spot c row is =
      ap (λ o. elim o [ None ↦ stuck c | Some found ↦ cell_viewed (setting code begin h) found c ]) row ∙ viewed view k spot c is

  -- the address of a cell
  pub address_reaches : {A : Type 0} (fine : A → State → Option Step) (k : Kind) (spot : Spot) (from : ℕ) (stack : List Operand) (line : List ℕ) (st : State) (r : Evaluated A) → AddressAt code st.kept.places k spot from
      → Reaches (setting code begin h) n fine (Moves (core_at (suc from) (At spot k ∷ stack) line n st)) st.left r → Reaches (setting code begin h) n fine (Moves (core_at from stack line n st)) st.left r
  address_reaches fine k spot from stack line st r at is =
      acts (setting code begin h) n fine (core_at from stack line n st) st.left (instr.Cell at.number) r at.cell
      (subst (λ step. Reaches (setting code begin h) n fine step st.left r) (sym (cell_acts at.number at.view k spot (core_at from stack line n st) at.row at.plain)) is)
