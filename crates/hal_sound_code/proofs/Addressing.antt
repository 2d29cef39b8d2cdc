-- Instructions with addresses fit.
use Rattle.std.specs.Prelude.{ℕ, zero, suc, ◌≡◌, length, Bool, true, false, List, [], ◌∷◌, ◌++◌, ℤ, pos, Option, Some, None, slice_get, unwrap_or, Result, Ok, Err, if◌then◌else◌}
use Rattle.std.specs.Option.{option_map}
use Rattle.std.proofs.Common.{refl, sym, ap, subst, ◌∙◌, arith}
use Rattle.std.proofs.lemmas.Option.{slice_get-map}
use Rattle.hal_values.specs.declared.environment.ErrNo.{ErrNo}
use Rattle.hal_values.specs.declared.request.Request.TheVariants as request
use Rattle.hal_values.specs.declared.request.Spot.TheVariants as asked
use Rattle.hal_values.specs.declared.tables.Cell.{Cell}
use Rattle.hal_values.specs.declared.value.Kind.{Kind}
use Rattle.hal_values.specs.declared.value.Value.{Value}
use Rattle.hal_values.specs.declared.value.Value.TheVariants as value
use Rattle.hal_values.specs.Answers.{Answered, error}
use Rattle.hal_values.specs.Answers as answered
use Rattle.hal_operations.specs.Stores.{stored, mended_store}
use Rattle.hal_states.specs.Spots.{Spot, Shared, Own, Nowhere, held_in, further}
use Rattle.hal_states.specs.OfKinds.{nothing, of_kind, told}
use Rattle.hal_states.specs.Modes.{seen_cell, has_bit}
use Rattle.hal_states.proofs.OfKind.{nothing_is, of_kind_is}
use Rattle.hal_code.specs.declared.row.Target.{Target}
use Rattle.hal_code.specs.declared.row.Target.TheVariants as target
use Rattle.hal_code.specs.declared.row.View.{View}
use Rattle.hal_code.specs.Addressing.{popped, all_inside, cells_before, spot_of, operand_of, addressed, viewed, pushed, fetched_cell, fetched, stored_at, act_fetch, act_peek, act_keep}
use Rattle.hal_code.specs.Cores.{Operand, Val, At, Area, Setting, Core, going, Puts, Pushes}
use Rattle.hal_code.specs.Effects.{Sorts, integers_taken, sort_of_target, viewed_sorts, fetched_sorts, peeked_sorts, kept_sorts}
use Rattle.hal_code.specs.Images.{expanded, tables_of, places_of}
use Rattle.hal_code.specs.Memory.{shared_memory}
use Rattle.hal_code.specs.Raising.{stuck}
use Rattle.hal_code.specs.Sorts.{Sort, A, R, sort_of, takes}
use Rattle.hal_sound_code.specs.Lying.{LieAt, sort_of_value, sort_of_operand, sorts_of, AllLead, Leads}
use Rattle.hal_sound_code.specs.Typed.{IsKept, MayHold}
use Rattle.hal_sound_code.proofs.Computing.{Onward, Typed-pushed}
use Rattle.hal_sound_code.proofs.Places.{first_lies, held_value}
use Rattle.hal_sound_code.proofs.Raising.{Typed-raised, Typed-put, Typed-raised_before}
use Rattle.hal_sound_code.proofs.Rows.{sort_of_kind}
use Rattle.hal_sound_code.proofs.Stepping.{Well, Typed, moves, awaits, either}
use Rattle.hal_sound_code.proofs.Taking.{some_is, if_taken, then_taken, takes_of, Top, top_of}
use Rattle.hal_sound_code.proofs.Values.{Gives, stored_sort}

-- a shared cell is there
pub record Found (s : Setting) (number : ℕ) (k : Kind) : Type 0 where
  pub cell : Cell
  pub there : slice_get s.tables.cells number ≡ Some cell
  pub kind : cell.kind ≡ k

cell_of : (o : Option Cell) (k : Kind) → option_map (λ (cell : Cell). Some cell.kind) o ≡ Some (Some k) → (cell : Cell) × (o ≡ Some cell) × (cell.kind ≡ k)
cell_of None k e = absurd (cc)
cell_of (Some cell) k e = (cell, refl, some_is cell.kind k (some_is (Some cell.kind) (Some k) e))

pub cell_there : (s : Setting) → s.tables ≡ tables_of s.image → (number : ℕ) (k : Kind) → slice_get (shared_memory s.image) number ≡ Some (Some k) → Found s number k
cell_there s same number k e = found (cell_of (slice_get (expanded s.image.cells) number) k (sym (slice_get-map (λ (cell : Cell). Some cell.kind) (expanded s.image.cells) number) ∙ e))
  where
    found : (cell : Cell) × (slice_get (expanded s.image.cells) number ≡ Some cell) × (cell.kind ≡ k) → Found s number k
    found known = record { cell = known.0; there = ap (λ t. slice_get t.cells number) same ∙ known.1; kind = known.2 }

pub told_sort : (k : Kind) (a : Answered) → sort_of_value (told k a) ≡ sort_of k
told_sort k (answered.Told v) = sort_of_kind k (of_kind k v) (of_kind_is k v)
told_sort k answered.Begun = sort_of_kind k (nothing k) (nothing_is k)
told_sort k answered.Done = sort_of_kind k (nothing k) (nothing_is k)
told_sort k (answered.Wrong e) = sort_of_kind k (nothing k) (nothing_is k)
told_sort k (answered.Block snapshot turns) = sort_of_kind k (nothing k) (nothing_is k)
told_sort k answered.Killed = sort_of_kind k (nothing k) (nothing_is k)

pub seen_sort : (groups : ℕ) (cell : Cell) (v : Option Value) → sort_of_value (seen_cell groups cell v) ≡ sort_of cell.kind
seen_sort groups cell v = of_bit (has_bit groups cell.group)
  where
    of_bit : (b : Bool) → sort_of_value (if b then of_kind cell.kind (unwrap_or v (nothing cell.kind)) else nothing cell.kind) ≡ sort_of cell.kind
    of_bit true = sort_of_kind cell.kind _ (of_kind_is cell.kind _)
    of_bit false = sort_of_kind cell.kind (nothing cell.kind) (nothing_is cell.kind)

target_sort : (t : Target) (at : Spot) → sort_of_operand (operand_of t at) ≡ sort_of_target t
target_sort (target.Cell k) at = refl
target_sort (target.Shape shape) at = refl

-- what a value may be put at
pub may_hold : (s : Setting) (at : Spot) (k : Kind) (v : Value) → LieAt s at (k ∷ []) → sort_of_value v ≡ sort_of k → MayHold s at v
may_hold s (Shared number) k v lies is = tt
may_hold s (Own number) k v lies is = (k, lies, is)
may_hold s Nowhere k v lies is = tt

-- integers that lie on the stack
record Popped (s : Setting) (n : ℕ) (stack : List Operand) (left : Sorts) : Type 0 where
  ints : List ℤ
  rest : List Operand
  is : popped n stack ≡ Some (ints, rest)
  sorts : sorts_of rest ≡ left
  lead : AllLead s rest

popped_is : (s : Setting) (n : ℕ) (stack : List Operand) (left : Sorts) → AllLead s stack → integers_taken n (sorts_of stack) ≡ Some left → Popped s n stack left
popped_is s zero stack left lead e = record { ints = []; rest = stack; is = refl; sorts = some_is (sorts_of stack) left e; lead = lead }
popped_is s (suc n) stack left lead e = of_top (λ rest leads is. popped_is s n rest left leads is) (top_of s stack n left lead e)
  where
    of_top : ((rest : List Operand) → AllLead s rest → integers_taken n (sorts_of rest) ≡ Some left → Popped s n rest left) → Top s stack n left → Popped s (suc n) stack left
    of_top later top = with_rest (later top.rest top.lead top.taken)
      where
        with_rest : Popped s n top.rest left → Popped s (suc n) stack left
        with_rest p = record {
          ints = p.ints ++ (top.int ∷ []);
          rest = p.rest;
          is = ap (popped (suc n)) top.is ∙ ap (λ o. elim o [ None ↦ None | Some got ↦ Some (got.0 ++ (top.int ∷ []), got.1) ]) p.is;
          sorts = p.sorts;
          lead = p.lead;
        }

module _ (s : Setting) (most : ℕ) (same : s.tables ≡ tables_of s.image) where
  -- CELL and WHOLE: an address by a view
  Typed-addressed : (view : View) (is : List ℤ) (c : Core) → Well s most c → Typed s most (addressed s view is c)
  Typed-addressed view is c well = either s most (all_inside view.dimensions is) _ _ (λ e. moves s most c well) (λ e. Typed-raised s most (error 1 3) c (omega arith) well)

  pub Typed-viewed : (view : View) (c : Core) (after : Sorts) → Onward s most c after → AllLead s c.stack
      → ((is : List ℤ) → Leads s (operand_of view.target (further (cells_before view.dimensions is) (spot_of view.base c.kept.places))))
      → viewed_sorts (Some view) (sorts_of c.stack) ≡ Some after → Typed s most (viewed s view c)
  Typed-viewed view c after on lead leads e = given (then_taken (λ left. Some (sort_of_target view.target ∷ left)) (integers_taken (length view.dimensions) (sorts_of c.stack)) after e)
    where
      goes : List ℤ → List Operand → Core
      goes is rest = going (suc c.at) (operand_of view.target (further (cells_before view.dimensions is) (spot_of view.base c.kept.places)) ∷ rest) c

      of_popped : (left : Sorts) → (sort_of_target view.target ∷ left) ≡ after → Popped s (length view.dimensions) c.stack left → Typed s most (viewed s view c)
      of_popped left is p =
          subst (λ o. Typed s most (elim o [ None ↦ stuck c | Some got ↦ addressed s view got.0 (goes got.0 got.1) ])) (sym p.is)
          (Typed-addressed view p.ints (goes p.ints p.rest) (on (operand_of view.target (further (cells_before view.dimensions p.ints) (spot_of view.base c.kept.places)) ∷ p.rest) (leads p.ints, p.lead)
          (ap (λ one. one ∷ sorts_of p.rest) (target_sort view.target _) ∙ ap (λ rest. sort_of_target view.target ∷ rest) p.sorts ∙ is)))

      given : (left : Sorts) × (integers_taken (length view.dimensions) (sorts_of c.stack) ≡ Some left) × (Some (sort_of_target view.target ∷ left) ≡ Some after) → Typed s most (viewed s view c)
      given known = of_popped known.0 (some_is (sort_of_target view.target ∷ known.0) after known.2) (popped_is s (length view.dimensions) c.stack known.0 lead known.1)

  -- what is fetched
  Typed-fetched_cell : (number : ℕ) (cell : Cell) (groups : Option ℕ) (stack : List Operand) (c : Core) (after : Sorts) → Onward s most c after → IsKept s c → AllLead s stack → (sort_of cell.kind ∷ sorts_of stack) ≡ after
      → Typed s most (fetched_cell number cell groups stack c)
  Typed-fetched_cell number cell None stack c after on is lead e =
      awaits s most (request.Read (asked.Cell number)) (Pushes cell.kind) (going (suc c.at) stack c) (λ h. cc) is (λ v h. (on (Val v ∷ stack) (tt, lead) (ap (λ one. one ∷ sorts_of stack) h ∙ e)).typed)
  Typed-fetched_cell number cell (Some groups) stack c after on is lead e =
      Typed-pushed s most (seen_cell groups cell (slice_get c.mode.store number)) stack c after on lead (ap (λ one. one ∷ sorts_of stack) (seen_sort groups cell (slice_get c.mode.store number)) ∙ e)

  Typed-fetched : (k : Kind) (at : Spot) (stack : List Operand) (c : Core) (after : Sorts) → Onward s most c after → IsKept s c → LieAt s at (k ∷ []) → AllLead s stack → (sort_of k ∷ sorts_of stack) ≡ after → Typed s most (fetched s k at stack c)
  Typed-fetched k (Shared number) stack c after on is lies lead e = of_cell (cell_there s same number k (first_lies (shared_memory s.image) number k [] lies).there)
    where
      of_cell : Found s number k → Typed s most (fetched s k (Shared number) stack c)
      of_cell f =
          subst (λ o. Typed s most (elim o [ None ↦ pushed (value.Int (pos 0)) stack c | Some cell ↦ fetched_cell number cell c.mode.groups stack c ])) (sym f.there)
          (Typed-fetched_cell number f.cell c.mode.groups stack c after on is lead (ap (λ kind. sort_of kind ∷ sorts_of stack) f.kind ∙ e))
  Typed-fetched k (Own number) stack c after on is lies lead e =
      Typed-pushed s most (held_in (slice_get c.kept.places number)) stack c after on lead (ap (λ one. one ∷ sorts_of stack) (held_value s (places_of s.image s.process) c.kept.places number k is (first_lies _ number k [] lies).there) ∙ e)
  Typed-fetched k Nowhere stack c after on is lies lead e = Typed-pushed s most (nothing k) stack c after on lead (ap (λ one. one ∷ sorts_of stack) (sort_of_kind k (nothing k) (nothing_is k)) ∙ e)

  pub Typed-fetch : (stack : List Operand) (c : Core) (after : Sorts) → Onward s most c after → IsKept s c → AllLead s stack → fetched_sorts (sorts_of stack) ≡ Some after → Typed s most (act_fetch s stack c)
  Typed-fetch [] c after on is lead e = absurd (cc)
  Typed-fetch (At at k ∷ stack) c after on is lead e = Typed-fetched k at stack c after on is lead.0 lead.1 (some_is (sort_of k ∷ sorts_of stack) after e)
  Typed-fetch (Val (value.Int a) ∷ stack) c after on is lead e = absurd (cc)
  Typed-fetch (Val (value.Bits len word) ∷ stack) c after on is lead e = absurd (cc)
  Typed-fetch (Val (value.Text text) ∷ stack) c after on is lead e = absurd (cc)
  Typed-fetch (Area at shape ∷ stack) c after on is lead e = absurd (cc)

  pub Typed-peek : (stack : List Operand) (c : Core) (after : Sorts) → Onward s most c after → IsKept s c → AllLead s stack → peeked_sorts (sorts_of stack) ≡ Some after → Typed s most (act_peek s stack c)
  Typed-peek [] c after on is lead e = absurd (cc)
  Typed-peek (At at k ∷ stack) c after on is lead e = Typed-fetched k at (At at k ∷ stack) c after on is lead.0 lead (some_is (sort_of k ∷ A k ∷ sorts_of stack) after e)
  Typed-peek (Val (value.Int a) ∷ stack) c after on is lead e = absurd (cc)
  Typed-peek (Val (value.Bits len word) ∷ stack) c after on is lead e = absurd (cc)
  Typed-peek (Val (value.Text text) ∷ stack) c after on is lead e = absurd (cc)
  Typed-peek (Area at shape ∷ stack) c after on is lead e = absurd (cc)

  -- a store
  Typed-stored : (k : Kind) (v : Value) (at : Spot) (r : Result Value ErrNo) (c : Core) → Well s most c → LieAt s at (k ∷ []) → Gives r (mended_store k v) (sort_of k) → Typed s most (stored_at s k v at r c)
  Typed-stored k v at (Ok fitting) c well lies g = Typed-put s most at fitting c well (may_hold s at k fitting lies g.gives)
  Typed-stored k v at (Err e) c well lies g = Typed-raised_before s most e (Puts at (mended_store k v)) c g.errs well (may_hold s at k (mended_store k v) lies g.stands)

  no_store : (k : Kind) (one : Sort) (stack after : Sorts) → kept_sorts (A k ∷ one ∷ stack) ≡ Some after → takes k one ≡ true
  no_store k one stack after e = (if_taken (takes k one) stack after e).0

  pub Typed-keep : (stack : List Operand) (c : Core) (after : Sorts) → Onward s most c after → AllLead s stack → kept_sorts (sorts_of stack) ≡ Some after → Typed s most (act_keep s stack c)
  Typed-keep [] c after on lead e = absurd (cc)
  Typed-keep (At at k ∷ []) c after on lead e = absurd (cc)
  Typed-keep (At at k ∷ Val v ∷ stack) c after on lead e = given (if_taken (takes k (sort_of_value v)) (sorts_of stack) after e)
    where
      given : (takes k (sort_of_value v) ≡ true) × (sorts_of stack ≡ after) → Typed s most (act_keep s (At at k ∷ Val v ∷ stack) c)
      given known = Typed-stored k v at (stored k v) (going (suc c.at) stack c) (on stack lead.1.1 known.1) lead.0 (stored_sort k v known.0)
  Typed-keep (At at k ∷ At there l ∷ stack) c after on lead e = absurd (let no : false ≡ true = takes_of k (A l) (no_store k (A l) (sorts_of stack) after e) in cc)
  Typed-keep (At at k ∷ Area there shape ∷ stack) c after on lead e = absurd (let no : false ≡ true = takes_of k (R shape) (no_store k (R shape) (sorts_of stack) after e) in cc)
  Typed-keep (Val (value.Int a) ∷ stack) c after on lead e = absurd (cc)
  Typed-keep (Val (value.Bits len word) ∷ stack) c after on lead e = absurd (cc)
  Typed-keep (Val (value.Text text) ∷ stack) c after on lead e = absurd (cc)
  Typed-keep (Area at shape ∷ stack) c after on lead e = absurd (cc)
