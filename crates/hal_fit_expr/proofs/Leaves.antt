-- The code of leaves fits: of values, of addresses, of names that call nothing.
use Rattle.std.specs.Prelude.{◌≡◌, ℕ, suc, nat_lt, length, Bool, true, false, not, ◌&&◌, List, [], ◌∷◌, Option, Some, None, slice_get, if◌then◌else◌}
use Rattle.std.specs.Option.{option_and_then}
use Rattle.std.proofs.Common.{refl, ap, ◌∙◌}
use Rattle.std.proofs.lemmas.List.{length-map}
use Rattle.hal_scope.specs.declared.builtin.Builtin.{Builtin}
use Rattle.hal_scope.specs.declared.builtin.Builtin.TheVariants as builtin
use Rattle.hal_operations.specs.declared.operation.Op1.{Op1}
use Rattle.hal_operations.specs.declared.operation.Op2.{Op2}
use Rattle.hal_values.specs.declared.value.Kind.{Kind}
use Rattle.hal_values.specs.declared.value.Value.{Value}
use Rattle.hal_values.specs.declared.value.Value.TheVariants as value
use Rattle.hal_states.specs.Spots.{Spot, Held}
use Rattle.hal_meaning.specs.Variables as tree
use Rattle.hal_code.specs.declared.choice.Choice.TheVariants as choice
use Rattle.hal_code.specs.declared.instr.Instr.{Instr}
use Rattle.hal_code.specs.declared.instr.Instr.TheVariants as instr
use Rattle.hal_code.specs.declared.operand.Places.{Places}
use Rattle.hal_code.specs.declared.row.Target.{Target}
use Rattle.hal_code.specs.declared.row.Target.TheVariants as target
use Rattle.hal_code.specs.declared.row.View.{View}
use Rattle.hal_code.specs.Addressing.{is_of_cell}
use Rattle.hal_code.specs.Blocks.{is_common}
use Rattle.hal_code.specs.Effects.{Sorts, sorts_after, sort_of_target, viewed_sorts, giving, has_places, places_taken, picked_sorts, integers_taken}
use Rattle.hal_code.specs.Operands.{operands_right, holds_of, is_view_for, events_of}
use Rattle.hal_code.specs.Right.{stands_right}
use Rattle.hal_code.specs.Sorts.{Sort, I, B, T, A, R, sort_of, one_gives, two_give}
use Rattle.hal_agreement.specs.Codes.{Code}
use Rattle.hal_agreement.specs.PlacedExpressions.{Has, One, pushes, two, picks, dimension_of, AddressAt, addresses, ElementAt, AloneAt}
use Rattle.hal_fitting.specs.Fitting.{Ground, suits, Fits}
use Rattle.hal_fitting.proofs.Joining.{one_fits, modest_fits, fits_to}
use Rattle.hal_fit_expr.specs.Uses.{Uses}
use Rattle.hal_fit_expr.specs.Sorted.{are_bits, sort_of_value, sort_of_builtin}
use Rattle.hal_fit_expr.proofs.Given.{given_is, integers, taken}

holds_there : {X : Type 0} (test : X → Bool) (o : Option X) (x : X) → o ≡ Some x → test x ≡ true → holds_of test o ≡ true
holds_there test None x is holds = absurd (cc)
holds_there test (Some one) x is holds = ap test (let same : one ≡ x = cc in same) ∙ holds

both_true : (a b : Bool) → a ≡ true → b ≡ true → (a && b) ≡ true
both_true true true ia ib = refl
both_true a b ia ib = absurd (cc)

not_common : (common b : Bool) → common ≡ false → (if common then b else true) ≡ true
not_common true b is = absurd (cc)
not_common false b is = refl

of_cell : (view : View) (kind : Kind) → view.target ≡ target.Cell kind → is_of_cell view ≡ true
of_cell view kind is = ap (λ t. elim t [ target.Cell k ↦ true | target.Shape s ↦ false ]) is

of_shape : (view : View) (shape : ℕ) → view.target ≡ target.Shape shape → not (is_of_cell view) ≡ true
of_shape view shape is = ap (λ t. not (elim t [ target.Cell k ↦ true | target.Shape s ↦ false ])) is

-- the address that a view gives
viewed_is : (o : Option View) (view : View) (given : Target) (n : ℕ) (stack : Sorts) → o ≡ Some view → view.target ≡ given → length view.dimensions ≡ n
    → viewed_sorts o (integers n stack) ≡ Some (sort_of_target given ∷ stack)
viewed_is o view given n stack there aimed long =
    ap (λ one. viewed_sorts one (integers n stack)) there
    ∙ (ap (λ m. option_and_then (λ left. Some (sort_of_target view.target ∷ left)) (integers_taken m (integers n stack))) long
    ∙ (ap (λ left. option_and_then (λ rest. Some (sort_of_target view.target ∷ rest)) left) (taken n stack) ∙ ap (λ t. Some (sort_of_target t ∷ stack)) aimed))

module _ (code : Code) (g : Ground) where
  -- a value
  pub value_fits : (v : Value) (s : Sort) (from to : ℕ) (stack : Sorts) → sort_of_value v ≡ Some s → One code from (pushes v) to → Fits code.image g from stack to (s ∷ stack)
  value_fits (value.Int a) s from to stack sorted at =
      fits_to code.image g at.1 (modest_fits code.image g (instr.Int a) from stack (s ∷ stack) at.0 refl refl (ap (λ t. Some (t ∷ stack)) (let same : I ≡ s = cc in same)))
  value_fits (value.Text text) s from to stack sorted at =
      fits_to code.image g at.1 (modest_fits code.image g (instr.Text text) from stack (s ∷ stack) at.0 refl refl (ap (λ t. Some (t ∷ stack)) (let same : T ≡ s = cc in same)))
  value_fits (value.Bits len word) s from to stack sorted at =
      let known = given_is (are_bits len word) B s sorted in
      fits_to code.image g at.1 (modest_fits code.image g (instr.Bits len word) from stack (s ∷ stack) at.0 refl known.0 (ap (λ t. Some (t ∷ stack)) known.1))

  -- operations
  pub one_op_fits : (op : Op1) (s t : Sort) (from to : ℕ) (stack : Sorts) → one_gives op s ≡ Some t → One code from (instr.Op1 (choice.Known op)) to → Fits code.image g from (s ∷ stack) to (t ∷ stack)
  one_op_fits op s t from to stack gives at =
      fits_to code.image g at.1 (modest_fits code.image g (instr.Op1 (choice.Known op)) from (s ∷ stack) (t ∷ stack) at.0 refl refl (ap (λ o. giving o stack) gives))

  pub two_op_fits : (op : Op2) (s t r : Sort) (from to : ℕ) (stack : Sorts) → two_give op s t ≡ Some r → One code from (two op) to → Fits code.image g from (t ∷ s ∷ stack) to (r ∷ stack)
  two_op_fits op s t r from to stack gives at =
      fits_to code.image g at.1 (modest_fits code.image g (two op) from (t ∷ s ∷ stack) (r ∷ stack) at.0 refl refl (ap (λ o. giving o stack) gives))

  -- places of a value are chosen
  pub pick_fits : (chosen : Places) (s : Sort) (from to : ℕ) (before stack : Sorts) → places_taken (choice.Known chosen) before ≡ Some (s ∷ stack) → has_places s ≡ true → One code from (picks chosen) to
      → Fits code.image g from before to (s ∷ stack)
  pick_fits chosen s from to before stack chooses has at =
      fits_to code.image g at.1 (modest_fits code.image g (picks chosen) from before (s ∷ stack) at.0 refl refl
      (ap (option_and_then picked_sorts) chooses ∙ ap (λ b. if b then Some (s ∷ stack) else None) has))

  -- a cell is read
  pub fetch_fits : (kind : Kind) (from to : ℕ) (stack : Sorts) → One code from instr.Fetch to → Fits code.image g from (A kind ∷ stack) to (sort_of kind ∷ stack)
  fetch_fits kind from to stack at = fits_to code.image g at.1 (modest_fits code.image g instr.Fetch from (A kind ∷ stack) (sort_of kind ∷ stack) at.0 refl refl refl)

  module _ (own : is_common g.block ≡ false) where
    -- the address of a cell, and that of the cells of a shape
    viewed_fits : (given : Target) (number n : ℕ) (view : View) (from : ℕ) (stack : Sorts) → Has code from (addresses given number) → slice_get code.image.views number ≡ Some view → length view.dimensions ≡ n
        → view.target ≡ given → Fits code.image g from (integers n stack) (suc from) (sort_of_target given ∷ stack)
    viewed_fits (target.Cell kind) number n view from stack has there long aimed =
        modest_fits code.image g (instr.Cell number) from (integers n stack) (A kind ∷ stack) has refl
        (holds_there (λ (one : View). is_of_cell one && is_view_for code.image g.block one) (slice_get code.image.views number) view there
        (both_true (is_of_cell view) (is_view_for code.image g.block view) (of_cell view kind aimed) (not_common (is_common g.block) _ own)))
        (viewed_is (slice_get code.image.views number) view (target.Cell kind) n stack there aimed long)
    viewed_fits (target.Shape shape) number n view from stack has there long aimed =
        modest_fits code.image g (instr.Whole number) from (integers n stack) (R shape ∷ stack) has refl
        (holds_there (λ (one : View). not (is_of_cell one) && is_view_for code.image g.block one) (slice_get code.image.views number) view there
        (both_true (not (is_of_cell view)) (is_view_for code.image g.block view) (of_shape view shape aimed) (not_common (is_common g.block) _ own)))
        (viewed_is (slice_get code.image.views number) view (target.Shape shape) n stack there aimed long)

    pub element_fits : (all : List tree.Dimension) (given : Target) (at : List Held → Spot) (from to : ℕ) (stack : Sorts) → ElementAt code all given at from → suc from ≡ to
        → Fits code.image g from (integers (length all) stack) to (sort_of_target given ∷ stack)
    element_fits all given at from to stack there next =
        let viewed = there.viewed [] in
        fits_to code.image g next (viewed_fits given there.number (length all) there.view from stack there.address there.row (ap length viewed.dimensions ∙ length-map all dimension_of) viewed.target)

    pub address_fits : (kind : Kind) (at : Spot) (from : ℕ) (stack : Sorts) → AddressAt code [] kind at from → Fits code.image g from stack (suc from) (A kind ∷ stack)
    address_fits kind at from stack there = viewed_fits (target.Cell kind) there.number 0 there.view from stack there.cell there.row (ap length there.plain.dimensions) there.plain.target

  -- what asks, where it may be asked
  asks_fits : (i : Instr) (s : Sort) (from to : ℕ) (stack : Sorts) → g.inside ≡ false → ((out : List Bool) → stands_right out false i ≡ true) → operands_right code.image g.block g.number i ≡ true
      → (suits code.image g i ≡ ((operands_right code.image g.block g.number i && stands_right g.out g.inside i) && true)) → sorts_after code.image g.block i stack ≡ Some (s ∷ stack) → One code from i to
      → Fits code.image g from stack to (s ∷ stack)
  asks_fits i s from to stack outside stands operands plain effect at =
      fits_to code.image g at.1 (one_fits code.image g i from stack (s ∷ stack) at.0
      (plain ∙ both_true (operands_right code.image g.block g.number i && stands_right g.out g.inside i) true
      (both_true (operands_right code.image g.block g.number i) (stands_right g.out g.inside i) operands (ap (λ b. stands_right g.out b i) outside ∙ stands g.out)) refl) effect)

  pub event_fits : (e : ℕ) (from to : ℕ) (stack : Sorts) → g.inside ≡ false → nat_lt e (events_of code.image) ≡ true → One code from (instr.Event e) to → Fits code.image g from stack to (B ∷ stack)
  event_fits e from to stack outside low at = asks_fits (instr.Event e) B from to stack outside (λ out. refl) low refl refl at

  -- a built-in function without a list
  pub alone_fits : (u : Uses) (b : Builtin) (s : Sort) (from to : ℕ) (stack : Sorts) → (u.asks ≡ true → g.inside ≡ false) → sort_of_builtin u b ≡ Some s → AloneAt code b from to → Fits code.image g from stack to (s ∷ stack)
  alone_fits u builtin.Errgrp s from to stack asks sorted at =
      fits_to code.image g at.1 (modest_fits code.image g instr.ErrGrp from stack (s ∷ stack) at.0 refl refl (ap (λ t. Some (t ∷ stack)) (let same : I ≡ s = cc in same)))
  alone_fits u builtin.Errnum s from to stack asks sorted at =
      fits_to code.image g at.1 (modest_fits code.image g instr.ErrNum from stack (s ∷ stack) at.0 refl refl (ap (λ t. Some (t ∷ stack)) (let same : I ≡ s = cc in same)))
  alone_fits u builtin.Runtime s from to stack asks sorted at =
      let known = given_is u.asks I s sorted in
      asks_fits instr.Now s from to stack (asks known.0) (λ out. refl) refl refl (ap (λ t. Some (t ∷ stack)) known.1) at
  alone_fits u other s from to stack asks sorted at = absurd (cc)
