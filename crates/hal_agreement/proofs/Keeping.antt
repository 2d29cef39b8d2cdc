-- The code by which groups keep what they go by does what the tree says.
use Rattle.std.specs.Prelude.{◌≡◌, ℕ, suc, Bool, true, false, not, List, [], ◌∷◌, ℤ, pos, ◌+ℤ◌, Option, if◌then◌else◌}
use Rattle.std.proofs.Common.{refl, sym, subst}
use Rattle.hal_operations.specs.declared.operation.Op1.TheVariants as op1
use Rattle.hal_operations.specs.declared.operation.Op2.TheVariants as op2
use Rattle.hal_operations.specs.Mended.{mended_of_two}
use Rattle.hal_values.specs.declared.value.Kind.TheVariants as kind
use Rattle.hal_values.specs.declared.value.Value.{Value}
use Rattle.hal_values.specs.declared.value.Value.TheVariants as value
use Rattle.hal_states.specs.Numbers.{integer_of, holds, is_past}
use Rattle.hal_states.specs.Spots.{Own}
use Rattle.hal_meaning.specs.Access.{Here}
use Rattle.hal_meaning.specs.States.{State, Evaluated}
use Rattle.hal_meaning.specs.Statements.{kept_at, held_at, compares, is_number, is_over, next_kept, counted}
use Rattle.hal_code.specs.declared.choice.Choice.TheVariants as choice
use Rattle.hal_code.specs.declared.instr.Instr.{Instr}
use Rattle.hal_code.specs.declared.instr.Instr.TheVariants as instr
use Rattle.hal_code.specs.Computing.{counted_on}
use Rattle.hal_code.specs.Cores.{Operand, Val, At, Step, Moves}
use Rattle.hal_code.specs.Machine.{act}
use Rattle.hal_agreement.specs.Codes.{Code}
use Rattle.hal_agreement.specs.PlacedExpressions.{Has, two}
use Rattle.hal_agreement.specs.PlacedGroups.{KeepsAt, HoldsAt, CaseAt, NegativeAt, LessAt, BoundsAt, NextAt}
use Rattle.hal_agreement.proofs.Leading.{acts_to}
use Rattle.hal_agreement.proofs.Reaching.{Nest, setting, core_at, Reaches, before, acts}
use Rattle.hal_agreement.proofs.Viewing.{address_reaches}

module _ (code : Code) (begin : ℕ) (h : Here) (n : Nest) where
  -- something comes of a step from which the machine goes on there
  abbrev Onward : {A : Type 0} → (A → State → Option Step) → ℕ → List Operand → State → Evaluated A → Type 0
  Onward fine at stack st r = Reaches (setting code begin h) n fine (Moves (core_at at stack [] n st)) st.left r

  -- an instruction behind which control goes on
  pub onward : {A : Type 0} (fine : A → State → Option Step) (i : Instr) (at : ℕ) (stack : List Operand) (next : ℕ) (under : List Operand) (st after : State) (r : Evaluated A) → Has code at i
      → act (setting code begin h) i (core_at at stack [] n st) ≡ Moves (core_at next under [] n after) → Reaches (setting code begin h) n fine (Moves (core_at next under [] n after)) st.left r
      → Onward fine at stack st r
  onward fine i at stack next under st after r has is rest =
      before (setting code begin h) n fine (Moves (core_at at stack [] n st)) st.left (Moves (core_at next under [] n after)) st.left r
      (acts_to (setting code begin h) i (core_at at stack [] n st) st.left (Moves (core_at next under [] n after)) has is) rest

  -- control goes on at the same address
  behind : {A : Type 0} (fine : A → State → Option Step) (at to : ℕ) (stack : List Operand) (st : State) (r : Evaluated A) → at ≡ to → Onward fine to stack st r → Onward fine at stack st r
  behind fine at to stack st r same is = subst (λ end. Onward fine end stack st r) (sym same) is

  -- a place of kind DOUBLE takes a value as it is
  kept_as : (place at : ℕ) (v : Value) (stack : List Operand) (st : State)
      → act (setting code begin h) instr.Keep (core_at at (At (Own place) kind.Double ∷ Val v ∷ stack) [] n st) ≡ Moves (core_at (suc at) stack [] n (kept_at place v st))
  kept_as place at (value.Int a) stack st = refl
  kept_as place at (value.Bits len word) stack st = refl
  kept_as place at (value.Text text) stack st = refl

  pub keeps_reaches : {A : Type 0} (fine : A → State → Option Step) (place : ℕ) (v : Value) (from to : ℕ) (stack : List Operand) (st : State) (r : Evaluated A) → KeepsAt code place from to
      → Onward fine to stack (kept_at place v st) r → Onward fine from (Val v ∷ stack) st r
  keeps_reaches fine place v from to stack st r here rest =
      address_reaches code begin h n fine kind.Double (Own place) from (Val v ∷ stack) [] st r (here.0 st.kept.places)
      (onward fine instr.Keep (suc from) (At (Own place) kind.Double ∷ Val v ∷ stack) (suc (suc from)) stack st (kept_at place v st) r here.1.0 (kept_as place (suc from) v stack st)
      (behind fine (suc (suc from)) to stack (kept_at place v st) r here.1.1 rest))

  pub holds_reaches : {A : Type 0} (fine : A → State → Option Step) (place from to : ℕ) (stack : List Operand) (st : State) (r : Evaluated A) → HoldsAt code place from to
      → Onward fine to (Val (held_at place st) ∷ stack) st r → Onward fine from stack st r
  holds_reaches fine place from to stack st r here rest =
      address_reaches code begin h n fine kind.Double (Own place) from stack [] st r (here.0 st.kept.places)
      (onward fine instr.Fetch (suc from) (At (Own place) kind.Double ∷ stack) (suc (suc from)) (Val (held_at place st) ∷ stack) st st r here.1.0 refl
      (behind fine (suc (suc from)) to (Val (held_at place st) ∷ stack) st r here.1.1 rest))

  -- comparisons raise no error
  equal_as : (at : ℕ) (v : Value) (k : ℕ) (stack : List Operand) (st : State)
      → act (setting code begin h) (two op2.Equal) (core_at at (Val (value.Int (pos k)) ∷ Val v ∷ stack) [] n st) ≡ Moves (core_at (suc at) (Val (mended_of_two op2.Equal v (value.Int (pos k))) ∷ stack) [] n st)
  equal_as at (value.Int a) k stack st = refl
  equal_as at (value.Bits len word) k stack st = refl
  equal_as at (value.Text text) k stack st = refl

  less_as : (at : ℕ) (v w : Value) (stack : List Operand) (st : State)
      → act (setting code begin h) (two op2.Less) (core_at at (Val w ∷ Val v ∷ stack) [] n st) ≡ Moves (core_at (suc at) (Val (mended_of_two op2.Less v w) ∷ stack) [] n st)
  less_as at (value.Int a) (value.Int b) stack st = refl
  less_as at (value.Int a) (value.Bits len word) stack st = refl
  less_as at (value.Int a) (value.Text text) stack st = refl
  less_as at (value.Bits len word) (value.Int b) stack st = refl
  less_as at (value.Bits m x) (value.Bits k y) stack st = refl
  less_as at (value.Bits len word) (value.Text text) stack st = refl
  less_as at (value.Text text) (value.Int b) stack st = refl
  less_as at (value.Text text) (value.Bits len word) stack st = refl
  less_as at (value.Text x) (value.Text y) stack st = refl

  -- JUMPNOT behind a comparison
  parts_reaches : {A : Type 0} (fine : A → State → Option Step) (w : Value) (from target to : ℕ) (st : State) (r : Evaluated A) → Has code from (instr.JumpNot target) → suc from ≡ to
      → Onward fine (if holds w then to else target) [] st r → Onward fine from (Val w ∷ []) st r
  parts_reaches fine w from target to st r has same rest =
      onward fine (instr.JumpNot target) from (Val w ∷ []) (if holds w then suc from else target) [] st st r has refl
      (subst (λ end. Onward fine (if holds w then end else target) [] st r) (sym same) rest)

  pub case_reaches : {A : Type 0} (fine : A → State → Option Step) (place number from target to : ℕ) (st : State) (r : Evaluated A) → CaseAt code place number from target to
      → Onward fine (if is_number (held_at place st) number then to else target) [] st r → Onward fine from [] st r
  case_reaches fine place number from target to st r here rest =
      let v = held_at place st in let k = value.Int (pos number) in
      holds_reaches fine place from here.0 [] st r here.1
      (onward fine (instr.Int (pos number)) here.0 (Val v ∷ []) (suc here.0) (Val k ∷ Val v ∷ []) st st r here.2 refl
      (onward fine (two op2.Equal) (suc here.0) (Val k ∷ Val v ∷ []) (suc (suc here.0)) (Val (mended_of_two op2.Equal v k) ∷ []) st st r here.3 (equal_as (suc here.0) v number [] st)
      (parts_reaches fine (mended_of_two op2.Equal v k) (suc (suc here.0)) target to st r here.4.0 here.4.1 rest)))

  negative_reaches : {A : Type 0} (fine : A → State → Option Step) (place from target to : ℕ) (st : State) (r : Evaluated A) → NegativeAt code place from target to
      → Onward fine (if compares op2.Less (held_at place st) (value.Int (pos 0)) then to else target) [] st r → Onward fine from [] st r
  negative_reaches fine place from target to st r here rest =
      let v = held_at place st in let k = value.Int (pos 0) in
      holds_reaches fine place from here.0 [] st r here.1
      (onward fine (instr.Int (pos 0)) here.0 (Val v ∷ []) (suc here.0) (Val k ∷ Val v ∷ []) st st r here.2 refl
      (onward fine (two op2.Less) (suc here.0) (Val k ∷ Val v ∷ []) (suc (suc here.0)) (Val (mended_of_two op2.Less v k) ∷ []) st st r here.3 (less_as (suc here.0) v k [] st)
      (parts_reaches fine (mended_of_two op2.Less v k) (suc (suc here.0)) target to st r here.4.0 here.4.1 rest)))

  less_reaches : {A : Type 0} (fine : A → State → Option Step) (first second from target to : ℕ) (st : State) (r : Evaluated A) → LessAt code first second from target to
      → Onward fine (if compares op2.Less (held_at first st) (held_at second st) then to else target) [] st r → Onward fine from [] st r
  less_reaches fine first second from target to st r here rest =
      let v = held_at first st in let w = held_at second st in
      holds_reaches fine first from here.0 [] st r here.2
      (holds_reaches fine second here.0 here.1 (Val v ∷ []) st r here.3
      (onward fine (two op2.Less) here.1 (Val w ∷ Val v ∷ []) (suc here.1) (Val (mended_of_two op2.Less v w) ∷ []) st st r here.4 (less_as here.1 v w [] st)
      (parts_reaches fine (mended_of_two op2.Less v w) (suc here.1) target to st r here.5.0 here.5.1 rest)))

  -- past the end control goes to the target
  over_reaches : {A : Type 0} (fine : A → State → Option Step) (past : Bool) (at exit to : ℕ) (st : State) (r : Evaluated A) → Has code at (instr.Jump exit)
      → Onward fine (if not past then to else exit) [] st r → Onward fine (if past then at else to) [] st r
  over_reaches fine true at exit to st r has rest = onward fine (instr.Jump exit) at [] exit [] st st r has refl rest
  over_reaches fine false at exit to st r has rest = rest

  bounds_by : {A : Type 0} (fine : A → State → Option Step) (negative : Bool) (place down below above exit to : ℕ) (st : State) (r : Evaluated A) → LessAt code (suc (suc place)) place down to below
      → Has code below (instr.Jump exit) → LessAt code place (suc (suc place)) (suc below) to above → Has code above (instr.Jump exit) → suc above ≡ to
      → Onward fine (if not (if negative then compares op2.Less (held_at (suc (suc place)) st) (held_at place st) else compares op2.Less (held_at place st) (held_at (suc (suc place)) st)) then to else exit) [] st r
      → Onward fine (if negative then down else suc below) [] st r
  bounds_by fine true place down below above exit to st r less has greater jump same rest =
      less_reaches fine (suc (suc place)) place down to below st r less (over_reaches fine (compares op2.Less (held_at (suc (suc place)) st) (held_at place st)) below exit to st r has rest)
  bounds_by fine false place down below above exit to st r less has greater jump same rest =
      less_reaches fine place (suc (suc place)) (suc below) to above st r greater (over_reaches fine (compares op2.Less (held_at place st) (held_at (suc (suc place)) st)) above exit to st r jump rest)

  pub bounds_reaches : {A : Type 0} (fine : A → State → Option Step) (place from exit to : ℕ) (st : State) (r : Evaluated A) → BoundsAt code place from exit to
      → Onward fine (if not (is_over place st) then to else exit) [] st r → Onward fine from [] st r
  bounds_reaches fine place from exit to st r here rest =
      negative_reaches fine (suc place) from (suc here.1) here.0 st r here.3
      (bounds_by fine (compares op2.Less (held_at (suc place) st) (value.Int (pos 0))) place here.0 here.1 here.2 exit to st r here.4 here.5 here.6 here.7.0 here.7.1 rest)

  -- NEXT
  counted_reaches : {A : Type 0} (fine : A → State → Option Step) (past : Bool) (first next : ℤ) (place from begins last exit to : ℕ) (stack : List Operand) (st : State) (r : Evaluated A)
      → Has code (suc from) (instr.Op1 (choice.Known op1.Integer)) → KeepsAt code (suc (suc (suc place))) (suc (suc from)) begins → KeepsAt code (suc (suc place)) begins last
      → CaseAt code (suc (suc (suc place))) 1 last exit to
      → Onward fine (if is_number (held_at (suc (suc (suc place))) (next_kept place past first next st)) 1 then to else exit) [] (next_kept place past first next st) r
      → Reaches (setting code begin h) n fine (counted_on past first next [] (core_at from stack [] n st)) st.left r
  counted_reaches fine true first next place from begins last exit to stack st r has bit kept case rest =
      onward fine (instr.Op1 (choice.Known op1.Integer)) (suc from) (Val (value.Bits 1 0) ∷ Val (value.Int first) ∷ []) (suc (suc from)) (Val (value.Int (pos 0)) ∷ Val (value.Int first) ∷ []) st st r has refl
      (keeps_reaches fine (suc (suc (suc place))) (value.Int (pos 0)) (suc (suc from)) begins (Val (value.Int first) ∷ []) st r bit
      (keeps_reaches fine (suc (suc place)) (value.Int first) begins last [] (kept_at (suc (suc (suc place))) (value.Int (pos 0)) st) r kept
      (case_reaches fine (suc (suc (suc place))) 1 last exit to (next_kept place true first next st) r case rest)))
  counted_reaches fine false first next place from begins last exit to stack st r has bit kept case rest =
      onward fine (instr.Op1 (choice.Known op1.Integer)) (suc from) (Val (value.Bits 1 1) ∷ Val (value.Int next) ∷ []) (suc (suc from)) (Val (value.Int (pos 1)) ∷ Val (value.Int next) ∷ []) st st r has refl
      (keeps_reaches fine (suc (suc (suc place))) (value.Int (pos 1)) (suc (suc from)) begins (Val (value.Int next) ∷ []) st r bit
      (keeps_reaches fine (suc (suc place)) (value.Int next) begins last [] (kept_at (suc (suc (suc place))) (value.Int (pos 1)) st) r kept
      (case_reaches fine (suc (suc (suc place))) 1 last exit to (next_kept place false first next st) r case rest)))

  pub next_reaches : {A : Type 0} (fine : A → State → Option Step) (place : ℕ) (v : Value) (from exit to : ℕ) (st : State) (r : Evaluated A) → NextAt code place from exit to
      → Onward fine
      (if is_number (held_at (suc (suc (suc place))) (counted place (integer_of v) (integer_of (held_at (suc place) st)) (integer_of (held_at place st)) st)) 1 then to else exit) []
      (counted place (integer_of v) (integer_of (held_at (suc place) st)) (integer_of (held_at place st)) st) r
      → Onward fine from (Val v ∷ []) st r
  next_reaches fine place v from exit to st r here rest =
      let by = held_at (suc place) st in let last = held_at place st in
      holds_reaches fine (suc place) from here.0 (Val v ∷ []) st r here.4
      (holds_reaches fine place here.0 here.1 (Val by ∷ Val v ∷ []) st r here.5
      (acts (setting code begin h) n fine (core_at here.1 (Val last ∷ Val by ∷ Val v ∷ []) [] n st) st.left instr.Next r here.6
      (counted_reaches fine (is_past (integer_of by) (integer_of last) (integer_of v +ℤ integer_of by)) (integer_of v) (integer_of v +ℤ integer_of by) place here.1 here.2 here.3 exit to
      (Val last ∷ Val by ∷ Val v ∷ []) st r here.7 here.8 here.9 here.10 rest)))
