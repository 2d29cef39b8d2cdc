-- Instructions that compute values fit.
use Rattle.std.specs.Prelude.{ℕ, suc, ◌≡◌, Bool, true, false, List, [], ◌∷◌, ℤ, ◌+ℤ◌, Option, Some, None, slice_get, Result, Ok, Err}
use Rattle.std.specs.Option.{option_map}
use Rattle.std.proofs.Common.{sym, ap, subst, ◌∙◌}
use Rattle.std.proofs.lemmas.Option.{slice_get-map}
use Rattle.hal_values.specs.declared.environment.ErrNo.{ErrNo}
use Rattle.hal_values.specs.declared.value.Value.{Value}
use Rattle.hal_values.specs.declared.value.Value.TheVariants as value
use Rattle.hal_operations.specs.declared.operation.Op1.{Op1}
use Rattle.hal_operations.specs.declared.operation.Op2.{Op2}
use Rattle.hal_operations.specs.Values.{value_of_one, value_of_two}
use Rattle.hal_operations.specs.Mended.{mended_of_one, mended_of_two}
use Rattle.hal_states.specs.Numbers.{is_past}
use Rattle.hal_code.specs.declared.choice.Choice.{Choice}
use Rattle.hal_code.specs.declared.choice.Choice.TheVariants as choice
use Rattle.hal_code.specs.Cores.{Operand, Val, At, Area, Setting, Core, going}
use Rattle.hal_code.specs.Addressing.{pushed}
use Rattle.hal_code.specs.Computing.{tested, act_dup, act_drop, act_one, act_two, counted_places, act_len, counted_on, act_next}
use Rattle.hal_code.specs.Sorts.{Sort, I, B, A, R, one_gives, two_give}
use Rattle.hal_code.specs.Effects.{Sorts, giving, integers_taken, is_value, has_places, value_taken, doubled_sorts, one_sorts, two_sorts, length_sorts, next_sorts}
use Rattle.hal_sound_code.specs.Lying.{sort_of_value, sort_of_operand, sorts_of, AllLead}
use Rattle.hal_sound_code.proofs.Stepping.{Well, Typed, moves}
use Rattle.hal_sound_code.proofs.Raising.{Typed-raised}
use Rattle.hal_sound_code.proofs.Taking.{some_is, if_taken, giving_taken, one_gives_of, two_give_of, Top, top_of, next_taken}
use Rattle.hal_sound_code.proofs.Values.{Gives, one_sort, two_sort}

-- behind the instruction the core fits with each stack of these sorts
abbrev pub Onward : Setting → ℕ → Core → Sorts → Type 0
Onward s most c after = (stack : List Operand) → AllLead s stack → sorts_of stack ≡ after → Well s most (going (suc c.at) stack c)

module _ (s : Setting) (most : ℕ) where
  pub Typed-pushed : (v : Value) (stack : List Operand) (c : Core) (after : Sorts) → Onward s most c after → AllLead s stack → (sort_of_value v ∷ sorts_of stack) ≡ after → Typed s most (pushed v stack c)
  Typed-pushed v stack c after on lead e = moves s most _ (on (Val v ∷ stack) (tt, lead) e)

  pub Typed-tested : (r : Result Value ErrNo) (mended : Value) (one : Sort) (stack : List Operand) (c : Core) (after : Sorts) → Onward s most c after → AllLead s stack → Gives r mended one → (one ∷ sorts_of stack) ≡ after
      → Typed s most (tested s r mended stack c)
  Typed-tested (Ok v) mended one stack c after on lead g e = Typed-pushed v stack c after on lead (ap (λ x. x ∷ sorts_of stack) g.gives ∙ e)
  Typed-tested (Err wrong) mended one stack c after on lead g e = Typed-raised s most wrong (going (suc c.at) (Val mended ∷ stack) c) g.errs (on (Val mended ∷ stack) (tt, lead) (ap (λ x. x ∷ sorts_of stack) g.stands ∙ e))

  pub Typed-dup : (stack : List Operand) (c : Core) (after : Sorts) → Onward s most c after → AllLead s stack → doubled_sorts (sorts_of stack) ≡ Some after → Typed s most (act_dup stack c)
  Typed-dup [] c after on lead e = absurd (cc)
  Typed-dup (Val v ∷ stack) c after on lead e = Typed-pushed v (Val v ∷ stack) c after on lead (if_taken (is_value (sort_of_value v)) (sort_of_value v ∷ sort_of_value v ∷ sorts_of stack) after e).1
  Typed-dup (At at k ∷ stack) c after on lead e = absurd (cc)
  Typed-dup (Area at shape ∷ stack) c after on lead e = absurd (cc)

  pub Typed-drop : (stack : List Operand) (c : Core) (after : Sorts) → Onward s most c after → AllLead s stack → value_taken (sorts_of stack) ≡ Some after → Typed s most (act_drop stack c)
  Typed-drop [] c after on lead e = absurd (cc)
  Typed-drop (Val v ∷ stack) c after on lead e = moves s most _ (on stack lead.1 (if_taken (is_value (sort_of_value v)) (sorts_of stack) after e).1)
  Typed-drop (At at k ∷ stack) c after on lead e = absurd (cc)
  Typed-drop (Area at shape ∷ stack) c after on lead e = absurd (cc)

  no_one : (op : Op1) (taken : Sort) (stack after : Sorts) → giving (one_gives op taken) stack ≡ Some after → is_value taken ≡ true
  no_one op taken stack after e = one_gives_of op taken (giving_taken (one_gives op taken) stack after e).0 (giving_taken (one_gives op taken) stack after e).1

  pub Typed-one : (op : Choice Op1) (stack : List Operand) (c : Core) (after : Sorts) → Onward s most c after → AllLead s stack → one_sorts op (sorts_of stack) ≡ Some after → Typed s most (act_one s op stack c)
  Typed-one (choice.Known op) [] c after on lead e = absurd (cc)
  Typed-one (choice.Known op) (Val v ∷ stack) c after on lead e = given (giving_taken (one_gives op (sort_of_value v)) (sorts_of stack) after e)
    where
      given : (one : Sort) × (one_gives op (sort_of_value v) ≡ Some one) × ((one ∷ sorts_of stack) ≡ after) → Typed s most (act_one s (choice.Known op) (Val v ∷ stack) c)
      given known = Typed-tested (value_of_one op v) (mended_of_one op v) known.0 stack c after on lead.1 (one_sort op v known.0 known.1) known.2
  Typed-one (choice.Known op) (At at k ∷ stack) c after on lead e = absurd (let no : false ≡ true = no_one op (A k) (sorts_of stack) after e in cc)
  Typed-one (choice.Known op) (Area at shape ∷ stack) c after on lead e = absurd (let no : false ≡ true = no_one op (R shape) (sorts_of stack) after e in cc)
  Typed-one (choice.Other byte) stack c after on lead e = absurd (cc)

  no_two : (op : Op2) (left right : Sort) (stack after : Sorts) → giving (two_give op left right) stack ≡ Some after → (is_value left ≡ true) × (is_value right ≡ true)
  no_two op left right stack after e = two_give_of op left right (giving_taken (two_give op left right) stack after e).0 (giving_taken (two_give op left right) stack after e).1

  pub Typed-two : (op : Choice Op2) (stack : List Operand) (c : Core) (after : Sorts) → Onward s most c after → AllLead s stack → two_sorts op (sorts_of stack) ≡ Some after → Typed s most (act_two s op stack c)
  Typed-two (choice.Known op) [] c after on lead e = absurd (cc)
  Typed-two (choice.Known op) (one ∷ []) c after on lead e = absurd (cc)
  Typed-two (choice.Known op) (Val w ∷ Val v ∷ stack) c after on lead e = given (giving_taken (two_give op (sort_of_value v) (sort_of_value w)) (sorts_of stack) after e)
    where
      given : (one : Sort) × (two_give op (sort_of_value v) (sort_of_value w) ≡ Some one) × ((one ∷ sorts_of stack) ≡ after) → Typed s most (act_two s (choice.Known op) (Val w ∷ Val v ∷ stack) c)
      given known = Typed-tested (value_of_two op v w) (mended_of_two op v w) known.0 stack c after on lead.1.1 (two_sort op v w known.0 known.1) known.2
  Typed-two (choice.Known op) (Val w ∷ At at k ∷ stack) c after on lead e = absurd (let no : false ≡ true = (no_two op (A k) (sort_of_value w) (sorts_of stack) after e).0 in cc)
  Typed-two (choice.Known op) (Val w ∷ Area at shape ∷ stack) c after on lead e = absurd (let no : false ≡ true = (no_two op (R shape) (sort_of_value w) (sorts_of stack) after e).0 in cc)
  Typed-two (choice.Known op) (At at k ∷ one ∷ stack) c after on lead e = absurd (let no : false ≡ true = (no_two op (sort_of_operand one) (A k) (sorts_of stack) after e).1 in cc)
  Typed-two (choice.Known op) (Area at shape ∷ one ∷ stack) c after on lead e = absurd (let no : false ≡ true = (no_two op (sort_of_operand one) (R shape) (sorts_of stack) after e).1 in cc)
  Typed-two (choice.Other byte) stack c after on lead e = absurd (cc)

  Typed-counted : (o : Option Operand) (c : Core) (after : Sorts) → Onward s most c after → AllLead s c.stack → length_sorts (option_map sort_of_operand o) (sorts_of c.stack) ≡ Some after → Typed s most (counted_places o c)
  Typed-counted None c after on lead e = absurd (cc)
  Typed-counted (Some (Val v)) c after on lead e = Typed-pushed _ c.stack c after on lead (if_taken (has_places (sort_of_value v)) (I ∷ sorts_of c.stack) after e).1
  Typed-counted (Some (At at k)) c after on lead e = absurd (cc)
  Typed-counted (Some (Area at shape)) c after on lead e = absurd (cc)

  pub Typed-len : (depth : ℕ) (c : Core) (after : Sorts) → Onward s most c after → AllLead s c.stack → length_sorts (slice_get (sorts_of c.stack) depth) (sorts_of c.stack) ≡ Some after → Typed s most (act_len depth c)
  Typed-len depth c after on lead e =
      Typed-counted (slice_get c.stack depth) c after on lead (subst (λ o. length_sorts o (sorts_of c.stack) ≡ Some after) (slice_get-map sort_of_operand c.stack depth) e)

  counted_typed : (b : Bool) (before after_it : ℤ) (stack : List Operand) (c : Core) (after : Sorts) → Onward s most c after → AllLead s stack → (B ∷ I ∷ sorts_of stack) ≡ after → Typed s most (counted_on b before after_it stack c)
  counted_typed true before after_it stack c after on lead e = Typed-pushed (value.Bits 1 0) (Val (value.Int before) ∷ stack) c after on (tt, lead) e
  counted_typed false before after_it stack c after on lead e = Typed-pushed (value.Bits 1 1) (Val (value.Int after_it) ∷ stack) c after on (tt, lead) e

  next_typed : (a b d : ℤ) (stack : List Operand) (c : Core) (after : Sorts) → Onward s most c after → AllLead s stack → (B ∷ I ∷ sorts_of stack) ≡ after → Typed s most (act_next (Val (value.Int a) ∷ Val (value.Int b) ∷ Val (value.Int d) ∷ stack) c)
  next_typed last step before stack c after on lead e = counted_typed (is_past step last (before +ℤ step)) before (before +ℤ step) stack c after on lead e

  pub Typed-next : (stack : List Operand) (c : Core) (after : Sorts) → Onward s most c after → AllLead s stack → next_sorts (sorts_of stack) ≡ Some after → Typed s most (act_next stack c)
  Typed-next stack c after on lead e = of_ints (next_taken (sorts_of stack) after e)
    where
      of_ints : (left : Sorts) × (integers_taken 3 (sorts_of stack) ≡ Some left) × ((B ∷ I ∷ left) ≡ after) → Typed s most (act_next stack c)
      of_ints known = first (top_of s stack 2 known.0 lead known.1)
        where
          third : (one : Top s stack 2 known.0) (two : Top s one.rest 1 known.0) → Top s two.rest 0 known.0 → Typed s most (act_next stack c)
          third one two three =
              subst (λ st. Typed s most (act_next st c)) (sym (one.is ∙ ap (λ st. Val (value.Int one.int) ∷ st) (two.is ∙ ap (λ st. Val (value.Int two.int) ∷ st) three.is)))
              (next_typed one.int two.int three.int three.rest c after on three.lead (ap (λ st. B ∷ I ∷ st) (some_is (sorts_of three.rest) known.0 three.taken) ∙ known.2))

          second : (one : Top s stack 2 known.0) → Top s one.rest 1 known.0 → Typed s most (act_next stack c)
          second one two = third one two (top_of s two.rest 0 known.0 two.lead two.taken)

          first : Top s stack 2 known.0 → Typed s most (act_next stack c)
          first one = second one (top_of s one.rest 1 known.0 one.lead one.taken)
