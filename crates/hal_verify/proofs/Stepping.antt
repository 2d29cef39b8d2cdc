-- Rows of tables one by one.
use Rattle.std.specs.Prelude.{◌≡◌, ℕ, ◌+◌, ◌-◌, ◌<◌, ◌≤◌, nat_le, nat_lt, length, Bool, true, false, ◌&&◌, List, ◌∷◌, drop, Option, Some, None, if◌then◌else◌}
use Rattle.std.proofs.Common.{refl, ap, sym, ◌∙◌, arith, add-one, get_or}
use Rattle.hal_values.specs.declared.tables.Item.{Item}
use Rattle.hal_values.specs.declared.tables.Item.TheVariants as item
use Rattle.hal_code.specs.declared.image.ImageParts.{ImageParts}
use Rattle.hal_code.specs.declared.row.Process.{Process}
use Rattle.hal_code.specs.Right.{process_right, processes_right, postfix_right}
use Rattle.hal_verify.specs.Stepping.{postfix_next}
use Rattle.hal_verify.proofs.Walking.{one_and_rest}

by_process : (image : ImageParts) (n : ℕ) (one : Process) (all : List Process) → n < length all → one ≡ get_or all n one
    → processes_right image n (drop n all) ≡ (process_right image n one && processes_right image (n + 1) (drop (n + 1) all))
by_process image n one all within is =
    ap (λ list. processes_right image n list) (one_and_rest all n one within is)
    ∙ ap (λ m. process_right image n one && processes_right image m (drop (n + 1) all)) (sym (add-one n))

pub right_process : (image : ImageParts) (n : ℕ) (one : Process) (all : List Process) → n < length all → one ≡ get_or all n one → process_right image n one ≡ true
    → processes_right image n (drop n all) ≡ processes_right image (n + 1) (drop (n + 1) all)
right_process image n one all within is right = by_process image n one all within is ∙ ap (λ b. b && processes_right image (n + 1) (drop (n + 1) all)) right

pub wrong_process : (image : ImageParts) (n : ℕ) (one : Process) (all : List Process) → n < length all → one ≡ get_or all n one → process_right image n one ≡ false
    → processes_right image n (drop n all) ≡ false
wrong_process image n one all within is wrong = by_process image n one all within is ∙ ap (λ b. b && processes_right image (n + 1) (drop (n + 1) all)) wrong

-- items of event expressions
abbrev goes_on : ℕ → List Item → Option ℕ → Bool
goes_on events items found = elim found [ None ↦ false | Some after ↦ postfix_right events after items ]

and_if : (b : Bool) (events n : ℕ) (items : List Item) → (b && postfix_right events n items) ≡ goes_on events items (if b then Some n else None)
and_if true events n items = refl
and_if false events n items = refl

by_item : (events operands : ℕ) (one : Item) (items : List Item) → postfix_right events operands (one ∷ items) ≡ goes_on events items (postfix_next events operands one)
by_item events operands (item.Event e) items = and_if (nat_lt e events) events (operands + 1) items
by_item events operands item.Not items = and_if (nat_le 1 operands) events operands items
by_item events operands item.And items = and_if (nat_le 2 operands) events (operands - 1) items
by_item events operands item.Or items = and_if (nat_le 2 operands) events (operands - 1) items

pub next_item : (events operands after : ℕ) (one : Item) (items : List Item) → postfix_next events operands one ≡ Some after → postfix_right events operands (one ∷ items) ≡ postfix_right events after items
next_item events operands after one items is = by_item events operands one items ∙ ap (goes_on events items) is

pub no_item : (events operands : ℕ) (one : Item) (items : List Item) → postfix_next events operands one ≡ None → postfix_right events operands (one ∷ items) ≡ false
no_item events operands one items is = by_item events operands one items ∙ ap (goes_on events items) is

some_same : (b : Bool) (n m : ℕ) → (if b then Some n else None) ≡ Some m → n ≡ m
some_same true n m is = cc
some_same false n m is = absurd (cc)

-- each item adds at most one operand
pub few_operands : (events operands after : ℕ) (one : Item) → postfix_next events operands one ≡ Some after → after ≤ operands + 1
few_operands events operands after (item.Event e) is = omega (arith, some_same (nat_lt e events) (operands + 1) after is)
few_operands events operands after item.Not is = omega (arith, some_same (nat_le 1 operands) operands after is)
few_operands events operands after item.And is = omega (arith, some_same (nat_le 2 operands) (operands - 1) after is)
few_operands events operands after item.Or is = omega (arith, some_same (nat_le 2 operands) (operands - 1) after is)
