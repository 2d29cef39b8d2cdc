-- Instructions that say where control goes on fit.
use Rattle.std.specs.Prelude.{ℕ, suc, ◌<◌, ◌≤◌, ◌==◌, ◌≡◌, ◌⊎◌, nat_lt, Bool, true, false, not, ◌&&◌, ◌||◌, List, [], ◌∷◌, pos, Option, Some, None, slice_get, if◌then◌else◌}
use Rattle.std.proofs.Common.{refl, sym, ap, subst, ◌∙◌, inl, inr, arith}
use Rattle.std.proofs.lemmas.Bool.{eqb-true, ltb-true, and_parts}
use Rattle.hal_values.specs.declared.environment.Entry.{Entry}
use Rattle.hal_values.specs.declared.value.Value.{Value}
use Rattle.hal_values.specs.declared.value.Value.TheVariants as value
use Rattle.hal_values.specs.Answers.{error}
use Rattle.hal_values.specs.Searching.{same_selector, without}
use Rattle.hal_values.specs.declared.environment.Selector.{Selector}
use Rattle.hal_states.specs.Numbers.{holds}
use Rattle.hal_code.specs.declared.choice.Choice.{Choice}
use Rattle.hal_code.specs.declared.choice.Choice.TheVariants as choice
use Rattle.hal_code.specs.declared.instr.Instr.{Instr}
use Rattle.hal_code.specs.declared.row.Block.{Block}
use Rattle.hal_code.specs.declared.row.ResultKind.{ResultKind}
use Rattle.hal_code.specs.declared.row.ResultKind.TheVariants as result
use Rattle.hal_code.specs.Blocks.{is_common}
use Rattle.hal_code.specs.Controlling.{act_jump_not, act_turn, zero_of, with_result, calling, called, act_call, returned}
use Rattle.hal_code.specs.Cores.{Operand, Val, At, Area, Return, Frame, Setting, Core, core, going, Moves}
use Rattle.hal_code.specs.Effects.{Sorts, is_value, bits_taken, called_sorts, same_value, result_taken, returned_sorts}
use Rattle.hal_code.specs.Flow.{is_empty, is_entry, behind_bits}
use Rattle.hal_code.specs.Operands.{holds_of, may_call}
use Rattle.hal_code.specs.Raising.{stuck}
use Rattle.hal_code.specs.Sorts.{Sort, I, B, T, A, R, sort_of_result}
use Rattle.hal_sound_code.specs.Lying.{sort_of_value, sorts_of, AllLead}
use Rattle.hal_sound_code.specs.Standing.{Stands, AllEnter, AreBelow}
use Rattle.hal_sound_code.specs.Typed.{IsKept}
use Rattle.hal_sound_code.proofs.Computing.{Onward}
use Rattle.hal_sound_code.proofs.Selecting.{none_in_without}
use Rattle.hal_sound_code.proofs.Points.{flow, Faces, entry_stands}
use Rattle.hal_sound_code.proofs.Raising.{Typed-turned, Typed-raised}
use Rattle.hal_sound_code.proofs.Rights.{Whole}
use Rattle.hal_sound_code.proofs.Rows.{begins}
use Rattle.hal_sound_code.proofs.Stepping.{Well, Typed, moves}
use Rattle.hal_sound_code.proofs.Taking.{some_is, if_taken}

empty_is : (stack : List Operand) → is_empty (sorts_of stack) ≡ true → stack ≡ []
empty_is [] e = refl
empty_is (one ∷ stack) e = absurd (cc)

pub of_option : {T : Type 0} (test : T → Bool) (o : Option T) → holds_of test o ≡ true → (one : T) × (o ≡ Some one) × (test one ≡ true)
of_option test None e = absurd (cc)
of_option test (Some one) e = (one, refl, e)

or_cases : (a b : Bool) → (a || b) ≡ true → (a ≡ true) ⊎ (b ≡ true)
or_cases true b e = inl refl
or_cases false b e = inr e

-- what a block may call is the process's own, too
own_of : (one block p : ℕ) → ((one == 255) || (one == block)) ≡ true → ((block == 255) || (block == p)) ≡ true → ((one == 255) || (one == p)) ≡ true
own_of one block p e own = choose (or_cases (one == 255) (one == block) e)
  where
    first : (a b : Bool) → a ≡ true → (a || b) ≡ true
    first true b h = refl
    first false b h = absurd (cc)

    choose : ((one == 255) ≡ true) ⊎ ((one == block) ≡ true) → ((one == 255) || (one == p)) ≡ true
    choose (inl h) = first (one == 255) (one == p) h
    choose (inr h) = subst (λ n. ((n == 255) || (n == p)) ≡ true) (sym (eqb-true one block h)) own

same_value_is : (a b : Sort) → same_value a b ≡ true → (a ≡ b) × (is_value b ≡ true)
same_value_is I I e = (refl, refl)
same_value_is B B e = (refl, refl)
same_value_is T T e = (refl, refl)
same_value_is a b e = absurd (cc)

-- the result of a block lies on top
record Given (one : Sort) (stack : List Operand) : Type 0 where
  given : Value
  rest : List Operand
  is : stack ≡ (Val given ∷ rest)
  sort : sort_of_value given ≡ one

given_of : (one : Sort) (stack : List Operand) (after : Sorts) → result_taken (Some one) (sorts_of stack) ≡ Some after → Given one stack
given_of one [] after e = absurd (cc)
given_of one (Val v ∷ stack) after e = record { given = v; rest = stack; is = refl; sort = sym (same_value_is one (sort_of_value v) (if_taken (same_value one (sort_of_value v)) (sorts_of stack) after e).0).0 }
given_of one (At at k ∷ stack) after e = absurd (let no : false ≡ true = (same_value_is one (A k) (if_taken (same_value one (A k)) (sorts_of stack) after e).0).1 in cc)
given_of one (Area at shape ∷ stack) after e = absurd (let no : false ≡ true = (same_value_is one (R shape) (if_taken (same_value one (R shape)) (sorts_of stack) after e).0).1 in cc)

-- what a block gives where it gives no value of its own
result_sorts : (s : Setting) (r : Choice ResultKind) (stack : List Operand) (after : Sorts)
    → ◌≡◌ {A = Option Sorts} (elim r [
      | choice.Known kind ↦ elim (sort_of_result kind) [ None ↦ Some (sorts_of stack) | Some one ↦ Some (one ∷ sorts_of stack) ]
      | choice.Other byte ↦ None
    ]) (Some after) → AllLead s stack → (sorts_of (with_result (zero_of r) stack) ≡ after) × AllLead s (with_result (zero_of r) stack)
result_sorts s (choice.Known result.Nothing) stack after e lead = (some_is (sorts_of stack) after e, lead)
result_sorts s (choice.Known result.Integer) stack after e lead = (some_is (I ∷ sorts_of stack) after e, (tt, lead))
result_sorts s (choice.Known result.Bits) stack after e lead = (some_is (B ∷ sorts_of stack) after e, (tt, lead))
result_sorts s (choice.Known result.Text) stack after e lead = (some_is (T ∷ sorts_of stack) after e, (tt, lead))
result_sorts s (choice.Other byte) stack after e lead = absurd (cc)

-- entries that are left
pub without_enter : (s : Setting) (number : ℕ) (inside : Bool) (sel : Selector) (es : List Entry) → AllEnter s number inside es → AllEnter s number inside (without sel es)
without_enter s number inside sel [] enter = tt
without_enter s number inside sel (e ∷ es) enter = kept_or_not (without_enter s number inside sel es enter.1) (not (same_selector sel e.selector))
  where
    kept_or_not : AllEnter s number inside (without sel es) → (b : Bool) → AllEnter s number inside (if b then e ∷ without sel es else without sel es)
    kept_or_not others true = (enter.0, others, enter.2, none_in_without sel e.selector es enter.3)
    kept_or_not others false = others

module _ (s : Setting) (most : ℕ) where
  -- a core that goes on elsewhere in its block
  pub well_at : (c : Core) (well : Well s most c) (at : ℕ) (stack : List Operand) → Stands s well.typed.number well.typed.inside at (sorts_of stack) → AllLead s stack → Well s most (going at stack c)
  well_at c well at stack stands lead = record {
    typed = record { number = well.typed.number; inside = well.typed.inside; stands = stands; lead = lead; enter = well.typed.enter; below = well.typed.below; kept = well.typed.kept };
    few = well.few;
  }

  pub on_of : (c : Core) (well : Well s most c) (after : Sorts) → Stands s well.typed.number well.typed.inside (suc c.at) after → Onward s most c after
  on_of c well after stands stack lead is = well_at c well (suc c.at) stack (subst (λ sorts. Stands s well.typed.number well.typed.inside (suc c.at) sorts) (sym is) stands) lead

  module _ (c : Core) (well : Well s most c) (i : Instr) (f : Faces s well.typed.number well.typed.inside c.at (sorts_of c.stack) i) where
    -- where the instruction jumps to
    pub jump_well : (stack : List Operand) (target : ℕ) (more : Bool) → AllLead s stack → (is_empty (sorts_of stack) && (is_entry (flow s well.typed.number f.block) f.place target && more)) ≡ true → Well s most (going target stack c)
    jump_well stack target more lead e =
        well_at c well target stack (subst (λ st. Stands s well.typed.number well.typed.inside target (sorts_of st)) (sym (empty_is stack (and_parts _ _ e).0))
        (entry_stands s well.typed.number well.typed.inside c.at (sorts_of c.stack) i f target (and_parts (is_entry (flow s well.typed.number f.block) f.place target) more (and_parts (is_empty (sorts_of stack)) _ e).1).0)) lead

    Typed-either : (b : Bool) (target : ℕ) (stack : List Operand) (more : Bool) (after : Sorts) → Onward s most c after → AllLead s stack → sorts_of stack ≡ after
        → (is_empty (sorts_of stack) && (is_entry (flow s well.typed.number f.block) f.place target && more)) ≡ true → Typed s most (Moves (going (if b then suc c.at else target) stack c))
    Typed-either true target stack more after on lead is e = moves s most _ (on stack lead is)
    Typed-either false target stack more after on lead is e = moves s most _ (jump_well stack target more lead e)

    pub Typed-jump_not : (target : ℕ) (stack : List Operand) (more : Bool) (after : Sorts) → Onward s most c after → AllLead s stack → bits_taken (sorts_of stack) ≡ Some after
        → (is_empty (behind_bits (sorts_of stack)) && (is_entry (flow s well.typed.number f.block) f.place target && more)) ≡ true → Typed s most (act_jump_not target stack c)
    Typed-jump_not target [] more after on lead is e = absurd (cc)
    Typed-jump_not target (Val (value.Bits len word) ∷ stack) more after on lead is e = Typed-either (holds (value.Bits len word)) target stack more after on lead.1 (some_is (sorts_of stack) after is) e
    Typed-jump_not target (Val (value.Int a) ∷ stack) more after on lead is e = absurd (cc)
    Typed-jump_not target (Val (value.Text text) ∷ stack) more after on lead is e = absurd (cc)
    Typed-jump_not target (At at k ∷ stack) more after on lead is e = absurd (cc)
    Typed-jump_not target (Area at shape ∷ stack) more after on lead is e = absurd (cc)

    pub Typed-turn : (target : ℕ) (more : Bool) (after : Sorts) → Onward s most c after → sorts_of c.stack ≡ after → (is_empty (sorts_of c.stack) && (is_entry (flow s well.typed.number f.block) f.place target && more)) ≡ true
        → Typed s most (act_turn s target c)
    Typed-turn target more after on is e =
        Typed-turned s most _ (going (suc c.at) c.stack c) (on c.stack well.typed.lead is) (λ spent. Typed-raised s most (error 1 8) (going target c.stack c) (omega arith) (jump_well c.stack target more well.typed.lead e))

    -- a call
    Typed-called : Whole s.image → (callee : ℕ) (block : Block) (after : Sorts) → slice_get s.image.blocks callee ≡ Some block → callee < well.typed.number → (is_common block || (block.process == s.process)) ≡ true
        → Stands s well.typed.number well.typed.inside (suc c.at) after → called_sorts (Some block) (sorts_of c.stack) ≡ Some after → Typed s most (called s block c)
    Typed-called all callee block after row less own stands e = of_sorts (result_sorts s block.result c.stack after e well.typed.lead)
      where
        of_sorts : (sorts_of (with_result (zero_of block.result) c.stack) ≡ after) × AllLead s (with_result (zero_of block.result) c.stack) → Typed s most (called s block c)
        of_sorts known =
            Typed-turned s most _ (core block.first [] [] [] (calling (zero_of block.result) c ∷ c.frames) c.kept c.mode) (record {
              typed = record {
                number = callee;
                inside = false;
                stands = begins s all callee block row own;
                lead = tt;
                enter = tt;
                below = (
                  refl,
                  record {
                    caller = well.typed.number;
                    within = well.typed.inside;
                    smaller = less;
                    stands = subst (λ sorts. Stands s well.typed.number well.typed.inside (suc c.at) sorts) (sym known.0) stands;
                    lead = well.typed.lead;
                    result = λ other there. ap (λ (b : Block). zero_of b.result) (some_is block other (sym row ∙ there));
                    enter = well.typed.enter;
                    below = well.typed.below;
                  },
                );
                kept = well.typed.kept;
              };
              few = well.few;
            }) (λ spent. Typed-raised s most (error 1 8) _ (omega arith) (on_of c well after stands (with_result (zero_of block.result) c.stack) known.1 known.0))

    pub Typed-call : Whole s.image → (callee : ℕ) (after : Sorts) → may_call s.image f.block well.typed.number callee ≡ true → Stands s well.typed.number well.typed.inside (suc c.at) after
        → called_sorts (slice_get s.image.blocks callee) (sorts_of c.stack) ≡ Some after → Typed s most (act_call s callee c)
    Typed-call all callee after may stands e = of_block (of_option (λ (one : Block). is_common one || (one.process == f.block.process)) (slice_get s.image.blocks callee) (and_parts (nat_lt callee well.typed.number) _ may).1)
      where
        of_block : (one : Block) × (slice_get s.image.blocks callee ≡ Some one) × ((is_common one || (one.process == f.block.process)) ≡ true) → Typed s most (act_call s callee c)
        of_block known =
            subst (λ o. Typed s most (elim o [ None ↦ stuck c | Some block ↦ called s block c ])) (sym known.1)
            (Typed-called all callee known.0 after known.1 (ltb-true callee well.typed.number (and_parts (nat_lt callee well.typed.number) _ may).0) (own_of known.0.process f.block.process s.process known.2 f.own) stands
            (ap (λ o. called_sorts o (sorts_of c.stack)) (sym known.1) ∙ e))

  -- control goes back
  module _ (c : Core) (is : IsKept s c) (few : c.mode.turns ≤ most) (caller : ℕ) (within : Bool) (back : Return) (entries : List Entry) (fs : List Frame) where
    goes_back : (stack : List Operand) → Stands s caller within back.at (sorts_of stack) → AllLead s stack → AllEnter s caller within entries → AreBelow s caller within fs → Typed s most (Moves (core back.at stack back.line entries fs c.kept c.mode))
    goes_back stack stands lead enter below = moves s most _ (record { typed = record { number = caller; inside = within; stands = stands; lead = lead; enter = enter; below = below; kept = is }; few = few })

    returned_value : (one : Sort) (nothing_of : Value) (wanted : Option Value) (stack : List Operand) → wanted ≡ Some nothing_of → sort_of_value nothing_of ≡ one → Given one stack → Stands s caller within back.at (sorts_of (with_result wanted back.stack)) → AllLead s back.stack
        → AllEnter s caller within entries → AreBelow s caller within fs → Typed s most (returned wanted stack back entries fs c)
    returned_value one nothing_of wanted stack e sort g stands lead enter below =
        subst (λ o. Typed s most (returned o stack back entries fs c)) (sym e) (subst (λ st. Typed s most (returned (Some nothing_of) st back entries fs c)) (sym g.is)
        (goes_back (Val g.given ∷ back.stack) (subst (λ x. Stands s caller within back.at (x ∷ sorts_of back.stack)) (sort ∙ sym g.sort) (subst (λ o. Stands s caller within back.at (sorts_of (with_result o back.stack))) e stands)) (tt, lead) enter below))

    pub Typed-returned : (r : Choice ResultKind) (wanted : Option Value) (stack : List Operand) (after : Sorts) → wanted ≡ zero_of r → returned_sorts r (sorts_of stack) ≡ Some after → Stands s caller within back.at (sorts_of (with_result wanted back.stack))
        → AllLead s back.stack → AllEnter s caller within entries → AreBelow s caller within fs → Typed s most (returned wanted stack back entries fs c)
    Typed-returned (choice.Known result.Nothing) wanted stack after e taken stands lead enter below =
        subst (λ o. Typed s most (returned o stack back entries fs c)) (sym e) (goes_back back.stack (subst (λ o. Stands s caller within back.at (sorts_of (with_result o back.stack))) e stands) lead enter below)
    Typed-returned (choice.Known result.Integer) wanted stack after e taken stands lead enter below = returned_value I (value.Int (pos 0)) wanted stack e refl (given_of I stack after taken) stands lead enter below
    Typed-returned (choice.Known result.Bits) wanted stack after e taken stands lead enter below = returned_value B (value.Bits 1 0) wanted stack e refl (given_of B stack after taken) stands lead enter below
    Typed-returned (choice.Known result.Text) wanted stack after e taken stands lead enter below = returned_value T (value.Text []) wanted stack e refl (given_of T stack after taken) stands lead enter below
    Typed-returned (choice.Other byte) wanted stack after e taken stands lead enter below = absurd (cc)
